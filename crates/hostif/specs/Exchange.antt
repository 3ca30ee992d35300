-- What a suspended machine of exchange.rt still says, and how it leaves the block
use Rattle.hardware.specs.Told.{told_by}
use Rattle.hardware.specs.declared.Action.{Action}
use Rattle.hardware.specs.declared.Step.{Step}
use Rattle.hardware.specs.Talk.{Talk, Call, Res, end, pick, raw, read_raw, Reply}
use Rattle.std.specs.Prelude.{ℕ, ◌+◌, List, ltb, length, set}
use Rattle.hardware.specs.Block.{Blk, keep}
use Rattle.hardware.specs.Block as blk
use Rattle.reference.specs.Hostif.{received, rest}
use Rattle.hostif.specs.Post.{resume_post}
use Rattle.hostif.specs.declared.exchange.Exchange.{Exchange}
use Rattle.hostif.specs.declared.exchange.Exchange.TheVariants as exchange

abbrev pub exchange_after_post : Call ℕ → Blk ℕ
exchange_after_post t b = blk.◌>>=◌ (keep t) (λ last. blk.◌>>=◌ (keep (read_raw 0x15800)) (received last)) b

abbrev pub exchange_head : ℕ → Res ℕ → Blk ℕ
exchange_head last head b = blk.◌>>=◌ (keep (end head)) (received last) b

abbrev pub exchange_rest : ℕ → ℕ → ℕ → Res ℕ → Blk ℕ
exchange_rest status i n word b =
    pick (ltb i (length b))
    (blk.◌>>=◌ (keep (end word)) (λ v b. rest n status (i + 1) (set b i v)) b)
    (blk.return status b)

abbrev pub resume_exchange : Exchange → List ℕ → Reply → Talk (Res ℕ × List ℕ)
resume_exchange (exchange.Post s) b r = exchange_after_post (resume_post s b r) b
resume_exchange (exchange.Head last) b r = exchange_head last (raw r) b
resume_exchange (exchange.Rest status i n) b r = exchange_rest status i n (raw r) b

abbrev pub told_exchange : List ℕ → Step Action Exchange (Res ℕ) → Talk (Res ℕ × List ℕ)
told_exchange b = told_by (λ status. (status, b)) (λ s r. resume_exchange s b r)
