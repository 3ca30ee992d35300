-- hostif.rs keeps the rules
use Rattle.std.specs.Prelude.{Err, Ok}
use Rattle.hardware.specs.Talk.{Talk, Call, Res, and_then, ◌>>◌, pick, is_clear, return, fail, delay, times}
use Prim.Native.Nat.{ℕ, zero, suc, ◌+◌, ◌*◌, ◌-◌, ◌^◌, ◌≤◌, ◌<◌}
use native.Mathlib.Omega.{arith}
use native.Mathlib.Nat.{mod-eq_of_lt}
use mathlib.Core.Path.{◌≡◌}
use mathlib.Core.Bool.{Bool, not, ◌||◌}
use mathlib.Core.List.{List}
use lib.Dec.{eqb, ltb}
use lib.ListN.{length, set}
use borrow.Author.Tests.{ne_eqb}
use Rattle.hardware.specs.Block as blk
use Rattle.hardware.specs.declared.Error.TheVariants.{Firmware}
use Rattle.hardware.specs.declared.Family.{Family}
use Rattle.hardware.specs.declared.Family.TheVariants.{X552, X553}
use Rattle.hardware.specs.declared.Port.{Port}
use Rattle.words.specs.Hostif.{flex_mng, fits, reply_words}
use Rattle.reference.specs.Hostif.{
  posted,
  hicr_turn,
  started,
  write_turn,
  post,
  reply_length,
  reply_status,
  rest_turn,
  received,
  exchange,
  command,
  token_status,
  token_block,
  token,
  activity_block,
  activity_turn,
  activity_words,
  phy_activity,
}
use Rattle.reference.specs.Sync.{with_block}
use Rattle.mixing.specs.Only.{only_end}
use Rattle.mixing.specs.Model.{kind}
use Rattle.mixing.specs.Events.{is_ok}
use Rattle.hardware.proofs.Laws.{by_turns}
use Rattle.mixing.proofs.Only.{IsFar, far, Quiet, only_then, only_stop, only_bind, only_pick, only_read, only_raw, only_write, only_wait, quiet_only}
use Rattle.mixing.proofs.Plain.{Plain, plain_held, plain_acquire, plain_release}
use Rattle.mixing.specs.System.{NotIosf}
use Rattle.mixing.proofs.Sound.{Sound, well_block, quietly, ends, picks, waits, bind_lent, under, honest_block, bits_bracket}

-- the host block's registers
far_between : (r : ℕ) → 0x15800 ≤ r → r < 0x15f00 → (f : Family) → IsFar (kind f r)
far_between r a b X552 =
    rw (ne_eqb r 0x10140 (omega arith), ne_eqb r 0x10160 (omega arith), ne_eqb r 0x11144 (omega arith), ne_eqb r 0x11148 (omega arith)) tt
far_between r a b X553 =
    rw (ne_eqb r 0x15f70 (omega arith), ne_eqb r 0x15f78 (omega arith), ne_eqb r 0x11144 (omega arith), ne_eqb r 0x11148 (omega arith)) tt

far_flex : (i : ℕ) → i < 448 → (f : Family) → IsFar (kind f (flex_mng i))
far_flex i h f =
    let e : flex_mng i ≡ 0x15800 + 4 * i = mod-eq_of_lt (let l : 0x15800 + 4 * i < 2 ^ 32 = omega arith in l) in
    far_between (flex_mng i) (omega (arith, e)) (omega (arith, e)) f

module _ (f : Family) where
  q_posted : (last : ℕ) → Quiet f (posted last)
  unfolding posted
  q_posted last = only_pick (not (is_clear last 2) || is_clear last 4) only_end only_end

  q_started : (hicr : ℕ) → Quiet f (started hicr)
  q_started hicr =
      only_bind (only_write (far 0x15f00 tt tt f))
      (λ _. by_turns (λ g. (last : ℕ) → Quiet f (g last)) hicr_turn posted
      (λ again g last. only_bind (only_read (far 0x15f00 tt tt f)) (λ v. only_pick (is_clear v 2) (q_posted v) (only_bind (only_wait tt) (λ _. g v))))
      q_posted 50000 _)

  q_words : (block : List ℕ) (hicr n i : ℕ) → n + i ≤ 448 → Quiet f (times n (write_turn block) (λ _. started hicr) i)
  unfolding times
  q_words block hicr zero i h = q_started hicr
  q_words block hicr (suc n) i h = only_bind (only_write (far_flex i (omega arith) f)) (λ _. q_words block hicr n (i + 1) (omega arith))

  pub q_post : (block : List ℕ) → length block ≤ 448 → Quiet f (post block)
  unfolding post
  q_post block h =
      only_bind (only_read (far 0x15f0c tt tt f))
      (λ fwsts. only_bind (only_write (far 0x15f0c tt tt f))
      (λ _. only_bind (only_read (far 0x15f00 tt tt f))
      (λ hicr. only_pick (is_clear hicr 1) only_end (q_words block hicr (length block - 0) 0 (omega arith)))))

  -- the Rust's `?` of a function that is lent the block
  q_lent : {A B : Type 0} {t : Talk (Res A × List ℕ)} {k : A → List ℕ → Talk (Res B × List ℕ)} → Quiet f t → ((a : A) (b : List ℕ) → Quiet f (k a b))
      → Quiet f (and_then t (λ p. blk.or_stop k p.0 p.1))
  q_lent {k = k} q h = only_then q (λ p. go p.0 p.1)
    where
      go : (r : Res _) (b : List ℕ) → Quiet f (blk.or_stop k r b)
      go (Ok a) b = h a b
      go (Err e) b = only_end

  q_keep : {A : Type 0} {t : Call A} (b : List ℕ) → Quiet f t → Quiet f (blk.keep t b)
  q_keep b q = only_then q (λ r. only_end)

  q_rest : (status n i : ℕ) (b : List ℕ) → n + i ≤ 65 → Quiet f (times n (rest_turn status) (λ _. blk.return status) i b)
  unfolding times
  q_rest status zero i b h = only_end
  q_rest status (suc n) i b h =
      only_pick (ltb i (length b)) (q_lent (q_keep b (only_raw (far_flex i (omega arith) f))) (λ v c. q_rest status n (i + 1) (set c i v) (omega arith))) only_end

  reply_words_lem : (head : ℕ) → reply_words (reply_length head) + 1 ≤ 65
  unfolding reply_words
  reply_words_lem head = omega arith

  q_received : (last head : ℕ) (b : List ℕ) → Quiet f (received last head b)
  unfolding received
  q_received last head b =
      only_pick (fits (reply_length head) (length b))
      (q_rest (reply_status head) (reply_words (reply_length head)) 1 (set b 0 head) (reply_words_lem head)) only_end

  q_exchange : (b : List ℕ) → length b ≤ 448 → Quiet f (exchange b)
  q_exchange b h = q_lent (q_keep b (q_post b h)) (λ last c. q_lent (q_keep c (only_raw (far 0x15800 tt tt f))) (q_received last))

module _ (port : Port) where
  pub s_command : (b : List ℕ) → length b ≤ 448 → Sound port.family well_block (command port b)
  unfolding command
  s_command b h = under (bits_bracket port 0x400) (honest_block b) (quietly (q_exchange port.family b h))

  -- it touches no KR access register
  plain_command : (b : List ℕ) → length b ≤ 448 → Plain port.family (command port b)
  unfolding command
  plain_command b h =
      plain_held port.family (with_block b) (plain_acquire port 0x400) (plain_release port 0x400) (quiet_only NotIosf tt port.family (q_exchange port.family b h))

  s_status : (take : Bool) (status : ℕ) → Sound port.family is_ok (token_status take status)
  unfolding token_status
  s_status take status = picks (eqb status 1) ends (picks (eqb status 0x80) (picks take ends ends) ends)

  pub s_token : (take : Bool) → Sound port.family is_ok (token port take)
  unfolding token
  s_token take = bind_lent {k = λ b. token_status take} (s_command (token_block port take) (omega arith)) (λ b. s_status take)

  pub plain_token : (take : Bool) → Plain port.family (token port take)
  unfolding token token_status
  plain_token take =
      only_then (plain_command (token_block port take) (omega arith))
      (λ p. only_stop (λ status. only_pick (eqb status 1) only_end (only_pick (eqb status 0x80) (only_pick take only_end only_end) only_end)) p.0)

  six : (activity d0 d1 d2 d3 : ℕ) → length (activity_block port activity d0 d1 d2 d3) ≤ 448
  unfolding activity_block
  six activity d0 d1 d2 d3 = omega arith

  pub s_activity : (activity d0 d1 d2 d3 : ℕ) → Sound port.family is_ok (phy_activity port activity d0 d1 d2 d3)
  unfolding phy_activity
  s_activity activity d0 d1 d2 d3 =
      by_turns (λ g. (status : ℕ) → Sound port.family is_ok (g status)) (activity_turn port (activity_block port activity d0 d1 d2 d3))
      (λ status. fail (Firmware 0x05 status))
      (λ again g _. bind_lent {k = λ b status. pick (eqb status 1) (return (activity_words b)) (delay 20 >> again status)}
      (s_command (activity_block port activity d0 d1 d2 d3) (six activity d0 d1 d2 d3)) (λ b status. picks (eqb status 1) ends (waits (g status))))
      (λ status. ends) 50 0
