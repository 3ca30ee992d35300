-- hostif.rs
use Rattle.std.specs.Prelude.{ℕ, ◌+◌, ◌-◌, ◌/◌, ◌%◌, ◌^◌, Bool, true, false, not, ◌||◌, List, [], ◌∷◌, eqb, ltb, length, get_or, set}
use Rattle.std.specs.Int.Bits.{bit_or}
use Rattle.hardware.specs.Talk.{Talk, Call, Res, end, and_then, ◌>>=◌, ◌>>◌, times, pick, is_clear, read, read_raw, write, delay, return, fail}
use Rattle.hardware.specs.Block.{Blk, keep}
use Rattle.hardware.specs.Block as blk
use Rattle.hardware.specs.declared.Error.TheVariants.{HostInterface, Firmware}
use Rattle.hardware.specs.declared.Port.{Port}
use Rattle.words.specs.Hostif.{flex_mng, swap_bytes, fits, reply_words}
use Rattle.words.specs.Shift.{shl}
use Rattle.answers.specs.declared.Words.{Words}
use Rattle.reference.specs.Sync.{locked_bits, with_block}

-- hostif.rs:33
abbrev pub header : ℕ → ℕ → ℕ
header command len = bit_or (bit_or 0xff000000 (shl len 8)) command

-- HICR after the wait: C is to be clear and SV set
unfoldable pub posted : ℕ → Call ℕ
posted last = pick (not (is_clear last 2) || is_clear last 4) (fail (HostInterface last)) (return last)

abbrev pub hicr_turn : (ℕ → Call ℕ) → ℕ → Call ℕ
hicr_turn again _ =
    do
      last ← read 0x15f00
      pick (is_clear last 2) (posted last) (delay 10 >> again last)

abbrev pub hicr_times : ℕ → ℕ → Call ℕ
hicr_times n = times n hicr_turn posted

abbrev pub started : ℕ → Call ℕ
started hicr =
    do
      write 0x15f00 (bit_or hicr 2)
      hicr_times 50000 (bit_or hicr 2)

-- one word of the block
abbrev pub write_turn : List ℕ → (ℕ → Call ℕ) → ℕ → Call ℕ
write_turn block again i = write (flex_mng i) (get_or block i 0) >> again (i + 1)

-- the block's words from place i on
abbrev pub write_words : List ℕ → ℕ → ℕ → Call ℕ
write_words block hicr i = times (length block - i) (write_turn block) (λ _. started hicr) i

-- What `command` and x552.rs's `nvm_word` do in the same way: the block is written, C set and waited for. It gives the last
-- HICR
unfoldable pub post : List ℕ → Call ℕ
post block =
    do
      fwsts ← read 0x15f0c
      write 0x15f0c (bit_or fwsts 0x200)
      hicr ← read 0x15f00
      pick (is_clear hicr 1) (fail (HostInterface hicr)) (write_words block hicr 0)

abbrev pub reply_length : ℕ → ℕ
reply_length head = head / 2 ^ 8 % 256

abbrev pub reply_status : ℕ → ℕ
reply_status head = head / 2 ^ 16 % 256

-- one word of the reply, while the block has places
abbrev pub rest_turn : ℕ → (ℕ → List ℕ → Talk (Res ℕ × List ℕ)) → ℕ → List ℕ → Talk (Res ℕ × List ℕ)
rest_turn status again i b =
    pick (ltb i (length b))
    (blk.◌>>=◌ (keep (read_raw (flex_mng i))) (λ v b. again (i + 1) (set b i v)) b)
    (blk.return status b)

abbrev pub rest : ℕ → ℕ → ℕ → Blk ℕ
rest n status = times n (rest_turn status) (λ _. blk.return status)

-- the reply's words take the places of the block's, one by one
unfoldable pub received : ℕ → ℕ → Blk ℕ
received last head b =
    pick (fits (reply_length head) (length b))
    (rest (reply_words (reply_length head)) (reply_status head) 1 (set b 0 head))
    (blk.fail (HostInterface last) b)

-- `command`'s closure
abbrev pub exchange : Blk ℕ
exchange b = blk.◌>>=◌ (keep (post b)) (λ last. blk.◌>>=◌ (keep (read_raw 0x15800)) (received last)) b

-- hostif.rs:38
unfoldable pub command : Port → Blk ℕ
command port b = locked_bits (with_block b) port 0x400 (exchange b)

unfoldable pub token_word : Port → Bool → ℕ
token_word port take = pick take port.lan (bit_or port.lan 0x100)

-- `take`: busy is an answer, not an error
unfoldable pub token_status : Bool → ℕ → Call Bool
token_status take status =
    pick (eqb status 1) (return true)
    (pick (eqb status 0x80)
    (pick take (return false) (fail (Firmware 0x0a status)))
    (fail (Firmware 0x0a status)))

abbrev pub token_answer : Bool → Res ℕ × List ℕ → Call Bool
token_answer take p = end p.0 >>= token_status take

abbrev pub token_block : Port → Bool → List ℕ
token_block port take = header 0x0a 2 ∷ token_word port take ∷ []

-- hostif.rs:67
unfoldable pub token : Port → Bool → Call Bool
token port take = and_then (command port (token_block port take)) (token_answer take)

unfoldable pub activity_block : Port → ℕ → ℕ → ℕ → ℕ → ℕ → List ℕ
activity_block port activity d0 d1 d2 d3 =
    header 0x05 20
    ∷ bit_or port.lan (shl activity 16)
    ∷ swap_bytes d0
    ∷ swap_bytes d1
    ∷ swap_bytes d2
    ∷ swap_bytes d3
    ∷ []

-- words 1 to 4 of the block as it is then
unfoldable pub activity_words : List ℕ → Words
activity_words b =
    record {
      w0 = swap_bytes (get_or b 1 0);
      w1 = swap_bytes (get_or b 2 0);
      w2 = swap_bytes (get_or b 3 0);
      w3 = swap_bytes (get_or b 4 0);
    }

abbrev pub activity_answer : (ℕ → Call Words) → Res ℕ × List ℕ → Call Words
activity_answer again p = end p.0 >>= λ status. pick (eqb status 1) (return (activity_words p.1)) (delay 20 >> again status)

abbrev pub activity_turn : Port → List ℕ → (ℕ → Call Words) → ℕ → Call Words
activity_turn port block again _ = and_then (command port block) (activity_answer again)

abbrev pub activity_times : Port → List ℕ → ℕ → ℕ → Call Words
activity_times port block n = times n (activity_turn port block) (λ status. fail (Firmware 0x05 status))

-- hostif.rs:78
unfoldable pub phy_activity : Port → ℕ → ℕ → ℕ → ℕ → ℕ → Call Words
phy_activity port activity d0 d1 d2 d3 = activity_times port (activity_block port activity d0 d1 d2 d3) 50 0
