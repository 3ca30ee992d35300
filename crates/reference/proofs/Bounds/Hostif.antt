-- hostif.rs: actions and microseconds at the most
use Prim.Native.Nat.{ℕ, ◌+◌, ◌-◌, ◌≤◌}
use mathlib.Core.Bool.{Bool, not, ◌||◌}
use mathlib.Core.List.{List}
use native.Mathlib.Omega.{arith}
use lib.Dec.{eqb, ltb}
use lib.ListN.{length, get_or, set}
use Rattle.hardware.specs.Bound.{Within, at_end}
use Rattle.hardware.specs.Talk.{Talk, Call, Res, is_clear, fail}
use Rattle.hardware.specs.Block as blk
use Rattle.hardware.specs.declared.Error.TheVariants.{Firmware}
use Rattle.hardware.specs.declared.Port.{Port}
use Rattle.hardware.proofs.Bounds.{within_more, within_then, within_pick}
use Rattle.words.specs.Hostif.{flex_mng, fits, reply_words}
use Rattle.answers.specs.declared.Words.{Words}
use Rattle.reference.specs.Sync.{with_block}
use Rattle.reference.specs.Hostif.{posted, hicr_turn, started, write_turn, write_words, post, reply_length, reply_status, rest_turn, rest, received, exchange, command, token_status, token, activity_block, activity_turn, phy_activity}
use Rattle.reference.proofs.Within.{of_read, of_raw, of_write, of_delay, of_bind, of_try, of_carry, of_block, of_held, of_keep, of_lent}
use Rattle.reference.proofs.Bounds.Sync.{of_acquire_bits, of_release_bits}

of_posted : (last : ℕ) → Within (posted last) 0 0
unfolding posted
of_posted last = within_pick (not (is_clear last 2) || is_clear last 4) at_end at_end

hicr_turn_lem : (f : ℕ → Call ℕ) (n m : ℕ) → ((last : ℕ) → Within (f last) n m) → (last : ℕ) → Within (hicr_turn f last) (2 + n) (10 + m)
hicr_turn_lem f n m w _ =
    within_more (omega arith) (omega arith)
    (of_bind (of_read 0x15f00)
    (λ v. within_pick (is_clear v 2) (within_more (omega arith) (omega arith) (of_posted v)) (of_bind (of_delay 10) (λ _. w v))))

of_started : (hicr : ℕ) → Within (started hicr) 100001 500000
of_started hicr = of_bind (of_write 0x15f00 _) (λ _. of_carry hicr_turn posted 2 10 50000 0 0 hicr_turn_lem of_posted _)

write_turn_lem : (block : List ℕ) (f : ℕ → Call ℕ) (n m : ℕ) → ((i : ℕ) → Within (f i) n m) → (i : ℕ) → Within (write_turn block f i) (1 + n) (0 + m)
write_turn_lem block f n m w i = of_bind (of_write (flex_mng i) (get_or block i 0)) (λ _. w (i + 1))

of_words : (block : List ℕ) (hicr : ℕ) → Within (write_words block hicr 0) (length block + 100001) 500000
of_words block hicr =
    within_more (omega arith) (omega arith)
    (of_carry (write_turn block) (λ _. started hicr) 1 0 (length block - 0) 100001 500000 (write_turn_lem block) (λ _. of_started hicr) 0)

pub of_post : (block : List ℕ) → Within (post block) (length block + 100004) 500000
unfolding post
of_post block =
    within_more (omega arith) (omega arith)
    (of_bind (of_read 0x15f0c)
    (λ fwsts. of_bind (of_write 0x15f0c _)
    (λ _. of_bind (of_read 0x15f00)
    (λ hicr. within_pick (is_clear hicr 1) at_end (of_words block hicr)))))

rest_turn_lem : (status : ℕ) (f : ℕ → List ℕ → Talk (Res ℕ × List ℕ)) (n m : ℕ) → ((i : ℕ) (b : List ℕ) → Within (f i b) n m)
    → (i : ℕ) (b : List ℕ) → Within (rest_turn status f i b) (1 + n) (0 + m)
rest_turn_lem status f n m w i b =
    within_pick (ltb i (length b)) (of_lent (of_keep b (of_raw (flex_mng i))) (λ v c. w (i + 1) (set c i v))) at_end

of_rest : (x status i : ℕ) (b : List ℕ) → x ≤ 64 → Within (rest x status i b) 64 0
of_rest x status i b h =
    within_more (omega arith) (omega arith)
    (of_block (rest_turn status) (λ _. blk.return status) 1 0 x 0 0 (rest_turn_lem status) (λ _ _. at_end) i b)

reply_words_lem : (head : ℕ) → reply_words (reply_length head) ≤ 64
unfolding reply_words
reply_words_lem head = omega arith

of_received : (last head : ℕ) (b : List ℕ) → Within (received last head b) 64 0
unfolding received
of_received last head b =
    within_pick (fits (reply_length head) (length b))
    (of_rest (reply_words (reply_length head)) (reply_status head) 1 (set b 0 head) (reply_words_lem head)) at_end

of_exchange : (b : List ℕ) → Within (exchange b) (length b + 100069) 500000
of_exchange b =
    within_more (omega arith) (omega arith)
    (of_lent (of_keep b (of_post b)) (λ last c. of_lent (of_keep c (of_raw 0x15800)) (of_received last)))

pub of_command : (port : Port) (b : List ℕ) → Within (command port b) (length b + 8121083) 205702000
unfolding command
of_command port b =
    within_more (omega arith) (omega arith)
    (of_held (with_block b) (of_acquire_bits port 0x400) (of_release_bits port 0x400) (of_exchange b))

token_status_lem : (take : Bool) (status : ℕ) → Within (token_status take status) 0 0
unfolding token_status
token_status_lem take status =
    within_pick (eqb status 1) at_end (within_pick (eqb status 0x80) (within_pick take at_end at_end) at_end)

pub of_token : (port : Port) (take : Bool) → Within (token port take) 8121085 205702000
unfolding token
of_token port take = within_then (of_command port _) (λ p. of_try p.0 (token_status_lem take))

six : (port : Port) (activity d0 d1 d2 d3 : ℕ) → Within (command port (activity_block port activity d0 d1 d2 d3)) 8121089 205702000
unfolding activity_block
six port activity d0 d1 d2 d3 = of_command port _

activity_turn_lem : (port : Port) (block : List ℕ) → Within (command port block) 8121089 205702000
    → (f : ℕ → Call Words) (n m : ℕ) → ((status : ℕ) → Within (f status) n m) → (status : ℕ) → Within (activity_turn port block f status) (8121090 + n) (205702020 + m)
activity_turn_lem port block c f n m w _ =
    within_more (omega arith) (omega arith)
    (within_then c
    (λ p. of_try p.0
    (λ status. within_pick (eqb status 1) at_end (of_bind (of_delay 20) (λ _. w status)))))

pub of_activity : (port : Port) (activity d0 d1 d2 d3 : ℕ) → Within (phy_activity port activity d0 d1 d2 d3) 406054500 10285101000
unfolding phy_activity
of_activity port activity d0 d1 d2 d3 =
    let block : List ℕ = activity_block port activity d0 d1 d2 d3 in
    of_carry (activity_turn port block) (λ status. fail (Firmware 0x05 status)) 8121090 205702020 50 0 0
    (activity_turn_lem port block (six port activity d0 d1 d2 d3)) (λ status. at_end) 0
