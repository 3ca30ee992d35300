-- sync.rs: actions and microseconds at the most
use Rattle.std.specs.Prelude.{Ok, Err}
use Prim.Native.Nat.{ℕ, ◌+◌, ◌≤◌}
use mathlib.Core.Bool.{Bool, true, false}
use native.Mathlib.Omega.{arith}
use lib.Bits.{bit_and}
use Rattle.hardware.specs.Bound.{Within, at_end}
use Rattle.hardware.specs.Talk.{Call, Res, pick, is_clear, fail}
use Rattle.hardware.specs.declared.Error.TheVariants.{Semaphore}
use Rattle.hardware.specs.declared.Port.{Port}
use Rattle.hardware.proofs.Bounds.{within_more, within_pick, within_times}
use Rattle.words.specs.declared.semaphore.Bits.{Bits}
use Rattle.words.specs.Semaphore.{bits}
use Rattle.hardware.specs.Regs.{regs}
use Rattle.hardware.specs.declared.Regs.{Regs}
use Rattle.reference.specs.Sync.{smbi_turn, smbi, clear, regsmp_turn, regsmp_failed, lock, unlock, mux, set_mux, busy, acquire_bits_taken, acquire_bits_got, acquire_bits_turn, acquire_bits, settle, release_bits_locked, release_bits}
use Rattle.reference.proofs.Within.{of_read, of_write, of_flush, of_delay, of_end, of_bind, of_try, of_attempt, of_carry}

smbi_turn_lem : (swsm : ℕ) (t : Call (Unit {0})) (n m : ℕ) → Within t n m → Within (smbi_turn swsm t) (2 + n) (50 + m)
smbi_turn_lem swsm t n m w =
    within_more (omega arith) (omega arith)
    (of_bind (of_read swsm) (λ v. within_pick (is_clear v 1) at_end (of_bind (of_delay 50) (λ _. w))))

of_smbi : (swsm : ℕ) → Within (smbi swsm) 4000 100000
of_smbi swsm = within_times (smbi_turn swsm) (fail (Semaphore 1)) 2 50 2000 0 0 (smbi_turn_lem swsm) at_end

of_clear : (reg bits : ℕ) → Within (clear reg bits) 2 0
of_clear reg bits = of_bind (of_read reg) (λ v. of_write reg _)

regsmp_turn_lem : (sync : ℕ) (t : Call (Unit {0})) (n m : ℕ) → Within t n m → Within (regsmp_turn sync t) (2 + n) (50 + m)
regsmp_turn_lem sync t n m w =
    within_more (omega arith) (omega arith)
    (of_bind (of_read sync) (λ v. within_pick (is_clear v 0x80000000) at_end (of_bind (of_delay 50) (λ _. w))))

regsmp_failed_lem : (swsm : ℕ) → Within (regsmp_failed swsm) 3 0
regsmp_failed_lem swsm = of_bind (of_clear swsm 1) (λ _. of_bind of_flush (λ _. of_end))

of_lock : (pair : Regs) → Within (lock pair) 8003 200000
of_lock pair =
    of_bind (of_smbi pair.swsm)
    (λ _. within_times (regsmp_turn pair.sync) (regsmp_failed pair.swsm) 2 50 2000 3 0 (regsmp_turn_lem pair.sync) (regsmp_failed_lem pair.swsm))

of_unlock : (pair : Regs) → Within (unlock pair) 5 0
of_unlock pair = of_bind (of_clear pair.sync 0x80000000) (λ _. of_bind (of_clear pair.swsm 1) (λ _. of_flush))

of_mux : (on : Bool) → Within (set_mux on) 3 0
of_mux on = of_bind (of_read 0x20) (λ v. of_bind (of_write 0x20 _) (λ _. of_flush))

acquire_taken : (switch : Bool) → Within (acquire_bits_taken switch) 3 0
acquire_taken switch = within_pick switch (of_mux true) at_end

acquire_got_lem : (pair : Regs) (want : Bits) (switch : Bool) (f : ℕ → Call (Unit {0})) (n m : ℕ)
    → ((held : ℕ) → Within (f held) n m) → (got : Res ℕ) → Within (acquire_bits_got pair want switch f got) (9 + n) (5000 + m)
acquire_got_lem pair want switch f n m w (Err e) = within_more (omega arith) (omega arith) (of_bind (of_unlock pair) (λ _. of_end))
acquire_got_lem pair want switch f n m w (Ok v) =
    within_pick (is_clear v (busy want))
    (within_more (omega arith) (omega arith)
    (of_attempt (of_write pair.sync _)
    (λ taken. of_bind (of_unlock pair)
    (λ _. of_try taken (λ _. acquire_taken switch)))))
    (within_more (omega arith) (omega arith) (of_bind (of_unlock pair) (λ _. of_bind (of_delay 5000) (λ _. w (bit_and v (busy want))))))

acquire_turn_lem : (pair : Regs) (want : Bits) (switch : Bool) (f : ℕ → Call (Unit {0})) (n m : ℕ)
    → ((held : ℕ) → Within (f held) n m) → (held : ℕ) → Within (acquire_bits_turn pair want switch f held) (8013 + n) (205000 + m)
acquire_turn_lem pair want switch f n m w held =
    within_more (omega arith) (omega arith)
    (of_bind (of_lock pair) (λ _. of_attempt (of_read pair.sync) (acquire_got_lem pair want switch f n m w)))

pub of_acquire_bits : (port : Port) (mask : ℕ) → Within (acquire_bits port mask) 8013000 205000000
unfolding acquire_bits
of_acquire_bits port mask =
    of_carry (acquire_bits_turn (regs port.family) (bits mask) (mux port mask)) (λ held. fail (Semaphore held)) 8013 205000 1000 0 0
    (acquire_turn_lem (regs port.family) (bits mask) (mux port mask)) (λ held. at_end) 0

release_locked : (pair : Regs) (sw micros : ℕ) → micros ≤ 2000 → Within (release_bits_locked pair sw micros) 8011 202000
release_locked pair sw micros h =
    within_more (omega arith) (omega arith)
    (of_bind (of_lock pair)
    (λ _. of_attempt (of_clear pair.sync sw)
    (λ cleared. of_bind (of_unlock pair)
    (λ _. of_try cleared (λ _. of_delay micros)))))

settled : (mask : ℕ) → settle mask ≤ 2000
unfolding settle
settled mask = go (is_clear mask 0x406)
  where
    go : (b : Bool) → pick b 2000 10 ≤ 2000
    go true = omega arith
    go false = omega arith

pub of_release_bits : (port : Port) (mask : ℕ) → Within (release_bits port mask) 8014 202000
unfolding release_bits
of_release_bits port mask =
    let rest : Within (release_bits_locked (regs port.family) (bits mask).sw (settle mask)) 8011 202000 =
    release_locked (regs port.family) (bits mask).sw (settle mask) (settled mask) in
    within_pick (mux port mask) (of_bind (of_mux false) (λ _. rest)) (within_more (omega arith) (omega arith) rest)
