-- sync.rs has no sideband wait
use Rattle.std.specs.Prelude.{Ok, Err}
use Prim.Native.Nat.{ℕ}
use native.Mathlib.Omega.{arith}
use mathlib.Core.Path.{◌≡◌, refl}
use mathlib.Core.Bool.{Bool, true, false}
use lib.Bits.{bit_and}
use lib.Dec.{eqb}
use Rattle.hardware.specs.Talk.{Call, Res, is_clear, fail}
use Rattle.hardware.specs.Regs.{regs}
use Rattle.hardware.specs.declared.Error.TheVariants.{Semaphore}
use Rattle.hardware.specs.declared.Family.{Family}
use Rattle.hardware.specs.declared.Family.TheVariants.{X552, X553}
use Rattle.hardware.specs.declared.Port.{Port}
use Rattle.words.specs.declared.semaphore.Bits.{Bits}
use Rattle.words.specs.Semaphore.{bits}
use Rattle.reference.specs.Sync.{smbi_turn, smbi, clear, regsmp_turn, regsmp_failed, lock, unlock, mux, set_mux, busy, acquire_bits_got, acquire_bits_turn, acquire_bits, settle, release_bits_locked, release_bits}
use Rattle.hardware.proofs.Laws.{by_turns}
use Rattle.reference.proofs.Alike.{From, Still, ends, tries, bind, attempts, picks, reads, writes, flushes, waits, from_anywhere}

no_ctrl : (f : Family) → (eqb (regs f).swsm 0x11144 ≡ false) × (eqb (regs f).sync 0x11144 ≡ false)
no_ctrl X552 = (refl, refl)
no_ctrl X553 = (refl, refl)

module _ {p q : ℕ} (f : Family) where
  -- what follows an access under a lock begins behind any action
  of_smbi : (b : Bool) → From p q b (smbi (regs f).swsm) (smbi (regs f).swsm)
  of_smbi =
      from_anywhere {n = 2000} (λ e. omega arith) (smbi_turn (regs f).swsm) (fail (Semaphore 1))
      (λ t w b. bind (reads (no_ctrl f).0) (λ v. picks (is_clear v 1) ends (bind waits (λ _. w)))) ends

  of_clear : (reg c : ℕ) → eqb reg 0x11144 ≡ false → Still p q (clear reg c)
  of_clear reg c e = bind (reads e) (λ v. writes)

  of_lock : (b : Bool) → From p q b (lock (regs f)) (lock (regs f))
  of_lock b =
      bind (of_smbi b)
      (λ _. by_turns (λ t. Still p q t) (regsmp_turn (regs f).sync) (regsmp_failed (regs f).swsm)
      (λ t w. bind (reads (no_ctrl f).1) (λ v. picks (is_clear v 0x80000000) ends (bind waits (λ _. w))))
      (bind (of_clear (regs f).swsm 1 (no_ctrl f).0) (λ _. bind flushes (λ _. ends))) 2000)

  of_unlock : Still p q (unlock (regs f))
  of_unlock =
      bind (of_clear (regs f).sync 0x80000000 (no_ctrl f).1) (λ _. bind (of_clear (regs f).swsm 1 (no_ctrl f).0) (λ _. flushes))

  of_mux : (b on : Bool) → From p q b (set_mux on) (set_mux on)
  of_mux b on = bind (reads refl) (λ v. bind writes (λ _. flushes))

  of_got : (want : Bits) (switch : Bool) (again : ℕ → Call (Unit {0})) → ((held : ℕ) → Still p q (again held)) → (r : Res ℕ)
      → Still p q (acquire_bits_got (regs f) want switch again r)
  of_got want switch again w (Err e) = bind of_unlock (λ _. ends)
  of_got want switch again w (Ok v) =
      picks (is_clear v (busy want))
      (attempts writes (λ taken. bind of_unlock (λ _. tries taken (λ _. picks switch (of_mux false true) (ends {a = Ok tt})))))
      (bind of_unlock (λ _. bind (waits {n = 5000}) (λ _. w (bit_and v (busy want)))))

module _ {p q : ℕ} (port : Port) (mask : ℕ) where
  pub of_acquire_bits : Still p q (acquire_bits port mask)
  unfolding acquire_bits
  of_acquire_bits =
      let f = port.family in
      by_turns (λ g. (held : ℕ) → Still p q (g held)) (acquire_bits_turn (regs f) (bits mask) (mux port mask)) (λ held. fail (Semaphore held))
      (λ again w held. bind (of_lock f false) (λ _. attempts (reads (no_ctrl f).1) (of_got f (bits mask) (mux port mask) again w)))
      (λ held. ends) 1000 0

  pub of_release_bits : (b : Bool) → From p q b (release_bits port mask) (release_bits port mask)
  unfolding release_bits
  of_release_bits b =
      let f = port.family in
      let locked : (c : Bool) → From p q c (release_bits_locked (regs f) (bits mask).sw (settle mask)) (release_bits_locked (regs f) (bits mask).sw (settle mask)) =
      λ c. bind (of_lock f c)
      (λ _. attempts (of_clear f (regs f).sync (bits mask).sw (no_ctrl f).1) (λ cleared. bind (of_unlock f) (λ _. tries cleared (λ _. waits)))) in
      picks (mux port mask) (bind (of_mux f b false) (λ _. locked false)) (locked b)
