-- sync.rs with TOKEN: actions and microseconds at the most
use Rattle.std.specs.Prelude.{Ok, Err}
use Prim.Native.Nat.{ℕ, ◌+◌, ◌^◌, ◌<◌}
use mathlib.Core.Path.{◌≡◌, sym, subst}
use mathlib.Core.Bool.{Bool, true, false}
use native.Mathlib.Omega.{arith}
use lib.Dec.{eqb}
use Rattle.hardware.specs.Bound.{Within, at_end}
use Rattle.hardware.specs.Talk.{Talk, Call, Res, is_clear, fail}
use Rattle.hardware.specs.declared.Error.TheVariants.{Firmware}
use Rattle.hardware.specs.declared.Port.{Port}
use Rattle.hardware.proofs.Bounds.{within_more, within_pick, within_times}
use Rattle.reference.specs.Sync.{Ending}
use Rattle.reference.specs.Acquire.{hw_of, acquire_lost, acquire_given, acquire_got, acquire_ask, acquire_turn, acquire, release_rest, forget, release, locked}
use Rattle.reference.proofs.Within.{of_delay, of_end, of_bind, of_try, of_attempt, of_held}
use Rattle.reference.proofs.Locked.{locked_bits_lem}
use Rattle.reference.proofs.Bounds.Sync.{of_acquire_bits, of_release_bits}
use Rattle.reference.proofs.Bounds.Hostif.{of_token}

module _ (port : Port) (hw : ℕ) (t : Call (Unit {0})) (n m : ℕ) (w : Within t n m) where
  lost : (granted : Res Bool) → Within (acquire_lost granted t) (1 + n) (5000 + m)
  unfolding acquire_lost
  lost granted = of_try granted (λ _. of_bind (of_delay 5000) (λ _. w))

  given : (granted : Res Bool) → Within (acquire_given port hw t granted) (8015 + n) (207000 + m)
  unfolding acquire_given
  given granted =
      within_pick (eqb hw 0) (within_more (omega arith) (omega arith) (lost granted))
      (within_more (omega arith) (omega arith) (of_bind (of_release_bits port hw) (λ _. lost granted)))

  got : (granted : Res Bool) → Within (acquire_got port hw t granted) (8015 + n) (207000 + m)
  unfolding acquire_got
  got (Ok true) = at_end
  got (Ok false) = given (Ok false)
  got (Err e) = given (Err e)

  asked : Within (acquire_ask port hw t) (8129100 + n) (205909000 + m)
  unfolding acquire_ask
  asked = within_more (omega arith) (omega arith) (of_attempt (of_token port true) got)

  acquire_turn_lem : Within (acquire_turn port hw t) (16142100 + n) (410909000 + m)
  acquire_turn_lem =
      within_pick (eqb hw 0) (within_more (omega arith) (omega arith) asked)
      (within_more (omega arith) (omega arith) (of_bind (of_acquire_bits port hw) (λ _. asked)))

pub of_acquire : (port : Port) (mask : ℕ) → Within (acquire port mask) 16142100000 410909000000
unfolding acquire
of_acquire port mask =
    within_pick (is_clear mask 0x40000000) (within_more (omega arith) (omega arith) (of_acquire_bits port (hw_of mask)))
    (within_times (acquire_turn port (hw_of mask)) (fail (Firmware 0x0a 0x80)) 16142100 410909000 1000 0 0 (acquire_turn_lem port (hw_of mask)) at_end)

release_rest_lem : (port : Port) (hw : ℕ) (token : Res (Unit {0})) → Within (release_rest port hw token) 8014 202000
unfolding release_rest
release_rest_lem port hw token = within_pick (eqb hw 0) at_end (of_bind (of_release_bits port hw) (λ _. of_end))

pub of_release : (port : Port) (mask : ℕ) → Within (release port mask) 8129099 205904000
unfolding release
of_release port mask =
    within_pick (is_clear mask 0x40000000) (within_more (omega arith) (omega arith) (release_rest_lem port (hw_of mask) (Ok tt)))
    (of_attempt (of_token port false) (λ given. release_rest_lem port (hw_of mask) (forget given)))

-- a body under any mask
pub of_locked : {X : Type 0} (ending : Ending X) (port : Port) (mask : ℕ) {body : Talk X} {n m : ℕ}
    → Within body n m → Within (locked ending port mask body) (16150229099 + n) (411114904000 + m)
of_locked ending port mask w = within_more (omega arith) (omega arith) (of_held ending (of_acquire port mask) (of_release port mask) w)

-- and under one with no TOKEN
pub of_locked_bits : {X : Type 0} (ending : Ending X) (port : Port) (mask : ℕ) {body : Talk X} {n m : ℕ}
    → mask < 2 ^ 32 → is_clear mask 0x40000000 ≡ true → (mask ≡ 0 → ⊥) → Within body n m
    → Within (locked ending port mask body) (8021014 + n) (205202000 + m)
of_locked_bits ending port mask {body = body} {n = n} {m = m} h c z w =
    subst (λ t. Within t (8021014 + n) (205202000 + m)) (sym (locked_bits_lem ending port mask body h c z))
    (within_more (omega arith) (omega arith) (of_held ending (of_acquire_bits port mask) (of_release_bits port mask) w))
