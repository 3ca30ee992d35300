-- sync.rs with TOKEN has no sideband wait, but in the body under a lock
use Rattle.std.specs.Prelude.{Ok, Err}
use Prim.Native.Nat.{ℕ, ◌^◌, ◌<◌}
use mathlib.Core.Path.{◌≡◌, sym, subst}
use mathlib.Core.Bool.{Bool, true, false}
use lib.Dec.{eqb}
use Rattle.hardware.specs.Talk.{Talk, Call, Res, is_clear, fail}
use Rattle.hardware.specs.declared.Error.TheVariants.{Firmware}
use Rattle.hardware.specs.declared.Port.{Port}
use Rattle.reference.specs.Sync.{Ending, locked_bits}
use Rattle.reference.specs.Acquire.{hw_of, acquire_lost, acquire_given, acquire_got, acquire_ask, acquire_turn, acquire, release_rest, forget, release, locked}
use Rattle.hardware.proofs.Laws.{by_turns}
use Rattle.reference.proofs.Alike.{Alike, Anywhere, Same, Still, begins, ends, tries, bind, attempts, picks, waits, holds}
use Rattle.reference.proofs.Locked.{locked_bits_lem}
use Rattle.reference.proofs.Pauses.Sync.{of_acquire_bits, of_release_bits}
use Rattle.reference.proofs.Pauses.Hostif.{of_token}

module _ {p q : ℕ} (port : Port) (hw : ℕ) (t : Call (Unit {0})) (w : Still p q t) where
  lost : (granted : Res Bool) → Still p q (acquire_lost granted t)
  unfolding acquire_lost
  lost granted = tries granted (λ _. bind waits (λ _. w))

  given : (granted : Res Bool) → Still p q (acquire_given port hw t granted)
  unfolding acquire_given
  given granted = picks (eqb hw 0) (lost granted) (bind (of_release_bits port hw false) (λ _. lost granted))

  got : (granted : Res Bool) → Still p q (acquire_got port hw t granted)
  unfolding acquire_got
  got (Ok true) = ends
  got (Ok false) = given (Ok false)
  got (Err e) = given (Err e)

  asked : Still p q (acquire_ask port hw t)
  unfolding acquire_ask
  asked = attempts (of_token port true) got

module _ {p q : ℕ} (port : Port) (mask : ℕ) where
  pub of_acquire : Still p q (acquire port mask)
  unfolding acquire
  of_acquire =
      picks (is_clear mask 0x40000000) (of_acquire_bits port (hw_of mask))
      (by_turns (λ t. Still p q t) (acquire_turn port (hw_of mask)) (fail (Firmware 0x0a 0x80))
      (λ t w. picks (eqb (hw_of mask) 0) (asked port (hw_of mask) t w) (bind (of_acquire_bits port (hw_of mask)) (λ _. asked port (hw_of mask) t w)))
      ends 1000)

  release_rest_lem : (token : Res (Unit {0})) → Still p q (release_rest port (hw_of mask) token)
  unfolding release_rest
  release_rest_lem token = picks (eqb (hw_of mask) 0) ends (bind (of_release_bits port (hw_of mask) false) (λ _. ends))

  pub of_release : Still p q (release port mask)
  unfolding release
  of_release =
      picks (is_clear mask 0x40000000) (release_rest_lem (Ok tt))
      (attempts (of_token port false) (λ given. release_rest_lem (forget given)))

-- a body under any mask, and one under a mask with no TOKEN, which may end behind a read of IOSF_CTRL
module _ {p q : ℕ} {X : Type 0} (ending : Ending X) (port : Port) (mask : ℕ) {body body' : Talk X} where
  pub of_locked : Same p q body body' → Same p q (locked ending port mask body) (locked ending port mask body')
  of_locked w = holds ending (of_acquire port mask) (λ b e. begins e (of_release port mask)) w

  pub of_locked_bits : mask < 2 ^ 32 → is_clear mask 0x40000000 ≡ true → (mask ≡ 0 → ⊥) → Alike p q Anywhere false body body'
      → Same p q (locked ending port mask body) (locked ending port mask body')
  of_locked_bits h c z w =
      let same : (t : Talk X) → locked_bits ending port mask t ≡ locked ending port mask t = λ t. sym (locked_bits_lem ending port mask t h c z) in
      subst (λ t. Same p q t (locked ending port mask body')) (same body)
      (subst (λ t. Same p q (locked_bits ending port mask body) t) (same body')
      (holds ending (of_acquire_bits port mask) (λ b _. of_release_bits port mask b) w))
