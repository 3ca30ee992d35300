-- What writes nothing to CTRL, or a KR address of at most 0xffff
use Rattle.hardware.specs.Talk.{Talk, pick, is_clear, fail}
use Prim.Native.Nat.{ℕ, ◌+◌, ◌%◌, ◌^◌, ◌≤◌}
use native.Mathlib.Omega.{arith}
use mathlib.Core.Path.{◌≡◌, subst}
use mathlib.Core.Bool.{Bool, true, false}
use lib.Dec.{eqb}
use Rattle.hardware.specs.declared.Action.{Action}
use Rattle.hardware.specs.declared.Action.TheVariants as action
use Rattle.hardware.specs.declared.Error.TheVariants.{Timeout}
use Rattle.hardware.specs.declared.Family.{Family}
use Rattle.hardware.specs.declared.Family.TheVariants.{X552, X553}
use Rattle.words.specs.Kr.{krm}
use Rattle.reference.specs.X552.{iosf_turn, iosf_idle, kr_read_body, kr_write_body}
use Rattle.mixing.specs.Addressed.{InRange, Addressed}
use Rattle.mixing.specs.Model.{kind}
use Rattle.mixing.specs.Only.{only_end, only_ask}
use Rattle.mixing.specs.System.{NotIosf, Outside}
use Rattle.hardware.proofs.Laws.{by_turns}
use Rattle.mixing.proofs.Only.{Quiet, only_bind, only_pick, only_raw, only_write, only_wait, quiet_only}
use Rattle.mixing.proofs.Plain.{Plain}

-- ---- neither CTRL nor DATA

not_ctrl : (f : Family) (r : ℕ) → NotIosf (kind f r) → r ≡ 0x11144 → ⊥
not_ctrl X552 r h e = subst (λ x. NotIosf (kind X552 x)) e h
not_ctrl X553 r h e = subst (λ x. NotIosf (kind X553 x)) e h

in_range : (f : Family) (a : Action) → Outside f a → InRange a
in_range f (action.Read r) h = tt
in_range f (action.Write r v) h = λ e. absurd (not_ctrl f r h e)
in_range f (action.Wait n) h = tt

pub plain_addressed : {A : Type 0} (f : Family) {t : Talk A} → Plain f t → Addressed t
plain_addressed f only_end = only_end
plain_addressed f (only_ask {a} h p) = only_ask (in_range f a h) (λ r. plain_addressed f (p r))

pub quiet_addressed : {A : Type 0} (f : Family) {t : Talk A} → Quiet f t → Addressed t
quiet_addressed f q = plain_addressed f (quiet_only NotIosf tt f q)

-- ---- the bodies of kr_read and kr_write

module _ (pause : ℕ) where
  idle_addressed : Addressed (iosf_idle pause)
  unfolding iosf_idle
  idle_addressed =
      by_turns (λ g. (last : ℕ) → Addressed (g last)) (iosf_turn pause) (λ last. fail (Timeout 0x11144 0x80000000 0 last))
      (λ again g _. only_bind (only_raw tt) (λ v. only_pick (is_clear v 0x80000000) only_end (only_bind (only_wait tt) (λ _. g v))))
      (λ last. only_end) 100 0

  module _ (a : ℕ) (h : a ≤ 0xffff) where
    pub read_addressed : Addressed (kr_read_body pause a)
    read_addressed =
        only_bind idle_addressed
        (λ _. only_bind (only_write (λ _. h))
        (λ _. only_bind idle_addressed (λ ctrl. only_pick (is_clear ctrl 0xc0000) (only_raw tt) only_end)))

    pub write_addressed : (w : ℕ) → Addressed (kr_write_body pause a w)
    write_addressed w =
        only_bind idle_addressed
        (λ _. only_bind (only_write (λ _. h))
        (λ _. only_bind (only_write (λ e. omega arith))
        (λ _. only_bind idle_addressed (λ ctrl. only_pick (is_clear ctrl 0xc0000) only_end only_end))))

-- a register whose address the Rust names is in range on lan 1 too
pub on_lan : (lan port0 : ℕ) → port0 + 0x4000 ≤ 0xffff → krm lan port0 ≤ 0xffff
unfolding krm
on_lan lan port0 h = go (eqb lan 1)
  where
    go : (b : Bool) → pick b ((port0 + 0x4000) % 2 ^ 32) port0 ≤ 0xffff
    go true = omega arith
    go false = omega arith
