use Prim.Native.Nat.{ℕ}
use mathlib.Core.Path.{◌≡◌, sym, ◌∙◌}
use native.Mathlib.Omega.{arith}
use borrow.Author.Tests.{ne_eqb}
use Rattle.hardware.proofs.Laws.{times_more}
use Rattle.access.proofs.Asks.{ask_begun}
use Rattle.access.proofs.place.Under.acquire.Goals as goal

tries : ◌≡◌ {A = ℕ} 1000 0 → ⊥
tries h = omega (arith, h)

pub returns-then-self-eq0 : goal.returns-then-self-eq0
returns-then-self-eq0 c = simp (c.if-self-eq0.true) (c.take.ensures _)

pub returns-then-hw-eq0 : goal.returns-then-hw-eq0
returns-then-hw-eq0 c = simp (ne_eqb _ _ c.if-self-eq0.false, times_more tries, c.hw.ensures, c.if-hw-eq0.true) (ask_begun c.args.self _ 999 c.token.ensures)

pub returns-else-hw-eq0 : goal.returns-else-hw-eq0
returns-else-hw-eq0 c =
    simp (ne_eqb _ _ c.if-self-eq0.false, times_more tries, ne_eqb _ _ (λ e. c.if-hw-eq0.false (sym c.hw.ensures ∙ e))) (c.take-else-hw-eq0.ensures _)
