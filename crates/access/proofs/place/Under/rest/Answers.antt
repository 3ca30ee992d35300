use borrow.Author.Tests.{ne_eqb}
use Rattle.std.proofs.Common.{sym, ◌∙◌}
use Rattle.access.proofs.place.Under.rest.Goals as goal

pub returns-else-hw-eq0 : goal.returns-else-hw-eq0
returns-else-hw-eq0 c = simp (ne_eqb _ _ (λ e. c.if-hw-eq0.false (sym c.hw.ensures ∙ e))) (c.asked.ensures _ ∙ sym (c.give.ensures _))
