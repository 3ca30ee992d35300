use borrow.Author.Tests.{ne_eqb}
use Rattle.std.proofs.Common.{sym, ◌∙◌}
use Rattle.access.proofs.Asks.{give_begun}
use Rattle.access.proofs.place.Under.release.Goals as goal

pub returns-else-self-eq0 : goal.returns-else-self-eq0
returns-else-self-eq0 c = simp (ne_eqb _ _ c.if-self-eq0.false) (c.asked.ensures _ ∙ sym (give_begun c.args.self _ c.token.ensures))
