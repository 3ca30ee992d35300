use Rattle.std.proofs.Common.{sym, ◌∙◌}
use Rattle.console.proofs.TalkLaws.{went_on}
use Rattle.console.proofs.talk.turns.Goals as goal

pub loop-done-preserved : goal.loop-done-preserved
loop-done-preserved g c = went_on c.loop-done.invariant (sym c.is_some.ensures ∙ c.if-is_some.false) c.in_ok-at.ensures
