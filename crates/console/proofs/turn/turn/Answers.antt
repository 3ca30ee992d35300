use Rattle.console.proofs.TurnLaws.{turned_one}
use Rattle.console.proofs.turn.turn.Goals as goal

pub returns : goal.returns
returns c = turned_one _ _ c.run_in-ran.result _ _ c.run_in-ran.ensures.lends c.run_in-ran.ensures.shown c.if-ran-eq0.false c.action_line.ensures
