use Rattle.after.proofs.Laws.{command_begun}
use Rattle.start.proofs.start.command.Goals as goal

pub returns : goal.returns
returns c = simp (c.count-n.ensures, command_begun)
