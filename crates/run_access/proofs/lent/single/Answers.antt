use Rattle.drive.specs.Moves.{stays}
use Rattle.drive.proofs.Laws.{act_short}
use Rattle.run_access.proofs.lent.single.Goals as goal

pub returns-in-Err : goal.returns-in-Err
returns-in-Err g c = act_short c.act.ensures c.in-Err.is stays
