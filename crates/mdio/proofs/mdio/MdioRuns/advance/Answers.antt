use Rattle.drive.proofs.Laws.{said_as}
use Rattle.mdio.proofs.Moved.{cycle_moves}
use Rattle.mdio.proofs.mdio.MdioRuns.advance.Goals as goal

pub returns-in-Cycling : goal.returns-in-Cycling
returns-in-Cycling c = let g = c.args in
    said_as (rw c.in-Cycling.is) c.cycled.ensures
    (cycle_moves g.wanted c.in-Cycling.place c.in-Cycling.s c.run-step.result c.run-step.ensures)
