use Rattle.std.proofs.Common.{sym}
use Rattle.after.specs.After.{resume_after}
use Rattle.drive.proofs.Laws.{told_as, inside}
use Rattle.started.proofs.operation.OpRuns.advance.Goals as goal

pub returns : goal.returns
returns c = let g = c.args in
    told_as (sym c.stepped.ensures) (inside (λ p. resume_after g.port g.self.after p.0 p.1) c.run-step.ensures)
