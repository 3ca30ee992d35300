use Rattle.drive.proofs.Laws.{said_as}
use Rattle.sync.proofs.sync.SyncRuns.advance.Goals as goal

pub returns-in-Take : goal.returns-in-Take
returns-in-Take c = said_as (rw (c.in-Take.is, ← c.taken.ensures)) (rw (c.taking.ensures, c.taken.ensures)) c.run-step.ensures

pub returns-in-Give : goal.returns-in-Give
returns-in-Give c = said_as (rw (c.in-Give.is, ← c.given.ensures)) (rw (c.giving.ensures, c.given.ensures)) c.run-step-in-Give.ensures
