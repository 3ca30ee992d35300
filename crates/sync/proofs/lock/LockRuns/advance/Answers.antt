use Rattle.drive.proofs.Laws.{moved}
use Rattle.sync.proofs.lock.LockRuns.advance.Goals as goal

pub returns-in-Smbi : goal.returns-in-Smbi
returns-in-Smbi c = moved _ (rw c.in-Smbi.is) c.after_smbi.ensures c.run-step.ensures
