use Rattle.drive.proofs.Laws.{moved}
use Rattle.sync.proofs.release_bits.ReleaseBitsRuns.advance.Goals as goal

pub returns-in-Locking : goal.returns-in-Locking
returns-in-Locking c = moved _ (rw c.in-Locking.is) c.after_lock.ensures c.run-step.ensures

pub returns-in-Unlocking : goal.returns-in-Unlocking
returns-in-Unlocking c = moved _ (rw c.in-Unlocking.is) c.after_unlock.ensures c.run-step-in-Unlocking.ensures
