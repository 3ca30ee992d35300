use Rattle.drive.proofs.Laws.{moved}
use Rattle.sync.proofs.acquire_bits.AcquireBitsRuns.advance.Goals as goal

pub returns-in-Locking : goal.returns-in-Locking
returns-in-Locking c = moved _ (rw c.in-Locking.is) c.after_lock.ensures c.run-step.ensures

pub returns-in-Ending : goal.returns-in-Ending
returns-in-Ending c = moved _ (rw c.in-Ending.is) c.ending.ensures c.run-step-in-Ending.ensures

pub returns-in-Held : goal.returns-in-Held
returns-in-Held c = moved _ (rw c.in-Held.is) c.held.ensures c.run-step-in-Held.ensures
