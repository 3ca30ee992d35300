use Rattle.drive.proofs.Laws.{moved}
use Rattle.sideband.proofs.kr_access.KrRuns.advance.Goals as goal

pub returns-in-First : goal.returns-in-First
returns-in-First c = moved _ (rw c.in-First.is) c.first.ensures c.run-step.ensures

pub returns-in-Second : goal.returns-in-Second
returns-in-Second c = moved _ (rw c.in-Second.is) c.second.ensures c.run-step-in-Second.ensures
