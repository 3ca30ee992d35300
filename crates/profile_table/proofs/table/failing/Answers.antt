use Rattle.profile_table.proofs.Failing.{found_last}
use Rattle.profile_table.proofs.table.failing.Goals as goal

pub returns : goal.returns
returns c = found_last _ _ _ c.requires c.in-None.ensures.steps.0 c.loop-row.invariant.found
