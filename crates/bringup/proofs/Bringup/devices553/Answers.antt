use mathlib.Core.Bool.{true, false}
use Rattle.reference.proofs.Laws.{bind_assoc}
use Rattle.bringup.proofs.Laws.{vetoed_then, backplane}
use Rattle.bringup.proofs.Bringup.devices553.Goals as goal

pub returns-in-5570 : goal.returns-in-5570
returns-in-5570 c = simp (c.in-5570.is, c.requires) (backplane c.args.managed.port c.args.managed.veto true)

pub returns-in-5571 : goal.returns-in-5571
returns-in-5571 c = simp (c.in-5571.is, c.requires) (backplane c.args.managed.port c.args.managed.veto false)

pub returns-in-5574 : goal.returns-in-5574
returns-in-5574 c = simp (c.vetoed.ensures, c.in-5574.is, c.requires, vetoed_then)

pub returns-in-5575 : goal.returns-in-5575
returns-in-5575 c = simp (c.vetoed-in-5575.ensures, c.in-5575.is, c.requires, vetoed_then)

pub returns-in-5576 : goal.returns-in-5576
returns-in-5576 c = simp (c.copper.ensures, c.in-5576.is, c.requires, bind_assoc)
