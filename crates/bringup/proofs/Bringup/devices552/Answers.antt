use Rattle.reference.proofs.Laws.{bind_assoc}
use Rattle.bringup.proofs.Laws.{vetoed_then}
use Rattle.bringup.proofs.Bringup.devices552.Goals as goal

pub returns-in-5547 : goal.returns-in-5547
returns-in-5547 c = λ b. simp (c.vetoed.ensures, c.in-5547.is, c.requires, vetoed_then, bind_assoc)

pub returns-in-5549 : goal.returns-in-5549
returns-in-5549 c = λ b. simp (c.copper.ensures, c.in-5549.is, c.requires, bind_assoc)
