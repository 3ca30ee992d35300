use Rattle.start.proofs.start.poll.Goals as goal

pub returns : goal.returns
returns c = λ b. simp (c.inside-inside.ensures, c.start-step.ensures, c.poll.ensures)
