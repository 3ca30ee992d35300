use Rattle.after.proofs.After.next.Goals as goal

pub returns-in-Poll : goal.returns-in-Poll
returns-in-Poll c = simp (c.in-Poll.is, c.next-in-Poll.ensures, c.poll.ensures)
