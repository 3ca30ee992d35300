use Rattle.sync.proofs.sync.SyncMachine.next.Goals as goal

pub returns-in-Take : goal.returns-in-Take
returns-in-Take c = simp (c.in-Take.is, c.taken.ensures, c.next.ensures, c.taking.ensures)

pub returns-in-Give : goal.returns-in-Give
returns-in-Give c = simp (c.in-Give.is, c.given.ensures, c.next-in-Give.ensures, c.giving.ensures)
