use Rattle.sync.proofs.acquire_bits.AcquireBitsMachine.next.Goals as goal

pub returns-in-Writing : goal.returns-in-Writing
returns-in-Writing c = simp (c.in-Writing.is, c.done.ensures, c.start.ensures, c.ending.ensures)
