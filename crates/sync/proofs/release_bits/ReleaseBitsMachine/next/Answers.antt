use Rattle.sync.proofs.release_bits.ReleaseBitsMachine.next.Goals as goal

pub returns-in-Clearing : goal.returns-in-Clearing
returns-in-Clearing c = simp (c.in-Clearing.is, c.next-in-Clearing.ensures, c.after_clear.ensures)
