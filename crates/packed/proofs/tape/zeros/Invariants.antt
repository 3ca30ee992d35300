use Rattle.std.proofs.Common.{◌≤◌, replicate}
use Rattle.packed.specs.Tape.{Adds}
use Rattle.packed.proofs.tape.zeros.Given as goal

abbrev pub invariant-loop : goal.invariant-loop
invariant-loop l = (l.counter ≤ l.n) × Adds l.at l.initial.tape (replicate l.counter 0) l.to l.tape
