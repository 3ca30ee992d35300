use Rattle.std.proofs.Common.{◌≡◌, ◌++◌, map, take, drop}
use Rattle.profile_table.specs.Entry.{blank}
use Rattle.profile_table.proofs.entry.blank_commas.Given as goal

-- the bytes so far are changed, and the others are as they were
abbrev pub invariant-loop-b : goal.invariant-loop-b
invariant-loop-b l = l.line ≡ map blank (take l.b-index l.fn.line) ++ drop l.b-index l.fn.line
