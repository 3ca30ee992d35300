use Rattle.std.proofs.Common.{◌≤◌, length}
use Rattle.settings_file.proofs.file.read_full.Given as goal

-- the buffer holds what was read
abbrev pub invariant-loop : goal.invariant-loop
invariant-loop g l = l.len ≤ length l.buf
