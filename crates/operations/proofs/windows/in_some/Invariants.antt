use Rattle.std.proofs.Common.{◌≡◌}
use Rattle.operations.specs.Windows.{in_some}
use Rattle.operations.proofs.windows.in_some.Given as goal

abbrev pub invariant-loop-pair : goal.invariant-loop-pair
invariant-loop-pair l = (l.pair-iterator.size ≡ 2) × (in_some l.minute l.windows ≡ in_some l.minute l.pair-iterator.rest.now)
