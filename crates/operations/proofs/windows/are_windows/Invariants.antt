use Rattle.std.proofs.Common.{◌≡◌}
use Rattle.operations.specs.Windows.{are_windows}
use Rattle.operations.proofs.windows.are_windows.Given as goal

abbrev pub invariant-loop-pair : goal.invariant-loop-pair
invariant-loop-pair l = (l.pair-iterator.size ≡ 2) × (are_windows l.words ≡ are_windows l.pair-iterator.rest.now)
