use Rattle.std.proofs.Common.{◌≡◌}
use Rattle.operations.specs.Pairs.{outside}
use Rattle.operations.proofs.pairs.is_outside.Given as goal

abbrev pub invariant-loop-pair : goal.invariant-loop-pair
invariant-loop-pair l = (l.pair-iterator.size ≡ 2) × (outside l.words ≡ outside l.pair-iterator.rest.now)
