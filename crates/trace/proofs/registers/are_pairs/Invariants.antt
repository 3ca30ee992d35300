use Rattle.std.proofs.Common.{◌≡◌}
use Rattle.trace.specs.Mdio.{are_pairs}
use Rattle.trace.proofs.registers.are_pairs.Given as goal

abbrev pub invariant-loop-pair : goal.invariant-loop-pair
invariant-loop-pair l = (l.pair-iterator.size ≡ 2) × (are_pairs l.args ≡ are_pairs l.pair-iterator.rest.now)
