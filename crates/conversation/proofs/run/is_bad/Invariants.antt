use Rattle.std.proofs.Common.{◌≡◌}
use Rattle.calls.specs.Run.{bad}
use Rattle.conversation.proofs.run.is_bad.Given as goal

abbrev pub invariant-loop-pair : goal.invariant-loop-pair
invariant-loop-pair l = (l.pair-iterator.size ≡ 2) × (bad l.replies ≡ bad l.pair-iterator.rest.now)
