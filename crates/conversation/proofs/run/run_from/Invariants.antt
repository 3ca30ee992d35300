use Rattle.std.proofs.Common.{◌≡◌, ◌-◌, ◌≤◌, length}
use Rattle.drive.specs.Moves.{tape, Moves}
use Rattle.started.specs.Operation.{told}
use Rattle.conversation.proofs.run.run_from.Given as goal

abbrev pub invariant-loop-a : goal.invariant-loop-a
invariant-loop-a l = (length l.t ≡ length l.initial.t) × (l.h.at ≤ length l.t) × (l.h.used ≤ length l.replies)
    × Moves l.replies (told l.port l.initial.at l.initial.block) (tape l.initial.h l.initial.t) (told l.port l.at l.block) (tape l.h l.t)

abbrev pub decreases-loop-a : goal.decreases-loop-a
decreases-loop-a l = length l.t - l.h.at
