use Rattle.std.proofs.Common.{◌≡◌, ◌-◌, ◌≤◌, length}
use Rattle.drive.specs.Moves.{tape, Moves}
use Rattle.long.specs.Command.{told_long}
use Rattle.started.specs.Standing.{told_lent}
use Rattle.conversation.proofs.run.lent_from.Given as goal

abbrev pub invariant-loop-at : goal.invariant-loop-at
invariant-loop-at l = (length l.t ≡ length l.initial.t) × (l.h.at ≤ length l.t) × (l.h.used ≤ length l.replies)
    × Moves l.replies (told_lent l.count (told_long l.initial.words l.initial.at)) (tape l.initial.h l.initial.t) (told_lent l.count (told_long l.words l.at)) (tape l.h l.t)

abbrev pub decreases-loop-at : goal.decreases-loop-at
decreases-loop-at l = length l.t - l.h.at
