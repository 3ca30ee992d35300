use Rattle.std.proofs.Common.{◌≡◌, ◌-◌, length}
use Rattle.hardware.specs.Talk.{ask}
use Rattle.drive.specs.Moves.{tape, Moves}
use Rattle.drive.proofs.machine.run.Given as goal

abbrev pub invariant-loop-h : goal.invariant-loop-h
invariant-loop-h g l = (length l.t ≡ length l.initial.t) × Moves l.replies (ask l.initial.a (g.M.Machine.resume l.context l.initial.s)) (tape l.initial.h l.initial.t) (ask l.a (g.M.Machine.resume l.context l.s)) (tape l.h l.t)

abbrev pub decreases-loop-h : goal.decreases-loop-h
decreases-loop-h g l = length l.t - l.h.at
