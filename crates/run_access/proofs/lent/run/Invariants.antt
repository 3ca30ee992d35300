use Rattle.std.proofs.Common.{◌≡◌, ◌-◌, length}
use Rattle.hardware.specs.Talk.{ask}
use Rattle.drive.specs.Moves.{tape, Moves}
use Rattle.run_access.proofs.lent.run.Given as goal

abbrev pub invariant-loop-h : goal.invariant-loop-h
invariant-loop-h g l = (length l.t ≡ length l.initial.t) × Moves l.replies (ask l.initial.a (g.M.Lent.resume l.context l.initial.s l.initial.block)) (tape l.initial.h l.initial.t) (ask l.a (g.M.Lent.resume l.context l.s l.block)) (tape l.h l.t)

abbrev pub decreases-loop-h : goal.decreases-loop-h
decreases-loop-h g l = length l.t - l.h.at
