-- What a suspended cycle still says
use Rattle.hardware.specs.Told.{told}
use Rattle.hardware.specs.declared.Action.{Action}
use Rattle.hardware.specs.declared.Step.{Step}
use Rattle.hardware.specs.Talk.{Call, end, ◌>>=◌, ◌>>◌, read, pick, return, is_clear, checked, done, Reply, Res}
use Rattle.std.specs.Prelude.{ℕ}
use Rattle.reference.specs.Mdio.{cycle_times}
use Rattle.mdio.specs.declared.cycle.Cycle.{Cycle}
use Rattle.mdio.specs.declared.cycle.Cycle.TheVariants as cycle

-- with what MSCA gave
abbrev pub cycle_read : ℕ → Call ℕ → Call (Unit {0})
cycle_read n t =
    do
      last ← t
      pick (is_clear last 0x40000000) (return tt) (cycle_times n last)

abbrev pub resume_cycle : Cycle → Reply → Call (Unit {0})
resume_cycle cycle.Starting r = end (done r) >> cycle_times 100 0
resume_cycle (cycle.Waiting n) r = cycle_read n (read 0x425c)
resume_cycle (cycle.Reading n) r = cycle_read n (end (checked r))

abbrev pub told_cycle : Step Action Cycle (Res (Unit {0})) → Call (Unit {0})
told_cycle = told resume_cycle
