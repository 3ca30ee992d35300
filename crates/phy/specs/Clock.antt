-- What a suspended change of the MDIO clock still says, from what its job gives
use Rattle.jobs.specs.declared.job.Job.{Job}
use Rattle.jobs.specs.Job.{told_job}
use Rattle.hardware.specs.declared.Step.{Step}
use Rattle.hardware.specs.Talk.{Call, Res, end, pick, ◌>>=◌, write, return}
use Rattle.std.specs.Prelude.{ℕ, Bool, true, false, List, Option, Some, None, eqb}
use Rattle.hardware.specs.declared.Family.{Family}
use Rattle.hardware.specs.declared.Family.TheVariants.{X552, X553}
use Rattle.hardware.specs.declared.Port.{Port}
use Rattle.reference.specs.X552.{mdcspd, mdio_clock}
use Rattle.reference.specs.X553.{firmware_phy, slow_device}
use Rattle.phy.specs.declared.clock.Clock.{Clock}
use Rattle.phy.specs.declared.clock.Clock.TheVariants as clock

-- whether it is set fast, for the devices where it is set
abbrev pub speed_at : Family → ℕ → Option Bool
speed_at X552 device = pick (eqb device 0x15ad) (Some false) None
speed_at X553 device = pick (slow_device device) (Some false) (pick (firmware_phy device) (Some true) None)

abbrev pub speed_of : Port → Option Bool
speed_of port = speed_at port.family port.device

abbrev pub clocked : Option Bool → Call (Unit {0})
clocked None = return tt
clocked (Some fast) = mdio_clock fast

abbrev pub got_clock : Bool → Clock → ℕ → Call (Unit {0})
got_clock fast clock.Reading hlreg0 = write 0x4240 (mdcspd fast hlreg0)
got_clock fast clock.Writing v = return tt

abbrev pub resume_clock : Bool → Clock → Res ℕ → Call (Unit {0})
resume_clock fast s got = end got >>= λ v. got_clock fast s v

abbrev pub told_clock : Port → Bool → List ℕ → Step Job Clock (Res (Unit {0})) → Call (Unit {0})
told_clock port fast b = told_job port b (λ s got _. resume_clock fast s got)
