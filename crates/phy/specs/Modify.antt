-- What a suspended `modify` still says, from what its job gives
use Rattle.jobs.specs.Job.{told_job}
use Rattle.hardware.specs.declared.Step.{Step}
use Rattle.hardware.specs.Talk.{Call, Res, end, and_then, ◌>>=◌, return}
use Rattle.std.specs.Prelude.{ℕ, List}
use Rattle.hardware.specs.declared.Port.{Port}
use Rattle.reference.specs.Mdio as mdio
use Rattle.jobs.specs.Job.{job_talk}
use Rattle.jobs.specs.declared.job.Job.{Job}
use Rattle.phy.specs.declared.modify.Modify.{Modify}
use Rattle.phy.specs.declared.modify.Modify.TheVariants as modify
use Rattle.arguments.specs.declared.Register.{Register}

-- the Rust's function, of these arguments
abbrev pub modify_of : Port → Register → Call ℕ
modify_of port at = mdio.modify port at.phy at.device at.register at.keep at.set

abbrev pub got_modify : Port → Register → Modify → ℕ → Call ℕ
got_modify port at modify.Reading v = mdio.modified port at.phy at.device at.register (mdio.changed at.keep at.set v)
got_modify port at (modify.Writing value) v = return value

abbrev pub resume_modify : Port → Register → Modify → Res ℕ → Call ℕ
resume_modify port at s got = end got >>= λ v. got_modify port at s v

abbrev pub begun_modify : Port → Register → List ℕ → Job → Call ℕ
begun_modify port at b job = and_then (job_talk port job b) (λ p. resume_modify port at modify.Reading p.0)

abbrev pub told_modify : Port → Register → List ℕ → Step Job Modify (Res ℕ) → Call ℕ
told_modify port at b = told_job port b (λ s got _. resume_modify port at s got)
