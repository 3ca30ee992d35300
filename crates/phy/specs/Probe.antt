-- What a suspended `probe` still says, from what its job gives
use Rattle.jobs.specs.Job.{told_job}
use Rattle.hardware.specs.declared.Step.{Step}
use Rattle.hardware.specs.Talk.{Call, Res, end, and_then, ◌>>=◌, return}
use Rattle.std.specs.Prelude.{ℕ, List, Option}
use Rattle.hardware.specs.declared.Port.{Port}
use Rattle.words.specs.Phy.{phy_id}
use Rattle.reference.specs.Mdio.{probe_high}
use Rattle.jobs.specs.Job.{job_talk}
use Rattle.jobs.specs.declared.job.Job.{Job}
use Rattle.phy.specs.declared.probe.Probe.{Probe}
use Rattle.phy.specs.declared.probe.Probe.TheVariants as probe

abbrev pub got_probe : Port → ℕ → Probe → ℕ → Call (Option ℕ)
got_probe port phy probe.High high = probe_high port phy high
got_probe port phy (probe.Low high) low = return (phy_id high low)

abbrev pub resume_probe : Port → ℕ → Probe → Res ℕ → Call (Option ℕ)
resume_probe port phy s got = end got >>= λ v. got_probe port phy s v

abbrev pub begun_probe : Port → ℕ → List ℕ → Job → Call (Option ℕ)
begun_probe port phy b job = and_then (job_talk port job b) (λ p. resume_probe port phy probe.High p.0)

abbrev pub told_probe : Port → ℕ → List ℕ → Step Job Probe (Res (Option ℕ)) → Call (Option ℕ)
told_probe port phy b = told_job port b (λ s got _. resume_probe port phy s got)
