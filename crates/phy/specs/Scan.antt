-- What a suspended `scan` still says, from what its job gives
use Rattle.jobs.specs.declared.job.Job.{Job}
use Rattle.jobs.specs.Job.{told_job}
use Rattle.hardware.specs.declared.Step.{Step}
use Rattle.hardware.specs.Talk.{Call, Res, times, ◌>>=◌, return}
use Rattle.std.specs.Prelude.{ℕ, ◌+◌, ◌-◌, List, None, Option}
use Rattle.hardware.specs.declared.Port.{Port}
use Rattle.reference.specs.Mdio.{scan_found, scan_turn}
use Rattle.phy.specs.Probe.{resume_probe}
use Rattle.phy.specs.declared.scan.Scan.{Scan}

-- the probe of a PHY, then the PHYs behind it
abbrev pub scan_after : Port → ℕ → Call (Option ℕ) → Call (Option (ℕ × ℕ))
scan_after port phy t = t >>= scan_found (times (32 - (phy + 1)) (scan_turn port) (λ _. return None)) phy

abbrev pub resume_scan : Port → Scan → Res ℕ → Call (Option (ℕ × ℕ))
resume_scan port s got = scan_after port s.phy (resume_probe port s.phy s.probe got)

abbrev pub told_scan : Port → List ℕ → Step Job Scan (Res (Option (ℕ × ℕ))) → Call (Option (ℕ × ℕ))
told_scan port b = told_job port b (λ s got _. resume_scan port s got)
