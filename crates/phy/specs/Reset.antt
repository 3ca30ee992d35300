-- What a suspended `reset` still says, from what its job gives
use Rattle.jobs.specs.declared.job.Job.{Job}
use Rattle.jobs.specs.Job.{told_job}
use Rattle.hardware.specs.declared.Step.{Step}
use Rattle.hardware.specs.Talk.{Call, Res, end, pick, is_clear, ◌>>=◌, return, fail}
use Rattle.std.specs.Prelude.{ℕ, Bool, List}
use Rattle.hardware.specs.declared.Error.TheVariants.{PhyReset}
use Rattle.hardware.specs.declared.Port.{Port}
use Rattle.reference.specs.Mdio.{reset_times, reset_poll, reset_done, reset_last}
use Rattle.phy.specs.declared.reset.Reset.{Reset}
use Rattle.phy.specs.declared.reset.Reset.TheVariants as reset

-- what a poll read
abbrev pub reset_seen : Port → ℕ → Bool → ℕ → ℕ → Call (Unit {0})
reset_seen port phy x557 n v =
    pick x557
    (pick (is_clear v 3) (reset_times port phy x557 n) (reset_done port phy))
    (pick (is_clear v 0x8000) (reset_done port phy) (reset_times port phy x557 n))

-- what the last read gave
abbrev pub reset_checked : ℕ → Call (Unit {0})
reset_checked v = pick (is_clear v 0x8000) (return tt) (fail PhyReset)

abbrev pub got_reset : Port → ℕ → Bool → Reset → ℕ → Call (Unit {0})
got_reset port phy x557 reset.Starting _ = reset_times port phy x557 30
got_reset port phy x557 (reset.Waiting n) _ = reset_poll port phy x557 (reset_times port phy x557 n)
got_reset port phy x557 (reset.Polling n) v = reset_seen port phy x557 n v
got_reset port phy x557 reset.Settling _ = reset_last port phy
got_reset port phy x557 reset.Checking v = reset_checked v

abbrev pub resume_reset : Port → ℕ → Bool → Reset → Res ℕ → Call (Unit {0})
resume_reset port phy x557 s got = end got >>= λ v. got_reset port phy x557 s v

abbrev pub told_reset : Port → ℕ → Bool → List ℕ → Step Job Reset (Res (Unit {0})) → Call (Unit {0})
told_reset port phy x557 b = told_job port b (λ s got _. resume_reset port phy x557 s got)
