-- What a suspended `phy_activity` still says, from what its job gives
use Rattle.jobs.specs.declared.job.Job.{Job}
use Rattle.jobs.specs.Job.{told_job}
use Rattle.hardware.specs.declared.Step.{Step}
use Rattle.hardware.specs.Talk.{Call, Res, end, and_then, ◌>>=◌}
use Rattle.std.specs.Prelude.{ℕ, List}
use Rattle.hardware.specs.declared.Port.{Port}
use Rattle.answers.specs.declared.Words.{Words}
use Rattle.reference.specs.Hostif.{activity_block, activity_times, activity_answer, phy_activity}
use Rattle.jobs.specs.Token.{status_of}
use Rattle.jobs.specs.Job.{job_talk}
use Rattle.jobs.specs.declared.job.Job.TheVariants as job
use Rattle.activity.specs.declared.Activity.{Activity}
use Rattle.activity.specs.declared.Activity.TheVariants as activity
use Rattle.arguments.specs.declared.Asked.{Asked}

-- the Rust's functions, of these arguments
abbrev pub block_of : Port → Asked → List ℕ
block_of port asked =
    activity_block port asked.activity asked.data.w0 asked.data.w1 asked.data.w2 asked.data.w3

abbrev pub activity_of : Port → Asked → Call Words
activity_of port asked = phy_activity port asked.activity asked.data.w0 asked.data.w1 asked.data.w2 asked.data.w3

-- once its command has ended, with n tries left
abbrev pub activity_got : Port → Asked → ℕ → Res ℕ → List ℕ → Call Words
activity_got port asked n got ws = activity_answer (activity_times port (block_of port asked) n) (status_of got, ws)

abbrev pub resume_activity : Port → Asked → Activity → Res ℕ → List ℕ → Call Words
resume_activity port asked (activity.Exchanging n) got ws = activity_got port asked n got ws
resume_activity port asked (activity.Pausing n status) got ws = end got >>= λ _. activity_times port (block_of port asked) n status

-- at its first job
abbrev pub begun_activity : Port → Asked → List ℕ → Activity → Call Words
begun_activity port asked b s = and_then (job_talk port (job.Command 6) b) (λ p. resume_activity port asked s p.0 p.1)

abbrev pub told_activity : Port → Asked → List ℕ → Step Job Activity (Res Words) → Call Words
told_activity port asked b = told_job port b (λ s got ws. resume_activity port asked s got ws)
