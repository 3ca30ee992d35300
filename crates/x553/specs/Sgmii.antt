-- What a suspended `sgmii` still says, from what its job gives
use Rattle.jobs.specs.declared.job.Job.{Job}
use Rattle.jobs.specs.Job.{told_job_by}
use Rattle.hardware.specs.declared.Step.{Step}
use Rattle.hardware.specs.Talk.{Call, Res, ◌>>=◌, ◌>>◌, return}
use Rattle.std.specs.Prelude.{ℕ, List, Err, Ok}
use Rattle.hardware.specs.declared.Port.{Port}
use Rattle.answers.specs.declared.Setup553.{Setup553}
use Rattle.answers.specs.declared.Setup553.TheVariants as setup
use Rattle.answers.specs.declared.SgmiiSetup.{SgmiiSetup}
use Rattle.reference.specs.X552.{restart_an}
use Rattle.arguments.specs.Change.{change}
use Rattle.kr.specs.Modify.{modify_of, resume_modify}
use Rattle.kr.specs.Sequence.{resume_sequence}
use Rattle.arguments.specs.declared.Change.{Change}
use Rattle.x553.specs.declared.sgmii.Sgmii.{Sgmii}
use Rattle.x553.specs.declared.sgmii.Sgmii.TheVariants as sgmii

-- what each call of `kr_modify` is for
abbrev pub ctrl_of : Change
ctrl_of = change 0x420c 0x20000700 0x3200

abbrev pub force_of : Change
force_of = change 0x42a0 0 0x81000

abbrev pub lane_of : Change
lane_of = change 0x5054 0x78000000 0x26000000

-- what comes after each
abbrev pub restart_then : SgmiiSetup → Call ℕ → Call Setup553
restart_then set t = t >> return (setup.Sgmii set)

abbrev pub lane_then : Port → ℕ → ℕ → Call ℕ → Call Setup553
lane_then port lc1 forced t = t >>= λ lane. restart_then (record { link_ctrl = lc1; sgmii = forced; flx = lane }) (restart_an port.pause port)

abbrev pub force_then : Port → ℕ → Call ℕ → Call Setup553
force_then port lc1 t = t >>= λ forced. lane_then port lc1 forced (modify_of port lane_of)

abbrev pub ctrl_then : Port → Call ℕ → Call Setup553
ctrl_then port t = t >>= λ lc1. force_then port lc1 (modify_of port force_of)

abbrev pub resume_sgmii : Port → Sgmii → Res ℕ → Call Setup553
resume_sgmii port (sgmii.Ctrl s) got = ctrl_then port (resume_modify port ctrl_of s got)
resume_sgmii port (sgmii.Force lc1 s) got = force_then port lc1 (resume_modify port force_of s got)
resume_sgmii port (sgmii.Lane lc1 forced s) got = lane_then port lc1 forced (resume_modify port lane_of s got)
resume_sgmii port (sgmii.Restart set s) got = restart_then set (resume_sequence port s got)

abbrev pub set_of : Res SgmiiSetup → Res Setup553
set_of (Ok s) = Ok (setup.Sgmii s)
set_of (Err e) = Err e

abbrev pub told_sgmii : Port → List ℕ → Step Job Sgmii (Res SgmiiSetup) → Call Setup553
told_sgmii port b = told_job_by set_of port b (λ s got _. resume_sgmii port s got)
