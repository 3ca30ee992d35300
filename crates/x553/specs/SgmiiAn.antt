-- What a suspended `sgmii_an` still says, from what its job gives
use Rattle.jobs.specs.declared.job.Job.{Job}
use Rattle.jobs.specs.Job.{told_job}
use Rattle.hardware.specs.declared.Step.{Step}
use Rattle.hardware.specs.Talk.{Call, Res, end, ◌>>=◌, ◌>>◌, return}
use Rattle.std.specs.Prelude.{ℕ, List}
use Rattle.hardware.specs.declared.Port.{Port}
use Rattle.words.specs.Kr.{krm}
use Rattle.reference.specs.X552.{kr_write, restart_an}
use Rattle.arguments.specs.Change.{change}
use Rattle.kr.specs.Modify.{modify_of, resume_modify}
use Rattle.kr.specs.Sequence.{resume_sequence}
use Rattle.arguments.specs.declared.Change.{Change}
use Rattle.x553.specs.declared.sgmii_an.SgmiiAn.{SgmiiAn}
use Rattle.x553.specs.declared.sgmii_an.SgmiiAn.TheVariants as sgmii

-- what each call of `kr_modify` is for
abbrev pub ctrl_of : Change
ctrl_of = change 0x420c 0x20000700 0x3000

abbrev pub force_of : Change
force_of = change 0x42a0 0x81000 0

abbrev pub lane_of : Change
lane_of = change 0x5054 0x78000000 0x46000000

-- what comes after each
abbrev pub restart_then : ℕ → Call ℕ → Call ℕ
restart_then flx t = t >> return flx

abbrev pub lane_then : Port → Call ℕ → Call ℕ
lane_then port t = t >>= λ flx. restart_then flx (restart_an port.pause port)

-- LINK_CTRL_1 is written again, as it was written first
abbrev pub force_then : Port → ℕ → Call ℕ → Call ℕ
force_then port lc1 t = t >> (kr_write port.pause port (krm port.lan 0x420c) lc1 >> lane_then port (modify_of port lane_of))

abbrev pub ctrl_then : Port → Call ℕ → Call ℕ
ctrl_then port t = t >>= λ lc1. force_then port lc1 (modify_of port force_of)

abbrev pub got_again : Port → Res ℕ → Call ℕ
got_again port got = end got >>= λ _. lane_then port (modify_of port lane_of)

abbrev pub resume_sgmii_an : Port → SgmiiAn → Res ℕ → Call ℕ
resume_sgmii_an port (sgmii.Ctrl s) got = ctrl_then port (resume_modify port ctrl_of s got)
resume_sgmii_an port (sgmii.Force lc1 s) got = force_then port lc1 (resume_modify port force_of s got)
resume_sgmii_an port sgmii.Again got = got_again port got
resume_sgmii_an port (sgmii.Lane s) got = lane_then port (resume_modify port lane_of s got)
resume_sgmii_an port (sgmii.Restart flx s) got = restart_then flx (resume_sequence port s got)

abbrev pub told_sgmii_an : Port → List ℕ → Step Job SgmiiAn (Res ℕ) → Call ℕ
told_sgmii_an port b = told_job port b (λ s got _. resume_sgmii_an port s got)
