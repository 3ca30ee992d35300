-- What a suspended `kr_modify` still says, from what its job gives
use Rattle.jobs.specs.Job.{told_job}
use Rattle.hardware.specs.declared.Step.{Step}
use Rattle.hardware.specs.Talk.{Call, Res, end, and_then, ◌>>=◌, return}
use Rattle.std.specs.Prelude.{ℕ, List}
use Rattle.hardware.specs.declared.Port.{Port}
use Rattle.words.specs.Kr.{krm}
use Rattle.reference.specs.Mdio.{changed}
use Rattle.reference.specs.X552.{kr_modify, kr_modified}
use Rattle.jobs.specs.Job.{job_talk}
use Rattle.jobs.specs.declared.job.Job.{Job}
use Rattle.arguments.specs.declared.Change.{Change}
use Rattle.kr.specs.declared.modify.KrModify.{KrModify}
use Rattle.kr.specs.declared.modify.KrModify.TheVariants as modify

-- the Rust's function, of these arguments
abbrev pub modify_of : Port → Change → Call ℕ
modify_of port c = kr_modify port.pause port c.port0 c.keep c.set

abbrev pub got_modify : Port → Change → KrModify → ℕ → Call ℕ
got_modify port c modify.Reading v = kr_modified port.pause port (krm port.lan c.port0) (changed c.keep c.set v)
got_modify port c (modify.Writing value) v = return value

abbrev pub resume_modify : Port → Change → KrModify → Res ℕ → Call ℕ
resume_modify port c s got = end got >>= λ v. got_modify port c s v

abbrev pub begun_modify : Port → Change → List ℕ → Job → Call ℕ
begun_modify port c b job = and_then (job_talk port job b) (λ p. resume_modify port c modify.Reading p.0)

abbrev pub told_modify : Port → Change → List ℕ → Step Job KrModify (Res ℕ) → Call ℕ
told_modify port c b = told_job port b (λ s got _. resume_modify port c s got)
