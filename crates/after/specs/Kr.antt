-- What is left of an operation of the KR registers once its access has given a word
use Rattle.hardware.specs.Talk.{Talk, Res}
use Rattle.std.specs.Prelude.{ℕ}
use Rattle.hardware.specs.declared.Port.{Port}
use Rattle.answers.specs.declared.Value.TheVariants as value
use Rattle.reference.specs.Out.{Out, answer}
use Rattle.kr.specs.Modify.{resume_modify}
use Rattle.kr.specs.Sequence.{resume_sequence}
use Rattle.after.specs.declared.kr_registers.Kr.{Kr}
use Rattle.after.specs.declared.kr_registers.Kr.TheVariants as kr

abbrev pub resume_kr : Port → Kr → Res ℕ → Talk Out
resume_kr port (kr.Modify c s) got = answer value.Word (resume_modify port c s got)
resume_kr port (kr.Sequence s) got = answer value.Word (resume_sequence port s got)
