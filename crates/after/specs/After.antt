-- What is left of an operation once its access has given a word, and the words of the host block that belong to it
use Rattle.jobs.specs.declared.job.Job.{Job}
use Rattle.hardware.specs.declared.Step.{Step}
use Rattle.hardware.specs.Talk.{Talk, Res, end, or_stop, return}
use Rattle.std.specs.Prelude.{ℕ, List, [], take}
use Rattle.hardware.specs.Block.{keep}
use Rattle.hardware.specs.Block as blk
use Rattle.hardware.specs.declared.Port.{Port}
use Rattle.answers.specs.declared.Value.TheVariants as value
use Rattle.reference.specs.Hardware.{vetoed, linked}
use Rattle.reference.specs.Mdio.{speeds_of}
use Rattle.reference.specs.Out.{Out, answer, nothing, poll_value}
use Rattle.jobs.specs.Token.{status_of}
use Rattle.jobs.specs.Token.{token_got}
use Rattle.jobs.specs.Job.{told_job_by}
use Rattle.activity.specs.Activity.{resume_activity}
use Rattle.watch.specs.Poll.{resume_poll}
use Rattle.bringup.specs.Bringup.{resume_bringup}
use Rattle.after.specs.Kr.{resume_kr}
use Rattle.after.specs.Mdio.{resume_mdio}
use Rattle.after.specs.declared.After.{After}
use Rattle.jobs.specs.declared.job.Ended.{Ended}
use Rattle.answers.specs.declared.Value.{Value}
use Rattle.after.specs.declared.After.TheVariants as after

abbrev pub after_nothing : Res ℕ → Talk Out
after_nothing got = answer nothing (or_stop (λ _. return tt) got)

abbrev pub after_word : Res ℕ → Talk Out
after_word got = answer value.Word (end got)

abbrev pub after_veto : Res ℕ → Talk Out
after_veto got = answer value.Flag (or_stop vetoed got)

abbrev pub after_link : Port → Res ℕ → Talk Out
after_link port got = answer value.Link (or_stop (linked port.family) got)

abbrev pub after_abilities : Res ℕ → Talk Out
after_abilities got = answer value.Abilities (or_stop (λ v. return (speeds_of v)) got)

abbrev pub after_command : ℕ → Res ℕ → List ℕ → Talk Out
after_command n got ws = blk.or_stop (λ status. blk.return (value.Command status n)) (status_of got) ws

abbrev pub after_list : ℕ → Res ℕ → List ℕ → Talk Out
after_list n got ws = blk.or_stop (λ _. blk.return (value.List n)) got ws

abbrev pub resume_after : Port → After → Res ℕ → List ℕ → Talk Out
resume_after port after.Nothing got ws = after_nothing got
resume_after port after.Word got ws = after_word got
resume_after port after.Veto got ws = after_veto got
resume_after port after.Link got ws = after_link port got
resume_after port after.Abilities got ws = after_abilities got
resume_after port (after.Command n) got ws = after_command n got ws
resume_after port (after.List n) got ws = after_list n got ws
resume_after port (after.Token take) got ws = answer value.Flag (token_got take got)
resume_after port (after.Activity asked s) got ws = answer value.Activity (resume_activity port asked s got ws)
resume_after port (after.Mdio s) got ws = resume_mdio port s got
resume_after port (after.Kr s) got ws = resume_kr port s got
resume_after port (after.Bringup veto s) got ws = keep (resume_bringup (record { port = port; veto = veto }) s got ws) []
resume_after port (after.Poll a s) got ws = answer poll_value (resume_poll port a s got)

-- an operation's end, with the words of the block that belong to it
abbrev pub out : List ℕ → Ended Value → Out
out b e = (e.answer, take e.words b)

abbrev pub told_after : Port → List ℕ → Step Job After (Ended Value) → Talk Out
told_after port b = told_job_by (out b) port b (λ s got ws. resume_after port s got ws)
