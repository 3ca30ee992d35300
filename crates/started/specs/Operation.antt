-- What a running operation still says
use Rattle.hardware.specs.Talk.{Talk, and_then, Reply}
use Rattle.std.specs.Prelude.{ℕ, List}
use Rattle.hardware.specs.declared.Port.{Port}
use Rattle.reference.specs.Out.{Out}
use Rattle.access.specs.Access.{resume_access}
use Rattle.after.specs.After.{out, resume_after}
use Rattle.jobs.specs.declared.job.Ended.{Ended}
use Rattle.answers.specs.declared.Value.{Value}
use Rattle.hardware.specs.declared.Action.{Action}
use Rattle.hardware.specs.declared.Step.{Step}
use Rattle.hardware.specs.Told.{told_by}
use Rattle.started.specs.declared.operation.Op.{Op}

-- what a running operation says, from the reply that it waits for, with the host block as it is now
abbrev pub resume_op : Port → Op → Reply → List ℕ → Talk Out
resume_op port op r b = and_then (resume_access op.access b r) (λ p. resume_after port op.after p.0 p.1)

abbrev pub told : Port → Step Action Op (Ended Value) → List ℕ → Talk Out
told port step b = told_by (out b) (λ op r. resume_op port op r b) step
