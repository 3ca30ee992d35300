-- What a step says from here on: its answer, or what it asks for and how its state goes on from the reply
use Rattle.hardware.specs.Talk.{Talk, Reply, end, ask}
use Rattle.hardware.specs.declared.Action.{Action}
use Rattle.hardware.specs.declared.Step.{Step}
use Rattle.hardware.specs.declared.Step.TheVariants.{Ask, Done}

abbrev pub told : {S A : Type 0} → (S → Reply → Talk A) → Step Action S A → Talk A
told resume (Ask a s) = ask a (resume s)
told resume (Done r) = end r

-- the same where something is made of its answer
abbrev pub told_by : {S A B : Type 0} → (A → B) → (S → Reply → Talk B) → Step Action S A → Talk B
told_by give resume (Ask a s) = ask a (resume s)
told_by give resume (Done r) = end (give r)
