-- What is left of the lock that a conversation stands in, and what a run has to do with it
use Rattle.hardware.specs.Talk.{Talk, Res, ask, end}
use Rattle.std.specs.Prelude.{◌≡◌, ℕ, Bool, true, false, List, [], ◌++◌, Ok}
use Rattle.hardware.specs.declared.Action.{Action}
use Rattle.hardware.specs.declared.Family.{Family}
use Rattle.hardware.specs.declared.Port.{Port}
use Rattle.hardware.specs.declared.Step.{Step}
use Rattle.hardware.specs.declared.Step.TheVariants as step
use Rattle.access.specs.Access.{resume_access}
use Rattle.answers.specs.declared.Value.{Value}
use Rattle.calls.specs.Run.{Run}
use Rattle.jobs.specs.declared.job.Ended.{Ended}
use Rattle.reference.specs.Out.{Out}
use Rattle.long.specs.Command.{resume_long}
use Rattle.started.specs.declared.operation.Op.{Op}
use Rattle.started.specs.declared.standing.Standing.{Standing}
use Rattle.started.specs.declared.standing.Standing.TheVariants as standing
use Rattle.conversation.specs.declared.conversation.Conversation as code

-- the action that is due and what its access says behind it: to the last action of release, or of a wait by itself
abbrev pub hold_kept : Step Action Op (Ended Value) → List ℕ → Talk (Res ℕ × List ℕ)
hold_kept (step.Ask a op) b = ask a (λ r. resume_access op.access b r)
hold_kept (step.Done ended) b = end (Ok 0, [])

abbrev pub hold_at : Standing → (block words : List ℕ) → Talk (Res ℕ × List ℕ)
hold_at (standing.Kept step) b ws = hold_kept step b
hold_at (standing.Lent n a l) b ws = ask a (λ r. resume_long l ws r)
hold_at (standing.LentDone n status) b ws = end (Ok 0, [])

-- with the words that are lent now
abbrev pub hold_of : code.Conversation → List ℕ → Talk (Res ℕ × List ℕ)
hold_of c ws = hold_at c.place c.block ws

-- another family put into a port, and into a conversation's
abbrev pub of_family : Family → Port → Port
of_family f p = record { family = f; device = p.device; lan = p.lan; pause = p.pause }

abbrev pub in_family : Family → code.Conversation → code.Conversation
in_family f c = record { port = of_family f c.port; place = c.place; block = c.block; actions = c.actions; micros = c.micros }

abbrev pub still : {A : Type 0} → Talk A → Bool
still (ask a k) = true
still (end r) = false

-- a run does the actions of its hold's run, and others only once that has ended
pub record Through {A : Type 0} (hold : Run A) (whole : Run Out) : Type 0 where
  pub behind : List Action
  pub done : whole.done ≡ hold.done ++ behind
  pub none : still hold.talk ≡ true → behind ≡ []
