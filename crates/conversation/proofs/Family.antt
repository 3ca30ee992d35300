-- The family is looked at between two locks and not in one
use Rattle.hardware.specs.Talk.{Talk, Reply, ask, end, and_then, pick}
use Prim.Native.Nat.{ℕ, ◌-◌}
use mathlib.Core.Bool.{Bool, true, false, true≢false}
use mathlib.Core.List.{List, [], ◌∷◌}
use mathlib.Core.Path.{◌≡◌, refl, ap, sym}
use lib.ListN.{length, drop}
use Rattle.std.proofs.Common.{nat_lt}
use Rattle.hardware.specs.declared.Stop.TheVariants.{NoReply, NoRoom}
use Rattle.drive.specs.Act.{uses, reply_for}
use Rattle.hardware.specs.declared.Action.{Action}
use Rattle.hardware.specs.declared.Family.{Family}
use Rattle.hardware.specs.declared.Step.TheVariants as step
use Rattle.reference.specs.Out.{Out}
use Rattle.calls.specs.Run.{Run, stopped, before, run_talk, bad}
use Rattle.calls.specs.Session.{run_of}
use Rattle.conversation.specs.Conversation.{conv_of}
use Rattle.hardware.specs.declared.Port.{Port}
use Rattle.hardware.specs.declared.Step.{Step}
use Rattle.answers.specs.declared.Value.{Value}
use Rattle.jobs.specs.declared.job.Ended.{Ended}
use Rattle.access.specs.Access.{resume_access}
use Rattle.after.specs.After.{resume_after}
use Rattle.started.specs.Operation.{told}
use Rattle.long.specs.Command.{resume_long}
use Rattle.started.specs.Standing.{command_answer, told_standing}
use Rattle.started.specs.declared.operation.Op.{Op}
use Rattle.started.specs.declared.standing.Standing.{Standing}
use Rattle.started.specs.declared.standing.Standing.TheVariants as standing
use Rattle.conversation.specs.Hold.{hold_kept, hold_at, hold_of, of_family, in_family, Through}
use Rattle.conversation.specs.declared.conversation.Conversation as code

module _ {A : Type 0} (k : A → Talk Out) where
  -- a turn of both, where the rest of both is so
  turns : (a : Action) (c : Reply → Talk A) (rs : List ℕ) (room : ℕ) (shut short : Bool) {hold : Run A} {whole : Run Out} → Through hold whole
      → Through (pick shut (stopped (ask a c) NoRoom) (pick short (stopped (ask a c) NoReply) (before a hold)))
      (pick shut (stopped (and_then (ask a c) k) NoRoom) (pick short (stopped (and_then (ask a c) k) NoReply) (before a whole)))
  turns a c rs room true short t = record { behind = []; done = refl; none = λ e. refl }
  turns a c rs room false true t = record { behind = []; done = refl; none = λ e. refl }
  turns a c rs room false false t = record { behind = t.behind; done = ap (λ (l : List Action). a ∷ l) t.done; none = t.none }

  pub through : (t : Talk A) (rs : List ℕ) (room : ℕ) → Through (run_talk t rs room) (run_talk (and_then t k) rs room)
  through (end r) rs room = record { behind = (run_talk (k r) rs room).done; done = refl; none = λ e. absurd (true≢false (sym e)) }
  through (ask a c) rs room =
      turns a c rs room (nat_lt room 3) (nat_lt (length rs) (uses a)) (through (c (reply_for a rs)) (drop (uses a) rs) (room - 3))

kept : (p : Port) (place : Step Action Op (Ended Value)) (b rs : List ℕ) (room : ℕ) → bad rs ≡ false
    → Through (run_talk (hold_kept place b) rs room) (run_of (told p place b) rs room)
kept p (step.Done ended) b rs room good = record { behind = []; done = refl; none = λ e. absurd (true≢false (sym e)) }
kept p (step.Ask a op) b rs room good = rw good (through (λ g. resume_after p op.after g.0 g.1) (ask a (λ r. resume_access op.access b r)) rs room)

held : (p : Port) (place : Standing) (b ws rs : List ℕ) (room : ℕ) → bad rs ≡ false
    → Through (run_talk (hold_at place b ws) rs room) (run_of (told_standing p place b ws) rs room)
held p (standing.Kept step) b ws rs room good = kept p step b rs room good
held p (standing.LentDone n status) b ws rs room good = record { behind = []; done = refl; none = λ e. absurd (true≢false (sym e)) }
held p (standing.Lent n a l) b ws rs room good = rw good (through (λ g. end (command_answer n g.0, g.1)) (ask a (λ r. resume_long l ws r)) rs room)

-- whatever family is put into its port, a conversation does the actions of its hold, and others only once that has ended
pub one_hold : (f : Family) (c : code.Conversation) (ws rs : List ℕ) (room : ℕ) → bad rs ≡ false
    → Through (run_talk (hold_of c ws) rs room) (run_of (conv_of c ws).talk rs room)
    × Through (run_talk (hold_of c ws) rs room) (run_of (conv_of (in_family f c) ws).talk rs room)
one_hold f c ws rs room good = (held c.port c.place c.block ws rs room good, held (of_family f c.port) c.place c.block ws rs room good)
