-- The reply that is due
use Rattle.std.specs.Prelude.{ℕ, ◌≡◌, List, Option, Some, None, Result, Ok, Err}
use Rattle.hardware.specs.Numbers.{stop_number}
use Rattle.hardware.specs.declared.Action.{Action}
use Rattle.hardware.specs.declared.Stop.TheVariants as stop
use Rattle.drive.specs.Act.{uses}
use Rattle.text.specs.Words.{words}
use Rattle.lines.specs.Reply.{reply_of}
use Rattle.streams.specs.Part.{part_of}
use Rattle.streams.specs.Input.{Fetches}
use Rattle.streams.specs.declared.due.Answered.{Answered}
use Rattle.streams.specs.declared.input.Input.{Input}
use Rattle.streams.specs.declared.input.Fetched.{Fetched}
use Rattle.streams.specs.declared.input.Next.{Next}
use Rattle.streams.specs.declared.input.Next.TheVariants.{Line, Ended, Long}
use Rattle.streams.specs.declared.due.Fault.{Fault}
use Rattle.streams.specs.declared.due.Fault.TheVariants.{BadLine, NoReply}

abbrev pub number : Fault → ℕ
number BadLine = stop_number stop.BadReply
number NoReply = stop_number stop.NoReply

abbrev pub due_reply : Option (ℕ × ℕ) → Result (ℕ × ℕ) Fault
due_reply (Some pair) = Ok pair
due_reply None = Err BadLine

-- 26 where no line is left, 25 where it cannot be read
abbrev pub due_of : List ℕ → Next → Result (ℕ × ℕ) Fault
due_of buf (Line start end) = due_reply (reply_of (words (part_of buf start end)))
due_of buf Ended = Err NoReply
due_of buf Long = Err BadLine

-- what an action that takes a reply is answered
abbrev pub answered : Result (ℕ × ℕ) Fault → Result (Option (ℕ × ℕ)) Fault
answered (Ok pair) = Ok (Some pair)
answered (Err fault) = Err fault

abbrev pub answered_of : List ℕ → Fetched → Answered
answered_of buf f = record { due = answered (due_of buf f.next); input = f.input }

-- what a pending action is answered: nothing for a wait, else what the next line says, which may be read for it
pub record Due (a : Action) (old : List ℕ) (i : Input) (new : List ℕ) (r : Answered) : Type 0 where
  pub none : uses a ≡ 0 → (r ≡ record { due = Ok None; input = i }) × (new ≡ old)
  pub due : (uses a ≡ 0 → ⊥) → (f : Fetched) × (Fetches old i new f) × (r ≡ answered_of new f)
