-- A listing from the port's line on
use Rattle.std.specs.Prelude.{ℕ, ◌≡◌, Bool, true, List, Option, Some, None, take, drop, replicate}
use Rattle.std.proofs.lemmas.List.Edits.{sets}
use Rattle.hardware.specs.declared.Port.{Port}
use Rattle.text.specs.Words.{words}
use Rattle.operations.specs.declared.Operation.{Operation}
use Rattle.trace.specs.declared.operation.OperationLine.{OperationLine}
use Rattle.trace.specs.Arguments.{numbers}
use Rattle.trace.specs.Operation.{operation_of}
use Rattle.lines.specs.Port.{port_of}
use Rattle.lines.specs.Listing.{stop_text}
use Rattle.calls.specs.Conversation.{begun}
use Rattle.console.specs.Moved.{conv_at, lent_at}
use Rattle.streams.specs.Part.{line_of}
use Rattle.streams.specs.Due.{number}
use Rattle.streams.specs.Input.{Fetches}
use Rattle.streams.specs.declared.due.Fault.TheVariants.{BadLine}
use Rattle.streams.specs.declared.input.Input.{Input}
use Rattle.streams.specs.declared.input.Fetched.{Fetched}
use Rattle.console.specs.Talk.{Listed}
use Rattle.console.specs.declared.moved.Moved.{Moved}

-- one line alone, where a line was missing or cannot be read
pub record Refused (i : Input) (old new text : List ℕ) (rest : Input) : Type 0 where
  pub buffer : new ≡ old
  pub prints : text ≡ stop_text (number BadLine) 0 0
  pub leaves : rest ≡ i

-- the listing of what `begin` makes
pub record Begins (port : Port) (what : Operation) (lent : List ℕ) (i : Input) (asked : Bool) (old new text : List ℕ) (rest : Input) : Type 0 where
  pub from : Moved
  pub begins : conv_at from ≡ begun port what lent
  pub has_all : lent_at from ≡ true
  pub there : from.input ≡ i
  pub listed : Listed from old new asked text rest

abbrev pub Opened : Option Port → Option OperationLine → List ℕ → Input → Bool → List ℕ → List ℕ → List ℕ → Input → Type 0
Opened (Some port) (Some what) args i asked old new text rest = Begins port what.what (take what.words (drop what.from args)) i asked old new text rest
Opened (Some port) None args i asked old new text rest = Refused i old new text rest
Opened None what args i asked old new text rest = Refused i old new text rest

-- what the two lines say
abbrev pub port_in : List ℕ → Fetched → Option Port
port_in buf f = port_of (words (line_of buf f.next))

abbrev pub what_in : List ℕ → Fetched → Option OperationLine
what_in buf f = operation_of (words (line_of buf f.next))

abbrev pub args_in : List ℕ → Fetched → List ℕ
args_in buf f = sets (replicate 7282 0) 0 (numbers (drop 1 (words (line_of buf f.next))))

pub record Listing (old : List ℕ) (i : Input) (asked : Bool) (new text : List ℕ) (rest : Input) : Type 0 where
  pub first : Fetched
  pub second : Fetched
  pub mid : List ℕ
  pub last : List ℕ
  pub fetched : Fetches old i mid first
  pub then_fetched : Fetches mid first.input last second
  pub opened : Opened (port_in mid first) (what_in last second) (args_in last second) second.input asked last new text rest
