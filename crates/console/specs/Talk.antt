-- A listing's turns, and what they print
use Rattle.std.specs.Prelude.{ℕ, suc, ◌-◌, ◌^◌, ◌≡◌, Bool, List, [], ◌∷◌, ◌++◌, Option, Some, None, Ok, Err}
use Rattle.std.specs.Option.{unwrap_or}
use Rattle.hardware.specs.Numbers.{stop_number}
use Rattle.hardware.specs.declared.Action.{Action}
use Rattle.hardware.specs.declared.Stop.TheVariants.{AfterEnd}
use Rattle.calls.specs.Conversation.{asked_of}
use Rattle.calls.specs.Run.{left}
use Rattle.console.specs.Moved.{conv_at, behind}
use Rattle.streams.specs.Due.{number, Due}
use Rattle.streams.specs.declared.input.Input.{Input}
use Rattle.streams.specs.declared.due.Fault.{Fault}
use Rattle.console.specs.Turn.{ran_three, printed}
use Rattle.console.specs.Ahead.{ran_from, Ahead}
use Rattle.console.specs.Ending.{last_text}
use Rattle.console.specs.declared.moved.Moved.{Moved}

-- one action is done with a reply's two words
pub record Acted (from : Moved) (pair : ℕ × ℕ) (m : Moved) : Type 0 where
  pub to : conv_at m ≡ left (ran_three from (pair.0 ∷ pair.1 ∷ []))
  pub input : m.input ≡ from.input

-- a turn, with what it prints, where it comes to, and the number that the listing stops with, none where it goes on: one action is
-- done with the reply that is due, and then those of the replies that are there
pub data Onward (from : Moved) (old new : List ℕ) : List ℕ → Moved → Option ℕ → Type 0 where
  ended : asked_of (conv_at from).talk ≡ None → new ≡ old → Onward from old new [] from (Some (stop_number AfterEnd))
  stopped : {a : Action} {fault : Fault} {i : Input} → asked_of (conv_at from).talk ≡ Some a
      → Due a old from.input new (record { due = Err fault; input = i })
      → Onward from old new [] (behind from i) (Some (number fault))
  acted : {a : Action} {reply : Option (ℕ × ℕ)} {pair : ℕ × ℕ} {i : Input} {one to : Moved} → asked_of (conv_at from).talk ≡ Some a
      → Due a old from.input new (record { due = Ok reply; input = i }) → pair ≡ unwrap_or reply (0, 0)
      → Acted (behind from i) pair one → Ahead one new to
      → Onward from old new (printed (ran_three from (pair.0 ∷ pair.1 ∷ [])) ++ printed (ran_from one new)) to None

-- so many turns in order, from the first conversation and buffer to the last
pub data Talks (from : Moved) (old : List ℕ) : ℕ → List ℕ → Moved → Option ℕ → List ℕ → Type 0 where
  begins : Talks from old 0 [] from None old
  goes_on : {n : ℕ} {text more : List ℕ} {mid to : Moved} {number : Option ℕ} {buf new : List ℕ}
      → Talks from old n text mid None buf → Onward mid buf new more to number → Talks from old (suc n) (text ++ more) to number new

-- turns with what they print: `most` of them, unless one stops the listing
pub record Turns (from : Moved) (old : List ℕ) (most : ℕ) (to : Moved) (number : Option ℕ) (new : List ℕ) (text : List ℕ) : Type 0 where
  pub turns : ℕ
  pub way : Talks from old turns text to number new
  pub stops : number ≡ None → turns ≡ most

-- a listing with all that it prints: its turns, of which one stops it, and the last lines
pub record Listed (from : Moved) (old new : List ℕ) (asked : Bool) (text : List ℕ) (rest : Input) : Type 0 where
  pub said : List ℕ
  pub at : Moved
  pub number : Option ℕ
  pub turns : Turns from old (2 ^ 64 - 1) at number new said
  pub prints : text ≡ said ++ last_text at number asked
  pub leaves : rest ≡ at.input
