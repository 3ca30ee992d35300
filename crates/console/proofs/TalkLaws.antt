-- A listing's turns, and what they print
use Rattle.std.proofs.Common.{◌≡◌, ℕ, suc, ◌+◌, ◌-◌, ◌^◌, Bool, List, [], ◌∷◌, Option, Some, None, Result, Ok, Err, IfOk, OnOk, is_some, false, true≢false, drop, replicate, refl, subst, arith, ◌∙◌}
use Rattle.std.specs.Option.{unwrap_or}
use Rattle.hardware.specs.Numbers.{stop_number}
use Rattle.hardware.specs.declared.Action.{Action}
use Rattle.hardware.specs.declared.Stop.TheVariants.{AfterEnd}
use Rattle.hardware.specs.declared.Port.{Port}
use Rattle.trace.specs.declared.operation.OperationLine.{OperationLine}
use Rattle.streams.specs.Input.{Fetches}
use Rattle.streams.specs.declared.input.Fetched.{Fetched}
use Rattle.std.proofs.Math.Seq.{sets}
use Rattle.text.specs.Words.{words}
use Rattle.trace.specs.Arguments.{numbers}
use Rattle.trace.specs.Operation.{operation_of}
use Rattle.lines.specs.Port.{port_of}
use Rattle.streams.specs.Part.{line_of}
use Rattle.console.specs.Opened.{Opened, Listing}
use Rattle.calls.specs.Conversation.{asked_of}
use Rattle.console.specs.Moved.{conv_at, behind}
use Rattle.streams.specs.Due.{number, Due}
use Rattle.streams.specs.Output.{Prints}
use Rattle.streams.specs.declared.input.Input.{Input}
use Rattle.streams.specs.declared.due.Answered.{Answered}
use Rattle.streams.specs.declared.due.Fault.{Fault}
use Rattle.streams.proofs.OutputLaws.{prints_on, prints_none}
use Rattle.console.specs.Turn.{ran_three, printed}
use Rattle.console.specs.Ahead.{ran_from, Ahead}
use Rattle.console.specs.Ending.{last_text}
use Rattle.console.specs.Talk.{Acted, Onward, Talks, Turns, Listed}
use Rattle.console.specs.Talk.Onward.{ended, stopped, acted}
use Rattle.console.specs.Talk.Talks.{begins, goes_on}
use Rattle.console.specs.declared.moved.Moved.{Moved}

-- ---- a turn, and what it prints

pub turn_ended : {from : Moved} {old : List ℕ} {known : Option (List ℕ)} {waiting : List ℕ} {r : Option Action} {n : ℕ} → r ≡ None
    → asked_of (conv_at from).talk ≡ r → stop_number AfterEnd ≡ n
    → (text : List ℕ) × Onward from old old text from (Some n) × Prints known waiting text known waiting
turn_ended {from} {old} e asks h =
    ([], subst (λ (n : ℕ). Onward from old old [] from (Some n)) h (ended (asks ∙ e) refl), prints_none)

module _ {from : Moved} {old new : List ℕ} {known : Option (List ℕ)} {waiting : List ℕ} where
  module _ {a : Action} {asked : Option Action} {r : Answered} (e : asked ≡ Some a) (asks : asked_of (conv_at from).talk ≡ asked)
      (d : Due a old from.input new r) where
    pub turn_stopped : {fault : Fault} {n : ℕ} → r.due ≡ Err fault → number fault ≡ n
        → (text : List ℕ) × Onward from old new text (behind from r.input) (Some n) × Prints known waiting text known waiting
    turn_stopped f h =
        let due = subst (λ d. Due a old from.input new (record { due = d; input = r.input })) f d in
        ([], subst (λ (n : ℕ). Onward from old new [] (behind from r.input) (Some n)) h (stopped (asks ∙ e) due), prints_none)

    pub turn_acted : {reply : Option (ℕ × ℕ)} {pair : ℕ × ℕ} {one to : Moved} {mid last : Option (List ℕ)} {then left : List ℕ}
        → r.due ≡ Ok reply → pair ≡ unwrap_or reply (0, 0) → Acted (behind from r.input) pair one → Ahead one new to
        → Prints known waiting (printed (ran_three from (pair.0 ∷ pair.1 ∷ []))) mid then
        → Prints mid then (printed (ran_from one new)) last left
        → (text : List ℕ) × Onward from old new text to None × Prints known waiting text last left
    turn_acted f h one ahead p q =
        let due = subst (λ d. Due a old from.input new (record { due = d; input = r.input })) f d in
        (_, acted (asks ∙ e) due h one ahead, prints_on p q)

-- ---- turns in order

-- with what they print
abbrev pub Went : Moved → List ℕ → ℕ → Moved → Option ℕ → List ℕ → Option (List ℕ) → List ℕ → Option (List ℕ) → List ℕ → Type 0
Went from old most to number new known waiting last left =
    (text : List ℕ) × Turns from old most to number new text × Prints known waiting text last left

none_is : (n : Option ℕ) → is_some n ≡ false → n ≡ None
none_is None e = refl
none_is (Some n) e = absurd (true≢false e)

module _ {from : Moved} {old : List ℕ} {known : Option (List ℕ)} {waiting : List ℕ} where
  pub went_none : Went from old 0 from None old known waiting known waiting
  went_none = ([], record { turns = 0; way = begins; stops = λ h. refl }, prints_none)

  pub went_on : {most : ℕ} {mid to : Moved} {n number : Option ℕ} {buf new : List ℕ} {then last : Option (List ℕ)} {waits left : List ℕ}
      → Went from old most mid n buf known waiting then waits → is_some n ≡ false
      → (text : List ℕ) × Onward mid buf new text to number × Prints then waits text last left
      → Went from old (most + 1) to number new known waiting last left
  went_on {most} {mid} {n = n} {buf = buf} w e more =
      let t = w.1 in
      let way : Talks from old t.turns w.0 mid None buf = subst (λ n. Talks from old t.turns w.0 mid n buf) (none_is n e) t.way in
      let turns : t.turns ≡ most = t.stops (none_is n e) in
      (_, record { turns = suc t.turns; way = goes_on way more.1; stops = λ h. omega (arith, turns) }, prints_on w.2 more.2)

  pub went_all : {most m : ℕ} {to : Moved} {number : Option ℕ} {new : List ℕ} {last : Option (List ℕ)} {left : List ℕ}
      → Went from old most to number new known waiting last left → (number ≡ None → most ≡ m)
      → Went from old m to number new known waiting last left
  went_all w m =
      let t = w.1 in
      (w.0, record { turns = t.turns; way = t.way; stops = λ h. t.stops h ∙ m h }, w.2)

  pub listed : {E : Type 0} {to : Moved} {number : Option ℕ} {new : List ℕ} {then : Option (List ℕ)} {waits : List ℕ} (r : Result Input E)
      (asked : Bool) (last : Option (List ℕ)) (left : List ℕ)
      → Went from old (2 ^ 64 - 1) to number new known waiting then waits → IfOk r (λ rest. rest ≡ to.input)
      → OnOk r (Prints then waits (last_text to number asked) last left)
      → IfOk r (λ rest. (text : List ℕ) × Listed from old new asked text rest × Prints known waiting text last left)
  listed (Err e) asked last left w h p = tt
  listed {to = to} {number} (Ok rest) asked last left w h p =
      (_, record { said = w.0; at = to; number = number; turns = w.1; prints = refl; leaves = h }, prints_on w.2 p)

-- ---- the two lines that begin it

pub reads_lines : {E : Type 0} (r : Result Input E) (P : List ℕ → Type 0) (new : List ℕ) (asked : Bool) {old mid last line line₂ args : List ℕ}
    {i : Input} {first second : Fetched} {port : Option Port} {what : Option OperationLine}
    → Fetches old i mid first → line_of mid first.next ≡ line → port_of (words line) ≡ port
    → Fetches mid first.input last second → line_of last second.next ≡ line₂ → operation_of (words line₂) ≡ what
    → args ≡ sets (replicate 7282 0) 0 (numbers (drop 1 (words line₂)))
    → IfOk r (λ rest. (text : List ℕ) × Opened port what args second.input asked last new text rest × P text)
    → IfOk r (λ rest. (text : List ℕ) × Listing old i asked new text rest × P text)
reads_lines (Err e) P new asked f a b g c d h w = tt
reads_lines (Ok rest) P new asked {mid = mid} {last} {first = first} {second} f a b g c d h w = (
  w.0,
  record { first = first; second = second; mid = mid; last = last; fetched = f; then_fetched = g; opened = rw (a, b, c, d, ← h) w.1 },
  w.2,
)
