-- The kinds of arguments of an operation line
use Rattle.std.specs.Prelude.{ℕ, Bool, List, [], ◌∷◌, eqb, leb, Option, Some, None}
use Rattle.std.specs.Option.{option_and_then, option_map}
use Rattle.hardware.specs.Talk.{pick}
use Rattle.operations.specs.declared.Operation.{Operation}

-- the operation that a line names, and how many of the argument words, the last, are lent to it: a host block, or windows
abbrev pub Line : Type 0
Line = Option (Operation × ℕ)

-- Arguments are taken one by one from the values of the words behind the name. At the end no word is left, and none is lent
unfoldable pub no_more : Operation → List ℕ → Line
no_more what [] = Some (what, 0)
no_more what (v ∷ vs) = None

-- any word, and those behind it
unfoldable pub word_of : List ℕ → Option (ℕ × List ℕ)
word_of [] = None
word_of (v ∷ vs) = Some (v, vs)

-- a word whose upper half is clear
unfoldable pub half_of : List ℕ → Option (ℕ × List ℕ)
half_of vs = option_and_then (λ p. pick (leb p.0 0xffff) (Some p) None) (word_of vs)

-- 0 or 1
unfoldable pub truth_of : List ℕ → Option (Bool × List ℕ)
truth_of vs = option_and_then (λ p. pick (leb p.0 1) (Some (eqb p.0 1, p.1)) None) (word_of vs)

-- 0 where there is none, or 1 and then its own
abbrev pub given_of : {A : Type 0} → (List ℕ → Option (A × List ℕ)) → List ℕ → Option (Option A × List ℕ)
given_of own vs =
    option_and_then (λ p. pick (eqb p.0 0) (Some (None, p.1)) (pick (eqb p.0 1) (option_map (λ q. (Some q.0, q.1)) (own p.1)) None))
    (word_of vs)

unfoldable pub maybe_of : List ℕ → Option (Option Bool × List ℕ)
maybe_of = given_of truth_of

unfoldable pub status_of : List ℕ → Option (Option ℕ × List ℕ)
status_of = given_of half_of

-- what goes on from an argument that was taken
abbrev pub with : {A : Type 0} → (List ℕ → Option (A × List ℕ)) → (A → List ℕ → Line) → List ℕ → Line
with taken next vs = option_and_then (λ p. next p.0 p.1) (taken vs)

abbrev pub with_word : (ℕ → List ℕ → Line) → List ℕ → Line
with_word = with word_of

abbrev pub with_half : (ℕ → List ℕ → Line) → List ℕ → Line
with_half = with half_of

abbrev pub with_truth : (Bool → List ℕ → Line) → List ℕ → Line
with_truth = with truth_of

abbrev pub with_maybe : (Option Bool → List ℕ → Line) → List ℕ → Line
with_maybe = with maybe_of

abbrev pub with_status : (Option ℕ → List ℕ → Line) → List ℕ → Line
with_status = with status_of
