-- An operation's arguments, words of eight digits each
use Rattle.std.specs.Prelude.{ℕ, Bool, true, false, List, [], ◌∷◌, length, Option, Some, None}
use Rattle.hardware.specs.Talk.{pick}
use Rattle.text.specs.Hex.{hex_word}

abbrev pub before : List ℕ → Option ℕ → List ℕ
before vs (Some v) = v ∷ vs
before vs None = []

-- their values, up to the first that is no number
abbrev pub numbers : List (List ℕ) → List ℕ
numbers [] = []
numbers (w ∷ ws) = before (numbers ws) (hex_word 8 8 w)

abbrev pub is_number : Option ℕ → Bool → Bool
is_number (Some v) rest = rest
is_number None rest = false

abbrev pub all_numbers : List (List ℕ) → Bool
all_numbers [] = true
all_numbers (w ∷ ws) = is_number (hex_word 8 8 w) (all_numbers ws)

abbrev pub arguments_of : List (List ℕ) → Option ℕ
arguments_of ws = pick (all_numbers ws) (Some (length ws)) None
