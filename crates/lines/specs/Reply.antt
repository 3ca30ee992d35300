-- A reply line, word by word
use Rattle.std.specs.Prelude.{ℕ, List, [], ◌∷◌, Option, None}
use Rattle.std.specs.Option.{option_map}
use Rattle.hardware.specs.Talk.{pick}
use Rattle.text.specs.Hex.{hex_word}
use Rattle.text.specs.Same.{same}

-- kind and value
abbrev pub value_of : ℕ → List (List ℕ) → Option (ℕ × ℕ)
value_of kind [] = None
value_of kind (w ∷ []) = option_map (λ value. (kind, value)) (hex_word 8 8 w)
value_of kind (w ∷ x ∷ ws) = None

-- `v` is kind 0, `f` kind 1
abbrev pub reply_of : List (List ℕ) → Option (ℕ × ℕ)
reply_of [] = None
reply_of (w ∷ ws) = pick (same w (118 ∷ [])) (value_of 0 ws) (pick (same w (102 ∷ [])) (value_of 1 ws) None)
