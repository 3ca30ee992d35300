-- The words of a line
use Rattle.std.specs.Prelude.{ℕ, ◌≤◌, ◌<◌, Bool, ◌||◌, cond, List, [], ◌∷◌, ◌++◌, eqb, length, drop, Option, Some, None}
use Rattle.std.proofs.Math.Seq.{slice}

-- a space or a tab
abbrev pub is_blank : ℕ → Bool
is_blank b = eqb b 32 || eqb b 9

-- what stands between the blanks of a line, where `w` has been read before it; between two blanks in a row it is empty
unfoldable pub pieces : List ℕ → List ℕ → List (List ℕ)
pieces w [] = w ∷ []
pieces w (b ∷ bs) = cond (is_blank b) (w ∷ pieces [] bs) (pieces (w ++ b ∷ []) bs)

-- all but the empty ones
unfoldable pub full : List (List ℕ) → List (List ℕ)
full [] = []
full ([] ∷ ws) = full ws
full ((b ∷ w) ∷ ws) = (b ∷ w) ∷ full ws

-- the longest runs of bytes that are no blanks, in order
unfoldable pub words : List ℕ → List (List ℕ)
words line = full (pieces [] line)

-- the words from a found one on
abbrev pub found : List ℕ → Option (ℕ × ℕ) → List (List ℕ)
found line (Some (start, end)) = slice start end line ∷ words (drop end line)
found line None = []

-- a found word lies inside the line, at or after the place, and is not empty
abbrev pub Inside : ℕ → List ℕ → Option (ℕ × ℕ) → Type 0
Inside at line (Some (start, end)) = (at ≤ start) × (start < end) × (end ≤ length line)
Inside at line None = Unit {0}
