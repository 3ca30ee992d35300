-- Where a line ends, and what of it is read
use Rattle.std.specs.Prelude.{ℕ, ◌+◌, ◌≤◌, ◌<◌, cond, List, [], ◌∷◌, ◌++◌, eqb, length, drop, Option, Some, None}

-- the place of the first newline, where the first byte of the list has the place `at`
unfoldable pub newline : ℕ → List ℕ → Option ℕ
newline at [] = None
newline at (b ∷ bs) = cond (eqb b 10) (Some at) (newline (at + 1) bs)

-- the first newline of a text at or after a place
abbrev pub line_end : List ℕ → ℕ → Option ℕ
line_end text from = newline from (drop from text)

-- what stands behind the last newline is a line unless it is empty
abbrev pub last_line : List ℕ → List (List ℕ)
last_line [] = []
last_line (b ∷ bs) = (b ∷ bs) ∷ []

-- the lines of a text, where `l` has been read before it; the last one may lack its newline
unfoldable pub lines_after : List ℕ → List ℕ → List (List ℕ)
lines_after l [] = last_line l
lines_after l (b ∷ bs) = cond (eqb b 10) (l ∷ lines_after [] bs) (lines_after (l ++ b ∷ []) bs)

abbrev pub lines : List ℕ → List (List ℕ)
lines text = lines_after [] text

-- a line without the one carriage return that may end it
unfoldable pub bare : List ℕ → List ℕ
bare [] = []
bare (b ∷ []) = cond (eqb b 13) [] (b ∷ [])
bare (b ∷ c ∷ bs) = b ∷ bare (c ∷ bs)

-- a newline that was found lies inside the text, at or after the place
abbrev pub Ahead : ℕ → List ℕ → Option ℕ → Type 0
Ahead from text (Some e) = (from ≤ e) × (e < length text)
Ahead from text None = Unit {0}
