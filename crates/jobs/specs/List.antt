-- A list's words: they stand behind the 16 of the host block. A pair of device and register is one word, until its value takes its
-- place
use Rattle.std.specs.Prelude.{ℕ, ◌+◌, ◌*◌, ◌/◌, ◌%◌, List, [], ◌∷◌, drop}

unfoldable pub list_of : List ℕ → List ℕ
list_of b = drop 16 b

-- of each the lower half: no more is let through
abbrev pub pair_word : ℕ → ℕ → ℕ
pair_word device register = device % 0x10000 * 0x10000 + register % 0x10000

abbrev pub pairs_in : List ℕ → List (ℕ × ℕ)
pairs_in [] = []
pairs_in (w ∷ ws) = (w / 0x10000, w % 0x10000) ∷ pairs_in ws
