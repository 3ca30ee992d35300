-- The rows of a table
use Rattle.std.specs.Prelude.{ℕ, Bool, ◌&&◌, List, [], ◌∷◌, leb, eqb}
use Rattle.profile_table.specs.declared.row.Row.{Row}

abbrev pub row : ℕ → ℕ → ℕ → ℕ → Row
row device first last profile = record { device = device; first = first; last = last; profile = profile }

-- four words a row; a last row that is cut off has no profile
unfoldable pub rows_of : List ℕ → List Row
rows_of [] = []
rows_of (device ∷ first ∷ last ∷ profile ∷ ws) = row device first last profile ∷ rows_of ws
rows_of (w ∷ ws) = row 0 0 0 0 ∷ []

-- device and versions of 16 bits, first up to last, a profile from 1 to 255
abbrev pub is_good : Row → Bool
is_good r = leb r.device 65535 && leb r.first r.last && leb r.last 65535 && leb 1 r.profile && leb r.profile 255

-- a version of a device lies in the row
abbrev pub covers : ℕ → ℕ → Row → Bool
covers device version r = eqb r.device device && leb r.first version && leb version r.last
