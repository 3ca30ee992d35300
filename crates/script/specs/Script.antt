-- The reply at a place of a script
use Rattle.std.specs.Prelude.{ℕ, ◌+◌, cond, List, leb, length, get_or, Option, Some, None}

-- its two words, where the script has both
unfoldable pub pair_at : List ℕ → ℕ → Option (ℕ × ℕ)
pair_at rs at = cond (leb (at + 2) (length rs)) (Some (get_or rs at 0, get_or rs (at + 1) 0)) None
