-- Equal lists of bytes
use Rattle.std.specs.Prelude.{ℕ, Bool, true, false, ◌&&◌, List, [], ◌∷◌, eqb}
use Rattle.std.proofs.Math.Seq.{slice}
use Rattle.text.specs.Parts.{has_part}

unfoldable pub same : List ℕ → List ℕ → Bool
same [] [] = true
same [] (y ∷ ys) = false
same (x ∷ xs) [] = false
same (x ∷ xs) (y ∷ ys) = eqb x y && same xs ys

-- a part of a line that is there, and is this name
unfoldable pub is_part : List ℕ → ℕ → ℕ → List ℕ → Bool
is_part line start end name = has_part start end line && same (slice start end line) name
