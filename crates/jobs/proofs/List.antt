-- A list's words, where others of the block are written
use Prim.Native.Nat.{ℕ}
use mathlib.Core.Path.{◌≡◌, refl}
use mathlib.Core.List.{List, [], ◌∷◌, ◌++◌}
use native.Mathlib.Omega.{arith}
use lib.ListN.{length, drop}
use Rattle.jobs.specs.List.{list_of}

-- the token's two words
pub list_kept : (p b : List ℕ) → length p ≡ 2 → list_of (p ++ drop 2 b) ≡ list_of b
unfolding list_of
list_kept [] b h = absurd (omega (arith, h))
list_kept (x ∷ []) b h = absurd (omega (arith, h))
list_kept (x ∷ y ∷ []) [] h = refl
list_kept (x ∷ y ∷ []) (v ∷ []) h = refl
list_kept (x ∷ y ∷ []) (v ∷ w ∷ b) h = refl
list_kept (x ∷ y ∷ z ∷ p) b h = absurd (omega (arith, h))
