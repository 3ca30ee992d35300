-- A function of a list that takes its words two at a time
use Prim.Native.Nat.{ℕ, ◌<◌, ◌≤◌}
use mathlib.Core.Path.{◌≡◌, refl}
use mathlib.Core.List.{List, [], ◌∷◌, ◌++◌}
use native.Mathlib.Omega.{arith}
use lib.ListN.{length, get_or, drop}

module _ {B : Type 0} (f : List ℕ → B) where
  -- a word that has no second
  pub lone : (ws : List ℕ) → 0 < length ws → length ws < 2 → f ws ≡ f (get_or ws 0 0 ∷ [])
  lone [] h k = absurd (omega (arith, h))
  lone (w ∷ []) h k = refl
  lone (v ∷ w ∷ ws) h k = absurd (omega (arith, k))

  module _ (two : ℕ → ℕ → B → B) (by : (x y : ℕ) (ws : List ℕ) → f (x ∷ y ∷ ws) ≡ two x y (f ws)) where
    pub first_two : (p q : List ℕ) → 2 ≤ length p → f (p ++ q) ≡ two (get_or p 0 0) (get_or p 1 0) (f (drop 2 (p ++ q)))
    first_two [] q h = absurd (omega (arith, h))
    first_two (x ∷ []) q h = absurd (omega (arith, h))
    first_two (x ∷ y ∷ p) q h = by x y (p ++ q)

    pub just_two : (p q : List ℕ) → length p ≡ 2 → f (p ++ q) ≡ two (get_or p 0 0) (get_or p 1 0) (f q)
    just_two [] q h = absurd (omega (arith, h))
    just_two (x ∷ []) q h = absurd (omega (arith, h))
    just_two (x ∷ y ∷ []) q h = by x y q
    just_two (x ∷ y ∷ w ∷ p) q h = absurd (omega (arith, h))
