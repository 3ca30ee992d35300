-- Windows, two words at a time
use Prim.Native.Nat.{ℕ, ◌<◌, ◌≤◌}
use mathlib.Core.Path.{◌≡◌, refl, ap, ◌∙◌}
use mathlib.Core.Bool.{Bool, true, false, ◌&&◌, ◌||◌}
use mathlib.Core.List.{List, ◌++◌}
use lib.ListN.{length, drop}
use Rattle.std.specs.Prelude.{get_or}
use Rattle.hardware.proofs.TwoByTwo.{lone, first_two, just_two}
use Rattle.operations.specs.Windows.{holds, in_some, is_window, are_windows}

module _ (minute : ℕ) where
  abbrev some : (start end : ℕ) → Bool → Bool
  some start end rest = holds start end minute || rest

  pub half_holds : (ws : List ℕ) → 0 < length ws → length ws < 2 → in_some minute ws ≡ false
  half_holds ws h k = lone (in_some minute) ws h k

  pub first_holds : (p q : List ℕ) → 2 ≤ length p → holds (get_or p 0 0) (get_or p 1 0) minute ≡ true → in_some minute (p ++ q) ≡ true
  first_holds p q h k = first_two (in_some minute) some (λ x y ws. refl) p q h ∙ ap (λ (b : Bool). b || in_some minute (drop 2 (p ++ q))) k

  pub then_in : (p q : List ℕ) → length p ≡ 2 → holds (get_or p 0 0) (get_or p 1 0) minute ≡ false → in_some minute (p ++ q) ≡ in_some minute q
  then_in p q h k = just_two (in_some minute) some (λ x y ws. refl) p q h ∙ ap (λ (b : Bool). b || in_some minute q) k

abbrev each : (start end : ℕ) → Bool → Bool
each start end rest = is_window start end && rest

pub half_bad : (ws : List ℕ) → 0 < length ws → length ws < 2 → are_windows ws ≡ false
half_bad ws h k = lone are_windows ws h k

pub first_bad : (p q : List ℕ) → 2 ≤ length p → is_window (get_or p 0 0) (get_or p 1 0) ≡ false → are_windows (p ++ q) ≡ false
first_bad p q h k = first_two are_windows each (λ x y ws. refl) p q h ∙ ap (λ (b : Bool). b && are_windows (drop 2 (p ++ q))) k

pub then_windows : (p q : List ℕ) → length p ≡ 2 → is_window (get_or p 0 0) (get_or p 1 0) ≡ true → are_windows (p ++ q) ≡ are_windows q
then_windows p q h k = just_two are_windows each (λ x y ws. refl) p q h ∙ ap (λ (b : Bool). b && are_windows q) k
