-- The pairs of words that are lent, two words at a time
use Prim.Native.Nat.{ℕ, ◌/◌, ◌<◌, ◌≤◌}
use mathlib.Core.Path.{◌≡◌, refl, ◌∙◌}
use mathlib.Core.Bool.{Bool, true, ◌||◌}
use mathlib.Core.List.{List, [], ◌∷◌, ◌++◌}
use native.Mathlib.Omega.{arith}
use lib.ListN.{length, get_or}
use lib.Dec.{ltb}
use borrow.Author.Tests.{lt-ltb, le-ltb}
use Rattle.hardware.proofs.TwoByTwo.{lone, first_two, just_two}
use Rattle.operations.specs.Pairs.{outside, pairs_of}

pub half : (ws : List ℕ) → length (pairs_of ws) ≡ length ws / 2
half [] = omega arith
half (device ∷ []) = omega arith
half (device ∷ register ∷ rest) = let h = half rest in omega (arith, h)

abbrev either : (device register : ℕ) → Bool → Bool
either device register rest = (ltb 31 device || ltb 0xffff register) || rest

pub outside_short : (ws : List ℕ) → 0 < length ws → length ws < 2 → outside ws ≡ true
outside_short ws h k = lone outside ws h k

pub outside_device : (p q : List ℕ) → 2 ≤ length p → 31 < get_or p 0 0 → outside (p ++ q) ≡ true
outside_device p q h k = first_two outside either (λ x y ws. refl) p q h ∙ simp (lt-ltb _ _ k)

pub outside_register : (p q : List ℕ) → 2 ≤ length p → get_or p 0 0 ≤ 31 → 0xffff < get_or p 1 0 → outside (p ++ q) ≡ true
outside_register p q h d k = first_two outside either (λ x y ws. refl) p q h ∙ simp (le-ltb _ _ d, lt-ltb _ _ k)

pub outside_then : (p q : List ℕ) → length p ≡ 2 → get_or p 0 0 ≤ 31 → get_or p 1 0 ≤ 0xffff → outside (p ++ q) ≡ outside q
outside_then p q h d k = just_two outside either (λ x y ws. refl) p q h ∙ simp (le-ltb _ _ d, le-ltb _ _ k)
