-- Pairs of device and register, two words at a time
use Prim.Native.Nat.{ℕ, ◌<◌, ◌≤◌}
use mathlib.Core.Path.{◌≡◌, refl, ap, ◌∙◌}
use mathlib.Core.Bool.{Bool, true, false, ◌&&◌}
use mathlib.Core.List.{List, ◌++◌}
use lib.Dec.{leb}
use lib.ListN.{length, get_or, drop}
use borrow.Author.Tests.{lt-leb, le-leb}
use Rattle.hardware.proofs.TwoByTwo.{lone, first_two, just_two}
use Rattle.trace.specs.Mdio.{are_pairs}

abbrev each : (device register : ℕ) → Bool → Bool
each device register rest = leb register 0xffff && rest

pub pairs_short : (vs : List ℕ) → 0 < length vs → length vs < 2 → are_pairs vs ≡ false
pairs_short vs h k = lone are_pairs vs h k

pub pairs_far : (p q : List ℕ) → 2 ≤ length p → 0xffff < get_or p 1 0 → are_pairs (p ++ q) ≡ false
pairs_far p q h k = first_two are_pairs each (λ x y ws. refl) p q h ∙ simp (lt-leb _ _ k)

pub pairs_then : (p q : List ℕ) → length p ≡ 2 → get_or p 1 0 ≤ 0xffff → are_pairs (p ++ q) ≡ are_pairs q
pairs_then p q h k = just_two are_pairs each (λ x y ws. refl) p q h ∙ simp (le-leb _ _ k)
