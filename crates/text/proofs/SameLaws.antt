-- `same` means equality, as `==` of slices does
use Prim.Native.Nat.{ℕ}
use mathlib.Core.Path.{◌≡◌, refl, ap}
use mathlib.Core.Logic.{◌↔◌}
use mathlib.Core.Bool.{Bool, true, ◌&&◌}
use mathlib.Core.List.{List, [], ◌∷◌}
use lib.Dec.{eqb}
use Rattle.std.specs.Cmp.Lexicographic.{pointwise}
use Rattle.std.proofs.lemmas.Slice.Eq.{IsBytesEq, compares_Decides}
use Rattle.text.specs.Same.{same}

-- equal where `same` says so, and only there
head_by_head : IsBytesEq same
unfolding same
head_by_head = record { empty = refl; shorter = λ y ys. refl; longer = λ x xs. refl; heads = λ x y xs ys. refl }

pub same_equal : (xs ys : List ℕ) → same xs ys ≡ true → xs ≡ ys
same_equal xs ys = (compares_Decides same head_by_head xs ys).0

pub equal_same : (xs ys : List ℕ) → xs ≡ ys → same xs ys ≡ true
equal_same xs ys = (compares_Decides same head_by_head xs ys).1

pub same_self : (xs : List ℕ) → same xs xs ≡ true
same_self xs = equal_same xs xs refl

pub same_means : (xs ys : List ℕ) → (same xs ys ≡ true) ↔ (xs ≡ ys)
same_means xs ys = (same_equal xs ys, equal_same xs ys)

-- what `==` of slices answers
pub same_pointwise : (xs ys : List ℕ) → same xs ys ≡ pointwise eqb xs ys
unfolding same
same_pointwise [] [] = refl
same_pointwise [] (y ∷ ys) = refl
same_pointwise (x ∷ xs) [] = refl
same_pointwise (x ∷ xs) (y ∷ ys) = ap (λ (b : Bool). eqb x y && b) (same_pointwise xs ys)
