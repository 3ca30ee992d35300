-- How many elements of a list pass a test
use Rattle.std.proofs.Common.{◌+◌, ◌≡◌, ◌<◌, ◌⊎◌, Bool, true, false, ◌||◌, cond, List, [], ◌∷◌, count_by, inl, inr, refl, arith}
use Rattle.std.specs.List.{list_any}
use Rattle.std.proofs.lemmas.List.Sums.{sum_by-cons}

-- an element of a list
abbrev pub In : {X : Type 0} → X → List X → Type 0
In x [] = ⊥
In x (y ∷ ys) = (y ≡ x) ⊎ In x ys

module _ {X : Type 0} (p : X → Bool) where
  pub count-cons : (x : X) (xs : List X) → count_by p (x ∷ xs) ≡ cond (p x) 1 0 + count_by p xs
  count-cons x xs = sum_by-cons (λ y. cond (p y) 1 0) x xs

  pub any_in : (xs : List X) → list_any p xs ≡ true → (x : X) × In x xs × (p x ≡ true)
  any_in [] h = absurd (let z : ⊥ = cc in z)
  any_in (x ∷ xs) h = go (p x) refl h (any_in xs)
    where
      go : (b : Bool) → p x ≡ b → b || list_any p xs ≡ true → (list_any p xs ≡ true → (y : X) × In y xs × (p y ≡ true))
          → (y : X) × In y (x ∷ xs) × (p y ≡ true)
      go true e h on = (x, inl refl, e)
      go false e h on = let found = on h in (found.0, inr found.1, found.2)

  pub any_yes : (x : X) (xs : List X) → In x xs → p x ≡ true → list_any p xs ≡ true
  any_yes x [] i e = absurd i
  any_yes x (y ∷ ys) (inl h) e = rw (h, e) refl
  any_yes x (y ∷ ys) (inr i) e = go (p y) (any_yes x ys i e)
    where
      go : (b : Bool) → list_any p ys ≡ true → b || list_any p ys ≡ true
      go true h = refl
      go false h = h

-- an element that passes q and not p, where more pass q
pub more_of : {X : Type 0} (p q : X → Bool) (xs : List X) → count_by p xs < count_by q xs → (x : X) × In x xs × (q x ≡ true) × (p x ≡ false)
more_of p q [] h = absurd (omega arith)
more_of {X} p q (x ∷ xs) h = go (p x) (q x) refl refl (simp (count-cons p x xs, count-cons q x xs) at h) (more_of p q xs)
  where
    go : (a b : Bool) → p x ≡ a → q x ≡ b → cond a 1 0 + count_by p xs < cond b 1 0 + count_by q xs
        → (count_by p xs < count_by q xs → (y : X) × In y xs × (q y ≡ true) × (p y ≡ false))
        → (y : X) × In y (x ∷ xs) × (q y ≡ true) × (p y ≡ false)
    go false true e f h on = (x, inl refl, f, e)
    go true true e f h on = let found = on (omega arith) in (found.0, inr found.1, found.2, found.3)
    go true false e f h on = let found = on (omega arith) in (found.0, inr found.1, found.2, found.3)
    go false false e f h on = let found = on (omega arith) in (found.0, inr found.1, found.2, found.3)
