-- The elements of a list that pass a test, by their places
use Rattle.std.proofs.Common.{ℕ, zero, suc, ◌+◌, ◌≡◌, ◌<◌, ◌≤◌, Bool, true, false, not, cond, List, [], ◌∷◌, length, slice_get, position, count_by, sum_by, find, ltb, Some, None, option_map, inl, inr, refl, sym, ◌∙◌, ap, subst, arith}
use borrow.Author.Tests.{ltb-true, le-ltb}
use Rattle.std.specs.List.{prefix_len}
use Rattle.std.proofs.lemmas.Option.{same_Some}
use Rattle.std.proofs.lemmas.List.Sums.{sum_by-cons}
use Rattle.profile_table.proofs.Counting.{In, count-cons}

pub in_at : {X : Type 0} (xs : List X) (k : ℕ) {x : X} → slice_get xs k ≡ Some x → In x xs
in_at [] k {x} h = absurd (let z : ⊥ = cc in z)
in_at (y ∷ ys) zero {x} h = inl (same_Some _ _ h)
in_at (y ∷ ys) (suc k) {x} h = inr (in_at ys k {x = x} h)

pub place_of : {X : Type 0} (xs : List X) (x : X) → In x xs → (k : ℕ) × (slice_get xs k ≡ Some x)
place_of [] x i = absurd i
place_of (y ∷ ys) x (inl e) = (0, ap Some e)
place_of (y ∷ ys) x (inr i) = let at = place_of ys x i in (suc at.0, at.1)

-- the one element that passes
pub record TheOne {X : Type 0} (p : X → Bool) (xs : List X) : Type 0 where
  pub place : ℕ
  pub x : X
  pub there : slice_get xs place ≡ Some x
  pub passes : p x ≡ true
  pub only : (k : ℕ) (y : X) → slice_get xs k ≡ Some y → p y ≡ true → k ≡ place
  pub first : find p xs ≡ Some x

module _ {X : Type 0} (p : X → Bool) where
  -- none passes
  pub none_passes : (xs : List X) → count_by p xs ≡ 0 → (k : ℕ) (x : X) → slice_get xs k ≡ Some x → p x ≡ true → ⊥
  none_passes [] h k x e t = cc
  none_passes (y ∷ ys) h k x e t = go (p y) refl (simp (count-cons p y ys) at h) k e (none_passes ys)
    where
      go : (b : Bool) → p y ≡ b → cond b 1 0 + count_by p ys ≡ 0 → (j : ℕ) → slice_get (y ∷ ys) j ≡ Some x
          → (count_by p ys ≡ 0 → (i : ℕ) (z : X) → slice_get ys i ≡ Some z → p z ≡ true → ⊥) → ⊥
      go true f c j e on = omega arith
      go false f c zero e on = let same : y ≡ x = same_Some _ _ e in let a : p y ≡ true = rw same t in let z : ⊥ = cc in z
      go false f c (suc j) e on = on (omega arith) j x e t

  pub find_none : (xs : List X) → count_by p xs ≡ 0 → find p xs ≡ None
  find_none [] h = refl
  find_none (y ∷ ys) h = go (p y) (simp (count-cons p y ys) at h) (find_none ys)
    where
      go : (b : Bool) → cond b 1 0 + count_by p ys ≡ 0 → (count_by p ys ≡ 0 → find p ys ≡ None) → cond b (Some y) (find p ys) ≡ None
      go true c on = absurd (omega arith)
      go false c on = on (omega arith)

  pub the_one : (xs : List X) → count_by p xs ≡ 1 → TheOne p xs
  the_one [] h = absurd (let z : ⊥ = omega arith in z)
  the_one (y ∷ ys) h = go (p y) refl (simp (count-cons p y ys) at h) (the_one ys)
    where
      later : (b : Bool) → p y ≡ b → count_by p ys ≡ 0 → (k : ℕ) (z : X) → slice_get (y ∷ ys) k ≡ Some z → p z ≡ true → k ≡ 0
      later b f c zero z e t = refl
      later b f c (suc k) z e t = absurd (none_passes ys c k z e t)

      behind : p y ≡ false → (one : TheOne p ys) → (k : ℕ) (z : X) → slice_get (y ∷ ys) k ≡ Some z → p z ≡ true → k ≡ suc one.place
      behind f one zero z e t = let same : y ≡ z = same_Some _ _ e in let a : p y ≡ true = rw same t in absurd (let w : ⊥ = cc in w)
      behind f one (suc k) z e t = ap suc (one.only k z e t)

      go : (b : Bool) → p y ≡ b → cond b 1 0 + count_by p ys ≡ 1 → (count_by p ys ≡ 1 → TheOne p ys) → TheOne p (y ∷ ys)
      go true f c on = record {
        place = 0;
        x = y;
        there = refl;
        passes = f;
        only = later true f (omega arith);
        first = rw f refl;
      }
      go false f c on =
          let one : TheOne p ys = on (omega arith) in
          record {
            place = suc one.place;
            x = one.x;
            there = one.there;
            passes = one.passes;
            only = behind f one;
            first = rw f one.first;
          }

  worth_nothing : (n : X → ℕ) (xs : List X) → count_by p xs ≡ 0 → sum_by (λ x. cond (p x) (n x) 0) xs ≡ 0
  worth_nothing n [] h = refl
  worth_nothing n (y ∷ ys) h = sum_by-cons (λ x. cond (p x) (n x) 0) y ys ∙ go (p y) (simp (count-cons p y ys) at h) (worth_nothing n ys)
    where
      go : (b : Bool) → cond b 1 0 + count_by p ys ≡ 0 → (count_by p ys ≡ 0 → sum_by (λ x. cond (p x) (n x) 0) ys ≡ 0)
          → cond b (n y) 0 + sum_by (λ x. cond (p x) (n x) 0) ys ≡ 0
      go true c on = absurd (omega arith)
      go false c on = let rest = on (omega arith) in omega arith

  -- what the one that passes is worth, by a sum that the order does not change
  pub found_sum : (n : X → ℕ) (xs : List X) → count_by p xs ≡ 1 → option_map n (find p xs) ≡ Some (sum_by (λ x. cond (p x) (n x) 0) xs)
  found_sum n [] h = absurd (let z : ⊥ = omega arith in z)
  found_sum n (y ∷ ys) h =
      go (p y) (simp (count-cons p y ys) at h) (found_sum n ys) ∙ ap Some (sym (sum_by-cons (λ x. cond (p x) (n x) 0) y ys))
    where
      go : (b : Bool) → cond b 1 0 + count_by p ys ≡ 1 → (count_by p ys ≡ 1 → option_map n (find p ys) ≡ Some (sum_by (λ x. cond (p x) (n x) 0) ys))
          → option_map n (cond b (Some y) (find p ys)) ≡ Some (cond b (n y) 0 + sum_by (λ x. cond (p x) (n x) 0) ys)
      go true c on = let rest = worth_nothing n ys (omega arith) in ap Some (omega arith)
      go false c on = on (omega arith) ∙ ap Some (omega arith)

  -- what the test of the first that passes says of those below it
  pub record FirstAt (xs : List X) (k : ℕ) : Type 0 where
    pub x : X
    pub there : slice_get xs k ≡ Some x
    pub passes : p x ≡ true
    pub lower : (j : ℕ) (y : X) → j < k → slice_get xs j ≡ Some y → p y ≡ false

  pub first_at : (xs : List X) → prefix_len (λ x. not (p x)) xs < length xs → FirstAt xs (prefix_len (λ x. not (p x)) xs)
  first_at [] h = absurd (omega arith)
  first_at (y ∷ ys) h = go (p y) refl h (first_at ys)
    where
      below : p y ≡ false → (first : FirstAt ys (prefix_len (λ x. not (p x)) ys)) → (j : ℕ) (z : X)
          → j < 1 + prefix_len (λ x. not (p x)) ys → slice_get (y ∷ ys) j ≡ Some z → p z ≡ false
      below f first zero z l e = rw (← same_Some _ _ e) f
      below f first (suc j) z l e = first.lower j z (omega arith) e

      go : (b : Bool) → p y ≡ b → cond (not b) (1 + prefix_len (λ x. not (p x)) ys) 0 < suc (length ys)
          → (prefix_len (λ x. not (p x)) ys < length ys → FirstAt ys (prefix_len (λ x. not (p x)) ys))
          → FirstAt (y ∷ ys) (cond (not b) (1 + prefix_len (λ x. not (p x)) ys) 0)
      go true f l on = record { x = y; there = refl; passes = f; lower = λ j z m e. absurd (omega arith) }
      go false f l on =
          let first = on (omega arith) in
          let at : 1 + prefix_len (λ x. not (p x)) ys ≡ suc (prefix_len (λ x. not (p x)) ys) = omega arith in
          let here : FirstAt (y ∷ ys) (suc (prefix_len (λ x. not (p x)) ys)) =
          record { x = first.x; there = first.there; passes = first.passes; lower = λ j z m e. below f first j z (omega arith) e } in
          subst (FirstAt (y ∷ ys)) (sym at) here

  pub position_first : (xs : List X) (k : ℕ) → position p xs ≡ Some k → FirstAt xs k
  position_first xs k h = go (ltb (prefix_len (λ x. not (p x)) xs) (length xs)) refl h
    where
      go : (b : Bool) → ltb (prefix_len (λ x. not (p x)) xs) (length xs) ≡ b → cond b (Some (prefix_len (λ x. not (p x)) xs)) None ≡ Some k → FirstAt xs k
      go true e f = rw (← same_Some _ _ f) (first_at xs (ltb-true _ _ e))
      go false e f = cc

  pub no_position : (xs : List X) → ((x : X) → In x xs → p x ≡ false) → position p xs ≡ None
  no_position xs h = rw (le-ltb (prefix_len (λ x. not (p x)) xs) (length xs) (all xs h)) refl
    where
      all : (ys : List X) → ((x : X) → In x ys → p x ≡ false) → length ys ≤ prefix_len (λ x. not (p x)) ys
      all [] g = omega arith
      all (y ∷ ys) g = rw (g y (inl refl)) (let on = all ys (λ x i. g x (inr i)) in omega arith)
