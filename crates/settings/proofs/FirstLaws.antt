-- The first number that passes
use Rattle.std.proofs.Common.{ℕ, zero, suc, ◌+◌, ◌-◌, ◌≡◌, ◌<◌, ◌≤◌, inl, inr, Bool, true, false, cond, Option, Some, None, option_map, min, refl, ap, sym, ◌∙◌, add-zero, zero-add, arith}
use Rattle.std.specs.Option.{option_or}
use Rattle.std.proofs.lemmas.Bool.{cases_eq, cases_lt}
use Rattle.settings.specs.Calls.{first}

module _ (p : ℕ → Bool) where
  pub first_none : (k n : ℕ) → n ≡ 0 → first p k n ≡ None
  unfolding first
  first_none k zero h = refl
  first_none k (suc n) h = absurd (omega arith)

  pub first_here : (k n : ℕ) → 0 < n → p k ≡ true → first p k n ≡ Some k
  unfolding first
  first_here k zero h e = absurd (omega arith)
  first_here k (suc n) h e = rw e refl

  pub first_later : (k n m : ℕ) → n ≡ suc m → p k ≡ false → first p k n ≡ first p (k + 1) m
  unfolding first
  first_later k zero m h e = absurd (omega arith)
  first_later k (suc n) m h e = let same : n ≡ m = omega arith in rw (e, same) refl

  -- the first of two parts
  pub first_parts : (m k n : ℕ) → first p k (m + n) ≡ option_or (first p k m) (first p (k + m) n)
  unfolding first
  first_parts zero k n = rw (add-zero k, zero-add n) refl
  first_parts (suc m) k n =
      let long : suc m + n ≡ suc (m + n) = omega arith in
      let at : k + 1 + m ≡ k + suc m = omega arith in
      rw long (go (p k) (first_parts m (k + 1) n ∙ ap (λ j. option_or (first p (k + 1) m) (first p j n)) at))
    where
      go : (b : Bool) → first p (k + 1) (m + n) ≡ option_or (first p (k + 1) m) (first p (k + suc m) n)
          → cond b (Some k) (first p (k + 1) (m + n)) ≡ option_or (cond b (Some k) (first p (k + 1) m)) (first p (k + suc m) n)
      go true h = refl
      go false h = h

-- a test that is the same at each of the numbers, from another place on
pub first_moved : (p q : ℕ → Bool) (base k n : ℕ) → ((j : ℕ) → k ≤ j → j < k + n → q j ≡ p (base + j)) → option_map (λ j. base + j) (first q k n) ≡ first p (base + k) n
unfolding first
first_moved p q base k zero h = refl
first_moved p q base k (suc n) h =
    rw (h k (omega arith) (omega arith)) (go (p (base + k)) (first_moved p q base (k + 1) n (λ j l m. h j (omega arith) (omega arith)) ∙ ap (λ i. first p i n) at))
  where
    at : base + (k + 1) ≡ base + k + 1
    at = omega arith

    go : (b : Bool) → option_map (λ j. base + j) (first q (k + 1) n) ≡ first p (base + k + 1) n
        → option_map (λ j. base + j) (cond b (Some k) (first q (k + 1) n)) ≡ cond b (Some (base + k)) (first p (base + k + 1) n)
    go true f = refl
    go false f = f

-- where the first that passes lies
pub record Within (p : ℕ → Bool) (k n j : ℕ) : Type 0 where
  pub low : k ≤ j
  pub high : j < k + n
  pub passes : p j ≡ true
  pub before : (i : ℕ) → k ≤ i → i < j → p i ≡ false

pub first_within : (p : ℕ → Bool) (k n : ℕ) {j : ℕ} → first p k n ≡ Some j → Within p k n j
unfolding first
first_within p k zero {j} h = absurd (let z : ⊥ = cc in z)
first_within p k (suc n) {j} h = go (p k) refl h (first_within p (k + 1) n {j = j})
  where
    later : p k ≡ false → Within p (k + 1) n j → (i : ℕ) → k ≤ i → i < j → p i ≡ false
    later e w i l m = elim (cases_eq i k) [ inl f ↦ rw f e | inr d ↦ w.before i (elim (cases_lt k i) [ inl a ↦ omega arith | inr a ↦ absurd (d (omega arith)) ]) m ]

    go : (b : Bool) → p k ≡ b → cond b (Some k) (first p (k + 1) n) ≡ Some j → (first p (k + 1) n ≡ Some j → Within p (k + 1) n j) → Within p k (suc n) j
    go true e f on = let same : k ≡ j = cc in record { low = omega arith; high = omega arith; passes = rw (← same) e; before = λ i l m. absurd (omega arith) }
    go false e f on = let w = on f in record { low = omega arith; high = omega arith; passes = w.passes; before = later e w }

-- none of them passes
pub none_first : (p : ℕ → Bool) (k n : ℕ) → first p k n ≡ None → (i : ℕ) → k ≤ i → i < k + n → p i ≡ false
unfolding first
none_first p k zero h i l m = absurd (omega arith)
none_first p k (suc n) h i l m = go (p k) refl h (none_first p (k + 1) n)
  where
    go : (b : Bool) → p k ≡ b → cond b (Some k) (first p (k + 1) n) ≡ None → (first p (k + 1) n ≡ None → (j : ℕ) → k + 1 ≤ j → j < k + 1 + n → p j ≡ false) → p i ≡ false
    go true e f on = cc
    go false e f on = elim (cases_eq i k) [ inl g ↦ rw g e | inr d ↦ on f i (elim (cases_lt k i) [ inl a ↦ omega arith | inr a ↦ absurd (d (omega arith)) ]) (omega arith) ]

-- what the first m of n numbers say of all
pub part_found : (p : ℕ → Bool) (k n m j : ℕ) → m ≤ n → first p k m ≡ Some j → first p k n ≡ Some j
part_found p k n m j h e =
    let whole : n ≡ m + (n - m) = omega arith in
    ap (first p k) whole ∙ first_parts p m k (n - m) ∙ ap (λ (o : Option ℕ). option_or o (first p (k + m) (n - m))) e

pub part_none : (p : ℕ → Bool) (k n m : ℕ) → m ≤ n → first p k m ≡ None → first p k n ≡ first p (k + m) (n - m)
part_none p k n m h e =
    let whole : n ≡ m + (n - m) = omega arith in
    ap (first p k) whole ∙ first_parts p m k (n - m) ∙ ap (λ (o : Option ℕ). option_or o (first p (k + m) (n - m))) e

-- none of the first m, or of all where there are not so many
pub next_part : (p : ℕ → Bool) (k n m : ℕ) → first p k (min n m) ≡ None → first p (k + m) (n - m) ≡ first p k n
next_part p k n m e = elim (cases_lt n m) [ inl h ↦ few h | inr h ↦ many h ]
  where
    few : n < m → first p (k + m) (n - m) ≡ first p k n
    few h =
        let all : min n m ≡ n = omega arith in
        first_none p (k + m) (n - m) (omega arith) ∙ sym (ap (first p k) (sym all) ∙ e)

    many : m ≤ n → first p (k + m) (n - m) ≡ first p k n
    many h =
        let part : min n m ≡ m = omega arith in
        sym (part_none p k n m h (ap (first p k) (sym part) ∙ e))
