-- The lowest number below a bound that gives something
use Rattle.std.proofs.Common.{ℕ, zero, suc, ◌≡◌, ◌<◌, ◌⊎◌, Option, Some, None, inl, inr, refl, sym, ◌∙◌, ap, ap₂, arith}
use Rattle.std.specs.Option.{option_or}
use Rattle.profile_table.specs.Table.{lowest}

-- x comes of the number k, and nothing of those below it
pub record LowestAt {A : Type 0} (f : ℕ → Option A) (n : ℕ) (x : A) : Type 0 where
  pub k : ℕ
  pub below : k < n
  pub gives : f k ≡ Some x
  pub none : (j : ℕ) → j < k → f j ≡ None

last_or_below : (k n : ℕ) → k < suc n → (k < n) ⊎ (k ≡ n)
last_or_below k n h = grind arith

module _ {A : Type 0} (f : ℕ → Option A) where
  pub lowest_none : (n : ℕ) → lowest f n ≡ None → (k : ℕ) → k < n → f k ≡ None
  unfolding lowest
  lowest_none zero h k l = absurd (omega arith)
  lowest_none (suc n) h k l = go (lowest f n) refl h (last_or_below k n l) (lowest_none n)
    where
      go : (o : Option A) → lowest f n ≡ o → option_or o (f n) ≡ None → (k < n) ⊎ (k ≡ n)
          → (lowest f n ≡ None → (j : ℕ) → j < n → f j ≡ None) → f k ≡ None
      go (Some x) e g c on = cc
      go None e g (inl below) on = on e k below
      go None e g (inr last) on = ap f last ∙ g

  pub lowest_some : (n : ℕ) {x : A} → lowest f n ≡ Some x → LowestAt f n x
  unfolding lowest
  lowest_some zero {x} h = absurd (let z : ⊥ = cc in z)
  lowest_some (suc n) {x} h = go (lowest f n) refl h (lowest_some n {x = x})
    where
      go : (o : Option A) → lowest f n ≡ o → option_or o (f n) ≡ Some x → (lowest f n ≡ Some x → LowestAt f n x) → LowestAt f (suc n) x
      go (Some y) e g on =
          let at : LowestAt f n x = on (e ∙ g) in
          record { k = at.k; below = omega arith; gives = at.gives; none = at.none }
      go None e g on = record { k = n; below = omega arith; gives = g; none = λ j l. lowest_none n e j l }

  pub lowest_empty : (n : ℕ) → ((k : ℕ) → k < n → f k ≡ None) → lowest f n ≡ None
  unfolding lowest
  lowest_empty zero h = refl
  lowest_empty (suc n) h = rw (lowest_empty n (λ k l. h k (omega arith)), h n (omega arith)) refl

  pub lowest_is : (n k : ℕ) {x : A} → k < n → f k ≡ Some x → ((j : ℕ) → j < k → f j ≡ None) → lowest f n ≡ Some x
  unfolding lowest
  lowest_is zero k {x} l e h = absurd (omega arith)
  lowest_is (suc n) k {x} l e h = go (last_or_below k n l) (λ below. lowest_is n k {x = x} below e h)
    where
      go : (k < n) ⊎ (k ≡ n) → (k < n → lowest f n ≡ Some x) → option_or (lowest f n) (f n) ≡ Some x
      go (inl below) on = rw (on below) refl
      go (inr last) on =
          let here : f n ≡ Some x = ap f (sym last) ∙ e in
          rw (lowest_empty n (λ j m. h j (omega arith)), here) refl

pub lowest_same : {A : Type 0} (f g : ℕ → Option A) (n : ℕ) → ((k : ℕ) → k < n → f k ≡ g k) → lowest f n ≡ lowest g n
unfolding lowest
lowest_same f g zero h = refl
lowest_same f g (suc n) h = ap₂ option_or (lowest_same f g n (λ k l. h k (omega arith))) (h n (omega arith))
