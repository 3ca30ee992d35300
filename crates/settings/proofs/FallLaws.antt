-- Versions that fall are of as many records, so a chain of them is no longer than the store has records
use Rattle.std.proofs.Common.{ℕ, zero, suc, ◌+◌, ◌≡◌, ◌<◌, ◌≤◌, ◌⊎◌, inl, inr, Bool, true, false, ◌&&◌, ◌||◌, not, cond, List, [], ◌∷◌, map, length, eqb, ltb, refl, arith}
use borrow.Author.Tests.{ltb-true, lt-ltb, le-ltb, eqb-true, eq-eqb, ne_eqb, not-true}
use Rattle.std.specs.List.{list_all}
use Rattle.std.proofs.lemmas.Bool.{cases_eq, cases_lt}
use Rattle.settings.specs.Records.{records, version, chain_from, next}
use Rattle.settings.specs.Whole.{has, is_good, fall_below}
use Rattle.settings.proofs.GoodLaws.{and_left, and_right, and_all, good_inside}

pub or_cases : (a b : Bool) → a || b ≡ true → (a ≡ true) ⊎ (b ≡ true)
or_cases true b h = inl refl
or_cases false b h = inr h

pub or_none : (a b : Bool) → a || b ≡ false → (a ≡ false) × (b ≡ false)
or_none true b h = absurd (let z : ⊥ = cc in z)
or_none false b h = (refl, h)

-- no number comes twice
abbrev pub once : List ℕ → Bool
once [] = true
once (i ∷ is) = not (has i is) && once is

-- how many numbers pass
abbrev hits : (ℕ → Bool) → List ℕ → ℕ
hits p [] = 0
hits p (i ∷ is) = cond (p i) 1 0 + hits p is

module _ (n : ℕ) where
  hit_none : (is : List ℕ) → has n is ≡ false → hits (λ i. eqb i n) is ≡ 0
  hit_none [] h = refl
  hit_none (i ∷ is) h = let both = or_none (eqb i n) (has n is) h in rw (both.0, hit_none is both.1) refl

  hit_once : (is : List ℕ) → once is ≡ true → hits (λ i. eqb i n) is ≤ 1
  hit_once [] h = omega arith
  hit_once (i ∷ is) h = elim (cases_eq i n) [ inl e ↦ here e | inr d ↦ later d (hit_once is (and_right (not (has i is)) (once is) h)) ]
    where
      here : i ≡ n → hits (λ j. eqb j n) (i ∷ is) ≤ 1
      here e =
          let none = not-true (has i is) (and_left (not (has i is)) (once is) h) in
          let none_n : has n is ≡ false = rw (← e) none in
          rw (eq-eqb i n e, hit_none is none_n) (omega arith)

      later : (i ≡ n → ⊥) → hits (λ j. eqb j n) is ≤ 1 → hits (λ j. eqb j n) (i ∷ is) ≤ 1
      later d rest = rw (ne_eqb i n d) (omega arith)

  hits_step : (is : List ℕ) → hits (λ i. ltb i (suc n)) is ≡ hits (λ i. ltb i n) is + hits (λ i. eqb i n) is
  hits_step [] = refl
  hits_step (i ∷ is) =
      let rest = hits_step is in
      elim (cases_lt i n) [ inl h ↦ below h rest | inr h ↦ elim (cases_eq i n) [ inl e ↦ same e rest | inr d ↦ above h d rest ] ]
    where
      below : i < n → hits (λ j. ltb j (suc n)) is ≡ hits (λ j. ltb j n) is + hits (λ j. eqb j n) is → hits (λ j. ltb j (suc n)) (i ∷ is) ≡ hits (λ j. ltb j n) (i ∷ is) + hits (λ j. eqb j n) (i ∷ is)
      below h rest = rw (lt-ltb i (suc n) (omega arith), lt-ltb i n h, ne_eqb i n (λ e. omega arith)) (omega arith)

      same : i ≡ n → hits (λ j. ltb j (suc n)) is ≡ hits (λ j. ltb j n) is + hits (λ j. eqb j n) is → hits (λ j. ltb j (suc n)) (i ∷ is) ≡ hits (λ j. ltb j n) (i ∷ is) + hits (λ j. eqb j n) (i ∷ is)
      same e rest = rw (lt-ltb i (suc n) (omega arith), le-ltb i n (omega arith), eq-eqb i n e) (omega arith)

      above : n ≤ i → (i ≡ n → ⊥) → hits (λ j. ltb j (suc n)) is ≡ hits (λ j. ltb j n) is + hits (λ j. eqb j n) is → hits (λ j. ltb j (suc n)) (i ∷ is) ≡ hits (λ j. ltb j n) (i ∷ is) + hits (λ j. eqb j n) (i ∷ is)
      above h d rest = let lt : n < i = elim (cases_lt n i) [ inl l ↦ l | inr l ↦ absurd (d (omega arith)) ] in rw (le-ltb i (suc n) (omega arith), le-ltb i n h, ne_eqb i n d) (omega arith)

hits_zero : (is : List ℕ) → hits (λ i. ltb i 0) is ≡ 0
hits_zero [] = refl
hits_zero (i ∷ is) = rw (le-ltb i 0 (omega arith)) (let rest = hits_zero is in omega arith)

hits_few : (n : ℕ) (is : List ℕ) → once is ≡ true → hits (λ i. ltb i n) is ≤ n
hits_few zero is h = let none = hits_zero is in omega arith
hits_few (suc n) is h = let a = hits_step n is in let b = hits_few n is h in let c = hit_once n is h in omega arith

hits_all : (n : ℕ) (is : List ℕ) → list_all (λ i. ltb i n) is ≡ true → hits (λ i. ltb i n) is ≡ length is
hits_all n [] h = refl
hits_all n (i ∷ is) h =
    let rest = hits_all n is (and_right (ltb i n) (list_all (λ j. ltb j n) is) h) in rw (and_left (ltb i n) (list_all (λ j. ltb j n) is) h) (omega arith)

-- different numbers below n are at most n
pub few_numbers : (n : ℕ) (is : List ℕ) → once is ≡ true → list_all (λ i. ltb i n) is ≡ true → length is ≤ n
few_numbers n is h k = let a = hits_few n is h in let b = hits_all n is k in omega arith

-- ---- along a chain
module _ (s : List ℕ) where
  -- versions that fall are below the one before
  pub lower : (v : ℕ) (is : List ℕ) → fall_below v (map (version s) is) ≡ true → (j : ℕ) → has j is ≡ true → version s j < v
  unfolding fall_below
  lower v [] h j e = absurd (let z : ⊥ = cc in z)
  lower v (i ∷ is) h j e =
      let first = ltb-true (version s i) v (and_left (ltb (version s i) v) (fall_below (version s i) (map (version s) is)) h) in
      elim (or_cases (eqb i j) (has j is) e) [
        | inl f ↦ let same = eqb-true i j f in rw (← same) first
        | inr f ↦ let rest = lower (version s i) is (and_right (ltb (version s i) v) (fall_below (version s i) (map (version s) is)) h) j f in omega arith
      ]

  pub falling_once : (v : ℕ) (is : List ℕ) → fall_below v (map (version s) is) ≡ true → once is ≡ true
  unfolding fall_below
  falling_once v [] h = refl
  falling_once v (i ∷ is) h =
      let falling = and_right (ltb (version s i) v) (fall_below (version s i) (map (version s) is)) h in
      and_all (not (has i is)) (once is) (go (has i is) refl falling) (falling_once (version s i) is falling)
    where
      go : (b : Bool) → has i is ≡ b → fall_below (version s i) (map (version s) is) ≡ true → not b ≡ true
      go true e f = let low = lower (version s i) is f i e in absurd (omega arith)
      go false e f = refl

  pub all_inside : (is : List ℕ) → list_all (is_good s) is ≡ true → list_all (λ i. ltb i (records s)) is ≡ true
  all_inside [] h = refl
  all_inside (i ∷ is) h =
      and_all (ltb i (records s)) (list_all (λ j. ltb j (records s)) is)
      (lt-ltb i (records s) (good_inside s i (and_left (is_good s i) (list_all (is_good s) is) h)))
      (all_inside is (and_right (is_good s i) (list_all (is_good s) is) h))

  pub no_zero : (n i : ℕ) → has 0 (chain_from n s i) ≡ false
  unfolding chain_from
  no_zero zero i = refl
  no_zero (suc n) zero = refl
  no_zero (suc n) (suc i) = rw (ne_eqb (suc i) 0 (λ e. omega arith)) (no_zero n (next s (suc i)))

  -- a chain of good records whose versions fall is shorter than the store has records
  pub chain_short : (v : ℕ) (is : List ℕ) → 0 < records s → has 0 is ≡ false → list_all (is_good s) is ≡ true → fall_below v (map (version s) is) ≡ true
      → length is < records s
  chain_short v is h z good falling =
      let all = few_numbers (records s) (0 ∷ is) (and_all (not (has 0 is)) (once is) (rw z refl) (falling_once v is falling))
      (and_all (ltb 0 (records s)) (list_all (λ i. ltb i (records s)) is) (lt-ltb 0 (records s) h) (all_inside is good)) in
      omega arith
