-- Two chains have a record in common just where they have the last in common
use Rattle.std.proofs.Common.{ℕ, zero, suc, ◌+◌, ◌≡◌, ◌<◌, ◌≤◌, inl, inr, Bool, true, false, ◌||◌, not, List, [], ◌∷◌, length, eqb, refl, ap, sym, ◌∙◌, arith}
use borrow.Author.Tests.{eqb-true, eq-eqb, ne_eqb}
use Rattle.std.specs.List.{list_any}
use Rattle.std.proofs.lemmas.Bool.{cases_eq}
use Rattle.settings.specs.Records.{chain_from, next}
use Rattle.settings.specs.Whole.{has, apart}
use Rattle.settings.specs.Walk.{last_or}
use Rattle.settings.proofs.GoodLaws.{or_right}
use Rattle.settings.proofs.FallLaws.{or_cases, or_none}

-- a number that is in both of two lists
pub record InBoth (is js : List ℕ) : Type 0 where
  pub j : ℕ
  pub left : has j is ≡ true
  pub right : has j js ≡ true

pub common : (is js : List ℕ) → list_any (λ i. has i js) is ≡ true → InBoth is js
common [] js h = absurd (let z : ⊥ = cc in z)
common (i ∷ is) js h = elim (or_cases (has i js) (list_any (λ j. has j js) is) h) [
  | inl e ↦ record { j = i; left = rw (eq-eqb i i refl) refl; right = e }
  | inr e ↦ let rest = common is js e in record { j = rest.j; left = rw rest.left (or_right (eqb i rest.j)); right = rest.right }
]

pub not_common : (is js : List ℕ) → list_any (λ i. has i js) is ≡ false → (j : ℕ) → has j is ≡ true → has j js ≡ false
not_common [] js h j e = absurd (let z : ⊥ = cc in z)
not_common (i ∷ is) js h j e =
    let both = or_none (has i js) (list_any (λ k. has k js) is) h in
    elim (or_cases (eqb i j) (has j is) e) [
      | inl f ↦ let same = eqb-true i j f in rw (← same) both.0
      | inr f ↦ not_common is js both.1 j f
    ]

last_has : (i : ℕ) (is : List ℕ) → has (last_or i is) (i ∷ is) ≡ true
unfolding last_or
last_has i [] = rw (eq-eqb i i refl) refl
last_has i (j ∷ is) = rw (last_has j is) (or_right (eqb i (last_or j is)))

pub last_in : (is : List ℕ) → (last_or 0 is ≡ 0 → ⊥) → has (last_or 0 is) is ≡ true
unfolding last_or
last_in [] h = absurd (h refl)
last_in (i ∷ is) h = last_has i is

-- the last of a list without zero is zero only if the list is empty
pub last_zero : (is : List ℕ) → has 0 is ≡ false → (j : ℕ) → has j is ≡ true → last_or 0 is ≡ 0 → ⊥
unfolding last_or
last_zero [] h j e f = cc
last_zero (i ∷ is) h j e f = let there = ap (λ k. has k (i ∷ is)) (sym f) ∙ last_has i is in let z : true ≡ false = sym there ∙ h in let w : ⊥ = cc in w

module _ (s : List ℕ) where
  -- a chain that has ended stays as it is, however many records it is given
  pub chain_more : (n m i : ℕ) → n ≤ m → length (chain_from n s i) < n → chain_from m s i ≡ chain_from n s i
  unfolding chain_from
  chain_more zero m i h k = absurd (omega arith)
  chain_more (suc n) zero i h k = absurd (omega arith)
  chain_more (suc n) (suc m) zero h k = refl
  chain_more (suc n) (suc m) (suc i) h k = ap (λ (is : List ℕ). suc i ∷ is) (chain_more n m (next s (suc i)) (omega arith) (omega arith))

  -- from a record of a chain on
  pub record Tail (n i j : ℕ) : Type 0 where
    pub m : ℕ
    pub short : length (chain_from m s j) < m
    pub last : (d : ℕ) → last_or d (chain_from n s i) ≡ last_or 0 (chain_from m s j)

  pub tail : (n i j : ℕ) → has j (chain_from n s i) ≡ true → length (chain_from n s i) < n → Tail n i j
  unfolding chain_from last_or
  tail zero i j h k = absurd (omega arith)
  tail (suc n) zero j h k = absurd (let z : ⊥ = cc in z)
  tail (suc n) (suc i) j h k = elim (or_cases (eqb (suc i) j) (has j (chain_from n s (next s (suc i)))) h) [
    | inl e ↦ let same = eqb-true (suc i) j e in record { m = suc n; short = rw (← same) k; last = λ d. rw (← same) refl }
    | inr e ↦ let rest = tail n (next s (suc i)) j e (omega arith) in record { m = rest.m; short = rest.short; last = λ d. rest.last (suc i) }
  ]

  pub same_last : (n a b : ℕ) → length (chain_from n s a) < n → length (chain_from n s b) < n → InBoth (chain_from n s a) (chain_from n s b)
      → last_or 0 (chain_from n s a) ≡ last_or 0 (chain_from n s b)
  same_last n a b h k both =
      let x = tail n a both.j both.left h in
      let y = tail n b both.j both.right k in
      x.last 0
      ∙ ap (last_or 0) (sym (chain_more x.m (x.m + y.m) both.j (omega arith) x.short) ∙ chain_more y.m (x.m + y.m) both.j (omega arith) y.short)
      ∙ sym (y.last 0)

-- ---- the test of the code
module _ (s : List ℕ) (n a b : ℕ) (left : length (chain_from n s a) < n) (right : length (chain_from n s b) < n)
    (no_left : has 0 (chain_from n s a) ≡ false) where
  pub apart_is : apart (chain_from n s a) (chain_from n s b) ≡ eqb (last_or 0 (chain_from n s a)) 0 || not (eqb (last_or 0 (chain_from n s a)) (last_or 0 (chain_from n s b)))
  apart_is = go (list_any (λ i. has i (chain_from n s b)) (chain_from n s a)) refl
    where
      go : (t : Bool) → list_any (λ i. has i (chain_from n s b)) (chain_from n s a) ≡ t
          → not t ≡ eqb (last_or 0 (chain_from n s a)) 0 || not (eqb (last_or 0 (chain_from n s a)) (last_or 0 (chain_from n s b)))
      go true e =
          let both = common (chain_from n s a) (chain_from n s b) e in
          let same = same_last s n a b left right both in
          let some = last_zero (chain_from n s a) no_left both.j both.left in
          rw (ne_eqb (last_or 0 (chain_from n s a)) 0 some, eq-eqb (last_or 0 (chain_from n s a)) (last_or 0 (chain_from n s b)) same) refl
      go false e = elim (cases_eq (last_or 0 (chain_from n s a)) 0) [
        | inl z ↦ rw (eq-eqb (last_or 0 (chain_from n s a)) 0 z) refl
        | inr z ↦ elim (cases_eq (last_or 0 (chain_from n s a)) (last_or 0 (chain_from n s b))) [
          | inl same ↦ absurd (clash e z same)
          | inr d ↦ rw (ne_eqb (last_or 0 (chain_from n s a)) (last_or 0 (chain_from n s b)) d) (sym (or_right (eqb (last_or 0 (chain_from n s a)) 0)))
        ]
      ]
        where
          clash : list_any (λ i. has i (chain_from n s b)) (chain_from n s a) ≡ false → (last_or 0 (chain_from n s a) ≡ 0 → ⊥) → last_or 0 (chain_from n s a) ≡ last_or 0 (chain_from n s b) → ⊥
          clash f z same =
              let not_there = not_common (chain_from n s a) (chain_from n s b) f (last_or 0 (chain_from n s a)) (last_in (chain_from n s a) z) in
              let z_b : last_or 0 (chain_from n s b) ≡ 0 → ⊥ = λ g. z (same ∙ g) in
              let there : has (last_or 0 (chain_from n s a)) (chain_from n s b) ≡ true = rw same (last_in (chain_from n s b) z_b) in
              cc
