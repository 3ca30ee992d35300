-- Words that are zero
use Rattle.std.proofs.Common.{ℕ, zero, suc, ◌+◌, ◌≡◌, ◌<◌, ◌≤◌, inl, inr, true, List, [], ◌∷◌, get_or, take, drop, eqb, refl, sym, ◌∙◌, arith}
use borrow.Author.Tests.{eqb-true, eq-eqb}
use Rattle.std.specs.List.{list_all}
use Rattle.std.proofs.lemmas.Bool.{cases_lt}
use Rattle.std.proofs.lemmas.List.{get_or-take, get_or-drop, get_or_past, length-take}
use Rattle.settings.specs.Records.{word}
use Rattle.settings.specs.Whole.{zeros}
use Rattle.settings.proofs.GoodLaws.{and_left, and_right, and_all}

all_zero : (ws : List ℕ) → ((k : ℕ) → get_or ws k 0 ≡ 0) → list_all (λ w. eqb w 0) ws ≡ true
all_zero [] h = refl
all_zero (w ∷ ws) h = and_all (eqb w 0) (list_all (λ x. eqb x 0) ws) (eq-eqb w 0 (h 0)) (all_zero ws (λ k. h (suc k)))

each_zero : (ws : List ℕ) → list_all (λ w. eqb w 0) ws ≡ true → (k : ℕ) → get_or ws k 0 ≡ 0
each_zero [] h k = refl
each_zero (w ∷ ws) h zero = eqb-true w 0 (and_left (eqb w 0) (list_all (λ x. eqb x 0) ws) h)
each_zero (w ∷ ws) h (suc k) = each_zero ws (and_right (eqb w 0) (list_all (λ x. eqb x 0) ws) h) k

module _ (s : List ℕ) (at n : ℕ) where
  pub zeros_of : ((k : ℕ) → k < n → word s (at + k) ≡ 0) → zeros s at n ≡ true
  zeros_of h = all_zero (take n (drop at s)) (λ k. elim (cases_lt k n) [ inl l ↦ within k l | inr l ↦ past k l ])
    where
      within : (k : ℕ) → k < n → get_or (take n (drop at s)) k 0 ≡ 0
      within k l = get_or-take n (drop at s) k 0 l ∙ get_or-drop at s k 0 ∙ h k l

      past : (k : ℕ) → n ≤ k → get_or (take n (drop at s)) k 0 ≡ 0
      past k l = get_or_past (take n (drop at s)) k 0 (let e = length-take n (drop at s) in omega arith)

  pub each_of : zeros s at n ≡ true → (k : ℕ) → k < n → word s (at + k) ≡ 0
  each_of h k l = sym (get_or-take n (drop at s) k 0 l ∙ get_or-drop at s k 0) ∙ each_zero (take n (drop at s)) h k
