-- A turn of a walk, and its end
use Rattle.std.proofs.Common.{ℕ, zero, suc, ◌≡◌, ◌<◌, ◌≤◌, Bool, true, false, ◌&&◌, cond, List, Some, None, refl, arith}
use borrow.Author.Tests.{lt-ltb, le-ltb}
use Rattle.settings.specs.Records.{version, next}
use Rattle.settings.specs.Whole.{is_good}
use Rattle.settings.specs.Walk.{walked, seen, walk_on}
use Rattle.settings.specs.declared.walk.Walked.{Walked}

module _ (s : List ℕ) (wanted : ℕ) (w : Walked) (below : ℕ) where
  pub walk_over : (n i : ℕ) → n ≡ 0 → walk_on n s wanted w below i ≡ None
  unfolding walk_on
  walk_over zero i h = refl
  walk_over (suc n) i h = absurd (omega arith)

  pub walk_ended : (n i : ℕ) → 0 < n → i ≡ 0 → walk_on n s wanted w below i ≡ Some w
  unfolding walk_on
  walk_ended zero i h e = absurd (omega arith)
  walk_ended (suc n) zero h e = refl
  walk_ended (suc n) (suc i) h e = absurd (omega arith)

  pub walk_bad : (n i : ℕ) → 0 < n → (i ≡ 0 → ⊥) → is_good s i ≡ false → walk_on n s wanted w below i ≡ None
  unfolding walk_on
  walk_bad zero i h k e = absurd (omega arith)
  walk_bad (suc n) zero h k e = absurd (k refl)
  walk_bad (suc n) (suc i) h k e = rw e refl

  pub walk_high : (n i : ℕ) → 0 < n → (i ≡ 0 → ⊥) → below ≤ version s i → walk_on n s wanted w below i ≡ None
  unfolding walk_on
  walk_high zero i h k e = absurd (omega arith)
  walk_high (suc n) zero h k e = absurd (k refl)
  walk_high (suc n) (suc i) h k e = rw (le-ltb (version s (suc i)) below e) (go (is_good s (suc i)))
    where
      go : (b : Bool) → cond (b && false) (walk_on n s wanted (walked (suc i) (seen (version s (suc i)) wanted (suc i) w.found)) (version s (suc i)) (next s (suc i))) None ≡ None
      go true = refl
      go false = refl

  pub walk_next : (n m i : ℕ) → n ≡ suc m → (i ≡ 0 → ⊥) → is_good s i ≡ true → version s i < below
      → walk_on n s wanted w below i ≡ walk_on m s wanted (walked i (seen (version s i) wanted i w.found)) (version s i) (next s i)
  unfolding walk_on
  walk_next zero m i h k e f = absurd (omega arith)
  walk_next (suc n) m zero h k e f = absurd (k refl)
  walk_next (suc n) m (suc i) h k e f =
      let same : n ≡ m = omega arith in
      rw (e, lt-ltb (version s (suc i)) below f, same) refl
