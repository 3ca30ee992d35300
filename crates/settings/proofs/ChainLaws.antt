-- A chain, a link at a time
use Rattle.std.proofs.Common.{ℕ, zero, suc, ◌≡◌, Bool, true, false, ◌||◌, List, [], ◌∷◌, refl, arith}
use Rattle.settings.specs.Records.{next, chain_from}

module _ (s : List ℕ) where
  pub chain_out : (n i : ℕ) → n ≡ 0 → chain_from n s i ≡ []
  unfolding chain_from
  chain_out zero i h = refl
  chain_out (suc n) i h = absurd (omega arith)

  pub chain_end : (n i : ℕ) → i ≡ 0 → chain_from n s i ≡ []
  unfolding chain_from
  chain_end zero i h = refl
  chain_end (suc n) zero h = refl
  chain_end (suc n) (suc i) h = absurd (omega arith)

  pub chain_next : (n m i : ℕ) → n ≡ suc m → (i ≡ 0 → ⊥) → chain_from n s i ≡ i ∷ chain_from m s (next s i)
  unfolding chain_from
  chain_next zero m i h k = absurd (omega arith)
  chain_next (suc n) m zero h k = absurd (k refl)
  chain_next (suc n) m (suc i) h k = let same : n ≡ m = omega arith in rw same refl

pub or_moved : (a b c : Bool) → b || (a || c) ≡ (a || b) || c
or_moved true true c = refl
or_moved true false c = refl
or_moved false b c = refl
