-- A store that is not damaged, said of its chains link by link: what the theorems about `is_whole` say
use Rattle.std.specs.Prelude.{ℕ, zero, suc, ◌+◌, ◌*◌, ◌%◌, ◌≡◌, ◌<◌, ◌≤◌, true, List, [], ◌∷◌, length}
use Rattle.settings.specs.Records.{word, records, head, next, version, pause, veto}
use Rattle.settings.specs.Whole.{has}

-- the records from an index on by their links, to the zero that ends them
abbrev pub IsChain : List ℕ → ℕ → List ℕ → Type 0
IsChain s i [] = i ≡ 0
IsChain s i (j ∷ js) = (i ≡ j) × (j ≡ 0 → ⊥) × IsChain s (next s j) js

abbrev pub IsFalling : List ℕ → List ℕ → Type 0
IsFalling s [] = Unit {0}
IsFalling s (i ∷ []) = Unit {0}
IsFalling s (i ∷ j ∷ js) = (version s j < version s i) × IsFalling s (j ∷ js)

pub record IsGood (s : List ℕ) (i : ℕ) : Type 0 where
  pub inside : i < records s
  pub version : version s i ≡ 0 → ⊥
  pub pause_low : 1 ≤ pause s i
  pub pause_high : pause s i ≤ 100
  pub veto : veto s i ≤ 1
  pub zeros : (k : ℕ) → 4 ≤ k → k < 8 → word s (8 * i + k) ≡ 0

pub record IsWholeChain (s : List ℕ) (lan : ℕ) : Type 0 where
  pub is : List ℕ
  pub links : IsChain s (head s lan) is
  pub good : (i : ℕ) → has i is ≡ true → IsGood s i
  pub falls : IsFalling s is

pub record IsWhole (s : List ℕ) : Type 0 where
  pub multiple : length s % 8 ≡ 0
  pub some : 8 ≤ length s
  pub zeros : (k : ℕ) → 2 ≤ k → k < 8 → word s k ≡ 0
  pub first : IsWholeChain s 0
  pub second : IsWholeChain s 1
  pub apart : (i : ℕ) → has i first.is ≡ true → has i second.is ≡ true → ⊥

-- what is lent is words of 32 bits
abbrev pub AreWords : List ℕ → Type 0
AreWords s = (at : ℕ) → word s at < 4294967296

-- ---- links one by one, whatever they lead to
abbrev pub step : List ℕ → ℕ → ℕ
step s zero = zero
step s (suc i) = next s (suc i)

-- where so many links lead
abbrev pub follow : List ℕ → ℕ → ℕ → ℕ
follow s zero i = i
follow s (suc n) i = follow s n (step s i)

-- versions fall along the links from an index on, as far as there are any
abbrev pub FallsFrom : List ℕ → ℕ → Type 0
FallsFrom s i = (n : ℕ) → (follow s n i ≡ 0 → ⊥) → (follow s (suc n) i ≡ 0 → ⊥) → version s (follow s (suc n) i) < version s (follow s n i)
