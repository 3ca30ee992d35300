-- What a reader counts of windows, beside the tests of Windows.antt
use Rattle.std.specs.Prelude.{ℕ, ◌+◌, ◌%◌, ◌≤◌, ◌≡◌, ◌⊎◌, List, [], ◌∷◌}
use Rattle.operations.specs.Windows.{week}

-- counting on from the start, minute by minute and from the last of the week to its first, one comes to this minute, and not
-- to the end before or with it
pub record Counted (start end minute : ℕ) : Type 0 where
  pub on : ℕ
  pub there : (start + on) % week ≡ minute
  pub before : (k : ℕ) → k ≤ on → (start + k) % week ≡ end → ⊥

-- in one of these windows
abbrev pub SomeCounted : ℕ → List ℕ → Type 0
SomeCounted minute [] = ⊥
SomeCounted minute (start ∷ []) = ⊥
SomeCounted minute (start ∷ end ∷ ws) = Counted start end minute ⊎ SomeCounted minute ws
