-- Words behind each other, and what is read from them
use Rattle.std.specs.Prelude.{ℕ, ◌+◌, ◌*◌, ◌≡◌, Bool, true, false, List, ◌++◌, eqb, length, take, get_or}
use Rattle.hardware.specs.Talk.{pick}

-- the words are put behind the first `at`, as far as there is room; `r` is the place behind them
pub record Adds (at : ℕ) (ws xs : List ℕ) (r : ℕ) (ws' : List ℕ) : Type 0 where
  pub words : take r ws' ≡ take (length ws) (take at ws ++ xs)
  pub room : length ws' ≡ length ws

-- the word at a place, 0 behind the end
unfoldable pub word_at : List ℕ → ℕ → ℕ
word_at s k = get_or s k 0

abbrev pub flag_of : Bool → ℕ
flag_of b = pick b 1 0

-- as in C, any number but 0 is true
abbrev pub is : ℕ → Bool
is w = pick (eqb w 0) false true

-- a number of 64 bits from its low word and its high one
abbrev pub joined : ℕ → ℕ → ℕ
joined low high = low + high * 4294967296
