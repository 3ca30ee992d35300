-- Decimal words
use Rattle.std.specs.Prelude.{ℕ, ◌-◌, cond, List, leb, length, Option, Some, None}
use Rattle.text.specs.Hex.{between}
use Rattle.text.specs.Number.{value_of}

-- `0` to `9`
abbrev pub digit : ℕ → Option ℕ
digit b = cond (between 48 57 b) (Some (b - 48)) None

-- the value of digits after some that are worth v
abbrev pub value : ℕ → List ℕ → Option ℕ
value = value_of 10 digit

abbrev pub at_most : ℕ → Option ℕ → Option ℕ
at_most n None = None
at_most n (Some v) = cond (leb v n) (Some v) None

-- one to ten digits
unfoldable pub decimal_number : List ℕ → Option ℕ
decimal_number word = cond (between 1 10 (length word)) (value 0 word) None

-- that fit 32 bits
abbrev pub decimal_u32 : List ℕ → Option ℕ
decimal_u32 word = at_most 4294967295 (decimal_number word)
