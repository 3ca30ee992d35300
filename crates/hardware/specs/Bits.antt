-- One bit of a word, and the Rust's `v & !b`
use Rattle.std.specs.Prelude.{ℕ, zero, suc, ◌-◌, ◌/◌, ◌%◌, ◌^◌, Bool, eqb}
use Rattle.std.specs.Int.Bits.{bit_and}

-- bit i of x, the lowest is bit 0
unfoldable pub bit : ℕ → ℕ → Bool
bit zero x = eqb (x % 2) 1
bit (suc i) x = bit i (x / 2)

-- `!b` of words of n bits
abbrev pub inverse : ℕ → ℕ → ℕ
inverse n b = 2 ^ n - 1 - b

-- `v & !b` of words of n bits, and of 32
abbrev pub without_of : ℕ → ℕ → ℕ → ℕ
without_of n v b = bit_and v (inverse n b)

abbrev pub without : ℕ → ℕ → ℕ
without = without_of 32
