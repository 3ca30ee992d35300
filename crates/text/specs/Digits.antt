-- Numbers as digits, the first counting most
use Rattle.std.specs.Prelude.{ℕ, zero, suc, ◌+◌, ◌/◌, ◌%◌, cond, List, [], ◌∷◌, ◌++◌, ltb}

-- `0` to `9`, then `a` to `f`; 87 is `a` less ten
abbrev pub glyph : ℕ → ℕ
glyph d = cond (ltb d 10) (48 + d) (87 + d)

-- the last k hexadecimal digits
unfoldable pub last_hex : ℕ → ℕ → List ℕ
last_hex zero v = []
last_hex (suc k) v = last_hex k (v / 16) ++ glyph (v % 16) ∷ []

abbrev pub hex_digits : ℕ → List ℕ
hex_digits v = last_hex 8 v

-- the decimal digits of a number that has at most k, with no zero in front; 0 is `0`
unfoldable pub decimal : ℕ → ℕ → List ℕ
decimal zero v = []
decimal (suc k) v = cond (ltb v 10) (glyph v ∷ []) (decimal k (v / 10) ++ glyph (v % 10) ∷ [])

-- twenty digits hold every number below 2 ^ 64
abbrev pub decimal_digits : ℕ → List ℕ
decimal_digits v = decimal 20 v
