-- Hexadecimal words
use Rattle.std.specs.Prelude.{ℕ, ◌-◌, ◌<◌, Bool, ◌&&◌, cond, List, leb, length, Option, Some, None}
use Rattle.std.proofs.Math.Seq.{slice}
use Rattle.text.specs.Number.{value_of}
use Rattle.text.specs.Parts.{has_part}

abbrev pub between : ℕ → ℕ → ℕ → Bool
between low high b = leb low b && leb b high

-- `0` to `9`, `a` to `f`, `A` to `F`
unfoldable pub digit : ℕ → Option ℕ
digit b =
    cond (between 48 57 b) (Some (b - 48))
    (cond (between 97 102 b) (Some (b - 87))
    (cond (between 65 70 b) (Some (b - 55))
    None))

-- the value of digits after some that are worth v
abbrev pub value : ℕ → List ℕ → Option ℕ
value = value_of 16 digit

-- a word of so many digits, eight at most
unfoldable pub hex_word : ℕ → ℕ → List ℕ → Option ℕ
hex_word fewest most word =
    cond (between fewest most (length word) && leb (length word) 8) (value 0 word) None

-- the same of a part of a line; where there is no such part, it is nothing
unfoldable pub hex_part : List ℕ → ℕ → ℕ → ℕ → ℕ → Option ℕ
hex_part line start end fewest most =
    cond (has_part start end line) (hex_word fewest most (slice start end line)) None

-- a digit is worth less than 16
abbrev pub Small : Option ℕ → Type 0
Small (Some d) = d < 16
Small None = Unit {0}
