-- The definitions at a few texts, worked out
use Prim.Native.Nat.{◌-◌, ◌^◌}
use mathlib.Core.Path.{◌≡◌, refl}
use mathlib.Core.List.{[], ◌∷◌}
use lib.ListN.{length}
use Rattle.text.specs.Lines.{newline, line_end, bare}
use Rattle.text.specs.Words.{pieces, full, words}
use Rattle.text.specs.Number.{value_of}
use Rattle.text.specs.Hex.{digit, hex_word}
use Rattle.text.specs.Digits.{last_hex, hex_digits, decimal, decimal_digits}
use Rattle.std.proofs.Common.{Some, None}

-- "a\nb\n" from 2 on
second_line : line_end (97 ∷ 10 ∷ 98 ∷ 10 ∷ []) 2 ≡ Some 3
unfolding newline
second_line = refl

-- "a\r\r"
one_return : bare (97 ∷ 13 ∷ 13 ∷ []) ≡ 97 ∷ 13 ∷ []
unfolding bare
one_return = refl

-- " v\t\tff "
two_words : words (32 ∷ 118 ∷ 9 ∷ 9 ∷ 102 ∷ 102 ∷ 32 ∷ []) ≡ (118 ∷ []) ∷ (102 ∷ 102 ∷ []) ∷ []
unfolding words pieces full
two_words = refl

-- "15aD"
either_case : hex_word 4 4 (49 ∷ 53 ∷ 97 ∷ 68 ∷ []) ≡ Some 0x15ad
unfolding hex_word value_of digit
either_case = refl

-- "1g"
no_digit : hex_word 1 8 (49 ∷ 103 ∷ []) ≡ None
unfolding hex_word value_of digit
no_digit = refl

-- nine digits, though twelve are allowed
nine : hex_word 1 12 (48 ∷ 48 ∷ 48 ∷ 48 ∷ 48 ∷ 48 ∷ 48 ∷ 48 ∷ 48 ∷ []) ≡ None
unfolding hex_word
nine = refl

-- "0000420c"
eight : hex_digits 0x420c ≡ 48 ∷ 48 ∷ 48 ∷ 48 ∷ 52 ∷ 50 ∷ 48 ∷ 99 ∷ []
unfolding last_hex
eight = refl

zero_alone : decimal_digits 0 ≡ 48 ∷ []
unfolding decimal
zero_alone = refl

fifty : decimal_digits 50 ≡ 53 ∷ 48 ∷ []
unfolding decimal
fifty = refl

longest : length (decimal_digits (2 ^ 64 - 1)) ≡ 20
unfolding decimal
longest = refl
