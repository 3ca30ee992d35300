-- A word of k digits is worth less than 16 ^ k
use Prim.Native.Nat.{ℕ, suc, ◌+◌, ◌-◌, ◌*◌, ◌^◌, ◌≤◌, ◌<◌}
use mathlib.Core.Path.{◌≡◌, refl}
use mathlib.Core.Bool.{Bool, true, false, ◌&&◌, cond}
use mathlib.Core.List.{List, [], ◌∷◌}
use native.Mathlib.Omega.{arith}
use native.Mathlib.Nat.{pow-succ', pow-le-pow_right, zero-lt-suc, mul_assoc, mul-le-mul_right, lt_of_lt_of_le}
use borrow.Author.Tests.{leb-true}
use lib.Dec.{leb}
use lib.ListN.{length}
use Rattle.text.specs.Number.{value_of}
use Rattle.text.specs.Hex.{between, digit, value, hex_word}
use Rattle.std.specs.Option.{option_and_then}
use Rattle.std.proofs.lemmas.Option.{same_Some}
use Rattle.std.proofs.Common.{Option, Some, None}
use Rattle.text.proofs.HexLaws.{in_between}

picked : (b d : ℕ) (p q r : Bool) → between 48 57 b ≡ p → between 97 102 b ≡ q → between 65 70 b ≡ r
    → cond p (Some (b - 48)) (cond q (Some (b - 87)) (cond r (Some (b - 55)) None)) ≡ Some d → d < 16
picked b d true q r e f g h = omega (arith, (in_between 48 57 b e).1, same_Some _ _ h)
picked b d false true r e f g h = omega (arith, (in_between 97 102 b f).1, same_Some _ _ h)
picked b d false false true e f g h = omega (arith, (in_between 65 70 b g).1, same_Some _ _ h)
picked b d false false false e f g h = cc

digit_below : (b d : ℕ) → digit b ≡ Some d → d < 16
unfolding digit
digit_below b d h = picked b d (between 48 57 b) (between 97 102 b) (between 65 70 b) refl refl refl h

value_below : (v : ℕ) (bs : List ℕ) (n : ℕ) → value v bs ≡ Some n → n < (v + 1) * 16 ^ length bs
unfolding value_of
value_below v [] n h = omega (arith, same_Some _ _ h)
value_below v (b ∷ bs) n h = go (digit b) refl h (λ d. value_below (16 * v + d) bs n)
  where
    go : (x : Option ℕ) → digit b ≡ x → option_and_then (λ d. value (16 * v + d) bs) x ≡ Some n
        → ((d : ℕ) → value (16 * v + d) bs ≡ Some n → n < (16 * v + d + 1) * 16 ^ length bs) → n < (v + 1) * 16 ^ suc (length bs)
    go None e h ih = cc
    go (Some d) e h ih =
        let k : 16 * v + d + 1 ≤ (v + 1) * 16 = omega (arith, digit_below b d e) in
        rw (pow-succ' 16 (length bs), ← mul_assoc (v + 1) 16 (16 ^ length bs)) (lt_of_lt_of_le (ih d h) (mul-le-mul_right (16 ^ length bs) k))

pub hex_below : (fewest most : ℕ) (word : List ℕ) (n : ℕ) → hex_word fewest most word ≡ Some n → n < 16 ^ most
unfolding hex_word
hex_below fewest most word n h = go (leb fewest (length word)) (leb (length word) most) (leb (length word) 8) refl h
  where
    go : (a b c : Bool) → leb (length word) most ≡ b → cond ((a && b) && c) (value 0 word) None ≡ Some n → n < 16 ^ most
    go true true true e h =
        let top : 16 ^ length word ≤ 16 ^ most = pow-le-pow_right (zero-lt-suc 15) (leb-true _ _ e) in
        omega (arith, value_below 0 word n h)
    go true true false e h = cc
    go true false c e h = cc
    go false b c e h = cc
