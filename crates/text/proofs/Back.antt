-- What is written is read back
use Prim.Native.Nat.{ℕ, zero, suc, ◌+◌, ◌-◌, ◌*◌, ◌/◌, ◌%◌, ◌^◌, ◌≤◌, ◌<◌}
use mathlib.Core.Path.{◌≡◌, refl, ap, sym, ◌∙◌}
use mathlib.Core.Bool.{Bool, true, false}
use mathlib.Core.List.{List, [], ◌∷◌, ◌++◌}
use native.Mathlib.Omega.{arith}
use native.Mathlib.Numerals.{add-one}
use native.Mathlib.Nat.{pow-suc, mod-lt, zero-lt-suc}
use borrow.Author.Tests.{lt-ltb, ltb-true, ltb-false}
use lib.Dec.{ltb}
use lib.ListN.{length, get_or, length-append, get_or-append}
use Rattle.text.specs.Number.{value_of}
use Rattle.text.specs.Hex.{digit, value, hex_word}
use Rattle.text.specs.Digits.{glyph, last_hex, hex_digits, decimal, decimal_digits}
use Rattle.std.specs.Option.{option_and_then}
use Rattle.std.proofs.Common.{Option, Some, None}
use Rattle.text.proofs.HexLaws.{digit_figure, digit_small}

digit_glyph : (d : ℕ) → d < 16 → digit (glyph d) ≡ Some d
digit_glyph d h = go (ltb d 10) refl
  where
    go : (b : Bool) → ltb d 10 ≡ b → digit (glyph d) ≡ Some d
    go true e =
        let k : d < 10 = ltb-true d 10 e in
        rw e (digit_figure (48 + d) (omega arith) (omega arith) ∙ ap Some (omega arith))
    go false e =
        let k : 10 ≤ d = ltb-false d 10 e in
        rw e (digit_small (87 + d) (omega arith) (omega arith) ∙ ap Some (omega arith))

value_append : (xs ys : List ℕ) (a : ℕ) → value a (xs ++ ys) ≡ option_and_then (λ v. value v ys) (value a xs)
unfolding value_of
value_append [] ys a = refl
value_append (x ∷ xs) ys a = go (digit x) (λ d. value_append xs ys (16 * a + d))
  where
    go : (n : Option ℕ) → ((d : ℕ) → value (16 * a + d) (xs ++ ys) ≡ option_and_then (λ v. value v ys) (value (16 * a + d) xs))
        → option_and_then (λ d. value (16 * a + d) (xs ++ ys)) n ≡ option_and_then (λ v. value v ys) (option_and_then (λ d. value (16 * a + d) xs) n)
    go (Some d) h = h d
    go None h = refl

read_back : (k v : ℕ) → v < 16 ^ k → value 0 (last_hex k v) ≡ Some v
unfolding last_hex value_of
read_back zero v h = ap Some (omega arith)
read_back (suc k) v h =
    let high : v / 16 < 16 ^ k = omega (arith, pow-suc 16 k) in
    value_append (last_hex k (v / 16)) (glyph (v % 16) ∷ []) 0
    ∙ rw (read_back k (v / 16) high) (rw (digit_glyph (v % 16) (mod-lt v (zero-lt-suc 15))) (ap Some (omega arith)))

pub length_last_hex : (k v : ℕ) → length (last_hex k v) ≡ k
unfolding last_hex
length_last_hex zero v = refl
length_last_hex (suc k) v = simp (length-append, length_last_hex k (v / 16), add-one)

pub hex_back : (v : ℕ) → v < 2 ^ 32 → hex_word 8 8 (hex_digits v) ≡ Some v
unfolding hex_word
hex_back v h = rw (length_last_hex 8 v) (read_back 8 v h)

-- the number that decimal digits say, after some that say v
abbrev pub said : ℕ → List ℕ → ℕ
said v [] = v
said v (b ∷ bs) = said (10 * v + (b - 48)) bs

said_last : (xs : List ℕ) (v b : ℕ) → said v (xs ++ b ∷ []) ≡ 10 * said v xs + (b - 48)
said_last [] v b = refl
said_last (x ∷ xs) v b = said_last xs (10 * v + (x - 48)) b

figure : (d : ℕ) → d < 10 → glyph d - 48 ≡ d
figure d h = rw (lt-ltb d 10 h) (omega arith)

decimal_said : (k v : ℕ) → v < 10 ^ k → said 0 (decimal k v) ≡ v
unfolding decimal
decimal_said zero v h = omega arith
decimal_said (suc k) v h = go (ltb v 10) refl (decimal_said k (v / 10) (omega (arith, pow-suc 10 k)))
  where
    go : (b : Bool) → ltb v 10 ≡ b → said 0 (decimal k (v / 10)) ≡ v / 10 → said 0 (decimal (suc k) v) ≡ v
    go true e i = rw e (omega arith)
    go false e i = rw e (said_last (decimal k (v / 10)) 0 (glyph (v % 10)) ∙ rw (i, figure (v % 10) (mod-lt v (zero-lt-suc 9))) (omega arith))

-- twenty digits are enough for every u64
pub decimal_back : (v : ℕ) → v < 10 ^ 20 → said 0 (decimal_digits v) ≡ v
decimal_back v h = decimal_said 20 v h

some_digit : (k v : ℕ) → 0 < v → v < 10 ^ k → 0 < length (decimal k v)
unfolding decimal
some_digit zero v h l = let z : ⊥ = omega arith in absurd z
some_digit (suc k) v h l = go (ltb v 10) refl
  where
    go : (b : Bool) → ltb v 10 ≡ b → 0 < length (decimal (suc k) v)
    go true e = rw e (omega arith)
    go false e = rw e (simp length-append (omega arith))

no_zero : (k v : ℕ) → 0 < v → v < 10 ^ k → get_or (decimal k v) 0 0 ≡ 48 → ⊥
unfolding decimal
no_zero zero v h l = let z : ⊥ = omega arith in absurd z
no_zero (suc k) v h l = go (ltb v 10) refl (no_zero k (v / 10))
  where
    go : (b : Bool) → ltb v 10 ≡ b → (0 < v / 10 → v / 10 < 10 ^ k → get_or (decimal k (v / 10)) 0 0 ≡ 48 → ⊥)
        → get_or (decimal (suc k) v) 0 0 ≡ 48 → ⊥
    go true e i z = let w : 48 + v ≡ 48 = rw e at z in omega arith
    go false e i z =
        let k₁ : 10 ≤ v = ltb-false v 10 e in
        let above : 0 < v / 10 = omega arith in
        let below : v / 10 < 10 ^ k = omega (arith, pow-suc 10 k) in
        let w : get_or (decimal k (v / 10) ++ glyph (v % 10) ∷ []) 0 0 ≡ 48 = rw e at z in
        i above below (sym (get_or-append (decimal k (v / 10)) (glyph (v % 10) ∷ []) 0 0 (some_digit k (v / 10) above below)) ∙ w)

-- the first digit is `0` only for 0
pub no_zero_in_front : (v : ℕ) → 0 < v → v < 10 ^ 20 → get_or (decimal_digits v) 0 0 ≡ 48 → ⊥
no_zero_in_front v h l = no_zero 20 v h l
