-- A bit by arithmetic, and words that have no bit in common
use Rattle.std.proofs.Common.{◌≡◌, ℕ, zero, suc, ◌+◌, ◌*◌, ◌/◌, ◌%◌, ◌^◌, ◌<◌, true, false, not, eqb, sym, refl, ap, ◌∙◌, mod-lt, zero-lt-suc, pow-suc, div-add-mod', arith, pow_pos, pow-add, eq-eqb, ne_eqb}
use native.Mathlib.Nat.{pow-succ', div-div-eq-div-mul}
use lib.Arith.{digits_div, digits_mod, mod-mul}
use lib.Bits.{bit_and, bit_or, or_shifted_r}
use Rattle.hardware.specs.Bits.{bit}
use Rattle.hardware.specs.Talk.{pick}
use Rattle.hardware.proofs.Bits.{test_bit, masked, one_bit}

-- bit i is the digit of 2 ^ i
pub bit_digit : (i x : ℕ) → bit i x ≡ eqb (x / 2 ^ i % 2) 1
unfolding bit
bit_digit zero x = ap (λ n. eqb (n % 2) 1) (let e : x ≡ x / 1 = omega arith in e)
bit_digit (suc i) x =
    bit_digit i (x / 2) ∙ ap (λ n. eqb (n % 2) 1) (div-div-eq-div-mul x 2 (2 ^ i) ∙ ap (λ n. x / n) (sym (pow-succ' 2 i)))

times_digit : (d p : ℕ) → d < 2 → pick (eqb d 1) p 0 ≡ d * p
times_digit zero p h = omega arith
times_digit (suc zero) p h = omega arith
times_digit (suc (suc d)) p h = let z : ⊥ = omega arith in absurd z

-- what a bit adds to a word
pub bit_adds : (i x p : ℕ) → pick (bit i x) p 0 ≡ x / 2 ^ i % 2 * p
bit_adds i x p = ap (λ b. pick b p 0) (bit_digit i x) ∙ times_digit (x / 2 ^ i % 2) p (mod-lt (x / 2 ^ i) (zero-lt-suc 1))

own_bit : (k : ℕ) → bit k (2 ^ k) ≡ true
unfolding bit
own_bit zero = refl
own_bit (suc k) = ap (bit k) (let e : 2 ^ suc k / 2 ≡ 2 ^ k = omega (arith, pow-succ' 2 k) in e) ∙ own_bit k

-- `v & 1 << k == 0`
pub clear : (k v : ℕ) → eqb (bit_and v (2 ^ k)) 0 ≡ not (bit k v)
clear k v = test_bit k v (own_bit k)

pub is_clear_lem : (k v : ℕ) → bit_and v (2 ^ k) ≡ 0 → bit k v ≡ false
is_clear_lem k v h = masked v (2 ^ k) (eq-eqb (bit_and v (2 ^ k)) 0 h) k (own_bit k)

pub is_set : (k v : ℕ) → (bit_and v (2 ^ k) ≡ 0 → ⊥) → bit k v ≡ true
is_set k v h = one_bit k v (ne_eqb (bit_and v (2 ^ k)) 0 h)

pub digit_clear : (i x : ℕ) → bit i x ≡ false → x / 2 ^ i % 2 ≡ 0
digit_clear i x h = omega (arith, ap (λ b. pick b 1 0) (sym h) ∙ bit_adds i x 1)

-- a word below 2 ^ k and one with nothing below bit k
pub or_apart : (k low high : ℕ) → low < 2 ^ k → high % 2 ^ k ≡ 0 → bit_or low high ≡ low + high
or_apart k low high h z =
    ap (bit_or low) e ∙ or_shifted_r (high / 2 ^ k) k low h ∙ omega (arith, e)
  where
    e : high ≡ high / 2 ^ k * 2 ^ k
    e = omega (arith, div-add-mod' high (2 ^ k))

-- a field of j bits from bit k on, out of a word that was put together from parts
pub field : (k j word low mid high : ℕ) → low < 2 ^ k → mid < 2 ^ j → word ≡ (high * 2 ^ j + mid) * 2 ^ k + low → word / 2 ^ k % 2 ^ j ≡ mid
field k j word low mid high l m e =
    ap (λ w. w / 2 ^ k % 2 ^ j) e ∙ ap (λ w. w % 2 ^ j) (digits_div (high * 2 ^ j + mid) l) ∙ digits_mod high m

-- what stands from bit k on is a field of j bits and what stands behind it
pub behind : (k j word : ℕ) → word / 2 ^ k ≡ word / 2 ^ (k + j) * 2 ^ j + word / 2 ^ k % 2 ^ j
behind k j word =
    sym (div-add-mod' (word / 2 ^ k) (2 ^ j))
    ∙ ap (λ w. w * 2 ^ j + word / 2 ^ k % 2 ^ j) (div-div-eq-div-mul word (2 ^ k) (2 ^ j) ∙ ap (λ n. word / n) (sym (pow-add 2 k j)))

-- a field by its lowest bit and the rest
pub field_digit : (k j word : ℕ) → word / 2 ^ k % 2 ^ suc j ≡ word / 2 ^ suc k % 2 ^ j * 2 + word / 2 ^ k % 2
field_digit k j word =
    ap (λ n. word / 2 ^ k % n) (pow-suc 2 j) ∙ mod-mul (word / 2 ^ k) (pow_pos j) (zero-lt-suc 1)
    ∙ ap (λ n. n % 2 ^ j * 2 + word / 2 ^ k % 2) (div-div-eq-div-mul word (2 ^ k) 2 ∙ ap (λ n. word / n) (sym (pow-suc 2 k)))
