-- The bits of `and`, `or` and `v & !b`, each once over the width
use Prim.Native.Nat.{ℕ, zero, suc, ◌+◌, ◌-◌, ◌*◌, ◌/◌, ◌%◌, ◌^◌, ◌<◌, ◌≤◌, min, max}
use native.Mathlib.Omega.{arith}
use native.Mathlib.Nat.{mod-lt, zero-lt-suc, pow-suc, min-zero, div-add-mod'}
use mathlib.Core.Path.{◌≡◌, refl, sym, ap, ap₂, ◌∙◌}
use mathlib.Core.Bool.{Bool, true, false, not, ◌&&◌, ◌||◌, true≢false}
use lib.Dec.{eqb}
use lib.Bits.{bit_and, bit_or, and_step, or_step, and_zero_r}
use borrow.Author.Tests.{eqb-true, eqb-false, eq-eqb, ne_eqb}
use Rattle.hardware.specs.Bits.{bit}

-- a digit is 0 or 1
pub data Digit : ℕ → Type 0 where
  d0 : Digit 0
  d1 : Digit 1

digit : (n : ℕ) → n < 2 → Digit n
digit zero h = d0
digit (suc zero) h = d1
digit (suc (suc n)) h = let z : ⊥ = omega arith in absurd z

and_digit : {x y : ℕ} → Digit x → Digit y → eqb (min x y) 1 ≡ (eqb x 1 && eqb y 1)
and_digit d0 d0 = refl
and_digit d0 d1 = refl
and_digit d1 d0 = refl
and_digit d1 d1 = refl

or_digit : {x y : ℕ} → Digit x → Digit y → eqb (max x y) 1 ≡ (eqb x 1 || eqb y 1)
or_digit d0 d0 = refl
or_digit d0 d1 = refl
or_digit d1 d0 = refl
or_digit d1 d1 = refl

pub low : (x : ℕ) → Digit (x % 2)
low x = digit (x % 2) (mod-lt x (zero-lt-suc 1))

and_half : (a b : ℕ) → bit_and a b / 2 ≡ bit_and (a / 2) (b / 2)
and_half a b = omega (arith, and_step a b)

and_low : (a b : ℕ) → bit_and a b % 2 ≡ min (a % 2) (b % 2)
and_low a b = omega (arith, and_step a b)

or_half : (a b : ℕ) → bit_or a b / 2 ≡ bit_or (a / 2) (b / 2)
or_half a b = omega (arith, or_step a b)

or_low : (a b : ℕ) → bit_or a b % 2 ≡ max (a % 2) (b % 2)
or_low a b = omega (arith, or_step a b)

-- words with the same bits are the same

same_digit : {x y : ℕ} → Digit x → Digit y → eqb x 1 ≡ eqb y 1 → x ≡ y
same_digit d0 d0 e = refl
same_digit d0 d1 e = absurd (true≢false (sym e))
same_digit d1 d0 e = absurd (true≢false e)
same_digit d1 d1 e = refl

same_up_to : (n a b : ℕ) → a ≤ n → b ≤ n → ((i : ℕ) → bit i a ≡ bit i b) → a ≡ b
unfolding bit
same_up_to zero a b ha hb h = omega arith
same_up_to (suc n) a b ha hb h =
    sym (div-add-mod' a 2)
    ∙ ap₂ (λ x y. x * 2 + y) (same_up_to n (a / 2) (b / 2) (omega arith) (omega arith) (λ i. h (suc i))) (same_digit (low a) (low b) (h 0))
    ∙ div-add-mod' b 2

pub same_bits : (a b : ℕ) → ((i : ℕ) → bit i a ≡ bit i b) → a ≡ b
same_bits a b h = same_up_to (a + b) a b (omega arith) (omega arith) h

pub bit-bit_and : (i a b : ℕ) → bit i (bit_and a b) ≡ (bit i a && bit i b)
unfolding bit
bit-bit_and zero a b = ap (λ x. eqb x 1) (and_low a b) ∙ and_digit (low a) (low b)
bit-bit_and (suc i) a b = ap (bit i) (and_half a b) ∙ bit-bit_and i (a / 2) (b / 2)

pub bit-bit_or : (i a b : ℕ) → bit i (bit_or a b) ≡ (bit i a || bit i b)
unfolding bit
bit-bit_or zero a b = ap (λ x. eqb x 1) (or_low a b) ∙ or_digit (low a) (low b)
bit-bit_or (suc i) a b = ap (bit i) (or_half a b) ∙ bit-bit_or i (a / 2) (b / 2)

pub bit_zero : (i : ℕ) → bit i 0 ≡ false
unfolding bit
bit_zero zero = refl
bit_zero (suc i) = bit_zero i

not_digit : {x : ℕ} (y : ℕ) → Digit x → y + x ≡ 1 → eqb y 1 ≡ not (eqb x 1)
not_digit y d0 h = eq-eqb y 1 (omega arith)
not_digit y d1 h = ne_eqb y 1 (omega arith)

-- the complement's bits, below the width
not_bits : (n i v b : ℕ) → v < 2 ^ n → b < 2 ^ n → (bit i v && bit i (2 ^ n - 1 - b)) ≡ (bit i v && not (bit i b))
unfolding bit
not_bits zero i v b hv hb = rw (let z : v ≡ 0 = omega arith in z) (rw bit_zero refl)
not_bits (suc n) zero v b hv hb =
    ap (λ x. bit 0 v && x) (not_digit ((2 ^ suc n - 1 - b) % 2) (low b) (omega (arith, pow-suc 2 n)))
not_bits (suc n) (suc i) v b hv hb =
    ap (λ x. bit i (v / 2) && bit i x) (let e : (2 ^ suc n - 1 - b) / 2 ≡ 2 ^ n - 1 - b / 2 = omega (arith, pow-suc 2 n) in e)
    ∙ not_bits n i (v / 2) (b / 2) (omega (arith, pow-suc 2 n)) (omega (arith, pow-suc 2 n))

-- `v & !b` at any width
pub bit_without : (n i v b : ℕ) → v < 2 ^ n → b < 2 ^ n → bit i (bit_and v (2 ^ n - 1 - b)) ≡ (bit i v && not (bit i b))
bit_without n i v b hv hb = bit-bit_and i v (2 ^ n - 1 - b) ∙ not_bits n i v b hv hb

-- what a mask that finds nothing says
pub masked : (v m : ℕ) → eqb (bit_and v m) 0 ≡ true → (i : ℕ) → bit i m ≡ true → bit i v ≡ false
masked v m h i hm = let e : (bit i v && bit i m) ≡ false = sym (bit-bit_and i v m) ∙ ap (bit i) (eqb-true (bit_and v m) 0 h) ∙ bit_zero i in
    go (bit i v) (bit i m) hm e
  where
    go : (a b : Bool) → b ≡ true → (a && b) ≡ false → a ≡ false
    go true true h e = e
    go true false h e = sym h
    go false b h e = refl

-- one bit that is clear
clear_bit : (k v : ℕ) → bit k v ≡ false → bit_and v (2 ^ k) ≡ 0
unfolding bit
clear_bit zero v h = omega (arith, and_step v 1, eqb-false (v % 2) 1 h, and_zero_r (v / 2))
clear_bit (suc k) v h =
    let half : 2 ^ suc k / 2 ≡ 2 ^ k = omega (arith, pow-suc 2 k) in
    let even : 2 ^ suc k % 2 ≡ 0 = omega (arith, pow-suc 2 k) in
    and_step v (2 ^ suc k) ∙ ap₂ (λ x y. bit_and (v / 2) x * 2 + min (v % 2) y) half even
    ∙ ap (λ x. x * 2 + min (v % 2) 0) (clear_bit k (v / 2) h) ∙ ap (λ x. 0 * 2 + x) (min-zero (v % 2))

pub one_bit : (k v : ℕ) → eqb (bit_and v (2 ^ k)) 0 ≡ false → bit k v ≡ true
one_bit k v h = go (bit k v) refl
  where
    go : (b : Bool) → bit k v ≡ b → b ≡ true
    go true e = refl
    go false e = absurd (eqb-false (bit_and v (2 ^ k)) 0 h (clear_bit k v e))

pub not_all_ones : (v : ℕ) → bit 9 v ≡ false → eqb v 0xffffffff ≡ false
unfolding bit
not_all_ones v h = ne_eqb v 0xffffffff (λ e. let z : true ≡ false = sym (ap (bit 9) e) ∙ h in absurd (true≢false z))

pub test_bit : (k v : ℕ) → bit k (2 ^ k) ≡ true → eqb (bit_and v (2 ^ k)) 0 ≡ not (bit k v)
test_bit k v h = go (eqb (bit_and v (2 ^ k)) 0) refl
  where
    go : (b : Bool) → eqb (bit_and v (2 ^ k)) 0 ≡ b → b ≡ not (bit k v)
    go true e = rw (masked v (2 ^ k) e k h)
    go false e = rw (one_bit k v e)

pub test_31 : (v : ℕ) → eqb (bit_and v 0x80000000) 0 ≡ not (bit 31 v)
unfolding bit
test_31 v = test_bit 31 v refl

pub only_bit : (k i : ℕ) → bit i (2 ^ k) ≡ true → i ≡ k
unfolding bit
only_bit zero zero h = refl
only_bit zero (suc i) h = absurd (true≢false (sym h ∙ bit_zero i))
only_bit (suc k) zero h = let even : 2 ^ suc k % 2 ≡ 0 = omega (arith, pow-suc 2 k) in
    absurd (true≢false (sym h ∙ ap (λ t. eqb t 1) even))
only_bit (suc k) (suc i) h = let half : 2 ^ suc k / 2 ≡ 2 ^ k = omega (arith, pow-suc 2 k) in
    ap suc (only_bit k i (sym (ap (bit i) half) ∙ h))

-- a number of k bits has none from k on
pub below : (k i x : ℕ) → x < 2 ^ k → bit i x ≡ true → i < k
unfolding bit
below zero i x h e = let z : x ≡ 0 = omega arith in absurd (true≢false (sym e ∙ ap (bit i) z ∙ bit_zero i))
below (suc k) zero x h e = omega arith
below (suc k) (suc i) x h e = let l : i < k = below k i (x / 2) (omega (arith, pow-suc 2 k)) e in omega arith

pub both_bits : (i a b : ℕ) → bit_and a b ≡ 0 → bit i a ≡ true → bit i b ≡ false
both_bits i a b z e = sym (ap (λ t. t && bit i b) e) ∙ sym (bit-bit_and i a b) ∙ ap (bit i) z ∙ bit_zero i
