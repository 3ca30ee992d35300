-- sync.rs `bits` takes the document's bits, for every mask
use Rattle.std.proofs.Common.{◌≡◌, ℕ, ◌+◌, ◌*◌, ◌/◌, ◌%◌, ◌^◌, Bool, true, false, not, eqb, sym, refl, ap, ◌∙◌, ap₂, div-one, arith}
use lib.Bits.{bit_and, bit_or, and_mask, and_high, and_block}
use Rattle.hardware.specs.Bits.{bit}
use Rattle.hardware.specs.Talk.{pick}
use Rattle.words.specs.Shift.{shl}
use Rattle.words.specs.Semaphore.{software, firmware, flash}
use Rattle.words.proofs.Bits.{bit_adds, clear, or_apart, field_digit}

software_sum : (b0 b1 b2 b3 b10 b11 b12 : ℕ)
    → b0 * 2 ^ 0 + 0 + (b1 * 2 ^ 1 + 0 + (b2 * 2 ^ 2 + 0 + (b3 * 2 ^ 3 + 0 + (b10 * 2 ^ 10 + 0 + (b11 * 2 ^ 11 + 0 + (b12 * 2 ^ 12 + 0 + 0))))))
    ≡ b10 * 2 ^ 10 + (((b3 * 2 + b2) * 2 + b1) * 2 + b0) + (b12 * 2 + b11) * 2 ^ 11
software_sum b0 b1 b2 b3 b10 b11 b12 = omega arith

firmware_sum : (b0 b1 b2 b3 b11 b12 : ℕ)
    → b0 * 2 ^ 5 + 0 + (b1 * 2 ^ 6 + 0 + (b2 * 2 ^ 7 + 0 + (b3 * 2 ^ 8 + 0 + (0 + (b11 * 2 ^ 13 + 0 + (b12 * 2 ^ 14 + 0 + 0))))))
    ≡ (((b3 * 2 + b2) * 2 + b1) * 2 + b0) * 2 ^ 5 + (b12 * 2 + b11) * 2 ^ 13
firmware_sum b0 b1 b2 b3 b11 b12 = omega arith

module _ (mask : ℕ) where
  abbrev digit : ℕ → ℕ
  digit i = mask / 2 ^ i % 2

  four : mask % 16 ≡ ((digit 3 * 2 + digit 2) * 2 + digit 1) * 2 + digit 0
  four =
      ap (λ n. n % 16) (sym (div-one mask)) ∙ field_digit 0 3 mask
      ∙ ap (λ n. n * 2 + digit 0) (field_digit 1 2 mask ∙ ap (λ n. n * 2 + digit 1) (field_digit 2 1 mask))

  low : bit_and mask 0xf ≡ mask % 16
  low = and_mask mask 4

  i2c : bit_and mask 0x1800 ≡ mask / 2 ^ 11 % 4 * 2 ^ 11
  i2c = and_high mask 2 11

  low_and_10 : bit_and mask 0x40f ≡ digit 10 * 2 ^ 10 + mask % 16
  low_and_10 =
      ap (λ m. bit_and m 0x40f) (let e : mask ≡ mask / 2 ^ 10 * 2 ^ 10 + mask % 2 ^ 10 = omega arith in e)
      ∙ and_block 10 (mask / 2 ^ 10) 1 (mask % 2 ^ 10) 0xf (omega arith) (omega arith)
      ∙ omega (arith, and_mask (mask / 2 ^ 10) 1, and_mask (mask % 2 ^ 10) 4)

  two : mask / 2 ^ 11 % 4 ≡ digit 12 * 2 + digit 11
  two = field_digit 11 1 mask

  pub software_rust : software mask ≡ bit_or (bit_and mask (bit_or 0xf 0x400)) (bit_and mask 0x1800)
  unfolding software
  software_rust =
      simp bit_adds
      (software_sum (digit 0) (digit 1) (digit 2) (digit 3) (digit 10) (digit 11) (digit 12)
      ∙ sym
      (ap₂ bit_or low_and_10 i2c
      ∙ or_apart 11 (digit 10 * 2 ^ 10 + mask % 16) (mask / 2 ^ 11 % 4 * 2 ^ 11) (omega arith) (omega arith)
      ∙ ap₂ (λ x y. digit 10 * 2 ^ 10 + x + y * 2 ^ 11) four two))

  pub firmware_rust : firmware mask ≡ bit_or (shl (bit_and mask 0xf) 5) (shl (bit_and mask 0x1800) 2)
  unfolding firmware
  firmware_rust =
      simp bit_adds
      (firmware_sum (digit 0) (digit 1) (digit 2) (digit 3) (digit 11) (digit 12)
      ∙ sym
      (ap₂ (λ x y. bit_or (shl x 5) (shl y 2)) low i2c
      ∙ or_apart 13 (shl (mask % 16) 5) (shl (mask / 2 ^ 11 % 4 * 2 ^ 11) 2) (omega arith) (omega arith)
      ∙ (let e : shl (mask % 16) 5 + shl (mask / 2 ^ 11 % 4 * 2 ^ 11) 2 ≡ mask % 16 * 2 ^ 5 + mask / 2 ^ 11 % 4 * 2 ^ 13 = omega arith in e)
      ∙ ap₂ (λ x y. x * 2 ^ 5 + y * 2 ^ 13) four two))

  pub flash_rust : flash mask ≡ pick (not (eqb (bit_and mask 1) 0)) 0x10 0
  unfolding flash
  flash_rust = rw (clear 0 mask) (go (bit 0 mask))
    where
      go : (b : Bool) → pick b 16 0 + 0 + 0 ≡ pick (not (not b)) 16 0
      go true = refl
      go false = refl
