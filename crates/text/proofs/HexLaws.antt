-- A turn of reading digits, and which bytes are digits
use Prim.Native.Nat.{ℕ, ◌+◌, ◌-◌, ◌*◌, ◌^◌, ◌≤◌, ◌<◌}
use mathlib.Core.Path.{◌≡◌, refl, ap}
use mathlib.Core.Bool.{Bool, true, false, ◌&&◌}
use native.Mathlib.Omega.{arith}
use native.Mathlib.Nat.{pow-le-pow_right, zero-lt-suc}
use borrow.Author.Tests.{le-leb, lt-leb, leb-true}
use lib.Dec.{leb}
use Rattle.text.specs.Hex.{between, digit, Small}
use Rattle.text.proofs.NumberLaws.{one_more}
use Rattle.std.proofs.Common.{Option, Some, None, cond, ◌∙◌, inl, inr}
use Rattle.std.specs.Char.{digit_value, NotDecimalDigitIn, IsDigitOf}
use Rattle.std.specs.Option.{SomeIff, MatchOption}
use Rattle.std.proofs.lemmas.Bool.Decides.{nat_tests}

-- eight digits fill 32 bits
pub room : (i v d : ℕ) → v < 16 ^ i → d < 16 → i < 8 → 16 * v + d < 2 ^ 32
room i v d h k l =
    let top : 16 ^ (i + 1) ≤ 16 ^ 8 = let upto : i + 1 ≤ 8 = omega arith in pow-le-pow_right (zero-lt-suc 15) upto in
    omega (arith, one_more 16 i v d h k)

-- where a byte lies
module _ (low high b : ℕ) where
  in_range : low ≤ b → b ≤ high → between low high b ≡ true
  in_range h k = simp (le-leb low b h, le-leb b high k)

  below_range : b < low → between low high b ≡ false
  below_range h = simp (lt-leb low b h)

  above_range : high < b → between low high b ≡ false
  above_range h = simp (lt-leb b high h) (go (leb low b))
    where
      go : (t : Bool) → (t && false) ≡ false
      go true = refl
      go false = refl

pub in_between : (low high b : ℕ) → between low high b ≡ true → (low ≤ b) × (b ≤ high)
in_between low high b e = go (leb low b) (leb b high) refl refl e
  where
    go : (p q : Bool) → leb low b ≡ p → leb b high ≡ q → (p && q) ≡ true → (low ≤ b) × (b ≤ high)
    go true true f g e = (leb-true low b f, leb-true b high g)
    go true false f g e = cc
    go false q f g e = cc

module _ (b : ℕ) where
  pub digit_figure : 48 ≤ b → b ≤ 57 → digit b ≡ Some (b - 48)
  unfolding digit
  digit_figure h k = rw (in_range 48 57 b h k)

  pub digit_small : 97 ≤ b → b ≤ 102 → digit b ≡ Some (b - 97 + 10)
  unfolding digit
  digit_small h k = rw (above_range 48 57 b (omega arith), in_range 97 102 b h k) (ap Some (omega arith))

  pub digit_capital : 65 ≤ b → b ≤ 70 → digit b ≡ Some (b - 65 + 10)
  unfolding digit
  digit_capital h k = rw (above_range 48 57 b (omega arith), below_range 97 102 b (omega arith), in_range 65 70 b h k) (ap Some (omega arith))

-- what `to_digit(16)` reads
value_figure : (b : ℕ) → 48 ≤ b → b ≤ 57 → digit_value b ≡ b - 48
value_figure b h k = grind (arith, nat_tests)

value_small : (b : ℕ) → 97 ≤ b → b ≤ 122 → digit_value b ≡ b - 87
value_small b h k = grind (arith, nat_tests)

value_capital : (b : ℕ) → 65 ≤ b → b ≤ 90 → digit_value b ≡ b - 55
value_capital b h k = grind (arith, nat_tests)

no_digit : (b : ℕ) (p q r : Bool) → (digit_value b < 16 → ⊥) → between 48 57 b ≡ p → between 97 102 b ≡ q → between 65 70 b ≡ r
    → cond p (Some (b - 48)) (cond q (Some (b - 87)) (cond r (Some (b - 55)) None)) ≡ None
no_digit b true q r n e f g = let w = in_between 48 57 b e in absurd (n (omega (arith, value_figure b w.0 w.1)))
no_digit b false true r n e f g = let w = in_between 97 102 b f in absurd (n (omega (arith, value_small b w.0 (omega arith))))
no_digit b false false true n e f g = let w = in_between 65 70 b g in absurd (n (omega (arith, value_capital b w.0 (omega arith))))
no_digit b false false false n e f g = refl

pub digit_reads : (b : ℕ) (r : Option ℕ) → SomeIff r (digit_value b < 16) (digit_value b) → MatchOption r (NotDecimalDigitIn 16 b) (IsDigitOf b) → digit b ≡ r
unfolding digit
digit_reads b None h _ = no_digit b (between 48 57 b) (between 97 102 b) (between 65 70 b) h refl refl refl
digit_reads b (Some d) h (inl w) = digit_figure b w.0.0 w.0.1 ∙ ap Some (omega arith)
digit_reads b (Some d) h (inr (inl w)) = digit_capital b w.0.0 (omega arith) ∙ ap Some (omega arith)
digit_reads b (Some d) h (inr (inr w)) = digit_small b w.0.0 (omega arith) ∙ ap Some (omega arith)

pub small_reads : (b : ℕ) (r : Option ℕ) → SomeIff r (digit_value b < 16) (digit_value b) → Small r
small_reads b None h = tt
small_reads b (Some d) h = omega arith
