-- Each closure of the Rust keeps the bits and sets the bits that the definitions say
use Rattle.std.specs.Prelude.{Option, None, Some}
use Prim.Native.Nat.{ℕ, ◌-◌, ◌^◌, ◌<◌}
use mathlib.Core.Path.{◌≡◌, refl, sym, ap, ap₂, ◌∙◌}
use mathlib.Core.Bool.{Bool, true, false, not, ◌&&◌, ◌||◌}
use native.Mathlib.Omega.{arith}
use native.Mathlib.Nat.{mod-eq_of_lt}
use lib.Bits.{bit_and, bit_or, and_lt, and_mask, or_zero_r}
use Rattle.hardware.specs.Bits.{bit, inverse, without_of}
use Rattle.hardware.proofs.Bits.{same_bits, bit-bit_and, bit-bit_or, bit_without}
use Rattle.reference.specs.Mdio.{changed, nbase_keep, nbase_set}
use Rattle.reference.specs.Mdio as mdio
use Rattle.reference.specs.X552.{kr_autoneg_set, ixfi_set}
use Rattle.reference.specs.Closures as rust

or_or : (x y z : Bool) → ((x || y) || z) ≡ (x || (y || z))
or_or true y z = refl
or_or false y z = refl

and_and : (x y z : Bool) → ((x && y) && z) ≡ (x && (y && z))
and_and true y z = refl
and_and false y z = refl

or_and : (x y z : Bool) → ((x || y) && z) ≡ ((x && z) || (y && z))
or_and true true true = refl
or_and true true false = refl
or_and true false true = refl
or_and true false false = refl
or_and false y z = refl

clear_set : (x y : Bool) → ((x && not y) || y) ≡ (x || y)
clear_set true true = refl
clear_set true false = refl
clear_set false y = refl

or_assoc : (a b c : ℕ) → bit_or (bit_or a b) c ≡ bit_or a (bit_or b c)
or_assoc a b c = same_bits (bit_or (bit_or a b) c) (bit_or a (bit_or b c))
    (λ i.
    bit-bit_or i (bit_or a b) c ∙ ap (λ x. x || bit i c) (bit-bit_or i a b)
    ∙ or_or (bit i a) (bit i b) (bit i c)
    ∙ ap (λ x. bit i a || x) (sym (bit-bit_or i b c)) ∙ sym (bit-bit_or i a (bit_or b c)))

and_assoc : (a b c : ℕ) → bit_and (bit_and a b) c ≡ bit_and a (bit_and b c)
and_assoc a b c = same_bits (bit_and (bit_and a b) c) (bit_and a (bit_and b c))
    (λ i.
    bit-bit_and i (bit_and a b) c ∙ ap (λ x. x && bit i c) (bit-bit_and i a b)
    ∙ and_and (bit i a) (bit i b) (bit i c)
    ∙ ap (λ x. bit i a && x) (sym (bit-bit_and i b c)) ∙ sym (bit-bit_and i a (bit_and b c)))

-- what was set before other bits are cleared
set_clear : (a b c : ℕ) → bit_and (bit_or a b) c ≡ bit_or (bit_and a c) (bit_and b c)
set_clear a b c = same_bits (bit_and (bit_or a b) c) (bit_or (bit_and a c) (bit_and b c))
    (λ i.
    bit-bit_and i (bit_or a b) c ∙ ap (λ x. x && bit i c) (bit-bit_or i a b)
    ∙ or_and (bit i a) (bit i b) (bit i c)
    ∙ ap₂ (λ x y. x || y) (sym (bit-bit_and i a c)) (sym (bit-bit_and i b c)) ∙ sym (bit-bit_or i (bit_and a c) (bit_and b c)))

-- what keep-and-set does to each bit, of words of any width
pub bit_changed : (i keep set v : ℕ) → bit i (changed keep set v) ≡ ((bit i v && bit i keep) || bit i set)
bit_changed i keep set v = bit-bit_or i (bit_and v keep) set ∙ ap (λ x. x || bit i set) (bit-bit_and i v keep)

module _ (n : ℕ) where
  -- bits that are set need not be kept
  not_kept : (a b : ℕ) → a < 2 ^ n → b < 2 ^ n → bit_or (without_of n a b) b ≡ bit_or a b
  not_kept a b ha hb = same_bits (bit_or (without_of n a b) b) (bit_or a b)
      (λ i.
      bit-bit_or i (without_of n a b) b ∙ ap (λ x. x || bit i b) (bit_without n i a b ha hb)
      ∙ clear_set (bit i a) (bit i b) ∙ sym (bit-bit_or i a b))

  all_kept : (a : ℕ) → a < 2 ^ n → bit_and a (2 ^ n - 1) ≡ a
  all_kept a h = and_mask a n ∙ mod-eq_of_lt h

-- 32-bit words: `kr_modify`
module _ (v : ℕ) (h : v < 2 ^ 32) where
  sets : (s : ℕ) → bit_or v s ≡ changed (inverse 32 0) s v
  sets s = ap (λ x. bit_or x s) (sym (all_kept 32 v h))

  clears : (b : ℕ) → bit_and v (inverse 32 b) ≡ changed (inverse 32 b) 0 v
  clears b = sym (or_zero_r (bit_and v (inverse 32 b)))

  two : (k a b : ℕ) → bit_or (bit_or (bit_and v k) a) b ≡ changed k (bit_or a b) v
  two k a b = or_assoc (bit_and v k) a b

  three : (k a b c : ℕ) → bit_or (bit_or (bit_or (bit_and v k) a) b) c ≡ changed k (bit_or (bit_or a b) c) v
  three k a b c = ap (λ x. bit_or x c) (two k a b) ∙ two k (bit_or a b) c

  pub restart : rust.restart v ≡ changed (inverse 32 0) 0x80000000 v
  restart = sets 0x80000000

  enabled : bit_and (bit_or v 0x20000000) 0xfffa3fff ≡ bit_or (bit_and v 0xfffa3fff) 0x20000000
  enabled = set_clear v 0x20000000 0xfffa3fff

  pub autoneg : (kr kx : Bool) → rust.autoneg kr kx v ≡ changed (inverse 32 0x5c000) (kr_autoneg_set kr kx) v
  unfolding kr_autoneg_set
  autoneg true true =
      ap (λ x. bit_or (bit_or x 0x40000) 0x10000) enabled
      ∙ three 0xfffa3fff 0x20000000 0x40000 0x10000
  autoneg true false = ap (λ x. bit_or x 0x40000) enabled ∙ two 0xfffa3fff 0x20000000 0x40000
  autoneg false true = ap (λ x. bit_or x 0x10000) enabled ∙ two 0xfffa3fff 0x20000000 0x10000
  autoneg false false = enabled

  pub autoneg_lane_lem : rust.autoneg_lane v ≡ changed (inverse 32 0x76000000) 0x48000000 v
  autoneg_lane_lem = two 0x89ffffff 0x40000000 0x8000000

  pub force : (ten_gig : Bool) → rust.force ten_gig v ≡ changed (inverse 32 0x2000c700) (ixfi_set ten_gig) v
  unfolding ixfi_set
  force ten_gig = refl

  pub training : rust.training v ≡ changed (inverse 32 0) 0x10 v
  training = sets 0x10

  pub adaptation : rust.adaptation v ≡ changed (inverse 32 0x18040) 0 v
  adaptation = clears 0x18040

  pub coefficients : rust.coefficients v ≡ changed (inverse 32 0) 0x8000000e v
  coefficients = sets 0x8000000e

  pub sgmii_ctrl_lem : rust.sgmii_ctrl v ≡ changed (inverse 32 0x20000700) 0x3200 v
  sgmii_ctrl_lem = three 0xdffff8ff 0x1000 0x2000 0x200

  pub sgmii_force_lem : rust.sgmii_force v ≡ changed (inverse 32 0) 0x81000 v
  sgmii_force_lem = or_assoc v 0x80000 0x1000 ∙ sets 0x81000

  pub sgmii_lane_lem : rust.sgmii_lane v ≡ changed (inverse 32 0x78000000) 0x26000000 v
  sgmii_lane_lem = three 0x87ffffff 0x20000000 0x2000000 0x4000000

  pub sgmii_an_ctrl_lem : rust.sgmii_an_ctrl v ≡ changed (inverse 32 0x20000700) 0x3000 v
  sgmii_an_ctrl_lem = two 0xdffff8ff 0x1000 0x2000

  pub sgmii_an_force_lem : rust.sgmii_an_force v ≡ changed (inverse 32 0x81000) 0 v
  sgmii_an_force_lem = clears 0x81000

  pub sgmii_an_lane_lem : rust.sgmii_an_lane v ≡ changed (inverse 32 0x78000000) 0x46000000 v
  sgmii_an_lane_lem = three 0x87ffffff 0x40000000 0x2000000 0x4000000

-- 16-bit words: `modify`
module _ (v : ℕ) (h : v < 2 ^ 16) where
  clears16 : (k : ℕ) → bit_and v k ≡ changed k 0 v
  clears16 k = sym (or_zero_r (bit_and v k))

  -- some bits set after others were cleared
  after : (k m : ℕ) → k < 2 ^ 16 → m < 2 ^ 16 → bit_or (bit_and v k) m ≡ bit_or (bit_and v (bit_and k (inverse 16 m))) m
  after k m hk hm = sym (not_kept 16 (bit_and v k) m (and_lt 16 v k h hk) hm) ∙ ap (λ x. bit_or x m) (and_assoc v k (inverse 16 m))

  pub unstall : rust.unstall v ≡ changed (inverse 16 0x8000) 0 v
  unstall = clears16 0x7fff

  pub ten : (g10 : Bool) → rust.ten g10 v ≡ changed (inverse 16 0x1000) (mdio.bit 0x1000 g10) v
  unfolding mdio.bit
  ten true = sym (not_kept 16 v 0x1000 h (omega arith))
  ten false = clears16 0xefff

  pub one : (nbase : Option Bool) (g1 : Bool) → rust.one nbase g1 v ≡ changed (nbase_keep nbase) (nbase_set nbase g1) v
  unfolding mdio.bit nbase_keep nbase_set
  one None true = sym (not_kept 16 v 0x8000 h (omega arith))
  one None false = clears16 0x7fff
  one (Some true) true = or_assoc v 0xc00 0x8000 ∙ sym (not_kept 16 v 0x8c00 h (omega arith))
  one (Some true) false = set_clear v 0xc00 0x7fff ∙ after 0x7fff 0xc00 (omega arith) (omega arith)
  one (Some false) true = after 0xf3ff 0x8000 (omega arith) (omega arith)
  one (Some false) false = and_assoc v 0xf3ff 0x7fff ∙ clears16 0x73ff

  pub hundred : (m100 : Bool) → rust.hundred m100 v ≡ changed (inverse 16 0x180) (mdio.bit 0x100 m100) v
  unfolding mdio.bit
  hundred true = after 0xff7f 0x100 (omega arith) (omega arith)
  hundred false = and_assoc v 0xff7f 0xfeff ∙ clears16 0xfe7f

  pub restart16 : rust.restart16 v ≡ changed 0xffff 0x200 v
  restart16 = ap (λ x. bit_or x 0x200) (sym (all_kept 16 v h))
