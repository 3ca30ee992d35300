-- A turn of reading decimal digits
use borrow.Author.Tests.{leb-true}
use Rattle.std.proofs.Common.{ℕ, ◌+◌, ◌-◌, ◌*◌, ◌^◌, ◌≡◌, ◌<◌, ◌≤◌, Bool, true, false, ◌&&◌, cond, leb, Some, None, refl, arith, zero-lt-suc}
use native.Mathlib.Nat.{pow-le-pow_right}
use Rattle.std.proofs.lemmas.Option.{same_Some}
use Rattle.text.specs.Decimal.{digit}
use Rattle.text.specs.Hex.{between}
use Rattle.text.proofs.NumberLaws.{one_more}

below : (p q : Bool) → (p && q) ≡ true → q ≡ true
below true q h = h
below false q h = cc

pub digit_small : (b d : ℕ) → digit b ≡ Some d → d < 10
digit_small b d h = go (between 48 57 b) refl h
  where
    go : (t : Bool) → between 48 57 b ≡ t → cond t (Some (b - 48)) None ≡ Some d → d < 10
    go true e h = omega (arith, leb-true b 57 (below (leb 48 b) (leb b 57) e), same_Some _ _ h)
    go false e h = cc

-- ten digits fit
pub room : (i v d b : ℕ) → v < 10 ^ i → digit b ≡ Some d → i < 10 → 10 * v + d < 2 ^ 64
room i v d b h k l =
    let top : 10 ^ (i + 1) ≤ 10 ^ 10 = let upto : i + 1 ≤ 10 = omega arith in pow-le-pow_right (zero-lt-suc 9) upto in
    omega (arith, one_more 10 i v d h (digit_small b d k))
