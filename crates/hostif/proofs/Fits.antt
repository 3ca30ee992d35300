-- A reply that fits
use Prim.Native.Nat.{ℕ, ◌+◌, ◌*◌, ◌<◌}
use mathlib.Core.Bool.{true}
use mathlib.Core.Path.{◌≡◌}
use native.Mathlib.Omega.{arith}
use borrow.Author.Tests.{leb-true}
use Rattle.words.specs.Hostif.{fits}

-- its header has a place
pub fits_some : (len words : ℕ) → fits len words ≡ true → 0 < words
unfolding fits
fits_some len words h = omega (arith, leb-true (len + 4) (4 * words) h)
