-- What the calls of `text` say of a word that was found
use Prim.Native.Nat.{ℕ, ◌<◌}
use mathlib.Core.Path.{◌≡◌, sym, ◌∙◌}
use mathlib.Core.Bool.{Bool, true, false, cond}
use mathlib.Core.List.{List}
use native.Mathlib.Omega.{arith}
use lib.Seq.{slice}
use Rattle.std.proofs.Common.{Option, Some, None}
use Rattle.text.specs.Hex.{hex_word, hex_part}
use Rattle.text.specs.Same.{same, is_part}
use Rattle.text.specs.Parts.{has_part}
use Rattle.text.specs.Words.{Inside}
use Rattle.text.proofs.HexBound.{hex_below}
use Rattle.text.proofs.PartLaws.{hex_in, is_in}

module _ (at : ℕ) (line : List ℕ) (r : Option (ℕ × ℕ)) {start end : ℕ} (inside : Inside at line r) (e : r ≡ Some (start, end)) where
  pub place : Inside at line (Some (start, end))
  place = rw e at inside

  pub found_hex : (fewest most : ℕ) {x : Option ℕ} → hex_part line start end fewest most ≡ x → hex_word fewest most (slice start end line) ≡ x
  found_hex fewest most h = let p : Inside at line (Some (start, end)) = place in sym (hex_in line start end (omega arith) (omega arith) _ _) ∙ h

  pub found_is : (name : List ℕ) {b : Bool} → is_part line start end name ≡ b → same (slice start end line) name ≡ b
  found_is name h = let p : Inside at line (Some (start, end)) = place in sym (is_in line start end (omega arith) (omega arith) _) ∙ h

-- four digits fill 16 bits
pub four_below : (line : List ℕ) (start end : ℕ) {r : Option ℕ} {n : ℕ} → hex_part line start end 4 4 ≡ r → r ≡ Some n → n < 65536
unfolding hex_part
four_below line start end {r} {n} h e = go (has_part start end line) (h ∙ e)
  where
    go : (b : Bool) → cond b (hex_word 4 4 (slice start end line)) None ≡ Some n → n < 65536
    go true k = omega (arith, hex_below 4 4 _ _ k)
    go false k = cc
