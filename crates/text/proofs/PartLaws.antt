-- A part of a list as it is lent, `&line[start..end]`, is its slice
use Prim.Native.Nat.{ℕ, ◌-◌, ◌≤◌}
use mathlib.Core.Path.{◌≡◌}
use mathlib.Core.List.{List}
use borrow.Author.Tests.{le-leb}
use lib.ListN.{length, take, drop}
use lib.Seq.{slice}
use Rattle.std.proofs.lemmas.Slice.{between_is}
use Rattle.text.specs.Hex.{hex_word, hex_part}
use Rattle.text.specs.Same.{same, is_part}

pub part_slice : (start end : ℕ) (l : List ℕ) → take (end - start) (drop start l) ≡ slice start end l
part_slice start end l = between_is l start end

-- where the line has the part, as it has for a word that was found
module _ (line : List ℕ) (start end : ℕ) (h : start ≤ end) (k : end ≤ length line) where
  pub hex_in : (fewest most : ℕ) → hex_part line start end fewest most ≡ hex_word fewest most (slice start end line)
  unfolding hex_part
  hex_in fewest most = simp (le-leb start end h, le-leb end (length line) k)

  pub is_in : (name : List ℕ) → is_part line start end name ≡ same (slice start end line) name
  unfolding is_part
  is_in name = simp (le-leb start end h, le-leb end (length line) k)
