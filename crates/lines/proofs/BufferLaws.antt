-- Lines in a buffer
use Prim.Native.Nat.{ℕ, ◌+◌, ◌-◌, ◌≤◌}
use mathlib.Core.Path.{◌≡◌, ap, ap₂, sym, ◌∙◌}
use mathlib.Core.List.{List, ◌++◌}
use native.Mathlib.Omega.{arith}
use lib.ListN.{length, take, drop}
use lib.Seq.{slice}
use Rattle.std.specs.List.{copy_within}
use borrow.Author.Tests.{le-leb}
use Rattle.lines.specs.Buffer.{moved}
use Rattle.text.specs.Lines.{bare}
use Rattle.text.proofs.PartLaws.{part_slice}

-- a part of the buffer as it is lent
pub bare_part : (from end : ℕ) (l : List ℕ) {r : ℕ} → length (bare (take (end - from) (drop from l))) ≡ r → length (bare (slice from end l)) ≡ r
bare_part from end l h = sym (ap (λ (x : List ℕ). length (bare x)) (part_slice from end l)) ∙ h

-- `copy_within` to the front
pub moved_front : (from to : ℕ) (l new : List ℕ) → from ≤ to → to ≤ length l → new ≡ copy_within l from to 0 → moved l from to ≡ (to - from, new)
moved_front from to l new h k e =
    let places : to - from ≡ 0 + (to - from) = omega arith in
    let front : slice from to l ++ drop (to - from) l ≡ new = ap₂ (λ (x : List ℕ) (n : ℕ). x ++ drop n l) (sym (part_slice from to l)) places ∙ sym e in
    rw (le-leb from to h, le-leb to (length l) k) (ap (λ (x : List ℕ). (to - from, x)) front)
