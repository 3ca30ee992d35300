-- Where bytes fit or not, and what writing them leaves
use Prim.Native.Nat.{ℕ, ◌+◌, ◌≤◌, ◌<◌}
use mathlib.Core.Path.{◌≡◌, refl, ap, sym, ◌∙◌}
use mathlib.Core.Bool.{Bool, true, false, cond}
use mathlib.Core.List.{List, ◌++◌, append_assoc}
use native.Mathlib.Omega.{arith}
use borrow.Author.Tests.{le-leb, lt-leb, leb-true}
use lib.Dec.{leb}
use lib.ListN.{length, take, drop, length-append}
use lib.Seq.{sets, sets-eq, length-take-le, take_at, drop-drop}
use Rattle.text.specs.Written.{written}
use Rattle.std.proofs.Common.{Option, Some, None}
use borrow.Rule.Slice.PartMut.{put_mid}

module _ (out : List ℕ) (at : ℕ) (bytes : List ℕ) where
  pub written_full : length out < at + length bytes → written out at bytes ≡ (None, out)
  unfolding written
  written_full h = rw (lt-leb (at + length bytes) (length out) h)

  pub written_fits : at + length bytes ≤ length out → written out at bytes ≡ (Some (at + length bytes), sets out at bytes)
  unfolding written
  written_fits h = rw (le-leb (at + length bytes) (length out) h)

  -- after `out[at..at + k].copy_from_slice(bytes)`, which leaves ys in that part
  pub written_copy : (k : ℕ) (ys : List ℕ) → at + length bytes ≤ length out → k ≡ length bytes → ys ≡ bytes
      → written out at bytes ≡ (Some (at + length bytes), put_mid at k out ys)
  written_copy k ys h e f =
      written_fits h
      ∙ ap (λ (l : List ℕ). (Some (at + length bytes), l))
      (
      sets-eq bytes out at h
      ∙ append_assoc (take at out) bytes (drop (at + length bytes) out)
      ∙ rw (e, f) (ap (λ (l : List ℕ). take at out ++ (bytes ++ l)) (sym (drop-drop (length bytes) at out)))
      )

-- what a caller learns of a success
pub record Fitted (out : List ℕ) (at : ℕ) (bytes : List ℕ) (end : ℕ) (new : List ℕ) : Type 0 where
  pub place : end ≡ at + length bytes
  pub within : end ≤ length out
  pub stored : new ≡ sets out at bytes

pub fitted : (out : List ℕ) (at : ℕ) (bytes : List ℕ) (end : ℕ) (new : List ℕ) → written out at bytes ≡ (Some end, new) → Fitted out at bytes end new
unfolding written
fitted out at bytes end new e = go (leb (at + length bytes) (length out)) refl e
  where
    go : (b : Bool) → leb (at + length bytes) (length out) ≡ b
        → ◌≡◌ {A = Option ℕ × List ℕ} (cond b (Some (at + length bytes), sets out at bytes) (None, out)) (Some end, new)
        → Fitted out at bytes end new
    go true t e =
        let to : Some (at + length bytes) ≡ Some end = ap (λ (p : Option ℕ × List ℕ). p.0) e in
        let place : end ≡ at + length bytes = cc in
        record { place = place; within = omega (arith, leb-true (at + length bytes) (length out) t); stored = sym (ap (λ (p : Option ℕ × List ℕ). p.1) e) }
    go false t e =
        let full : None ≡ Some end = ap (λ (p : Option ℕ × List ℕ). p.0) e in cc

-- what stands before the place is kept, and the bytes follow it
pub written_front : (out : List ℕ) (at : ℕ) (bytes : List ℕ) (end : ℕ) (new : List ℕ)
    → written out at bytes ≡ (Some end, new) → take end new ≡ take at out ++ bytes
written_front out at bytes end new e =
    let a = fitted out at bytes end new e in
    let fits : at + length bytes ≤ length out = omega arith in
    let front : length (take at out ++ bytes) ≡ end = length-append (take at out) bytes ∙ omega (arith, length-take-le at out (omega arith)) in
    ap (take end) (a.stored ∙ sets-eq bytes out at fits) ∙ take_at (take at out ++ bytes) (drop (at + length bytes) out) end front
