-- What a memory keeps, and what is printed one behind the other
use Rattle.std.proofs.Common.{ℕ, ◌+◌, ◌≡◌, ◌≤◌, Bool, true, false, cond, List, [], ◌++◌, length, take, ap, sym, leb}
use Rattle.std.specs.Prelude.{Option, None, Some}
use Rattle.std.specs.Io.KnownBytes.{append_known}
use Rattle.std.proofs.KnownBytes.{Appends-nil, Appends-trans}
use Rattle.std.proofs.Math.Seq.{sets}
use Rattle.text.specs.Written.{written}
use Rattle.text.proofs.PutLaws.{fitted}
use Rattle.streams.specs.Output.{Prints}

-- where they did not fit, the memory is as it was
full_kept : (out bytes : List ℕ) (n : ℕ) (left : List ℕ) → written out n bytes ≡ (None, left) → left ≡ out
unfolding written
full_kept out bytes n left e = go (leb (n + length bytes) (length out)) e
  where
    go : (b : Bool) → ◌≡◌ {A = Option ℕ × List ℕ} (cond b (Some (n + length bytes), sets out n bytes) (None, out)) (None, left) → left ≡ out
    go true e =
        let full : Some (n + length bytes) ≡ None = ap (λ (p : Option ℕ × List ℕ). p.0) e in
        let z : ⊥ = cc in absurd z
    go false e = sym (ap (λ (p : Option ℕ × List ℕ). p.1) e)

pub kept_none : (out bytes : List ℕ) (n : ℕ) (left : List ℕ) → written out n bytes ≡ (None, left) → take n left ≡ take n out
kept_none out bytes n left e = ap (take n) (full_kept out bytes n left e)

pub room : (out bytes : List ℕ) (n end : ℕ) (left : List ℕ) → written out n bytes ≡ (Some end, left) → end ≤ length out
room out bytes n end left e = (fitted out n bytes end left e).within

pub prints_none : {known : Option (List ℕ)} {waiting : List ℕ} → Prints known waiting [] known waiting
prints_none {known} {waiting} = record { text = Appends-nil (append_known known waiting) }

pub prints_on : {old mid new : Option (List ℕ)} {waiting then left xs ys : List ℕ}
    → Prints old waiting xs mid then → Prints mid then ys new left → Prints old waiting (xs ++ ys) new left
prints_on {old} {mid} {new} {waiting} {then} {left} {xs} {ys} a b =
    record { text = Appends-trans (append_known old waiting) (append_known mid then) (append_known new left) xs ys a.text b.text }
