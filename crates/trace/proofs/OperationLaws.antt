-- Where the arguments stand in the buffer, and what the line is then
use Prim.Native.Nat.{ℕ, zero, suc, ◌≤◌, ◌<◌}
use mathlib.Core.Path.{◌≡◌, refl, ap, ◌∙◌}
use mathlib.Core.Bool.{Bool, true, false}
use mathlib.Core.List.{List, [], ◌∷◌}
use native.Mathlib.Omega.{arith}
use lib.ListN.{length, set, take, drop}
use lib.Seq.{sets}
use Rattle.std.proofs.Common.{Option, Some, None, leb}
use Rattle.std.proofs.lemmas.Bool.{leb-true, leb-false}
use Rattle.hardware.specs.Talk.{pick}
use Rattle.text.specs.Hex.{hex_word}
use Rattle.trace.specs.Arguments.{numbers, all_numbers, before, is_number, arguments_of}
use Rattle.trace.specs.Operation.{looked_at, named_of, operation_of}
use Rattle.trace.specs.declared.operation.OperationLine.{OperationLine}

-- words that were stored from the front on stand there, as far as there is room
sets_behind : (x : ℕ) (l : List ℕ) (i : ℕ) (vs : List ℕ) → sets (x ∷ l) (suc i) vs ≡ x ∷ sets l i vs
sets_behind x l i [] = refl
sets_behind x l i (v ∷ vs) = sets_behind x (set l i v) (suc i) vs

no_room : (i : ℕ) (vs : List ℕ) → sets {A = ℕ} [] i vs ≡ []
no_room i [] = refl
no_room i (v ∷ vs) = no_room (suc i) vs

front : (n : ℕ) (l vs : List ℕ) → n ≤ length l → n ≤ length vs → take n (sets l 0 vs) ≡ take n vs
front zero l vs h k = refl
front (suc n) [] vs h k = absurd (omega (arith, h))
front (suc n) (x ∷ l) [] h k = absurd (omega (arith, k))
front (suc n) (x ∷ l) (v ∷ vs) h k = rw (sets_behind v l 0 vs) (ap (λ (r : List ℕ). v ∷ r) (front n l vs (omega (arith, h)) (omega (arith, k))))

-- those that are looked at have a place, and are there
few : (n : ℕ) → (looked_at n ≤ 7282) × (looked_at n ≤ n)
few n = go (leb n 7282) refl
  where
    go : (b : Bool) → leb n 7282 ≡ b → (pick b n 7282 ≤ 7282) × (pick b n 7282 ≤ n)
    go true e = (leb-true n 7282 e, omega arith)
    go false e = let many : 7282 < n = leb-false n 7282 e in (omega arith, omega arith)

-- what `read` says of the words behind a name
said_are : (b : Bool) (m : ℕ) {n : ℕ} → pick b (Some m) None ≡ Some n → (b ≡ true) × (m ≡ n)
said_are true m e = (refl, cc)
said_are false m e = let z : ◌≡◌ {A = ℕ} 0 1 = cc in absurd (omega arith)

said_bad : (b : Bool) (m : ℕ) → pick b (Some m) None ≡ None → b ≡ false
said_bad true m e = let z : ◌≡◌ {A = ℕ} 0 1 = cc in absurd (omega arith)
said_bad false m e = refl

one_more : (x : Option ℕ) (b : Bool) (vs : List ℕ) {n : ℕ} → is_number x b ≡ true → (b ≡ true → length vs ≡ n) → length (before vs x) ≡ suc n
one_more (Some v) b vs e h = ap suc (h e)
one_more None b vs e h = let z : ◌≡◌ {A = ℕ} 0 1 = cc in absurd (omega arith)

all_counted : (ws : List (List ℕ)) → all_numbers ws ≡ true → length (numbers ws) ≡ length ws
all_counted [] e = refl
all_counted (w ∷ ws) e = one_more (hex_word 8 8 w) (all_numbers ws) (numbers ws) e (all_counted ws)

module _ {line : List (List ℕ)} {w : List ℕ} {ws : List (List ℕ)} (e : line ≡ w ∷ ws) where
  pub kept : (old : List ℕ) {new : List ℕ} → new ≡ sets old 0 (numbers ws) → new ≡ sets old 0 (numbers (drop 1 line))
  kept old h = rw e h

  pub not_read : arguments_of ws ≡ None → operation_of line ≡ None
  not_read h = rw (e, said_bad (all_numbers ws) (length ws) h)

  pub are_read : (old : List ℕ) {n : ℕ} {r : Option OperationLine} → arguments_of ws ≡ Some n → length old ≡ 7282
      → named_of w (sets old 0 (numbers ws)) (looked_at n) ≡ r → operation_of line ≡ r
  are_read old {n} h long g =
      let s = said_are (all_numbers ws) (length ws) h in
      let count : length (numbers ws) ≡ n = all_counted ws s.0 ∙ s.1 in
      let same : take (looked_at n) (sets old 0 (numbers ws)) ≡ take (looked_at n) (numbers ws) =
      front (looked_at n) old (numbers ws) (rw long (few n).0) (rw count (few n).1) in
      rw (e, s.0, s.1, ← same) g
