-- A turn of writing digits, from the last one on
use Prim.Native.Nat.{ℕ, zero, suc, ◌+◌, ◌-◌, ◌/◌, ◌%◌, ◌≤◌, ◌<◌}
use mathlib.Core.Path.{◌≡◌, refl, ap, sym, ◌∙◌}
use mathlib.Core.List.{List, [], ◌∷◌, ◌++◌}
use native.Mathlib.Omega.{arith}
use borrow.Author.Tests.{lt-ltb, le-ltb}
use lib.ListN.{length, drop, set, length-set}
use lib.Seq.{drop-cons, get_or-set_same, drop-set-lt, append_snoc}
use Rattle.text.specs.Digits.{glyph, last_hex, decimal}

-- a digit that is stored in front of those that are there
store_front : (text : List ℕ) (j g : ℕ) → j < length text → g ∷ drop (suc j) text ≡ drop j (set text j g)
store_front text j g h =
    let within : j < length (set text j g) = rw (length-set text j g) h in
    sym (drop-cons (set text j g) j 0 within ∙ rw (get_or-set_same text j g 0 h, drop-set-lt (suc j) text j g (omega arith)))

put_front : (xs text : List ℕ) (j g : ℕ) → j < length text → (xs ++ g ∷ []) ++ drop (suc j) text ≡ xs ++ drop j (set text j g)
put_front xs text j g h = append_snoc xs g (drop (suc j) text) ∙ ap (λ (l : List ℕ). xs ++ l) (store_front text j g h)

one_less : (i : ℕ) → 0 < i → i ≡ suc (i - 1)
one_less i h = omega arith

module _ (text : List ℕ) (rest j : ℕ) (within : j < length text) where
  hex_front : last_hex (suc j) rest ++ drop (suc j) text ≡ last_hex j (rest / 16) ++ drop j (set text j (glyph (rest % 16)))
  unfolding last_hex
  hex_front = put_front (last_hex j (rest / 16)) text j (glyph (rest % 16)) within

  decimal_front : 10 ≤ rest → decimal (suc j) rest ++ drop (suc j) text ≡ decimal j (rest / 10) ++ drop j (set text j (glyph (rest % 10)))
  unfolding decimal
  decimal_front h = rw (le-ltb rest 10 h) (put_front (decimal j (rest / 10)) text j (glyph (rest % 10)) within)

  decimal_first : rest < 10 → decimal (suc j) rest ++ drop (suc j) text ≡ drop j (set text j (glyph rest))
  unfolding decimal
  decimal_first h = rw (lt-ltb rest 10 h) (put_front [] text j (48 + rest) within)

pub still : (text : List ℕ) (j g : ℕ) → length (set text j g) ≡ length text
still text j g = length-set text j g

-- the same by the code's count of the places left
module _ (text : List ℕ) (rest i g : ℕ) (more : 0 < i) (within : i ≤ length text) where
  pub hex_turn : glyph (rest % 16) ≡ g → last_hex i rest ++ drop i text ≡ last_hex (i - 1) (rest / 16) ++ drop (i - 1) (set text (i - 1) g)
  hex_turn e = rw (← e) (ap (λ (n : ℕ). last_hex n rest ++ drop n text) (one_less i more) ∙ hex_front text rest (i - 1) (omega arith))

  pub decimal_turn : glyph (rest % 10) ≡ g → 10 ≤ rest → decimal i rest ++ drop i text ≡ decimal (i - 1) (rest / 10) ++ drop (i - 1) (set text (i - 1) g)
  decimal_turn e h = rw (← e) (ap (λ (n : ℕ). decimal n rest ++ drop n text) (one_less i more) ∙ decimal_front text rest (i - 1) (omega arith) h)

  pub decimal_last : glyph (rest % 10) ≡ g → rest < 10 → decimal i rest ++ drop i text ≡ drop (i - 1) (set text (i - 1) g)
  decimal_last e h =
      let all : rest % 10 ≡ rest = omega arith in
      rw (← e, all) (ap (λ (n : ℕ). decimal n rest ++ drop n text) (one_less i more) ∙ decimal_first text rest (i - 1) (omega arith) h)

pub hex_done : (text : List ℕ) (rest i : ℕ) → i ≤ 0 → last_hex i rest ++ drop i text ≡ text
unfolding last_hex
hex_done text rest zero h = refl
hex_done text rest (suc i) h = let z : ⊥ = omega arith in absurd z

pub decimal_done : (text : List ℕ) (rest i : ℕ) → i ≤ 0 → decimal i rest ++ drop i text ≡ text
unfolding decimal
decimal_done text rest zero h = refl
decimal_done text rest (suc i) h = let z : ⊥ = omega arith in absurd z
