-- The laws of newlines, and of a line without its carriage return
use Prim.Native.Nat.{ℕ, suc, ◌+◌, ◌-◌, ◌≤◌, ◌<◌}
use mathlib.Core.Bool.{Bool, true, false, cond}
use lib.Dec.{eqb}
use mathlib.Core.Path.{◌≡◌, refl, ap, ap₂, sym, ◌∙◌}
use mathlib.Core.List.{List, [], ◌∷◌, ◌++◌, append-nil}
use native.Mathlib.Omega.{arith}
use borrow.Author.Tests.{eq-eqb, ne_eqb}
use lib.ListN.{length, take, drop, get_or, drop_of_length-le}
use lib.Seq.{drop-drop, append_snoc, slice}
use Rattle.text.specs.Lines.{newline, line_end, bare, lines_after, lines, last_line}
use Rattle.std.proofs.lemmas.Slice.{between_to_end}
use Rattle.text.proofs.PartLaws.{part_slice}
use Rattle.std.proofs.Common.{Option, Some, None, option_map, position, not, ltb}
use Rattle.std.specs.List.{position_or_len}

-- the search by std's word for it
newline_is : (bs : List ℕ) (at : ℕ) → newline at bs ≡ option_map (λ i. at + i) (position (λ b. eqb b 10) bs)
unfolding newline
newline_is [] at = refl
newline_is (b ∷ bs) at = go (eqb b 10) (newline_is bs (at + 1))
  where
    p : ℕ → Bool
    p x = eqb x 10

    go : (t : Bool) → newline (at + 1) bs ≡ option_map (λ i. at + 1 + i) (position p bs)
        → cond t (Some at) (newline (at + 1) bs) ≡ option_map (λ i. at + i) (cond (ltb (cond (not t) (1 + position_or_len p bs) 0) (suc (length bs))) (Some (cond (not t) (1 + position_or_len p bs) 0)) None)
    go t e = grind (arith, e)

pub newline_past : (text : List ℕ) (from : ℕ) → length text < from → line_end text from ≡ None
unfolding newline
newline_past text from h = let k : length text ≤ from = omega arith in rw (drop_of_length-le text k)

-- by the place that the code finds in what is lent of the text
pub newline_found : (text rest : List ℕ) (from : ℕ) (r : Option ℕ) → rest ≡ take (length text - from) (drop from text)
    → r ≡ position (λ b. eqb b 10) rest → line_end text from ≡ option_map (λ i. from + i) r
newline_found text rest from r e f =
    let whole : rest ≡ drop from text = e ∙ between_to_end text from (length text) (omega arith) in
    newline_is (drop from text) from ∙ ap (option_map (λ i. from + i)) (ap (position (λ b. eqb b 10)) (sym whole) ∙ sym f)

pub bare_return : (b : ℕ) (bs : List ℕ) → get_or (b ∷ bs) (length bs) 0 ≡ 13 → length (bare (b ∷ bs)) ≡ length bs
unfolding bare
bare_return b [] e = simp (eq-eqb _ _ e)
bare_return b (c ∷ bs) e = ap suc (bare_return c bs e)

pub bare_other : (b : ℕ) (bs : List ℕ) → (get_or (b ∷ bs) (length bs) 0 ≡ 13 → ⊥) → bare (b ∷ bs) ≡ b ∷ bs
unfolding bare
bare_other b [] e = simp (ne_eqb _ _ e)
bare_other b (c ∷ bs) e = ap (λ (l : List ℕ). b ∷ l) (bare_other c bs e)

last_place : (n : ℕ) → suc n - 1 ≡ n
last_place n = omega arith

-- by the code's tests: an empty line, a carriage return at the end, none there
pub length_none : (line : List ℕ) → length line ≡ 0 → length (bare line) ≡ 0
unfolding bare
length_none [] h = refl
length_none (b ∷ bs) h = let z : ⊥ = omega arith in absurd z

pub length_cut : (line : List ℕ) → (length line ≡ 0 → ⊥) → get_or line (length line - 1) 0 ≡ 13 → length (bare line) ≡ length line - 1
length_cut [] h e = absurd (h refl)
length_cut (b ∷ bs) h e = rw (last_place (length bs)) (bare_return b bs (rw (last_place (length bs)) at e))

pub length_kept : (line : List ℕ) → (get_or line (length line - 1) 0 ≡ 13 → ⊥) → length (bare line) ≡ length line
unfolding bare
length_kept [] e = refl
length_kept (b ∷ bs) e = ap length (bare_other b bs (λ h. e (rw (last_place (length bs)) h)))

-- a line without its carriage return is the front of the line that is so long
pub bare_take : (line : List ℕ) → bare line ≡ take (length (bare line)) line
unfolding bare
bare_take [] = refl
bare_take (b ∷ []) = go (eqb b 13)
  where
    go : (t : Bool) → cond t [] (b ∷ []) ≡ take (length (cond t [] (b ∷ []))) (b ∷ [])
    go true = refl
    go false = refl
bare_take (b ∷ c ∷ bs) = ap (λ (l : List ℕ). b ∷ l) (bare_take (c ∷ bs))

-- What `newline` means: where it finds a place, the text up to there is the first line; where not, the whole is the last

newline_after : (bs : List ℕ) (at e : ℕ) → newline at bs ≡ Some e → at ≤ e
unfolding newline
newline_after [] at e h = cc
newline_after (b ∷ bs) at e h = go (eqb b 10) h (newline_after bs (at + 1) e)
  where
    go : (t : Bool) → cond t (Some at) (newline (at + 1) bs) ≡ Some e → (newline (at + 1) bs ≡ Some e → at + 1 ≤ e) → at ≤ e
    go true h i = let p : at ≡ e = cc in omega arith
    go false h i = omega (arith, i h)

first_line : (bs : List ℕ) (at e : ℕ) (l : List ℕ) → newline at bs ≡ Some e
    → lines_after l bs ≡ (l ++ take (e - at) bs) ∷ lines_after [] (drop (e - at + 1) bs)
unfolding newline lines_after
first_line [] at e l h = cc
first_line (b ∷ bs) at e l h = go (eqb b 10) h (first_line bs (at + 1) e (l ++ b ∷ []))
  where
    go : (t : Bool) → cond t (Some at) (newline (at + 1) bs) ≡ Some e
        → (newline (at + 1) bs ≡ Some e → lines_after (l ++ b ∷ []) bs ≡ (l ++ b ∷ [] ++ take (e - (at + 1)) bs) ∷ lines_after [] (drop (e - (at + 1) + 1) bs))
        → cond t (l ∷ lines_after [] bs) (lines_after (l ++ b ∷ []) bs) ≡ (l ++ take (e - at) (b ∷ bs)) ∷ lines_after [] (drop (e - at + 1) (b ∷ bs))
    go true h i =
        let p : at ≡ e = cc in
        let z : e - at ≡ 0 = omega arith in
        rw (z, append-nil l)
    go false h i =
        let m : ℕ = e - (at + 1) in
        let n : e - at ≡ suc (e - (at + 1)) = omega (arith, newline_after bs (at + 1) e h) in
        let o : suc (e - (at + 1)) + 1 ≡ suc (e - (at + 1) + 1) = omega arith in
        rw (n, o) (i h ∙ ap (λ (x : List ℕ). x ∷ lines_after [] (drop (m + 1) bs)) (append_snoc l b (take m bs)))

last_line_lem : (bs : List ℕ) (at : ℕ) (l : List ℕ) → newline at bs ≡ None → lines_after l bs ≡ last_line (l ++ bs)
unfolding newline lines_after
last_line_lem [] at l h = ap last_line (sym (append-nil l))
last_line_lem (b ∷ bs) at l h = go (eqb b 10) h (last_line_lem bs (at + 1) (l ++ b ∷ []))
  where
    go : (t : Bool) → cond t (Some at) (newline (at + 1) bs) ≡ None
        → (newline (at + 1) bs ≡ None → lines_after (l ++ b ∷ []) bs ≡ last_line (l ++ b ∷ [] ++ bs))
        → cond t (l ∷ lines_after [] bs) (lines_after (l ++ b ∷ []) bs) ≡ last_line (l ++ b ∷ bs)
    go true h i = cc
    go false h i = i h ∙ ap last_line (append_snoc l b bs)

pub lines_found : (text : List ℕ) (from e : ℕ) → line_end text from ≡ Some e → lines (drop from text) ≡ slice from e text ∷ lines (drop (e + 1) text)
lines_found text from e h =
    let next : from + (e - from + 1) ≡ e + 1 = omega (arith, newline_after (drop from text) from e h) in
    first_line (drop from text) from e [] h
    ∙ ap₂ (λ (x : List ℕ) (y : List ℕ). x ∷ lines y) (part_slice from e text) (drop-drop (e - from + 1) from text ∙ ap (λ (n : ℕ). drop n text) next)

pub lines_rest : (text : List ℕ) (from : ℕ) → line_end text from ≡ None → lines (drop from text) ≡ last_line (drop from text)
lines_rest text from h = last_line_lem (drop from text) from [] h
