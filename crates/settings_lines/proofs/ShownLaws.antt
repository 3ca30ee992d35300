-- A turn of showing words
use Rattle.std.proofs.Common.{ℕ, ◌+◌, ◌≡◌, ◌<◌, ◌≤◌, List, [], ◌∷◌, ◌++◌, length, get_or, drop, eqb, refl, ap, sym, ◌∙◌, arith}
use borrow.Author.Tests.{eq-eqb, ne_eqb}
use Rattle.std.proofs.lemmas.List.{drop_more, drop_all, length-drop}
use Rattle.text.specs.Digits.{hex_digits}
use Rattle.settings_lines.specs.Answer.{is_last, behind, shown_from}

last_is : (ws : List ℕ) (i : ℕ) → i < length ws → is_last (drop (i + 1) ws) ≡ eqb (i + 1) (length ws)
last_is ws i h = go (drop (i + 1) ws) refl
  where
    go : (vs : List ℕ) → drop (i + 1) ws ≡ vs → is_last vs ≡ eqb (i + 1) (length ws)
    go [] e = let n = length-drop (i + 1) ws in let m : length (drop (i + 1) ws) ≡ 0 = ap (λ (l : List ℕ). length l) e in sym (eq-eqb (i + 1) (length ws) (omega arith))
    go (v ∷ vs) e = let n = length-drop (i + 1) ws in let m : length (drop (i + 1) ws) ≡ length (v ∷ vs) = ap (λ (l : List ℕ). length l) e in sym (ne_eqb (i + 1) (length ws) (λ f. omega arith))

pub shown_more : (ws : List ℕ) (i b : ℕ) → i < length ws → behind i (eqb (i + 1) (length ws)) ≡ b
    → shown_from i (drop i ws) ≡ (hex_digits (get_or ws i 0) ++ b ∷ []) ++ shown_from (i + 1) (drop (i + 1) ws)
unfolding shown_from
shown_more ws i b h e =
    ap (shown_from i) (drop_more ws i 0 h)
    ∙ ap (λ (c : ℕ). (hex_digits (get_or ws i 0) ++ c ∷ []) ++ shown_from (i + 1) (drop (i + 1) ws)) (ap (behind i) (last_is ws i h) ∙ e)

pub shown_none : (ws : List ℕ) (i : ℕ) → length ws ≤ i → shown_from i (drop i ws) ≡ []
unfolding shown_from
shown_none ws i h = ap (shown_from i) (drop_all i ws h)
