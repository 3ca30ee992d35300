-- Writing on: bytes behind bytes
use Prim.Native.Nat.{ℕ, zero, suc, ◌+◌, ◌*◌, ◌≤◌, ◌<◌}
use mathlib.Core.Path.{◌≡◌, refl, ap, sym, ◌∙◌}
use mathlib.Core.List.{List, [], ◌∷◌, ◌++◌, append_assoc, append-nil}
use native.Mathlib.Omega.{arith}
use native.Mathlib.Numerals.{add-one}
use lib.ListN.{length, get_or, take}
use lib.Seq.{take-suc, take_all}
use Rattle.lines.specs.Listing.{action_text, lines_text, field_text, words_text}

-- one field more
pub words_append : (xs ys : List ℕ) → words_text (xs ++ ys) ≡ words_text xs ++ words_text ys
words_append [] ys = refl
words_append (x ∷ xs) ys = ap (λ (l : List ℕ). field_text x ++ l) (words_append xs ys) ∙ sym (append_assoc (field_text x) (words_text xs) (words_text ys))

pub words_more : (l : List ℕ) (i : ℕ) → i < length l → words_text (take i l) ++ field_text (get_or l i 0) ≡ words_text (take (i + 1) l)
words_more l i h =
    rw (add-one i, take-suc l i 0 h) (sym (words_append (take i l) (get_or l i 0 ∷ []) ∙ ap (λ (x : List ℕ). words_text (take i l) ++ x) (append-nil (field_text (get_or l i 0)))))

pub words_all : (l : List ℕ) (i : ℕ) → length l ≤ i → words_text (take i l) ≡ words_text l
words_all l i h = ap words_text (take_all i l h)

-- one line more of a transcript
abbrev thrice : ℕ → ℕ
thrice zero = 0
thrice (suc i) = suc (suc (suc (thrice i)))

three_times : (i : ℕ) → thrice i ≡ 3 * i
three_times zero = omega arith
three_times (suc i) = omega (arith, three_times i)

thrice_more : (i : ℕ) (t : List ℕ) → thrice i + 3 ≤ length t
    → lines_text (take (thrice (suc i)) t) ≡ lines_text (take (thrice i) t) ++ action_text (get_or t (thrice i) 0) (get_or t (suc (thrice i)) 0) (get_or t (suc (suc (thrice i))) 0)
thrice_more i [] h = absurd (omega arith)
thrice_more i (a ∷ []) h = absurd (omega arith)
thrice_more i (a ∷ b ∷ []) h = absurd (omega arith)
thrice_more zero (a ∷ b ∷ c ∷ t) h = append-nil (action_text a b c)
thrice_more (suc i) (a ∷ b ∷ c ∷ t) h =
    ap (λ (l : List ℕ). action_text a b c ++ l) (thrice_more i t (omega arith))
    ∙ sym (append_assoc (action_text a b c) (lines_text (take (thrice i) t)) (action_text (get_or t (thrice i) 0) (get_or t (suc (thrice i)) 0) (get_or t (suc (suc (thrice i))) 0)))

pub lines_more : (i : ℕ) (t : List ℕ) → 3 * i + 3 ≤ length t
    → lines_text (take (3 * (i + 1)) t) ≡ lines_text (take (3 * i) t) ++ action_text (get_or t (3 * i) 0) (get_or t (3 * i + 1) 0) (get_or t (3 * i + 2) 0)
lines_more i t h =
    let next : 3 * (i + 1) ≡ thrice (suc i) = omega (arith, three_times i) in
    let second : 3 * i + 1 ≡ suc (thrice i) = omega (arith, three_times i) in
    let third : 3 * i + 2 ≡ suc (suc (thrice i)) = omega (arith, three_times i) in
    rw (next, second, third, ← three_times i) (thrice_more i t (omega (arith, three_times i)))
