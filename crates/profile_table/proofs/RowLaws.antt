-- The first row of words, and those behind it
use borrow.Author.Tests.{lt-ltb, le-ltb}
use Rattle.std.proofs.Common.{ℕ, Some, not, position, ◌+◌, ◌/◌, ◌-◌, ◌≡◌, ◌<◌, ◌≤◌, List, [], ◌∷◌, length, get_or, take, drop, refl, ap, arith, take_all}
use Rattle.profile_table.specs.Rows.{row, rows_of, is_good}
use Rattle.profile_table.specs.Table.{bad_row}

pub rows_none : (ws : List ℕ) → length ws < 1 → rows_of ws ≡ []
unfolding rows_of
rows_none [] h = refl
rows_none (a ∷ ws) h = absurd (omega arith)

pub rows_cut : (ws : List ℕ) → 1 ≤ length ws → length ws < 4 → rows_of ws ≡ row 0 0 0 0 ∷ rows_of []
unfolding rows_of
rows_cut [] h g = absurd (omega arith)
rows_cut (a ∷ []) h g = refl
rows_cut (a ∷ b ∷ []) h g = refl
rows_cut (a ∷ b ∷ c ∷ []) h g = refl
rows_cut (a ∷ b ∷ c ∷ d ∷ ws) h g = absurd (omega arith)

pub rows_more : (ws : List ℕ) → 4 ≤ length ws
    → rows_of ws ≡ row (get_or ws 0 0) (get_or ws 1 0) (get_or ws 2 0) (get_or ws 3 0) ∷ rows_of (take (length ws - 4) (drop 4 ws))
unfolding rows_of
rows_more [] h = absurd (omega arith)
rows_more (a ∷ []) h = absurd (omega arith)
rows_more (a ∷ b ∷ []) h = absurd (omega arith)
rows_more (a ∷ b ∷ c ∷ []) h = absurd (omega arith)
rows_more (a ∷ b ∷ c ∷ d ∷ ws) h =
    let all : length ws ≤ length (a ∷ b ∷ c ∷ d ∷ ws) - 4 = omega arith in
    ap (λ l. row a b c d ∷ rows_of l) (rw (take_all (length (a ∷ b ∷ c ∷ d ∷ ws) - 4) ws all) refl)

-- a row for each four words that have begun
pub length_rows : (ws : List ℕ) → length (rows_of ws) ≡ (length ws + 3) / 4
unfolding rows_of
length_rows [] = refl
length_rows (a ∷ []) = refl
length_rows (a ∷ b ∷ []) = refl
length_rows (a ∷ b ∷ c ∷ []) = refl
length_rows (a ∷ b ∷ c ∷ d ∷ ws) = omega (arith, length_rows ws)

pub many_rows : (ws : List ℕ) → 1024 < length ws → bad_row (rows_of ws) ≡ Some 256
many_rows ws h = let m : 256 < length (rows_of ws) = omega (arith, length_rows ws) in rw (lt-ltb _ _ m) refl

pub few_rows : (ws : List ℕ) → length ws ≤ 1024 → bad_row (rows_of ws) ≡ position (λ r. not (is_good r)) (rows_of ws)
few_rows ws h = let m : length (rows_of ws) ≤ 256 = omega (arith, length_rows ws) in rw (le-ltb 256 (length (rows_of ws)) m) refl

pub rows_fit : (ws : List ℕ) → length ws ≤ 1024 → length (rows_of ws) ≤ 256
rows_fit ws h = omega (arith, length_rows ws)
