-- Bytes and words, a word at a time
use Rattle.std.proofs.Common.{ℕ, ◌+◌, ◌*◌, ◌≡◌, ◌<◌, ◌≤◌, true, List, [], ◌∷◌, ◌++◌, length, get_or, take, drop, drop-drop, refl, ap, ◌∙◌, arith, w32}
use borrow.Author.Tests.{lt-leb}
use Rattle.std.specs.Int.{from_le_bytes, to_le_bytes}
use Rattle.std.proofs.lemmas.List.{drop_more, drop_all, length-drop}
use Rattle.settings_lines.specs.Turn.{kept}
use Rattle.settings_lines.specs.Bytes.{words_of, bytes_of}

four : (bs : List ℕ) → 4 ≤ length bs → words_of bs ≡ from_le_bytes w32 (take 4 bs) ∷ words_of (drop 4 bs)
unfolding words_of
four [] h = absurd (omega arith)
four (a ∷ []) h = absurd (omega arith)
four (a ∷ b ∷ []) h = absurd (omega arith)
four (a ∷ b ∷ c ∷ []) h = absurd (omega arith)
four (a ∷ b ∷ c ∷ d ∷ bs) h = refl

no_word : (bs : List ℕ) → length bs < 4 → words_of bs ≡ []
unfolding words_of
no_word [] h = refl
no_word (a ∷ []) h = refl
no_word (a ∷ b ∷ []) h = refl
no_word (a ∷ b ∷ c ∷ []) h = refl
no_word (a ∷ b ∷ c ∷ d ∷ bs) h = absurd (omega arith)

pub words_more : (bs : List ℕ) (i : ℕ) → 4 * i + 3 < length bs
    → words_of (drop (4 * i) bs) ≡ from_le_bytes w32 (take 4 (drop (4 * i) bs)) ∷ words_of (drop (4 * (i + 1)) bs)
words_more bs i h =
    let long : 4 ≤ length (drop (4 * i) bs) = let n = length-drop (4 * i) bs in omega arith in
    let at : 4 * i + 4 ≡ 4 * (i + 1) = omega arith in
    four (drop (4 * i) bs) long
    ∙ ap (λ (l : List ℕ). from_le_bytes w32 (take 4 (drop (4 * i) bs)) ∷ words_of l) (drop-drop 4 (4 * i) bs ∙ ap (λ n. drop n bs) at)

pub words_end : (bs : List ℕ) (i : ℕ) → length bs < 4 * i + 4 → words_of (drop (4 * i) bs) ≡ []
words_end bs i h = no_word (drop (4 * i) bs) (let n = length-drop (4 * i) bs in omega arith)

pub kept_room : (ws : List ℕ) (w : ℕ) → length ws < 8192 → kept ws w ≡ (true, ws ++ w ∷ [])
unfolding kept
kept_room ws w h = rw (lt-leb 8192 (length ws) h) refl

pub bytes_more : (ws : List ℕ) (i : ℕ) → i < length ws → bytes_of (drop i ws) ≡ to_le_bytes w32 (get_or ws i 0) ++ bytes_of (drop (i + 1) ws)
unfolding bytes_of
bytes_more ws i h = ap bytes_of (drop_more ws i 0 h)

pub bytes_end : (ws : List ℕ) (i : ℕ) → length ws ≤ i → bytes_of (drop i ws) ≡ []
unfolding bytes_of
bytes_end ws i h = ap bytes_of (drop_all i ws h)
