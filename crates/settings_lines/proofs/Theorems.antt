-- What a file keeps is what is read from it
use Rattle.std.proofs.Common.{ℕ, suc, ◌*◌, ◌%◌, ◌≡◌, ◌≤◌, List, [], ◌∷◌, length, Ok, refl, ap, ◌∙◌, arith}
use borrow.Author.Tests.{le-ltb, eq-eqb}
use Rattle.std.proofs.lemmas.Nat.{from_le_bytes-to_le_bytes_4}
use Rattle.settings.specs.Undamaged.{AreWords}
use Rattle.settings_lines.specs.Bytes.{words_of, bytes_of, read_words}

words_back : (ws : List ℕ) → AreWords ws → words_of (bytes_of ws) ≡ ws
unfolding words_of bytes_of
words_back [] h = refl
words_back (w ∷ ws) h = ap (λ (x : ℕ). x ∷ words_of (bytes_of ws)) (from_le_bytes-to_le_bytes_4 w (h 0)) ∙ ap (λ (l : List ℕ). w ∷ l) (words_back ws (λ at. h (suc at)))

length_bytes : (ws : List ℕ) → length (bytes_of ws) ≡ 4 * length ws
unfolding bytes_of
length_bytes [] = refl
length_bytes (w ∷ ws) = let rest = length_bytes ws in omega arith

-- the bytes of a store of at most 8,192 words are read back as it was
pub read_back : (ws : List ℕ) → length ws ≤ 8192 → AreWords ws → read_words (bytes_of ws) ≡ Ok ws
unfolding read_words
read_back ws h words =
    let long = length_bytes ws in
    rw (le-ltb 32768 (length (bytes_of ws)) (omega arith), eq-eqb (length (bytes_of ws) % 4) 0 (omega arith)) (ap (λ (l : List ℕ). Ok l) (words_back ws words))
