-- A file's bytes as words, little-endian
use Rattle.std.specs.Prelude.{ℕ, ◌%◌, cond, not, List, [], ◌∷◌, ◌++◌, eqb, ltb, length, Result, Ok, Err}
use Rattle.std.specs.Int.{w32, from_le_bytes, to_le_bytes}
use Rattle.settings_lines.specs.declared.bytes.Unfit.{Unfit}
use Rattle.settings_lines.specs.declared.bytes.Unfit.TheVariants.{TooLong, CutWord}

-- four bytes a word, the lowest first
unfoldable pub words_of : List ℕ → List ℕ
words_of [] = []
words_of (a ∷ []) = []
words_of (a ∷ b ∷ []) = []
words_of (a ∷ b ∷ c ∷ []) = []
words_of (a ∷ b ∷ c ∷ d ∷ bs) = from_le_bytes w32 (a ∷ b ∷ c ∷ d ∷ []) ∷ words_of bs

unfoldable pub bytes_of : List ℕ → List ℕ
bytes_of [] = []
bytes_of (w ∷ ws) = to_le_bytes w32 w ++ bytes_of ws

-- the words of a file: 32,768 bytes at most, and whole words
unfoldable pub read_words : List ℕ → Result (List ℕ) Unfit
read_words bytes =
    cond (ltb 32768 (length bytes)) (Err TooLong)
    (cond (not (eqb (length bytes % 4) 0)) (Err CutWord)
    (Ok (words_of bytes)))
