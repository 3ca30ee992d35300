-- The words of a `Fields`. It has room for twelve; no answer and no error has more (proofs/Fits.antt)
use Rattle.std.specs.Prelude.{List, ◌++◌, ℕ, ◌-◌, length, take, replicate}

unfoldable pub kept : List ℕ → List ℕ
kept xs = take 12 xs

-- the words with more behind
abbrev pub added : List ℕ → List ℕ → List ℕ
added words more = kept (words ++ more)

-- its fixed memory: the words, and zeros behind them
abbrev pub filled : List ℕ → List ℕ
filled words = words ++ replicate (12 - length words) 0
