-- What is printed: the bytes that a writer holds, where they are known, then those that wait for it
use Rattle.std.specs.Prelude.{ℕ, ◌+◌, ◌/◌, min, Option, Result, OnOk, List, length, ⊤}
use Rattle.std.specs.Io.KnownBytes.{append_known, Appends}

-- bytes were printed behind what was: behind what the writer holds and the bytes that wait for it
pub record Prints (old : Option (List ℕ)) (waiting bytes : List ℕ) (new : Option (List ℕ)) (left : List ℕ) : Type 0 where
  pub text : Appends (append_known old waiting) (append_known new left) bytes

-- the same, where no write fails
abbrev pub PrintsAll : {E : Type 0} → Result ⊤ E → Option (List ℕ) → List ℕ → List ℕ → Option (List ℕ) → List ℕ → Type 0
PrintsAll r old waiting bytes new left = OnOk r (Prints old waiting bytes new left)

-- how many actions of a transcript with `at` words are printed: those that are there, 128 at the most
abbrev pub line_count : ℕ → List ℕ → ℕ
line_count at t = min (min ((at + 2) / 3) (length t / 3)) 128
