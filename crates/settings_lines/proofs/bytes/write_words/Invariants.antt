use Rattle.std.proofs.Common.{ℕ, List, Option, drop}
use Rattle.streams.specs.Output.{Prints}
use Rattle.settings_lines.specs.Bytes.{bytes_of}
use Rattle.settings_lines.proofs.bytes.write_words.Given as goal

-- where the bytes of the words that are left are printed from here, all are
abbrev pub invariant-loop-word : goal.invariant-loop-word
invariant-loop-word g l =
    (new : Option (List ℕ)) (left : List ℕ)
    → Prints (g.W.Write.contents l.sink) l.waiting (bytes_of (drop l.word-index l.words)) new left
    → Prints (g.W.Write.contents l.fn.sink) l.fn.waiting (bytes_of l.words) new left
