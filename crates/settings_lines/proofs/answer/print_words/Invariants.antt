use Rattle.std.proofs.Common.{ℕ, List, Option, drop}
use Rattle.streams.specs.Output.{Prints}
use Rattle.settings_lines.specs.Answer.{shown_from}
use Rattle.settings_lines.proofs.answer.print_words.Given as goal

-- where the words that are left are printed from here, all are
abbrev pub invariant-loop-place : goal.invariant-loop-place
invariant-loop-place g l =
    (new : Option (List ℕ)) (left : List ℕ)
    → Prints (g.W.Write.contents l.sink) l.waiting (shown_from l.place (drop l.place l.words)) new left
    → Prints (g.W.Write.contents l.fn.sink) l.fn.waiting (shown_from 0 l.words) new left
