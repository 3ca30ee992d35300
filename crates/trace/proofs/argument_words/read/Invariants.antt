use Prim.Native.Nat.{◌-◌, ◌≤◌}
use mathlib.Core.Path.{◌≡◌}
use lib.ListN.{length, drop}
use lib.Seq.{sets}
use Rattle.text.specs.Words.{words}
use Rattle.trace.specs.Arguments.{numbers, arguments_of}
use Rattle.trace.proofs.ArgumentLaws.{arguments_from}
use Rattle.trace.proofs.argument_words.read.Given as goal

abbrev pub invariant-loop-start : goal.invariant-loop-start
invariant-loop-start l = (l.n ≤ l.at) × (length l.out ≡ length l.initial.out)
    × (arguments_of (words (drop l.from l.line)) ≡ arguments_from l.n (words (drop l.at l.line)))
    × (sets l.initial.out 0 (numbers (words (drop l.from l.line))) ≡ sets l.out l.n (numbers (words (drop l.at l.line))))

abbrev pub decreases-loop-start : goal.decreases-loop-start
decreases-loop-start l = length l.line - l.at
