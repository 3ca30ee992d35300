use Rattle.std.proofs.Common.{◌-◌, ◌≡◌, drop, length}
use Rattle.text.specs.Words.{words}
use Rattle.settings_lines.specs.Turn.{load}
use Rattle.settings_lines.proofs.turn.load.Given as goal

-- what is left of the line is loaded behind what is there
abbrev pub invariant-loop-start : goal.invariant-loop-start
invariant-loop-start l = load l.kept (words (drop l.at l.line)) ≡ load l.fn.kept (words (drop l.from l.line))

abbrev pub decreases-loop-start : goal.decreases-loop-start
decreases-loop-start l = length l.line - l.at
