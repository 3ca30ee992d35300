use Rattle.std.proofs.Common.{◌≡◌, ◌-◌, not, min}
use Rattle.settings.specs.Calls.{first}
use Rattle.settings.specs.Walk.{is_marked}
use Rattle.settings.proofs.free.unmarked.Given as goal

-- all before have a mark
abbrev pub invariant-loop-place : goal.invariant-loop-place
invariant-loop-place l =
    first (λ k. not (is_marked l.marks.words k)) 0 (min l.count 65536) ≡ first (λ k. not (is_marked l.marks.words k)) l.place (l.place-end - l.place)
