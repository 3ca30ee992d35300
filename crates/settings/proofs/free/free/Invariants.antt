use Rattle.std.proofs.Common.{◌≡◌, ◌≤◌, ◌-◌, ◌^◌}
use Rattle.settings.specs.Calls.{is_free, first, free}
use Rattle.settings.proofs.free.free.Given as goal

-- none is free before
abbrev pub invariant-loop-base : goal.invariant-loop-base
invariant-loop-base l = record {
  left : first (is_free l.words) l.base (l.end - l.base) ≡ free l.words;
  low : 1 ≤ l.base;
  high : l.end ≤ 2 ^ 32;
}

abbrev pub decreases-loop-base : goal.decreases-loop-base
decreases-loop-base l = l.end - l.base
