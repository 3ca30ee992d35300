use Rattle.std.proofs.Common.{◌≡◌, ◌-◌, None}
use Rattle.settings.specs.Records.{records}
use Rattle.settings.specs.Walk.{walked, walk_on}
use Rattle.settings.proofs.walk.walk.Given as goal

-- what is left of the walk
abbrev pub invariant-loop : goal.invariant-loop
invariant-loop l =
    walk_on (l.end - l.counter) l.words l.wanted l.walked l.below l.index ≡ walk_on (records l.words) l.words l.wanted (walked 0 None) 4294967296 l.head
