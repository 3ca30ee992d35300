use Rattle.std.proofs.Common.{ℕ, ◌≡◌, ◌<◌, ◌+◌, ◌-◌, ◌||◌}
use Rattle.settings.specs.Records.{records, chain_from}
use Rattle.settings.specs.Whole.{has}
use Rattle.settings.specs.Walk.{is_marked}
use Rattle.settings.proofs.free.mark.Given as goal

-- what has a mark, and what of the chain is left
abbrev pub invariant-loop : goal.invariant-loop
invariant-loop l =
    (k : ℕ) → k < 65536
    → (has (l.base + k) (chain_from (l.end - l.counter) l.words l.index) || is_marked l.marks.words k)
    ≡ (has (l.base + k) (chain_from (records l.words) l.words l.head) || is_marked l.fn.marks.words k)
