use Rattle.std.proofs.Common.{◌≡◌, ◌+◌, ◌≤◌, length, replicate}
use Rattle.std.proofs.lemmas.List.Edits.{sets}
use Rattle.conversation.specs.Begun.{pair_words}
use Rattle.conversation.proofs.conversation.listed.Given as goal

abbrev pub invariant-loop-pair : goal.invariant-loop-pair
invariant-loop-pair l =
    (l.pair-iterator.size ≡ 2) × (l.at + length (pair_words l.pair-iterator.rest.now) ≤ 80)
    × (sets (replicate 80 0) 16 (pair_words l.words) ≡ sets l.own l.at (pair_words l.pair-iterator.rest.now))
