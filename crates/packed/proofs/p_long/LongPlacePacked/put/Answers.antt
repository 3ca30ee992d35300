use mathlib.Core.List.{append_assoc}
use Rattle.packed.proofs.Laws.{then}
use Rattle.packed.proofs.Width.Access.{drop_command_place}
use Rattle.packed.specs.Long.{words_long_place, get_long_place}
use Rattle.packed.specs.Tape.{word_at}
use Rattle.packed.proofs.p_long.LongPlacePacked.put.Goals as goal

pub returns-in-Sync-clause-adds : goal.returns-in-Sync-clause-adds
unfolding words_long_place
returns-in-Sync-clause-adds c = rw c.in-Sync.is (then c.word-at.ensures (then c.put-at.ensures.adds c.put.ensures.adds))

pub returns-in-Sync-clause-back : goal.returns-in-Sync-clause-back
unfolding words_long_place get_long_place word_at
returns-in-Sync-clause-back c = λ rest. simp (c.in-Sync.is, c.put-at.ensures.back, c.put.ensures.back, append_assoc, drop_command_place)

pub returns-in-Exchange-clause-adds : goal.returns-in-Exchange-clause-adds
unfolding words_long_place
returns-in-Exchange-clause-adds c = rw c.in-Exchange.is (then c.word-at-in-Exchange.ensures (then c.put-at-in-Exchange.ensures.adds c.zeros.ensures))

pub returns-in-Exchange-clause-back : goal.returns-in-Exchange-clause-back
unfolding words_long_place get_long_place word_at
returns-in-Exchange-clause-back c = λ rest. simp (c.in-Exchange.is, c.put-at-in-Exchange.ensures.back, append_assoc)
