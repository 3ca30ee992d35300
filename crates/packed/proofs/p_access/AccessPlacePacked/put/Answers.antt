use mathlib.Core.List.{append_assoc}
use Rattle.packed.proofs.Laws.{then}
use Rattle.packed.proofs.Width.Access.{drop_command_for, drop_sync_for}
use Rattle.packed.specs.Access.{words_access_place, get_access_place}
use Rattle.packed.specs.Tape.{word_at}
use Rattle.packed.proofs.p_access.AccessPlacePacked.put.Goals as goal

pub returns-in-Reading-clause-adds : goal.returns-in-Reading-clause-adds
unfolding words_access_place
returns-in-Reading-clause-adds c = rw c.in-Reading.is (then c.word-at.ensures c.zeros.ensures)

pub returns-in-Writing-clause-adds : goal.returns-in-Writing-clause-adds
unfolding words_access_place
returns-in-Writing-clause-adds c = rw c.in-Writing.is (then c.word-at-in-Writing.ensures c.zeros-in-Writing.ensures)

pub returns-in-Waiting-clause-adds : goal.returns-in-Waiting-clause-adds
unfolding words_access_place
returns-in-Waiting-clause-adds c = rw c.in-Waiting.is (then c.word-at-in-Waiting.ensures c.zeros-in-Waiting.ensures)

pub returns-in-Sync-clause-adds : goal.returns-in-Sync-clause-adds
unfolding words_access_place
returns-in-Sync-clause-adds c = rw c.in-Sync.is (then c.word-at-in-Sync.ensures (then c.put-at.ensures.adds c.put.ensures.adds))

pub returns-in-Sync-clause-back : goal.returns-in-Sync-clause-back
unfolding words_access_place get_access_place word_at
returns-in-Sync-clause-back c = λ rest. simp (c.in-Sync.is, c.put-at.ensures.back, c.put.ensures.back, append_assoc, drop_sync_for)

pub returns-in-Exchange-clause-adds : goal.returns-in-Exchange-clause-adds
unfolding words_access_place
returns-in-Exchange-clause-adds c = rw c.in-Exchange.is (then c.word-at-in-Exchange.ensures (then c.put-at-in-Exchange.ensures.adds (then c.put-at-in-Exchange-2.ensures.adds c.zeros-in-Exchange.ensures)))

pub returns-in-Exchange-clause-back : goal.returns-in-Exchange-clause-back
unfolding words_access_place get_access_place word_at
returns-in-Exchange-clause-back c = λ rest. simp (c.in-Exchange.is, c.put-at-in-Exchange.ensures.back, c.put-at-in-Exchange-2.ensures.back, append_assoc, drop_command_for)

pub returns-in-Body-clause-adds : goal.returns-in-Body-clause-adds
unfolding words_access_place
returns-in-Body-clause-adds c = rw c.in-Body.is (then c.word-at-in-Body.ensures (then c.put-at-in-Body.ensures.adds c.zeros-in-Body.ensures))

pub returns-in-Body-clause-back : goal.returns-in-Body-clause-back
unfolding words_access_place get_access_place word_at
returns-in-Body-clause-back c = λ rest. simp (c.in-Body.is, c.put-at-in-Body.ensures.back, append_assoc)

pub returns-in-Pausing-clause-adds : goal.returns-in-Pausing-clause-adds
unfolding words_access_place
returns-in-Pausing-clause-adds c = rw c.in-Pausing.is (then c.word-at-in-Pausing.ensures (then c.word-at-in-Pausing-2.ensures c.zeros-in-Pausing.ensures))
