use mathlib.Core.List.{append_assoc}
use Rattle.packed.proofs.Laws.{then}
use Rattle.packed.specs.Sync.{words_lock, get_lock}
use Rattle.packed.specs.Tape.{word_at}
use Rattle.packed.proofs.p_sync.LockPacked.put.Goals as goal

pub returns-in-Smbi-clause-adds : goal.returns-in-Smbi-clause-adds
unfolding words_lock
returns-in-Smbi-clause-adds c = rw c.in-Smbi.is (then c.word-at.ensures c.put.ensures.adds)

pub returns-in-Reading-clause-adds : goal.returns-in-Reading-clause-adds
unfolding words_lock
returns-in-Reading-clause-adds c = rw c.in-Reading.is (then c.word-at-in-Reading.ensures (then c.word-at-in-Reading-2.ensures c.word.ensures))

pub returns-in-Waiting-clause-adds : goal.returns-in-Waiting-clause-adds
unfolding words_lock
returns-in-Waiting-clause-adds c = rw c.in-Waiting.is (then c.word-at-in-Waiting.ensures (then c.word-at-in-Waiting-2.ensures c.word-in-Waiting.ensures))

pub returns-in-Clearing-clause-adds : goal.returns-in-Clearing-clause-adds
unfolding words_lock
returns-in-Clearing-clause-adds c = rw c.in-Clearing.is (then c.word-at-in-Clearing.ensures (then c.put-at.ensures.adds c.word-in-Clearing.ensures))

pub returns-in-Clearing-clause-back : goal.returns-in-Clearing-clause-back
unfolding words_lock get_lock word_at
returns-in-Clearing-clause-back c = λ rest. simp (c.in-Clearing.is, c.put-at.ensures.back, append_assoc)

pub returns-in-Flushing-clause-adds : goal.returns-in-Flushing-clause-adds
unfolding words_lock
returns-in-Flushing-clause-adds c = rw c.in-Flushing.is (then c.word-at-in-Flushing.ensures c.zeros.ensures)
