use mathlib.Core.List.{append_assoc}
use Rattle.packed.proofs.Laws.{then}
use Rattle.packed.proofs.Width.Hardware.{drop_nothing_or_error}
use Rattle.packed.specs.Sync.{words_acquire_bits, get_acquire_bits}
use Rattle.packed.specs.Tape.{word_at}
use Rattle.packed.proofs.p_sync.AcquireBitsPacked.put.Goals as goal

pub returns-in-Locking-clause-adds : goal.returns-in-Locking-clause-adds
unfolding words_acquire_bits
returns-in-Locking-clause-adds c = rw c.in-Locking.is (then c.word-at.ensures (then c.word-at-in-Locking.ensures (then c.put-at.ensures.adds c.zeros.ensures)))

pub returns-in-Locking-clause-back : goal.returns-in-Locking-clause-back
unfolding words_acquire_bits get_acquire_bits word_at
returns-in-Locking-clause-back c = λ rest. simp (c.in-Locking.is, c.put-at.ensures.back, append_assoc)

pub returns-in-Reading-clause-adds : goal.returns-in-Reading-clause-adds
unfolding words_acquire_bits
returns-in-Reading-clause-adds c = rw c.in-Reading.is (then c.word-at-in-Reading.ensures (then c.word-at-in-Reading-2.ensures c.zeros-in-Reading.ensures))

pub returns-in-Writing-clause-adds : goal.returns-in-Writing-clause-adds
unfolding words_acquire_bits
returns-in-Writing-clause-adds c = rw c.in-Writing.is (then c.word-at-in-Writing.ensures c.zeros-in-Writing.ensures)

pub returns-in-Ending-clause-adds : goal.returns-in-Ending-clause-adds
unfolding words_acquire_bits
returns-in-Ending-clause-adds c = rw c.in-Ending.is (then c.word-at-in-Ending.ensures (then c.put-at-in-Ending.ensures.adds c.put.ensures.adds))

pub returns-in-Ending-clause-back : goal.returns-in-Ending-clause-back
unfolding words_acquire_bits get_acquire_bits word_at
returns-in-Ending-clause-back c = λ rest. simp (c.in-Ending.is, c.put-at-in-Ending.ensures.back, c.put.ensures.back, append_assoc, drop_nothing_or_error)

pub returns-in-Held-clause-adds : goal.returns-in-Held-clause-adds
unfolding words_acquire_bits
returns-in-Held-clause-adds c = rw c.in-Held.is (then c.word-at-in-Held.ensures (then c.word-at-in-Held-2.ensures (then c.word-at-in-Held-3.ensures (then c.put-at-in-Held.ensures.adds c.zeros-in-Held.ensures))))

pub returns-in-Held-clause-back : goal.returns-in-Held-clause-back
unfolding words_acquire_bits get_acquire_bits word_at
returns-in-Held-clause-back c = λ rest. simp (c.in-Held.is, c.put-at-in-Held.ensures.back, append_assoc)

pub returns-in-Waiting-clause-adds : goal.returns-in-Waiting-clause-adds
unfolding words_acquire_bits
returns-in-Waiting-clause-adds c = rw c.in-Waiting.is (then c.word-at-in-Waiting.ensures (then c.word-at-in-Waiting-2.ensures (then c.word-at-in-Waiting-3.ensures c.zeros-in-Waiting.ensures)))

pub returns-in-Switching-clause-adds : goal.returns-in-Switching-clause-adds
unfolding words_acquire_bits
returns-in-Switching-clause-adds c = rw c.in-Switching.is (then c.word-at-in-Switching.ensures (then c.put-at-in-Switching.ensures.adds c.zeros-in-Switching.ensures))

pub returns-in-Switching-clause-back : goal.returns-in-Switching-clause-back
unfolding words_acquire_bits get_acquire_bits word_at
returns-in-Switching-clause-back c = λ rest. simp (c.in-Switching.is, c.put-at-in-Switching.ensures.back, append_assoc)
