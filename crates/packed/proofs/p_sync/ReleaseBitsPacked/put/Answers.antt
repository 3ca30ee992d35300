use mathlib.Core.List.{append_assoc}
use Rattle.packed.proofs.Laws.{then}
use Rattle.packed.proofs.Width.Hardware.{drop_nothing_or_error}
use Rattle.packed.specs.Sync.{words_release_bits, get_release_bits}
use Rattle.packed.specs.Tape.{word_at}
use Rattle.packed.proofs.p_sync.ReleaseBitsPacked.put.Goals as goal

pub returns-in-Switching-clause-adds : goal.returns-in-Switching-clause-adds
unfolding words_release_bits
returns-in-Switching-clause-adds c = rw c.in-Switching.is (then c.word-at.ensures (then c.put-at.ensures.adds c.zeros.ensures))

pub returns-in-Switching-clause-back : goal.returns-in-Switching-clause-back
unfolding words_release_bits get_release_bits word_at
returns-in-Switching-clause-back c = λ rest. simp (c.in-Switching.is, c.put-at.ensures.back, append_assoc)

pub returns-in-Locking-clause-adds : goal.returns-in-Locking-clause-adds
unfolding words_release_bits
returns-in-Locking-clause-adds c = rw c.in-Locking.is (then c.word-at-in-Locking.ensures (then c.put-at-in-Locking.ensures.adds c.zeros-in-Locking.ensures))

pub returns-in-Locking-clause-back : goal.returns-in-Locking-clause-back
unfolding words_release_bits get_release_bits word_at
returns-in-Locking-clause-back c = λ rest. simp (c.in-Locking.is, c.put-at-in-Locking.ensures.back, append_assoc)

pub returns-in-Clearing-clause-adds : goal.returns-in-Clearing-clause-adds
unfolding words_release_bits
returns-in-Clearing-clause-adds c = rw c.in-Clearing.is (then c.word-at-in-Clearing.ensures (then c.put-at-in-Clearing.ensures.adds c.zeros-in-Clearing.ensures))

pub returns-in-Clearing-clause-back : goal.returns-in-Clearing-clause-back
unfolding words_release_bits get_release_bits word_at
returns-in-Clearing-clause-back c = λ rest. simp (c.in-Clearing.is, c.put-at-in-Clearing.ensures.back, append_assoc)

pub returns-in-Unlocking-clause-adds : goal.returns-in-Unlocking-clause-adds
unfolding words_release_bits
returns-in-Unlocking-clause-adds c = rw c.in-Unlocking.is (then c.word-at-in-Unlocking.ensures (then c.put-at-in-Unlocking.ensures.adds c.put.ensures.adds))

pub returns-in-Unlocking-clause-back : goal.returns-in-Unlocking-clause-back
unfolding words_release_bits get_release_bits word_at
returns-in-Unlocking-clause-back c = λ rest. simp (c.in-Unlocking.is, c.put-at-in-Unlocking.ensures.back, c.put.ensures.back, append_assoc, drop_nothing_or_error)

pub returns-in-Waiting-clause-adds : goal.returns-in-Waiting-clause-adds
unfolding words_release_bits
returns-in-Waiting-clause-adds c = rw c.in-Waiting.is (then c.word-at-in-Waiting.ensures c.zeros-in-Waiting.ensures)
