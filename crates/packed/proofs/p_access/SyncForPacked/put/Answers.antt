use mathlib.Core.List.{append_assoc}
use Rattle.packed.proofs.Laws.{then}
use Rattle.packed.proofs.Width.Access.{drop_command_for}
use Rattle.packed.specs.Access.{words_sync_for, get_sync_for}
use Rattle.packed.specs.Tape.{word_at}
use Rattle.packed.proofs.p_access.SyncForPacked.put.Goals as goal

pub returns-in-Bits-clause-adds : goal.returns-in-Bits-clause-adds
unfolding words_sync_for
returns-in-Bits-clause-adds c = rw c.in-Bits.is (then c.word-at.ensures (then c.put-at.ensures.adds c.zeros.ensures))

pub returns-in-Bits-clause-back : goal.returns-in-Bits-clause-back
unfolding words_sync_for get_sync_for word_at
returns-in-Bits-clause-back c = λ rest. simp (c.in-Bits.is, c.put-at.ensures.back, append_assoc)

pub returns-in-Command-clause-adds : goal.returns-in-Command-clause-adds
unfolding words_sync_for
returns-in-Command-clause-adds c = rw c.in-Command.is (then c.word-at-in-Command.ensures (then c.put-at-in-Command.ensures.adds c.put.ensures.adds))

pub returns-in-Command-clause-back : goal.returns-in-Command-clause-back
unfolding words_sync_for get_sync_for word_at
returns-in-Command-clause-back c = λ rest. simp (c.in-Command.is, c.put-at-in-Command.ensures.back, c.put.ensures.back, append_assoc, drop_command_for)
