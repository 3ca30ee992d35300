use Rattle.packed.proofs.Laws.{then}
use Rattle.packed.specs.Hardware.{words_action}
use Rattle.packed.proofs.p_hardware.ActionPacked.put.Goals as goal

pub returns-in-Read-clause-adds : goal.returns-in-Read-clause-adds
unfolding words_action
returns-in-Read-clause-adds c = rw c.in-Read.is (then c.word-at.ensures (then c.word-at-in-Read.ensures c.word.ensures))

pub returns-in-Write-clause-adds : goal.returns-in-Write-clause-adds
unfolding words_action
returns-in-Write-clause-adds c = rw c.in-Write.is (then c.word-at-in-Write.ensures (then c.word-at-in-Write-2.ensures c.word-in-Write.ensures))

pub returns-in-Wait-clause-adds : goal.returns-in-Wait-clause-adds
unfolding words_action
returns-in-Wait-clause-adds c = rw c.in-Wait.is (then c.word-at-in-Wait.ensures (then c.word-at-in-Wait-2.ensures c.word-in-Wait.ensures))
