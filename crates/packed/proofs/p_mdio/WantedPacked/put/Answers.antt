use Rattle.packed.proofs.Laws.{then}
use Rattle.packed.specs.Mdio.{words_wanted}
use Rattle.packed.proofs.p_mdio.WantedPacked.put.Goals as goal

pub returns-in-Read-clause-adds : goal.returns-in-Read-clause-adds
unfolding words_wanted
returns-in-Read-clause-adds c = rw c.in-Read.is (then c.word-at.ensures (then c.word-at-in-Read.ensures c.word.ensures))

pub returns-in-Write-clause-adds : goal.returns-in-Write-clause-adds
unfolding words_wanted
returns-in-Write-clause-adds c = rw c.in-Write.is (then c.word-at-in-Write.ensures (then c.word-at-in-Write-2.ensures (rw c.wide.ensures.same at c.word-in-Write.ensures)))
