use Rattle.packed.proofs.Laws.{then}
use Rattle.packed.specs.Hostif.{words_exchange}
use Rattle.packed.proofs.p_hostif.ExchangePacked.put.Goals as goal

pub returns-in-Post-clause-adds : goal.returns-in-Post-clause-adds
unfolding words_exchange
returns-in-Post-clause-adds c = rw c.in-Post.is (then c.word-at.ensures c.put.ensures.adds)

pub returns-in-Head-clause-adds : goal.returns-in-Head-clause-adds
unfolding words_exchange
returns-in-Head-clause-adds c = rw c.in-Head.is (then c.word-at-in-Head.ensures (then c.word-at-in-Head-2.ensures c.zeros.ensures))

pub returns-in-Rest-clause-adds : goal.returns-in-Rest-clause-adds
unfolding words_exchange
returns-in-Rest-clause-adds c = rw c.in-Rest.is (then c.word-at-in-Rest.ensures (then c.word-at-in-Rest-2.ensures (then c.long-at.ensures c.word.ensures)))
