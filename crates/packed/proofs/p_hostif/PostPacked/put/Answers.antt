use Rattle.packed.proofs.Laws.{then}
use Rattle.packed.specs.Hostif.{words_post}
use Rattle.packed.proofs.p_hostif.PostPacked.put.Goals as goal

pub returns-in-Fwsts-clause-adds : goal.returns-in-Fwsts-clause-adds
unfolding words_post
returns-in-Fwsts-clause-adds c = rw c.in-Fwsts.is (then c.word-at.ensures c.zeros.ensures)

pub returns-in-Fwri-clause-adds : goal.returns-in-Fwri-clause-adds
unfolding words_post
returns-in-Fwri-clause-adds c = rw c.in-Fwri.is (then c.word-at-in-Fwri.ensures c.zeros-in-Fwri.ensures)

pub returns-in-Hicr-clause-adds : goal.returns-in-Hicr-clause-adds
unfolding words_post
returns-in-Hicr-clause-adds c = rw c.in-Hicr.is (then c.word-at-in-Hicr.ensures c.zeros-in-Hicr.ensures)

pub returns-in-Writing-clause-adds : goal.returns-in-Writing-clause-adds
unfolding words_post
returns-in-Writing-clause-adds c = rw c.in-Writing.is (then c.word-at-in-Writing.ensures (then c.word-at-in-Writing-2.ensures c.long.ensures))

pub returns-in-Started-clause-adds : goal.returns-in-Started-clause-adds
unfolding words_post
returns-in-Started-clause-adds c = rw c.in-Started.is (then c.word-at-in-Started.ensures (then c.word-at-in-Started-2.ensures c.zeros-in-Started.ensures))

pub returns-in-Polling-clause-adds : goal.returns-in-Polling-clause-adds
unfolding words_post
returns-in-Polling-clause-adds c = rw c.in-Polling.is (then c.word-at-in-Polling.ensures (then c.word-at-in-Polling-2.ensures c.zeros-in-Polling.ensures))

pub returns-in-Pausing-clause-adds : goal.returns-in-Pausing-clause-adds
unfolding words_post
returns-in-Pausing-clause-adds c = rw c.in-Pausing.is (then c.word-at-in-Pausing.ensures (then c.word-at-in-Pausing-2.ensures (then c.word-at-in-Pausing-3.ensures c.word.ensures)))
