use Rattle.packed.proofs.Laws.{then}
use Rattle.packed.specs.Sideband.{words_idle}
use Rattle.packed.proofs.p_sideband.IdlePacked.put.Goals as goal

pub returns-in-Reading-clause-adds : goal.returns-in-Reading-clause-adds
unfolding words_idle
returns-in-Reading-clause-adds c = rw c.in-Reading.is (then c.word-at.ensures (then c.word-at-in-Reading.ensures c.word.ensures))

pub returns-in-Waiting-clause-adds : goal.returns-in-Waiting-clause-adds
unfolding words_idle
returns-in-Waiting-clause-adds c = rw c.in-Waiting.is (then c.word-at-in-Waiting.ensures (then c.word-at-in-Waiting-2.ensures c.word-in-Waiting.ensures))
