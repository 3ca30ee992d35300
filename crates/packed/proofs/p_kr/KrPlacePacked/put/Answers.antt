use Rattle.packed.proofs.Laws.{then}
use Rattle.packed.specs.Kr.{words_kr_place}
use Rattle.packed.proofs.p_kr.KrPlacePacked.put.Goals as goal

pub returns-in-Advertise-clause-adds : goal.returns-in-Advertise-clause-adds
unfolding words_kr_place
returns-in-Advertise-clause-adds c = rw c.in-Advertise.is (then c.word-at.ensures (then c.flag-at.ensures c.flag.ensures))

pub returns-in-Lane-clause-adds : goal.returns-in-Lane-clause-adds
unfolding words_kr_place
returns-in-Lane-clause-adds c = rw c.in-Lane.is (then c.word-at-in-Lane.ensures c.zeros.ensures)

pub returns-in-Force-clause-adds : goal.returns-in-Force-clause-adds
unfolding words_kr_place
returns-in-Force-clause-adds c = rw c.in-Force.is (then c.word-at-in-Force.ensures (then c.flag-at-in-Force.ensures c.word.ensures))

pub returns-in-Train-clause-adds : goal.returns-in-Train-clause-adds
unfolding words_kr_place
returns-in-Train-clause-adds c = rw c.in-Train.is (then c.word-at-in-Train.ensures c.zeros-in-Train.ensures)

pub returns-in-Ffe4-clause-adds : goal.returns-in-Ffe4-clause-adds
unfolding words_kr_place
returns-in-Ffe4-clause-adds c = rw c.in-Ffe4.is (then c.word-at-in-Ffe4.ensures c.zeros-in-Ffe4.ensures)

pub returns-in-Ffe5-clause-adds : goal.returns-in-Ffe5-clause-adds
unfolding words_kr_place
returns-in-Ffe5-clause-adds c = rw c.in-Ffe5.is (then c.word-at-in-Ffe5.ensures c.zeros-in-Ffe5.ensures)

pub returns-in-Coeff-clause-adds : goal.returns-in-Coeff-clause-adds
unfolding words_kr_place
returns-in-Coeff-clause-adds c = rw c.in-Coeff.is (then c.word-at-in-Coeff.ensures c.zeros-in-Coeff.ensures)

pub returns-in-Restart-clause-adds : goal.returns-in-Restart-clause-adds
unfolding words_kr_place
returns-in-Restart-clause-adds c = rw c.in-Restart.is (then c.word-at-in-Restart.ensures c.zeros-in-Restart.ensures)

pub returns-in-RestartLane-clause-adds : goal.returns-in-RestartLane-clause-adds
unfolding words_kr_place
returns-in-RestartLane-clause-adds c = rw c.in-RestartLane.is (then c.word-at-in-RestartLane.ensures c.zeros-in-RestartLane.ensures)
