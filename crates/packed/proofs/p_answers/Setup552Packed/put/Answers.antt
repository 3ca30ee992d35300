use Rattle.packed.proofs.Laws.{then}
use Rattle.packed.specs.Answers.{words_setup552}
use Rattle.packed.proofs.p_answers.Setup552Packed.put.Goals as goal

pub returns-in-Kx4-clause-adds : goal.returns-in-Kx4-clause-adds
unfolding words_setup552
returns-in-Kx4-clause-adds c = rw c.in-Kx4.is (then c.word-at.ensures c.zeros.ensures)

pub returns-in-Xfi-clause-adds : goal.returns-in-Xfi-clause-adds
unfolding words_setup552
returns-in-Xfi-clause-adds c = rw c.in-Xfi.is (then c.word-at-in-Xfi.ensures c.zeros-in-Xfi.ensures)

pub returns-in-FirmwarePhy-clause-adds : goal.returns-in-FirmwarePhy-clause-adds
unfolding words_setup552
returns-in-FirmwarePhy-clause-adds c = rw c.in-FirmwarePhy.is (then c.word-at-in-FirmwarePhy.ensures c.zeros-in-FirmwarePhy.ensures)

pub returns-in-Kr-clause-adds : goal.returns-in-Kr-clause-adds
unfolding words_setup552
returns-in-Kr-clause-adds c = rw c.in-Kr.is (then c.word-at-in-Kr.ensures (then c.word-at-in-Kr-2.ensures c.zeros-in-Kr.ensures))

pub returns-in-ManageabilityVeto-clause-adds : goal.returns-in-ManageabilityVeto-clause-adds
unfolding words_setup552
returns-in-ManageabilityVeto-clause-adds c = rw c.in-ManageabilityVeto.is (then c.word-at-in-ManageabilityVeto.ensures c.zeros-in-ManageabilityVeto.ensures)

pub returns-in-Copper-clause-adds : goal.returns-in-Copper-clause-adds
unfolding words_setup552
returns-in-Copper-clause-adds c = rw c.in-Copper.is (then c.word-at-in-Copper.ensures (then (rw c.wide_byte.ensures.same at c.word-at-in-Copper-2.ensures) (then c.word-at-in-Copper-3.ensures (then c.word-at-in-Copper-4.ensures (then c.flag-at.ensures (then c.flag-at-in-Copper.ensures (then c.flag-at-in-Copper-2.ensures (then c.flag-at-in-Copper-3.ensures (then c.flag-at-in-Copper-4.ensures (then c.flag-at-in-Copper-5.ensures c.put.ensures.adds))))))))))
