use mathlib.Core.List.{append_assoc}
use Rattle.packed.proofs.Laws.{then, is_flag}
use Rattle.packed.specs.Answers.{words_setup553, get_setup553}
use Rattle.packed.specs.Tape.{word_at}
use Rattle.packed.proofs.p_answers.Setup553Packed.put.Goals as goal

pub returns-in-Kr-clause-adds : goal.returns-in-Kr-clause-adds
unfolding words_setup553
returns-in-Kr-clause-adds c = rw c.in-Kr.is (then c.word-at.ensures (then c.word-at-in-Kr.ensures c.zeros.ensures))

pub returns-in-Kr2500-clause-adds : goal.returns-in-Kr2500-clause-adds
unfolding words_setup553
returns-in-Kr2500-clause-adds c = rw c.in-Kr2500.is (then c.word-at-in-Kr2500.ensures (then c.word-at-in-Kr2500-2.ensures c.zeros-in-Kr2500.ensures))

pub returns-in-Sgmii-clause-adds : goal.returns-in-Sgmii-clause-adds
unfolding words_setup553
returns-in-Sgmii-clause-adds c = rw c.in-Sgmii.is (then c.word-at-in-Sgmii.ensures (then c.word-at-in-Sgmii-2.ensures (then c.word-at-in-Sgmii-3.ensures (then c.word-at-in-Sgmii-4.ensures c.zeros-in-Sgmii.ensures))))

pub returns-in-ManageabilityVeto-clause-adds : goal.returns-in-ManageabilityVeto-clause-adds
unfolding words_setup553
returns-in-ManageabilityVeto-clause-adds c = rw c.in-ManageabilityVeto.is (then c.word-at-in-ManageabilityVeto.ensures c.zeros-in-ManageabilityVeto.ensures)

pub returns-in-X557-clause-adds : goal.returns-in-X557-clause-adds
unfolding words_setup553
returns-in-X557-clause-adds c = rw c.in-X557.is (then c.word-at-in-X557.ensures c.put.ensures.adds)

pub returns-in-Firmware-clause-adds : goal.returns-in-Firmware-clause-adds
unfolding words_setup553
returns-in-Firmware-clause-adds c = rw c.in-Firmware.is (then c.word-at-in-Firmware.ensures (then c.word-at-in-Firmware-2.ensures (then (rw c.wide.ensures.same at c.word-at-in-Firmware-3.ensures) (then c.flag-at.ensures (then c.put-at.ensures.adds c.zeros-in-Firmware.ensures)))))

pub returns-in-Firmware-clause-back : goal.returns-in-Firmware-clause-back
unfolding words_setup553 get_setup553 word_at
returns-in-Firmware-clause-back c = λ rest. simp (c.in-Firmware.is, c.wide.ensures.fits, is_flag, c.put-at.ensures.back, append_assoc)
