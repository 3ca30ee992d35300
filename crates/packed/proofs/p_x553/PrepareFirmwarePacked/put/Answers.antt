use mathlib.Core.List.{append_assoc}
use Rattle.packed.proofs.Laws.{then}
use Rattle.packed.proofs.Width.X553.{drop_firmware_place}
use Rattle.packed.specs.X553.{words_prepare_firmware, get_prepare_firmware}
use Rattle.packed.specs.Tape.{word_at}
use Rattle.packed.proofs.p_x553.PrepareFirmwarePacked.put.Goals as goal

pub returns-in-Info-clause-adds : goal.returns-in-Info-clause-adds
unfolding words_prepare_firmware
returns-in-Info-clause-adds c = rw c.in-Info.is (then c.word-at.ensures (then c.put-at.ensures.adds c.zeros.ensures))

pub returns-in-Info-clause-back : goal.returns-in-Info-clause-back
unfolding words_prepare_firmware get_prepare_firmware word_at
returns-in-Info-clause-back c = λ rest. simp (c.in-Info.is, c.put-at.ensures.back, append_assoc)

pub returns-in-Then-clause-adds : goal.returns-in-Then-clause-adds
unfolding words_prepare_firmware
returns-in-Then-clause-adds c = rw c.in-Then.is (then c.word-at-in-Then.ensures (then c.word-at-in-Then-2.ensures (then (rw c.wide.ensures.same at c.word-at-in-Then-3.ensures) (then c.put-at-in-Then.ensures.adds c.put.ensures.adds))))

pub returns-in-Then-clause-back : goal.returns-in-Then-clause-back
unfolding words_prepare_firmware get_prepare_firmware word_at
returns-in-Then-clause-back c = λ rest. simp (c.in-Then.is, c.wide.ensures.fits, c.put-at-in-Then.ensures.back, c.put.ensures.back, append_assoc, drop_firmware_place)
