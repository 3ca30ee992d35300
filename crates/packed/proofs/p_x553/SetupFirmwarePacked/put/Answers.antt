use mathlib.Core.List.{append_assoc}
use Rattle.packed.proofs.Laws.{then}
use Rattle.packed.proofs.Width.Words.{drop_maybe_word}
use Rattle.packed.specs.X553.{words_setup_firmware, get_setup_firmware}
use Rattle.packed.specs.Tape.{word_at}
use Rattle.packed.proofs.p_x553.SetupFirmwarePacked.put.Goals as goal

pub returns-in-Mmngc-clause-adds : goal.returns-in-Mmngc-clause-adds
unfolding words_setup_firmware
returns-in-Mmngc-clause-adds c = rw c.in-Mmngc.is (then c.word-at.ensures (then c.word-at-in-Mmngc.ensures (then (rw c.wide.ensures.same at c.word-at-in-Mmngc-2.ensures) (then c.flag-at.ensures c.zeros.ensures))))

pub returns-in-Internal-clause-adds : goal.returns-in-Internal-clause-adds
unfolding words_setup_firmware
returns-in-Internal-clause-adds c = rw c.in-Internal.is (then c.word-at-in-Internal.ensures (then c.word-at-in-Internal-2.ensures (then (rw c.wide-in-Internal.ensures.same at c.word-at-in-Internal-3.ensures) c.put.ensures.adds)))

pub returns-in-Link-clause-adds : goal.returns-in-Link-clause-adds
unfolding words_setup_firmware
returns-in-Link-clause-adds c = rw c.in-Link.is (then c.word-at-in-Link.ensures (then c.word-at-in-Link-2.ensures (then (rw c.wide-in-Link.ensures.same at c.word-at-in-Link-3.ensures) (then c.word-at-in-Link-4.ensures (then c.put-at.ensures.adds c.zeros-in-Link.ensures)))))

pub returns-in-Link-clause-back : goal.returns-in-Link-clause-back
unfolding words_setup_firmware get_setup_firmware word_at
returns-in-Link-clause-back c = λ rest. simp (c.in-Link.is, c.wide-in-Link.ensures.fits, c.put-at.ensures.back, append_assoc)

pub returns-in-Info-clause-adds : goal.returns-in-Info-clause-adds
unfolding words_setup_firmware
returns-in-Info-clause-adds c = rw c.in-Info.is (then c.word-at-in-Info.ensures (then c.word-at-in-Info-2.ensures (then (rw c.wide-in-Info.ensures.same at c.word-at-in-Info-3.ensures) (then c.word-at-in-Info-4.ensures (then c.put-at-in-Info.ensures.adds c.zeros-in-Info.ensures)))))

pub returns-in-Info-clause-back : goal.returns-in-Info-clause-back
unfolding words_setup_firmware get_setup_firmware word_at
returns-in-Info-clause-back c = λ rest. simp (c.in-Info.is, c.wide-in-Info.ensures.fits, c.put-at-in-Info.ensures.back, append_assoc)

pub returns-in-Down-clause-adds : goal.returns-in-Down-clause-adds
unfolding words_setup_firmware
returns-in-Down-clause-adds c = rw c.in-Down.is (then c.word-at-in-Down.ensures (then c.word-at-in-Down-2.ensures (then (rw c.wide-in-Down.ensures.same at c.word-at-in-Down-3.ensures) (then c.put-at-in-Down.ensures.adds (then c.put-at-in-Down-2.ensures.adds c.zeros-in-Down.ensures)))))

pub returns-in-Down-clause-back : goal.returns-in-Down-clause-back
unfolding words_setup_firmware get_setup_firmware word_at
returns-in-Down-clause-back c = λ rest. simp (c.in-Down.is, c.wide-in-Down.ensures.fits, c.put-at-in-Down.ensures.back, c.put-at-in-Down-2.ensures.back, append_assoc, drop_maybe_word)
