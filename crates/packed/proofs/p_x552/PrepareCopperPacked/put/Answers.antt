use mathlib.Core.List.{append_assoc}
use Rattle.packed.proofs.Laws.{then}
use Rattle.packed.specs.X552.{words_prepare_copper, get_prepare_copper}
use Rattle.packed.specs.Tape.{word_at}
use Rattle.packed.proofs.p_x552.PrepareCopperPacked.put.Goals as goal

pub returns-in-Clock-clause-adds : goal.returns-in-Clock-clause-adds
unfolding words_prepare_copper
returns-in-Clock-clause-adds c = rw c.in-Clock.is (then c.word-at.ensures (then c.put-at.ensures.adds c.zeros.ensures))

pub returns-in-Clock-clause-back : goal.returns-in-Clock-clause-back
unfolding words_prepare_copper get_prepare_copper word_at
returns-in-Clock-clause-back c = λ rest. simp (c.in-Clock.is, c.put-at.ensures.back, append_assoc)

pub returns-in-Sel-clause-adds : goal.returns-in-Sel-clause-adds
unfolding words_prepare_copper
returns-in-Sel-clause-adds c = rw c.in-Sel.is (then c.word-at-in-Sel.ensures c.zeros-in-Sel.ensures)

pub returns-in-Probe-clause-adds : goal.returns-in-Probe-clause-adds
unfolding words_prepare_copper
returns-in-Probe-clause-adds c = rw c.in-Probe.is (then c.word-at-in-Probe.ensures (then c.word-at-in-Probe-2.ensures (then c.put-at-in-Probe.ensures.adds c.zeros-in-Probe.ensures)))

pub returns-in-Probe-clause-back : goal.returns-in-Probe-clause-back
unfolding words_prepare_copper get_prepare_copper word_at
returns-in-Probe-clause-back c = λ rest. simp (c.in-Probe.is, c.put-at-in-Probe.ensures.back, append_assoc)

pub returns-in-Scan-clause-adds : goal.returns-in-Scan-clause-adds
unfolding words_prepare_copper
returns-in-Scan-clause-adds c = rw c.in-Scan.is (then c.word-at-in-Scan.ensures (then c.word-at-in-Scan-2.ensures (then (rw c.wide_byte.ensures.same at c.word-at-in-Scan-3.ensures) (then c.put-at-in-Scan.ensures.adds c.zeros-in-Scan.ensures))))

pub returns-in-Scan-clause-back : goal.returns-in-Scan-clause-back
unfolding words_prepare_copper get_prepare_copper word_at
returns-in-Scan-clause-back c = λ rest. simp (c.in-Scan.is, c.wide_byte.ensures.fits, c.put-at-in-Scan.ensures.back, append_assoc)

pub returns-in-Alarms-clause-adds : goal.returns-in-Alarms-clause-adds
unfolding words_prepare_copper
returns-in-Alarms-clause-adds c = rw c.in-Alarms.is (then c.word-at-in-Alarms.ensures (then (rw c.wide_byte-in-Alarms.ensures.same at c.word-at-in-Alarms-2.ensures) (then c.word-at-in-Alarms-3.ensures (then c.word-at-in-Alarms-4.ensures c.zeros-in-Alarms.ensures))))

pub returns-in-Unstall-clause-adds : goal.returns-in-Unstall-clause-adds
unfolding words_prepare_copper
returns-in-Unstall-clause-adds c = rw c.in-Unstall.is (then c.word-at-in-Unstall.ensures (then (rw c.wide_byte-in-Unstall.ensures.same at c.word-at-in-Unstall-2.ensures) (then c.word-at-in-Unstall-3.ensures (then c.word-at-in-Unstall-4.ensures (then c.put-at-in-Unstall.ensures.adds c.word.ensures)))))

pub returns-in-Unstall-clause-back : goal.returns-in-Unstall-clause-back
unfolding words_prepare_copper get_prepare_copper word_at
returns-in-Unstall-clause-back c = λ rest. simp (c.in-Unstall.is, c.wide_byte-in-Unstall.ensures.fits, c.put-at-in-Unstall.ensures.back, append_assoc)

pub returns-in-Reset-clause-adds : goal.returns-in-Reset-clause-adds
unfolding words_prepare_copper
returns-in-Reset-clause-adds c = rw c.in-Reset.is (then c.word-at-in-Reset.ensures (then (rw c.wide_byte-in-Reset.ensures.same at c.word-at-in-Reset-2.ensures) (then c.word-at-in-Reset-3.ensures (then c.word-at-in-Reset-4.ensures (then c.flag-at.ensures c.put.ensures.adds)))))
