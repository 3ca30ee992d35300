use mathlib.Core.List.{append_assoc}
use Rattle.packed.proofs.Laws.{then, is_flag}
use Rattle.packed.proofs.Width.Arguments.{drop_maybe_flag}
use Rattle.packed.proofs.Width.Phy.{drop_advertise_place}
use Rattle.packed.specs.After.{words_mdio, get_mdio}
use Rattle.packed.specs.Tape.{word_at}
use Rattle.packed.proofs.p_after.MdioPacked.put.Goals as goal

pub returns-in-Modify-clause-adds : goal.returns-in-Modify-clause-adds
unfolding words_mdio
returns-in-Modify-clause-adds c = rw c.in-Modify.is (then c.word-at.ensures (then c.word-at-in-Modify.ensures (then c.word-at-in-Modify-2.ensures (then (rw c.wide.ensures.same at c.word-at-in-Modify-3.ensures) (then (rw c.wide-in-Modify.ensures.same at c.word-at-in-Modify-4.ensures) (then (rw c.wide-in-Modify-2.ensures.same at c.word-at-in-Modify-5.ensures) (then c.put-at.ensures.adds c.zeros.ensures)))))))

pub returns-in-Modify-clause-back : goal.returns-in-Modify-clause-back
unfolding words_mdio get_mdio word_at
returns-in-Modify-clause-back c = λ rest. simp (c.in-Modify.is, c.wide.ensures.fits, c.wide-in-Modify.ensures.fits, c.wide-in-Modify-2.ensures.fits, c.put-at.ensures.back, append_assoc)

pub returns-in-Probe-clause-adds : goal.returns-in-Probe-clause-adds
unfolding words_mdio
returns-in-Probe-clause-adds c = rw c.in-Probe.is (then c.word-at-in-Probe.ensures (then c.word-at-in-Probe-2.ensures (then c.put-at-in-Probe.ensures.adds c.zeros-in-Probe.ensures)))

pub returns-in-Probe-clause-back : goal.returns-in-Probe-clause-back
unfolding words_mdio get_mdio word_at
returns-in-Probe-clause-back c = λ rest. simp (c.in-Probe.is, c.put-at-in-Probe.ensures.back, append_assoc)

pub returns-in-Scan-clause-adds : goal.returns-in-Scan-clause-adds
unfolding words_mdio
returns-in-Scan-clause-adds c = rw c.in-Scan.is (then c.word-at-in-Scan.ensures (then (rw c.wide_byte.ensures.same at c.word-at-in-Scan-2.ensures) (then c.put-at-in-Scan.ensures.adds c.zeros-in-Scan.ensures)))

pub returns-in-Scan-clause-back : goal.returns-in-Scan-clause-back
unfolding words_mdio get_mdio word_at
returns-in-Scan-clause-back c = λ rest. simp (c.in-Scan.is, c.wide_byte.ensures.fits, c.put-at-in-Scan.ensures.back, append_assoc)

pub returns-in-Reset-clause-adds : goal.returns-in-Reset-clause-adds
unfolding words_mdio
returns-in-Reset-clause-adds c = rw c.in-Reset.is (then c.word-at-in-Reset.ensures (then c.word-at-in-Reset-2.ensures (then c.flag-at.ensures (then c.put-at-in-Reset.ensures.adds c.zeros-in-Reset.ensures))))

pub returns-in-Reset-clause-back : goal.returns-in-Reset-clause-back
unfolding words_mdio get_mdio word_at
returns-in-Reset-clause-back c = λ rest. simp (c.in-Reset.is, is_flag, c.put-at-in-Reset.ensures.back, append_assoc)

pub returns-in-AnLink-clause-adds : goal.returns-in-AnLink-clause-adds
unfolding words_mdio
returns-in-AnLink-clause-adds c = rw c.in-AnLink.is (then c.word-at-in-AnLink.ensures (then c.word-at-in-AnLink-2.ensures (then c.put-at-in-AnLink.ensures.adds c.zeros-in-AnLink.ensures)))

pub returns-in-AnLink-clause-back : goal.returns-in-AnLink-clause-back
unfolding words_mdio get_mdio word_at
returns-in-AnLink-clause-back c = λ rest. simp (c.in-AnLink.is, c.put-at-in-AnLink.ensures.back, append_assoc)

pub returns-in-Advertise-clause-adds : goal.returns-in-Advertise-clause-adds
unfolding words_mdio
returns-in-Advertise-clause-adds c = rw c.in-Advertise.is (then c.word-at-in-Advertise.ensures (then c.word-at-in-Advertise-2.ensures (then c.flag-at-in-Advertise.ensures (then c.flag-at-in-Advertise-2.ensures (then c.flag-at-in-Advertise-3.ensures (then c.flag-at-in-Advertise-4.ensures (then c.put-at-in-Advertise.ensures.adds (then c.put-at-in-Advertise-2.ensures.adds c.put.ensures.adds))))))))

pub returns-in-Advertise-clause-back : goal.returns-in-Advertise-clause-back
unfolding words_mdio get_mdio word_at
returns-in-Advertise-clause-back c = λ rest. simp (c.in-Advertise.is, is_flag, c.put-at-in-Advertise.ensures.back, c.put-at-in-Advertise-2.ensures.back, c.put.ensures.back, append_assoc, drop_maybe_flag, drop_advertise_place)

pub returns-in-Clock-clause-adds : goal.returns-in-Clock-clause-adds
unfolding words_mdio
returns-in-Clock-clause-adds c = rw c.in-Clock.is (then c.word-at-in-Clock.ensures (then c.flag-at-in-Clock.ensures (then c.put-at-in-Clock.ensures.adds c.zeros-in-Clock.ensures)))

pub returns-in-Clock-clause-back : goal.returns-in-Clock-clause-back
unfolding words_mdio get_mdio word_at
returns-in-Clock-clause-back c = λ rest. simp (c.in-Clock.is, is_flag, c.put-at-in-Clock.ensures.back, append_assoc)
