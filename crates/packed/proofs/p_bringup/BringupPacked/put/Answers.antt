use mathlib.Core.List.{append_assoc}
use Rattle.packed.proofs.Laws.{then, is_flag}
use Rattle.packed.proofs.Width.Answers.{drop_internal}
use Rattle.packed.proofs.Width.Kr.{drop_kr_place}
use Rattle.packed.proofs.Width.Words.{drop_maybe_word}
use Rattle.packed.specs.Bringup.{words_bringup, get_bringup}
use Rattle.packed.specs.Tape.{word_at}
use Rattle.packed.proofs.p_bringup.BringupPacked.put.Goals as goal

pub returns-in-Clock-clause-adds : goal.returns-in-Clock-clause-adds
unfolding words_bringup
returns-in-Clock-clause-adds c = rw c.in-Clock.is (then c.word-at.ensures (then c.flag-at.ensures (then c.put-at.ensures.adds c.zeros.ensures)))

pub returns-in-Clock-clause-back : goal.returns-in-Clock-clause-back
unfolding words_bringup get_bringup word_at
returns-in-Clock-clause-back c = λ rest. simp (c.in-Clock.is, is_flag, c.put-at.ensures.back, append_assoc)

pub returns-in-Copper-clause-adds : goal.returns-in-Copper-clause-adds
unfolding words_bringup
returns-in-Copper-clause-adds c = rw c.in-Copper.is (then c.word-at-in-Copper.ensures (then c.put-at-in-Copper.ensures.adds c.zeros-in-Copper.ensures))

pub returns-in-Copper-clause-back : goal.returns-in-Copper-clause-back
unfolding words_bringup get_bringup word_at
returns-in-Copper-clause-back c = λ rest. simp (c.in-Copper.is, c.put-at-in-Copper.ensures.back, append_assoc)

pub returns-in-Firmware-clause-adds : goal.returns-in-Firmware-clause-adds
unfolding words_bringup
returns-in-Firmware-clause-adds c = rw c.in-Firmware.is (then c.word-at-in-Firmware.ensures (then c.put-at-in-Firmware.ensures.adds c.zeros-in-Firmware.ensures))

pub returns-in-Firmware-clause-back : goal.returns-in-Firmware-clause-back
unfolding words_bringup get_bringup word_at
returns-in-Firmware-clause-back c = λ rest. simp (c.in-Firmware.is, c.put-at-in-Firmware.ensures.back, append_assoc)

pub returns-in-Sel-clause-adds : goal.returns-in-Sel-clause-adds
unfolding words_bringup
returns-in-Sel-clause-adds c = rw c.in-Sel.is (then c.word-at-in-Sel.ensures (then c.flag-at-in-Sel.ensures c.zeros-in-Sel.ensures))

pub returns-in-Mmngc-clause-adds : goal.returns-in-Mmngc-clause-adds
unfolding words_bringup
returns-in-Mmngc-clause-adds c = rw c.in-Mmngc.is (then c.word-at-in-Mmngc.ensures (then c.put-at-in-Mmngc.ensures.adds c.zeros-in-Mmngc.ensures))

pub returns-in-Mmngc-clause-back : goal.returns-in-Mmngc-clause-back
unfolding words_bringup get_bringup word_at
returns-in-Mmngc-clause-back c = λ rest. simp (c.in-Mmngc.is, c.put-at-in-Mmngc.ensures.back, append_assoc)

pub returns-in-Kr-clause-adds : goal.returns-in-Kr-clause-adds
unfolding words_bringup
returns-in-Kr-clause-adds c = rw c.in-Kr.is (then c.word-at-in-Kr.ensures (then c.put-at-in-Kr.ensures.adds (then c.put-at-in-Kr-2.ensures.adds (then c.put-at-in-Kr-3.ensures.adds c.zeros-in-Kr.ensures))))

pub returns-in-Kr-clause-back : goal.returns-in-Kr-clause-back
unfolding words_bringup get_bringup word_at
returns-in-Kr-clause-back c = λ rest. simp (c.in-Kr.is, c.put-at-in-Kr.ensures.back, c.put-at-in-Kr-2.ensures.back, c.put-at-in-Kr-3.ensures.back, append_assoc, drop_kr_place, drop_maybe_word)

pub returns-in-Sgmii-clause-adds : goal.returns-in-Sgmii-clause-adds
unfolding words_bringup
returns-in-Sgmii-clause-adds c = rw c.in-Sgmii.is (then c.word-at-in-Sgmii.ensures (then c.put-at-in-Sgmii.ensures.adds c.zeros-in-Sgmii.ensures))

pub returns-in-Sgmii-clause-back : goal.returns-in-Sgmii-clause-back
unfolding words_bringup get_bringup word_at
returns-in-Sgmii-clause-back c = λ rest. simp (c.in-Sgmii.is, c.put-at-in-Sgmii.ensures.back, append_assoc)

pub returns-in-Link-clause-adds : goal.returns-in-Link-clause-adds
unfolding words_bringup
returns-in-Link-clause-adds c = rw c.in-Link.is (then c.word-at-in-Link.ensures (then (rw c.wide_byte.ensures.same at c.word-at-in-Link-2.ensures) (then c.word-at-in-Link-3.ensures (then c.word-at-in-Link-4.ensures (then c.flag-at-in-Link.ensures (then c.flag-at-in-Link-2.ensures (then c.put-at-in-Link.ensures.adds c.put.ensures.adds)))))))

pub returns-in-Link-clause-back : goal.returns-in-Link-clause-back
unfolding words_bringup get_bringup word_at
returns-in-Link-clause-back c = λ rest. simp (c.in-Link.is, c.wide_byte.ensures.fits, is_flag, c.put-at-in-Link.ensures.back, c.put.ensures.back, append_assoc, drop_internal)

pub returns-in-SetupFirmware-clause-adds : goal.returns-in-SetupFirmware-clause-adds
unfolding words_bringup
returns-in-SetupFirmware-clause-adds c = rw c.in-SetupFirmware.is (then c.word-at-in-SetupFirmware.ensures (then c.put-at-in-SetupFirmware.ensures.adds c.zeros-in-SetupFirmware.ensures))

pub returns-in-SetupFirmware-clause-back : goal.returns-in-SetupFirmware-clause-back
unfolding words_bringup get_bringup word_at
returns-in-SetupFirmware-clause-back c = λ rest. simp (c.in-SetupFirmware.is, c.put-at-in-SetupFirmware.ensures.back, append_assoc)
