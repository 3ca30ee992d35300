use Rattle.packed.proofs.Laws.{then}
use Rattle.packed.specs.Hardware.{words_error}
use Rattle.packed.proofs.p_hardware.ErrorPacked.put.Goals as goal

pub returns-in-Io-clause-adds : goal.returns-in-Io-clause-adds
unfolding words_error
returns-in-Io-clause-adds c = rw c.in-Io.is (then c.word-at.ensures (then c.word-at-in-Io.ensures c.zeros.ensures))

pub returns-in-Removed-clause-adds : goal.returns-in-Removed-clause-adds
unfolding words_error
returns-in-Removed-clause-adds c = rw c.in-Removed.is (then c.word-at-in-Removed.ensures c.zeros-in-Removed.ensures)

pub returns-in-Timeout-clause-adds : goal.returns-in-Timeout-clause-adds
unfolding words_error
returns-in-Timeout-clause-adds c = rw c.in-Timeout.is (then c.word-at-in-Timeout.ensures (then c.word-at-in-Timeout-2.ensures (then c.word-at-in-Timeout-3.ensures (then c.word-at-in-Timeout-4.ensures c.word.ensures))))

pub returns-in-Sideband-clause-adds : goal.returns-in-Sideband-clause-adds
unfolding words_error
returns-in-Sideband-clause-adds c = rw c.in-Sideband.is (then c.word-at-in-Sideband.ensures (then c.word-at-in-Sideband-2.ensures (then c.word-at-in-Sideband-3.ensures c.zeros-in-Sideband.ensures)))

pub returns-in-Semaphore-clause-adds : goal.returns-in-Semaphore-clause-adds
unfolding words_error
returns-in-Semaphore-clause-adds c = rw c.in-Semaphore.is (then c.word-at-in-Semaphore.ensures (then c.word-at-in-Semaphore-2.ensures c.zeros-in-Semaphore.ensures))

pub returns-in-HostInterface-clause-adds : goal.returns-in-HostInterface-clause-adds
unfolding words_error
returns-in-HostInterface-clause-adds c = rw c.in-HostInterface.is (then c.word-at-in-HostInterface.ensures (then c.word-at-in-HostInterface-2.ensures c.zeros-in-HostInterface.ensures))

pub returns-in-Firmware-clause-adds : goal.returns-in-Firmware-clause-adds
unfolding words_error
returns-in-Firmware-clause-adds c = rw c.in-Firmware.is (then c.word-at-in-Firmware.ensures (then (rw c.wide_byte.ensures.same at c.word-at-in-Firmware-2.ensures) (then (rw c.wide_byte-in-Firmware.ensures.same at c.word-at-in-Firmware-3.ensures) c.zeros-in-Firmware.ensures)))

pub returns-in-NoPhy-clause-adds : goal.returns-in-NoPhy-clause-adds
unfolding words_error
returns-in-NoPhy-clause-adds c = rw c.in-NoPhy.is (then c.word-at-in-NoPhy.ensures c.zeros-in-NoPhy.ensures)

pub returns-in-PhyReset-clause-adds : goal.returns-in-PhyReset-clause-adds
unfolding words_error
returns-in-PhyReset-clause-adds c = rw c.in-PhyReset.is (then c.word-at-in-PhyReset.ensures c.zeros-in-PhyReset.ensures)

pub returns-in-Lan-clause-adds : goal.returns-in-Lan-clause-adds
unfolding words_error
returns-in-Lan-clause-adds c = rw c.in-Lan.is (then c.word-at-in-Lan.ensures c.zeros-in-Lan.ensures)

pub returns-in-Fiber-clause-adds : goal.returns-in-Fiber-clause-adds
unfolding words_error
returns-in-Fiber-clause-adds c = rw c.in-Fiber.is (then c.word-at-in-Fiber.ensures c.zeros-in-Fiber.ensures)

pub returns-in-Address-clause-adds : goal.returns-in-Address-clause-adds
unfolding words_error
returns-in-Address-clause-adds c = rw c.in-Address.is (then c.word-at-in-Address.ensures c.zeros-in-Address.ensures)

pub returns-in-KrAddress-clause-adds : goal.returns-in-KrAddress-clause-adds
unfolding words_error
returns-in-KrAddress-clause-adds c = rw c.in-KrAddress.is (then c.word-at-in-KrAddress.ensures c.zeros-in-KrAddress.ensures)

pub returns-in-Pairs-clause-adds : goal.returns-in-Pairs-clause-adds
unfolding words_error
returns-in-Pairs-clause-adds c = rw c.in-Pairs.is (then c.word-at-in-Pairs.ensures c.zeros-in-Pairs.ensures)

pub returns-in-Block-clause-adds : goal.returns-in-Block-clause-adds
unfolding words_error
returns-in-Block-clause-adds c = rw c.in-Block.is (then c.word-at-in-Block.ensures c.zeros-in-Block.ensures)

pub returns-in-Pause-clause-adds : goal.returns-in-Pause-clause-adds
unfolding words_error
returns-in-Pause-clause-adds c = rw c.in-Pause.is (then c.word-at-in-Pause.ensures c.zeros-in-Pause.ensures)

pub returns-in-Windows-clause-adds : goal.returns-in-Windows-clause-adds
unfolding words_error
returns-in-Windows-clause-adds c = rw c.in-Windows.is (then c.word-at-in-Windows.ensures c.zeros-in-Windows.ensures)
