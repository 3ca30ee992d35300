use Rattle.reference.specs.X553.{setup_firmware}
use Rattle.x553.proofs.Laws.{up_link}
use Rattle.x553.proofs.firmware.SetupFirmware.free.Goals as goal

pub returns : goal.returns
unfolding setup_firmware
returns c = simp (c.if-down.false, c.start-step.ensures, c.after_internal.ensures) (up_link _ _)
