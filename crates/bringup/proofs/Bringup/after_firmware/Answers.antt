use Rattle.bringup.proofs.Bringup.after_firmware.Goals as goal

pub returns-in-Done-Ok : goal.returns-in-Done-Ok
returns-in-Done-Ok c = λ b. simp (c.in-Done-Ok.is, rw c.in-Done-Ok.is at c.in-Done-Ok.field-0-is, c.start-step.ensures, c.after_set.ensures)
