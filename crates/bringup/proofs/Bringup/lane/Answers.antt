use Rattle.bringup.proofs.Bringup.lane.Goals as goal

pub returns-in-Sgmii : goal.returns-in-Sgmii
returns-in-Sgmii c = λ b. simp (c.in-Sgmii.is, c.start.ensures, c.after_sgmii.ensures)
