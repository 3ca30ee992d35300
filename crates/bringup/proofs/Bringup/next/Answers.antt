use Rattle.bringup.proofs.Bringup.next.Goals as goal

pub returns-in-Sgmii : goal.returns-in-Sgmii
returns-in-Sgmii c = simp (c.in-Sgmii.is, c.next-in-Sgmii.ensures, c.after_sgmii.ensures)
