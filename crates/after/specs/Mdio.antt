-- What is left of an operation of mdio.rs once its access has given a word
use Rattle.hardware.specs.Talk.{Talk, Res}
use Rattle.std.specs.Prelude.{ℕ}
use Rattle.hardware.specs.declared.Port.{Port}
use Rattle.answers.specs.declared.Value.TheVariants as value
use Rattle.reference.specs.Out.{Out, answer, nothing}
use Rattle.phy.specs.Advertise.{resume_advertise}
use Rattle.phy.specs.AnLink.{resume_an_link}
use Rattle.phy.specs.Clock.{resume_clock}
use Rattle.phy.specs.Modify.{resume_modify}
use Rattle.phy.specs.Probe.{resume_probe}
use Rattle.phy.specs.Reset.{resume_reset}
use Rattle.phy.specs.Scan.{resume_scan}
use Rattle.after.specs.declared.registers.Mdio.{Mdio}
use Rattle.after.specs.declared.registers.Mdio.TheVariants as mdio

abbrev pub resume_mdio : Port → Mdio → Res ℕ → Talk Out
resume_mdio port (mdio.Modify at s) got = answer value.Word (resume_modify port at s got)
resume_mdio port (mdio.Probe phy s) got = answer value.Probe (resume_probe port phy s got)
resume_mdio port (mdio.Scan s) got = answer value.Scan (resume_scan port s got)
resume_mdio port (mdio.Reset phy x557 s) got = answer nothing (resume_reset port phy x557 s got)
resume_mdio port (mdio.AnLink phy s) got = answer value.Flag (resume_an_link port phy s got)
resume_mdio port (mdio.Advertise asked s) got = answer value.Flag (resume_advertise port asked s got)
resume_mdio port (mdio.Clock fast s) got = answer nothing (resume_clock fast s got)
