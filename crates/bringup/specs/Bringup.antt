-- What a suspended `bringup` still says, from what its job gives. Each setup stands here as it is for its devices
use Rattle.jobs.specs.declared.job.Job.{Job}
use Rattle.jobs.specs.Job.{told_job}
use Rattle.hardware.specs.declared.Step.{Step}
use Rattle.hardware.specs.Talk.{Call, Res, end, pick, is_clear, ◌>>=◌, ◌>>◌, return}
use Rattle.std.specs.Prelude.{ℕ, Bool, true, List}
use Rattle.hardware.specs.declared.Family.{Family}
use Rattle.hardware.specs.declared.Family.TheVariants.{X552, X553}
use Rattle.hardware.specs.declared.Managed.{Managed}
use Rattle.hardware.specs.declared.Port.{Port}
use Rattle.answers.specs.declared.CopperSetup.{CopperSetup}
use Rattle.answers.specs.declared.Setup552.TheVariants as setup552
use Rattle.answers.specs.declared.Setup553.{Setup553}
use Rattle.answers.specs.declared.Setup553.TheVariants as setup553
use Rattle.answers.specs.declared.Value.{Value}
use Rattle.answers.specs.declared.Value.TheVariants as value
use Rattle.answers.specs.declared.X557.{X557}
use Rattle.reference.specs.Bringup.{bringup552, bringup553}
use Rattle.reference.specs.X552.{kr_autoneg, copper_link, vetoed}
use Rattle.reference.specs.X552 as x552
use Rattle.reference.specs.X553.{sgmii, prepare_device, setup_prepared}
use Rattle.reference.specs.X553 as x553
use Rattle.kr.specs.Sequence.{resume_sequence}
use Rattle.phy.specs.Clock.{resume_clock}
use Rattle.x552.specs.Link.{resume_link}
use Rattle.x552.specs.Prepare as copper
use Rattle.x553.specs.Firmware.{resume_firmware}
use Rattle.x553.specs.Prepare as firmware
use Rattle.x553.specs.Sgmii.{resume_sgmii}
use Rattle.bringup.specs.declared.Bringup.{Bringup}
use Rattle.bringup.specs.declared.Bringup.TheVariants as bringup
use Rattle.bringup.specs.declared.Lane.{Lane}
use Rattle.bringup.specs.declared.Lane.TheVariants as lane

-- the family's answers
abbrev pub kr_value : Family → ℕ → Value
kr_value X552 lc1 = value.X552 (setup552.Kr lc1)
kr_value X553 lc1 = value.X553 (setup553.Kr lc1)

abbrev pub veto_value : Family → Value
veto_value X552 = value.X552 setup552.ManageabilityVeto
veto_value X553 = value.X553 setup553.ManageabilityVeto

abbrev pub copper_value : Family → CopperSetup → Value
copper_value X552 s = value.X552 (setup552.Copper s)
copper_value X553 s = value.X553 (setup553.X557 (setup552.Copper s))

-- what comes after each part
abbrev pub kr_then : Port → Call ℕ → Call Value
kr_then port t = t >>= λ lc1. return (kr_value port.family lc1)

abbrev pub answer553 : Call Setup553 → Call Value
answer553 t = t >>= λ s. return (value.X553 s)

abbrev pub lane_talk : Port → Lane → Call Value
lane_talk port (lane.Kr kr) = kr_then port (kr_autoneg port.pause port kr true)
lane_talk port lane.Sgmii = answer553 (sgmii port.pause port)

abbrev pub vetoed_talk : Managed → Lane → Call Value
vetoed_talk managed l = vetoed managed.veto (return (veto_value managed.port.family)) (lane_talk managed.port l)

abbrev pub got_mmngc : Port → Lane → Res ℕ → Call Value
got_mmngc port l got = end got >>= λ mmngc. pick (is_clear mmngc 1) (lane_talk port l) (return (veto_value port.family))

abbrev pub got_sel : Managed → Bool → Res ℕ → Call Value
got_sel managed kr got =
    end got >>= λ sel. pick (is_clear sel 0x100000) (vetoed_talk managed (lane.Kr kr)) (return (value.X553 (setup553.Kr2500 sel)))

abbrev pub link_then : Port → Call CopperSetup → Call Value
link_then port t = t >>= λ s. return (copper_value port.family s)

abbrev pub copper_then : Managed → Call X557 → Call Value
copper_then managed t = t >>= λ x. link_then managed.port (copper_link managed.port.pause managed.port managed.veto x)

abbrev pub firmware_then : Managed → Call x553.Prepared → Call Value
firmware_then managed t = t >>= λ p. answer553 (setup_prepared managed.port.pause managed.port managed.veto p)

-- the Rust's prepare and setup, on the X553 after `set_mdio_speed`
abbrev pub devices_of : Managed → Family → Call Value
devices_of managed X552 = x552.prepare_then managed.port managed.veto (bringup552 managed.port.pause managed.port managed.veto)
devices_of managed X553 = prepare_device managed.port managed.veto (bringup553 managed.port.pause managed.port managed.veto)

abbrev pub clock_then : Managed → Call (Unit {0}) → Call Value
clock_then managed t = t >> devices_of managed managed.port.family

abbrev pub resume_bringup : Managed → Bringup → Res ℕ → List ℕ → Call Value
resume_bringup managed (bringup.Clock fast s) got ws = clock_then managed (resume_clock fast s got)
resume_bringup managed (bringup.Copper s) got ws = copper_then managed (copper.resume_prepare managed s got)
resume_bringup managed (bringup.Firmware s) got ws = firmware_then managed (firmware.resume_prepare managed s got ws)
resume_bringup managed (bringup.Sel kr) got ws = got_sel managed kr got
resume_bringup managed (bringup.Mmngc l) got ws = got_mmngc managed.port l got
resume_bringup managed (bringup.Kr s) got ws = kr_then managed.port (resume_sequence managed.port s got)
resume_bringup managed (bringup.Sgmii s) got ws = answer553 (resume_sgmii managed.port s got)
resume_bringup managed (bringup.Link x s) got ws = link_then managed.port (resume_link (record { managed = managed; x557 = x }) s got)
resume_bringup managed (bringup.SetupFirmware s) got ws = answer553 (resume_firmware managed.port s got ws)

abbrev pub told_bringup : Managed → List ℕ → Step Job Bringup (Res Value) → Call Value
told_bringup managed b = told_job managed.port b (λ s got ws. resume_bringup managed s got ws)
