-- What a suspended `setup` of a firmware PHY still says, from what its job gives
use Rattle.jobs.specs.declared.job.Job.{Job}
use Rattle.jobs.specs.Job.{told_job_by}
use Rattle.hardware.specs.declared.Step.{Step}
use Rattle.hardware.specs.Talk.{Call, Res, end, pick, is_clear, ◌>>=◌}
use Rattle.std.specs.Prelude.{ℕ, Bool, false, true, List, eqb, Err, None, Ok, Option, Some}
use Rattle.hardware.specs.declared.Managed.{Managed}
use Rattle.hardware.specs.declared.Port.{Port}
use Rattle.answers.specs.declared.FirmwarePhy.{FirmwarePhy}
use Rattle.answers.specs.declared.FirmwareSetup.{FirmwareSetup}
use Rattle.answers.specs.declared.Setup553.{Setup553}
use Rattle.answers.specs.declared.Setup553.TheVariants as setup
use Rattle.answers.specs.declared.Words.{Words}
use Rattle.reference.specs.X553.{firmware, firmware_set, firmware_down, firmware_linked, setup_firmware, setup_prepared}
use Rattle.activity.specs.Activity.{activity_of, resume_activity}
use Rattle.arguments.specs.declared.Asked.{Asked}
use Rattle.x553.specs.Prepare.{asked_with, no_data, link_of}
use Rattle.x553.specs.SgmiiAn.{resume_sgmii_an}
use Rattle.x553.specs.declared.prepare.FirmwarePrepared.{FirmwarePrepared}
use Rattle.x553.specs.declared.firmware.SetupFirmware.{SetupFirmware}
use Rattle.x553.specs.declared.firmware.SetupFirmware.TheVariants as firmwarev

-- FORCE_LINK_DOWN
abbrev pub down_of : Asked
down_of = asked_with 4 1

-- GET_LINK_INFO
abbrev pub link_info_of : Asked
link_info_of = no_data 3

-- the Rust's function, of what was prepared
abbrev pub prepared_of : Managed → FirmwarePrepared → Call Setup553
prepared_of managed p = setup_prepared managed.port.pause managed.port managed.veto (firmware p.phy p.reset p.down)

-- what comes after each of its parts
abbrev pub down_then : FirmwarePhy → Option ℕ → Call Words → Call Setup553
down_then phy internal t = t >>= λ _. firmware_set phy internal true

abbrev pub info_done : Port → FirmwarePhy → ℕ → Words → Call Setup553
info_done port phy flx out =
    pick (is_clear out.w0 0x2000000) (firmware_set phy (Some flx) false) (firmware_down port phy (Some flx))

abbrev pub info_then : Port → FirmwarePhy → ℕ → Call Words → Call Setup553
info_then port phy flx t = t >>= λ out. info_done port phy flx out

abbrev pub link_done : Port → FirmwarePhy → ℕ → Words → Call Setup553
link_done port phy flx out = firmware_linked port phy flx (eqb out.w0 1)

abbrev pub link_then : Port → FirmwarePhy → ℕ → Call Words → Call Setup553
link_then port phy flx t = t >>= λ out. link_done port phy flx out

abbrev pub internal_then : Port → FirmwarePhy → Call ℕ → Call Setup553
internal_then port phy t = t >>= λ flx. link_then port phy flx (activity_of port (link_of phy))

abbrev pub got_mmngc : Port → FirmwarePhy → Bool → Res ℕ → Call Setup553
got_mmngc port phy down got =
    end got >>= λ mmngc. pick (is_clear mmngc 1) (setup_firmware port.pause port phy down) (firmware_set phy None false)

abbrev pub resume_firmware : Port → SetupFirmware → Res ℕ → List ℕ → Call Setup553
resume_firmware port (firmwarev.Mmngc phy down) got ws = got_mmngc port phy down got
resume_firmware port (firmwarev.Internal phy s) got ws = internal_then port phy (resume_sgmii_an port s got)
resume_firmware port (firmwarev.Link phy flx s) got ws = link_then port phy flx (resume_activity port (link_of phy) s got ws)
resume_firmware port (firmwarev.Info phy flx s) got ws = info_then port phy flx (resume_activity port link_info_of s got ws)
resume_firmware port (firmwarev.Down phy internal s) got ws = down_then phy internal (resume_activity port down_of s got ws)

abbrev pub set_of : Res FirmwareSetup → Res Setup553
set_of (Ok s) = Ok (setup.Firmware s)
set_of (Err e) = Err e

abbrev pub told_firmware : Port → List ℕ → Step Job SetupFirmware (Res FirmwareSetup) → Call Setup553
told_firmware port b = told_job_by set_of port b (λ s got ws. resume_firmware port s got ws)
