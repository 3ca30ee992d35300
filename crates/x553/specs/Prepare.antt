-- What a suspended `prepare_firmware` still says, from what its job gives
use Rattle.jobs.specs.declared.job.Job.{Job}
use Rattle.jobs.specs.Job.{told_job_by}
use Rattle.hardware.specs.declared.Step.{Step}
use Rattle.hardware.specs.Talk.{Call, Res, ◌>>=◌, return}
use Rattle.std.specs.Prelude.{ℕ, true, List, eqb, Err, Ok}
use Rattle.std.specs.Int.Bits.{bit_or}
use Rattle.hardware.specs.declared.Managed.{Managed}
use Rattle.hardware.specs.declared.Port.{Port}
use Rattle.answers.specs.declared.FirmwarePhy.{FirmwarePhy}
use Rattle.answers.specs.declared.Words.{Words}
use Rattle.reference.specs.X553.{firmware, phy_info, prepare_info}
use Rattle.reference.specs.X553 as x553
use Rattle.activity.specs.Activity.{activity_of, begun_activity, resume_activity}
use Rattle.activity.specs.declared.Activity.{Activity}
use Rattle.arguments.specs.declared.Asked.{Asked}
use Rattle.x553.specs.declared.prepare.FirmwarePlace.{FirmwarePlace}
use Rattle.x553.specs.declared.prepare.FirmwarePlace.TheVariants as place
use Rattle.x553.specs.declared.prepare.PrepareFirmware.{PrepareFirmware}
use Rattle.x553.specs.declared.prepare.PrepareFirmware.TheVariants as prepare
use Rattle.x553.specs.declared.prepare.FirmwarePrepared.{FirmwarePrepared}

abbrev pub asked_with : ℕ → ℕ → Asked
asked_with activity d0 = record { activity = activity; «data» = record { w0 = d0; w1 = 0; w2 = 0; w3 = 0 } }

-- at its first job
abbrev pub begun_with : Port → ℕ → ℕ → List ℕ → Activity → Call Words
begun_with port activity d0 b s = begun_activity port (asked_with activity d0) b s

abbrev pub no_data : ℕ → Asked
no_data activity = asked_with activity 0

-- SETUP_LINK
abbrev pub link_of : FirmwarePhy → Asked
link_of phy = asked_with 2 (bit_or (bit_or phy.speeds 0x80000) 0x400000)

-- GET_PHY_INFO
abbrev pub info_of : Asked
info_of = no_data 7

-- the activities after it: PHY_SW_RESET, INIT_PHY, SETUP_LINK
abbrev pub asked_of : FirmwarePlace → FirmwarePhy → Asked
asked_of place.Reset phy = no_data 5
asked_of place.Init phy = no_data 1
asked_of place.Setup phy = link_of phy

-- what comes after each, with what the firmware answered
abbrev pub setup_done : FirmwarePhy → Words → Call x553.Prepared
setup_done phy out = return (firmware phy true (eqb out.w0 1))

abbrev pub init_done : Port → FirmwarePhy → Call x553.Prepared
init_done port phy = activity_of port (link_of phy) >>= λ out. setup_done phy out

abbrev pub reset_done : Port → FirmwarePhy → Call x553.Prepared
reset_done port phy = activity_of port (no_data 1) >>= λ _. init_done port phy

abbrev pub place_done : Port → FirmwarePlace → FirmwarePhy → Words → Call x553.Prepared
place_done port place.Reset phy out = reset_done port phy
place_done port place.Init phy out = init_done port phy
place_done port place.Setup phy out = setup_done phy out

abbrev pub place_then : Port → FirmwarePlace → FirmwarePhy → Call Words → Call x553.Prepared
place_then port p phy t = t >>= λ out. place_done port p phy out

abbrev pub place_at : Port → FirmwarePlace → FirmwarePhy → Call x553.Prepared
place_at port p phy = place_then port p phy (activity_of port (asked_of p phy))

abbrev pub info_then : Managed → Call Words → Call x553.Prepared
info_then managed t = t >>= λ info. prepare_info managed.port managed.veto (phy_info info)

abbrev pub resume_prepare : Managed → PrepareFirmware → Res ℕ → List ℕ → Call x553.Prepared
resume_prepare managed (prepare.Info s) got ws = info_then managed (resume_activity managed.port info_of s got ws)
resume_prepare managed (prepare.Then p phy s) got ws = place_then managed.port p phy (resume_activity managed.port (asked_of p phy) s got ws)

abbrev pub prepared_to : Res FirmwarePrepared → Res x553.Prepared
prepared_to (Ok p) = Ok (firmware p.phy p.reset p.down)
prepared_to (Err e) = Err e

abbrev pub told_prepare : Managed → List ℕ → Step Job PrepareFirmware (Res FirmwarePrepared) → Call x553.Prepared
told_prepare managed b = told_job_by prepared_to managed.port b (λ s got ws. resume_prepare managed s got ws)
