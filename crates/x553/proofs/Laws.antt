-- SETUP_LINK's answer by itself, in `prepare_firmware` and in `setup`
use Rattle.hardware.specs.Talk.{Call, ◌>>=◌, ◌>>◌, return}
use Prim.Native.Nat.{ℕ}
use mathlib.Core.Bool.{Bool, true}
use mathlib.Core.Path.{◌≡◌, ap, sym, fun_ext}
use lib.Dec.{eqb}
use Rattle.hardware.specs.declared.Port.{Port}
use Rattle.answers.specs.declared.FirmwarePhy.{FirmwarePhy}
use Rattle.answers.specs.declared.Setup553.{Setup553}
use Rattle.reference.specs.Hostif.{phy_activity}
use Rattle.reference.specs.X553.{firmware, firmware_linked, firmware_up, setup_fw_link, sgmii_an}
use Rattle.reference.specs.X553 as x553
use Rattle.reference.proofs.Laws.{bind_assoc}
use Rattle.activity.specs.Activity.{activity_of}
use Rattle.x553.specs.Firmware.{internal_then}
use Rattle.x553.specs.Prepare.{link_of, place_at}
use Rattle.x553.specs.declared.prepare.FirmwarePlace.TheVariants as place

module _ (port : Port) (phy : FirmwarePhy) where
  pub fw_link : {A : Type 0} (k : Bool → Call A) → (setup_fw_link port phy.speeds >>= k) ≡ (activity_of port (link_of phy) >>= λ out. k (eqb out.w0 1))
  unfolding setup_fw_link
  fw_link k = bind_assoc (activity_of port (link_of phy)) (λ out. return (eqb out.w0 1)) k

  abbrev pub rest : Call x553.Prepared
  rest = setup_fw_link port phy.speeds >>= λ down. return (firmware phy true down)

  pub reset_place : place_at port place.Reset phy ≡ (phy_activity port 5 0 0 0 0 >> (phy_activity port 1 0 0 0 0 >> rest))
  unfolding setup_fw_link
  reset_place = ap (λ (t : Call x553.Prepared). phy_activity port 5 0 0 0 0 >> (phy_activity port 1 0 0 0 0 >> t)) (sym (fw_link (λ down. return (firmware phy true down))))

  pub up_link : internal_then port phy (sgmii_an port.pause port) ≡ firmware_up port.pause port phy
  up_link = ap (λ (k : ℕ → Call Setup553). sgmii_an port.pause port >>= k) (fun_ext (λ flx. sym (fw_link (firmware_linked port phy flx))))
