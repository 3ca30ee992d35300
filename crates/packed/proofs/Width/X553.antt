-- How many words each state of x553 is
use Prim.Native.Nat.{ℕ}
use mathlib.Core.Path.{◌≡◌, refl}
use mathlib.Core.List.{List, ◌++◌}
use lib.ListN.{length, drop, length-append}
use lib.Seq.{drop_at}
use Rattle.x553.specs.declared.firmware.SetupFirmware.TheVariants as setup_firmwarev
use Rattle.x553.specs.declared.firmware.SetupFirmware.{SetupFirmware}
use Rattle.x553.specs.declared.prepare.FirmwarePlace.TheVariants as firmware_placev
use Rattle.x553.specs.declared.prepare.FirmwarePlace.{FirmwarePlace}
use Rattle.x553.specs.declared.prepare.PrepareFirmware.TheVariants as prepare_firmwarev
use Rattle.x553.specs.declared.prepare.PrepareFirmware.{PrepareFirmware}
use Rattle.x553.specs.declared.sgmii.Sgmii.TheVariants as sgmiiv
use Rattle.x553.specs.declared.sgmii.Sgmii.{Sgmii}
use Rattle.x553.specs.declared.sgmii_an.SgmiiAn.TheVariants as sgmii_anv
use Rattle.x553.specs.declared.sgmii_an.SgmiiAn.{SgmiiAn}
use Rattle.packed.specs.X553.{words_firmware_place, words_prepare_firmware, words_sgmii, words_sgmii_an, words_setup_firmware}
use Rattle.packed.proofs.Width.Activity.{activity_length}
use Rattle.packed.proofs.Width.Kr.{kr_modify_length, kr_place_length}
use Rattle.packed.proofs.Width.Words.{maybe_word_length}

pub firmware_place_length : (s : FirmwarePlace) → length (words_firmware_place s) ≡ 1
unfolding words_firmware_place
firmware_place_length firmware_placev.Reset = refl
firmware_place_length firmware_placev.Init = refl
firmware_place_length firmware_placev.Setup = refl

pub drop_firmware_place : (s : FirmwarePlace) (rest : List ℕ) → drop 1 (words_firmware_place s ++ rest) ≡ rest
drop_firmware_place s rest = drop_at (words_firmware_place s) rest 1 (firmware_place_length s)

pub prepare_firmware_length : (s : PrepareFirmware) → length (words_prepare_firmware s) ≡ 7
unfolding words_prepare_firmware
prepare_firmware_length (prepare_firmwarev.Info x0) = simp (length-append, activity_length)
prepare_firmware_length (prepare_firmwarev.Then x0 x1 x2) = simp (length-append, activity_length, firmware_place_length)

pub sgmii_length : (s : Sgmii) → length (words_sgmii s) ≡ 11
unfolding words_sgmii
sgmii_length (sgmiiv.Ctrl x0) = simp (length-append, kr_modify_length)
sgmii_length (sgmiiv.Force x0 x1) = simp (length-append, kr_modify_length)
sgmii_length (sgmiiv.Lane x0 x1 x2) = simp (length-append, kr_modify_length)
sgmii_length (sgmiiv.Restart x0 x1) = simp (length-append, maybe_word_length, kr_modify_length, kr_place_length)

pub sgmii_an_length : (s : SgmiiAn) → length (words_sgmii_an s) ≡ 9
unfolding words_sgmii_an
sgmii_an_length (sgmii_anv.Ctrl x0) = simp (length-append, kr_modify_length)
sgmii_an_length (sgmii_anv.Force x0 x1) = simp (length-append, kr_modify_length)
sgmii_an_length sgmii_anv.Again = refl
sgmii_an_length (sgmii_anv.Lane x0) = simp (length-append, kr_modify_length)
sgmii_an_length (sgmii_anv.Restart x0 x1) = simp (length-append, maybe_word_length, kr_modify_length, kr_place_length)

pub setup_firmware_length : (s : SetupFirmware) → length (words_setup_firmware s) ≡ 12
unfolding words_setup_firmware
setup_firmware_length (setup_firmwarev.Mmngc x0 x1) = refl
setup_firmware_length (setup_firmwarev.Internal x0 x1) = simp sgmii_an_length
setup_firmware_length (setup_firmwarev.Link x0 x1 x2) = simp (length-append, activity_length)
setup_firmware_length (setup_firmwarev.Info x0 x1 x2) = simp (length-append, activity_length)
setup_firmware_length (setup_firmwarev.Down x0 x1 x2) = simp (length-append, maybe_word_length, activity_length)
