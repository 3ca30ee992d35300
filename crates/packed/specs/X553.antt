-- The words of x553's states: a kind from 1 on, its numbers, its parts, and zeros up to the type's width
use Rattle.std.specs.Prelude.{ℕ, ◌%◌, List, [], ◌∷◌, ◌++◌, eqb, drop, replicate}
use Rattle.hardware.specs.Talk.{pick}
use Rattle.packed.specs.Tape.{word_at, is, flag_of}
use Rattle.packed.specs.Activity.{get_activity, words_activity}
use Rattle.packed.specs.Kr.{get_kr_modify, get_kr_place, words_kr_modify, words_kr_place}
use Rattle.packed.specs.Packed.{get_option, get_word, words_option, words_word}
use Rattle.x553.specs.declared.firmware.SetupFirmware.TheVariants as setup_firmwarev
use Rattle.x553.specs.declared.firmware.SetupFirmware.{SetupFirmware}
use Rattle.x553.specs.declared.prepare.FirmwarePlace.TheVariants as firmware_placev
use Rattle.x553.specs.declared.prepare.FirmwarePlace.{FirmwarePlace}
use Rattle.x553.specs.declared.prepare.PrepareFirmware.TheVariants as prepare_firmwarev
use Rattle.x553.specs.declared.prepare.PrepareFirmware.{PrepareFirmware}
use Rattle.x553.specs.declared.sgmii.Sgmii.TheVariants as sgmiiv
use Rattle.x553.specs.declared.sgmii.Sgmii.{Sgmii}
use Rattle.x553.specs.declared.sgmii_an.SgmiiAn.TheVariants as sgmii_anv
use Rattle.x553.specs.declared.sgmii_an.SgmiiAn.{SgmiiAn}

-- 1 words
unfoldable pub words_firmware_place : FirmwarePlace → List ℕ
words_firmware_place firmware_placev.Reset = 1 ∷ []
words_firmware_place firmware_placev.Init = 2 ∷ []
words_firmware_place firmware_placev.Setup = 3 ∷ []

unfoldable pub get_firmware_place : List ℕ → FirmwarePlace
get_firmware_place s =
    pick (eqb (word_at s 0) 1) (firmware_placev.Reset) (
    pick (eqb (word_at s 0) 2) (firmware_placev.Init) (
    firmware_placev.Setup))

-- 7 words
unfoldable pub words_prepare_firmware : PrepareFirmware → List ℕ
words_prepare_firmware (prepare_firmwarev.Info activity) = 1 ∷ (words_activity activity) ++ (replicate 3 0)
words_prepare_firmware (prepare_firmwarev.Then firmware_place firmware_phy activity) = 2 ∷ firmware_phy.id ∷ firmware_phy.speeds ∷ (words_firmware_place firmware_place) ++ (words_activity activity)

unfoldable pub get_prepare_firmware : List ℕ → PrepareFirmware
get_prepare_firmware s =
    pick (eqb (word_at s 0) 1) (prepare_firmwarev.Info (get_activity (drop 1 s))) (
    prepare_firmwarev.Then (get_firmware_place (drop 3 s)) (record { id = (word_at s 1); speeds = (word_at s 2 % 65536) }) (get_activity (drop 4 s)))

-- 11 words
unfoldable pub words_sgmii : Sgmii → List ℕ
words_sgmii (sgmiiv.Ctrl kr_modify) = 1 ∷ (words_kr_modify kr_modify) ++ (replicate 8 0)
words_sgmii (sgmiiv.Force x kr_modify) = 2 ∷ x ∷ (words_kr_modify kr_modify) ++ (replicate 7 0)
words_sgmii (sgmiiv.Lane x y kr_modify) = 3 ∷ x ∷ y ∷ (words_kr_modify kr_modify) ++ (replicate 6 0)
words_sgmii (sgmiiv.Restart sgmii_setup sequence) = 4 ∷ sgmii_setup.link_ctrl ∷ sgmii_setup.sgmii ∷ sgmii_setup.flx ∷ (words_kr_place sequence.place) ++ ((words_option 1 words_word sequence.first) ++ (words_kr_modify sequence.modify))

unfoldable pub get_sgmii : List ℕ → Sgmii
get_sgmii s =
    pick (eqb (word_at s 0) 1) (sgmiiv.Ctrl (get_kr_modify (drop 1 s))) (
    pick (eqb (word_at s 0) 2) (sgmiiv.Force (word_at s 1) (get_kr_modify (drop 2 s))) (
    pick (eqb (word_at s 0) 3) (sgmiiv.Lane (word_at s 1) (word_at s 2) (get_kr_modify (drop 3 s))) (
    sgmiiv.Restart (record { link_ctrl = (word_at s 1); sgmii = (word_at s 2); flx = (word_at s 3) }) (record { place = (get_kr_place (drop 4 s)); first = (get_option get_word (drop 7 s)); modify = (get_kr_modify (drop 2 (drop 7 s))) }))))

-- 9 words
unfoldable pub words_sgmii_an : SgmiiAn → List ℕ
words_sgmii_an (sgmii_anv.Ctrl kr_modify) = 1 ∷ (words_kr_modify kr_modify) ++ (replicate 6 0)
words_sgmii_an (sgmii_anv.Force x kr_modify) = 2 ∷ x ∷ (words_kr_modify kr_modify) ++ (replicate 5 0)
words_sgmii_an sgmii_anv.Again = 3 ∷ replicate 8 0
words_sgmii_an (sgmii_anv.Lane kr_modify) = 4 ∷ (words_kr_modify kr_modify) ++ (replicate 6 0)
words_sgmii_an (sgmii_anv.Restart x sequence) = 5 ∷ x ∷ (words_kr_place sequence.place) ++ ((words_option 1 words_word sequence.first) ++ (words_kr_modify sequence.modify))

unfoldable pub get_sgmii_an : List ℕ → SgmiiAn
get_sgmii_an s =
    pick (eqb (word_at s 0) 1) (sgmii_anv.Ctrl (get_kr_modify (drop 1 s))) (
    pick (eqb (word_at s 0) 2) (sgmii_anv.Force (word_at s 1) (get_kr_modify (drop 2 s))) (
    pick (eqb (word_at s 0) 3) (sgmii_anv.Again) (
    pick (eqb (word_at s 0) 4) (sgmii_anv.Lane (get_kr_modify (drop 1 s))) (
    sgmii_anv.Restart (word_at s 1) (record { place = (get_kr_place (drop 2 s)); first = (get_option get_word (drop 5 s)); modify = (get_kr_modify (drop 2 (drop 5 s))) })))))

-- 12 words
unfoldable pub words_setup_firmware : SetupFirmware → List ℕ
words_setup_firmware (setup_firmwarev.Mmngc firmware_phy y) = 1 ∷ firmware_phy.id ∷ firmware_phy.speeds ∷ (flag_of y) ∷ replicate 8 0
words_setup_firmware (setup_firmwarev.Internal firmware_phy sgmii_an) = 2 ∷ firmware_phy.id ∷ firmware_phy.speeds ∷ words_sgmii_an sgmii_an
words_setup_firmware (setup_firmwarev.Link firmware_phy y activity) = 3 ∷ firmware_phy.id ∷ firmware_phy.speeds ∷ y ∷ (words_activity activity) ++ (replicate 5 0)
words_setup_firmware (setup_firmwarev.Info firmware_phy y activity) = 4 ∷ firmware_phy.id ∷ firmware_phy.speeds ∷ y ∷ (words_activity activity) ++ (replicate 5 0)
words_setup_firmware (setup_firmwarev.Down firmware_phy maybe_word activity) = 5 ∷ firmware_phy.id ∷ firmware_phy.speeds ∷ (words_option 1 words_word maybe_word) ++ ((words_activity activity) ++ (replicate 4 0))

unfoldable pub get_setup_firmware : List ℕ → SetupFirmware
get_setup_firmware s =
    pick (eqb (word_at s 0) 1) (setup_firmwarev.Mmngc (record { id = (word_at s 1); speeds = (word_at s 2 % 65536) }) (is (word_at s 3))) (
    pick (eqb (word_at s 0) 2) (setup_firmwarev.Internal (record { id = (word_at s 1); speeds = (word_at s 2 % 65536) }) (get_sgmii_an (drop 3 s))) (
    pick (eqb (word_at s 0) 3) (setup_firmwarev.Link (record { id = (word_at s 1); speeds = (word_at s 2 % 65536) }) (word_at s 3) (get_activity (drop 4 s))) (
    pick (eqb (word_at s 0) 4) (setup_firmwarev.Info (record { id = (word_at s 1); speeds = (word_at s 2 % 65536) }) (word_at s 3) (get_activity (drop 4 s))) (
    setup_firmwarev.Down (record { id = (word_at s 1); speeds = (word_at s 2 % 65536) }) (get_option get_word (drop 3 s)) (get_activity (drop 5 s))))))
