-- The words of bringup's states: a kind from 1 on, its numbers, its parts, and zeros up to the type's width
use Rattle.std.specs.Prelude.{ℕ, ◌%◌, List, [], ◌∷◌, ◌++◌, eqb, drop, replicate}
use Rattle.hardware.specs.Talk.{pick}
use Rattle.packed.specs.Tape.{word_at, is, flag_of}
use Rattle.bringup.specs.declared.Bringup.TheVariants as bringupv
use Rattle.bringup.specs.declared.Bringup.{Bringup}
use Rattle.bringup.specs.declared.Lane.TheVariants as lanev
use Rattle.bringup.specs.declared.Lane.{Lane}
use Rattle.packed.specs.Answers.{get_internal, words_internal}
use Rattle.packed.specs.Kr.{get_kr_modify, get_kr_place, words_kr_modify, words_kr_place}
use Rattle.packed.specs.Packed.{get_option, get_word, words_option, words_word}
use Rattle.packed.specs.Phy.{get_clock, words_clock}
use Rattle.packed.specs.X552.{get_copper_link, get_prepare_copper, words_copper_link, words_prepare_copper}
use Rattle.packed.specs.X553.{get_prepare_firmware, get_setup_firmware, get_sgmii, words_prepare_firmware, words_setup_firmware, words_sgmii}

-- 2 words
unfoldable pub words_lane : Lane → List ℕ
words_lane (lanev.Kr x) = 1 ∷ (flag_of x) ∷ []
words_lane lanev.Sgmii = 2 ∷ 0 ∷ []

unfoldable pub get_lane : List ℕ → Lane
get_lane s =
    pick (eqb (word_at s 0) 1) (lanev.Kr (is (word_at s 1))) (
    lanev.Sgmii)

-- 18 words
unfoldable pub words_bringup : Bringup → List ℕ
words_bringup (bringupv.Clock x clock) = 1 ∷ (flag_of x) ∷ (words_clock clock) ++ (replicate 15 0)
words_bringup (bringupv.Copper prepare_copper) = 2 ∷ (words_prepare_copper prepare_copper) ++ (replicate 10 0)
words_bringup (bringupv.Firmware prepare_firmware) = 3 ∷ (words_prepare_firmware prepare_firmware) ++ (replicate 10 0)
words_bringup (bringupv.Sel x) = 4 ∷ (flag_of x) ∷ replicate 16 0
words_bringup (bringupv.Mmngc lane) = 5 ∷ (words_lane lane) ++ (replicate 15 0)
words_bringup (bringupv.Kr sequence) = 6 ∷ (words_kr_place sequence.place) ++ ((words_option 1 words_word sequence.first) ++ ((words_kr_modify sequence.modify) ++ (replicate 10 0)))
words_bringup (bringupv.Sgmii sgmii) = 7 ∷ (words_sgmii sgmii) ++ (replicate 6 0)
words_bringup (bringupv.Link x557 copper_link) = 8 ∷ x557.phy ∷ x557.id ∷ x557.sel ∷ (flag_of x557.unstalled) ∷ (flag_of x557.reset) ∷ (words_internal x557.internal) ++ (words_copper_link copper_link)
words_bringup (bringupv.SetupFirmware setup_firmware) = 9 ∷ (words_setup_firmware setup_firmware) ++ (replicate 5 0)

unfoldable pub get_bringup : List ℕ → Bringup
get_bringup s =
    pick (eqb (word_at s 0) 1) (bringupv.Clock (is (word_at s 1)) (get_clock (drop 2 s))) (
    pick (eqb (word_at s 0) 2) (bringupv.Copper (get_prepare_copper (drop 1 s))) (
    pick (eqb (word_at s 0) 3) (bringupv.Firmware (get_prepare_firmware (drop 1 s))) (
    pick (eqb (word_at s 0) 4) (bringupv.Sel (is (word_at s 1))) (
    pick (eqb (word_at s 0) 5) (bringupv.Mmngc (get_lane (drop 1 s))) (
    pick (eqb (word_at s 0) 6) (bringupv.Kr (record { place = (get_kr_place (drop 1 s)); first = (get_option get_word (drop 4 s)); modify = (get_kr_modify (drop 2 (drop 4 s))) })) (
    pick (eqb (word_at s 0) 7) (bringupv.Sgmii (get_sgmii (drop 1 s))) (
    pick (eqb (word_at s 0) 8) (bringupv.Link (record { phy = (word_at s 1 % 256); id = (word_at s 2); sel = (word_at s 3); unstalled = (is (word_at s 4)); reset = (is (word_at s 5)); internal = (get_internal (drop 6 s)) }) (get_copper_link (drop 7 s))) (
    bringupv.SetupFirmware (get_setup_firmware (drop 1 s))))))))))
