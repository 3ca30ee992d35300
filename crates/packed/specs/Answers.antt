-- The words of answers's states: a kind from 1 on, its numbers, its parts, and zeros up to the type's width
use Rattle.std.specs.Prelude.{ℕ, ◌%◌, List, [], ◌∷◌, ◌++◌, eqb, drop, replicate}
use Rattle.hardware.specs.Talk.{pick}
use Rattle.packed.specs.Tape.{word_at, is, flag_of}
use Rattle.answers.specs.declared.Copper.TheVariants as copperv
use Rattle.answers.specs.declared.Copper.{Copper}
use Rattle.answers.specs.declared.Internal.TheVariants as internalv
use Rattle.answers.specs.declared.Internal.{Internal}
use Rattle.answers.specs.declared.Setup552.TheVariants as setup552v
use Rattle.answers.specs.declared.Setup552.{Setup552}
use Rattle.answers.specs.declared.Setup553.TheVariants as setup553v
use Rattle.answers.specs.declared.Setup553.{Setup553}
use Rattle.answers.specs.declared.Value.TheVariants as valuev
use Rattle.answers.specs.declared.Value.{Value}
use Rattle.packed.specs.Packed.{get_byte_word, get_half, get_option, get_word, words_byte_word, words_option, words_word}
use Rattle.packed.specs.Words.{get_link, words_link}

-- 1 words
unfoldable pub words_internal : Internal → List ℕ
words_internal internalv.Ixfi = 1 ∷ []
words_internal internalv.Kr = 2 ∷ []

unfoldable pub get_internal : List ℕ → Internal
get_internal s =
    pick (eqb (word_at s 0) 1) (internalv.Ixfi) (
    internalv.Kr)

-- 11 words
unfoldable pub words_setup552 : Setup552 → List ℕ
words_setup552 setup552v.Kx4 = 1 ∷ replicate 10 0
words_setup552 setup552v.Xfi = 2 ∷ replicate 10 0
words_setup552 setup552v.FirmwarePhy = 3 ∷ replicate 10 0
words_setup552 (setup552v.Kr link_ctrl) = 4 ∷ link_ctrl ∷ replicate 9 0
words_setup552 setup552v.ManageabilityVeto = 5 ∷ replicate 10 0
words_setup552 (setup552v.Copper copper_setup) = 6 ∷ copper_setup.x557.phy ∷ copper_setup.x557.id ∷ copper_setup.x557.sel ∷ (flag_of copper_setup.x557.unstalled) ∷ (flag_of copper_setup.x557.reset) ∷ (flag_of copper_setup.advertised.g10) ∷ (flag_of copper_setup.advertised.g1) ∷ (flag_of copper_setup.advertised.m100) ∷ (flag_of copper_setup.restarted) ∷ words_internal copper_setup.x557.internal

unfoldable pub get_setup552 : List ℕ → Setup552
get_setup552 s =
    pick (eqb (word_at s 0) 1) (setup552v.Kx4) (
    pick (eqb (word_at s 0) 2) (setup552v.Xfi) (
    pick (eqb (word_at s 0) 3) (setup552v.FirmwarePhy) (
    pick (eqb (word_at s 0) 4) (setup552v.Kr (word_at s 1)) (
    pick (eqb (word_at s 0) 5) (setup552v.ManageabilityVeto) (
    setup552v.Copper (record { x557 = (record { phy = (word_at s 1 % 256); id = (word_at s 2); sel = (word_at s 3); unstalled = (is (word_at s 4)); reset = (is (word_at s 5)); internal = (get_internal (drop 10 s)) }); advertised = (record { g10 = (is (word_at s 6)); g1 = (is (word_at s 7)); m100 = (is (word_at s 8)) }); restarted = (is (word_at s 9)) }))))))

-- 12 words
unfoldable pub words_setup553 : Setup553 → List ℕ
words_setup553 (setup553v.Kr link_ctrl) = 1 ∷ link_ctrl ∷ replicate 10 0
words_setup553 (setup553v.Kr2500 sel) = 2 ∷ sel ∷ replicate 10 0
words_setup553 (setup553v.Sgmii sgmii_setup) = 3 ∷ sgmii_setup.link_ctrl ∷ sgmii_setup.sgmii ∷ sgmii_setup.flx ∷ replicate 8 0
words_setup553 setup553v.ManageabilityVeto = 4 ∷ replicate 11 0
words_setup553 (setup553v.X557 setup552) = 5 ∷ words_setup552 setup552
words_setup553 (setup553v.Firmware firmware_setup) = 6 ∷ firmware_setup.phy.id ∷ firmware_setup.phy.speeds ∷ (flag_of firmware_setup.overtemp) ∷ (words_option 1 words_word firmware_setup.internal) ++ (replicate 6 0)

unfoldable pub get_setup553 : List ℕ → Setup553
get_setup553 s =
    pick (eqb (word_at s 0) 1) (setup553v.Kr (word_at s 1)) (
    pick (eqb (word_at s 0) 2) (setup553v.Kr2500 (word_at s 1)) (
    pick (eqb (word_at s 0) 3) (setup553v.Sgmii (record { link_ctrl = (word_at s 1); sgmii = (word_at s 2); flx = (word_at s 3) })) (
    pick (eqb (word_at s 0) 4) (setup553v.ManageabilityVeto) (
    pick (eqb (word_at s 0) 5) (setup553v.X557 (get_setup552 (drop 1 s))) (
    setup553v.Firmware (record { phy = (record { id = (word_at s 1); speeds = (word_at s 2 % 65536) }); internal = (get_option get_word (drop 4 s)); overtemp = (is (word_at s 3)) }))))))

-- 2 words
unfoldable pub words_copper : Copper → List ℕ
words_copper copperv.Down = 1 ∷ 0 ∷ []
words_copper (copperv.Up megabits) = 2 ∷ megabits ∷ []
words_copper (copperv.Invalid status) = 3 ∷ status ∷ []
words_copper (copperv.Held megabits) = 4 ∷ megabits ∷ []

unfoldable pub get_copper : List ℕ → Copper
get_copper s =
    pick (eqb (word_at s 0) 1) (copperv.Down) (
    pick (eqb (word_at s 0) 2) (copperv.Up (word_at s 1)) (
    pick (eqb (word_at s 0) 3) (copperv.Invalid (word_at s 1 % 65536)) (
    copperv.Held (word_at s 1))))

-- 13 words
unfoldable pub words_value : Value → List ℕ
words_value valuev.Nothing = 1 ∷ replicate 12 0
words_value (valuev.Flag x) = 2 ∷ (flag_of x) ∷ replicate 11 0
words_value (valuev.Word x) = 3 ∷ x ∷ replicate 11 0
words_value (valuev.Link link) = 4 ∷ (words_link link) ++ (replicate 9 0)
words_value (valuev.Command status words) = 5 ∷ status ∷ words ∷ replicate 10 0
words_value (valuev.List x) = 6 ∷ x ∷ replicate 11 0
words_value (valuev.Activity x) = 7 ∷ x.w0 ∷ x.w1 ∷ x.w2 ∷ x.w3 ∷ replicate 8 0
words_value (valuev.Probe maybe_word) = 8 ∷ (words_option 1 words_word maybe_word) ++ (replicate 10 0)
words_value (valuev.Scan maybe_byte_word) = 9 ∷ (words_option 2 words_byte_word maybe_byte_word) ++ (replicate 9 0)
words_value (valuev.Abilities speeds) = 10 ∷ (flag_of speeds.g10) ∷ (flag_of speeds.g1) ∷ (flag_of speeds.m100) ∷ replicate 9 0
words_value (valuev.X552 setup552) = 11 ∷ (words_setup552 setup552) ++ (0 ∷ [])
words_value (valuev.X553 setup553) = 12 ∷ words_setup553 setup553
words_value (valuev.Poll copper forced reforced) = 13 ∷ reforced ∷ (words_copper copper) ++ ((words_option 1 words_word forced) ++ (replicate 7 0))

unfoldable pub get_value : List ℕ → Value
get_value s =
    pick (eqb (word_at s 0) 1) (valuev.Nothing) (
    pick (eqb (word_at s 0) 2) (valuev.Flag (is (word_at s 1))) (
    pick (eqb (word_at s 0) 3) (valuev.Word (word_at s 1)) (
    pick (eqb (word_at s 0) 4) (valuev.Link (get_link (drop 1 s))) (
    pick (eqb (word_at s 0) 5) (valuev.Command (word_at s 1 % 256) (word_at s 2)) (
    pick (eqb (word_at s 0) 6) (valuev.List (word_at s 1)) (
    pick (eqb (word_at s 0) 7) (valuev.Activity (record { w0 = (word_at s 1); w1 = (word_at s 2); w2 = (word_at s 3); w3 = (word_at s 4) })) (
    pick (eqb (word_at s 0) 8) (valuev.Probe (get_option get_word (drop 1 s))) (
    pick (eqb (word_at s 0) 9) (valuev.Scan (get_option get_byte_word (drop 1 s))) (
    pick (eqb (word_at s 0) 10) (valuev.Abilities (record { g10 = (is (word_at s 1)); g1 = (is (word_at s 2)); m100 = (is (word_at s 3)) })) (
    pick (eqb (word_at s 0) 11) (valuev.X552 (get_setup552 (drop 1 s))) (
    pick (eqb (word_at s 0) 12) (valuev.X553 (get_setup553 (drop 1 s))) (
    valuev.Poll (get_copper (drop 2 s)) (get_option get_half (drop 4 s)) (word_at s 1)))))))))))))
