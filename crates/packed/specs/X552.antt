-- The words of x552's states: a kind from 1 on, its numbers, its parts, and zeros up to the type's width
use Rattle.std.specs.Prelude.{ℕ, ◌%◌, List, [], ◌∷◌, ◌++◌, eqb, drop, replicate}
use Rattle.hardware.specs.Talk.{pick}
use Rattle.packed.specs.Tape.{word_at, is, flag_of}
use Rattle.packed.specs.Kr.{get_kr_modify, get_kr_place, words_kr_modify, words_kr_place}
use Rattle.packed.specs.Packed.{get_option, get_word, words_option, words_word}
use Rattle.packed.specs.Phy.{get_advertise_place, get_an_link, get_clock, get_modify, get_probe, get_reset, words_advertise_place, words_an_link, words_clock, words_modify, words_probe, words_reset}
use Rattle.x552.specs.declared.link.CopperLink.TheVariants as copper_linkv
use Rattle.x552.specs.declared.link.CopperLink.{CopperLink}
use Rattle.x552.specs.declared.prepare.PrepareCopper.TheVariants as prepare_copperv
use Rattle.x552.specs.declared.prepare.PrepareCopper.{PrepareCopper}

-- 7 words
unfoldable pub words_prepare_copper : PrepareCopper → List ℕ
words_prepare_copper (prepare_copperv.Clock clock) = 1 ∷ (words_clock clock) ++ (replicate 5 0)
words_prepare_copper prepare_copperv.Sel = 2 ∷ replicate 6 0
words_prepare_copper (prepare_copperv.Probe x probe) = 3 ∷ x ∷ (words_probe probe) ++ (replicate 3 0)
words_prepare_copper (prepare_copperv.Scan x scan) = 4 ∷ x ∷ scan.phy ∷ (words_probe scan.probe) ++ (replicate 2 0)
words_prepare_copper (prepare_copperv.Alarms phy) = 5 ∷ phy.phy ∷ phy.id ∷ phy.sel ∷ replicate 3 0
words_prepare_copper (prepare_copperv.Unstall phy modify) = 6 ∷ phy.phy ∷ phy.id ∷ phy.sel ∷ (words_modify modify) ++ (0 ∷ [])
words_prepare_copper (prepare_copperv.Reset phy y reset) = 7 ∷ phy.phy ∷ phy.id ∷ phy.sel ∷ (flag_of y) ∷ words_reset reset

unfoldable pub get_prepare_copper : List ℕ → PrepareCopper
get_prepare_copper s =
    pick (eqb (word_at s 0) 1) (prepare_copperv.Clock (get_clock (drop 1 s))) (
    pick (eqb (word_at s 0) 2) (prepare_copperv.Sel) (
    pick (eqb (word_at s 0) 3) (prepare_copperv.Probe (word_at s 1) (get_probe (drop 2 s))) (
    pick (eqb (word_at s 0) 4) (prepare_copperv.Scan (word_at s 1) (record { phy = (word_at s 2 % 256); probe = (get_probe (drop 3 s)) })) (
    pick (eqb (word_at s 0) 5) (prepare_copperv.Alarms (record { phy = (word_at s 1 % 256); id = (word_at s 2); sel = (word_at s 3) })) (
    pick (eqb (word_at s 0) 6) (prepare_copperv.Unstall (record { phy = (word_at s 1 % 256); id = (word_at s 2); sel = (word_at s 3) }) (get_modify (drop 4 s))) (
    prepare_copperv.Reset (record { phy = (word_at s 1 % 256); id = (word_at s 2); sel = (word_at s 3) }) (is (word_at s 4)) (get_reset (drop 5 s))))))))

-- 11 words
unfoldable pub words_copper_link : CopperLink → List ℕ
words_copper_link copper_linkv.Abilities = 1 ∷ replicate 10 0
words_copper_link (copper_linkv.Ixfi speeds sequence) = 2 ∷ (flag_of speeds.g10) ∷ (flag_of speeds.g1) ∷ (flag_of speeds.m100) ∷ (words_kr_place sequence.place) ++ ((words_option 1 words_word sequence.first) ++ (words_kr_modify sequence.modify))
words_copper_link (copper_linkv.Waiting speeds y) = 3 ∷ (flag_of speeds.g10) ∷ (flag_of speeds.g1) ∷ (flag_of speeds.m100) ∷ y ∷ replicate 6 0
words_copper_link (copper_linkv.Links speeds y) = 4 ∷ (flag_of speeds.g10) ∷ (flag_of speeds.g1) ∷ (flag_of speeds.m100) ∷ y ∷ replicate 6 0
words_copper_link (copper_linkv.Linking speeds y an_link) = 5 ∷ (flag_of speeds.g10) ∷ (flag_of speeds.g1) ∷ (flag_of speeds.m100) ∷ y ∷ (words_an_link an_link) ++ (replicate 5 0)
words_copper_link (copper_linkv.Advertise speeds advertise) = 6 ∷ (flag_of speeds.g10) ∷ (flag_of speeds.g1) ∷ (flag_of speeds.m100) ∷ (words_advertise_place advertise.place) ++ ((words_modify advertise.modify) ++ (replicate 4 0))

unfoldable pub get_copper_link : List ℕ → CopperLink
get_copper_link s =
    pick (eqb (word_at s 0) 1) (copper_linkv.Abilities) (
    pick (eqb (word_at s 0) 2) (copper_linkv.Ixfi (record { g10 = (is (word_at s 1)); g1 = (is (word_at s 2)); m100 = (is (word_at s 3)) }) (record { place = (get_kr_place (drop 4 s)); first = (get_option get_word (drop 7 s)); modify = (get_kr_modify (drop 2 (drop 7 s))) })) (
    pick (eqb (word_at s 0) 3) (copper_linkv.Waiting (record { g10 = (is (word_at s 1)); g1 = (is (word_at s 2)); m100 = (is (word_at s 3)) }) (word_at s 4)) (
    pick (eqb (word_at s 0) 4) (copper_linkv.Links (record { g10 = (is (word_at s 1)); g1 = (is (word_at s 2)); m100 = (is (word_at s 3)) }) (word_at s 4)) (
    pick (eqb (word_at s 0) 5) (copper_linkv.Linking (record { g10 = (is (word_at s 1)); g1 = (is (word_at s 2)); m100 = (is (word_at s 3)) }) (word_at s 4) (get_an_link (drop 5 s))) (
    copper_linkv.Advertise (record { g10 = (is (word_at s 1)); g1 = (is (word_at s 2)); m100 = (is (word_at s 3)) }) (record { place = (get_advertise_place (drop 4 s)); modify = (get_modify (drop 5 s)) }))))))
