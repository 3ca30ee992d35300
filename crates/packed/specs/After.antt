-- The words of after's states: a kind from 1 on, its numbers, its parts, and zeros up to the type's width
use Rattle.std.specs.Prelude.{ℕ, ◌%◌, List, ◌∷◌, ◌++◌, eqb, drop, replicate}
use Rattle.hardware.specs.Talk.{pick}
use Rattle.packed.specs.Tape.{word_at, is, flag_of}
use Rattle.after.specs.declared.After.TheVariants as afterv
use Rattle.after.specs.declared.After.{After}
use Rattle.after.specs.declared.kr_registers.Kr.TheVariants as krv
use Rattle.after.specs.declared.kr_registers.Kr.{Kr}
use Rattle.after.specs.declared.registers.Mdio.TheVariants as mdiov
use Rattle.after.specs.declared.registers.Mdio.{Mdio}
use Rattle.packed.specs.Activity.{get_activity, words_activity}
use Rattle.packed.specs.Answers.{get_internal, words_internal}
use Rattle.packed.specs.Bringup.{get_bringup, words_bringup}
use Rattle.packed.specs.Kr.{get_kr_modify, get_kr_place, words_kr_modify, words_kr_place}
use Rattle.packed.specs.Packed.{get_flag, get_half, get_option, get_word, words_flag, words_option, words_word}
use Rattle.packed.specs.Phy.{get_advertise_place, get_an_link, get_clock, get_modify, get_probe, get_reset, words_advertise_place, words_an_link, words_clock, words_modify, words_probe, words_reset}
use Rattle.packed.specs.Watch.{get_poll, words_poll}

-- 11 words
unfoldable pub words_mdio : Mdio → List ℕ
words_mdio (mdiov.Modify register modify) = 1 ∷ register.phy ∷ register.device ∷ register.register ∷ register.keep ∷ register.set ∷ (words_modify modify) ++ (replicate 3 0)
words_mdio (mdiov.Probe x probe) = 2 ∷ x ∷ (words_probe probe) ++ (replicate 7 0)
words_mdio (mdiov.Scan scan) = 3 ∷ scan.phy ∷ (words_probe scan.probe) ++ (replicate 7 0)
words_mdio (mdiov.Reset x y reset) = 4 ∷ x ∷ (flag_of y) ∷ (words_reset reset) ++ (replicate 6 0)
words_mdio (mdiov.AnLink x an_link) = 5 ∷ x ∷ (words_an_link an_link) ++ (replicate 8 0)
words_mdio (mdiov.Advertise advertised advertise) = 6 ∷ advertised.phy ∷ (flag_of advertised.speeds.g10) ∷ (flag_of advertised.speeds.g1) ∷ (flag_of advertised.speeds.m100) ∷ (flag_of advertised.veto) ∷ (words_option 1 words_flag advertised.nbase) ++ ((words_advertise_place advertise.place) ++ (words_modify advertise.modify))
words_mdio (mdiov.Clock x clock) = 7 ∷ (flag_of x) ∷ (words_clock clock) ++ (replicate 8 0)

unfoldable pub get_mdio : List ℕ → Mdio
get_mdio s =
    pick (eqb (word_at s 0) 1) (mdiov.Modify (record { phy = (word_at s 1); device = (word_at s 2); register = (word_at s 3 % 65536); keep = (word_at s 4 % 65536); set = (word_at s 5 % 65536) }) (get_modify (drop 6 s))) (
    pick (eqb (word_at s 0) 2) (mdiov.Probe (word_at s 1) (get_probe (drop 2 s))) (
    pick (eqb (word_at s 0) 3) (mdiov.Scan (record { phy = (word_at s 1 % 256); probe = (get_probe (drop 2 s)) })) (
    pick (eqb (word_at s 0) 4) (mdiov.Reset (word_at s 1) (is (word_at s 2)) (get_reset (drop 3 s))) (
    pick (eqb (word_at s 0) 5) (mdiov.AnLink (word_at s 1) (get_an_link (drop 2 s))) (
    pick (eqb (word_at s 0) 6) (mdiov.Advertise (record { phy = (word_at s 1); speeds = (record { g10 = (is (word_at s 2)); g1 = (is (word_at s 3)); m100 = (is (word_at s 4)) }); nbase = (get_option get_flag (drop 6 s)); veto = (is (word_at s 5)) }) (record { place = (get_advertise_place (drop 8 s)); modify = (get_modify (drop 1 (drop 8 s))) })) (
    mdiov.Clock (is (word_at s 1)) (get_clock (drop 2 s))))))))

-- 8 words
unfoldable pub words_kr : Kr → List ℕ
words_kr (krv.Modify change kr_modify) = 1 ∷ change.port0 ∷ change.keep ∷ change.set ∷ (words_kr_modify kr_modify) ++ (replicate 2 0)
words_kr (krv.Sequence sequence) = 2 ∷ (words_kr_place sequence.place) ++ ((words_option 1 words_word sequence.first) ++ (words_kr_modify sequence.modify))

unfoldable pub get_kr : List ℕ → Kr
get_kr s =
    pick (eqb (word_at s 0) 1) (krv.Modify (record { port0 = (word_at s 1); keep = (word_at s 2); set = (word_at s 3) }) (get_kr_modify (drop 4 s))) (
    krv.Sequence (record { place = (get_kr_place (drop 1 s)); first = (get_option get_word (drop 4 s)); modify = (get_kr_modify (drop 2 (drop 4 s))) }))

-- 20 words
unfoldable pub words_after : After → List ℕ
words_after afterv.Nothing = 1 ∷ replicate 19 0
words_after afterv.Word = 2 ∷ replicate 19 0
words_after afterv.Veto = 3 ∷ replicate 19 0
words_after afterv.Link = 4 ∷ replicate 19 0
words_after afterv.Abilities = 5 ∷ replicate 19 0
words_after (afterv.Command x) = 6 ∷ x ∷ replicate 18 0
words_after (afterv.List x) = 7 ∷ x ∷ replicate 18 0
words_after (afterv.Token x) = 8 ∷ (flag_of x) ∷ replicate 18 0
words_after (afterv.Activity asked activity) = 9 ∷ asked.activity ∷ asked.«data».w0 ∷ asked.«data».w1 ∷ asked.«data».w2 ∷ asked.«data».w3 ∷ (words_activity activity) ++ (replicate 11 0)
words_after (afterv.Mdio mdio) = 10 ∷ (words_mdio mdio) ++ (replicate 8 0)
words_after (afterv.Kr kr) = 11 ∷ (words_kr kr) ++ (replicate 11 0)
words_after (afterv.Bringup x bringup) = 12 ∷ (flag_of x) ∷ words_bringup bringup
words_after (afterv.Poll windowed poll) = 13 ∷ windowed.watch.phy ∷ windowed.watch.reforced ∷ (flag_of windowed.inside) ∷ (words_internal windowed.watch.internal) ++ ((words_option 1 words_word windowed.watch.forced) ++ ((words_poll poll) ++ (replicate 3 0)))

unfoldable pub get_after : List ℕ → After
get_after s =
    pick (eqb (word_at s 0) 1) (afterv.Nothing) (
    pick (eqb (word_at s 0) 2) (afterv.Word) (
    pick (eqb (word_at s 0) 3) (afterv.Veto) (
    pick (eqb (word_at s 0) 4) (afterv.Link) (
    pick (eqb (word_at s 0) 5) (afterv.Abilities) (
    pick (eqb (word_at s 0) 6) (afterv.Command (word_at s 1)) (
    pick (eqb (word_at s 0) 7) (afterv.List (word_at s 1)) (
    pick (eqb (word_at s 0) 8) (afterv.Token (is (word_at s 1))) (
    pick (eqb (word_at s 0) 9) (afterv.Activity (record { activity = (word_at s 1 % 65536); «data» = (record { w0 = (word_at s 2); w1 = (word_at s 3); w2 = (word_at s 4); w3 = (word_at s 5) }) }) (get_activity (drop 6 s))) (
    pick (eqb (word_at s 0) 10) (afterv.Mdio (get_mdio (drop 1 s))) (
    pick (eqb (word_at s 0) 11) (afterv.Kr (get_kr (drop 1 s))) (
    pick (eqb (word_at s 0) 12) (afterv.Bringup (is (word_at s 1)) (get_bringup (drop 2 s))) (
    afterv.Poll (record { watch = (record { phy = (word_at s 1); internal = (get_internal (drop 4 s)); forced = (get_option get_half (drop 5 s)); reforced = (word_at s 2) }); inside = (is (word_at s 3)) }) (get_poll (drop 2 (drop 5 s)))))))))))))))
