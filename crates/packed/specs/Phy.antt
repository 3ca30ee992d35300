-- The words of phy's states: a kind from 1 on, its numbers, its parts, and zeros up to the type's width
use Rattle.std.specs.Prelude.{ℕ, ◌%◌, List, [], ◌∷◌, eqb}
use Rattle.hardware.specs.Talk.{pick}
use Rattle.packed.specs.Tape.{word_at}
use Rattle.phy.specs.declared.advertise.AdvertisePlace.TheVariants as advertise_placev
use Rattle.phy.specs.declared.advertise.AdvertisePlace.{AdvertisePlace}
use Rattle.phy.specs.declared.an_link.AnLink.TheVariants as an_linkv
use Rattle.phy.specs.declared.an_link.AnLink.{AnLink}
use Rattle.phy.specs.declared.clock.Clock.TheVariants as clockv
use Rattle.phy.specs.declared.clock.Clock.{Clock}
use Rattle.phy.specs.declared.modify.Modify.TheVariants as modifyv
use Rattle.phy.specs.declared.modify.Modify.{Modify}
use Rattle.phy.specs.declared.probe.Probe.TheVariants as probev
use Rattle.phy.specs.declared.probe.Probe.{Probe}
use Rattle.phy.specs.declared.reset.Reset.TheVariants as resetv
use Rattle.phy.specs.declared.reset.Reset.{Reset}

-- 2 words
unfoldable pub words_modify : Modify → List ℕ
words_modify modifyv.Reading = 1 ∷ 0 ∷ []
words_modify (modifyv.Writing x) = 2 ∷ x ∷ []

unfoldable pub get_modify : List ℕ → Modify
get_modify s =
    pick (eqb (word_at s 0) 1) (modifyv.Reading) (
    modifyv.Writing (word_at s 1 % 65536))

-- 2 words
unfoldable pub words_probe : Probe → List ℕ
words_probe probev.High = 1 ∷ 0 ∷ []
words_probe (probev.Low x) = 2 ∷ x ∷ []

unfoldable pub get_probe : List ℕ → Probe
get_probe s =
    pick (eqb (word_at s 0) 1) (probev.High) (
    probev.Low (word_at s 1))

-- 2 words
unfoldable pub words_reset : Reset → List ℕ
words_reset resetv.Starting = 1 ∷ 0 ∷ []
words_reset (resetv.Waiting x) = 2 ∷ x ∷ []
words_reset (resetv.Polling x) = 3 ∷ x ∷ []
words_reset resetv.Settling = 4 ∷ 0 ∷ []
words_reset resetv.Checking = 5 ∷ 0 ∷ []

unfoldable pub get_reset : List ℕ → Reset
get_reset s =
    pick (eqb (word_at s 0) 1) (resetv.Starting) (
    pick (eqb (word_at s 0) 2) (resetv.Waiting (word_at s 1)) (
    pick (eqb (word_at s 0) 3) (resetv.Polling (word_at s 1)) (
    pick (eqb (word_at s 0) 4) (resetv.Settling) (
    resetv.Checking))))

-- 1 words
unfoldable pub words_an_link : AnLink → List ℕ
words_an_link an_linkv.First = 1 ∷ []
words_an_link an_linkv.Second = 2 ∷ []

unfoldable pub get_an_link : List ℕ → AnLink
get_an_link s =
    pick (eqb (word_at s 0) 1) (an_linkv.First) (
    an_linkv.Second)

-- 1 words
unfoldable pub words_advertise_place : AdvertisePlace → List ℕ
words_advertise_place advertise_placev.Ten = 1 ∷ []
words_advertise_place advertise_placev.One = 2 ∷ []
words_advertise_place advertise_placev.Hundred = 3 ∷ []
words_advertise_place advertise_placev.Restart = 4 ∷ []

unfoldable pub get_advertise_place : List ℕ → AdvertisePlace
get_advertise_place s =
    pick (eqb (word_at s 0) 1) (advertise_placev.Ten) (
    pick (eqb (word_at s 0) 2) (advertise_placev.One) (
    pick (eqb (word_at s 0) 3) (advertise_placev.Hundred) (
    advertise_placev.Restart)))

-- 1 words
unfoldable pub words_clock : Clock → List ℕ
words_clock clockv.Reading = 1 ∷ []
words_clock clockv.Writing = 2 ∷ []

unfoldable pub get_clock : List ℕ → Clock
get_clock s =
    pick (eqb (word_at s 0) 1) (clockv.Reading) (
    clockv.Writing)
