-- How many words each state of phy is
use Prim.Native.Nat.{ℕ}
use mathlib.Core.Path.{◌≡◌, refl}
use mathlib.Core.List.{List, ◌++◌}
use lib.ListN.{length, drop}
use lib.Seq.{drop_at}
use Rattle.phy.specs.declared.advertise.AdvertisePlace.TheVariants as advertise_placev
use Rattle.phy.specs.declared.advertise.AdvertisePlace.{AdvertisePlace}
use Rattle.phy.specs.declared.an_link.AnLink.TheVariants as an_linkv
use Rattle.phy.specs.declared.an_link.AnLink.{AnLink}
use Rattle.phy.specs.declared.clock.Clock.TheVariants as clockv
use Rattle.phy.specs.declared.clock.Clock.{Clock}
use Rattle.phy.specs.declared.modify.Modify.TheVariants as modifyv
use Rattle.phy.specs.declared.modify.Modify.{Modify}
use Rattle.phy.specs.declared.probe.Probe.TheVariants as probev
use Rattle.phy.specs.declared.probe.Probe.{Probe}
use Rattle.phy.specs.declared.reset.Reset.TheVariants as resetv
use Rattle.phy.specs.declared.reset.Reset.{Reset}
use Rattle.packed.specs.Phy.{words_modify, words_probe, words_reset, words_an_link, words_advertise_place, words_clock}

pub modify_length : (s : Modify) → length (words_modify s) ≡ 2
unfolding words_modify
modify_length modifyv.Reading = refl
modify_length (modifyv.Writing x0) = refl

pub probe_length : (s : Probe) → length (words_probe s) ≡ 2
unfolding words_probe
probe_length probev.High = refl
probe_length (probev.Low x0) = refl

pub reset_length : (s : Reset) → length (words_reset s) ≡ 2
unfolding words_reset
reset_length resetv.Starting = refl
reset_length (resetv.Waiting x0) = refl
reset_length (resetv.Polling x0) = refl
reset_length resetv.Settling = refl
reset_length resetv.Checking = refl

pub an_link_length : (s : AnLink) → length (words_an_link s) ≡ 1
unfolding words_an_link
an_link_length an_linkv.First = refl
an_link_length an_linkv.Second = refl

pub advertise_place_length : (s : AdvertisePlace) → length (words_advertise_place s) ≡ 1
unfolding words_advertise_place
advertise_place_length advertise_placev.Ten = refl
advertise_place_length advertise_placev.One = refl
advertise_place_length advertise_placev.Hundred = refl
advertise_place_length advertise_placev.Restart = refl

pub drop_advertise_place : (s : AdvertisePlace) (rest : List ℕ) → drop 1 (words_advertise_place s ++ rest) ≡ rest
drop_advertise_place s rest = drop_at (words_advertise_place s) rest 1 (advertise_place_length s)

pub clock_length : (s : Clock) → length (words_clock s) ≡ 1
unfolding words_clock
clock_length clockv.Reading = refl
clock_length clockv.Writing = refl
