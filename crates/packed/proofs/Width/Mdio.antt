-- How many words each state of mdio is
use Prim.Native.Nat.{ℕ}
use mathlib.Core.Path.{◌≡◌, refl}
use mathlib.Core.List.{List, ◌++◌}
use lib.ListN.{length, drop, length-append}
use lib.Seq.{drop_at}
use Rattle.mdio.specs.declared.cycle.Cycle.TheVariants as cyclev
use Rattle.mdio.specs.declared.cycle.Cycle.{Cycle}
use Rattle.mdio.specs.declared.mdio.Mdio.TheVariants as mdiov
use Rattle.mdio.specs.declared.mdio.Mdio.{Mdio}
use Rattle.mdio.specs.declared.mdio.MdioPlace.TheVariants as mdio_placev
use Rattle.mdio.specs.declared.mdio.MdioPlace.{MdioPlace}
use Rattle.mdio.specs.declared.mdio.Wanted.TheVariants as wantedv
use Rattle.mdio.specs.declared.mdio.Wanted.{Wanted}
use Rattle.packed.specs.Mdio.{words_wanted, words_mdio_place, words_cycle, words_mdio}

pub wanted_length : (s : Wanted) → length (words_wanted s) ≡ 3
unfolding words_wanted
wanted_length (wantedv.Read x0) = refl
wanted_length (wantedv.Write x0 x1) = refl

pub drop_wanted : (s : Wanted) (rest : List ℕ) → drop 3 (words_wanted s ++ rest) ≡ rest
drop_wanted s rest = drop_at (words_wanted s) rest 3 (wanted_length s)

pub mdio_place_length : (s : MdioPlace) → length (words_mdio_place s) ≡ 1
unfolding words_mdio_place
mdio_place_length mdio_placev.Address = refl
mdio_place_length mdio_placev.Operation = refl

pub drop_mdio_place : (s : MdioPlace) (rest : List ℕ) → drop 1 (words_mdio_place s ++ rest) ≡ rest
drop_mdio_place s rest = drop_at (words_mdio_place s) rest 1 (mdio_place_length s)

pub cycle_length : (s : Cycle) → length (words_cycle s) ≡ 2
unfolding words_cycle
cycle_length cyclev.Starting = refl
cycle_length (cyclev.Waiting x0) = refl
cycle_length (cyclev.Reading x0) = refl

pub mdio_length : (s : Mdio) → length (words_mdio s) ≡ 4
unfolding words_mdio
mdio_length mdiov.Value = refl
mdio_length (mdiov.Cycling x0 x1) = simp (length-append, mdio_place_length, cycle_length)
mdio_length mdiov.Data = refl
