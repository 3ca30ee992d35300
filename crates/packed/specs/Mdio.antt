-- The words of mdio's states: a kind from 1 on, its numbers, its parts, and zeros up to the type's width
use Rattle.std.specs.Prelude.{ℕ, ◌%◌, List, [], ◌∷◌, ◌++◌, eqb, drop, replicate}
use Rattle.hardware.specs.Talk.{pick}
use Rattle.packed.specs.Tape.{word_at}
use Rattle.mdio.specs.declared.cycle.Cycle.TheVariants as cyclev
use Rattle.mdio.specs.declared.cycle.Cycle.{Cycle}
use Rattle.mdio.specs.declared.mdio.Mdio.TheVariants as mdiov
use Rattle.mdio.specs.declared.mdio.Mdio.{Mdio}
use Rattle.mdio.specs.declared.mdio.MdioPlace.TheVariants as mdio_placev
use Rattle.mdio.specs.declared.mdio.MdioPlace.{MdioPlace}
use Rattle.mdio.specs.declared.mdio.Wanted.TheVariants as wantedv
use Rattle.mdio.specs.declared.mdio.Wanted.{Wanted}

-- 3 words
unfoldable pub words_wanted : Wanted → List ℕ
words_wanted (wantedv.Read x) = 1 ∷ x ∷ 0 ∷ []
words_wanted (wantedv.Write x y) = 2 ∷ x ∷ y ∷ []

unfoldable pub get_wanted : List ℕ → Wanted
get_wanted s =
    pick (eqb (word_at s 0) 1) (wantedv.Read (word_at s 1)) (
    wantedv.Write (word_at s 1) (word_at s 2 % 65536))

-- 1 words
unfoldable pub words_mdio_place : MdioPlace → List ℕ
words_mdio_place mdio_placev.Address = 1 ∷ []
words_mdio_place mdio_placev.Operation = 2 ∷ []

unfoldable pub get_mdio_place : List ℕ → MdioPlace
get_mdio_place s =
    pick (eqb (word_at s 0) 1) (mdio_placev.Address) (
    mdio_placev.Operation)

-- 2 words
unfoldable pub words_cycle : Cycle → List ℕ
words_cycle cyclev.Starting = 1 ∷ 0 ∷ []
words_cycle (cyclev.Waiting x) = 2 ∷ x ∷ []
words_cycle (cyclev.Reading x) = 3 ∷ x ∷ []

unfoldable pub get_cycle : List ℕ → Cycle
get_cycle s =
    pick (eqb (word_at s 0) 1) (cyclev.Starting) (
    pick (eqb (word_at s 0) 2) (cyclev.Waiting (word_at s 1)) (
    cyclev.Reading (word_at s 1)))

-- 4 words
unfoldable pub words_mdio : Mdio → List ℕ
words_mdio mdiov.Value = 1 ∷ replicate 3 0
words_mdio (mdiov.Cycling mdio_place cycle) = 2 ∷ (words_mdio_place mdio_place) ++ (words_cycle cycle)
words_mdio mdiov.Data = 3 ∷ replicate 3 0

unfoldable pub get_mdio : List ℕ → Mdio
get_mdio s =
    pick (eqb (word_at s 0) 1) (mdiov.Value) (
    pick (eqb (word_at s 0) 2) (mdiov.Cycling (get_mdio_place (drop 1 s)) (get_cycle (drop 2 s))) (
    mdiov.Data))
