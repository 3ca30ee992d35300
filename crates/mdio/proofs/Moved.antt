-- A cycle that goes on inside its access
use Rattle.hardware.specs.declared.Step.{Step}
use Rattle.hardware.specs.declared.Step.TheVariants as step
use Rattle.hardware.specs.Talk.{or_stop, ◌>>◌, Res}
use Prim.Native.Nat.{ℕ}
use mathlib.Core.List.{List}
use Rattle.hardware.specs.declared.Action.{Action}
use Rattle.drive.specs.Moves.{Tape, Moves}
use Rattle.drive.proofs.Laws.{inside}
use Rattle.reference.specs.Mdio.{cycle}
use Rattle.mdio.specs.Cycle.{told_cycle}
use Rattle.mdio.specs.Mdio.{told_mdio, mdio_cycled, mdio_rest, command_of}
use Rattle.mdio.specs.declared.cycle.Cycle.{Cycle}
use Rattle.mdio.specs.declared.mdio.Mdio.TheVariants.{Cycling}
use Rattle.mdio.specs.declared.mdio.MdioPlace.{MdioPlace}
use Rattle.mdio.specs.declared.mdio.MdioPlace.TheVariants as place
use Rattle.mdio.specs.declared.mdio.Wanted.{Wanted}

pub cycle_moves : {rs : List ℕ} {t u : Tape} {a : Action} (w : Wanted) (p : MdioPlace) (s : Cycle) (next : Step Action Cycle (Res (Unit {0})))
    → Moves rs (told_cycle (step.Ask a s)) t (told_cycle next) u
    → Moves rs (told_mdio w (step.Ask a (Cycling p s))) t (mdio_cycled w p (told_cycle next)) u
cycle_moves w place.Address s next q = inside (or_stop (λ _. cycle (command_of w) >> mdio_rest w)) q
cycle_moves w place.Operation s next q = inside (or_stop (λ _. mdio_rest w)) q
