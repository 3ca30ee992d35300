-- A poll inside a window and the KR registers
use Rattle.std.specs.Prelude.{◌≡◌, ℕ, true, List, Option}
use Rattle.hardware.specs.declared.Port.{Port}
use Rattle.arguments.specs.declared.Watch.{Watch}
use Rattle.operations.specs.Windows.{inside}
use Rattle.operations.specs.declared.Operation.TheVariants.{Poll}
use Rattle.calls.specs.Conversation.{begun}
use Rattle.mixing.specs.Only.{Only}
use Rattle.mixing.specs.System.{Outside}

-- inside a window a poll reads and writes neither CTRL nor DATA, whatever is replied
abbrev pub NoKrInside : Type 0
NoKrInside = (port : Port) (w : Watch) (minute : Option ℕ) (ws : List ℕ) → inside minute ws ≡ true
    → Only (Outside port.family) (begun port (Poll w minute) ws).talk
