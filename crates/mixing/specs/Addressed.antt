-- What the operations write to CTRL: addresses of at most 0xffff, and so no bit of busy (31) or of the response (18, 19)
use Rattle.hardware.specs.Talk.{Talk, pick}
use Rattle.std.specs.Prelude.{ℕ, ◌≡◌, ◌+◌, ◌≤◌, Bool, List}
use Rattle.hardware.specs.declared.Action.{Action}
use Rattle.hardware.specs.declared.Action.TheVariants as action
use Rattle.hardware.specs.declared.Family.{Family}
use Rattle.hardware.specs.declared.Port.{Port}
use Rattle.operations.specs.declared.Operation.{Operation}
use Rattle.reference.specs.Out.{Out}
use Rattle.calls.specs.Conversation.{begun}
use Rattle.mixing.specs.Conversations.{run_real, fresh}
use Rattle.mixing.specs.Events.{Event}
use Rattle.mixing.specs.Model.{Side, ctrl_word, free}
use Rattle.mixing.specs.Only.{Only}
use Rattle.mixing.specs.Operations.{Asked}

-- a write to CTRL is an address of at most 0xffff
abbrev pub InRange : Action → Type 0
InRange (action.Read r) = Unit {0}
InRange (action.Write r v) = r ≡ 0x11144 → v ≤ 0xffff
InRange (action.Wait n) = Unit {0}

-- every write to CTRL, whatever is replied
abbrev pub Addressed : {A : Type 0} → Talk A → Type 0
Addressed t = Only InRange t

-- every conversation that `begin` makes, for all ports, operations, arguments and lent words
abbrev pub AllAddressed : Type 0
AllAddressed = (port : Port) (what : Operation) (ws : List ℕ) → Addressed (begun port what ws).talk

-- after every list of events CTRL selects an address of at most 0xffff, where it does at first
abbrev pub StaysInRange : Family → Type 0
StaysInRange f = (before : Side → Out) (bits address : ℕ) (regs : ℕ → ℕ) (es : List (Event Asked)) → address ≤ 0xffff
    → (run_real f es (fresh f before (free bits address regs))).chip.selected ≤ 0xffff

-- then CTRL is read as that address, with busy above it: no bit of the address is left out
abbrev pub ShowsAll : Type 0
ShowsAll = (address : ℕ) (busy : Bool) → address ≤ 0xffff → ctrl_word address busy ≡ pick busy (0x80000000 + address) address
