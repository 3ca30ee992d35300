-- What goes on: events, and touches of DATA
use Rattle.hardware.specs.Talk.{Res, Reply}
use Rattle.std.specs.Prelude.{ℕ, Bool, true, false, Err, Ok, Option, None, Some}
use Rattle.hardware.specs.declared.Action.{Action}
use Rattle.hardware.specs.declared.Action.TheVariants as action
use Rattle.hardware.specs.declared.Family.{Family}
use Rattle.mixing.specs.Model.{Side, lan0, lan1, Kind, is_swsm, is_sync, is_ctrl, is_data, is_other, kind, World, Step}

-- a port begins an operation; a port's next action is done, or after the end it is asked once more; the firmware does a step
pub data Event (Op : Type 0) : Type 0 where
  begin : Side → Op → Event Op
  act : Side → World → Event Op
  firm : Step → Event Op

-- port p's is d now
abbrev pub change : {P : Type 0} → Side → P → (Side → P) → Side → P
change lan0 d ps lan0 = d
change lan0 d ps lan1 = ps lan1
change lan1 d ps lan0 = ps lan0
change lan1 d ps lan1 = d

abbrev pub is_ok : {A : Type 0} → Res A → Bool
is_ok (Ok a) = true
is_ok (Err e) = false

-- whether all went well, with this one
abbrev pub ends_well : Bool → Bool → Bool
ends_well true well = well
ends_well false well = false

-- a read of DATA with the word that it got, or a write with the word that it wrote; and the address that the port itself
-- last wrote to CTRL, whatever the chip had selected
pub data Touch : Type 0 where
  got wrote : (address word : ℕ) → Touch

abbrev pub word : Reply → ℕ
word (Ok v) = v
word (Err v) = v.0

abbrev pub if_data : Kind → Touch → Option Touch
if_data is_swsm t = None
if_data is_sync t = None
if_data is_ctrl t = None
if_data is_data t = Some t
if_data is_other t = None

-- what an action does at DATA; `own`: what its port last wrote to CTRL
abbrev pub touch : Family → (own : ℕ) → Action → Reply → Option Touch
touch f own (action.Read r) a = if_data (kind f r) (got own (word a))
touch f own (action.Write r v) a = if_data (kind f r) (wrote own v)
touch f own (action.Wait n) a = None

abbrev pub if_ctrl : Kind → (new old : ℕ) → ℕ
if_ctrl is_swsm new old = old
if_ctrl is_sync new old = old
if_ctrl is_ctrl new old = new
if_ctrl is_data new old = old
if_ctrl is_other new old = old

-- and what it last wrote to CTRL, after an action
abbrev pub own_then : Family → Action → ℕ → ℕ
own_then f (action.Read r) own = own
own_then f (action.Write r v) own = if_ctrl (kind f r) v own
own_then f (action.Wait n) own = own
