-- No error of acquire_bits or release_bits inside an operation is passed over: an answer that is no error means that the
-- operation ended well in document 01's sense
use Rattle.hardware.specs.Talk.{Talk, end, ask, and_then, Res, Call, Reply}
use Rattle.std.specs.Prelude.{ℕ, ◌≡◌, Bool, true, false, List, Err, Ok}
use Rattle.hardware.specs.declared.Action.{Action}
use Rattle.hardware.specs.declared.Error.{Error}
use Rattle.hardware.specs.declared.Family.{Family}
use Rattle.hardware.specs.declared.Port.{Port}
use Rattle.reference.specs.Out.{Out}
use Rattle.operations.specs.Operations.{operation}
use Rattle.operations.specs.declared.Operation.{Operation}
use Rattle.reference.specs.Sync.{acquire_bits, release_bits}
use Rattle.mixing.specs.Mixing.{takes}
use Rattle.mixing.specs.Model.{Kind, is_swsm, is_sync, is_ctrl, is_data, is_other, On}
use Rattle.mixing.specs.Events.{is_ok}

-- a call of one of the two
pub data LockCall : Type 0 where
  acquires releases : Port → (mask : ℕ) → LockCall

abbrev pub lock_talk : LockCall → Call (Unit {0})
lock_talk (acquires port mask) = acquire_bits port mask
lock_talk (releases port mask) = release_bits port mask

-- neither SWSM nor SW_FW_SYNC
abbrev pub NotLock : Kind → Type 0
NotLock is_swsm = ⊥
NotLock is_sync = ⊥
NotLock is_ctrl = Unit {0}
NotLock is_data = Unit {0}
NotLock is_other = Unit {0}

-- whatever is replied, it ends with an error
pub data Fails {A : Type 0} (well : A → Bool) : Talk A → Type 0 where
  fails_end : {a : A} → well a ≡ false → Fails well (end a)
  fails_ask : {a : Action} {c : Reply → Talk A} → ((r : Reply) → Fails well (c r)) → Fails well (ask a c)

-- It touches the two registers in such calls alone, and where one of them ends with an error, it ends with an error
pub data Heeds {A : Type 0} (f : Family) (well : A → Bool) : Talk A → Type 0 where
  heeds_end : {a : A} → Heeds f well (end a)
  heeds_ask : {a : Action} {c : Reply → Talk A} → On NotLock f a → ((r : Reply) → Heeds f well (c r)) → Heeds f well (ask a c)
  heeds_call : {t : Talk A} (x : LockCall) (k : Res (Unit {0}) → Talk A) → t ≡ and_then (lock_talk x) k
      → Heeds f well (k (Ok tt)) → ((e : Error) → Fails well (k (Err e))) → Heeds f well t

abbrev pub ended_well : Out → Bool
ended_well o = is_ok o.0

abbrev pub Heeded : Type 0
Heeded = (port : Port) (what : Operation) (ws : List ℕ) → takes port what ws ≡ true
    → Heeds port.family ended_well (operation port what ws)
