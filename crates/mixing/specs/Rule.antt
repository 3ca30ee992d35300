-- What a port's write stores: the model's rule, bit by bit; and that where an operation writes, it is the whole word
use Rattle.hardware.specs.Talk.{Talk, end, ask}
use Rattle.std.specs.Prelude.{ℕ, ◌≡◌, true, false, List, [], ◌∷◌}
use Rattle.hardware.specs.Bits.{bit}
use Rattle.hardware.specs.declared.Action.{Action}
use Rattle.hardware.specs.declared.Action.TheVariants as action
use Rattle.hardware.specs.declared.Family.{Family}
use Rattle.reference.specs.Out.{Out}
use Rattle.mixing.specs.Conversations.{Real, step_real, run_real, fresh}
use Rattle.mixing.specs.Events.{Event, begin, act, firm}
use Rattle.mixing.specs.Mixing.{Parts, ops_of, starting}
use Rattle.mixing.specs.Model.{
  Side,
  nobody,
  of_port,
  fw_bits,
  stored_sync,
  stored_swsm,
  Word,
  written,
  Chip,
  with_swsm,
  with_sync,
  Kind,
  is_swsm,
  is_sync,
  is_ctrl,
  is_data,
  is_other,
  kind,
  World,
  do_write,
  do_action,
  free,
}
use Rattle.mixing.specs.Operations.{Asked}
use Rattle.mixing.specs.System.{State, idle, out, inside, run}

-- ---- the rule

-- a 1 written to bit b leaves it as it stands, a 0 clears it
pub record OneLeaves (b old new after : ℕ) : Type 0 where
  pub one : bit b new ≡ true → bit b after ≡ bit b old
  pub zero : bit b new ≡ false → bit b after ≡ false

-- whose a bit is after port p's write: nobody's where it is clear, whosever it was where it was set before, else the port's
pub record Owned (p : Side) (old new : Word) : Type 0 where
  pub clear : (i : ℕ) → bit i new.value ≡ false → new.owner i ≡ nobody
  pub stays : (i : ℕ) → bit i new.value ≡ true → bit i old.value ≡ true → new.owner i ≡ old.owner i
  pub raised : (i : ℕ) → bit i new.value ≡ true → bit i old.value ≡ false → new.owner i ≡ of_port p

-- SW_FW_SYNC before and after port p's write of v
pub record SyncWritten (p : Side) (v : ℕ) (old new : Word) : Type 0 where
  pub firmware : (i : ℕ) → bit i fw_bits ≡ true → bit i new.value ≡ bit i old.value
  pub lock : OneLeaves 31 old.value v new.value
  pub rest : (i : ℕ) → bit i fw_bits ≡ false → (i ≡ 31 → ⊥) → bit i new.value ≡ bit i v
  pub owners : Owned p old new

-- SWSM
pub record SwsmWritten (p : Side) (v : ℕ) (old new : Word) : Type 0 where
  pub lock : OneLeaves 0 old.value v new.value
  pub rest : (i : ℕ) → (i ≡ 0 → ⊥) → bit i new.value ≡ bit i v
  pub owners : Owned p old new

-- every write, of any number and on any chip
abbrev pub WriteRule : Type 0
WriteRule = (p : Side) (w : World) (c : Chip) (v : ℕ)
    → SyncWritten p v c.sync (do_write p w c v is_sync).chip.sync × SwsmWritten p v c.swsm (do_write p w c v is_swsm).chip.swsm

-- ---- beside it document 01's rule: the whole word is stored

abbrev pub stored_whole : (old new : ℕ) → ℕ
stored_whole old new = new

-- a write stores the same word by both rules
abbrev pub SameWord : Chip → ℕ → Kind → Type 0
SameWord c v is_swsm = stored_swsm c.swsm.value v ≡ stored_whole c.swsm.value v
SameWord c v is_sync = stored_sync c.sync.value v ≡ stored_whole c.sync.value v
SameWord c v is_ctrl = Unit {0}
SameWord c v is_data = Unit {0}
SameWord c v is_other = Unit {0}

-- an action, if it is a write
abbrev pub SameAction : Family → Chip → Action → Type 0
SameAction f c (action.Read r) = Unit {0}
SameAction f c (action.Write r v) = SameWord c v (kind f r)
SameAction f c (action.Wait n) = Unit {0}

-- the action that is due in a conversation, and at a port of the model
abbrev pub SameDue : Family → Chip → Talk Out → Type 0
SameDue f c (end r) = Unit {0}
SameDue f c (ask a k) = SameAction f c a

abbrev pub SameNext : {f : Family} → Chip → State f → Type 0
SameNext c (idle well) = Unit {0}
SameNext {f} c (out well a k o m) = SameAction f c a
SameNext {f} c (inside well x seen a c' k m) = SameAction f c a

-- the chip after a write by document 01's rule
abbrev pub write_whole : Side → World → Chip → ℕ → Kind → Chip
write_whole p w c v is_swsm = with_swsm (written stored_whole p v c.swsm) c
write_whole p w c v is_sync = with_sync (written stored_whole p v c.sync) c
write_whole p w c v is_ctrl = (do_write p w c v is_ctrl).chip
write_whole p w c v is_data = (do_write p w c v is_data).chip
write_whole p w c v is_other = (do_write p w c v is_other).chip

abbrev pub action_whole : Family → Side → World → Chip → Action → Chip
action_whole f p w c (action.Read r) = (do_action f p w c (action.Read r)).chip
action_whole f p w c (action.Write r v) = write_whole p w c v (kind f r)
action_whole f p w c (action.Wait n) = (do_action f p w c (action.Wait n)).chip

abbrev pub due_whole : Family → Side → World → Chip → Talk Out → Chip
due_whole f p w c (end r) = c
due_whole f p w c (ask a k) = action_whole f p w c a

-- An event by document 01's rule. A write's reply is the same by both, so the ports and the touches go on as in `step_real`
abbrev pub step_whole : Family → Event Asked → Real → Real
step_whole f (begin p q) s = step_real f (begin p q) s
step_whole f (act p w) s =
    let t = step_real f (act p w) s in
    record { chip = due_whole f p w s.chip (s.ports p).conv.talk; ports = t.ports; touches = t.touches }
step_whole f (firm i) s = step_real f (firm i) s

unfoldable pub run_whole : Family → List (Event Asked) → Real → Real
run_whole f [] s = s
run_whole f (e ∷ es) s = run_whole f es (step_whole f e s)

-- after the events es, from s
pub record Same (f : Family) (es : List (Event Asked)) (s : Real) : Type 0 where
  -- a write that is due at a port stores the same word by both rules
  pub words : (p : Side) → SameDue f (run_real f es s).chip ((run_real f es s).ports p).conv.talk
  -- chip, conversations and touches are the same by both
  pub run : run_whole f es s ≡ run_real f es s

-- every list of events of the code's conversations, from every free chip
abbrev pub StoresTheSame : Family → Type 0
StoresTheSame f = (before : Side → Out) (bits address : ℕ) (regs : ℕ → ℕ) (es : List (Event Asked))
    → Same f es (fresh f before (free bits address regs))

-- the first of the operations taken apart, for any wait of the sideband
abbrev pub PortsStoreTheSame : Family → Type 0
PortsStoreTheSame f = (made : Parts f) (bits address : ℕ) (regs : ℕ → ℕ) (es : List (Event Asked)) (p : Side)
    → let s = run f (ops_of f made) es (starting (free bits address regs)) in SameNext s.chip (s.ports p)
