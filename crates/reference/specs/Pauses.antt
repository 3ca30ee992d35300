-- The sideband's waits: those directly behind a read of IOSF_CTRL; and a port with another pause
use Rattle.std.specs.Prelude.{ℕ, Bool, false, eqb}
use Rattle.hardware.specs.Talk.{Talk, end, ask, pick}
use Rattle.hardware.specs.declared.Action.{Action}
use Rattle.hardware.specs.declared.Action.TheVariants.{Read, Write, Wait}
use Rattle.hardware.specs.declared.Port.{Port}

-- a read of IOSF_CTRL
abbrev pub is_ctrl : Action → Bool
is_ctrl (Read reg) = eqb reg 0x11144
is_ctrl (Write reg v) = false
is_ctrl (Wait micros) = false

-- an action, where a wait takes p microseconds if it is directly `behind` a read of IOSF_CTRL
abbrev pub paused : ℕ → Bool → Action → Action
paused p behind (Read reg) = Read reg
paused p behind (Write reg v) = Write reg v
paused p behind (Wait micros) = Wait (pick behind p micros)

-- a talk with each such wait of p microseconds, and all else as it is
abbrev pub paced : {A : Type 0} → ℕ → Bool → Talk A → Talk A
paced p behind (end a) = end a
paced p behind (ask a k) = ask (paused p behind a) (λ r. paced p (is_ctrl a) (k r))

abbrev pub with_pause : ℕ → Port → Port
with_pause p port = record { family = port.family; device = port.device; lan = port.lan; pause = p }
