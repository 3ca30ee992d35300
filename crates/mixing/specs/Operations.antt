-- The operations that two ports mix
use Rattle.std.specs.Prelude.{ℕ, Bool, true, false, List}
use Rattle.hardware.specs.declared.Family.{Family}
use Rattle.hardware.specs.declared.Port.{Port}
use Rattle.operations.specs.declared.Operation.{Operation}
use Rattle.operations.specs.declared.Operation.TheVariants as operationv
use Rattle.mixing.specs.Model.{Side, lan0, lan1}

-- all but bare acquire and release
abbrev pub mixable : Operation → Bool
mixable (operationv.Acquire mask) = false
mixable (operationv.Release mask) = false
mixable _ = true

-- a call of `begin`, beside the port's lan: device id, pause, operation with its arguments, the words that are lent
pub record Asked : Type 0 where
  pub device : ℕ
  pub pause : ℕ
  pub what : Operation
  pub block : List ℕ

abbrev pub number : Side → ℕ
number lan0 = 0
number lan1 = 1

abbrev pub port_with : Family → Side → (device pause : ℕ) → Port
port_with f p device pause = record { family = f; device = device; lan = number p; pause = pause }

abbrev pub port_at : Family → Side → Asked → Port
port_at f p q = port_with f p q.device q.pause
