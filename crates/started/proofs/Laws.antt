-- The same place says the same
use Prim.Native.Nat.{ℕ}
use mathlib.Core.Path.{◌≡◌, ap}
use mathlib.Core.List.{List}
use Rattle.hardware.specs.declared.Port.{Port}
use Rattle.started.specs.Operation.{told}
use Rattle.hardware.specs.declared.Action.{Action}
use Rattle.hardware.specs.declared.Step.{Step}
use Rattle.jobs.specs.declared.job.Ended.{Ended}
use Rattle.answers.specs.declared.Value.{Value}
use Rattle.started.specs.declared.operation.Op.{Op}

pub told_at : (p : Port) (b : List ℕ) {x y : Step Action Op (Ended Value)} → x ≡ y → told p x b ≡ told p y b
told_at p b e = ap (λ (x : Step Action Op (Ended Value)). told p x b) e
