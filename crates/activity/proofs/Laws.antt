-- An activity goes on from its command's status
use Rattle.hardware.specs.Talk.{and_then, times}
use Prim.Native.Nat.{ℕ}
use mathlib.Core.List.{List}
use mathlib.Core.Path.{◌≡◌, refl}
use Rattle.hardware.specs.declared.Port.{Port}
use Rattle.reference.specs.Hostif.{command, activity_times, activity_answer}
use Rattle.jobs.proofs.Bytes.{status_cut}
use Rattle.activity.specs.Activity.{block_of, activity_got}
use Rattle.arguments.specs.declared.Asked.{Asked}

pub activity_cut : (port : Port) (asked : Asked) (n : ℕ) (b : List ℕ)
    → and_then (command port b) (λ p. activity_got port asked n p.0 p.1)
    ≡ and_then (command port b) (activity_answer (activity_times port (block_of port asked) n))
activity_cut port asked n b = status_cut port b (activity_answer (activity_times port (block_of port asked) n))

-- the first of 50 tries
pub fifty : {S X : Type 0} (turn : (S → X) → S → X) (after : S → X) (s : S) → times 50 turn after s ≡ turn (times 49 turn after) s
unfolding times
fifty turn after s = refl
