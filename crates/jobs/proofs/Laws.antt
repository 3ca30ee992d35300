-- What comes after a job, and what is stored at the front of a block
use Rattle.std.specs.Prelude.{Err, Ok}
use Rattle.hardware.specs.Talk.{Call, end, ask, and_then, or_stop, ◌>>◌}
use Prim.Native.Nat.{ℕ, ◌+◌, ◌≤◌}
use mathlib.Core.List.{List}
use mathlib.Core.Path.{◌≡◌, refl, ap, fun_ext}
use native.Mathlib.Omega.{arith}
use lib.ListN.{length, take, drop}
use lib.Seq.{sets, sets-eq, take_at}
use Rattle.jobs.specs.Job.{no_word}

-- what comes after a job that gives no word
pub wrote : {B : Type 0} (t : Call (Unit {0})) (k : Call B) → and_then (no_word t) (λ p. or_stop (λ _. k) p.0) ≡ t >> k
wrote (end (Ok _)) k = refl
wrote (end (Err e)) k = refl
wrote (ask a c) k = ap (ask a) (fun_ext (λ r. wrote (c r) k))

-- words that were stored one behind the other, from the front of a block on
pub stored : (vs xs : List ℕ) → length vs ≤ length xs → take (length vs) (sets xs 0 vs) ≡ vs
stored vs xs h =
    let inside : 0 + length vs ≤ length xs = omega arith in
    rw (sets-eq vs xs 0 inside) (take_at vs (drop (0 + length vs) xs) (length vs) refl)
