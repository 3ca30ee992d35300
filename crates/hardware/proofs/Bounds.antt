-- Bounds on talks: one law for each form of a talk
use Rattle.std.specs.Prelude.{Ok, Err}
use Prim.Native.Nat.{ℕ, zero, suc, ◌+◌, ◌*◌, ◌≤◌}
use mathlib.Core.Bool.{Bool, true, false}
use native.Mathlib.Omega.{arith}
use native.Mathlib.Nat.{suc-mul}
use Rattle.hardware.specs.Bound.{Within, at_end, at_ask}
use Rattle.hardware.specs.Talk.{Talk, Res, pick, and_then, or_stop, times}

pub within_more : {A : Type 0} {t : Talk A} {n m n' m' : ℕ} → n ≤ n' → m ≤ m' → Within t n m → Within t n' m'
within_more h k at_end = at_end
within_more {n' = x} {m' = y} h k (at_ask {a = a} {n = c} {m = d} p q w) = at_ask {a = a} {n = c} {m = d} {n' = x} {m' = y} (omega arith) (omega arith) w

pub within_then : {A B : Type 0} {t : Talk A} {k : A → Talk B} {n m n' m' : ℕ} → Within t n m → ((a : A) → Within (k a) n' m')
    → Within (and_then t k) (n + n') (m + m')
within_then {n = x} {m = y} {n' = c} {m' = d} (at_end {a = a}) h = within_more {n = c} {m = d} (omega arith) (omega arith) (h a)
within_then {n = x} {m = y} {n' = c} {m' = d} (at_ask {a = a} {n = e} {m = f} p q w) h =
    at_ask {a = a} {n = e + c} {m = f + d} {n' = x + c} {m' = y + d} (omega arith) (omega arith) (λ r. within_then (w r) h)

pub within_stop : {A B : Type 0} {k : A → Talk (Res B)} {n m : ℕ} (r : Res A) → ((a : A) → Within (k a) n m) → Within (or_stop k r) n m
within_stop (Ok a) h = h a
within_stop (Err e) h = at_end

pub within_pick : {A : Type 0} (b : Bool) {s t : Talk A} {n m : ℕ} → Within s n m → Within t n m → Within (pick b s t) n m
within_pick true v w = v
within_pick false v w = w

-- a loop: so much a turn, and what comes after it
pub within_times : {A : Type 0} (turn : Talk A → Talk A) (after : Talk A) (d e x n m : ℕ)
    → ((t : Talk A) (n m : ℕ) → Within t n m → Within (turn t) (d + n) (e + m)) → Within after n m
    → Within (times x turn after) (x * d + n) (x * e + m)
unfolding times
within_times turn after d e zero n m h w = within_more {n = n} {m = m} (omega arith) (omega arith) w
within_times turn after d e (suc x) n m h w =
    within_more {n = d + (x * d + n)} {m = e + (x * e + m)} (omega (arith, suc-mul x d)) (omega (arith, suc-mul x e))
    (h (times x turn after) (x * d + n) (x * e + m) (within_times turn after d e x n m h w))
