-- The laws of conversations: going on from an end, regrouping, and a bounded loop by the code's count of the turns left
use Prim.Native.Nat.{ℕ, zero, suc, ◌+◌, ◌-◌, ◌≤◌, ◌<◌}
use mathlib.Core.Path.{◌≡◌, refl, ap, fun_ext, ◌∙◌}
use native.Mathlib.Omega.{arith}
use Rattle.hardware.specs.Talk.{Talk, Reply, end, ask, and_then, times}
use Rattle.hardware.specs.Told.{told}
use Rattle.hardware.specs.declared.Action.{Action}
use Rattle.hardware.specs.declared.Step.{Step}

pub then_end : {A : Type 0} (t : Talk A) → and_then t end ≡ t
then_end (end a) = refl
then_end (ask a c) = ap (ask a) (fun_ext (λ r. then_end (c r)))

pub then_assoc : {A B C : Type 0} (t : Talk A) (k : A → Talk B) (l : B → Talk C) → and_then (and_then t k) l ≡ and_then t (λ a. and_then (k a) l)
then_assoc (end a) k l = refl
then_assoc (ask a c) k l = ap (ask a) (fun_ext (λ r. then_assoc (c r) k l))

-- what a step says goes on as what the step inside says does
pub then_said : {S T A B : Type 0} (r : T → Reply → Talk B) (s : Step Action T B) (q : S → Reply → Talk A) (step : Step Action S A) (k : A → Talk B) {t : Talk A}
    → told r s ≡ and_then (told q step) k → told q step ≡ t → told r s ≡ and_then t k
then_said r s q step k e f = e ∙ ap (λ u. and_then u k) f

-- a loop keeps what each turn keeps
pub by_turns : {X : Type 0} (P : X → Type 0) (turn : X → X) (after : X) → ((x : X) → P x → P (turn x)) → P after → (n : ℕ) → P (times n turn after)
unfolding times
by_turns P turn after h z zero = z
by_turns P turn after h z (suc n) = h (times n turn after) (by_turns P turn after h z n)

pub times_none : {n : ℕ} → n ≡ 0 → {X : Type 0} (turn : X → X) (after : X) → times n turn after ≡ after
unfolding times
times_none e turn after = rw e

one_more : (n : ℕ) → (n ≡ 0 → ⊥) → n ≡ suc (n - 1)
one_more n h = omega arith

pub times_more : {n : ℕ} → (n ≡ 0 → ⊥) → {X : Type 0} (turn : X → X) (after : X) → times n turn after ≡ turn (times (n - 1) turn after)
unfolding times
times_more {n} h turn after = ap (λ (k : ℕ). times k turn after) (one_more n h)

-- the same where a turn hands a value on to the next
pub carry_none : {n : ℕ} → n ≡ 0 → {S X : Type 0} (turn : (S → X) → S → X) (after : S → X) (s : S) → times n turn after s ≡ after s
carry_none e turn after s = ap (λ f. f s) (times_none e turn after)

pub carry_more : {n : ℕ} → (n ≡ 0 → ⊥) → {S X : Type 0} (turn : (S → X) → S → X) (after : S → X) (s : S)
    → times n turn after s ≡ turn (times (n - 1) turn after) s
carry_more h turn after s = ap (λ f. f s) (times_more h turn after)

-- the same where it hands the block on too
pub block_none : {n : ℕ} → n ≡ 0 → {S B X : Type 0} (turn : (S → B → X) → S → B → X) (after : S → B → X) (s : S) (b : B)
    → times n turn after s b ≡ after s b
block_none e turn after s b = ap (λ f. f s b) (times_none e turn after)

pub block_more : {n : ℕ} → (n ≡ 0 → ⊥) → {S B X : Type 0} (turn : (S → B → X) → S → B → X) (after : S → B → X) (s : S) (b : B)
    → times n turn after s b ≡ turn (times (n - 1) turn after) s b
block_more h turn after s b = ap (λ f. f s b) (times_more h turn after)

-- a loop over the places i .. n
pub each_none : {i n : ℕ} → n ≤ i → {S X : Type 0} (turn : (S → X) → S → X) (after : S → X) (s : S) → times (n - i) turn after s ≡ after s
each_none {i} {n} h turn after s = carry_none (omega arith) turn after s

less : (i n : ℕ) → i < n → n - i ≡ suc (n - (i + 1))
less i n h = omega arith

pub each_more : {i n : ℕ} → i < n → {S X : Type 0} (turn : (S → X) → S → X) (after : S → X) (s : S)
    → times (n - i) turn after s ≡ turn (times (n - (i + 1)) turn after) s
unfolding times
each_more {i} {n} h turn after s = ap (λ (k : ℕ). times k turn after s) (less i n h)
