-- Conversations that do only some actions, and those on registers of some kinds alone
use Rattle.std.specs.Prelude.{Err, Ok}
use Rattle.hardware.specs.Talk.{Talk, Res, and_then, pick, or_stop, ◌>>=◌, attempt, read, read_raw, write, flush, delay}
use Prim.Native.Nat.{ℕ}
use mathlib.Core.Bool.{Bool, true, false}
use Rattle.hardware.specs.declared.Action.{Action}
use Rattle.hardware.specs.declared.Action.TheVariants as action
use Rattle.hardware.specs.declared.Family.{Family}
use Rattle.hardware.specs.declared.Family.TheVariants.{X552, X553}
use Rattle.mixing.specs.Only.{Only, only_end, only_ask}
use Rattle.mixing.specs.Model.{Kind, is_swsm, is_sync, is_ctrl, is_data, is_other, kind, On}

module _ {P : Action → Type 0} where
  pub only_then : {A B : Type 0} {t : Talk A} {k : A → Talk B} → Only P t → ((a : A) → Only P (k a)) → Only P (and_then t k)
  only_then only_end h = h _
  only_then (only_ask o p) h = only_ask o (λ r. only_then (p r) h)

  pub only_stop : {A B : Type 0} {k : A → Talk (Res B)} → ((a : A) → Only P (k a)) → (r : Res A) → Only P (or_stop k r)
  only_stop h (Ok a) = h a
  only_stop h (Err e) = only_end

  pub only_bind : {A B : Type 0} {t : Talk (Res A)} {k : A → Talk (Res B)} → Only P t → ((a : A) → Only P (k a)) → Only P (t >>= k)
  only_bind p h = only_then p (only_stop h)

  pub only_attempt : {A B : Type 0} {t : Talk (Res A)} {k : Res A → Talk (Res B)} → Only P t → ((r : Res A) → Only P (k r))
      → Only P (attempt t >>= k)
  only_attempt only_end h = h _
  only_attempt (only_ask o p) h = only_ask o (λ r. only_attempt (p r) h)

  pub only_pick : {A : Type 0} (b : Bool) {t u : Talk A} → Only P t → Only P u → Only P (pick b t u)
  only_pick true p q = p
  only_pick false p q = q

  pub only_wait : {n : ℕ} → P (action.Wait n) → Only P (delay n)
  only_wait h = only_ask h (λ _. only_end)

  pub only_read : {r : ℕ} → P (action.Read r) → Only P (read r)
  only_read h = only_ask h (λ _. only_end)

  pub only_raw : {r : ℕ} → P (action.Read r) → Only P (read_raw r)
  only_raw h = only_ask h (λ _. only_end)

  pub only_write : {r v : ℕ} → P (action.Write r v) → Only P (write r v)
  only_write h = only_ask h (λ _. only_end)

-- ---- none of the model's registers

abbrev pub IsFar : Kind → Type 0
IsFar is_swsm = ⊥
IsFar is_sync = ⊥
IsFar is_ctrl = ⊥
IsFar is_data = ⊥
IsFar is_other = Unit {0}

abbrev pub Quiet : {A : Type 0} → Family → Talk A → Type 0
Quiet f t = Only (On IsFar f) t

-- a register that is none of them in either family
pub far : (r : ℕ) → IsFar (kind X552 r) → IsFar (kind X553 r) → (f : Family) → IsFar (kind f r)
far r a b X552 = a
far r a b X553 = b

far_any : (K : Kind → Type 0) → K is_other → (k : Kind) → IsFar k → K k
far_any K h is_swsm e = absurd e
far_any K h is_sync e = absurd e
far_any K h is_ctrl e = absurd e
far_any K h is_data e = absurd e
far_any K h is_other e = h

on_any : (K : Kind → Type 0) → K is_other → (f : Family) (a : Action) → On IsFar f a → On K f a
on_any K h f (action.Read r) e = far_any K h (kind f r) e
on_any K h f (action.Write r v) e = far_any K h (kind f r) e
on_any K h f (action.Wait n) e = tt

-- so it is among whatever kinds have the other registers
pub quiet_only : {A : Type 0} (K : Kind → Type 0) → K is_other → (f : Family) {t : Talk A} → Quiet f t → Only (On K f) t
quiet_only K h f only_end = only_end
quiet_only K h f (only_ask {a} e p) = only_ask (on_any K h f a e) (λ r. quiet_only K h f (p r))

pub quiet_flush : (f : Family) → Quiet f flush
quiet_flush f = only_ask (far 0x8 tt tt f) (λ _. only_end)
