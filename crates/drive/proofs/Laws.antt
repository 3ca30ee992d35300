-- What goes on
use Rattle.std.proofs.Common.{◌≡◌, ℕ, ◌+◌, ◌-◌, ◌%◌, ◌^◌, ◌<◌, ◌≤◌, List, length, drop, sym, refl, ap, subst, arith, add-zero, get_or-drop, ne_eqb}
use lib.Seq.{sets, length-sets}
use Rattle.hardware.specs.Bound.{waited}
use Rattle.hardware.specs.Talk.{Talk, Reply, ask, and_then}
use Rattle.hardware.specs.declared.Action.{Action}
use Rattle.hardware.specs.declared.Action.TheVariants.{Read, Write, Wait}
use Rattle.std.specs.Prelude.{Some, Result, Ok, Err}
use Rattle.hardware.specs.declared.Stop.{Stop}
use Rattle.hardware.specs.Told.{told}
use Rattle.hardware.specs.declared.Step.{Step}
use Rattle.hardware.specs.declared.Step.TheVariants.{Ask}
use Rattle.script.specs.Script.{pair_at}
use Rattle.script.proofs.Laws.{are}
use Rattle.drive.specs.Act.{uses, words, reply_of, reply_for}
use Rattle.drive.specs.Moves.{Tape, on_tape, Moves, stays, goes, Acts, ActsBy}

pub uses_two : (a : Action) → (uses a ≡ 0 → ⊥) → uses a ≡ 2
uses_two (Read reg) h = refl
uses_two (Write reg v) h = refl
uses_two (Wait micros) h = absurd (h refl)

-- a reply's two words, read at a place of the script
pub reply_read : (a : Action) (rs : List ℕ) (used : ℕ) {kind value : ℕ} → (uses a ≡ 0 → ⊥) → pair_at rs used ≡ Some (kind, value)
    → reply_for a (drop used rs) ≡ reply_of kind value
reply_read a rs used h e = let words = are rs used e in simp (ne_eqb _ _ h, get_or-drop, add-zero, words.0, words.1)

-- further on, in two parts
pub then : {A : Type 0} {rs : List ℕ} {m n o : Talk A} {t u v : Tape} → Moves rs m t n u → Moves rs n u o v → Moves rs m t o v
then stays q = q
then (goes h h' p) q = goes h h' (then p q)

-- what is inside goes on, so the whole does
pub inside : {A B : Type 0} {rs : List ℕ} (f : A → Talk B) {m n : Talk A} {t u : Tape} → Moves rs m t n u → Moves rs (and_then m f) t (and_then n f) u
inside f stays = stays
inside f (goes h h' p) = goes h h' (inside f p)

-- an action that the code put on the tape
pub put_down : (t : Tape) (a : Action) {need wait n m : ℕ} {words' : List ℕ}
    → uses a ≡ need → words' ≡ sets t.transcript t.at (words a) → n ≡ (t.actions + 1) % 2 ^ 64 → waited a ≡ wait → m ≡ (t.micros + wait) % 2 ^ 64
    → record { actions = n; micros = m; transcript = words'; at = t.at + 3; used = t.used + need } ≡ on_tape t a
put_down t a eu ew en ewait em = rw (ew, en, em, ← eu, ← ewait)

-- what `act` gave
module _ {rs : List ℕ} {a : Action} {t t' : Tape} {r : Result Reply Stop} where
  pub by : {s : Result Reply Stop} → Acts a rs t r t' → r ≡ s → ActsBy a rs t s t'
  by e c = subst (λ (x : Result Reply Stop). ActsBy a rs t x t') c e.what

  -- in a loop whose talk has come as far as the action
  module _ {A : Type 0} {m₀ : Talk A} {t₀ : Tape} where
    pub act_short : {m : Talk A} {s : Stop} → Acts a rs t r t' → r ≡ Err s → Moves rs m₀ t₀ m t → Moves rs m₀ t₀ m t'
    act_short {m} e c p = subst (λ (x : Tape). Moves rs m₀ t₀ m x) (sym (by e c).0) p

    pub act_done : {k : Reply → Talk A} {reply : Reply} → Acts a rs t r t' → r ≡ Ok reply
        → Moves rs m₀ t₀ (ask a k) t → Moves rs m₀ t₀ (k reply) t'
    act_done {k} {reply} e c p =
        let e' : ActsBy a rs t (Ok reply) t' = by e c in
        let q : Moves rs m₀ t₀ (k (reply_for a (drop t.used rs))) (on_tape t a) = then p (goes e'.0 e'.1 stays) in
        subst (λ (x : Tape). Moves rs m₀ t₀ (k reply) x) (sym e'.3) (subst (λ (x : Reply). Moves rs m₀ t₀ (k x) (on_tape t a)) e'.2 q)

-- the same, said otherwise
pub told_as : {A : Type 0} {rs : List ℕ} {m₀ m n : Talk A} {t₀ t : Tape} → m ≡ n → Moves rs m₀ t₀ m t → Moves rs m₀ t₀ n t
told_as {rs = rs} {m₀ = m₀} {t₀ = t₀} {t = t} e p = subst (λ (x : Talk _). Moves rs m₀ t₀ x t) e p

pub from_as : {A : Type 0} {rs : List ℕ} {m n o : Talk A} {t u : Tape} → n ≡ m → Moves rs m t o u → Moves rs n t o u
from_as {rs = rs} {o = o} {t = t} {u = u} e p = subst (λ (x : Talk _). Moves rs x t o u) (sym e) p

pub said_as : {A : Type 0} {rs : List ℕ} {m n o p : Talk A} {t u : Tape} → o ≡ m → p ≡ n → Moves rs m t n u → Moves rs o t p u
said_as start end q = from_as start (told_as (sym end) q)

-- the whole by what is inside
pub moved : {A B : Type 0} {rs : List ℕ} (f : A → Talk B) {m n : Talk A} {o p : Talk B} {t u : Tape}
    → o ≡ and_then m f → p ≡ and_then n f → Moves rs m t n u → Moves rs o t p u
moved f start end q = said_as start end (inside f q)

-- an action by itself
module _ {rs : List ℕ} {a : Action} {t t' : Tape} {r : Result Reply Stop} {A : Type 0} {k : Reply → Talk A} where
  pub single_short : {s : Stop} → Acts a rs t r t' → r ≡ Err s → Moves rs (ask a k) t (ask a k) t'
  single_short e c = act_short e c stays

  pub single_done : {reply : Reply} {n : Talk A} → Acts a rs t r t' → r ≡ Ok reply → n ≡ k reply → Moves rs (ask a k) t n t'
  single_done e c same = told_as (sym same) (act_done e c stays)

-- further on, to a step that asks
pub then_asks : {S A : Type 0} {rs : List ℕ} {m n : Talk A} {t u v : Tape} {step : Step Action S A} {b : Action} {s : S}
    → (resume : S → Reply → Talk A) → Moves rs m t n u → Moves rs n u (told resume step) v → step ≡ Ask b s → Moves rs m t (ask b (resume s)) v
then_asks resume p q e = told_as (ap (told resume) e) (then p q)

-- the room that is left shrinks, unless nothing is done
pub moves_le : {A : Type 0} {rs : List ℕ} {m n : Talk A} {t u : Tape} → Moves rs m t n u → length u.transcript - u.at ≤ length t.transcript - t.at
moves_le stays = omega arith
moves_le (goes {a} {t = t} h h' p) =
    let l : length (sets t.transcript t.at (words a)) ≡ length t.transcript = length-sets t.transcript t.at (words a) in
    let q = moves_le p in
    omega (arith, l, q, h)

pub moves_less : {A : Type 0} {rs : List ℕ} {m n : Talk A} {t u : Tape} → Moves rs m t n u → (u.at ≡ t.at → ⊥) → length u.transcript - u.at < length t.transcript - t.at
moves_less stays moved = absurd (moved refl)
moves_less (goes {a} {t = t} h h' p) moved =
    let l : length (sets t.transcript t.at (words a)) ≡ length t.transcript = length-sets t.transcript t.at (words a) in
    let q = moves_le p in
    omega (arith, l, q, h)

-- it stays within the script and the transcript, and what does not move writes nothing
pub moves_within : {A : Type 0} {rs : List ℕ} {m n : Talk A} {t u : Tape} → Moves rs m t n u → t.at ≤ length t.transcript → t.used ≤ length rs
    → (t.at ≤ u.at) × (u.at ≤ length t.transcript) × (u.used ≤ length rs) × (u.at ≡ t.at → u.transcript ≡ t.transcript)
moves_within stays h k = (omega arith, h, k, λ e. refl)
moves_within (goes {a} {t = t} room need p) h k =
    let l : length (sets t.transcript t.at (words a)) ≡ length t.transcript = length-sets t.transcript t.at (words a) in
    let q = moves_within p (omega (arith, l, room)) (omega (arith, need)) in
    (omega (arith, q.0), rw (← l) q.1, q.2, λ e. absurd (omega (arith, q.0, e)))
