-- Two talks that are alike but for the sideband's waits, p in the one and q in the other: one law for each form of a talk
use Rattle.std.specs.Prelude.{Ok, Err}
use Prim.Native.Nat.{ℕ, ◌-◌}
use mathlib.Core.Path.{◌≡◌, refl, sym, subst, ap, ap₂, ◌∙◌, fun_ext}
use mathlib.Core.Bool.{Bool, true, false}
use mathlib.Core.List.{List}
use lib.Dec.{eqb}
use Rattle.hardware.specs.Talk.{Talk, Call, Res, Reply, end, ask, and_then, or_stop, ◌>>=◌, attempt, pick, times, read, read_raw, write, flush, delay}
use Rattle.hardware.specs.Block as blk
use Rattle.hardware.specs.declared.Action.{Action}
use Rattle.hardware.specs.declared.Action.TheVariants as action
use Rattle.hardware.proofs.Laws.{by_turns, times_more}
use Rattle.reference.specs.Sync.{Ending, held, held_taken}
use Rattle.reference.specs.Pauses.{is_ctrl, paused, paced}

-- `b`: whether the action before them was a read of IOSF_CTRL; `End`: whether the last one may be, or must be none
pub data Alike {A : Type 0} (p q : ℕ) (End : Bool → Type 0) : Bool → Talk A → Talk A → Type 0 where
  at_end : {b : Bool} {a : A} → End b → Alike p q End b (end a) (end a)
  at_ask : {b : Bool} (a : Action) {k k' : Reply → Talk A} → ((r : Reply) → Alike p q End (is_ctrl a) (k r) (k' r))
      → Alike p q End b (ask (paused p b a) k) (ask (paused q b a) k')

-- the last one is none
abbrev pub Away : Bool → Type 0
Away b = b ≡ false

abbrev pub Anywhere : Bool → Type 0
Anywhere b = Unit {0}

-- as most functions end
abbrev pub From : ℕ → ℕ → Bool → {A : Type 0} → Talk A → Talk A → Type 0
From p q b t t' = Alike p q Away b t t'

-- and begin
abbrev pub Same : ℕ → ℕ → {A : Type 0} → Talk A → Talk A → Type 0
Same p q t t' = Alike p q Away false t t'

-- a talk beside itself: it has no sideband wait
abbrev pub Still : ℕ → ℕ → {A : Type 0} → Talk A → Type 0
Still p q t = Same p q t t

-- ---- so the one is the other with its sideband waits replaced

same_ctrl : (q : ℕ) (b : Bool) (a : Action) → is_ctrl (paused q b a) ≡ is_ctrl a
same_ctrl q b (action.Read reg) = refl
same_ctrl q b (action.Write reg v) = refl
same_ctrl q b (action.Wait n) = refl

picked_twice : (b : Bool) (p q n : ℕ) → pick b p (pick b q n) ≡ pick b p n
picked_twice true p q n = refl
picked_twice false p q n = refl

pub paused_twice : (p q : ℕ) (b : Bool) (a : Action) → paused p b (paused q b a) ≡ paused p b a
paused_twice p q b (action.Read reg) = refl
paused_twice p q b (action.Write reg v) = refl
paused_twice p q b (action.Wait n) = ap action.Wait (picked_twice b p q n)

pub alike_paced : {A : Type 0} {p q : ℕ} {End : Bool → Type 0} {b : Bool} {t t' : Talk A} → Alike p q End b t t' → paced p b t' ≡ t
alike_paced (at_end e) = refl
alike_paced {p = p} {q = q} {b = b} (at_ask a {k' = k'} w) =
    ap₂ (λ x c. ask x (λ r. paced p c (k' r))) (paused_twice p q b a) (same_ctrl q b a)
    ∙ ap (ask (paused p b a)) (fun_ext (λ r. alike_paced (w r)))

-- ---- the forms

module _ {p q : ℕ} where
  pub alike_then : {A B : Type 0} {E F : Bool → Type 0} {b : Bool} {t t' : Talk A} {k k' : A → Talk B} → Alike p q E b t t'
      → ((c : Bool) → E c → (a : A) → Alike p q F c (k a) (k' a)) → Alike p q F b (and_then t k) (and_then t' k')
  alike_then (at_end e) h = h _ e _
  alike_then (at_ask a w) h = at_ask a (λ r. alike_then (w r) h)

  pub begins : {A : Type 0} {F : Bool → Type 0} {b : Bool} {t t' : Talk A} → Away b → Alike p q F false t t' → Alike p q F b t t'
  begins {F = F} {t = t} {t' = t'} e w = subst (λ b. Alike p q F b t t') (sym e) w

  pub follows : {A B : Type 0} {F : Bool → Type 0} {b : Bool} {t t' : Talk A} {k k' : A → Talk B} → From p q b t t'
      → ((a : A) → Alike p q F false (k a) (k' a)) → Alike p q F b (and_then t k) (and_then t' k')
  follows w h = alike_then w (λ c e a. begins e (h a))

  pub anywhere : {A : Type 0} {E : Bool → Type 0} {b : Bool} {t t' : Talk A} → Alike p q E b t t' → Alike p q Anywhere b t t'
  anywhere (at_end e) = at_end tt
  anywhere (at_ask a w) = at_ask a (λ r. anywhere (w r))

  pub ends : {A : Type 0} {a : A} → Still p q (end a)
  ends = at_end refl

  -- the Rust's `?`
  pub tries : {A B : Type 0} (r : Res A) {k k' : A → Call B} → ((a : A) → Same p q (k a) (k' a)) → Same p q (or_stop k r) (or_stop k' r)
  tries (Ok a) h = h a
  tries (Err e) h = ends

  pub bind : {A B : Type 0} {b : Bool} {t t' : Call A} {k k' : A → Call B} → From p q b t t' → ((a : A) → Same p q (k a) (k' a))
      → From p q b (t >>= k) (t' >>= k')
  bind w h = follows w (λ r. tries r h)

  pub attempts : {A B : Type 0} {b : Bool} {t t' : Call A} {k k' : Res A → Call B} → From p q b t t' → ((r : Res A) → Same p q (k r) (k' r))
      → From p q b (attempt t >>= k) (attempt t' >>= k')
  attempts w h = bind (follows w (λ r. ends)) h

  pub picks : {A : Type 0} {E : Bool → Type 0} {b : Bool} (c : Bool) {s s' t t' : Talk A} → Alike p q E b s s' → Alike p q E b t t'
      → Alike p q E b (pick c s t) (pick c s' t')
  picks true v w = v
  picks false v w = w

  -- of a register that is not IOSF_CTRL
  pub reads : {b : Bool} {reg : ℕ} → eqb reg 0x11144 ≡ false → From p q b (read reg) (read reg)
  reads {reg = reg} e = at_ask (action.Read reg) (λ r. at_end e)

  pub raws : {b : Bool} {reg : ℕ} → eqb reg 0x11144 ≡ false → From p q b (read_raw reg) (read_raw reg)
  raws {reg = reg} e = at_ask (action.Read reg) (λ r. at_end e)

  pub writes : {b : Bool} {reg v : ℕ} → From p q b (write reg v) (write reg v)
  writes {reg = reg} {v = v} = at_ask (action.Write reg v) (λ r. at_end refl)

  pub flushes : {b : Bool} → From p q b flush flush
  flushes = at_ask (action.Read 0x8) (λ r. at_end refl)

  pub waits : {n : ℕ} → Still p q (delay n)
  waits {n} = at_ask {b = false} (action.Wait n) (λ r. at_end refl)

  -- a loop of some turns, of which each begins anywhere
  pub from_anywhere : {A : Type 0} {n : ℕ} → (n ≡ 0 → ⊥) → (turn : Talk A → Talk A) (after : Talk A)
      → ((t : Talk A) → Still p q t → (b : Bool) → From p q b (turn t) (turn t)) → Still p q after
      → (b : Bool) → From p q b (times n turn after) (times n turn after)
  from_anywhere {n = n} some turn after h z b =
      subst (λ t. From p q b t t) (sym (times_more some turn after))
      (h (times (n - 1) turn after) (by_turns (λ t. Still p q t) turn after (λ t w. h t w false) z (n - 1)) b)

  -- take, body, give
  pub holds : {X : Type 0} (ending : Ending X) {take give : Call (Unit {0})} {E : Bool → Type 0} {body body' : Talk X} → Still p q take
      → ((b : Bool) → E b → From p q b give give) → Alike p q E false body body'
      → Same p q (held ending take give body) (held ending take give body')
  holds {X} ending {give = give} {body = body} {body' = body'} t g w = follows t taken
    where
      taken : (r : Res (Unit {0})) → Same p q (held_taken ending give body r) (held_taken ending give body' r)
      taken (Err e) = ends
      taken (Ok _) = alike_then w (λ b e x. follows (g b e) (λ r. ends))

  -- what leaves the host block alone, and the Rust's `?` of a function that is lent it
  pub keeps : {A : Type 0} {E : Bool → Type 0} {b : Bool} {t t' : Call A} (ws : List ℕ) → Alike p q E b t t' → Alike p q E b (blk.keep t ws) (blk.keep t' ws)
  keeps ws w = alike_then w (λ c e r. at_end e)

  pub lends : {A B : Type 0} {E : Bool → Type 0} {b : Bool} {t t' : Talk (Res A × List ℕ)} {k k' : A → List ℕ → Talk (Res B × List ℕ)}
      → Alike p q E b t t' → ((c : Bool) → E c → (a : A) (ws : List ℕ) → Alike p q E c (k a ws) (k' a ws))
      → Alike p q E b (and_then t (λ x. blk.or_stop k x.0 x.1)) (and_then t' (λ x. blk.or_stop k' x.0 x.1))
  lends {E = E} {k = k} {k' = k'} w h = alike_then w (λ c e x. go c e x.0 x.1)
    where
      go : (c : Bool) → E c → (r : Res _) (ws : List ℕ) → Alike p q E c (blk.or_stop k r ws) (blk.or_stop k' r ws)
      go c e (Ok a) ws = h c e a ws
      go c e (Err d) ws = at_end e
