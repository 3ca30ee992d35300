-- An access by itself: it selects its address before its one touch of DATA, and a read gives what it got there
use Rattle.std.specs.Prelude.{Err, Ok, Option, None, Some}
use Rattle.hardware.specs.Talk.{Talk, Call, Res, end, ask, and_then, pick, or_stop, is_clear, fail, raw, Reply}
use Prim.Native.Nat.{ℕ}
use mathlib.Core.Path.{◌≡◌, refl, sym, subst}
use mathlib.Core.Bool.{Bool, true, false}
use Rattle.hardware.specs.Talk as talk
use Rattle.hardware.specs.declared.Action.{Action}
use Rattle.hardware.specs.declared.Action.TheVariants as action
use Rattle.hardware.specs.declared.Error.{Error}
use Rattle.hardware.specs.declared.Error.TheVariants.{Timeout}
use Rattle.hardware.specs.declared.Family.{Family}
use Rattle.hardware.specs.declared.Family.TheVariants.{X552, X553}
use Rattle.reference.specs.Acquire.{locked}
use Rattle.reference.specs.Sync.{plain, both, held_taken, release_bits}
use Rattle.reference.specs.X552.{iosf_turn, iosf_idle, kr_read_body, kr_write_body, kr_read, kr_write}
use Rattle.mixing.specs.Only.{only_end, only_ask}
use Rattle.mixing.specs.Mixing.{RightGave}
use Rattle.mixing.specs.Model.{Kind, is_swsm, is_sync, is_ctrl, is_data, is_other, kind}
use Rattle.mixing.specs.Events.{Touch, if_data, touch, word}
use Rattle.mixing.specs.System.{Caller, port_of, Access, reads, writes, Given, access_talk, NotIosf, Outside, seen_then}
use Rattle.mixing.proofs.Kr.{bits_only}
use Rattle.hardware.proofs.Laws.{by_turns}
use Rattle.mixing.proofs.Plain.{Plain, plain_acquire, plain_release}

-- the address that this access selected, if it did; a store to SW_FW_SYNC may let go of the lock
abbrev pub sel_read : Kind → Option ℕ → Option ℕ
sel_read is_swsm s = s
sel_read is_sync s = None
sel_read is_ctrl s = s
sel_read is_data s = s
sel_read is_other s = s

abbrev pub sel_write : Kind → ℕ → Option ℕ → Option ℕ
sel_write is_swsm w s = s
sel_write is_sync w s = None
sel_write is_ctrl w s = Some w
sel_write is_data w s = s
sel_write is_other w s = s

abbrev pub sel_next : Family → Action → Option ℕ → Option ℕ
sel_next f (action.Read r) s = sel_read (kind f r) s
sel_next f (action.Write r w) s = sel_write (kind f r) w s
sel_next f (action.Wait n) s = s

abbrev pub TouchRead : Access → Option ℕ → Option ℕ → Type 0
TouchRead (reads who a) sel seen = (sel ≡ Some a) × (seen ≡ None)
TouchRead (writes who a w) sel seen = ⊥

abbrev pub TouchWrite : Access → Option ℕ → Option ℕ → ℕ → Type 0
TouchWrite (reads who a) sel seen v = ⊥
TouchWrite (writes who a w) sel seen v = (sel ≡ Some a) × (seen ≡ None) × (w ≡ v)

abbrev pub OwnRead : Access → Option ℕ → Option ℕ → Kind → Type 0
OwnRead x sel seen is_swsm = Unit {0}
OwnRead x sel seen is_sync = Unit {0}
OwnRead x sel seen is_ctrl = Unit {0}
OwnRead x sel seen is_data = TouchRead x sel seen
OwnRead x sel seen is_other = Unit {0}

abbrev pub OwnWrite : Access → Option ℕ → Option ℕ → ℕ → Kind → Type 0
OwnWrite x sel seen v is_swsm = Unit {0}
OwnWrite x sel seen v is_sync = Unit {0}
OwnWrite x sel seen v is_ctrl = Unit {0}
OwnWrite x sel seen v is_data = TouchWrite x sel seen v
OwnWrite x sel seen v is_other = Unit {0}

abbrev pub Own : Family → Access → Option ℕ → Option ℕ → Action → Type 0
Own f x sel seen (action.Read r) = OwnRead x sel seen (kind f r)
Own f x sel seen (action.Write r v) = OwnWrite x sel seen v (kind f r)
Own f x sel seen (action.Wait n) = Unit {0}

pub data Loc {A : Type 0} (f : Family) (x : Access) (Q : Option ℕ → A → Type 0) : Option ℕ → Option ℕ → Talk A → Type 0 where
  loc_end : {sel seen : Option ℕ} {a : A} → Q seen a → Loc f x Q sel seen (end a)
  loc_ask : {sel seen : Option ℕ} {a : Action} {c : Reply → Talk A} → Own f x sel seen a
      → ((own : ℕ) (r : Reply) → Loc f x Q (sel_next f a sel) (seen_then (touch f own a r) seen) (c r)) → Loc f x Q sel seen (ask a c)

module _ {f : Family} {x : Access} where
  -- whatever is selected at the end of the first
  loc_then : {A B : Type 0} {P : Option ℕ → A → Type 0} {Q : Option ℕ → B → Type 0} {k : A → Talk B} {sel seen : Option ℕ} {t : Talk A}
      → Loc f x P sel seen t → ((z s : Option ℕ) (a : A) → P s a → Loc f x Q z s (k a)) → Loc f x Q sel seen (and_then t k)
  loc_then (loc_end h) g = g _ _ _ h
  loc_then (loc_ask n h) g = loc_ask n (λ own r. loc_then (h own r) g)

  loc_pick : {A : Type 0} {Q : Option ℕ → A → Type 0} {sel seen : Option ℕ} {t u : Talk A} (b : Bool)
      → Loc f x Q sel seen t → Loc f x Q sel seen u → Loc f x Q sel seen (pick b t u)
  loc_pick true p q = p
  loc_pick false p q = q

-- ---- the locks touch no DATA

no_data : (k : Kind) (t : Touch) → NotIosf k → if_data k t ≡ None
no_data is_swsm t h = refl
no_data is_sync t h = refl
no_data is_ctrl t h = refl
no_data is_data t h = absurd h
no_data is_other t h = refl

pub untouched : (f : Family) (own : ℕ) (a : Action) (r : Reply) → Outside f a → touch f own a r ≡ None
untouched f own (action.Read g) r h = no_data (kind f g) _ h
untouched f own (action.Write g w) r h = no_data (kind f g) _ h
untouched f own (action.Wait n) r h = refl

plain_read : (x : Access) (sel seen : Option ℕ) (k : Kind) → NotIosf k → OwnRead x sel seen k
plain_read x sel seen is_swsm h = tt
plain_read x sel seen is_sync h = tt
plain_read x sel seen is_ctrl h = tt
plain_read x sel seen is_data h = absurd h
plain_read x sel seen is_other h = tt

plain_write : (x : Access) (sel seen : Option ℕ) (w : ℕ) (k : Kind) → NotIosf k → OwnWrite x sel seen w k
plain_write x sel seen w is_swsm h = tt
plain_write x sel seen w is_sync h = tt
plain_write x sel seen w is_ctrl h = tt
plain_write x sel seen w is_data h = absurd h
plain_write x sel seen w is_other h = tt

plain_action : (f : Family) (x : Access) (sel seen : Option ℕ) (a : Action) → Outside f a → Own f x sel seen a
plain_action f x sel seen (action.Read r) h = plain_read x sel seen (kind f r) h
plain_action f x sel seen (action.Write r w) h = plain_write x sel seen w (kind f r) h
plain_action f x sel seen (action.Wait n) h = tt

loc_plain : {A : Type 0} {f : Family} {x : Access} {sel seen : Option ℕ} {t : Talk A} → Plain f t → Loc f x (λ s _. s ≡ seen) sel seen t
loc_plain only_end = loc_end refl
loc_plain {f = f} {x} {sel} {seen} (only_ask {a} {c} o p) =
    loc_ask (plain_action f x sel seen a o) (λ own r. subst (λ s. Loc f x (λ s _. s ≡ seen) (sel_next f a sel) (seen_then s seen) (c r)) (sym (untouched f own a r o)) (loc_plain {sel = sel_next f a sel} (p r)))

-- ---- the parts of an access

module _ {A : Type 0} {x : Access} {Q : Option ℕ → A → Type 0} {sel seen : Option ℕ} {c : Reply → Talk A} where
  read_ctrl : (f : Family) → ((r : Reply) → Loc f x Q sel seen (c r)) → Loc f x Q sel seen (ask (action.Read 0x11144) c)
  read_ctrl X552 h = loc_ask tt (λ _. h)
  read_ctrl X553 h = loc_ask tt (λ _. h)

  write_ctrl : (f : Family) {w : ℕ} → ((r : Reply) → Loc f x Q (Some w) seen (c r)) → Loc f x Q sel seen (ask (action.Write 0x11144 w) c)
  write_ctrl X552 h = loc_ask tt (λ _. h)
  write_ctrl X553 h = loc_ask tt (λ _. h)

  read_data : (f : Family) → TouchRead x sel seen → ((r : Reply) → Loc f x Q sel (Some (word r)) (c r)) → Loc f x Q sel seen (ask (action.Read 0x11148) c)
  read_data X552 n h = loc_ask n (λ _. h)
  read_data X553 n h = loc_ask n (λ _. h)

  write_data : (f : Family) {w : ℕ} → TouchWrite x sel seen w → ((r : Reply) → Loc f x Q sel (Some w) (c r))
      → Loc f x Q sel seen (ask (action.Write 0x11148 w) c)
  write_data X552 n h = loc_ask n (λ _. h)
  write_data X553 n h = loc_ask n (λ _. h)

idles : {f : Family} {x : Access} {A : Type 0} {Q : Option ℕ → Res A → Type 0} {sel seen : Option ℕ} (pause : ℕ) (k : ℕ → Call A)
    → ((v : ℕ) → Loc f x Q sel seen (k v)) → ((e : Error) → Q seen (Err e)) → Loc f x Q sel seen (and_then (iosf_idle pause) (or_stop k))
unfolding iosf_idle
idles {f} {x} {A} {Q} {sel} {seen} pause k h he =
    by_turns (λ g. (last : ℕ) → Loc f x Q sel seen (and_then (g last) (or_stop k))) (iosf_turn pause) (λ last. fail (Timeout 0x11144 0x80000000 0 last))
    (λ again g last. read_ctrl f (turn again g)) (λ last. loc_end (he _)) 100 0
  where
    step : (again : ℕ → Call ℕ) → ((last : ℕ) → Loc f x Q sel seen (and_then (again last) (or_stop k))) → (v : ℕ) (b : Bool)
        → Loc f x Q sel seen (and_then (pick b (end (Ok v)) (ask (action.Wait pause) (λ _. again v))) (or_stop k))
    step again g v true = h v
    step again g v false = loc_ask tt (λ _ _. g v)

    turn : (again : ℕ → Call ℕ) → ((last : ℕ) → Loc f x Q sel seen (and_then (again last) (or_stop k))) → (r : Reply)
        → Loc f x Q sel seen (and_then (or_stop (λ v. pick (is_clear v 0x80000000) (end (Ok v)) (ask (action.Wait pause) (λ _. again v))) (raw r)) (or_stop k))
    turn again g (Ok v) = step again g v (is_clear v 0x80000000)
    turn again g (Err v) = loc_end (he _)

on_done : {A : Type 0} {f : Family} {x : Access} {Q : Option ℕ → Res A → Type 0} {sel seen : Option ℕ} {t : Call A}
    → Loc f x Q sel seen t → ((e : Error) → Q seen (Err e)) → (r : Reply) → Loc f x Q sel seen (or_stop (λ _. t) (talk.done r))
on_done h he (Ok v) = h
on_done h he (Err v) = loc_end (he _)

-- ---- the accesses

module _ (f : Family) (who : Caller) (a : ℕ) where
  read_loc : (z : Option ℕ) → Loc f (reads who a) (RightGave (reads who a)) z None (kr_read_body who.pause a)
  read_loc z =
      idles who.pause _
      (λ _. write_ctrl f (on_done
      (idles who.pause _ (λ v. loc_pick (is_clear v 0xc0000) (read_data f (refl, refl) give) (loc_end {a = Err _} tt)) (λ e. tt))
      (λ e. tt)))
      (λ e. tt)
    where
      give : (r : Reply) → Loc f (reads who a) (RightGave (reads who a)) (Some a) (Some (word r)) (end (raw r))
      give (Ok v) = loc_end {a = Ok v} refl
      give (Err v) = loc_end {a = Err _} tt

  write_loc : (w : ℕ) (z : Option ℕ) → Loc f (writes who a w) (RightGave (writes who a w)) z None (kr_write_body who.pause a w)
  write_loc w z =
      idles who.pause _
      (λ _. write_ctrl f (on_done
      (write_data f (refl, refl, refl) (on_done
      (idles who.pause _ (λ v. loc_pick (is_clear v 0xc0000) (loc_end {a = Ok tt} tt) (loc_end {a = Err _} tt)) (λ e. tt)) (λ e. tt)))
      (λ e. tt)))
      (λ e. tt)

-- what an access gives where its release has given r too
right_both : (x : Access) (s : Option ℕ) (g : Res (Given x)) (r : Res (Unit {0})) → RightGave x s g → RightGave x s (both g r)
right_both (reads who a) s (Ok v) (Ok u) h = h
right_both (reads who a) s (Ok v) (Err e) h = tt
right_both (reads who a) s (Err e) r h = tt
right_both (writes who a w) s g r h = tt

right_error : (x : Access) (s : Option ℕ) (e : Error) → RightGave x s (Err e)
right_error (reads who a) s e = tt
right_error (writes who a w) s e = tt

locked_loc : (f : Family) (x : Access) (who : Caller) (z : Option ℕ) (body : Call (Given x))
    → ((z : Option ℕ) → Loc f x (RightGave x) z None body) → Loc f x (RightGave x) z None (locked plain (port_of f who) 6 body)
locked_loc f x who z body h =
    subst (Loc f x (RightGave x) z None) (bits_only (port_of f who) body)
    (loc_then (loc_plain (plain_acquire (port_of f who) 6)) taken)
  where
    taken : (y s : Option ℕ) (r : Res (Unit {0})) → s ≡ None → Loc f x (RightGave x) y s (held_taken plain (release_bits (port_of f who) 6) body r)
    taken y s (Err e) n = loc_end (right_error x s e)
    taken y s (Ok _) n =
        subst (λ s. Loc f x (RightGave x) y s (held_taken plain (release_bits (port_of f who) 6) body (Ok tt))) (sym n)
        (loc_then (h y)
        (λ y s g q. loc_then (loc_plain (plain_release (port_of f who) 6)) (λ y s' r e. loc_end (subst (λ t. RightGave x t (both g r)) (sym e) (right_both x s g r q)))))

pub access_own : (f : Family) (x : Access) (z : Option ℕ) → Loc f x (RightGave x) z None (access_talk f x)
unfolding kr_read kr_write
access_own f (reads who a) z = locked_loc f (reads who a) who z (kr_read_body who.pause a) (read_loc f who a)
access_own f (writes who a w) z = locked_loc f (writes who a w) who z (kr_write_body who.pause a w) (write_loc f who a w)
