-- A poll inside a window, and one outside all
use Rattle.hardware.specs.Talk.{Talk, Call, Res, Reply, ask, end, and_then, or_stop, pick, return, ◌>>=◌}
use Rattle.hardware.proofs.Laws.{then_assoc}
use Rattle.hardware.specs.Refusal.{refusal}
use Rattle.hardware.proofs.Refusal.{taken as known}
use Rattle.std.proofs.Common.{◌≡◌, ◌⊎◌, inl, inr, ℕ, suc, ◌-◌, ◌*◌, ◌%◌, Bool, true, false, nat_lt, eqb, List, [], ◌∷◌, ◌++◌, length, drop, drop-drop, sym, refl, ap, subst, ◌∙◌, arith, Ok, Err, Option, Some, None}
use Rattle.hardware.specs.declared.Action.{Action}
use Rattle.hardware.specs.declared.Port.{Port}
use Rattle.hardware.specs.declared.Stop.TheVariants.{Done, BadReply, NoReply, NoRoom}
use Rattle.hardware.specs.declared.Error.{Error}
use Rattle.words.specs.Link.{copper}
use Rattle.answers.specs.declared.Copper.TheVariants as copperv
use Rattle.answers.specs.declared.Internal.{Internal}
use Rattle.answers.specs.declared.Internal.TheVariants.{Ixfi, Kr}
use Rattle.answers.specs.declared.Value.{Value}
use Rattle.answers.specs.declared.Value.TheVariants as valuev
use Rattle.arguments.specs.declared.Watch.{Watch}
use Rattle.arguments.specs.Watch.{stored_in}
use mathlib.Core.Path.{fun_ext}
use Rattle.drive.specs.Act.{uses, reply_for, used_by}
use Rattle.reference.specs.Mdio.{read_reg, an_link}
use Rattle.reference.specs.Out.{Out, answer, poll_value}
use Rattle.reference.specs.Watch.{Polled, is_forced, poll, poll_force}
use Rattle.reference.specs.Window.{Due, nothing, force, seen, due_speed, due_down, due_up, due, settle, window_poll}
use Rattle.reference.proofs.Window.{outside}
use Rattle.reference.specs.X552.{kr_autoneg, ixfi}
use Rattle.operations.specs.Operations.{operation}
use Rattle.operations.specs.Request.{at_phy, at_poll, request, refused}
use Rattle.operations.specs.Windows.{inside, are_bad}
use Rattle.operations.specs.declared.Operation.{Operation}
use Rattle.operations.specs.declared.Operation.TheVariants as operationv
use Rattle.calls.specs.Conversation.{Conv, Step, opening, started, begun, gone, refuses, step_on, left_of, own_of}
use Rattle.calls.specs.Run.{Run, stopped, before, run_talk, bad}
use Rattle.calls.specs.Session.{run_of, HostCall, step, run, after_call, after_calls}
use Rattle.calls.specs.Windows.{poll_before, first_part, held_out, reforced_in, UpToForce, AtEnd, at_end, at_ask, IsHeld, HeldOnly}
use Rattle.calls.proofs.Laws.{all_shown}
use Rattle.calls.proofs.Runs.{of_run}

abbrev at_minute : Watch → Option ℕ → Operation
at_minute w minute = operationv.Poll w minute

-- ---- outside

-- outside all windows, or without any, a poll is the one that it was, which is the Rust's: the same conversation, or the same refusal
pub outside_is_poll : (port : Port) (w : Watch) (minute : Option ℕ) (ws : List ℕ) → are_bad minute ws ≡ false → inside minute ws ≡ false
    → begun port (operationv.Poll w minute) ws ≡ poll_before port w
unfolding request
outside_is_poll port w minute ws good out =
    rw (good, out)
    (ap (λ (t : Call Polled). opening port (started (answer poll_value t) (refusal (at_phy port w.phy 0)))) (outside port.pause port w.internal w.forced w.reforced w.phy))

-- ---- the parts of a poll

from_there : Bool → Port → Watch → Res Due → Talk Out
from_there b port w r = answer poll_value (or_stop (settle b port.pause port w.internal w.forced w.reforced) r)

in_parts : (b : Bool) (port : Port) (w : Watch)
    → answer poll_value (window_poll b port.pause port w.phy w.internal w.forced w.reforced) ≡ and_then (first_part port w) (from_there b port w)
unfolding window_poll from_there
in_parts b port w =
    let k : Res Due → Call Polled = or_stop (settle b port.pause port w.internal w.forced w.reforced) in
    ap (λ (t : Talk (Res _)). and_then t (λ r. end (r, []))) (then_assoc (first_part port w) k (or_stop (λ p. end (Ok (poll_value p)))))
    ∙ then_assoc (first_part port w) (λ r. and_then (k r) (or_stop (λ p. end (Ok (poll_value p))))) (λ r. end (r, []))

is_held_out : (port : Port) (w : Watch) (r : Res Due) → from_there true port w r ≡ end (held_out w r)
unfolding from_there
is_held_out port w (Err e) = refl
is_held_out port w (Ok (nothing p)) = refl
is_held_out port w (Ok (force status megabits)) = refl

-- ---- a first part's run, and what comes behind it

module _ {A B : Type 0} (f : A → B) where
  -- an end does nothing
  ended_turn : (a : Action) (c : Reply → Talk A) (shut short : Bool) (r : Run A) (q : Run B)
      → (q.done ≡ r.done) × (q.talk ≡ and_then r.talk (λ x. end (f x)))
      → ((pick shut (stopped (and_then (ask a c) (λ x. end (f x))) NoRoom) (pick short (stopped (and_then (ask a c) (λ x. end (f x))) NoReply) (before a q))).done
      ≡ (pick shut (stopped (ask a c) NoRoom) (pick short (stopped (ask a c) NoReply) (before a r))).done)
      × ((pick shut (stopped (and_then (ask a c) (λ x. end (f x))) NoRoom) (pick short (stopped (and_then (ask a c) (λ x. end (f x))) NoReply) (before a q))).talk
      ≡ and_then (pick shut (stopped (ask a c) NoRoom) (pick short (stopped (ask a c) NoReply) (before a r))).talk (λ x. end (f x)))
  ended_turn a c true short r q e = (refl, refl)
  ended_turn a c false true r q e = (refl, refl)
  ended_turn a c false false r q e = (ap (λ (l : List Action). a ∷ l) e.0, e.1)

  ended_run : (t : Talk A) (rs : List ℕ) (room : ℕ)
      → ((run_talk (and_then t (λ x. end (f x))) rs room).done ≡ (run_talk t rs room).done)
      × ((run_talk (and_then t (λ x. end (f x))) rs room).talk ≡ and_then (run_talk t rs room).talk (λ x. end (f x)))
  ended_run (end r) rs room = (refl, refl)
  ended_run (ask a c) rs room =
      ended_turn a c (nat_lt room 3) (nat_lt (length rs) (uses a)) _ _ (ended_run (c (reply_for a rs)) (drop (uses a) rs) (room - 3))

module _ {A B : Type 0} (k : A → Talk B) where
  more : Talk A → List ℕ → ℕ → List Action
  more (end r) rs room = (run_talk (k r) rs room).done
  more (ask a c) rs room = []

  more_at : Run A → List ℕ → ℕ → List Action
  more_at r rs room = more r.talk (drop (used_by r.done) rs) (room - 3 * length r.done)

  then_turn : (a : Action) (c : Reply → Talk A) (rs : List ℕ) (room : ℕ) (shut short : Bool) (r : Run A) (q : Run B)
      → q.done ≡ r.done ++ more_at r (drop (uses a) rs) (room - 3)
      → (pick shut (stopped (and_then (ask a c) k) NoRoom) (pick short (stopped (and_then (ask a c) k) NoReply) (before a q))).done
      ≡ (pick shut (stopped (ask a c) NoRoom) (pick short (stopped (ask a c) NoReply) (before a r))).done
      ++ more_at (pick shut (stopped (ask a c) NoRoom) (pick short (stopped (ask a c) NoReply) (before a r))) rs room
  unfolding more more_at
  then_turn a c rs room true short r q e = refl
  then_turn a c rs room false true r q e = refl
  then_turn a c rs room false false r q e =
      let left : room - 3 - 3 * length r.done ≡ room - 3 * suc (length r.done) = omega arith in
      ap (λ (l : List Action). a ∷ l) (e ∙ ap (λ (l : List Action). r.done ++ l) (rw (drop-drop, left) refl))

  then_run : (t : Talk A) (rs : List ℕ) (room : ℕ)
      → (run_talk (and_then t k) rs room).done ≡ (run_talk t rs room).done ++ more_at (run_talk t rs room) rs room
  unfolding more more_at
  then_run (end r) rs room = let left : room ≡ room - 0 = omega arith in ap (λ n. (run_talk (k r) rs n).done) left
  then_run (ask a c) rs room =
      then_turn a c rs room (nat_lt room 3) (nat_lt (length rs) (uses a)) _ _ (then_run (c (reply_for a rs)) (drop (uses a) rs) (room - 3))

-- ---- inside

-- what a call of `run` does, of a script that is taken, is what the talk does; a talk that has ended does nothing
of_taken : (t : Talk Out) (rs : List ℕ) (room : ℕ) → bad rs ≡ false
    → ((run_of t rs room).done ≡ (run_talk t rs room).done) × ((run_of t rs room).talk ≡ (run_talk t rs room).talk)
of_taken (end r) rs room good = (refl, refl)
of_taken (ask a k) rs room good = rw good (refl, refl)

reforce_behind : (port : Port) (w : Watch) (t : Talk (Res Due)) (rs : List ℕ) (room : ℕ)
    → more (from_there false port w) t rs room ≡ reforced_in port w t rs room
unfolding more from_there
reforce_behind port w (end (Ok (force status megabits))) rs room =
    let p : Call Polled = poll_force port.pause port w.reforced status megabits w.internal in
    let f : Res Polled → Out = λ r. (kept r, []) in
    ap (λ (t : Talk Out). (run_talk t rs room).done) (valued p) ∙ (ended_run f p rs room).0
  where
    kept : Res Polled → Res Value
    kept (Ok p) = Ok (poll_value p)
    kept (Err e) = Err e

    valued_end : (r : Res Polled) → and_then {B = Out} (or_stop (λ p. end (Ok (poll_value p))) r) (λ r. end (r, [])) ≡ end (kept r, [])
    valued_end (Ok p) = refl
    valued_end (Err e) = refl

    valued : (p : Call Polled) → answer poll_value p ≡ and_then {B = Out} p (λ r. end (kept r, []))
    valued p = then_assoc p (or_stop (λ p. end (Ok (poll_value p)))) (λ r. end (r, [])) ∙ ap (and_then p) (fun_ext valued_end)
reforce_behind port w (end (Ok (nothing p))) rs room = refl
reforce_behind port w (end (Err e)) rs room = refl
reforce_behind port w (ask a k) rs room = refl

-- a poll that is not turned away
module _ (port : Port) (w : Watch) (minute : Option ℕ) (ws : List ℕ) (taken : refused port (operationv.Poll w minute) ws ≡ Ok tt) where
  good_windows : are_bad minute ws ≡ false
  unfolding request
  good_windows = (known (request port (operationv.Poll w minute) ws) taken).windows

  taken_before : refusal (at_phy port w.phy 0) ≡ Ok tt
  unfolding request
  taken_before = subst (λ b. refusal (at_poll port w.phy b) ≡ Ok tt) good_windows taken

  talk_inside : inside minute ws ≡ true → (begun port (operationv.Poll w minute) ws).talk ≡ and_then (first_part port w) (λ r. end (held_out w r))
  talk_inside here =
      let begins : (begun port (operationv.Poll w minute) ws).talk ≡ operation port (operationv.Poll w minute) ws = rw taken refl in
      begins
      ∙ ap (λ b. answer poll_value (window_poll b port.pause port w.phy w.internal w.forced w.reforced)) here
      ∙ in_parts true port w
      ∙ ap (and_then (first_part port w)) (fun_ext (is_held_out port w))

  talk_before : (poll_before port w).talk ≡ and_then (first_part port w) (from_there false port w)
  talk_before =
      let begins : (poll_before port w).talk ≡ answer poll_value (poll port.pause port w.phy w.internal w.forced w.reforced) = rw taken_before refl in
      begins ∙ ap (answer poll_value) (sym (outside port.pause port w.internal w.forced w.reforced w.phy)) ∙ in_parts false port w

  -- inside a window, over every script that is taken, with any room
  pub up_to_force : inside minute ws ≡ true → (rs : List ℕ) (room : ℕ) → bad rs ≡ false
      → UpToForce port w (run_talk (first_part port w) rs room) (run_of (begun port (operationv.Poll w minute) ws).talk rs room)
      (run_of (poll_before port w).talk rs room) rs room
  unfolding more more_at
  up_to_force here rs room good =
      let first : Run (Res Due) = run_talk (first_part port w) rs room in
      let t : Talk Out = and_then (first_part port w) (λ r. end (held_out w r)) in
      let u : Talk Out = and_then (first_part port w) (from_there false port w) in
      let does : (run_of (begun port (operationv.Poll w minute) ws).talk rs room).done ≡ first.done =
      ap (λ t. (run_of t rs room).done) (talk_inside here) ∙ (of_taken t rs room good).0 ∙ (ended_run (held_out w) (first_part port w) rs room).0 in
      record {
        same = does;
        ends =
            ap (λ t. (run_of t rs room).talk) (talk_inside here)
            ∙ (of_taken t rs room good).1
            ∙ (ended_run (held_out w) (first_part port w) rs room).1;
        behind =
            ap (λ t. (run_of t rs room).done) talk_before
            ∙ (of_taken u rs room good).0
            ∙ then_run (from_there false port w) (first_part port w) rs room
            ∙ ap (λ (l : List Action). first.done ++ l)
            (reforce_behind port w first.talk (drop (used_by first.done) rs) (room - 3 * length first.done))
            ∙ ap (λ (l : List Action). l ++ reforced_in port w first.talk (drop (used_by first.done) rs) (room - 3 * length first.done)) (sym does);
      }

-- ---- what a poll leaves

module _ {A B : Type 0} {P : A → Type 0} {Q : B → Type 0} where
  at_then : {t : Talk A} {k : A → Talk B} → AtEnd P t → ((a : A) → P a → AtEnd Q (k a)) → AtEnd Q (and_then t k)
  at_then (at_end p) h = h _ p
  at_then (at_ask f) h = at_ask (λ r. at_then (f r) h)

-- the Rust's `?`, of a part that ends with anything
at_bind : {A B : Type 0} {P : Res B → Type 0} (t : Call A) {k : A → Call B} → ((a : A) → AtEnd P (k a)) → ((e : Error) → P (Err e)) → AtEnd P (t >>= k)
at_bind (end (Ok a)) h p = h a
at_bind (end (Err e)) h p = at_end (p e)
at_bind (ask a c) h p = at_ask (λ r. at_bind (c r) h p)

-- a first part sees no held copper, and what it would force is a speed of the internal link
abbrev DueIs : Res Due → Type 0
DueIs (Err e) = Unit {0}
DueIs (Ok (nothing p)) = (m : ℕ) → p.copper ≡ copperv.Held m → ⊥
DueIs (Ok (force status megabits)) = (megabits ≡ 10000) ⊎ (megabits ≡ 1000)

is_down : (reforced : ℕ) → DueIs (Ok (due_down reforced))
is_down reforced m e = let z : ⊥ = cc in z

is_up : (d : Bool) (forced : Option ℕ) (reforced status m : ℕ) → (m ≡ 10000) ⊎ (m ≡ 1000)
    → DueIs (Ok (pick d (seen (copperv.Up m) forced reforced) (force status m)))
is_up true forced reforced status m e = λ n f. let z : ⊥ = cc in z
is_up false forced reforced status m e = e

is_due : (forced : Option ℕ) (reforced status v : ℕ) → DueIs (Ok (due_speed forced reforced status (copper v)))
unfolding copper
is_due forced reforced status v = go (eqb (v % 8) 7) (eqb (v % 8) 5)
  where
    go : (b c : Bool) → DueIs (Ok (due_speed forced reforced status (pick b (Some 10000) (pick c (Some 1000) None))))
    go true c = is_up (is_forced forced status) forced reforced status 10000 (inl refl)
    go false true = is_up (is_forced forced status) forced reforced status 1000 (inr refl)
    go false false = λ m e. let z : ⊥ = cc in z

first_ends : (port : Port) (w : Watch) → AtEnd DueIs (first_part port w)
unfolding due
first_ends port w = at_bind (an_link port w.phy) (λ up. at_first up) (λ e. tt)
  where
    at_second : (v : ℕ) (up : Bool)
        → AtEnd DueIs (return (pick up (due_speed w.forced w.reforced (v % 8) (copper (v % 8))) (due_down w.reforced)))
    at_second v true = at_end (is_due w.forced w.reforced (v % 8) (v % 8))
    at_second v false = at_end (is_down w.reforced)

    at_first : (up : Bool) → AtEnd DueIs (pick up (due_up port w.phy w.forced w.reforced) (return (due_down w.reforced)))
    at_first true = at_bind (read_reg port w.phy 7 0xc800) (λ v. at_bind (an_link port w.phy) (at_second v) (λ e. tt)) (λ e. tt)
    at_first false = at_end (is_down w.reforced)

-- an answer whose copper is not held
abbrev NotHeld : Res Polled → Type 0
NotHeld (Ok p) = (m : ℕ) → p.copper ≡ copperv.Held m → ⊥
NotHeld (Err e) = Unit {0}

its_copper : (p : Polled) (m : ℕ) (f : Option ℕ) (r : ℕ) → ◌≡◌ {A = Res Value} (Ok (poll_value p)) (Ok (valuev.Poll (copperv.Held m) f r))
    → p.copper ≡ copperv.Held m
its_copper p m f r e = cc

-- an error is no held
no_value : {b : Bool} {w : Watch} (e : Error) (ws : List ℕ) → HeldOnly b w (Err e, ws)
no_value {b} {w} e ws m f r h = err_ok h
  where
    err_ok : ◌≡◌ {A = Res Value} (Err e) (Ok (valuev.Poll (copperv.Held m) f r)) → IsHeld b w m f r
    err_ok h = let z : ◌≡◌ {A = ℕ} 0 1 = cc in absurd (omega arith)

module _ (b : Bool) (w : Watch) where
  not_held : (r : Res Polled) → NotHeld r → AtEnd (HeldOnly b w) (answer poll_value (end r))
  not_held (Ok p) n = at_end (λ m f r e. absurd (n m (its_copper p m f r e)))
  not_held (Err e) n = at_end (no_value e [])

  values : (t : Call Polled) → AtEnd NotHeld t → AtEnd (HeldOnly b w) (answer poll_value t)
  values (end r) (at_end n) = not_held r n
  values (ask a k) (at_ask f) = at_ask (λ r. values (k r) (f r))

forced_ends : (port : Port) (reforced status megabits : ℕ) (internal : Internal) → AtEnd NotHeld (poll_force port.pause port reforced status megabits internal)
forced_ends port reforced status megabits Kr =
    at_bind (kr_autoneg port.pause port true true) (λ _. at_end (λ m e. let z : ⊥ = cc in z)) (λ e. tt)
forced_ends port reforced status megabits Ixfi =
    at_bind (ixfi port.pause port (eqb megabits 10000)) (λ _. at_end (λ m e. let z : ⊥ = cc in z)) (λ e. tt)

there_ends : (b : Bool) (port : Port) (w : Watch) (r : Res Due) → DueIs r → AtEnd (HeldOnly b w) (from_there b port w r)
unfolding from_there
there_ends b port w (Err e) d = not_held b w (Err e) tt
there_ends b port w (Ok (nothing p)) d = not_held b w (Ok p) d
there_ends false port w (Ok (force status megabits)) d =
    values false w (poll_force port.pause port w.reforced status megabits w.internal) (forced_ends port w.reforced status megabits w.internal)
there_ends true port w (Ok (force status megabits)) d =
    at_end (λ m f r e. same_held m f r e)
  where
    same_held : (m : ℕ) (f : Option ℕ) (r : ℕ)
        → ◌≡◌ {A = Res Value} (Ok (valuev.Poll (copperv.Held megabits) w.forced w.reforced)) (Ok (valuev.Poll (copperv.Held m) f r))
        → IsHeld true w m f r
    same_held m f r e =
        let same : megabits ≡ m = cc in
        let same_f : w.forced ≡ f = cc in
        let same_r : w.reforced ≡ r = cc in
        record { in_window = refl; speed = subst (λ n. (n ≡ 10000) ⊎ (n ≡ 1000)) same d; same_forced = sym same_f; same_reforced = sym same_r }

begun_ends : (port : Port) (w : Watch) (minute : Option ℕ) (ws : List ℕ)
    → AtEnd (HeldOnly (inside minute ws) w) (begun port (operationv.Poll w minute) ws).talk
begun_ends port w minute ws = go (refused port (operationv.Poll w minute) ws)
  where
    go : (r : Res (Unit {0})) → AtEnd (HeldOnly (inside minute ws) w) (started (operation port (operationv.Poll w minute) ws) r)
    go (Err e) = at_end (no_value e [])
    go (Ok _) =
        rw (in_parts (inside minute ws) port w)
        (at_then (first_ends port w) (there_ends (inside minute ws) port w))

-- what holds of all ends holds after every call
module _ {P : Out → Type 0} where
  at_reply : {a : Action} {k : Reply → Talk Out} → AtEnd P (ask a k) → (r : Reply) → AtEnd P (k r)
  at_reply (at_ask f) r = f r

  at_run : (t : Talk Out) (rs : List ℕ) (room : ℕ) → AtEnd P t → AtEnd P (run_talk t rs room).talk
  at_run (end r) rs room e = e
  at_run (ask a k) rs room e =
      go (nat_lt room 3) (nat_lt (length rs) (uses a)) _ (at_run (k (reply_for a rs)) (drop (uses a) rs) (room - 3) (at_reply e (reply_for a rs)))
    where
      go : (shut short : Bool) (r : Run Out) → AtEnd P r.talk
          → AtEnd P (pick shut (stopped (ask a k) NoRoom) (pick short (stopped (ask a k) NoReply) (before a r))).talk
      go true short r h = e
      go false true r h = e
      go false false r h = h

  at_step : (t : Talk Out) (c : Conv) (kind value : ℕ) → AtEnd P t → AtEnd P c.talk → AtEnd P (step_on t c kind value).to.talk
  at_step (end r) c kind value e h = h
  at_step (ask a k) c kind value e h = go (refuses a kind)
    where
      reply : Reply
      reply = reply_for a (kind ∷ value ∷ [])

      go : (b : Bool) → AtEnd P (pick {A = Step} b (record { stop = BadReply; to = c }) (record { stop = Done; to = gone c a (k reply) })).to.talk
      go true = h
      go false = at_reply e reply

  at_call : (c : Conv) (call : HostCall) → AtEnd P c.talk → AtEnd P (after_call c call).talk
  at_call c (run rs t at) e =
      rw (all_shown c rs t at)
      (of_run c.talk rs (length t - at) (λ (r : Run Out). AtEnd P r.talk) (λ s. e) (at_run c.talk rs (length t - at) e))
  at_call c (step kind value) e = at_step c.talk c kind value e e

  at_calls : (calls : List HostCall) (c : Conv) → AtEnd P c.talk → AtEnd P (after_calls c calls).talk
  at_calls [] c e = e
  at_calls (call ∷ rest) c e = at_calls rest (after_call c call) (at_call c call e)

at_answer : {P : Out → Type 0} {t : Talk Out} {o : Out} → AtEnd P t → t ≡ end o → P o
at_answer {P} {t} {o} e f = go (subst (AtEnd P) f e)
  where
    go : AtEnd P (end o) → P o
    go (at_end p) = p

module _ (port : Port) (w : Watch) (minute : Option ℕ) (ws : List ℕ) (calls : List HostCall) {megabits reforced : ℕ} {forced : Option ℕ} {b : List ℕ}
    (ended : (after_calls (begun port (operationv.Poll w minute) ws) calls).talk ≡ end (Ok (valuev.Poll (copperv.Held megabits) forced reforced), b)) where
  -- after any calls, a poll that has ended with held lies in a window, and has the megabits and the Watch's fields
  pub held_is : IsHeld (inside minute ws) w megabits forced reforced
  held_is = at_answer (at_calls calls (begun port (operationv.Poll w minute) ws) (begun_ends port w minute ws)) ended megabits forced reforced refl

  -- and what `left` gives and `Watch::store` stores leave the Watch as it was
  pub held_stores : stored_in w (left_of (after_calls (begun port (operationv.Poll w minute) ws) calls).talk (own_of w)) ≡ w
  held_stores = rw (ended, held_is.same_forced, held_is.same_reforced) refl
