-- A talk's runs: stopping and going on, the room, and what is left on the tape
use Rattle.hardware.specs.Talk.{Talk, ask, end, pick, Reply}
use Rattle.std.proofs.Common.{◌≡◌, ℕ, suc, ◌+◌, ◌-◌, ◌*◌, ◌%◌, ◌^◌, ◌<◌, ◌≤◌, Bool, true, false, ltb, List, [], ◌∷◌, ◌++◌, length, get_or, take, drop, set, sym, refl, ap, ◌∙◌, true≢false, zero-add, add-zero, add_assoc, add-suc, suc-add, arith, length-append, length-take-le, take_at, drop_at, take-append-drop, append-nil, drop-drop, ltb-false, ltb-true, le-ltb, lt-ltb}
use lib.ListN.{get_or-append}
use lib.Seq.{drop-append-le, sets, sets-eq, length-sets, slice, slice_empty}
use Rattle.hardware.specs.Bound.{waited}
use Rattle.hardware.specs.declared.Action.{Action}
use Rattle.hardware.specs.declared.Action.TheVariants.{Read, Write, Wait}
use Rattle.drive.specs.Act.{uses, words, reply_of, reply_for, used_by, waited_by, words_of}
use Rattle.drive.specs.Moves.{Tape, on_tape}
use Rattle.reference.specs.Out.{Out}
use Rattle.calls.specs.Run.{Run, stopped, before, run_talk, bad, after}
use Rattle.calls.specs.Session.{run_of, full, stop_of, used_more}
use Rattle.hardware.specs.declared.Stop.{Stop}
use Rattle.hardware.specs.declared.Stop.TheVariants.{AfterEnd, BadReply, NoRoom, NoReply}

-- ---- a talk's runs

module _ {A : Type 0} (a : Action) (k : Reply → Talk A) (rs : List ℕ) (room : ℕ) where
  pub turn_full : room < 3 → run_talk (ask a k) rs room ≡ stopped (ask a k) NoRoom
  turn_full h = simp (lt-ltb _ _ h)

  pub turn_on : 3 ≤ room → uses a ≤ length rs
      → run_talk (ask a k) rs room ≡ before a (run_talk (k (reply_for a rs)) (drop (uses a) rs) (room - 3))
  turn_on h h' = simp (le-ltb _ _ h, le-ltb _ _ h')

  -- what holds of a run that stops at once, and of one that does an action first, holds of every run
  pub by_turn : (P : Run A → Type 0) → (room < 3 → P (stopped (ask a k) NoRoom)) → (length rs < uses a → P (stopped (ask a k) NoReply))
      → (3 ≤ room → uses a ≤ length rs → P (before a (run_talk (k (reply_for a rs)) (drop (uses a) rs) (room - 3))))
      → P (run_talk (ask a k) rs room)
  by_turn P no_room no_reply on = go (ltb room 3) refl (ltb (length rs) (uses a)) refl
    where
      go : (b : Bool) → ltb room 3 ≡ b → (d : Bool) → ltb (length rs) (uses a) ≡ d
          → P (pick b (stopped (ask a k) NoRoom)
          (pick d (stopped (ask a k) NoReply) (before a (run_talk (k (reply_for a rs)) (drop (uses a) rs) (room - 3)))))
      go true e d f = no_room (ltb-true _ _ e)
      go false e true f = no_reply (ltb-true _ _ f)
      go false e false f = on (ltb-false _ _ e) (ltb-false _ _ f)

-- replies behind those that an action uses do not change what it is answered
pair_more : (rs more : List ℕ) → 2 ≤ length rs → reply_of (get_or (rs ++ more) 0 0) (get_or (rs ++ more) 1 0) ≡ reply_of (get_or rs 0 0) (get_or rs 1 0)
pair_more rs more h =
    let h₀ : 0 < length rs = omega arith in
    let h₁ : 1 < length rs = omega arith in
    rw (get_or-append rs more 0 0 h₀, get_or-append rs more 0 1 h₁)

reply_more : (a : Action) (rs more : List ℕ) → uses a ≤ length rs → reply_for a (rs ++ more) ≡ reply_for a rs
reply_more (Read reg) rs more h = pair_more rs more h
reply_more (Write reg v) rs more h = pair_more rs more h
reply_more (Wait micros) rs more h = refl

-- an action uses two reply words at the most
pub uses_two : (a : Action) → uses a ≤ 2
uses_two (Read reg) = omega arith
uses_two (Write reg v) = omega arith
uses_two (Wait micros) = omega arith

-- a script behind its first reply is taken as the whole is
bad_tail : (b c : Bool) → pick b true c ≡ false → c ≡ false
bad_tail true c h = absurd (true≢false h)
bad_tail false c h = h

bad_rest : (a : Action) (rs : List ℕ) → bad rs ≡ false → bad (drop (uses a) rs) ≡ false
bad_rest (Wait micros) rs h = h
bad_rest (Read reg) [] h = refl
bad_rest (Read reg) (kind ∷ []) h = absurd (true≢false h)
bad_rest (Read reg) (kind ∷ value ∷ rs) h = bad_tail (ltb 1 kind) (bad rs) h
bad_rest (Write reg v) [] h = refl
bad_rest (Write reg v) (kind ∷ []) h = absurd (true≢false h)
bad_rest (Write reg v) (kind ∷ value ∷ rs) h = bad_tail (ltb 1 kind) (bad rs) h

-- what a run and then another do
abbrev pub follow : Run Out → Run Out → Run Out
follow r s = record { done = r.done ++ s.done; talk = s.talk; stop = stop_of r.talk r.stop s.stop }

-- a run, and the call that goes on from where it stopped, with room for so many words more; rs is the whole script
abbrev pub go_on : Run Out → List ℕ → ℕ → Run Out
go_on r rs room = follow r (run_of r.talk (drop (used_by r.done) rs) room)

go_on_stopped : (a : Action) (k : Reply → Talk Out) (s : Stop) (rs : List ℕ) (room : ℕ) → bad rs ≡ false
    → run_talk (ask a k) rs (3 * length (stopped (ask a k) s).done + room) ≡ go_on (stopped (ask a k) s) rs room
go_on_stopped a k s rs room good = rw (zero-add room, good) refl

-- a run over the whole script, with the room that both use and have, is the two of them
go_on_lem : (t : Talk Out) (rs more : List ℕ) (room more_room : ℕ) → bad (rs ++ more) ≡ false
    → run_talk t (rs ++ more) (3 * length (run_talk t rs room).done + more_room) ≡ go_on (run_talk t rs room) (rs ++ more) more_room
go_on_lem (end r) rs more room more_room good = refl
go_on_lem (ask a k) rs more room more_room good =
    by_turn a k rs room (λ (r : Run Out). run_talk (ask a k) (rs ++ more) (3 * length r.done + more_room) ≡ go_on r (rs ++ more) more_room)
    (λ h. go_on_stopped a k NoRoom (rs ++ more) more_room good)
    (λ h. go_on_stopped a k NoReply (rs ++ more) more_room good)
    (λ h h'.
    let run : Run Out = run_talk (k (reply_for a rs)) (drop (uses a) rs) (room - 3) in
    let total : ℕ = 3 * suc (length run.done) + more_room in
    let h₂ : 3 ≤ total = omega arith in
    let h₂' : uses a ≤ length (rs ++ more) = simp length-append (omega arith) in
    let left : total - 3 ≡ 3 * length run.done + more_room = omega arith in
    let cut : drop (uses a) (rs ++ more) ≡ drop (uses a) rs ++ more = drop-append-le (uses a) rs more h' in
    let good' : bad (drop (uses a) rs ++ more) ≡ false = rw (← cut) (bad_rest a (rs ++ more) good) in
    turn_on a k (rs ++ more) total h₂ h₂'
    ∙ rw (reply_more a rs more h', cut, left)
    (ap (before a) (go_on_lem (k (reply_for a rs)) (drop (uses a) rs) more (room - 3) more_room good')
    ∙ rw (← cut, drop-drop)))

pub one_run : (t : Talk Out) (rs more : List ℕ) (room more_room : ℕ) → bad (rs ++ more) ≡ false
    → run_of t (rs ++ more) (3 * length (run_of t rs room).done + more_room) ≡ go_on (run_of t rs room) (rs ++ more) more_room
one_run (end r) rs more room more_room good = refl
one_run (ask a k) rs more room more_room good = go (bad rs)
  where
    first : Bool → Run Out
    first b = pick b (stopped (ask a k) BadReply) (run_talk (ask a k) rs room)

    go : (b : Bool) → run_of (ask a k) (rs ++ more) (3 * length (first b).done + more_room) ≡ go_on (first b) (rs ++ more) more_room
    go true = rw (zero-add more_room) refl
    go false = rw good (go_on_lem (ask a k) rs more room more_room good)

-- a run stays within its room
pub run_fits : {A : Type 0} (t : Talk A) (rs : List ℕ) (room : ℕ) → 3 * length (run_talk t rs room).done ≤ room
run_fits (end r) rs room = omega arith
run_fits (ask a k) rs room =
    by_turn a k rs room (λ (r : Run _). 3 * length r.done ≤ room) (λ h. omega arith) (λ h. omega arith)
    (λ h h'. omega (arith, run_fits (k (reply_for a rs)) (drop (uses a) rs) (room - 3)))

-- a run that has no room for an action
pub no_room : (t : Talk Out) (rs : List ℕ) (room : ℕ) → room < 3 → run_talk t rs room ≡ stopped t (full t)
no_room (end r) rs room h = refl
no_room (ask a k) rs room h = turn_full a k rs room h

-- what holds of a run that does nothing, and of one over a script that is taken, holds of every call of `run`
pub of_run : (t : Talk Out) (rs : List ℕ) (room : ℕ) (P : Run Out → Type 0)
    → ((s : Stop) → P (stopped t s)) → P (run_talk t rs room) → P (run_of t rs room)
of_run (end r) rs room P none all = none AfterEnd
of_run (ask a k) rs room P none all = go (bad rs)
  where
    go : (b : Bool) → P (pick b (stopped (ask a k) BadReply) (run_talk (ask a k) rs room))
    go true = none BadReply
    go false = all

-- ---- the tape, closed

pub after_append : (t : Tape) (d e : List Action) → after t (d ++ e) ≡ after (after t d) e
after_append t [] e = refl
after_append t (a ∷ d) e = after_append (on_tape t a) d e

pub length_after : (t : Tape) (done : List Action) → length (after t done).transcript ≡ length t.transcript
length_after t [] = refl
length_after t (a ∷ done) = length_after (on_tape t a) done ∙ length-sets t.transcript t.at (words a)

pub at_after : (t : Tape) (done : List Action) → (after t done).at ≡ t.at + 3 * length done
at_after t [] = omega arith
at_after t (a ∷ done) =
    let ih : (after (on_tape t a) done).at ≡ t.at + 3 + 3 * length done = at_after (on_tape t a) done in
    omega arith

pub used_after : (t : Tape) (done : List Action) → (after t done).used ≡ t.used + used_by done
used_after t [] = omega arith
used_after t (a ∷ done) =
    let ih : (after (on_tape t a) done).used ≡ t.used + uses a + used_by done = used_after (on_tape t a) done in
    omega arith

pub actions_after : (t : Tape) (done : List Action) → t.actions < 2 ^ 64 → (after t done).actions ≡ (t.actions + length done) % 2 ^ 64
actions_after t [] h = omega arith
actions_after t (a ∷ done) h =
    let h' : (on_tape t a).actions < 2 ^ 64 = omega arith in
    let ih : (after (on_tape t a) done).actions ≡ ((on_tape t a).actions + length done) % 2 ^ 64 = actions_after (on_tape t a) done h' in
    omega arith

pub micros_after : (t : Tape) (done : List Action) → t.micros < 2 ^ 64 → (after t done).micros ≡ (t.micros + waited_by done) % 2 ^ 64
micros_after t [] h = omega arith
micros_after t (a ∷ done) h =
    let h' : (on_tape t a).micros < 2 ^ 64 = omega arith in
    let ih : (after (on_tape t a) done).micros ≡ ((on_tape t a).micros + waited_by done) % 2 ^ 64 = micros_after (on_tape t a) done h' in
    omega arith

sets_append : (l : List ℕ) (i : ℕ) (vs ws : List ℕ) → sets l i (vs ++ ws) ≡ sets (sets l i vs) (i + length vs) ws
sets_append l i [] ws = simp add-zero
sets_append l i (v ∷ vs) ws = sets_append (set l i v) (suc i) vs ws ∙ simp (suc-add, add-suc)

pub transcript_after : (t : Tape) (done : List Action) → (after t done).transcript ≡ sets t.transcript t.at (words_of done)
transcript_after t [] = refl
transcript_after t (a ∷ done) = transcript_after (on_tape t a) done ∙ sym (sets_append t.transcript t.at (words a) (words_of done))

pub words_of_length : (done : List Action) → length (words_of done) ≡ 3 * length done
words_of_length [] = refl
words_of_length (a ∷ done) =
    let ih : length (words_of done) ≡ 3 * length done = words_of_length done in
    omega arith

pub after_used_more : (n : ℕ) (t : Tape) (d : List Action) → after (used_more n t) d ≡ used_more n (after t d)
after_used_more n t [] = refl
after_used_more n t (a ∷ d) = rw (add_assoc n t.used (uses a)) (after_used_more n (on_tape t a) d)

pub words_append : (d e : List Action) → words_of (d ++ e) ≡ words_of d ++ words_of e
words_append [] e = refl
words_append (a ∷ d) e = ap (λ (l : List ℕ). words a ++ l) (words_append d e)

pub used_append : (d e : List Action) → used_by (d ++ e) ≡ used_by d + used_by e
used_append [] e = sym (zero-add (used_by e))
used_append (a ∷ d) e = rw (used_append d e) (sym (add_assoc (uses a) (used_by d) (used_by e)))

-- the counts go on from the counts alone
pub same_counts : (s t : Tape) (d : List Action) → s.actions ≡ t.actions → s.micros ≡ t.micros
    → ((after s d).actions ≡ (after t d).actions) × ((after s d).micros ≡ (after t d).micros)
same_counts s t [] h k = (h, k)
same_counts s t (a ∷ d) h k = same_counts (on_tape s a) (on_tape t a) d (rw h) (rw k)

pub waited_append : (d e : List Action) → waited_by (d ++ e) ≡ waited_by d + waited_by e
waited_append [] e = sym (zero-add (waited_by e))
waited_append (a ∷ d) e = rw (waited_append d e) (sym (add_assoc (waited a) (waited_by d) (waited_by e)))

-- the words of the actions d, from a place on where there is room for them
pub sets_words : (d : List Action) (t : List ℕ) (at : ℕ) → 3 * length d ≤ length t - at
    → sets t at (words_of d) ≡ take at t ++ words_of d ++ drop (at + 3 * length d) t
sets_words [] t at h = rw (add-zero, append-nil (take at t)) (sym (take-append-drop at t))
sets_words (a ∷ d) t at h =
    let n : length (words_of (a ∷ d)) ≡ 3 * length (a ∷ d) = words_of_length (a ∷ d) in
    let inside : at + length (words_of (a ∷ d)) ≤ length t = omega arith in
    sets-eq (words_of (a ∷ d)) t at inside ∙ rw n

pub slice_words : (d : List Action) (t : List ℕ) (at : ℕ) → 3 * length d ≤ length t - at
    → slice at (at + 3 * length d) (sets t at (words_of d)) ≡ words_of d
slice_words [] t at h = rw add-zero (slice_empty at t)
slice_words (a ∷ d) t at h =
    let n : length (words_of (a ∷ d)) ≡ 3 * length (a ∷ d) = words_of_length (a ∷ d) in
    let inside : at + length (words_of (a ∷ d)) ≤ length t = omega arith in
    let l : length (take at t) ≡ at = length-take-le at t (omega arith) in
    let m : length (take at t ++ words_of (a ∷ d)) ≡ at + 3 * length (a ∷ d) = rw length-append (omega arith) in
    rw (
      sets-eq (words_of (a ∷ d)) t at inside,
      take_at (take at t ++ words_of (a ∷ d)) (drop (at + length (words_of (a ∷ d))) t) (at + 3 * length (a ∷ d)) m,
    )
    (drop_at (take at t) (words_of (a ∷ d)) at l)
