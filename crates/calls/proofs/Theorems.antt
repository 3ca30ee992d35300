-- What holds of every conversation
use Rattle.hardware.specs.Talk.{Talk, ask, end, pick, Reply}
use Rattle.std.proofs.Common.{◌≡◌, ℕ, suc, ◌+◌, ◌-◌, ◌*◌, ◌<◌, ◌≤◌, false, List, [], ◌∷◌, ◌++◌, length, drop, take, sym, refl, ap, ◌∙◌, ap₂, true≢false, true, Bool, ltb, add-zero, zero-add, arith, le-ltb, lt-ltb, Ok, Err, Option}
use Rattle.hardware.specs.declared.Action.{Action}
use Rattle.hardware.specs.declared.Action.TheVariants.{Read, Write, Wait}
use Rattle.hardware.specs.declared.Port.{Port}
use Rattle.hardware.specs.declared.Error.{Error}
use Rattle.drive.specs.Act.{uses, reply_for, used_by, waited_by, words_of}
use Rattle.hardware.specs.Bound.{Ends, Within}
use Rattle.reference.specs.Out.{Out}
use Rattle.drive.specs.Moves.{Tape}
use Rattle.answers.specs.declared.Value.TheVariants as valuev
use Rattle.answers.specs.declared.Copper.{Copper}
use Rattle.arguments.specs.declared.Watch.{Watch}
use Rattle.arguments.specs.Watch.{stored_in}
use Rattle.operations.specs.declared.Operation.{Operation}
use Rattle.operations.specs.Bounds.{actions, micros}
use Rattle.calls.specs.Conversation.{Conv, conv, begun, gone, refuses, Step, step_talk, left_of, own_of}
use Rattle.calls.specs.Run.{Run, stopped, before, after, tape_of, Shown, shown, left, bad, refused_run, run_all}
use Rattle.calls.specs.Session.{run_of, done_by, written, HostCall, after_calls, done_in_all, Ended, full, OneAction, refused_step, again, as_one, Together}
use Rattle.hardware.specs.declared.Stop.TheVariants.{Done, AfterEnd, BadReply}
use Rattle.calls.proofs.Bounds.{short_begun}
use Rattle.calls.proofs.Counts.{Bounded, went_all, ends_run}
use Rattle.calls.proofs.Laws.{step_refused, step_done, all_ended, all_bad, all_shown}
use Rattle.calls.proofs.Runs.{turn_on, uses_two, no_room, of_run, follow, one_run, run_fits, after_append, after_used_more, same_counts, words_append, used_append, length_after, at_after, used_after, transcript_after, sets_words, slice_words}

-- every conversation ends, whatever is replied
pub ends : {A : Type 0} (t : Talk A) (f : ℕ → Reply) → Ends t f
ends (end r) f = record { steps = 0; answer = r; there = refl }
ends (ask a k) f =
    let e : Ends (k (f 0)) (λ i. f (suc i)) = ends (k (f 0)) (λ i. f (suc i)) in
    record { steps = suc e.steps; answer = e.answer; there = e.there }

-- ---- what a run leaves

module _ (c : Conv) (rs t : List ℕ) (at : ℕ) where
  fits : 3 * length (done_by c rs t at) ≤ length t - at
  fits =
      of_run c.talk rs (length t - at) (λ (r : Run Out). 3 * length r.done ≤ length t - at) (λ s. omega arith) (run_fits c.talk rs (length t - at))

  -- its next place is three words for each action behind its first
  pub next_place : (run_all c rs t at).tape.at ≡ at + 3 * length (done_by c rs t at)
  next_place = rw (all_shown c rs t at) (at_after (tape_of c t at 0) (done_by c rs t at))

  -- the reply words used are those of the actions done
  pub used_words : (run_all c rs t at).tape.used ≡ used_by (done_by c rs t at)
  used_words = rw (all_shown c rs t at) (used_after (tape_of c t at 0) (done_by c rs t at) ∙ zero-add _)

  -- the transcript before the place and behind the words of the actions done is as it was
  pub run_transcript : (run_all c rs t at).tape.transcript
      ≡ take at t ++ words_of (done_by c rs t at) ++ drop (at + 3 * length (done_by c rs t at)) t
  run_transcript = rw (all_shown c rs t at) (transcript_after (tape_of c t at 0) (done_by c rs t at) ∙ sets_words (done_by c rs t at) t at fits)

  -- so the words written are those of the actions done
  pub written_words : written at (run_all c rs t at) ≡ words_of (done_by c rs t at)
  written_words =
      rw (next_place, ap (λ (s : Shown). s.tape.transcript) (all_shown c rs t at) ∙ transcript_after (tape_of c t at 0) (done_by c rs t at))
      (slice_words (done_by c rs t at) t at fits)

-- a run's next place is three words for each action behind its first, and within its transcript
pub record Placed (s : Shown) (t : List ℕ) (at : ℕ) : Type 0 where
  pub actions : ℕ
  pub place : s.tape.at ≡ at + 3 * actions
  pub within : 3 * actions ≤ length t - at
  pub same_length : length s.tape.transcript ≡ length t

pub placed : (c : Conv) (rs t : List ℕ) (at : ℕ) → Placed (run_all c rs t at) t at
placed c rs t at =
    record {
      actions = length (done_by c rs t at);
      place = next_place c rs t at;
      within = fits c rs t at;
      same_length = rw (all_shown c rs t at) (length_after (tape_of c t at 0) (done_by c rs t at));
    }

-- ---- a step is a run of one action

-- of a conversation that asks for an action: a step, and a run over its reply with room for just one action. With more room a
-- run would go on over the waits behind it, which use no reply
module _ (c : Conv) (kind value : ℕ) (t : List ℕ) (at : ℕ) {a : Action} {k : Reply → Talk Out}
    (asks : c.talk ≡ ask a k) where
  pub step_is_run : kind ≤ 1 → 3 ≤ length t - at → length t - at < 6
      → OneAction (step_talk c kind value) (run_all c (kind ∷ value ∷ []) t at)
  step_is_run low some few =
      let rs : List ℕ = kind ∷ value ∷ [] in
      let room : ℕ = length t - at in
      let good : bad rs ≡ false = rw (le-ltb _ _ low) refl in
      let u : Talk Out = k (reply_for a rs) in
      let left_over : room - 3 < 3 = omega arith in
      let enough : uses a ≤ 2 = uses_two a in
      let ran : run_of c.talk rs room ≡ before a (stopped u (full u)) =
      rw (asks, good) (turn_on a k rs room some enough ∙ ap (before a) (no_room u (drop (uses a) rs) (room - 3) left_over)) in
      let one : run_all c rs t at ≡ shown c.port (tape_of c t at 0) (before a (stopped u (full u))) =
      all_shown c rs t at ∙ ap (shown c.port (tape_of c t at 0)) ran in
      let stepped : record { stop = Done; to = gone c a u } ≡ step_talk c kind value = step_done c kind value asks (taken a) refl refl in
      record {
        step_stop = ap (λ (s : Step). s.stop) (sym stepped);
        run_stop = rw one refl;
        conversation = ap (λ (s : Step). s.to) (sym stepped) ∙ ap left (sym one);
      }
    where
      taken : (a : Action) → refuses a kind ≡ false
      taken (Read reg) = le-ltb _ _ low
      taken (Write reg v) = le-ltb _ _ low
      taken (Wait micros) = refl

  -- a reply whose kind is above 1 is turned away by both, where the action uses a reply
  pub both_refuse : uses a ≡ 2 → 1 < kind
      → (step_talk c kind value ≡ refused_step BadReply c)
      × (run_all c (kind ∷ value ∷ []) t at ≡ refused_run BadReply c t at)
  both_refuse used high =
      let refused : refuses a kind ≡ true = simp (used, lt-ltb _ _ high) in
      let bad_kind : bad (kind ∷ value ∷ []) ≡ true = simp (lt-ltb _ _ high) in
      (sym (step_refused c kind value asks refused), sym (all_bad c (kind ∷ value ∷ []) t at asks bad_kind))

  -- a wait takes a step's reply of any kind
  pub any_kind : uses a ≡ 0 → step_talk c kind value ≡ step_talk c 0 0
  any_kind none = rw (asks, none) refl

-- after the end a step and a run are turned away
pub both_ended : (c : Conv) (kind value : ℕ) (rs t : List ℕ) (at : ℕ) {r : Out} → c.talk ≡ end r
    → (step_talk c kind value ≡ refused_step AfterEnd c)
    × (run_all c rs t at ≡ refused_run AfterEnd c t at)
both_ended c kind value rs t at ended = (rw ended refl, sym (all_ended c rs t at ended))

-- ---- two runs in a row are one

-- the conversation that two leave, of which the second has a buffer of its own
left_both : (p : Port) (T T₁ : Tape) (r s : Run Out) (t₂ : List ℕ) (at₂ : ℕ) → T.actions ≡ T₁.actions → T.micros ≡ T₁.micros
    → left (shown p T (follow r s)) ≡ left (shown p (tape_of (left (shown p T₁ r)) t₂ at₂ 0) s)
left_both p T T₁ r s t₂ at₂ h k =
    let mid = same_counts T T₁ r.done h k in
    let counts = same_counts (after T r.done) (tape_of (left (shown p T₁ r)) t₂ at₂ 0) s.done mid.0 mid.1 in
    rw (after_append T r.done s.done) (ap₂ (conv p s.talk) counts.0 counts.1)

-- two scripts that are taken are one that is taken
pub bad_append : (rs more : List ℕ) → bad rs ≡ false → bad (rs ++ more) ≡ bad more
bad_append [] more h = refl
bad_append (kind ∷ []) more h = absurd (true≢false h)
bad_append (kind ∷ value ∷ rs) more h = go (ltb 1 kind) h (bad_append rs more)
  where
    go : (b : Bool) → pick b true (bad rs) ≡ false → (bad rs ≡ false → bad (rs ++ more) ≡ bad more) → pick b true (bad (rs ++ more)) ≡ bad more
    go true h ih = absurd (true≢false h)
    go false h ih = ih h

-- a run over a first part of a script, and a second over what is left of the whole, are one run over the whole
module _ (c : Conv) (rs more : List ℕ) (good : bad (rs ++ more) ≡ false) where
  one_of : (t₁ t₂ t : List ℕ) (at₁ at₂ at : ℕ) (first : Shown) → first ≡ run_all c rs t₁ at₁
      → length t - at ≡ 3 * length (done_by c rs t₁ at₁) + (length t₂ - at₂)
      → run_of c.talk (rs ++ more) (length t - at)
      ≡ follow (run_of c.talk rs (length t₁ - at₁)) (run_of first.talk (drop first.tape.used (rs ++ more)) (length t₂ - at₂))
  one_of t₁ t₂ t at₁ at₂ at first e room =
      rw (e, used_words c rs t₁ at₁, all_shown c rs t₁ at₁, room) (one_run c.talk rs more (length t₁ - at₁) (length t₂ - at₂) good)

  -- the second in the same buffer, behind the words that are there
  pub stop_and_go : (t : List ℕ) (at : ℕ) (first : Shown) → first ≡ run_all c rs t at
      → run_all c (rs ++ more) t at
      ≡ as_one first (again first (rs ++ more) first.tape.transcript first.tape.at)
  stop_and_go t at first e =
      let T : Tape = tape_of c t at 0 in
      let r : Run Out = run_of c.talk rs (length t - at) in
      let shows : first ≡ shown c.port T r = e ∙ all_shown c rs t at in
      let fit : 3 * length r.done ≤ length t - at = fits c rs t at in
      let room : length t - at ≡ 3 * length r.done + (length first.tape.transcript - first.tape.at) =
      rw (shows, length_after T r.done, at_after T r.done) (omega arith) in
      let u : Tape = after T r.done in
      let v : Tape = tape_of (conv c.port r.talk u.actions u.micros) u.transcript u.at 0 in
      let s : Run Out = run_of r.talk (drop u.used (rs ++ more)) (length u.transcript - u.at) in
      all_shown c (rs ++ more) t at
      ∙ ap (shown c.port T) (one_of t first.tape.transcript t at first.tape.at at first e room)
      ∙ rw (
        all_shown (left first) (drop first.tape.used (rs ++ more)) first.tape.transcript first.tape.at,
        shows,
        after_append T r.done s.done,
        ← after_used_more u.used v s.done,
        add-zero u.used,
      )
      refl

  -- the second in another buffer, from any place; the one has room for what the first wrote and for as much as the second has
  pub another_buffer : (t₁ t₂ t : List ℕ) (at₁ at₂ at : ℕ) (first second one : Shown)
      → first ≡ run_all c rs t₁ at₁ → second ≡ again first (rs ++ more) t₂ at₂
      → one ≡ run_all c (rs ++ more) t at
      → length t - at ≡ first.tape.at - at₁ + (length t₂ - at₂)
      → Together one first second at at₁ at₂
  another_buffer t₁ t₂ t at₁ at₂ at first second one e₁ e₂ e room =
      let rs₂ : List ℕ = drop first.tape.used (rs ++ more) in
      let r : Run Out = run_of c.talk rs (length t₁ - at₁) in
      let s : Run Out = run_of first.talk rs₂ (length t₂ - at₂) in
      let place : first.tape.at ≡ at₁ + 3 * length r.done = ap (λ (x : Shown). x.tape.at) e₁ ∙ next_place c rs t₁ at₁ in
      let whole : run_of c.talk (rs ++ more) (length t - at) ≡ follow r s = one_of t₁ t₂ t at₁ at₂ at first e₁ (omega arith) in
      let done : done_by c (rs ++ more) t at ≡ r.done ++ s.done = ap (λ (x : Run Out). x.done) whole in
      let shows : first ≡ shown c.port (tape_of c t₁ at₁ 0) r = e₁ ∙ all_shown c rs t₁ at₁ in
      let shows₂ : second ≡ shown first.port (tape_of (left first) t₂ at₂ 0) s = e₂ ∙ all_shown (left first) rs₂ t₂ at₂ in
      let shows_one : one ≡ shown c.port (tape_of c t at 0) (follow r s) =
      e ∙ all_shown c (rs ++ more) t at ∙ ap (shown c.port (tape_of c t at 0)) whole in
      record {
        stop = ap (λ (x : Shown). x.stop) shows_one ∙ rw (shows₂, shows) refl;
        conversation =
            ap left shows_one
            ∙ left_both c.port (tape_of c t at 0) (tape_of c t₁ at₁ 0) r s t₂ at₂ refl refl
            ∙ sym (ap left (shows₂ ∙ ap (λ (x : Shown). shown x.port (tape_of (left x) t₂ at₂ 0) s) shows));
        used =
            ap (λ (x : Shown). x.tape.used) e
            ∙ used_words c (rs ++ more) t at
            ∙ ap used_by done
            ∙ used_append r.done s.done
            ∙ sym (ap₂ (λ (x y : ℕ). x + y) (ap (λ (x : Shown). x.tape.used) e₁ ∙ used_words c rs t₁ at₁)
            (ap (λ (x : Shown). x.tape.used) e₂ ∙ used_words (left first) rs₂ t₂ at₂));
        words =
            rw (e, e₂, written_words (left first) rs₂ t₂ at₂, ap (written at₁) e₁ ∙ written_words c rs t₁ at₁)
            (written_words c (rs ++ more) t at ∙ ap words_of done ∙ words_append r.done s.done);
      }

-- ---- the counts

module _ (port : Port) (what : Operation) (ws : List ℕ) where
  bounded_begun : Bounded (begun port what ws) (short_begun port what ws).n (short_begun port what ws).m
  bounded_begun =
      let short = short_begun port what ws in
      record { within = short.within; actions = omega (arith, short.few); micros = omega (arith, short.brief) }

  -- after any calls the counts of what `begin` made are the number of actions done in them, and the sum of their waits
  pub counts_exact : (calls : List HostCall)
      → ((after_calls (begun port what ws) calls).actions ≡ length (done_in_all (begun port what ws) calls))
      × ((after_calls (begun port what ws) calls).micros ≡ waited_by (done_in_all (begun port what ws) calls))
  counts_exact calls =
      let w = went_all calls (begun port what ws) bounded_begun in
      (w.actions ∙ zero-add _, w.micros ∙ zero-add _)

  -- which are no more than the operation's bound
  pub calls_within : (calls : List HostCall)
      → (length (done_in_all (begun port what ws) calls) ≤ actions what ws)
      × (waited_by (done_in_all (begun port what ws) calls) ≤ micros what ws)
  calls_within calls =
      let short = short_begun port what ws in
      let w = went_all calls (begun port what ws) bounded_begun in
      (omega (arith, short.of_actions, w.leaves.actions), omega (arith, short.of_micros, w.leaves.micros))

-- ---- the end within the bound

-- a run of what `begin` made over as many replies as its bound has actions, with room for them, comes to its end
pub run_ends : (port : Port) (what : Operation) (ws rs t : List ℕ) (at : ℕ) → bad rs ≡ false
    → 2 * actions what ws ≤ length rs → 3 * actions what ws ≤ length t - at
    → Ended (run_all (begun port what ws) rs t at).talk
run_ends port what ws rs t at good replies room =
    let short = short_begun port what ws in
    rw (all_shown (begun port what ws) rs t at)
    (go (begun port what ws).talk short.within (omega (arith, short.of_actions)) (omega (arith, short.of_actions)))
  where
    go : (u : Talk Out) {n m : ℕ} → Within u n m → 2 * n ≤ length rs → 3 * n ≤ length t - at → Ended (run_of u rs (length t - at)).talk
    go (end r) w h h' = record { answer = r; there = refl }
    go (ask a k) w h h' = rw good (ends_run w rs (length t - at) h h')

-- ---- what a poll leaves in its Watch

-- one that still runs, or that failed: the Watch is as it was
pub poll_runs : (w : Watch) (a : Action) (k : Reply → Talk Out) → stored_in w (left_of (ask a k) (own_of w)) ≡ w
poll_runs w a k = refl

pub poll_failed : (w : Watch) (e : Error) (ws : List ℕ) → stored_in w (left_of (end (Err e, ws)) (own_of w)) ≡ w
poll_failed w e ws = refl

-- one that ended well: its two fields are the answer's
pub poll_done : (w : Watch) (seen : Copper) (forced : Option ℕ) (reforced : ℕ) (ws : List ℕ)
    → stored_in w (left_of (end (Ok (valuev.Poll seen forced reforced), ws)) (own_of w))
    ≡ record { phy = w.phy; internal = w.internal; forced = forced; reforced = reforced }
poll_done w seen forced reforced ws = refl
