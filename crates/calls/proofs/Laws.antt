-- What a step and a run come to
use Rattle.hardware.specs.Talk.{Talk, ask, end, pick, Reply}
use Rattle.std.proofs.Common.{◌≡◌, ℕ, suc, ◌+◌, ◌-◌, ◌<◌, ◌≤◌, Bool, true, false, eqb, nat_lt, true≢false, List, [], ◌∷◌, ◌++◌, length, get_or, take, drop, set, sym, refl, ap, ◌∙◌, add-zero, add_assoc, add-suc, suc-add, zero-add, arith, length-drop, take-append-drop, length-take-le, drop-drop, le-ltb, lt-ltb}
use lib.Seq.{sets, length-sets}
use Rattle.hardware.specs.declared.Port.{Port}
use Rattle.hardware.proofs.TwoByTwo.{lone, first_two, just_two}
use Rattle.hardware.specs.declared.Action.{Action}
use Rattle.drive.specs.Act.{uses, words, reply_for}
use Rattle.std.specs.Prelude.{Result, Err, Option, None, Some, ◌⊎◌}
use mathlib.Core.Logic.{inl, inr}
use Rattle.hardware.specs.Numbers.{stop_number}
use Rattle.hardware.specs.declared.Stop.{Stop}
use Rattle.drive.specs.Moves.{Tape, on_tape, Moves, stays, goes, Acts, ActsBy}
use Rattle.drive.proofs.Laws.{by}
use Rattle.calls.specs.Conversation.{Conv, conv, Step, gone, refuses, why_not, goes_on, step_on, step_talk, unlent_step, step_lent}
use Rattle.reference.specs.Out.{Out}
use Rattle.calls.specs.Run.{
  Run,
  Shown,
  stopped,
  before,
  run_talk,
  after,
  tape_of,
  shown,
  run_on,
  run_into,
  bad,
  refused_run,
  run_from,
  run_all,
  unlent_run,
  run_lent,
}
use Rattle.calls.specs.Session.{run_of}
use Rattle.hardware.specs.declared.Stop.TheVariants.{Done, AfterEnd, BadReply, Words, NoReply, NoRoom}

stop_is : (s t : Stop) → ◌≡◌ {A = Option Stop} (Some s) (Some t) → s ≡ t
stop_is s t e = cc

no_stop : {s : Stop} → ◌≡◌ {A = Option Stop} None (Some s) → ⊥
no_stop e = let z : ◌≡◌ {A = ℕ} 0 1 = cc in absurd (omega arith)

-- a step of a conversation that asks for an action
module _ (c : Conv) (kind value : ℕ) {a : Action} {k : Reply → Talk Out} (e : c.talk ≡ ask a k) where
  pub step_refused : refuses a kind ≡ true → record { stop = BadReply; to = c } ≡ step_talk c kind value
  step_refused h = rw (e, h)

  pub step_done : {r : Reply} {to : Conv} → refuses a kind ≡ false → reply_for a (kind ∷ value ∷ []) ≡ r → to ≡ gone c a (k r) → record { stop = Done; to = to } ≡ step_talk c kind value
  step_done h er eto = rw (e, eto, ← er, h)

-- the same where words may have to be lent
module _ (lent : Bool) (c : Conv) (kind value : ℕ) where
  pub step_over : goes_on c.talk ≡ false → record { stop = AfterEnd; to = c } ≡ step_lent lent c kind value
  step_over h = go lent c.talk h
    where
      go : (l : Bool) (t : Talk Out) → goes_on t ≡ false → record { stop = AfterEnd; to = c } ≡ pick l (step_on t c kind value) (unlent_step t c kind)
      go true (end r) h = refl
      go false (end r) h = refl
      go l (ask a k) h = absurd (true≢false h)

  module _ {a : Action} {k : Reply → Talk Out} (e : c.talk ≡ ask a k) where
    abbrev by_why : Bool → Bool → Conv → Step
    by_why l b did =
        pick l (pick b (record { stop = BadReply; to = c }) (record { stop = Done; to = did }))
        (pick b (record { stop = BadReply; to = c }) (record { stop = Words; to = c }))

    why : by_why lent (refuses a kind) (gone c a (k (reply_for a (kind ∷ value ∷ [])))) ≡ step_lent lent c kind value
    why = ap (λ (u : Talk Out). pick lent (step_on u c kind value) (unlent_step u c kind)) (sym e)

    pub step_stopped : {s : Stop} → why_not a kind lent ≡ Some s → record { stop = s; to = c } ≡ step_lent lent c kind value
    step_stopped {s} h = go (refuses a kind) lent _ h ∙ why
      where
        go : (b l : Bool) (did : Conv) → pick b (Some BadReply) (pick l None (Some Words)) ≡ Some s → ◌≡◌ {A = Step} (record { stop = s; to = c }) (by_why l b did)
        go true true did h = ap (λ (x : Stop). record { stop = x; to = c }) (stop_is s BadReply (sym h))
        go true false did h = ap (λ (x : Stop). record { stop = x; to = c }) (stop_is s BadReply (sym h))
        go false true did h = absurd (no_stop h)
        go false false did h = ap (λ (x : Stop). record { stop = x; to = c }) (stop_is s Words (sym h))

    pub step_went : {r : Reply} {to : Conv} → why_not a kind lent ≡ None → reply_for a (kind ∷ value ∷ []) ≡ r → to ≡ gone c a (k r)
        → record { stop = Done; to = to } ≡ step_lent lent c kind value
    step_went {r} {to} h er eto =
        let did : to ≡ gone c a (k (reply_for a (kind ∷ value ∷ []))) = eto ∙ ap (λ (x : Reply). gone c a (k x)) (sym er) in
        go (refuses a kind) lent h ∙ ap (by_why lent (refuses a kind)) did ∙ why
      where
        go : (b l : Bool) → pick b (Some BadReply) (pick l None (Some Words)) ≡ None → ◌≡◌ {A = Step} (record { stop = Done; to = to }) (by_why l b to)
        go true l h = absurd (no_stop (sym h))
        go false true h = refl
        go false false h = absurd (no_stop (sym h))

-- the script's check, two words at a time
abbrev either : (kind value : ℕ) → Bool → Bool
either kind value rest = pick (nat_lt 1 kind) true rest

pub bad_short : (rs : List ℕ) → 0 < length rs → length rs < 2 → bad rs ≡ true
bad_short rs h k = lone bad rs h k

pub bad_first : (p q : List ℕ) → 2 ≤ length p → 1 < get_or p 0 0 → bad (p ++ q) ≡ true
bad_first p q h k = first_two bad either (λ x y ws. refl) p q h ∙ simp (lt-ltb _ _ k)

pub bad_then : (p q : List ℕ) → length p ≡ 2 → get_or p 0 0 ≤ 1 → bad (p ++ q) ≡ bad q
bad_then p q h k = just_two bad either (λ x y ws. refl) p q h ∙ simp (le-ltb _ _ k)

-- how a run goes on, and where it stops

run_one : (p : Port) (rs : List ℕ) (t : Tape) (a : Action) (f : Reply → Talk Out) → 3 ≤ length t.transcript - t.at → uses a ≤ length rs - t.used
    → run_on p (ask a f) rs t ≡ run_on p (f (reply_for a (drop t.used rs))) rs (on_tape t a)
unfolding run_on
run_one p rs t a f h k =
    let room : length (sets t.transcript t.at (words a)) - (t.at + 3) ≡ length t.transcript - t.at - 3 = simp length-sets (omega arith) in
    simp (le-ltb _ _ h, length-drop, le-ltb _ _ k, drop-drop, room)

run_moves : (p : Port) {rs : List ℕ} {m n : Talk Out} {t u : Tape} → Moves rs m t n u → run_on p n rs u ≡ run_on p m rs t
run_moves p stays = refl
run_moves p {rs} (goes {a} {k = f} {t = t} h k q) = run_moves p q ∙ sym (run_one p rs t a f h k)

module _ (p : Port) {rs : List ℕ} {m₀ m : Talk Out} {t₀ t : Tape} (q : Moves rs m₀ t₀ m t) where
  pub run_ended : {r : Out} → m ≡ end r → shown p t (stopped m Done) ≡ run_on p m₀ rs t₀
  unfolding run_on
  run_ended e =
      let here : shown p t (stopped m Done) ≡ run_on p m rs t = rw e in
      here ∙ run_moves p q

  module _ {a : Action} {k : Reply → Talk Out} (e : m ≡ ask a k) where
    pub run_full : length t.transcript - t.at < 3 → shown p t (stopped m NoRoom) ≡ run_on p m₀ rs t₀
    unfolding run_on
    run_full h =
        let here : shown p t (stopped m NoRoom) ≡ run_on p m rs t = rw e (simp (lt-ltb _ _ h)) in
        here ∙ run_moves p q

    pub run_dry : 3 ≤ length t.transcript - t.at → length rs - t.used < uses a → shown p t (stopped m NoReply) ≡ run_on p m₀ rs t₀
    unfolding run_on
    run_dry h k' =
        let here : shown p t (stopped m NoReply) ≡ run_on p m rs t = rw e (simp (le-ltb _ _ h, length-drop, lt-ltb _ _ k')) in
        here ∙ run_moves p q

    -- where an action is short of room or of a reply
    pub run_short : {t' : Tape} {r : Result Reply Stop} {s : Stop} → t.used ≤ length rs → Acts a rs t r t' → r ≡ Err s
        → shown p t' (stopped m s) ≡ run_on p m₀ rs t₀
    run_short {t'} {s = s} in_it acts is = go s (by acts is)
      where
        go : (s : Stop) → ActsBy a rs t (Err s) t' → shown p t' (stopped m s) ≡ run_on p m₀ rs t₀
        go NoRoom (same, room) = ap (λ (x : Tape). shown p x (stopped m NoRoom)) same ∙ run_full room
        go NoReply (same, why) = ap (λ (x : Tape). shown p x (stopped m NoReply)) same ∙ run_dry why.0 (why.1 in_it)
        go Done (same, never) = absurd never
        go AfterEnd (same, never) = absurd never
        go BadReply (same, never) = absurd never
        go Words (same, never) = absurd never

-- a run into the part of a transcript that starts at its write place

set_shift : (p s : List ℕ) (i a : ℕ) → set (p ++ s) (length p + i) a ≡ p ++ set s i a
set_shift [] s i a = simp zero-add
set_shift (x ∷ p) s i a = rw (suc-add (length p) i) (ap (λ (l : List ℕ). x ∷ l) (set_shift p s i a))

sets_shift : (p s : List ℕ) (i : ℕ) (ws : List ℕ) → sets (p ++ s) (length p + i) ws ≡ p ++ sets s i ws
sets_shift p s i [] = refl
sets_shift p s i (a ∷ ws) = rw (set_shift p s i a, ← add-suc (length p) i) (sets_shift p (set s i a) (suc i) ws)

abbrev moved : List ℕ → Tape → Tape
moved p t =
    record {
      actions = t.actions;
      micros = t.micros;
      transcript = p ++ t.transcript;
      at = length p + t.at;
      used = t.used;
    }

after_moved : (p : List ℕ) (t : Tape) (done : List Action) → after (moved p t) done ≡ moved p (after t done)
after_moved p t [] = refl
after_moved p t (a ∷ done) =
    rw (sets_shift p t.transcript t.at (words a), add_assoc (length p) t.at 3) (after_moved p (on_tape t a) done)

abbrev lifted : List ℕ → Shown → Shown
lifted p s = record { stop = s.stop; port = s.port; talk = s.talk; tape = moved p s.tape }

pub run_part : (c : Conv) (rs t : List ℕ) (at : ℕ) → at ≤ length t → run_into c rs t at 0 ≡ lifted (take at t) (run_into c rs (drop at t) 0 0)
unfolding run_on
run_part c rs t at h =
    let room : length (drop at t) - 0 ≡ length t - at = simp length-drop (omega arith) in
    let run : Run Out = run_talk c.talk rs (length t - at) in
    rw (room, ← after_moved (take at t) (tape_of c (drop at t) 0 0) run.done, take-append-drop at t, length-take-le at t h, add-zero at)

-- the checks of a run

module _ (c : Conv) (rs t : List ℕ) (at : ℕ) where
  pub all_ended : {r : Out} → c.talk ≡ end r → refused_run AfterEnd c t at ≡ run_all c rs t at
  all_ended e = ap (λ (x : Talk Out). run_from x c rs t at) (sym e)

  module _ {a : Action} {k : Reply → Talk Out} (e : c.talk ≡ ask a k) where
    pub all_bad : bad rs ≡ true → refused_run BadReply c t at ≡ run_all c rs t at
    all_bad b = rw (e, b)

    pub all_run : bad rs ≡ false → run_into c rs t at 0 ≡ run_all c rs t at
    all_run b = rw (e, b)

    pub all_full : bad rs ≡ false → length t < at → refused_run NoRoom c t at ≡ run_all c rs t at
    all_full b h =
        let room : length t - at < 3 = omega arith in
        run_full c.port stays e room ∙ all_run b

-- the same where words may have to be lent

module _ (lent : Bool) (c : Conv) (rs t : List ℕ) (at : ℕ) where
  pub run_over : goes_on c.talk ≡ false → refused_run AfterEnd c t at ≡ run_lent lent c rs t at
  run_over h = go lent c.talk h
    where
      go : (l : Bool) (u : Talk Out) → goes_on u ≡ false → refused_run AfterEnd c t at ≡ pick l (run_from u c rs t at) (unlent_run u c rs t at)
      go true (end r) h = refl
      go false (end r) h = refl
      go l (ask a k) h = absurd (true≢false h)

  abbrev by_check : Bool → Bool → Shown
  by_check l b =
      pick l (pick b (refused_run BadReply c t at) (run_into c rs t at 0)) (pick b (refused_run BadReply c t at) (refused_run Words c t at))

  checked : goes_on c.talk ≡ true → by_check lent (bad rs) ≡ run_lent lent c rs t at
  checked h = go c.talk h
    where
      go : (u : Talk Out) → goes_on u ≡ true → by_check lent (bad rs) ≡ pick lent (run_from u c rs t at) (unlent_run u c rs t at)
      go (end r) h = absurd (true≢false (sym h))
      go (ask a k) h = refl

  module _ (on : goes_on c.talk ≡ true) where
    pub run_bad : bad rs ≡ true → refused_run BadReply c t at ≡ run_lent lent c rs t at
    run_bad b = go lent ∙ ap (by_check lent) (sym b) ∙ checked on
      where
        go : (l : Bool) → refused_run BadReply c t at ≡ by_check l true
        go true = refl
        go false = refl

    pub run_unlent : bad rs ≡ false → lent ≡ false → refused_run Words c t at ≡ run_lent lent c rs t at
    run_unlent b l = sym (ap (by_check lent) b ∙ ap (λ (x : Bool). by_check x false) l) ∙ checked on

    pub run_taken : bad rs ≡ false → lent ≡ true → run_into c rs t at 0 ≡ run_lent lent c rs t at
    run_taken b l = sym (ap (by_check lent) b ∙ ap (λ (x : Bool). by_check x false) l) ∙ checked on

    pub run_shut : bad rs ≡ false → lent ≡ true → length t < at → refused_run NoRoom c t at ≡ run_lent lent c rs t at
    run_shut b l h = go c.talk refl on ∙ run_taken b l
      where
        go : (u : Talk Out) → c.talk ≡ u → goes_on u ≡ true → refused_run NoRoom c t at ≡ run_into c rs t at 0
        go (end r) e h = absurd (true≢false (sym h))
        go (ask a k) e on = let room : length t - at < 3 = omega arith in run_full c.port stays e room

-- ---- a run that is refused leaves the transcript, and what is to be said

abbrev is_refusal : Stop → Bool
is_refusal AfterEnd = true
is_refusal BadReply = true
is_refusal Words = true
is_refusal _ = false

abbrev Stays : Conv → List ℕ → Shown → Type 0
Stays c t s = (s.tape.transcript ≡ t) × (s.talk ≡ c.talk)

run_goes : {A : Type 0} (m : Talk A) (rs : List ℕ) (room : ℕ) → is_refusal (run_talk m rs room).stop ≡ false
run_goes (end r) rs room = refl
run_goes (ask a k) rs room = by_turn (nat_lt room 3) (nat_lt (length rs) (uses a)) (run_talk (k (reply_for a rs)) (drop (uses a) rs) (room - 3)) (run_goes (k (reply_for a rs)) (drop (uses a) rs) (room - 3))
  where
    by_turn : (full dry : Bool) (r : Run _) → is_refusal r.stop ≡ false
        → is_refusal (pick full (stopped (ask a k) NoRoom) (pick dry (stopped (ask a k) NoReply) (before a r))).stop ≡ false
    by_turn true dry r h = refl
    by_turn false true r h = refl
    by_turn false false r h = h

module _ (c : Conv) (rs t : List ℕ) (at : ℕ) where
  refused_stays : is_refusal (run_all c rs t at).stop ≡ true → Stays c t (run_all c rs t at)
  unfolding run_on
  refused_stays = by_talk c.talk (run_goes c.talk rs (length t - at))
    where
      by_bad : (b : Bool) → is_refusal (run_talk c.talk rs (length t - at)).stop ≡ false
          → is_refusal (pick b (refused_run BadReply c t at) (run_into c rs t at 0)).stop ≡ true
          → Stays c t (pick b (refused_run BadReply c t at) (run_into c rs t at 0))
      by_bad true h e = (refl, refl)
      by_bad false h e = absurd (true≢false (sym e ∙ h))

      by_talk : (m : Talk Out) → is_refusal (run_talk c.talk rs (length t - at)).stop ≡ false → is_refusal (run_from m c rs t at).stop ≡ true
          → Stays c t (run_from m c rs t at)
      by_talk (end r) h e = (refl, refl)
      by_talk (ask a k) h e = by_bad (bad rs) h e

-- the same where words may have to be lent
module _ (lent : Bool) (c : Conv) (rs t : List ℕ) (at : ℕ) where
  unlent_stays : Stays c t (unlent_run c.talk c rs t at)
  unlent_stays = by_talk c.talk
    where
      by_bad : (b : Bool) → Stays c t (pick b (refused_run BadReply c t at) (refused_run Words c t at))
      by_bad true = (refl, refl)
      by_bad false = (refl, refl)

      by_talk : (m : Talk Out) → Stays c t (unlent_run m c rs t at)
      by_talk (end r) = (refl, refl)
      by_talk (ask a k) = by_bad (bad rs)

  lent_stays : is_refusal (run_lent lent c rs t at).stop ≡ true → Stays c t (run_lent lent c rs t at)
  lent_stays = go lent
    where
      go : (l : Bool) → is_refusal (run_lent l c rs t at).stop ≡ true → Stays c t (run_lent l c rs t at)
      go true h = refused_stays c rs t at h
      go false h = unlent_stays

  pub ended_keeps : (run_lent lent c rs t at).stop ≡ AfterEnd → (run_lent lent c rs t at).tape.transcript ≡ t
  ended_keeps e = (lent_stays (ap is_refusal e)).0

  pub bad_keeps : (run_lent lent c rs t at).stop ≡ BadReply → (run_lent lent c rs t at).tape.transcript ≡ t
  bad_keeps e = (lent_stays (ap is_refusal e)).0

  pub words_keep : (run_lent lent c rs t at).stop ≡ Words → (run_lent lent c rs t at).tape.transcript ≡ t
  words_keep e = (lent_stays (ap is_refusal e)).0

  pub refused_says : ((run_lent lent c rs t at).stop ≡ AfterEnd) ⊎ (((run_lent lent c rs t at).stop ≡ BadReply) ⊎ ((run_lent lent c rs t at).stop ≡ Words))
      → (run_lent lent c rs t at).talk ≡ c.talk
  refused_says (inl e) = (lent_stays (ap is_refusal e)).1
  refused_says (inr (inl e)) = (lent_stays (ap is_refusal e)).1
  refused_says (inr (inr e)) = (lent_stays (ap is_refusal e)).1

-- as does a step that is refused
pub step_stays : (lent : Bool) (c : Conv) (kind value : ℕ) → eqb (stop_number (step_lent lent c kind value).stop) 0 ≡ false
    → (step_lent lent c kind value).to ≡ c
step_stays true c kind value e = by_talk c.talk e
  where
    by_bad : (b : Bool) (s : Conv) → eqb (stop_number (pick {A = Step} b (record { stop = BadReply; to = c }) (record { stop = Done; to = s })).stop) 0 ≡ false
        → (pick {A = Step} b (record { stop = BadReply; to = c }) (record { stop = Done; to = s })).to ≡ c
    by_bad true s e = refl
    by_bad false s e = absurd (true≢false e)

    by_talk : (m : Talk Out) → eqb (stop_number (step_on m c kind value).stop) 0 ≡ false → (step_on m c kind value).to ≡ c
    by_talk (end r) e = refl
    by_talk (ask a k) e = by_bad (refuses a kind) _ e
step_stays false c kind value e = by_talk c.talk
  where
    by_bad : (b : Bool) → (pick {A = Step} b (record { stop = BadReply; to = c }) (record { stop = Words; to = c })).to ≡ c
    by_bad true = refl
    by_bad false = refl

    by_talk : (m : Talk Out) → (unlent_step m c kind).to ≡ c
    by_talk (end r) = refl
    by_talk (ask a k) = by_bad (refuses a kind)

-- the actions done, on the conversation's tape, say all that `run` shows
pub all_shown : (c : Conv) (rs t : List ℕ) (at : ℕ)
    → run_all c rs t at ≡ shown c.port (tape_of c t at 0) (run_of c.talk rs (length t - at))
unfolding run_on
all_shown c rs t at = go c.talk
  where
    go : (u : Talk Out)
        → run_all (conv c.port u c.actions c.micros) rs t at ≡ shown c.port (tape_of c t at 0) (run_of u rs (length t - at))
    go (end r) = refl
    go (ask a k) = go_bad (bad rs)
      where
        go_bad : (b : Bool)
            → pick b (refused_run BadReply (conv c.port (ask a k) c.actions c.micros) t at) (run_into (conv c.port (ask a k) c.actions c.micros) rs t at 0)
            ≡ shown c.port (tape_of c t at 0) (pick b (stopped (ask a k) BadReply) (run_talk (ask a k) rs (length t - at)))
        go_bad true = refl
        go_bad false = refl
