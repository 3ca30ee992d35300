-- A conversation's words are 68, and what no number is
use Prim.Native.Nat.{ℕ}
use mathlib.Core.Path.{◌≡◌, refl, ap, sym, subst, ◌∙◌}
use mathlib.Core.Bool.{Bool, true, false, true≢false}
use native.Mathlib.Omega.{arith}
use Rattle.std.specs.Prelude.{Option, Some, None, ◌⊎◌}
use mathlib.Core.Logic.{inl, inr}
use Rattle.hardware.specs.Talk.{Talk, end, ask, pick}
use Rattle.hardware.specs.Numbers.{stop_number, misuse_number}
use Rattle.hardware.specs.declared.Misuse.TheVariants.{NotEnded}
use Rattle.hardware.specs.declared.Stop.{Stop}
use Rattle.hardware.specs.declared.Stop.TheVariants.{AfterEnd, BadReply, Words}
use mathlib.Core.List.{List, [], ◌++◌, append-nil}
use Rattle.std.specs.Prelude.{replicate}
use Rattle.started.specs.Standing.{lent_of}
use lib.Dec.{eqb}
use Rattle.std.proofs.Common.{eqb-true}
use lib.ListN.{length, length-append}
use Rattle.hardware.specs.Numbers as error
use Rattle.hardware.specs.declared.Error.{Error}
use Rattle.hardware.specs.declared.Error.TheVariants.{Io, Removed, Timeout, Sideband, Semaphore, HostInterface, Firmware, NoPhy, PhyReset, Lan, Fiber, Address, KrAddress, Pairs, Block, Pause, Windows}
use Rattle.packed.proofs.Width.Hardware.{family_length}
use Rattle.conversation.specs.declared.conversation.Conversation.{Conversation}
use Rattle.started.specs.declared.standing.Standing.{Standing}
use Rattle.packed.specs.Started.{words_standing, get_standing}
use Rattle.reference.specs.Out.{Out}
use Rattle.calls.specs.Conversation.{Conv, Step, Answer, answer_at, answer_of, step_lent}
use Rattle.calls.specs.Run.{Shown, run_lent}
use Rattle.calls.proofs.Laws.{ended_keeps, bad_keeps, words_keep, refused_says, step_stays}
use Rattle.conversation.specs.Conversation.{conv_of, is_lent, stepped_of}
use Rattle.conversation.specs.Run.{shown_of}
use Rattle.conversation.proofs.Lent.{same_words}
use Rattle.conversation.specs.declared.conversation.Stepped.{Stepped}
use Rattle.conversation.specs.declared.run.Ran.{Ran}
use Rattle.border.specs.Border.{answer, no_answer, answering, answers_of, answers, kept, not_run, ran_by, ran_as, ran_of, runs}
use Rattle.border.specs.Held.{words_of, held_by, is_held}
use Rattle.border.specs.declared.held.Held.{Held}
use Rattle.packed.proofs.Width.Started.{standing_length}

pub words_of-length : (c : Conversation) → length (words_of c) ≡ 68
unfolding words_of
words_of-length c = simp (length-append, family_length, standing_length)

-- the last part, with nothing behind it
pub place_back : (p : Standing) → ((rest : List ℕ) → get_standing (words_standing p ++ rest) ≡ p) → get_standing (words_standing p) ≡ p
place_back p h = ap get_standing (sym (append-nil (words_standing p))) ∙ h []

-- no error has the number 0
pub error_number_lem : (e : Error) → eqb (error.number e) 0 ≡ false
error_number_lem (Io code) = refl
error_number_lem Removed = refl
error_number_lem (Timeout register mask expected last) = refl
error_number_lem (Sideband address ctrl) = refl
error_number_lem (Semaphore held) = refl
error_number_lem (HostInterface hicr) = refl
error_number_lem (Firmware command status) = refl
error_number_lem NoPhy = refl
error_number_lem PhyReset = refl
error_number_lem Lan = refl
error_number_lem Fiber = refl
error_number_lem Address = refl
error_number_lem KrAddress = refl
error_number_lem Pairs = refl
error_number_lem Block = refl
error_number_lem Pause = refl
error_number_lem Windows = refl

some_is : (x y : Conversation) → ◌≡◌ {A = Option Conversation} (Some x) (Some y) → x ≡ y
some_is x y e = cc

no_some : {y : Conversation} → ◌≡◌ {A = Option Conversation} None (Some y) → ⊥
no_some e = let z : ◌≡◌ {A = ℕ} 0 1 = cc in absurd (omega arith)

answer_is : (x y : Answer) → ◌≡◌ {A = Option Answer} (Some x) (Some y) → x ≡ y
answer_is x y e = cc

no_answer_is : {y : Answer} → ◌≡◌ {A = Option Answer} None (Some y) → ⊥
no_answer_is e = let z : ◌≡◌ {A = ℕ} 0 1 = cc in absurd (omega arith)

-- the words were those of a conversation
held_is : (b : Bool) {x y : Conversation} → pick b (Some x) None ≡ Some y → (b ≡ true) × (x ≡ y)
held_is true e = (refl, some_is _ _ e)
held_is false e = absurd (no_some e)

-- what it has ended with
answered : (c : Conv) {a : Answer} → answer_of c ≡ Some a → answers_of c ≡ answer a.what a.words a.actions a.micros
answered c {a} h = go c.talk h
  where
    go : (t : Talk Out) → answer_at t c ≡ Some a → answering t c.actions c.micros ≡ answer a.what a.words a.actions a.micros
    go (end r) h = ap (λ (x : Answer). answer x.what x.words x.actions x.micros) (answer_is _ _ h)
    go (ask b k) h = absurd (no_answer_is h)

pub answers_some : (h : Held) {own : Conversation} {a : Answer} → pick (is_held h) (Some (held_by h)) None ≡ Some own
    → answer_of (conv_of own (replicate (lent_of own.place) 0)) ≡ Some a → answers h ≡ answer a.what a.words a.actions a.micros
unfolding answers
answers_some h e f = let t = held_is (is_held h) e in rw (t.0, t.1) (answered _ f)

-- or that it still runs
unanswered : (c : Conv) → answer_of c ≡ None → answers_of c ≡ no_answer (misuse_number NotEnded) c.actions c.micros
unanswered c h = go c.talk h
  where
    go : (t : Talk Out) → answer_at t c ≡ None → answering t c.actions c.micros ≡ no_answer (misuse_number NotEnded) c.actions c.micros
    go (end r) h = absurd (no_answer_is (sym h))
    go (ask b k) h = refl

pub answers_none : (h : Held) {own : Conversation} → pick (is_held h) (Some (held_by h)) None ≡ Some own
    → answer_of (conv_of own (replicate (lent_of own.place) 0)) ≡ None → answers h ≡ no_answer (misuse_number NotEnded) own.actions own.micros
unfolding answers
answers_none h e f = let t = held_is (is_held h) e in rw (t.0, t.1) (unanswered _ f)

-- a run that was turned away leaves the transcript, and gives back the very words
module _ (h : Held) (rs t : List ℕ) (at : ℕ) (ws : List ℕ) (own : Conversation) (r : Ran) (ws' t' : List ℕ) where
  abbrev whole : Shown
  whole = run_lent (is_lent own ws) (conv_of own ws) rs t at

  module _ (s : shown_of r ws' t' ≡ whole) where
    one : (x : Stop) → r.stop ≡ x → (whole.stop ≡ x → whole.tape.transcript ≡ t)
        → ran_of (not_run (stop_number x) h at) ws' t' ≡ kept (not_run (stop_number x) h at) t'
        → ran_by whole x h t at ≡ kept (not_run (stop_number x) h at) t
        → ran_of (not_run (stop_number r.stop) h at) ws' t' ≡ ran_as whole h t at
    one x is keeps left right =
        let stop : whole.stop ≡ x = ap (λ (y : Shown). y.stop) (sym s) ∙ is in
        let same : t' ≡ t = ap (λ (y : Shown). y.tape.transcript) s ∙ keeps stop in
        ap (λ (y : Stop). ran_of (not_run (stop_number y) h at) ws' t') is
        ∙ left
        ∙ ap (kept (not_run (stop_number x) h at)) same
        ∙ sym (ap (λ (y : Stop). ran_by whole y h t at) stop ∙ right)

    away : (r.stop ≡ AfterEnd) ⊎ ((r.stop ≡ BadReply) ⊎ (r.stop ≡ Words)) → ran_of (not_run (stop_number r.stop) h at) ws' t' ≡ ran_as whole h t at
    unfolding ran_of
    away (inl e) = one AfterEnd e (ended_keeps (is_lent own ws) (conv_of own ws) rs t at) refl refl
    away (inr (inl e)) = one BadReply e (bad_keeps (is_lent own ws) (conv_of own ws) rs t at) refl refl
    away (inr (inr e)) = one Words e (words_keep (is_lent own ws) (conv_of own ws) rs t at) refl refl

    pub run_away : pick (is_held h) (Some (held_by h)) None ≡ Some own
        → (r.stop ≡ AfterEnd) ⊎ ((r.stop ≡ BadReply) ⊎ (r.stop ≡ Words)) → ran_of (not_run (stop_number r.stop) h at) ws' t' ≡ runs h rs t at ws
    unfolding runs
    run_away e a = let k = held_is (is_held h) e in rw (k.0, k.1) (away a)

-- a call that is turned away leaves the words that were lent to it
words_stay : (own to : Conversation) (ws ws' : List ℕ) → (lent_of own.place ≡ 0 → ws' ≡ ws) → lent_of to.place ≡ lent_of own.place
    → (conv_of to ws').talk ≡ (conv_of own ws).talk → ws' ≡ ws
words_stay own to ws ws' none lends says = go (eqb (lent_of own.place) 0) refl
  where
    go : (b : Bool) → eqb (lent_of own.place) 0 ≡ b → ws' ≡ ws
    go true e = none (eqb-true _ _ e)
    go false e = same_words own to ws ws' (λ z. true≢false (sym (ap (λ (n : ℕ). eqb n 0) z) ∙ e)) lends says

pub step_leaves : (own : Conversation) (s : Stepped) (kind value : ℕ) (ws ws' : List ℕ)
    → stepped_of s ws' ≡ step_lent (is_lent own ws) (conv_of own ws) kind value → (lent_of own.place ≡ 0 → ws' ≡ ws)
    → lent_of s.to.place ≡ lent_of own.place → eqb (stop_number s.stop) 0 ≡ false → ws' ≡ ws
step_leaves own s kind value ws ws' steps none lends out =
    let stop : eqb (stop_number (step_lent (is_lent own ws) (conv_of own ws) kind value).stop) 0 ≡ false
    = ap (λ (x : Step). eqb (stop_number x.stop) 0) (sym steps) ∙ out in
    words_stay own s.to ws ws' none lends
    (ap (λ (x : Step). x.to.talk) steps ∙ ap (λ (x : Conv). x.talk) (step_stays (is_lent own ws) (conv_of own ws) kind value stop))

pub run_leaves : (own : Conversation) (r : Ran) (rs t t' : List ℕ) (at : ℕ) (ws ws' : List ℕ)
    → shown_of r ws' t' ≡ run_lent (is_lent own ws) (conv_of own ws) rs t at → (lent_of own.place ≡ 0 → ws' ≡ ws)
    → lent_of r.to.place ≡ lent_of own.place → (r.stop ≡ AfterEnd) ⊎ ((r.stop ≡ BadReply) ⊎ (r.stop ≡ Words)) → ws' ≡ ws
run_leaves own r rs t t' at ws ws' shows none lends out =
    let stop = subst (λ (s : Stop). (s ≡ AfterEnd) ⊎ ((s ≡ BadReply) ⊎ (s ≡ Words))) (ap (λ (x : Shown). x.stop) shows) out in
    words_stay own r.to ws ws' none lends (ap (λ (x : Shown). x.talk) shows ∙ refused_says (is_lent own ws) (conv_of own ws) rs t at stop)
