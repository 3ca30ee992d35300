-- A run over replies that were read ahead: all that are there have room, and it uses no more than them
use Rattle.hardware.specs.Talk.{Talk, ask, end, pick}
use Rattle.std.proofs.Common.{◌≡◌, ℕ, zero, suc, ◌+◌, ◌-◌, ◌*◌, ◌/◌, ◌≤◌, ◌<◌, Bool, true, false, ◌&&◌, ltb, leb, List, [], ◌∷◌, ◌++◌, length, get_or, take, drop, replicate, Option, Some, None, refl, sym, ap, ◌∙◌, arith, length-drop, take_at, le-leb, ltb-true, zero-add}
use Rattle.std.proofs.lemmas.List.{length-replicate}
use lib.ListN.{get_or-append}
use lib.Seq.{sets, sets-eq, length-sets}
use Rattle.drive.specs.Act.{uses, reply_for, used_by}
use Rattle.reference.specs.Out.{Out}
use Rattle.calls.specs.Conversation.{Conv}
use Rattle.calls.specs.Run.{Run, run_talk, Shown, left, tape_of, bad, refused_run, unlent_run, run_lent}
use Rattle.drive.specs.Moves.{Tape}
use Rattle.hardware.specs.declared.Stop.TheVariants.{BadReply, Words}
use Rattle.started.specs.Standing.{lent_of}
use Rattle.calls.proofs.Runs.{by_turn, of_run}
use Rattle.calls.proofs.Theorems.{Placed, placed, used_words}
use Rattle.streams.specs.Batch.{LineReply, reply_at, then_on, replies, words_ahead, places_ahead, used_input}
use Rattle.lines.specs.Listing.{lines_text}
use Rattle.streams.specs.Output.{line_count}
use Rattle.streams.specs.Input.{input}
use Rattle.streams.specs.declared.input.Input.{Input}
use Rattle.console.specs.Turn.{printed}
use Rattle.conversation.specs.Run.{shown_of}
use Rattle.conversation.specs.declared.run.Ran.{Ran}
use Rattle.console.specs.Ahead.{replies_there, ran_ahead, ran_from, Ahead}
use Rattle.console.specs.Moved.{words_in, conv_at, lent_at}
use Rattle.console.specs.declared.moved.Moved.{Moved}

-- ---- the replies

replies_few : (k : ℕ) (buf : List ℕ) (i : Input) → length (replies k buf i) ≤ k
unfolding replies
replies_few zero buf i = omega arith
replies_few (suc k) buf i = go (λ next. replies_few k buf (input next i.to i.ended i.cases)) (reply_at buf i)
  where
    go : ((next : ℕ) → length (replies k buf (input next i.to i.ended i.cases)) ≤ k) → (r : Option LineReply)
        → length (then_on (λ next. replies k buf (input next i.to i.ended i.cases)) r) ≤ suc k
    go few None = omega arith
    go few (Some a) = omega (arith, few a.2)

pub words_length : (rs : List LineReply) → length (words_ahead rs) ≡ 2 * length rs
words_length [] = refl
words_length (r ∷ rs) = omega (arith, words_length rs)

pub places_length : (rs : List LineReply) → length (places_ahead rs) ≡ length rs
places_length [] = refl
places_length (r ∷ rs) = ap suc (places_length rs)

-- ---- the run

used_fits : {A : Type 0} (t : Talk A) (rs : List ℕ) (room : ℕ) → used_by (run_talk t rs room).done ≤ length rs
used_fits (end r) rs room = omega arith
used_fits (ask a k) rs room =
    by_turn a k rs room (λ (r : Run _). used_by r.done ≤ length rs) (λ h. omega arith) (λ h. omega arith)
    (λ h h'. omega (arith, used_fits (k (reply_for a rs)) (drop (uses a) rs) (room - 3), length-drop (uses a) rs, h'))

-- a run that is lent another number of words leaves the tape as it was
unlent_tape : (c : Conv) (rs t : List ℕ) (at : ℕ) → (unlent_run c.talk c rs t at).tape ≡ tape_of c t at 0
unlent_tape c rs t at = by_talk c.talk
  where
    by_bad : (b : Bool) → (pick b (refused_run BadReply c t at) (refused_run Words c t at)).tape ≡ tape_of c t at 0
    by_bad true = refl
    by_bad false = refl

    by_talk : (u : Talk Out) → (unlent_run u c rs t at).tape ≡ tape_of c t at 0
    by_talk (end r) = refl
    by_talk (ask a k) = by_bad (bad rs)

pub placed_lent : (lent : Bool) (c : Conv) (rs t : List ℕ) (at : ℕ) → Placed (run_lent lent c rs t at) t at
placed_lent true c rs t at = placed c rs t at
placed_lent false c rs t at =
    let same = unlent_tape c rs t at in
    record {
      actions = 0;
      place = omega (arith, ap (λ (x : Tape). x.at) same);
      within = omega arith;
      same_length = ap (λ (x : Tape). length x.transcript) same;
    }

-- it uses no more reply words than its script has
pub script_fits : (lent : Bool) (c : Conv) (rs t : List ℕ) (at : ℕ) → (run_lent lent c rs t at).tape.used ≤ length rs
script_fits true c rs t at =
    rw (used_words c rs t at)
    (of_run c.talk rs (length t - at) (λ (r : Run Out). used_by r.done ≤ length rs) (λ s. omega arith) (used_fits c.talk rs (length t - at)))
script_fits false c rs t at = omega (arith, ap (λ (x : Tape). x.used) (unlent_tape c rs t at))

-- ---- what is put down at the start of memory

module _ (l vs : List ℕ) (fits : length vs ≤ length l) where
  put : sets l 0 vs ≡ vs ++ drop (0 + length vs) l
  put = sets-eq vs l 0 (rw (zero-add (length vs)) fits)

  pub put_front : take (length vs) (sets l 0 vs) ≡ vs
  put_front = ap (take (length vs)) put ∙ take_at vs (drop (0 + length vs) l) (length vs) refl

  put_at : (n : ℕ) → n < length vs → get_or (sets l 0 vs) n 0 ≡ get_or vs n 0
  put_at n h = ap (λ (x : List ℕ). get_or x n 0) put ∙ get_or-append vs (drop (0 + length vs) l) 0 n h

  -- the input behind the replies that were used is read off their places alone
  pub same_input : (i : Input) (used : ℕ) → used ≤ 2 * length vs → used_input i (sets l 0 vs) used ≡ used_input i vs used
  same_input i used h = go (ltb 0 (used / 2)) refl
    where
      n : ℕ
      n = used / 2

      go : (b : Bool) → ltb 0 (used / 2) ≡ b
          → pick (b && leb (used / 2) (length (sets l 0 vs))) (input (get_or (sets l 0 vs) (used / 2 - 1) 0) i.to i.ended i.cases) i
          ≡ pick (b && leb (used / 2) (length vs)) (input (get_or vs (used / 2 - 1) 0) i.to i.ended i.cases) i
      go false e = refl
      go true e =
          let some : 0 < used / 2 = ltb-true _ _ e in
          let few : used / 2 ≤ length vs = omega (arith, h) in
          let room : used / 2 ≤ length (sets l 0 vs) = rw (length-sets l 0 vs) (omega (arith, few, fits)) in
          rw (le-leb _ _ few, le-leb _ _ room, put_at (used / 2 - 1) (omega (arith, some, few))) refl

-- ---- the code's memory, which has room for 64 replies

abbrev zeros : ℕ → List ℕ
zeros n = replicate n 0

zeros_length : (n : ℕ) → length (zeros n) ≡ n
zeros_length n = length-replicate {A = ℕ} n 0

module _ (lent : Bool) (c : Conv) (buf : List ℕ) (i : Input) (s : Shown) {words read : List ℕ} {count : ℕ}
    (n : count ≡ length (replies_there buf i))
    (w : words ≡ sets (zeros 128) 0 (words_ahead (replies_there buf i)))
    (f : count ≤ length words / 2 → read ≡ take (2 * count) words)
    (e : s ≡ run_lent lent c read (zeros 384) 0) where
  abbrev rs : List LineReply
  rs = replies_there buf i

  few : length rs ≤ 64
  few = replies_few 64 buf i

  whole : read ≡ words_ahead rs
  whole =
      let size : 2 * count ≡ length (words_ahead rs) = omega (arith, n, words_length rs) in
      let long : length words ≡ 128 = ap length w ∙ length-sets (zeros 128) 0 (words_ahead rs) ∙ zeros_length 128 in
      let fits : length (words_ahead rs) ≤ length (zeros 128) = omega (arith, words_length rs, few, zeros_length 128) in
      f (omega (arith, n, few, long))
      ∙ ap (take (2 * count)) w
      ∙ ap (λ (k : ℕ). take k (sets (zeros 128) 0 (words_ahead rs))) size
      ∙ put_front (zeros 128) (words_ahead rs) fits

  ran : s ≡ ran_ahead lent c buf i
  ran = e ∙ ap (λ (l : List ℕ). run_lent lent c l (zeros 384) 0) whole

  leaves : left s ≡ left (ran_ahead lent c buf i)
  leaves = ap left ran

  goes_behind : {behind : List ℕ} → behind ≡ sets (zeros 64) 0 (places_ahead (replies_there buf i))
      → used_input i behind s.tape.used ≡ used_input i (places_ahead (replies_there buf i)) (ran_ahead lent c buf i).tape.used
  goes_behind b =
      let fits : length (places_ahead rs) ≤ length (zeros 64) = omega (arith, places_length rs, few, zeros_length 64) in
      let used : (ran_ahead lent c buf i).tape.used ≤ length (words_ahead rs) = script_fits lent c (words_ahead rs) (zeros 384) 0 in
      ap (λ (l : List ℕ). used_input i l s.tape.used) b
      ∙ ap (λ (x : Shown). used_input i (sets (zeros 64) 0 (places_ahead rs)) x.tape.used) ran
      ∙ same_input (zeros 64) (places_ahead rs) fits i (ran_ahead lent c buf i).tape.used (omega (arith, used, places_length rs, words_length rs))

  -- all that the run wrote is printed
  all_printed : lines_text (take (3 * line_count s.tape.at s.tape.transcript) s.tape.transcript) ≡ printed (ran_ahead lent c buf i)
  all_printed =
      let p : Placed (ran_ahead lent c buf i) (zeros 384) 0 = placed_lent lent c (words_ahead rs) (zeros 384) 0 in
      let all : 3 * line_count (ran_ahead lent c buf i).tape.at (ran_ahead lent c buf i).tape.transcript ≡ (ran_ahead lent c buf i).tape.at =
      omega (arith, p.place, p.within, p.same_length, zeros_length 384) in
      ap (λ (x : Shown). lines_text (take (3 * line_count x.tape.at x.tape.transcript) x.tape.transcript)) ran
      ∙ ap (λ (k : ℕ). lines_text (take k (ran_ahead lent c buf i).tape.transcript)) all

-- of the code's own values
module _ (from : Moved) (buf : List ℕ) (r : Ran) (lent t : List ℕ) {words read : List ℕ} {count : ℕ}
    (n : count ≡ length (replies_there buf from.input))
    (w : words ≡ sets (replicate 128 0) 0 (words_ahead (replies_there buf from.input)))
    (f : count ≤ length words / 2 → read ≡ take (2 * count) words)
    (same : lent_of r.to.place ≡ lent_of from.to.place)
    (e : shown_of r (words_in from.to lent) t ≡ run_lent (lent_at from) (conv_at from) read (replicate 384 0) 0) where
  as_lent : shown_of r (words_in r.to lent) t ≡ run_lent (lent_at from) (conv_at from) read (replicate 384 0) 0
  as_lent = ap (λ (k : ℕ). shown_of r (take k lent) t) same ∙ e

  pub went_ahead : {behind : List ℕ} {i : Input} → behind ≡ sets (replicate 64 0) 0 (places_ahead (replies_there buf from.input))
      → used_input from.input behind r.used ≡ i → Ahead from buf (record { to = r.to; words = lent; input = i })
  went_ahead b u =
      record {
        to = leaves (lent_at from) (conv_at from) buf from.input (shown_of r (words_in r.to lent) t) n w f as_lent;
        input = sym u ∙ goes_behind (lent_at from) (conv_at from) buf from.input (shown_of r (words_in r.to lent) t) n w f as_lent b;
      }

  pub printed_ahead : lines_text (take (3 * line_count r.at t) t) ≡ printed (ran_from from buf)
  printed_ahead = all_printed (lent_at from) (conv_at from) buf from.input (shown_of r (words_in r.to lent) t) n w f as_lent
