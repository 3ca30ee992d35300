-- The counts after a host's calls, and what is left of a bound
use Rattle.hardware.specs.Talk.{Talk, ask, end, pick}
use Rattle.std.proofs.Common.{◌≡◌, ℕ, suc, ◌+◌, ◌-◌, ◌*◌, ◌^◌, ◌<◌, ◌≤◌, Bool, true, false, List, [], ◌∷◌, ◌++◌, length, drop, sym, refl, ◌∙◌, add-zero, arith, length-append, length-drop}
use Rattle.hardware.specs.declared.Action.{Action}
use Rattle.hardware.specs.Bound.{Within, at_end, at_ask, waited}
use Rattle.hardware.proofs.Bounds.{within_more}
use Rattle.reference.specs.Out.{Out}
use Rattle.drive.specs.Act.{uses, reply_for, waited_by}
use Rattle.drive.specs.Moves.{Tape}
use Rattle.calls.specs.Conversation.{Conv, conv, gone, refuses, step_on}
use Rattle.calls.specs.Run.{Run, stopped, before, run_talk, tape_of, shown, left}
use Rattle.calls.specs.Session.{run_of, done_on, HostCall, step, run, after_call, done_in, after_calls, done_in_all, Ended, refused_step}
use Rattle.hardware.specs.declared.Stop.TheVariants.{Done, AfterEnd, BadReply}
use Rattle.calls.proofs.Laws.{all_shown}
use Rattle.calls.proofs.Runs.{by_turn, of_run, uses_two, actions_after, micros_after, waited_append}

-- of a talk that was to do n actions and wait m microseconds at the most, what t still is, once the actions d are done
pub record Leaves (t : Talk Out) (d : List Action) (n m : ℕ) : Type 0 where
  pub actions : length d ≤ n
  pub micros : waited_by d ≤ m
  pub within : Within t (n - length d) (m - waited_by d)

leaves_all : {t : Talk Out} {n m : ℕ} → Within t n m → Leaves t [] n m
leaves_all w = record { actions = omega arith; micros = omega arith; within = within_more (omega arith) (omega arith) w }

leaves_one : {a : Action} {t : Talk Out} {d : List Action} {n m n' m' : ℕ}
    → suc n ≤ n' → waited a + m ≤ m' → Leaves t d n m → Leaves t (a ∷ d) n' m'
leaves_one p q l =
    record {
      actions = omega (arith, l.actions);
      micros = omega (arith, l.micros);
      within = within_more (omega arith) (omega arith) l.within;
    }

leaves_run : {t : Talk Out} {n m : ℕ} → Within t n m → (rs : List ℕ) (room : ℕ)
    → Leaves (run_talk t rs room).talk (run_talk t rs room).done n m
leaves_run at_end rs room = leaves_all at_end
leaves_run {t = ask b k} {n = n} {m = m} (at_ask {a = a} {k = k'} {n = n₀} {m = m₀} p q w) rs room =
    let none : Leaves (ask a k') [] n m = leaves_all (at_ask p q w) in
    by_turn a k' rs room (λ (r : Run Out). Leaves r.talk r.done n m) (λ h. none) (λ h. none)
    (λ h h'. leaves_one p q (leaves_run (w (reply_for a rs)) (drop (uses a) rs) (room - 3)))

-- a conversation whose counts have room for all that it can still come to
pub record Bounded (c : Conv) (n m : ℕ) : Type 0 where
  pub within : Within c.talk n m
  pub actions : c.actions + n < 2 ^ 64
  pub micros : c.micros + m < 2 ^ 64

-- what such a one is once the actions d are done
pub record Went (c c' : Conv) (d : List Action) (n m : ℕ) : Type 0 where
  pub actions : c'.actions ≡ c.actions + length d
  pub micros : c'.micros ≡ c.micros + waited_by d
  pub leaves : Leaves c'.talk d n m

module _ (c : Conv) {n m : ℕ} (b : Bounded c n m) where
  went_tape : (t : List ℕ) (at : ℕ) (r : Run Out) → Leaves r.talk r.done n m
      → Went c (left (shown c.port (tape_of c t at 0) r)) r.done n m
  went_tape t at r l =
      let T : Tape = tape_of c t at 0 in
      let h : c.actions < 2 ^ 64 = omega (arith, b.actions) in
      let k : c.micros < 2 ^ 64 = omega (arith, b.micros) in
      record {
        actions = actions_after T r.done h ∙ omega (arith, b.actions, l.actions);
        micros = micros_after T r.done k ∙ omega (arith, b.micros, l.micros);
        leaves = l;
      }

  went_call : (call : HostCall) → Went c (after_call c call) (done_in c call) n m
  went_call (step kind value) = go c.talk b.within
    where
      go : (t : Talk Out) → Within t n m → Went c (step_on t (conv c.port t c.actions c.micros) kind value).to (done_on t kind) n m
      go (end r) w = went_tape [] 0 (stopped (end r) AfterEnd) (leaves_all w)
      go (ask a k) (at_ask p q w) = go_refused (refuses a kind)
        where
          u : Talk Out
          u = k (reply_for a (kind ∷ value ∷ []))

          go_refused : (b : Bool)
              → Went c (pick b (refused_step BadReply (conv c.port (ask a k) c.actions c.micros)) (record { stop = Done; to = gone c a u })).to
              (pick b [] (a ∷ [])) n m
          go_refused true = went_tape [] 0 (stopped (ask a k) BadReply) (leaves_all (at_ask p q w))
          go_refused false = went_tape [] 0 (before a (stopped u Done)) (leaves_one p q (leaves_all (w (reply_for a (kind ∷ value ∷ [])))))
  went_call (run rs t at) =
      rw (all_shown c rs t at)
      (went_tape t at (run_of c.talk rs (length t - at))
      (of_run c.talk rs (length t - at) (λ (r : Run Out). Leaves r.talk r.done n m) (λ s. leaves_all b.within)
      (leaves_run b.within rs (length t - at))))

pub went_all : (calls : List HostCall) (c : Conv) {n m : ℕ} → Bounded c n m → Went c (after_calls c calls) (done_in_all c calls) n m
went_all [] c b = record { actions = sym (add-zero c.actions); micros = sym (add-zero c.micros); leaves = leaves_all b.within }
went_all (call ∷ rest) c {n} {m} b =
    let c' : Conv = after_call c call in
    let d : List Action = done_in c call in
    let e : List Action = done_in_all c' rest in
    let one : Went c c' d n m = went_call c b call in
    let still : Bounded c' (n - length d) (m - waited_by d) =
    record {
      within = one.leaves.within;
      actions = omega (arith, one.actions, one.leaves.actions, b.actions);
      micros = omega (arith, one.micros, one.leaves.micros, b.micros);
    } in
    let more : Went c' (after_calls c' rest) e (n - length d) (m - waited_by d) = went_all rest c' still in
    let l : length (d ++ e) ≡ length d + length e = length-append d e in
    let w : waited_by (d ++ e) ≡ waited_by d + waited_by e = waited_append d e in
    record {
      actions = omega (arith, one.actions, more.actions);
      micros = omega (arith, one.micros, more.micros);
      leaves =
          record {
            actions = omega (arith, one.leaves.actions, more.leaves.actions);
            micros = omega (arith, one.leaves.micros, more.leaves.micros);
            within =
                within_more (omega (arith, one.leaves.actions)) (omega (arith, one.leaves.micros)) more.leaves.within;
          };
    }

-- a run over replies enough, with room enough, comes to the end
pub ends_run : {t : Talk Out} {n m : ℕ} → Within t n m → (rs : List ℕ) (room : ℕ)
    → 2 * n ≤ length rs → 3 * n ≤ room → Ended (run_talk t rs room).talk
ends_run (at_end {a = r}) rs room h h' = record { answer = r; there = refl }
ends_run {t = ask b k} {n = n} (at_ask {a = a} {k = k'} {n = n₀} p q w) rs room h h' =
    let two : uses a ≤ 2 = uses_two a in
    let rest : length (drop (uses a) rs) ≡ length rs - uses a = length-drop (uses a) rs in
    by_turn a k' rs room (λ (r : Run Out). Ended r.talk) (λ l. absurd (omega (arith, l))) (λ l. absurd (omega (arith, l)))
    (λ l l'. ends_run (w (reply_for a rs)) (drop (uses a) rs) (room - 3) (omega arith) (omega arith))
