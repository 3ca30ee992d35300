-- A talk with other sideband waits runs as it did, and each such wait that it does is the other
use Rattle.hardware.specs.Talk.{Talk, Res, ask, end, pick}
use Rattle.std.proofs.Common.{◌≡◌, ℕ, suc, ◌+◌, ◌-◌, ◌*◌, ◌≤◌, Ok, Err, Bool, true, false, nat_lt, List, [], ◌∷◌, ◌++◌, length, drop, sym, refl, ap, ap₂, ◌∙◌, append-nil, arith, suc-mul}
use Rattle.hardware.specs.declared.Action.{Action}
use Rattle.hardware.specs.declared.Action.TheVariants.{Read, Write, Wait}
use Rattle.drive.specs.Act.{uses, reply_for, used_by, waited_by, words_of}
use Rattle.reference.specs.Out.{Out}
use Rattle.reference.specs.Pauses.{is_ctrl, paused, paced, with_pause}
use Rattle.hardware.specs.declared.Port.{Port}
use Rattle.operations.specs.Operations.{operation}
use Rattle.operations.specs.Request.{refused}
use Rattle.operations.specs.declared.Operation.{Operation}
use Rattle.operations.proofs.Pauses.{operation_paced, is_set, same_else}
use Rattle.calls.specs.Conversation.{Conv, started, begun}
use Rattle.calls.specs.Run.{Run, stopped, before, run_talk, bad, run_all}
use Rattle.calls.specs.Session.{run_of, done_by, run}
use Rattle.calls.specs.Pauses.{repaused_from, repaused, waits_from, sideband_waits, outcome, OtherPause}
use Rattle.hardware.specs.declared.Stop.TheVariants.{BadReply, NoReply, NoRoom}
use Rattle.calls.proofs.Laws.{all_shown}
use Rattle.calls.proofs.Theorems.{next_place, written_words, used_words, counts_exact}

-- ---- an action

same_uses : (p : ℕ) (b : Bool) (a : Action) → uses (paused p b a) ≡ uses a
same_uses p b (Read reg) = refl
same_uses p b (Write reg v) = refl
same_uses p b (Wait n) = refl

-- ---- a list of them

length_repaused : (p : ℕ) (b : Bool) (l : List Action) → length (repaused_from p b l) ≡ length l
length_repaused p b [] = refl
length_repaused p b (a ∷ l) = ap suc (length_repaused p (is_ctrl a) l)

used_repaused : (p : ℕ) (b : Bool) (l : List Action) → used_by (repaused_from p b l) ≡ used_by l
used_repaused p b [] = refl
used_repaused p b (a ∷ l) = rw (same_uses p b a, used_repaused p (is_ctrl a) l) refl

waited_repaused : (p q : ℕ) (b : Bool) (l : List Action)
    → waited_by (repaused_from p b l) + waits_from b l * q ≡ waited_by (repaused_from q b l) + waits_from b l * p
waited_repaused p q b [] = omega arith
waited_repaused p q b (Read reg ∷ l) = omega (arith, waited_repaused p q (is_ctrl (Read reg)) l)
waited_repaused p q b (Write reg v ∷ l) = omega (arith, waited_repaused p q false l)
waited_repaused p q true (Wait n ∷ l) = omega (arith, waited_repaused p q false l, suc-mul (waits_from false l) p, suc-mul (waits_from false l) q)
waited_repaused p q false (Wait n ∷ l) = omega (arith, waited_repaused p q false l)

-- ---- a run

-- whether the last of the actions is a read of IOSF_CTRL
abbrev behind : Bool → List Action → Bool
behind b [] = b
behind b (a ∷ l) = behind (is_ctrl a) l

abbrev rerun : {A : Type 0} → ℕ → Bool → Run A → Run A
rerun p b r = record { done = repaused_from p b r.done; talk = paced p (behind b r.done) r.talk; stop = r.stop }

run_paced : {A : Type 0} (p : ℕ) (b : Bool) (t : Talk A) (rs : List ℕ) (room : ℕ)
    → run_talk (paced p b t) rs room ≡ rerun p b (run_talk t rs room)
run_paced p b (end r) rs room = refl
run_paced p b (ask a k) rs room =
    rw (same_uses p b a)
    (go (nat_lt room 3) (nat_lt (length rs) (uses a)) (run_talk (k (reply_for a rs)) (drop (uses a) rs) (room - 3))
    (run_paced p (is_ctrl a) (k (reply_for a rs)) (drop (uses a) rs) (room - 3)))
  where
    go : (full dry : Bool) (r : Run _) {s : Run _} → s ≡ rerun p (is_ctrl a) r
        → pick full (stopped (paced p b (ask a k)) NoRoom) (pick dry (stopped (paced p b (ask a k)) NoReply) (before (paused p b a) s))
        ≡ rerun p b (pick full (stopped (ask a k) NoRoom) (pick dry (stopped (ask a k) NoReply) (before a r)))
    go true dry r e = refl
    go false true r e = refl
    go false false r e = ap (before (paused p b a)) e

of_paced : (p : ℕ) (t : Talk Out) (rs : List ℕ) (room : ℕ) → run_of (paced p false t) rs room ≡ rerun p false (run_of t rs room)
of_paced p (end r) rs room = refl
of_paced p (ask a k) rs room = go (bad rs)
  where
    go : (b : Bool) → pick b (stopped (paced p false (ask a k)) BadReply) (run_talk (paced p false (ask a k)) rs room)
        ≡ rerun p false (pick b (stopped (ask a k) BadReply) (run_talk (ask a k) rs room))
    go true = refl
    go false = run_paced p false (ask a k) rs room

outcome_paced : (p : ℕ) (b : Bool) (t : Talk Out) → outcome (paced p b t) ≡ outcome t
outcome_paced p b (end r) = refl
outcome_paced p b (ask a k) = refl

-- ---- a run as it is shown

-- the counts that it shows are those of its actions, as they are after a `begin`
pub record Exact (c : Conv) (rs t : List ℕ) (at : ℕ) : Type 0 where
  pub actions : (run_all c rs t at).tape.actions ≡ length (done_by c rs t at)
  pub micros : (run_all c rs t at).tape.micros ≡ waited_by (done_by c rs t at)

pub exact_begun : (port : Port) (what : Operation) (ws rs t : List ℕ) (at : ℕ) → Exact (begun port what ws) rs t at
exact_begun port what ws rs t at =
    let counts = counts_exact port what ws (run rs t at ∷ []) in
    let all : done_by (begun port what ws) rs t at ++ [] ≡ done_by (begun port what ws) rs t at = append-nil _ in
    record { actions = counts.0 ∙ ap length all; micros = counts.1 ∙ ap waited_by all }

module _ (p q : ℕ) (other one : Conv) (rs t : List ℕ) (at : ℕ) where
  pub other_pause : other.talk ≡ paced p false one.talk → paced q false one.talk ≡ one.talk → Exact other rs t at → Exact one rs t at
      → OtherPause p q other one rs t at
  other_pause e same exact exact_one =
      let r : Run Out = run_of one.talk rs (length t - at) in
      let d : List Action = r.done in
      let runs : run_of other.talk rs (length t - at) ≡ rerun p false r =
      ap (λ (u : Talk Out). run_of u rs (length t - at)) e ∙ of_paced p one.talk rs (length t - at) in
      let did : done_by other rs t at ≡ repaused p d = ap (λ (r : Run Out). r.done) runs in
      let own : repaused q d ≡ d =
      sym (ap (λ (r : Run Out). r.done) (of_paced q one.talk rs (length t - at))) ∙ ap (λ (u : Talk Out). (run_of u rs (length t - at)).done) same in
      record {
        stop = rw (all_shown other rs t at, all_shown one rs t at) (ap (λ (r : Run Out). r.stop) runs);
        answer =
            rw (all_shown other rs t at, all_shown one rs t at)
            (ap (λ (r : Run Out). outcome r.talk) runs ∙ outcome_paced p (behind false d) r.talk);
        actions = exact.actions ∙ ap length did ∙ length_repaused p false d ∙ sym exact_one.actions;
        place = next_place other rs t at ∙ ap (λ (n : ℕ). at + 3 * n) (ap length did ∙ length_repaused p false d) ∙ sym (next_place one rs t at);
        used = used_words other rs t at ∙ ap used_by did ∙ used_repaused p false d ∙ sym (used_words one rs t at);
        done = did;
        words = written_words other rs t at ∙ ap words_of did;
        waits = own;
        micros =
            rw (exact.micros, exact_one.micros, did)
            (waited_repaused p q false d ∙ ap (λ (l : List Action). waited_by l + sideband_waits d * p) own);
      }

-- ---- what `begin` makes of a port with another pause

started_paced : (p : ℕ) (t : Talk Out) (r : Res (Unit {0})) → paced p false (started t r) ≡ started (paced p false t) r
started_paced p t (Err e) = refl
started_paced p t (Ok u) = refl

-- each wait directly behind a read of IOSF_CTRL is the port's pause
pub begun_waits : (port : Port) (what : Operation) (ws : List ℕ) → paced port.pause false (begun port what ws).talk ≡ (begun port what ws).talk
begun_waits port what ws =
    started_paced port.pause (operation port what ws) (refused port what ws)
    ∙ ap (λ (t : Talk Out). started t (refused port what ws)) (operation_paced port.pause port.pause port what ws)

-- for two pauses that may be set
module _ (p : ℕ) (port : Port) (low : 1 ≤ p) (high : p ≤ 100) (own_low : 1 ≤ port.pause) (own_high : port.pause ≤ 100)
    (what : Operation) (ws : List ℕ) where
  pub begun_paced : (begun (with_pause p port) what ws).talk ≡ paced p false (begun port what ws).talk
  begun_paced =
      let else = same_else p port (is_set p low high) (is_set port.pause own_low own_high) what ws in
      ap₂ started (else.0 ∙ sym (operation_paced p port.pause port what ws)) else.1
      ∙ sym (started_paced p (operation port what ws) (refused port what ws))

  pub begun_pause : (rs t : List ℕ) (at : ℕ) → OtherPause p port.pause (begun (with_pause p port) what ws) (begun port what ws) rs t at
  begun_pause rs t at =
      other_pause p port.pause (begun (with_pause p port) what ws) (begun port what ws) rs t at
      begun_paced (begun_waits port what ws) (exact_begun (with_pause p port) what ws rs t at) (exact_begun port what ws rs t at)
