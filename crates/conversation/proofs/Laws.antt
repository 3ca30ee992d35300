-- What the code's functions need of the definitions
use Rattle.hardware.specs.Talk.{Talk, Res, end, and_then}
use Rattle.std.proofs.Common.{◌≡◌, ℕ, ◌+◌, ◌-◌, ◌≤◌, ◌<◌, List, [], ◌++◌, length, take, drop, replicate, refl, sym, ap, subst, ◌∙◌, append-nil, arith, length-drop, drop_of_length-le, length-take-le, take_all, take_at, le-ltb, lt-ltb, Ok, Err}
use mathlib.Core.Path.{fun_ext}
use Rattle.hardware.specs.Block as blk
use Rattle.hardware.specs.Refusal.{refusal}
use Rattle.hardware.proofs.Refusal.{taken}
use Rattle.hardware.specs.declared.Error.{Error}
use Rattle.hardware.specs.declared.Port.{Port}
use Rattle.hardware.specs.declared.Request.{Request}
use Rattle.answers.specs.declared.Value.TheVariants as value
use Rattle.reference.specs.Hostif.{command}
use Rattle.reference.specs.Out.{Out}
use Rattle.operations.specs.Request.{request, refused}
use Rattle.operations.proofs.Words.{words_lent, long_words}
use Rattle.operations.specs.Pairs.{pairs_of}
use Rattle.start.specs.First.{begins}
use Rattle.conversation.specs.Begun.{first_words, padded}
use Rattle.conversation.proofs.PairLaws.{own_pairs}
use Rattle.operations.specs.Operations.{list_operation, operation}
use Rattle.operations.specs.declared.Operation.{Operation}
use Rattle.operations.specs.declared.Operation.TheVariants as operationv
use Rattle.operations.specs.declared.Operation.TheVariants.{Command}
use Rattle.after.specs.After.{after_command}
use Rattle.after.proofs.Laws.{command_begun}
use Rattle.started.specs.Standing.{command_answer, told_lent, told_standing}
use Rattle.started.specs.declared.standing.Standing.{Standing}
use Rattle.calls.specs.Conversation.{Conv, opening, started, lends, to_lend, begun}
use Rattle.calls.specs.Run.{run_into}
use Rattle.calls.proofs.Laws.{run_part}
use Rattle.conversation.specs.Conversation.{conv_of}
use Rattle.conversation.specs.Run.{shown_of}
use Rattle.conversation.specs.declared.conversation.Conversation as code
use Rattle.conversation.specs.declared.run.Ran.{Ran}

-- a command's answer
answered : (n : ℕ) (got : Res ℕ) (ws : List ℕ) → ◌≡◌ {A = Talk Out} (end (command_answer n got, ws)) (after_command n got ws)
answered n (Ok status) ws = refl
answered n (Err e) ws = refl

pub told_answers : (port : Port) (ws : List ℕ) {n : ℕ} → n ≡ length ws → told_lent n (command port ws) ≡ operation port Command ws
told_answers port ws {n} many =
    ap (and_then (command port ws)) (fun_ext (λ p. answered n p.0 p.1))
    ∙ command_begun port ws n
    ∙ ap (λ (m : ℕ). blk.◌>>=◌ (command port) (λ status. blk.return (value.Command status m)) ws) many

-- the words under it are still in a block that was padded
take_padded : (ws : List ℕ) → take (length ws) (padded ws) ≡ ws
take_padded ws = take_at ws (drop (length ws) (replicate 80 0)) (length ws) refl

-- it begins with the operation, on the words that are lent
begins_lem : (port : Port) (what : Operation) (ws : List ℕ) → refusal (request port what ws) ≡ Ok tt
    → begins port what (request port what ws).words (request port what ws).pairs ws (first_words what (request port what ws).words ws) ≡ operation port what ws
unfolding request begins first_words
begins_lem port operationv.Veto ws t = refl
begins_lem port operationv.Link ws t = refl
begins_lem port (operationv.Acquire mask) ws t = refl
begins_lem port (operationv.Release mask) ws t = refl
begins_lem port operationv.Command ws t = ap (operation port operationv.Command) (ap (λ (block : List ℕ). take (length ws) (padded block)) (take_all (length ws) ws (omega arith)) ∙ take_padded ws)
begins_lem port (operationv.Token take) ws t = refl
begins_lem port (operationv.PhyActivity asked) ws t = refl
begins_lem port (operationv.ReadReg phy device register) ws t = refl
begins_lem port (operationv.MdioList phy) ws t = let a = taken (request port (operationv.MdioList phy) ws) t in ap (list_operation port phy) (own_pairs ws a.outside a.pairs)
begins_lem port (operationv.WriteReg phy device register value) ws t = refl
begins_lem port (operationv.Modify at) ws t = refl
begins_lem port (operationv.Probe phy) ws t = refl
begins_lem port operationv.Scan ws t = refl
begins_lem port (operationv.Reset phy x557) ws t = refl
begins_lem port (operationv.Abilities phy) ws t = refl
begins_lem port (operationv.Advertise asked) ws t = refl
begins_lem port (operationv.AnLink phy) ws t = refl
begins_lem port (operationv.KrRead address) ws t = refl
begins_lem port (operationv.KrWrite address value) ws t = refl
begins_lem port (operationv.KrModify c) ws t = refl
begins_lem port operationv.RestartAn ws t = refl
begins_lem port (operationv.KrAutoneg kr kx) ws t = refl
begins_lem port (operationv.NvmWord word) ws t = refl
begins_lem port operationv.AfterReset ws t = refl
begins_lem port (operationv.Bringup veto) ws t = refl
begins_lem port (operationv.Poll w minute) ws t = refl

list_few : (port : Port) (phy : ℕ) (ws : List ℕ) → refusal (request port (operationv.MdioList phy) ws) ≡ Ok tt → length (pairs_of ws) ≤ 64
unfolding request
list_few port phy ws t = (taken (request port (operationv.MdioList phy) ws) t).pairs

-- the words that a request counts are lent, and in one that is not turned away they are few
module _ (port : Port) (what : Operation) (ws : List ℕ) {r : Request} (asks : request port what ws ≡ r) where
  pub few : r.words ≤ 16 → r.words ≤ length ws × r.words ≤ 16
  few h = (subst (λ (x : Request). x.words ≤ length ws) asks (words_lent port what ws), h)

  -- a call that is turned away begins nothing and is lent nothing
  module _ {e : Error} (t : refusal r ≡ Err e) where
    away : refused port what ws ≡ Err e
    away = subst (λ x. refusal x ≡ Err e) (sym asks) t

    pub begun_refused : opening port (end (Err e, [])) ≡ begun port what ws
    begun_refused = sym (ap (λ v. opening port (started (operation port what ws) v)) away)

    pub lends_refused : 0 ≡ to_lend port what ws
    lends_refused = sym (ap (λ v. lends v (request port what ws).words) away)

  module _ (t : refusal r ≡ Ok tt) where
    pub bounded : r.words ≤ 448
    bounded = (taken r t).words

    verdict : refused port what ws ≡ Ok tt
    verdict = subst (λ x. refusal x ≡ Ok tt) (sym asks) t

    opens : opening port (operation port what ws) ≡ begun port what ws
    opens = sym (ap (λ v. opening port (started (operation port what ws) v)) verdict)

    counts : lends (Ok tt) r.words ≡ to_lend port what ws
    counts = sym (ap (λ v. lends v (request port what ws).words) verdict ∙ ap (λ (x : Request). lends (Ok tt) x.words) asks)

    unrefused : refusal (request port what ws) ≡ Ok tt
    unrefused = subst (λ x. refusal x ≡ Ok tt) (sym asks) t

    pub few_pairs : (phy : ℕ) → what ≡ operationv.MdioList phy → length (pairs_of ws) ≤ 64
    few_pairs phy is = list_few port phy ws (subst (λ (w : Operation). refusal (request port w ws) ≡ Ok tt) is unrefused)

    -- it begins with the operation, on the words that it keeps
    pub begun_kept : opening port (begins port what r.words r.pairs ws (first_words what r.words ws)) ≡ begun port what ws
    begun_kept =
        ap (opening port) (subst (λ (x : Request). begins port what x.words x.pairs ws (first_words what x.words ws) ≡ operation port what ws) asks (begins_lem port what ws unrefused))
        ∙ opens

    pub lends_none : r.words ≤ 16 → 0 ≡ to_lend port what ws
    lends_none h = rw (← counts, le-ltb _ _ h) refl

    -- or with a command, on the words that are lent
    pub begun_long : 16 < r.words → opening port (told_lent r.words (command port ws)) ≡ begun port what ws
    begun_long h =
        let l = long_words port what ws (subst (λ (x : Request). 16 < x.words) (sym asks) h) in
        let many : r.words ≡ length ws = subst (λ (x : Request). x.words ≡ length ws) asks l.1 in
        ap (opening port) (told_answers port ws many ∙ sym l.0) ∙ opens

    pub lends_long : 16 < r.words → r.words ≡ to_lend port what ws
    lends_long h = rw (← counts, lt-ltb _ _ h) refl

-- what a conversation says where it stands at a place that is known
pub at_place : (c : code.Conversation) (ws : List ℕ) {p : Standing} → c.place ≡ p → (conv_of c ws).talk ≡ told_standing c.port p c.block ws
at_place c ws e = ap (λ (p : Standing). told_standing c.port p c.block ws) e

module _ (t : List ℕ) (at : ℕ) (h : at ≤ length t) where
  all : length (drop at t) ≤ length t - at
  all = simp length-drop (omega arith)

  -- what the loop's caller makes of its answer, once the part that it lent is back
  pub run_back : (c : Conv) (rs : List ℕ) (r : Ran) (ws part : List ℕ) → shown_of r ws part ≡ run_into c rs (take (length t - at) (drop at t)) 0 0
      → shown_of (record { stop = r.stop; to = r.to; actions = r.actions; micros = r.micros; at = at + r.at; used = r.used }) ws (take at t ++ (part ++ drop (length t - at) (drop at t)))
      ≡ run_into c rs t at 0
  run_back c rs r ws part e =
      rw (
        drop_of_length-le (drop at t) all,
        append-nil part,
        run_part c rs t at h,
        ← take_all (length t - at) (drop at t) all,
        ← e,
        length-take-le at t h,
      )

  pub within_part : (n : ℕ) → n ≤ length (take (length t - at) (drop at t)) → at + n ≤ length t
  within_part n k =
      let k' : n ≤ length t - at = simp length-drop at (rw (take_all (length t - at) (drop at t) all) at k) in
      omega arith
