-- A list of PHY registers: one pair is a single read, n pairs are n bodies in one hold, and its values are those of single reads
use Rattle.std.specs.Prelude.{Ok, Err}
use Prim.Native.Nat.{ℕ, zero, suc, ◌/◌, ◌^◌, ◌<◌, ◌≤◌}
use mathlib.Core.Path.{◌≡◌, refl, ap, sym, subst, fun_ext, ◌∙◌}
use mathlib.Core.Bool.{Bool, true, false, true≢false}
use mathlib.Core.List.{List, [], ◌∷◌, ◌++◌}
use native.Mathlib.Omega.{arith}
use lib.Bits.{bit_or}
use lib.ListN.{length}
use Rattle.std.specs.Prelude.{map}
use Rattle.std.proofs.lemmas.List.{append_assoc}
use Rattle.std.proofs.Common.{append-nil}
use Rattle.hardware.specs.Block as blk
use Rattle.hardware.specs.Talk.{Talk, Call, Reply, Res, ask, end, and_then, or_stop, pick, times, is_clear, fail, return, checked, raw}
use Rattle.hardware.specs.declared.Action.{Action}
use Rattle.hardware.specs.declared.Action.TheVariants.{Read}
use Rattle.hardware.specs.declared.Error.{Error}
use Rattle.hardware.specs.declared.Error.TheVariants.{Timeout}
use Rattle.hardware.specs.declared.Port.{Port}
use Rattle.hardware.proofs.Laws.{then_assoc}
use Rattle.answers.specs.declared.Value.{Value}
use Rattle.answers.specs.declared.Value.TheVariants as valuev
use Rattle.words.specs.declared.msca.Command.{Command}
use Rattle.words.specs.Mdio.{address, fields, OP-READ, COMMAND, read_cycle}
use Rattle.words.proofs.Theorems.Mdio.{read_cycle_document, apart_made}
use Rattle.reference.specs.Acquire.{acquire, release}
use Rattle.reference.specs.Mdio.{cycle, cycle_turn, mask, read_body, read_reg, list_body, mdio_list}
use Rattle.reference.specs.Out.{Out, answer}
use Rattle.reference.specs.Sync.{Ending, plain, with_values, listed_after, both, held, held_done, held_taken}
use Rattle.operations.specs.Operations.{list_operation}
use Rattle.operations.specs.Pairs.{pairs_of, outside}
use Rattle.operations.specs.Request.{request, refused}
use Rattle.operations.specs.declared.Operation.TheVariants.{ReadReg, MdioList}
use Rattle.hardware.specs.Refusal.{refusal}
use Rattle.hardware.specs.declared.Stop.TheVariants.{BadReply, NoReply, NoRoom}
use Rattle.hardware.proofs.Refusal.{taken}
use Rattle.drive.specs.Act.{uses, reply_for}
use Rattle.std.specs.Prelude.{nat_lt, drop, ◌-◌, ltb}
use borrow.Author.Tests.{ltb-false, le-ltb}
use Rattle.std.proofs.lemmas.Bool.{or_parts}
use mathlib.Core.Bool.{◌||◌}
use Rattle.calls.specs.Run.{Run, stopped, before, run_talk, tape_of, Shown, run_on, run_into, bad, refused_run, run_all}
use Rattle.calls.specs.Run as run
use Rattle.calls.specs.Session.{run_of, done_by}
use Rattle.calls.proofs.Laws.{all_shown}
use Rattle.calls.specs.Conversation.{Conv, opening, started, begun}
use Rattle.calls.specs.Lists.{Goes, stops, does, Went, as_list, listed, joined, Bodies, none, one, InOneHold, Alike, commanded, Gave, Single, Singles, no_singles, one_more}

-- ---- talks over replies

pub ends_with : {A : Type 0} {x y : A} {rs : List Reply} {ds : List Action} → Goes (end x) rs ds y → (x ≡ y) × (ds ≡ [])
ends_with stops = (refl, refl)

-- one talk, then another
pub record Two {A B : Type 0} (t : Talk A) (k : A → Talk B) (rs : List Reply) (ds : List Action) (x : B) : Type 0 where
  pub first : A
  pub replies : List Reply
  pub more : List Reply
  pub done : List Action
  pub behind : List Action
  pub both_replies : rs ≡ replies ++ more
  pub both_done : ds ≡ done ++ behind
  pub one : Goes t replies done first
  pub two : Goes (k first) more behind x

pub apart : {A B : Type 0} (t : Talk A) (k : A → Talk B) {rs : List Reply} {ds : List Action} {x : B} → Goes (and_then t k) rs ds x → Two t k rs ds x
apart (end a) k {rs} {ds} g =
    record { first = a; replies = []; more = rs; done = []; behind = ds; both_replies = refl; both_done = refl; one = stops; two = g }
apart (ask a c) k (does {r = r} g) =
    let p = apart (c r) k g in
    record {
      first = p.first;
      replies = r ∷ p.replies;
      more = p.more;
      done = a ∷ p.done;
      behind = p.behind;
      both_replies = ap (λ (rs : List Reply). r ∷ rs) p.both_replies;
      both_done = ap (λ (ds : List Action). a ∷ ds) p.both_done;
      one = does p.one;
      two = p.two;
    }

-- what a talk ended with, where something is made of it
pub record Last {A B : Type 0} (t : Talk A) (f : A → B) (rs : List Reply) (ds : List Action) (x : B) : Type 0 where
  pub value : A
  pub goes : Goes t rs ds value
  pub is : f value ≡ x

pub last : {A B : Type 0} (t : Talk A) (f : A → B) {rs : List Reply} {ds : List Action} {x : B}
    → Goes (and_then t (λ a. end (f a))) rs ds x → Last t f rs ds x
last (end a) f stops = record { value = a; goes = stops; is = refl }
last (ask a c) f (does {r = r} g) = let p = last (c r) f g in record { value = p.value; goes = does p.goes; is = p.is }

-- ---- under a lock

-- a good end is no error
not_bad : {A : Type 0} {e : Error} {v : A} {ws vs : List ℕ} {X : Type 0} → ◌≡◌ {A = Res A × List ℕ} (Err e, ws) (Ok v, vs) → X
not_bad h = absurd (true≢false (sym (ap (λ p. well p.0) h)))
  where
    well : {A : Type 0} → Res A → Bool
    well (Ok v) = true
    well (Err e) = false

no_error : {A : Type 0} {e : Error} {v : A} {X : Type 0} → ◌≡◌ {A = Res A} (Err e) (Ok v) → X
no_error {A} {e} {v} h = not_bad {ws = []} {vs = []} (ap (λ (r : Res A). (r, [])) h)

-- what take, the body and give did
pub record Held {X : Type 0} (take give : Call (Unit {0})) (body : Talk X) (rs : List Reply) (ds : List Action) (x : X) : Type 0 where
  pub taking : List Reply
  pub doing : List Reply
  pub giving : List Reply
  pub taken : List Action
  pub done : List Action
  pub given : List Action
  pub both_replies : rs ≡ taking ++ (doing ++ giving)
  pub both_done : ds ≡ taken ++ (done ++ given)
  pub takes : Goes take taking taken (Ok tt)
  pub bodies : Goes body doing done x
  pub gives : Goes give giving given (Ok tt)

good_list : {A : Type 0} (x : Res A × List ℕ) (r : Res (Unit {0})) {v : A} {vs : List ℕ} → listed_after x r ≡ (Ok v, vs) → (x ≡ (Ok v, vs)) × (r ≡ Ok tt)
good_list (Err e, ws) r h = not_bad h
good_list (Ok v, ws) (Err e) h = not_bad h
good_list (Ok v, ws) (Ok _) h = (h, refl)

good_plain : {A : Type 0} (x : Res A) (r : Res (Unit {0})) {v : A} → both x r ≡ Ok v → (x ≡ Ok v) × (r ≡ Ok tt)
good_plain (Err e) r h = no_error h
good_plain (Ok v) (Err e) h = no_error h
good_plain (Ok v) (Ok _) h = (h, refl)

-- a bracket whose end no error and no other end of the body gives: take and give went well, and the body ended so
module _ {X : Type 0} (ending : Ending X) {x : X} (no_before : (e : Error) → ending.before e ≡ x → ⊥)
    (only_after : (y : X) (r : Res (Unit {0})) → ending.after y r ≡ x → (y ≡ x) × (r ≡ Ok tt)) (take give : Call (Unit {0})) (body : Talk X) where
  held_well : {rs : List Reply} {ds : List Action} → Goes (held ending take give body) rs ds x → Held take give body rs ds x
  held_well {rs} {ds} g = let p = apart take (held_taken ending give body) g in go p p.first refl
    where
      here : (p : Two take (held_taken ending give body) rs ds x) → p.first ≡ Ok tt → Two body (held_done ending give) p.more p.behind x
          → Held take give body rs ds x
      here p is q =
          let r = last give (ending.after q.first) q.two in
          let w = only_after q.first r.value r.is in
          record {
            taking = p.replies;
            doing = q.replies;
            giving = q.more;
            taken = p.done;
            done = q.done;
            given = q.behind;
            both_replies = p.both_replies ∙ ap (λ (l : List Reply). p.replies ++ l) q.both_replies;
            both_done = p.both_done ∙ ap (λ (l : List Action). p.done ++ l) q.both_done;
            takes = subst (λ (r : Res (Unit {0})). Goes take p.replies p.done r) is p.one;
            bodies = subst (λ (y : X). Goes body q.replies q.done y) w.0 q.one;
            gives = subst (λ (r : Res (Unit {0})). Goes give q.more q.behind r) w.1 r.goes;
          }

      go : (p : Two take (held_taken ending give body) rs ds x) (r : Res (Unit {0})) → p.first ≡ r → Held take give body rs ds x
      go p (Ok _) is = here p is (apart body (held_done ending give) (subst (λ (r : Res (Unit {0})). Goes (held_taken ending give body r) p.more p.behind x) is p.two))
      go p (Err e) is = absurd (no_before e (ends_with (subst (λ (r : Res (Unit {0})). Goes (held_taken ending give body r) p.more p.behind x) is p.two)).0)

-- ---- pair by pair

-- the reads of the pairs, one behind the other, with their values
data Chain (phy : ℕ) : List (ℕ × ℕ) → List Reply → List Action → List ℕ → Type 0 where
  nothing : Chain phy [] [] [] []
  link : {device register : ℕ} {rest : List (ℕ × ℕ)} {rs rs' : List Reply} {ds ds' : List Action} {v : ℕ} {vs : List ℕ}
      → Goes (read_body (address phy device register)) rs ds (Ok v) → Chain phy rest rs' ds' vs
      → Chain phy ((device, register) ∷ rest) (rs ++ rs') (ds ++ ds') (v ∷ vs)

-- behind the values before them
record Each (phy : ℕ) (pairs : List (ℕ × ℕ)) (before : List ℕ) (rs : List Reply) (ds : List Action) (vs : List ℕ) : Type 0 where
  values : List ℕ
  all : vs ≡ before ++ values
  chain : Chain phy pairs rs ds values

reads : (phy : ℕ) (pairs : List (ℕ × ℕ)) (before : List ℕ) {rs : List Reply} {ds : List Action} {vs : List ℕ}
    → Goes (list_body phy pairs before) rs ds (Ok tt, vs) → Each phy pairs before rs ds vs
reads phy [] before stops = record { values = []; all = sym (append-nil before); chain = nothing }
reads phy ((device, register) ∷ rest) before {rs} {ds} {vs} g =
    go p q q.value refl (λ v rs ds h. reads phy rest (before ++ v ∷ []) h)
  where
    more : ℕ → List ℕ → Talk (Res (Unit {0}) × List ℕ)
    more v vs = list_body phy rest (vs ++ v ∷ [])

    behind : Res ℕ × List ℕ → Talk (Res (Unit {0}) × List ℕ)
    behind x = blk.or_stop more x.0 x.1

    body : Call ℕ
    body = read_body (address phy device register)

    p : Two (blk.keep body before) behind rs ds (Ok tt, vs)
    p = apart (blk.keep body before) behind g

    q : Last body (λ r. (r, before)) p.replies p.done p.first
    q = last body (λ r. (r, before)) p.one

    go : (p : Two (blk.keep body before) behind rs ds (Ok tt, vs)) (q : Last body (λ r. (r, before)) p.replies p.done p.first) (r : Res ℕ) → q.value ≡ r
        → ((v : ℕ) (rs : List Reply) (ds : List Action) → Goes (list_body phy rest (before ++ v ∷ [])) rs ds (Ok tt, vs) → Each phy rest (before ++ v ∷ []) rs ds vs)
        → Each phy ((device, register) ∷ rest) before rs ds vs
    go p q (Ok v) is next =
        let at : (Ok v, before) ≡ p.first = ap (λ (r : Res ℕ). (r, before)) (sym is) ∙ q.is in
        let tail = next v p.more p.behind (subst (λ (x : Res ℕ × List ℕ). Goes (behind x) p.more p.behind (Ok tt, vs)) (sym at) p.two) in
        record {
          values = v ∷ tail.values;
          all = tail.all ∙ append_assoc before (v ∷ []) tail.values;
          chain =
              subst (λ (l : List Reply). Chain phy ((device, register) ∷ rest) l ds (v ∷ tail.values)) (sym p.both_replies)
              (subst (λ (l : List Action). Chain phy ((device, register) ∷ rest) (p.replies ++ p.more) l (v ∷ tail.values)) (sym p.both_done)
              (link (subst (λ (r : Res ℕ). Goes body p.replies p.done r) is q.goes) tail.chain));
        }
    go p q (Err e) is next =
        let at : (Err e, before) ≡ p.first = ap (λ (r : Res ℕ). (r, before)) (sym is) ∙ q.is in
        not_bad (ends_with (subst (λ (x : Res ℕ × List ℕ). Goes (behind x) p.more p.behind (Ok tt, vs)) (sym at) p.two)).0

-- ---- what was begun

-- a good answer was not turned away
begun_well : (t : Talk Out) (refused : Res (Unit {0})) {rs : List Reply} {ds : List Action} {v : Value} {vs : List ℕ}
    → Goes (started t refused) rs ds (Ok v, vs) → (refused ≡ Ok tt) × Goes t rs ds (Ok v, vs)
begun_well t (Ok _) g = (refl, g)
begun_well t (Err e) g = not_bad (ends_with g).0

-- the list itself
list_well : (port : Port) (phy : ℕ) (pairs : List (ℕ × ℕ)) {rs : List Reply} {ds : List Action} {v : Value} {vs : List ℕ}
    → Goes (list_operation port phy pairs) rs ds (Ok v, vs) → Goes (mdio_list port phy pairs) rs ds (Ok tt, vs)
list_well port phy pairs {rs} {ds} {v} {vs} g =
    subst (λ (x : Res (Unit {0}) × List ℕ). Goes (mdio_list port phy pairs) rs ds x) (good p.value.0 p.value.1 p.is) p.goes
  where
    made : Res (Unit {0}) × List ℕ → Out
    made (Ok _, ws) = (Ok (valuev.List (length pairs)), ws)
    made (Err e, ws) = (Err e, ws)

    same : (x : Res (Unit {0}) × List ℕ) → blk.or_stop (λ _. blk.return (valuev.List (length pairs))) x.0 x.1 ≡ end (made x)
    same (Ok _, ws) = refl
    same (Err e, ws) = refl

    p : Last (mdio_list port phy pairs) made rs ds (Ok v, vs)
    p = last (mdio_list port phy pairs) made (subst (λ (k : Res (Unit {0}) × List ℕ → Talk Out). Goes (and_then (mdio_list port phy pairs) k) rs ds (Ok v, vs)) (fun_ext same) g)

    good : (r : Res (Unit {0})) (ws : List ℕ) → made (r, ws) ≡ (Ok v, vs) → ◌≡◌ {A = Res (Unit {0}) × List ℕ} (r, ws) (Ok tt, vs)
    good (Ok _) ws h = ap (λ (o : Out). (Ok tt, o.1)) h
    good (Err e) ws h = not_bad h

-- the single read's
word_well : (t : Call ℕ) {rs : List Reply} {ds : List Action} {w : ℕ} {vs : List ℕ}
    → Goes (answer valuev.Word t) rs ds (Ok (valuev.Word w), vs) → Goes t rs ds (Ok w)
word_well t {rs} {ds} {w} {vs} g =
    let p = last (and_then t (or_stop (λ a. return (valuev.Word a)))) (λ r. (r, [])) g in
    let q = last t made (subst (λ (k : Res ℕ → Call Value). Goes (and_then t k) rs ds p.value) (fun_ext same) p.goes) in
    subst (λ (x : Res ℕ). Goes t rs ds x) (good q.value (q.is ∙ ap (λ (o : Out). o.0) p.is)) q.goes
  where
    made : Res ℕ → Res Value
    made (Ok a) = Ok (valuev.Word a)
    made (Err e) = Err e

    same : (r : Res ℕ) → or_stop (λ a. return (valuev.Word a)) r ≡ end (made r)
    same (Ok a) = refl
    same (Err e) = refl

    word_of : Res Value → ℕ
    word_of (Ok (valuev.Word a)) = a
    word_of _ = 0

    good : (r : Res ℕ) → made r ≡ Ok (valuev.Word w) → r ≡ Ok w
    good (Ok a) h = ap (λ (x : Res Value). Ok (word_of x)) h
    good (Err e) h = no_error h

-- an action that is due is no end
runs_on : {A : Type 0} {a : Action} {k : Reply → Talk Out} {x : Out} → ◌≡◌ {A = Talk Out} (ask a k) (end x) → A
runs_on h = absurd (true≢false (ap runs h))
  where
    runs : Talk Out → Bool
    runs (ask a k) = true
    runs (end r) = false

-- the same with the actions of each
record Reads (phy : ℕ) (pairs : List (ℕ × ℕ)) (ds : List Action) (vs : List ℕ) : Type 0 where
  each : List (List Action)
  parts : ds ≡ joined each
  bodies : Bodies phy pairs each vs

-- a single read's end as a list's
abbrev one_value : Res ℕ → Res (Unit {0}) × List ℕ
one_value (Ok v) = (Ok tt, v ∷ [])
one_value (Err e) = (Err e, [])

-- pairs in range
abbrev Fit : List (ℕ × ℕ) → Type 0
Fit [] = Unit {0}
Fit ((device, register) ∷ rest) = (device ≤ 31) × ((register ≤ 0xffff) × Fit rest)

-- ---- what is said to MSCA

abbrev after : ℕ → List Action → ℕ
after last [] = last
after last (a ∷ ds) = after (commanded last a) ds

-- the second of two goes on where the first has come
gave_apart : {A : Type 0} (value : ℕ → ℕ → ℕ → ℕ) (last : ℕ) {t : Talk A} {rs : List Reply} {ds : List Action} {x : A} (rs' : List Reply) (ds' : List Action)
    → Goes t rs ds x → Gave value last (ds ++ ds') (rs ++ rs') → Gave value last ds rs × Gave value (after last ds) ds' rs'
gave_apart value last rs' ds' stops h = (tt, h)
gave_apart value last rs' ds' (does {a = a} g) h = let p = gave_apart value (commanded last a) rs' ds' g h.1 in ((h.0, p.0), p.1)

-- the polls of a cycle write nothing
module _ (again : ℕ → Call (Unit {0})) (x : ℕ) (h : (v : ℕ) (rs : List Reply) (ds : List Action) → Goes (again v) rs ds (Ok tt) → after x ds ≡ x) where
  picked : (v : ℕ) (b : Bool) {rs : List Reply} {ds : List Action} → Goes (pick b (return tt) (again v)) rs ds (Ok tt) → after x ds ≡ x
  picked v true g = ap (after x) (ends_with g).1
  picked v false g = h v _ _ g

  polled : (got : Res ℕ) {rs : List Reply} {ds : List Action} → Goes (or_stop (λ v. pick (is_clear v 0x40000000) (return tt) (again v)) got) rs ds (Ok tt) → after x ds ≡ x
  polled (Ok v) g = picked v (is_clear v 0x40000000) g
  polled (Err e) g = no_error (ends_with g).0

polls : (n from x : ℕ) {rs : List Reply} {ds : List Action} → Goes (times n cycle_turn (λ last. fail (Timeout 0x425c 0x40000000 0 last)) from) rs ds (Ok tt) → after x ds ≡ x
unfolding times
polls zero from x g = no_error (ends_with g).0
polls (suc n) from x (does (does {r = r} g)) =
    polled (times n cycle_turn (λ last. fail (Timeout 0x425c 0x40000000 0 last))) x (λ v rs ds h. polls n v x h) (checked r) g

cycle_said : (command last : ℕ) {rs : List Reply} {ds : List Action} → Goes (cycle command) rs ds (Ok tt) → after last ds ≡ bit_or command COMMAND
unfolding cycle
cycle_said command last (does {r = Ok w} g) = polls 100 0 (bit_or command COMMAND) g
cycle_said command last (does {r = Err code} g) = no_error (ends_with g).0

-- the word that MSRWD gives is of the register that the second cycle commands
abbrev data_word : Call ℕ
data_word = ask (Read 0x4260) (λ r. and_then (end (raw r)) (or_stop (λ v. return (v / 2 ^ 16))))

abbrev named : (ℕ → ℕ → ℕ → ℕ) → ℕ → ℕ
named value word = value (fields word).phy (fields word).device (fields word).register

abbrev word_in : Res ℕ → ℕ
word_in (Ok a) = a
word_in (Err e) = 0

-- the Rust's `?`, both of which went well
record TwoWell {A B : Type 0} (t : Call A) (k : A → Call B) (rs : List Reply) (ds : List Action) (v : B) : Type 0 where
  first : A
  replies : List Reply
  more : List Reply
  done : List Action
  behind : List Action
  both_replies : rs ≡ replies ++ more
  both_done : ds ≡ done ++ behind
  one : Goes t replies done (Ok first)
  two : Goes (k first) more behind (Ok v)

apart_well : {A B : Type 0} (t : Call A) (k : A → Call B) {rs : List Reply} {ds : List Action} {v : B} → Goes (and_then t (or_stop k)) rs ds (Ok v) → TwoWell t k rs ds v
apart_well {A} {B} t k {rs} {ds} {v} g = let p = apart t (or_stop k) g in go p p.first refl
  where
    go : (p : Two t (or_stop k) rs ds (Ok v)) (r : Res A) → p.first ≡ r → TwoWell t k rs ds v
    go p (Ok a) is =
        record {
          first = a;
          replies = p.replies;
          more = p.more;
          done = p.done;
          behind = p.behind;
          both_replies = p.both_replies;
          both_done = p.both_done;
          one = subst (λ (r : Res A). Goes t p.replies p.done r) is p.one;
          two = subst (λ (r : Res A). Goes (or_stop k r) p.more p.behind (Ok v)) is p.two;
        }
    go p (Err e) is = no_error (ends_with (subst (λ (r : Res A). Goes (or_stop k r) p.more p.behind (Ok v)) is p.two)).0

module _ (value : ℕ → ℕ → ℕ → ℕ) where
  data_gave : (from : ℕ) {rs : List Reply} {ds : List Action} {v : ℕ} → Goes data_word rs ds (Ok v) → Gave value from ds rs → v ≡ named value from
  data_gave from (does {r = Ok w} g) h = sym (ap word_in (ends_with g).0) ∙ h.0 refl
  data_gave from (does {r = Err code} g) h = no_error (ends_with g).0

  both_gave : (from : ℕ) {rs rs' : List Reply} {ds ds' : List Action} → rs ≡ rs' → ds ≡ ds' → Gave value from ds rs → Gave value from ds' rs'
  both_gave from {rs' = rs'} {ds = ds} e f h = subst (λ (l : List Action). Gave value from l rs') f (subst (λ (l : List Reply). Gave value from ds l) e h)

  -- a read gives its register's value
  module _ (phy dev reg : ℕ) (p : phy ≤ 31) (d : dev ≤ 31) (r : reg ≤ 0xffff) where
    fields_named : named value (read_cycle phy dev reg) ≡ value phy dev reg
    fields_named =
        ap (named value) (read_cycle_document phy dev reg (omega (arith, p)) (omega (arith, d)) (omega (arith, r)))
        ∙ ap (λ (c : Command). value c.phy c.device c.register)
        (apart_made (record { register = reg; device = dev; phy = phy; operation = 3; go = true })
        (record { register = omega (arith, r); device = omega (arith, d); phy = omega (arith, p); operation = omega arith }))

    read_gave : (from : ℕ) {rs : List Reply} {ds : List Action} {v : ℕ} → Goes (read_body (address phy dev reg)) rs ds (Ok v) → Gave value from ds rs
        → v ≡ value phy dev reg
    unfolding read_cycle
    read_gave from {rs} {ds} {v} g h =
        let one = apart_well (cycle (address phy dev reg)) (λ _. and_then (cycle (bit_or (address phy dev reg) OP-READ)) (or_stop (λ _. data_word))) g in
        let two = apart_well (cycle (bit_or (address phy dev reg) OP-READ)) (λ _. data_word) one.two in
        let gave_one = (gave_apart value from one.more one.behind one.one (both_gave from one.both_replies one.both_done h)).1 in
        let gave_two = (gave_apart value (after from one.done) two.more two.behind two.one (both_gave (after from one.done) two.both_replies two.both_done gave_one)).1 in
        data_gave (after (after from one.done) two.done) two.two gave_two
        ∙ ap (named value) (cycle_said (bit_or (address phy dev reg) OP-READ) (after from one.done) two.one)
        ∙ fields_named

  -- so do the reads of a list
  chain_gave : (phy : ℕ) → phy ≤ 31 → (from : ℕ) {pairs : List (ℕ × ℕ)} {rs : List Reply} {ds : List Action} {vs : List ℕ} → Fit pairs
      → Chain phy pairs rs ds vs → Gave value from ds rs → vs ≡ map (λ (p : ℕ × ℕ). value phy p.0 p.1) pairs
  chain_gave phy p from f nothing h = refl
  chain_gave phy p from f (link {device = device} {register = register} {rs' = rs'} {ds = ds} {ds' = ds'} {vs = vs} g c) h =
      let parts = gave_apart value from rs' ds' g h in
      ap (λ (v : ℕ). v ∷ vs) (read_gave phy device register p f.0 f.1.0 from g parts.0)
      ∙ ap (λ (l : List ℕ). value phy device register ∷ l) (chain_gave phy p (after from ds) f.1.1 c parts.1)

-- ---- the theorems: the values

fit_of : (ws : List ℕ) → outside ws ≡ false → Fit (pairs_of ws)
fit_of [] h = tt
fit_of (device ∷ []) h = tt
fit_of (device ∷ register ∷ rest) h =
    let here = or_parts (ltb 31 device || ltb 0xffff register) _ h in
    let fits = or_parts (ltb 31 device) _ here.0 in
    (ltb-false _ _ fits.0, (ltb-false _ _ fits.1, fit_of rest here.1))

list_taken : (port : Port) (phy : ℕ) (ws : List ℕ) → refused port (MdioList phy) ws ≡ Ok tt → (phy ≤ 31) × (outside ws ≡ false)
unfolding request
list_taken port phy ws h = let t = taken (request port (MdioList phy) ws) h in (t.phy, t.outside)

read_taken : (port : Port) (phy device register : ℕ) → refused port (ReadReg phy device register) [] ≡ Ok tt → (phy ≤ 31) × (device ≤ 31)
unfolding request
read_taken port phy device register h = let t = taken (request port (ReadReg phy device register) []) h in (t.phy, t.device)

-- what a good list did
good_chain : (port : Port) (phy : ℕ) (pair : ℕ × ℕ) (rest : List (ℕ × ℕ)) {rs : List Reply} {ds : List Action} {vs : List ℕ}
    → Goes (mdio_list port phy (pair ∷ rest)) rs ds (Ok tt, vs)
    → Held (acquire port (mask port)) (release port (mask port)) (list_body phy (pair ∷ rest) []) rs ds (Ok tt, vs)
unfolding mdio_list
good_chain port phy pair rest g = held_well with_values (λ e h. not_bad h) (λ y r h. good_list y r h) (acquire port (mask port)) (release port (mask port)) (list_body phy (pair ∷ rest) []) g

none_listed : (port : Port) (phy : ℕ) {rs : List Reply} {ds : List Action} {vs : List ℕ} → Goes (mdio_list port phy []) rs ds (Ok tt, vs) → vs ≡ []
unfolding mdio_list
none_listed port phy g = sym (ap (λ (x : Res (Unit {0}) × List ℕ). x.1) (ends_with g).0)

module _ (value : ℕ → ℕ → ℕ → ℕ) (port : Port) (phy : ℕ) where
  held_gave : phy ≤ 31 → (from : ℕ) (pairs : List (ℕ × ℕ)) → Fit pairs → {rs : List Reply} {ds : List Action} {vs : List ℕ}
      → Goes (mdio_list port phy pairs) rs ds (Ok tt, vs) → Gave value from ds rs → vs ≡ map (λ (p : ℕ × ℕ). value phy p.0 p.1) pairs
  held_gave p from [] f g h = none_listed port phy g
  held_gave p from (pair ∷ rest) f {rs} {ds} {vs} g h =
      let did = good_chain port phy pair rest g in
      let each = reads phy (pair ∷ rest) [] did.bodies in
      let behind = (gave_apart value from (did.doing ++ did.giving) (did.done ++ did.given) did.takes (both_gave value from did.both_replies did.both_done h)).1 in
      let here = (gave_apart value (after from did.taken) did.giving did.given did.bodies behind).0 in
      each.all ∙ chain_gave value phy p (after from did.taken) f each.chain here

  -- a list's values are those that the registers have
  pub list_values : (ws : List ℕ) (from : ℕ) {rs : List Reply} {ds : List Action} {v : Value} {vs : List ℕ}
      → Goes (begun port (MdioList phy) ws).talk rs ds (Ok v, vs) → Gave value from ds rs
      → vs ≡ map (λ (p : ℕ × ℕ). value phy p.0 p.1) (pairs_of ws)
  list_values ws from g h =
      let b = begun_well (list_operation port phy (pairs_of ws)) (refused port (MdioList phy) ws) g in
      let t = list_taken port phy ws b.0 in
      held_gave t.0 from (pairs_of ws) (fit_of ws t.1) (list_well port phy (pairs_of ws) b.1) h

  -- and so is a single read's
  pub single_value : (device register word : ℕ) → register ≤ 0xffff → Single value port phy device register word → word ≡ value phy device register
  unfolding read_reg
  single_value device register word r s =
      let b = begun_well (answer valuev.Word (read_reg port phy device register)) (refused port (ReadReg phy device register) []) s.goes in
      let t = read_taken port phy device register b.0 in
      let did = held_well plain (λ e h. no_error h) (λ y r h. good_plain y r h) (acquire port (mask port)) (release port (mask port)) (read_body (address phy device register)) (word_well (read_reg port phy device register) b.1) in
      let behind = (gave_apart value s.last (did.doing ++ did.giving) (did.done ++ did.given) did.takes (both_gave value s.last did.both_replies did.both_done s.gave)).1 in
      let here = (gave_apart value (after s.last did.taken) did.giving did.given did.bodies behind).0 in
      read_gave value phy device register t.0 t.1 r (after s.last did.taken) did.bodies here

  singles_values : {pairs : List (ℕ × ℕ)} {words : List ℕ} → Singles value port phy pairs words → words ≡ map (λ (p : ℕ × ℕ). value phy p.0 p.1) pairs
  singles_values no_singles = refl
  singles_values (one_more {device = device} {register = register} {word = word} {words = words} r s rest) =
      ap (λ (w : ℕ). w ∷ words) (single_value device register word r s) ∙ ap (λ (l : List ℕ). value phy device register ∷ l) (singles_values rest)

  -- so they are the same
  pub same_values : (ws : List ℕ) (from : ℕ) {rs : List Reply} {ds : List Action} {v : Value} {vs words : List ℕ}
      → Goes (begun port (MdioList phy) ws).talk rs ds (Ok v, vs) → Gave value from ds rs → Singles value port phy (pairs_of ws) words → vs ≡ words
  same_values ws from g h s = list_values ws from g h ∙ sym (singles_values s)

-- ---- the theorems: the actions of a list that ended well

went_talk : (t : Talk Out) (rs : List ℕ) (room : ℕ) {x : Out} → (run_talk t rs room).talk ≡ end x → Went t (run_talk t rs room).done x
went_talk (end r) rs room {x} e = subst (λ (t : Talk Out). Went t [] x) (sym e) (record { replies = []; goes = stops })
went_talk (ask a k) rs room {x} e = go (nat_lt room 3) (nat_lt (length rs) (uses a)) e (λ h. went_talk (k (reply_for a rs)) (drop (uses a) rs) (room - 3) h)
  where
    go : (b c : Bool) → (pick b (stopped (ask a k) NoRoom) (pick c (stopped (ask a k) NoReply) (before a (run_talk (k (reply_for a rs)) (drop (uses a) rs) (room - 3))))).talk ≡ end x
        → ((run_talk (k (reply_for a rs)) (drop (uses a) rs) (room - 3)).talk ≡ end x → Went (k (reply_for a rs)) (run_talk (k (reply_for a rs)) (drop (uses a) rs) (room - 3)).done x)
        → Went (ask a k) (pick b (stopped (ask a k) NoRoom) (pick c (stopped (ask a k) NoReply) (before a (run_talk (k (reply_for a rs)) (drop (uses a) rs) (room - 3))))).done x
    go true c h next = runs_on h
    go false true h next = runs_on h
    go false false h next = let w = next h in record { replies = reply_for a rs ∷ w.replies; goes = does w.goes }

went_of : (t : Talk Out) (rs : List ℕ) (room : ℕ) {x : Out} → (run_of t rs room).talk ≡ end x → Went t (run_of t rs room).done x
went_of (end r) rs room {x} e = subst (λ (t : Talk Out). Went t [] x) (sym e) (record { replies = []; goes = stops })
went_of (ask a k) rs room {x} e = go (bad rs) e
  where
    go : (b : Bool) → (pick b (stopped (ask a k) BadReply) (run_talk (ask a k) rs room)).talk ≡ end x
        → Went (ask a k) (pick b (stopped (ask a k) BadReply) (run_talk (ask a k) rs room)).done x
    go true h = runs_on h
    go false h = went_talk (ask a k) rs room h

-- a run that came to the end
pub run_went : (c : Conv) (rs t : List ℕ) (at : ℕ) {x : Out} → (run_all c rs t at).talk ≡ end x → Went c.talk (done_by c rs t at) x
run_went c rs t at e = went_of c.talk rs (length t - at) (sym (ap (λ (s : Shown). s.talk) (all_shown c rs t at)) ∙ e)

bodies_of : (phy : ℕ) {pairs : List (ℕ × ℕ)} {rs : List Reply} {ds : List Action} {vs : List ℕ} → Chain phy pairs rs ds vs → Reads phy pairs ds vs
bodies_of phy nothing = record { each = []; parts = refl; bodies = none }
bodies_of phy (link {rs = rs} {ds = ds} g c) =
    let tail = bodies_of phy c in
    record { each = ds ∷ tail.each; parts = ap (λ (l : List Action). ds ++ l) tail.parts; bodies = one (record { replies = rs; goes = g }) tail.bodies }

-- acquire's actions, then the body's for each pair, then release's
pub in_one_hold : (port : Port) (phy : ℕ) (ws rs t : List ℕ) (at : ℕ) {v : Value} {vs : List ℕ} → 0 < length (pairs_of ws)
    → (run_all (begun port (MdioList phy) ws) rs t at).talk ≡ end (Ok v, vs)
    → InOneHold port phy (pairs_of ws) (done_by (begun port (MdioList phy) ws) rs t at) vs
in_one_hold port phy ws rs t at {v} {vs} some e = go (pairs_of ws) some (list_well port phy (pairs_of ws) well.1)
  where
    w : Went (begun port (MdioList phy) ws).talk (done_by (begun port (MdioList phy) ws) rs t at) (Ok v, vs)
    w = run_went (begun port (MdioList phy) ws) rs t at e

    well : (refused port (MdioList phy) ws ≡ Ok tt) × Goes (list_operation port phy (pairs_of ws)) w.replies (done_by (begun port (MdioList phy) ws) rs t at) (Ok v, vs)
    well = begun_well (list_operation port phy (pairs_of ws)) (refused port (MdioList phy) ws) w.goes

    go : (pairs : List (ℕ × ℕ)) → 0 < length pairs → Goes (mdio_list port phy pairs) w.replies (done_by (begun port (MdioList phy) ws) rs t at) (Ok tt, vs)
        → InOneHold port phy pairs (done_by (begun port (MdioList phy) ws) rs t at) vs
    go [] h g = absurd (omega (arith, h))
    go (pair ∷ rest) h g =
        let did = good_chain port phy pair rest g in
        let each = reads phy (pair ∷ rest) [] did.bodies in
        let read = bodies_of phy each.chain in
        record {
          acquired = did.taken;
          read = read.each;
          released = did.given;
          parts = did.both_done ∙ ap (λ (l : List Action). did.taken ++ (l ++ did.given)) read.parts;
          acquires = record { replies = did.taking; goes = did.takes };
          reads = subst (Bodies phy (pair ∷ rest) read.each) (sym each.all) read.bodies;
          releases = record { replies = did.giving; goes = did.gives };
        }

-- ---- the theorems: a list of one pair

one_given : (give : Call (Unit {0})) (x : Res ℕ) → held_done with_values give (one_value x) ≡ and_then (held_done plain give x) (λ r. end (one_value r))
one_given (end (Ok _)) (Ok v) = refl
one_given (end (Err e)) (Ok v) = refl
one_given (end (Ok _)) (Err e) = refl
one_given (end (Err d)) (Err e) = refl
one_given (ask a k) x = ap (ask a) (fun_ext (λ r. one_given (k r) x))

one_body : (give body : Call (Unit {0})) (t : Call ℕ)
    → and_then (and_then t (λ r. end (one_value r))) (held_done with_values give) ≡ and_then (and_then t (held_done plain give)) (λ r. end (one_value r))
one_body give body (end x) = one_given give x
one_body give body (ask a k) = ap (ask a) (fun_ext (λ r. one_body give body (k r)))

one_held : (take give : Call (Unit {0})) (t : Call ℕ)
    → held with_values take give (and_then t (λ r. end (one_value r))) ≡ and_then (held plain take give t) (λ r. end (one_value r))
one_held (end (Ok _)) give t = one_body give give t
one_held (end (Err e)) give t = refl
one_held (ask a k) give t = ap (ask a) (fun_ext (λ r. one_held (k r) give t))

one_listed : (phy device register : ℕ) → list_body phy ((device, register) ∷ []) [] ≡ and_then (read_body (address phy device register)) (λ r. end (one_value r))
one_listed phy device register =
    then_assoc (read_body (address phy device register)) (λ r. end (r, [])) (λ p. blk.or_stop (λ v vs. list_body phy [] (vs ++ v ∷ [])) p.0 p.1)
    ∙ ap (and_then (read_body (address phy device register))) (fun_ext each)
  where
    each : (r : Res ℕ) → blk.or_stop (λ v vs. list_body phy [] (vs ++ v ∷ [])) r [] ≡ end (one_value r)
    each (Ok v) = refl
    each (Err e) = refl

one_operation : (port : Port) (phy device register : ℕ)
    → list_operation port phy ((device, register) ∷ []) ≡ listed (answer valuev.Word (read_reg port phy device register))
unfolding mdio_list read_reg
one_operation port phy device register =
    ap (λ (body : Talk (Res (Unit {0}) × List ℕ)). and_then (held with_values (acquire port (mask port)) (release port (mask port)) body) last_of) (one_listed phy device register)
    ∙ ap (λ (t : Talk (Res (Unit {0}) × List ℕ)). and_then t last_of) (one_held (acquire port (mask port)) (release port (mask port)) (read_body (address phy device register)))
    ∙ then_assoc (read_reg port phy device register) (λ r. end (one_value r)) last_of
    ∙ ap (and_then (read_reg port phy device register)) (fun_ext each)
    ∙ sym (then_assoc (read_reg port phy device register) (λ r. and_then (or_stop (λ a. return (valuev.Word a)) r) (λ r. end (r, []))) (λ o. end (as_list o)))
    ∙ ap listed (sym (then_assoc (read_reg port phy device register) (or_stop (λ a. return (valuev.Word a))) (λ r. end (r, []))))
  where
    last_of : Res (Unit {0}) × List ℕ → Talk Out
    last_of p = blk.or_stop (λ _. blk.return (valuev.List 1)) p.0 p.1

    each : (r : Res ℕ) → last_of (one_value r) ≡ listed (and_then (or_stop (λ a. return (valuev.Word a)) r) (λ r. end (r, [])))
    each (Ok v) = refl
    each (Err e) = refl

one_request : (port : Port) (phy device register : ℕ) → register ≤ 0xffff
    → refused port (MdioList phy) (device ∷ register ∷ []) ≡ refused port (ReadReg phy device register) []
unfolding refusal request
one_request port phy device register h =
    rw (same (ltb 31 phy) (ltb 31 device) (ltb 0xffff register) (le-ltb _ _ h)) refl
  where
    same : (a b c : Bool) → c ≡ false → (a || false || ((b || c) || false)) ≡ (a || b || false)
    same true b c e = refl
    same false true c e = refl
    same false false c e = rw e

-- what is said of a list of one pair is what is said of a single read, with its word as the one value
pub one_pair : (port : Port) (phy device register : ℕ) → register ≤ 0xffff
    → (begun port (MdioList phy) (device ∷ register ∷ [])).talk ≡ listed (begun port (ReadReg phy device register) []).talk
one_pair port phy device register h =
    ap (λ (t : Talk Out). started t (refused port (MdioList phy) (device ∷ register ∷ []))) (one_operation port phy device register)
    ∙ ap (started (listed (answer valuev.Word (read_reg port phy device register)))) (one_request port phy device register h)
    ∙ go (refused port (ReadReg phy device register) [])
  where
    go : (r : Res (Unit {0})) → started (listed (answer valuev.Word (read_reg port phy device register))) r ≡ listed (started (answer valuev.Word (read_reg port phy device register)) r)
    go (Ok _) = refl
    go (Err e) = refl

-- so a run of the one does what a run of the other does
abbrev listed_run : Run Out → Run Out
listed_run r = record { done = r.done; talk = listed r.talk; stop = r.stop }

run_listed : (t : Talk Out) (rs : List ℕ) (room : ℕ) → run_talk (listed t) rs room ≡ listed_run (run_talk t rs room)
run_listed (end r) rs room = refl
run_listed (ask a k) rs room =
    go (nat_lt room 3) (nat_lt (length rs) (uses a)) (run_listed (k (reply_for a rs)) (drop (uses a) rs) (room - 3))
  where
    go : (b c : Bool) → run_talk (listed (k (reply_for a rs))) (drop (uses a) rs) (room - 3) ≡ listed_run (run_talk (k (reply_for a rs)) (drop (uses a) rs) (room - 3))
        → pick b (stopped (listed (ask a k)) NoRoom) (pick c (stopped (listed (ask a k)) NoReply) (before a (run_talk (listed (k (reply_for a rs))) (drop (uses a) rs) (room - 3))))
        ≡ listed_run (pick b (stopped (ask a k) NoRoom) (pick c (stopped (ask a k) NoReply) (before a (run_talk (k (reply_for a rs)) (drop (uses a) rs) (room - 3)))))
    go true c h = refl
    go false true h = refl
    go false false h = ap (before a) h

alike : (port : Port) (s : Talk Out) (rs t : List ℕ) (at : ℕ) → Alike (run_all (opening port s) rs t at) (run_all (opening port (listed s)) rs t at)
unfolding run_on
alike port (end r) rs t at = record { stop = refl; tape = refl; talk = refl }
alike port (ask a k) rs t at = go (bad rs)
  where
    c : Conv
    c = opening port (ask a k)

    same : run_talk (listed (ask a k)) rs (length t - at) ≡ listed_run (run_talk (ask a k) rs (length t - at))
    same = run_listed (ask a k) rs (length t - at)

    go : (b : Bool) → Alike (pick b (refused_run BadReply (opening port (ask a k)) t at) (run_into (opening port (ask a k)) rs t at 0))
        (pick b (refused_run BadReply (opening port (listed (ask a k))) t at) (run_into (opening port (listed (ask a k))) rs t at 0))
    go true = record { stop = refl; tape = refl; talk = refl }
    go false =
        record {
          stop = ap (λ (r : Run Out). r.stop) same;
          tape = ap (λ (r : Run Out). run.after (tape_of (opening port (ask a k)) t at 0) r.done) same;
          talk = ap (λ (r : Run Out). r.talk) same;
        }

pub one_pair_runs : (port : Port) (phy device register : ℕ) → register ≤ 0xffff → (rs t : List ℕ) (at : ℕ)
    → Alike (run_all (begun port (ReadReg phy device register) []) rs t at) (run_all (begun port (MdioList phy) (device ∷ register ∷ [])) rs t at)
one_pair_runs port phy device register h rs t at =
    subst (λ (s : Talk Out). Alike (run_all (begun port (ReadReg phy device register) []) rs t at) (run_all (opening port s) rs t at))
    (sym (one_pair port phy device register h))
    (alike port (begun port (ReadReg phy device register) []).talk rs t at)
