-- The code's conversations stand where the model's ports stand, so what is said of the model is said of the code
use Rattle.std.specs.Prelude.{Err, Ok, Option, None, Some}
use Rattle.hardware.specs.Talk.{Talk, Res, end, ask, and_then, pick, Reply}
use Prim.Native.Nat.{ℕ}
use mathlib.Core.Path.{◌≡◌, refl, sym, ap, ap₂, ◌∙◌, subst}
use mathlib.Core.Bool.{Bool, true, false, ◌&&◌}
use mathlib.Core.List.{List, [], ◌∷◌}
use Rattle.hardware.specs.declared.Action.{Action}
use Rattle.hardware.specs.declared.Action.TheVariants as action
use Rattle.hardware.specs.declared.Family.{Family}
use Rattle.hardware.specs.declared.Port.{Port}
use Rattle.reference.specs.Out.{Out}
use Rattle.operations.specs.Request.{refused}
use Rattle.operations.specs.Operations.{operation}
use Rattle.calls.specs.Conversation.{Conv, opening, started, step_on, step_talk}
use Rattle.mixing.specs.Conversations.{
  AtPort,
  Real,
  kind_of,
  well_then,
  noted,
  at_port,
  changed,
  steps,
  starts,
  step_real,
  run_real,
  fresh,
  fed,
  Answered,
  Served,
  OfTheCode,
}
use Rattle.mixing.specs.Mixing.{table, Right, Mixed, Demand3, Parts, begun_if, ops_of, starting}
use Rattle.mixing.specs.Model.{Side, of_port, Chip, World, do_action, do_firmware, free}
use Rattle.mixing.specs.Operations.{mixable, Asked, port_at}
use Rattle.mixing.specs.Events.{is_ok, Touch, got, wrote, word, touch, own_then, Event, begin, act, firm}
use Rattle.mixing.specs.System.{
  Access,
  reads,
  writes,
  Given,
  access_talk,
  Outside,
  Made,
  done,
  other,
  access,
  State,
  idle,
  out,
  inside,
  Entry,
  touched,
  gave,
  Next,
  resume,
  settle,
  seen_then,
  log_then,
  Sys,
  moved,
  Begun,
  acts,
  begins,
  step,
  run,
}
use Rattle.mixing.specs.Tie.{Stands, touches_of, Tied, AsTheModel}
use Rattle.mixing.proofs.Claim.{demand_3}
use Rattle.mixing.proofs.Loc.{untouched}
use Rattle.mixing.proofs.Mix.{change₁, change₂}
use Rattle.mixing.proofs.Touch.{put_eq}

-- ---- after it has settled a port says what it was to settle, and has touched nothing

module _ (f : Family) (well : Bool) where
  resume_says : (x : Access) (s : Option ℕ) (u : Talk (Res (Given x))) (k : Res (Given x) → Talk Out) (m : (r : Res (Given x)) → Made f (k r))
      (go : Res (Given x) → List Entry → Next f) (t : Talk Out) (w : Bool) (l : List Entry)
      → ((r : Res (Given x)) (t : Talk Out) (l : List Entry) → t ≡ k r → Stands (go r l).state t (well_then t w))
      → t ≡ and_then u k → w ≡ well → Stands (resume f well x s u k m go l).state t (well_then t w)
  resume_says x s (end r) k m go t w l h e d = h r t _ e
  resume_says x s (ask a c) k m go t w l h e d = (e, ap₂ well_then e d)

  settle_says : {u : Talk Out} (m : Made f u) (t : Talk Out) (w : Bool) (l : List Entry) → t ≡ u → w ≡ well
      → Stands (settle f well m l).state t (well_then t w)
  unfolding settle
  settle_says (done a) t w l e d = ((a, e), ap₂ well_then e d)
  settle_says (other o m) t w l e d = (e, ap₂ well_then e d)
  settle_says (access x k p m) t w l e d =
      resume_says x None (access_talk f x) k m _ t w l (λ r t' l' e'. settle_says (m r) t' w l' e' d) (e ∙ p) d

  resume_keeps : (x : Access) (s : Option ℕ) (u : Talk (Res (Given x))) (k : Res (Given x) → Talk Out) (m : (r : Res (Given x)) → Made f (k r))
      (go : Res (Given x) → List Entry → Next f) (l : List Entry)
      → ((r : Res (Given x)) (l : List Entry) → touches_of (go r l).log ≡ touches_of l) → touches_of (resume f well x s u k m go l).log ≡ touches_of l
  resume_keeps x s (end r) k m go l h = h r (gave x s r ∷ l)
  resume_keeps x s (ask a c) k m go l h = refl

  settle_keeps : {u : Talk Out} (m : Made f u) (l : List Entry) → touches_of (settle f well m l).log ≡ touches_of l
  unfolding settle
  settle_keeps (done a) l = refl
  settle_keeps (other o m) l = refl
  settle_keeps (access x k p m) l = resume_keeps x None (access_talk f x) k m _ l (λ r l'. settle_keeps (m r) l')

log_notes : (x : Access) (t : Option Touch) (s : Option ℕ) (l : List Entry) → touches_of (log_then x t s l) ≡ noted t (touches_of l)
log_notes x None s l = refl
log_notes x (Some t) s l = refl

-- ---- a step of the code goes on from the chip's reply

module _ (c : Reply → Talk Out) (conv : Conv) where
  read_goes : (reg : ℕ) (r : Reply) → (step_on (ask (action.Read reg) c) conv (kind_of r) (word r)).to.talk ≡ c r
  read_goes reg (Ok v) = refl
  read_goes reg (Err v) = refl

  write_goes : (reg v : ℕ) (r : Reply) → (step_on (ask (action.Write reg v) c) conv (kind_of r) (word r)).to.talk ≡ c r
  write_goes reg v (Ok n) = refl
  write_goes reg v (Err n) = refl

  step_goes : (f : Family) (p : Side) (w : World) (chip : Chip) (a : Action)
      → (step_on (ask a c) conv (kind_of (do_action f p w chip a).reply) (word (do_action f p w chip a).reply)).to.talk ≡ c (do_action f p w chip a).reply
  step_goes f p w chip (action.Read reg) = read_goes reg (do_action f p w chip (action.Read reg)).reply
  step_goes f p w chip (action.Write reg v) = write_goes reg v (do_action f p w chip (action.Write reg v)).reply
  step_goes f p w chip (action.Wait n) = refl

module _ (f : Family) (p : Side) where
  -- port p has moved on in both
  both : (s : Sys f) (r : Real) (c : Chip) (own : ℕ) (n : Next f) (d : AtPort) (l : List Touch) → Tied s r → Stands n.state d.conv.talk d.well → d.own ≡ own
      → l ≡ touches_of n.log → Tied (moved p c own n s) (changed p c d l r)
  both s r c own n d l t h o e =
      record {
        chip = refl;
        stands = change₂ (λ q m a. Stands m a.conv.talk a.well) p n.state s.ports d r.ports h (λ q o. t.stands q);
        own = change₂ (λ q m a. a.own ≡ m) p own s.own d r.ports o (λ q o. t.own q);
        touches = e;
      }

  -- or in the code alone
  alone : (s : Sys f) (r : Real) (d : AtPort) → Tied s r → Stands (s.ports p) d.conv.talk d.well → d.own ≡ s.own p
      → Tied s (changed p r.chip d r.touches r)
  alone s r d t h o =
      record {
        chip = t.chip;
        stands = change₁ (λ q a. Stands (s.ports q) a.conv.talk a.well) p d r.ports h (λ q o. t.stands q);
        own = change₁ (λ q a. a.own ≡ s.own q) p d r.ports o (λ q o. t.own q);
        touches = t.touches;
      }

  module _ (w : World) (s : Sys f) (r : Real) (t : Tied s r) where
    abbrev did : Action → Reply
    did a = (do_action f p w s.chip a).reply

    -- the action a that is due
    acted : (a : Action) (c : Reply → Talk Out) (n : Reply → Next f) → (r.ports p).conv.talk ≡ ask a c
        → ((x : Reply) (u : Talk Out) → u ≡ c x → Stands (n x).state u (well_then u (r.ports p).well))
        → ((x : Reply) → noted (touch f (s.own p) a x) (touches_of s.log) ≡ touches_of (n x).log)
        → Tied (moved p (do_action f p w s.chip a).chip (own_then f a (s.own p)) (n (did a)) s) (steps f p w r (r.ports p) (r.ports p).conv.talk)
    acted a c n e h g =
        subst (Tied next) (sym (ap (steps f p w r (r.ports p)) e))
        (subst (λ chip. Tied next (changed p (do_action f p w chip a).chip (at_then (do_action f p w chip a).reply) (noted (touch f (r.ports p).own a (do_action f p w chip a).reply) r.touches) r))
        (sym t.chip)
        (both s r (do_action f p w s.chip a).chip (own_then f a (s.own p)) (n (did a)) (at_then (did a)) (noted (touch f (r.ports p).own a (did a)) r.touches) t
        (h (did a) _ (ap (λ u. (step_on u (r.ports p).conv (kind_of (did a)) (word (did a))).to.talk) e ∙ step_goes c (r.ports p).conv f p w s.chip a))
        (ap (own_then f a) (t.own p))
        (ap₂ (λ own l. noted (touch f own a (did a)) l) (t.own p) t.touches ∙ g (did a))))
      where
        next : Sys f
        next = moved p (do_action f p w s.chip a).chip (own_then f a (s.own p)) (n (did a)) s

        conv : Reply → Conv
        conv x = (step_talk (r.ports p).conv (kind_of x) (word x)).to

        at_then : Reply → AtPort
        at_then x = at_port (conv x) (well_then (conv x).talk (r.ports p).well) (own_then f a (r.ports p).own)

    -- a step after the end leaves the conversation as it was
    late : (o : Out) → (r.ports p).conv.talk ≡ end o → (step_talk (r.ports p).conv w.kind w.value).to ≡ (r.ports p).conv
    late o e = ap (λ u. (step_on u (r.ports p).conv w.kind w.value).to) e

    acts_tied : (q : State f) → s.ports p ≡ q → Stands q (r.ports p).conv.talk (r.ports p).well
        → Tied (acts f p w s q) (steps f p w r (r.ports p) (r.ports p).conv.talk)
    unfolding acts
    acts_tied (idle well) i h =
        subst (Tied s) (sym (ap (steps f p w r (r.ports p)) h.0.1))
        (alone s r _ t (subst (λ c. Stands (s.ports p) c.talk (r.ports p).well) (sym (late h.0.0 h.0.1)) (t.stands p)) (t.own p))
    acts_tied (out well a c o m) i h =
        acted a c (λ x. settle f well (m x) s.log) h.0 (λ x u e. settle_says f well (m x) u (r.ports p).well s.log e h.1)
        (λ x. ap (λ d. noted d (touches_of s.log)) (untouched f (s.own p) a x o) ∙ sym (settle_keeps f well (m x) s.log))
    acts_tied (inside well x seen a c k m) i h =
        acted a (λ y. and_then (c y) k)
        (λ y. resume f well x (then_seen y) (c y) k m (λ g l. settle f well (m g) l) (then_log y)) h.0
        (λ y u e. resume_says f well x _ (c y) k m _ u _ _ (λ g u l d. settle_says f well (m g) u _ l d h.1) e h.1)
        (λ y. sym (resume_keeps f well x (then_seen y) (c y) k m _ (then_log y) (λ g l. settle_keeps f well (m g) l) ∙ log_notes x (touch f (s.own p) a y) seen s.log))
      where
        then_seen : Reply → Option ℕ
        then_seen y = seen_then (touch f (s.own p) a y) seen

        then_log : Reply → List Entry
        then_log y = log_then x (touch f (s.own p) a y) seen s.log

  module _ (s : Sys f) (r : Real) (t : Tied s r) (port : Port) (u : Talk Out) where
    -- refused, or begun
    begun_tied : (well mixed : Bool) (verdict : Res (Unit {0})) (made : (mixed && is_ok verdict) ≡ true → Made f u) → s.ports p ≡ idle well → (r.ports p).well ≡ well
        → Tied (begins f p s (begun_if f u (mixed && is_ok verdict) made) (idle well))
        (pick mixed
        (changed p r.chip
        (at_port (opening port (started u verdict)) (pick (is_ok verdict) (well_then (started u verdict) (r.ports p).well) (r.ports p).well) (r.ports p).own)
        r.touches r) r)
    unfolding begins
    begun_tied well false verdict made e d = t
    begun_tied well true (Err z) made e d =
        alone s r (at_port (opening port (end (Err z, []))) (r.ports p).well (r.ports p).own) t
        (subst (λ q. Stands q (end (Err z, [])) (r.ports p).well) (sym e) (((Err z, []), refl), d)) (t.own p)
    begun_tied well true (Ok _) made e d =
        subst (λ c. Tied (moved p s.chip (s.own p) (settle f well (made refl) s.log) s) (changed p c at r.touches r)) (sym t.chip)
        (both s r s.chip (s.own p) (settle f well (made refl) s.log) at r.touches t
        (settle_says f well (made refl) u (r.ports p).well s.log refl d) (t.own p) (t.touches ∙ sym (settle_keeps f well (made refl) s.log)))
      where
        at : AtPort
        at = at_port (opening port u) (well_then u (r.ports p).well) (r.ports p).own

-- one that is running goes on
module _ (f : Family) (p : Side) (s : Sys f) (well : Bool) where
  out_stays : (a : Action) (c : Reply → Talk Out) (o : Outside f a) (m : (r : Reply) → Made f (c r)) (g : Option (Begun f))
      → begins f p s g (out well a c o m) ≡ s
  unfolding begins
  out_stays a c o m None = refl
  out_stays a c o m (Some g) = refl

  in_stays : (x : Access) (seen : Option ℕ) (a : Action) (c : Reply → Talk (Res (Given x))) (k : Res (Given x) → Talk Out) (m : (r : Res (Given x)) → Made f (k r))
      (g : Option (Begun f)) → begins f p s g (inside well x seen a c k m) ≡ s
  unfolding begins
  in_stays x seen a c k m None = refl
  in_stays x seen a c k m (Some g) = refl

module _ (f : Family) (made : Parts f) where
  begins_tied : (p : Side) (a : Asked) (s : Sys f) (r : Real) → Tied s r → (q : State f) → s.ports p ≡ q → Stands q (r.ports p).conv.talk (r.ports p).well
      → Tied (begins f p s (ops_of f made p a) q) (starts f p a r (r.ports p) (r.ports p).conv.talk)
  begins_tied p a s r t (idle well) e h =
      let port = port_at f p a in
      subst (Tied _) (sym (ap (starts f p a r (r.ports p)) h.0.1))
      (begun_tied f p s r t port (operation port a.what a.block) well (mixable a.what)
      (refused port a.what a.block) (made p a) e h.1)
  begins_tied p a s r t (out well b c o m) e h =
      subst (Tied _) (sym (ap (starts f p a r (r.ports p)) h.0)) (subst (λ z. Tied z r) (sym (out_stays f p s well b c o m (ops_of f made p a))) t)
  begins_tied p a s r t (inside well x seen b c k m) e h =
      subst (Tied _) (sym (ap (starts f p a r (r.ports p)) h.0)) (subst (λ z. Tied z r) (sym (in_stays f p s well x seen b c k m (ops_of f made p a))) t)

  step_tied : (e : Event Asked) (s : Sys f) (r : Real) → Tied s r → Tied (step f (ops_of f made) e s) (step_real f e r)
  unfolding step
  step_tied (begin p a) s r t = begins_tied p a s r t (s.ports p) refl (t.stands p)
  step_tied (act p w) s r t = acts_tied f p w s r t (s.ports p) refl (t.stands p)
  step_tied (firm i) s r t = record { chip = ap (do_firmware i) t.chip; stands = t.stands; own = t.own; touches = t.touches }

  run_tied : (es : List (Event Asked)) (s : Sys f) (r : Real) → Tied s r → Tied (run f (ops_of f made) es s) (run_real f es r)
  unfolding run run_real
  run_tied [] s r t = t
  run_tied (e ∷ es) s r t = run_tied es (step f (ops_of f made) e s) (step_real f e r) (step_tied e s r t)

pub as_the_model : (f : Family) → AsTheModel f
as_the_model f made before bits address regs es =
    run_tied f made es (starting (free bits address regs)) (fresh f before (free bits address regs))
    (record { chip = refl; stands = λ p. ((before p, refl), refl); own = λ p. refl; touches = refl })

-- ---- what is right of a record of accesses is right of their touches

module _ (t₀ : ℕ → ℕ) where
  fed_is : (l : List Entry) → Right t₀ l → (a : ℕ) → table t₀ l a ≡ fed t₀ (touches_of l) a
  unfolding table Right fed
  fed_is [] h a = refl
  fed_is (touched (reads who b) s (got c v) ∷ l) h a = fed_is l h.2 a
  fed_is (touched (reads who b) s (wrote c v) ∷ l) h a = absurd h.1
  fed_is (touched (writes who b w) s (got c v) ∷ l) h a = absurd h.1
  fed_is (touched (writes who b w) s (wrote c v) ∷ l) h a = put_eq b c w v _ _ (sym h.1.0) (sym h.1.1) (fed_is l h.2) a
  fed_is (gave x s r ∷ l) h a = fed_is l h.1 a

  answered_is : (l : List Entry) → Right t₀ l → Answered t₀ (touches_of l)
  unfolding Right Answered
  answered_is [] h = tt
  answered_is (touched (reads who b) s (got c v) ∷ l) h = (h.1.1 ∙ fed_is l h.2 b ∙ ap (fed t₀ (touches_of l)) (sym h.1.0), answered_is l h.2)
  answered_is (touched (reads who b) s (wrote c v) ∷ l) h = absurd h.1
  answered_is (touched (writes who b w) s (got c v) ∷ l) h = absurd h.1
  answered_is (touched (writes who b w) s (wrote c v) ∷ l) h = answered_is l h.2
  answered_is (gave x s r ∷ l) h = answered_is l h.1

end_ask : {o : Out} {a : Action} {c : Reply → Talk Out} → end o ≡ ask a c → ⊥
end_ask e = cc

-- a port whose conversation has ended, with all well, stands idle
is_idle : {f : Family} (q : State f) (t : Talk Out) (w : Bool) (o : Out) → Stands q t w → w ≡ true → t ≡ end o → q ≡ idle true
is_idle (idle well) t w o h e d = ap idle (sym h.1 ∙ e)
is_idle (out well a c x m) t w o h e d = absurd (end_ask (sym d ∙ h.0))
is_idle (inside well x seen a c k m) t w o h e d = absurd (end_ask (sym d ∙ h.0))

pub demand_3_of_the_code : (f : Family) → OfTheCode f
demand_3_of_the_code f before bits address regs es = served (run f ops es (starting (free bits address regs))) _ (d.mixes d.parts bits address regs es)
    (as_the_model f d.parts before bits address regs es)
  where
    d : Demand3 f
    d = demand_3 f

    ops : Side → Asked → Option (Begun f)
    ops = ops_of f d.parts

    served : (s : Sys f) (r : Real) → Mixed regs s → Tied s r → Served regs r
    served s r m t = record {
      registers = λ a. ap (λ c. c.kr a) t.chip ∙ m.registers a ∙ fed_is regs s.log m.answers a ∙ ap (λ l. fed regs l a) (sym t.touches);
      answers = subst (Answered regs) (sym t.touches) (answered_is regs s.log m.answers);
      owns = λ p o e h. subst (λ c. (i : ℕ) → (c.swsm.owner i ≡ of_port p → ⊥) × (c.sync.owner i ≡ of_port p → ⊥)) (sym t.chip)
          (m.owns p (is_idle (s.ports p) (r.ports p).conv.talk (r.ports p).well o (t.stands p) e h));
    }
