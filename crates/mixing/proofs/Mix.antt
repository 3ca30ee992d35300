-- What holds after every list of events
use Rattle.hardware.specs.Talk.{Talk, Res, end, ask, and_then, Reply}
use Prim.Native.Nat.{ℕ}
use mathlib.Core.Path.{◌≡◌, refl, sym, ◌∙◌, subst}
use mathlib.Core.Bool.{Bool, true, false}
use mathlib.Core.List.{List, [], ◌∷◌}
use Rattle.std.specs.Prelude.{Option, None, Some}
use Rattle.hardware.specs.declared.Action.{Action}
use Rattle.hardware.specs.declared.Family.{Family}
use Rattle.reference.specs.Out.{Out}
use Rattle.mixing.specs.Mixing.{table, Right, RightGave}
use Rattle.mixing.specs.Model.{Side, lan0, lan1, Chip, World}
use Rattle.mixing.specs.Events.{is_ok, ends_well, change, Event, begin, act, firm}
use Rattle.mixing.specs.System.{
  Access,
  Given,
  access_talk,
  Outside,
  Made,
  done,
  other,
  access,
  State,
  idle,
  out,
  inside,
  Entry,
  gave,
  Next,
  resume,
  settle,
  Sys,
  moved,
  Begun,
  acts,
  begins,
  step,
  run,
}
use Rattle.mixing.proofs.Firmware.{fw_step}
use Rattle.mixing.proofs.Hold.{Clean}
use Rattle.mixing.proofs.Loc.{sel_next, Loc, loc_end, loc_ask, access_own}
use Rattle.mixing.proofs.Share.{Other, ChipOk, Sees, action_step}
use Rattle.mixing.proofs.Touch.{none_is, touch_ok, sel_next_lem, picked_next, out_kr}
use Rattle.mixing.proofs.Wp.{View, Wp, wp_end, wp_ask}

-- a port at rest
pub record Rest (b : Bool) (W : View) : Type 0 where
  pub clean : Clean W
  pub none : b ≡ true → (i : ℕ) → W.mine i ≡ false

-- how its operation ends
abbrev pub OpEnds : Bool → View → Out → Type 0
OpEnds b W o = Rest (ends_well (is_ok o.0) b) W

-- a port in an access, of which u is left, and k after it
pub record In (f : Family) (W : View) (b : Bool) (x : Access) (s : Option ℕ) (u : Talk (Res (Given x))) (k : Res (Given x) → Talk Out) : Type 0 where
  pub sel : Option ℕ
  pub loc : Loc f x (RightGave x) sel s u
  pub same : (a : ℕ) → sel ≡ Some a → W.sel ≡ Some a
  pub goes : Wp f (OpEnds b) W (and_then u k)

module _ (f : Family) where
  abbrev pub PortOk : View → State f → Type 0
  PortOk W (idle b) = Rest b W
  PortOk W (out b a c o m) = Wp f (OpEnds b) W (ask a c)
  PortOk W (inside b x s a c k m) = In f W b x s (ask a c) k

  module _ (t₀ : ℕ → ℕ) where
    pub record Settled (W : View) (l : List Entry) (n : Next f) : Type 0 where
      pub port : PortOk W n.state
      pub right : Right t₀ n.log
      pub table : (a : ℕ) → table t₀ n.log a ≡ table t₀ l a

    resume_ok : (b : Bool) (x : Access) (s : Option ℕ) (u : Talk (Res (Given x))) (k : Res (Given x) → Talk Out) (m : (r : Res (Given x)) → Made f (k r))
        (go : Res (Given x) → List Entry → Next f)
        → ((r : Res (Given x)) (W : View) (l : List Entry) → Wp f (OpEnds b) W (k r) → Right t₀ l → Settled W l (go r l))
        → (W : View) (l : List Entry) (sel : Option ℕ) → ((a : ℕ) → sel ≡ Some a → W.sel ≡ Some a) → Loc f x (RightGave x) sel s u → Wp f (OpEnds b) W (and_then u k)
        → Right t₀ l → Settled W l (resume f b x s u k m go l)
    unfolding Right table
    resume_ok b x s (end r) k m go h W l sel sm (loc_end g) wp rt =
        let n = h r W (gave x s r ∷ l) wp (g, rt) in
        record { port = n.port; right = n.right; table = n.table }
    resume_ok b x s (ask a c) k m go h W l sel sm (loc_ask n g) wp rt =
        record { port = record { sel = sel; loc = loc_ask n g; same = sm; goes = wp }; right = rt; table = λ a. refl }

    pub settle_ok : (b : Bool) {t : Talk Out} (m : Made f t) (W : View) (l : List Entry) → Wp f (OpEnds b) W t → Right t₀ l → Settled W l (settle f b m l)
    unfolding settle
    settle_ok b (done o) W l (wp_end h) rt = record { port = h; right = rt; table = λ a. refl }
    settle_ok b (other o m) W l h rt = record { port = h; right = rt; table = λ a. refl }
    settle_ok b (access x k e m) W l h rt =
        resume_ok b x None (access_talk f x) k m (λ r l'. settle f b (m r) l') (λ r W' l' p q. settle_ok b (m r) W' l' p q) W l None
        (λ a z. none_is a z) (access_own f x None) (subst (Wp f (OpEnds b) W) e h) rt

pub change₁ : {P : Type 0} (F : Side → P → Type 0) (p : Side) (d : P) (ds : Side → P) → F p d → ((q : Side) → Other p q → F q (ds q)) → (q : Side)
    → F q (change p d ds q)
change₁ F lan0 d ds h k lan0 = h
change₁ F lan0 d ds h k lan1 = k lan1 refl
change₁ F lan1 d ds h k lan0 = k lan0 refl
change₁ F lan1 d ds h k lan1 = h

pub change₂ : {P R : Type 0} (F : Side → P → R → Type 0) (p : Side) (d : P) (ds : Side → P) (e : R) (es : Side → R)
    → F p d e → ((q : Side) → Other p q → F q (ds q) (es q)) → (q : Side) → F q (change p d ds q) (change p e es q)
change₂ F lan0 d ds e es h k lan0 = h
change₂ F lan0 d ds e es h k lan1 = k lan1 refl
change₂ F lan1 d ds e es h k lan0 = k lan0 refl
change₂ F lan1 d ds e es h k lan1 = h

module _ (f : Family) (t₀ : ℕ → ℕ) where
  pub record Inv (s : Sys f) : Type 0 where
    pub chip : ChipOk s.chip
    pub view : Side → View
    pub sees : (p : Side) → Sees p s.chip (view p)
    pub ports : (p : Side) → PortOk f (view p) (s.ports p)
    pub picked : (p : Side) (a : ℕ) → (view p).sel ≡ Some a → s.own p ≡ a
    pub kr : (a : ℕ) → s.chip.kr a ≡ table t₀ s.log a
    pub right : Right t₀ s.log

  -- port p has done something, and settled
  moved_ok : (p : Side) (s : Sys f) (c : Chip) (own : ℕ) (l : List Entry) (n : Next f) (W : View) → Inv s → ChipOk c → Sees p c W
      → ((q : Side) (W' : View) → Other p q → Sees q s.chip W' → Sees q c W')
      → ((a : ℕ) → W.sel ≡ Some a → own ≡ a)
      → ((a : ℕ) → c.kr a ≡ table t₀ l a) → Settled f t₀ W l n
      → Inv (moved p c own n s)
  moved_ok p s c own l n W i k se others pk kr st = record {
    chip = k;
    view = change p W i.view;
    sees = change₁ (λ q V'. Sees q c V') p W i.view se (λ q o. others q (i.view q) o (i.sees q));
    ports = change₂ (λ q V' d. PortOk f V' d) p W i.view n.state s.ports st.port (λ q o. i.ports q);
    picked = change₂ (λ q V' o. (a : ℕ) → V'.sel ≡ Some a → o ≡ a) p W i.view own s.own pk (λ q o. i.picked q);
    kr = λ a. kr a ∙ sym (st.table a);
    right = st.right;
  }

  out_ok : (p : Side) (w : World) (s : Sys f) → Inv s → (W : View) → Sees p s.chip W → ((a : ℕ) → W.sel ≡ Some a → s.own p ≡ a)
      → (b : Bool) (a : Action) (c : Reply → Talk Out) (o : Outside f a) (m : (r : Reply) → Made f (c r))
      → Wp f (OpEnds b) W (ask a c) → Inv (acts f p w s (out b a c o m))
  unfolding acts
  out_ok p w s i W se pk b a c o m (wp_ask n h) =
      let st = action_step f p w s.chip W a i.chip se n in
      moved_ok p s _ _ s.log _ _ i st.chip st.sees st.others (λ e. picked_next f (s.own p) W a _ e (pk e)) (λ b'. out_kr f p w s.chip a o b' ∙ i.kr b')
      (settle_ok f t₀ b (m _) _ s.log (h _ st.may) i.right)

  in_ok : (p : Side) (w : World) (s : Sys f) → Inv s → (W : View) → Sees p s.chip W → ((a : ℕ) → W.sel ≡ Some a → s.own p ≡ a)
      → (b : Bool) (x : Access) (seen sel : Option ℕ) (a : Action) (c : Reply → Talk (Res (Given x)))
      (k : Res (Given x) → Talk Out) (m : (r : Res (Given x)) → Made f (k r)) → ((a : ℕ) → sel ≡ Some a → W.sel ≡ Some a)
      → Loc f x (RightGave x) sel seen (ask a c) → Wp f (OpEnds b) W (ask a (λ r. and_then (c r) k)) → Inv (acts f p w s (inside b x seen a c k m))
  unfolding acts
  in_ok p w s i W se pk b x seen sel a c k m sm (loc_ask o g) (wp_ask n h) =
      let st = action_step f p w s.chip W a i.chip se n in
      let tc = touch_ok t₀ p w s.chip W (s.own p) seen sel s.log pk sm se i.kr i.right f x a o in
      moved_ok p s _ _ _ _ _ i st.chip st.sees st.others (λ e. picked_next f (s.own p) W a _ e (pk e)) tc.kr
      (resume_ok f t₀ b x _ (c _) k m (λ r l. settle f b (m r) l) (λ r W' l u v. settle_ok f t₀ b (m r) W' l u v) _ _ (sel_next f a sel)
      (λ e z. sel_next_lem f W sel a _ e (sm e) z) (g _ _) (h _ st.may) tc.right)

  acts_ok : (p : Side) (w : World) (s : Sys f) → Inv s → (W : View) → Sees p s.chip W → ((a : ℕ) → W.sel ≡ Some a → s.own p ≡ a) → (d : State f) → PortOk f W d → Inv (acts f p w s d)
  unfolding acts
  acts_ok p w s i W se pk (idle b) h = i
  acts_ok p w s i W se pk (out b a c o m) h = out_ok p w s i W se pk b a c o m h
  acts_ok p w s i W se pk (inside b x seen a c k m) h = in_ok p w s i W se pk b x seen h.sel a c k m h.same h.loc h.goes

  -- what is asked of the operations
  abbrev pub Fit : {Op : Type 0} → (Side → Op → Option (Begun f)) → Type 0
  Fit ops = (p : Side) (o : _) (g : Begun f) → ops p o ≡ Some g → (b : Bool) (W : View) → Rest b W → Wp f (OpEnds b) W g.talk

  begins_ok : (p : Side) (s : Sys f) → Inv s → (W : View) → Sees p s.chip W → ((a : ℕ) → W.sel ≡ Some a → s.own p ≡ a) → (g : Option (Begun f))
      → ((h : Begun f) → g ≡ Some h → (b : Bool) (W : View) → Rest b W → Wp f (OpEnds b) W h.talk)
      → (d : State f) → PortOk f W d → Inv (begins f p s g d)
  unfolding begins
  begins_ok p s i W se pk None fit d h = i
  begins_ok p s i W se pk (Some g) fit (idle b) h =
      moved_ok p s s.chip (s.own p) s.log _ W i i.chip se (λ q W' o t. t) pk i.kr (settle_ok f t₀ b g.made W s.log (fit g refl b W h) i.right)
  begins_ok p s i W se pk (Some g) fit (out b a c o m) h = i
  begins_ok p s i W se pk (Some g) fit (inside b x seen a c k m) h = i

  step_ok : {Op : Type 0} (ops : Side → Op → Option (Begun f)) → Fit ops → (e : Event Op) (s : Sys f) → Inv s → Inv (step f ops e s)
  unfolding step
  step_ok ops fit (begin p o) s i = begins_ok p s i (i.view p) (i.sees p) (i.picked p) (ops p o) (λ h e. fit p o h e) (s.ports p) (i.ports p)
  step_ok ops fit (act p w) s i = acts_ok p w s i (i.view p) (i.sees p) (i.picked p) (s.ports p) (i.ports p)
  step_ok ops fit (firm n) s i =
      let k = fw_step n s.chip i.chip in
      record { chip = k.0; view = i.view; sees = λ p. k.1 p (i.view p) (i.sees p); ports = i.ports; picked = i.picked; kr = i.kr; right = i.right }

  pub run_ok : {Op : Type 0} (ops : Side → Op → Option (Begun f)) → Fit ops → (es : List (Event Op)) (s : Sys f) → Inv s → Inv (run f ops es s)
  unfolding run
  run_ok ops fit [] s i = i
  run_ok ops fit (e ∷ es) s i = run_ok ops fit es (step f ops e s) (step_ok ops fit e s i)
