-- What the operations write is stored as it is written
use Rattle.hardware.specs.Talk.{Talk, end, ask, Reply}
use Prim.Native.Nat.{ℕ}
use mathlib.Core.Path.{◌≡◌, refl, sym, ap, ◌∙◌, subst}
use mathlib.Core.Bool.{Bool}
use mathlib.Core.List.{List, [], ◌∷◌}
use Rattle.hardware.specs.declared.Action.{Action}
use Rattle.hardware.specs.declared.Action.TheVariants as action
use Rattle.hardware.specs.declared.Family.{Family}
use Rattle.reference.specs.Out.{Out}
use Rattle.mixing.specs.Conversations.{Real, AtPort, steps, step_real, run_real, fresh}
use Rattle.mixing.specs.Events.{Event, begin, act, firm}
use Rattle.mixing.specs.Mixing.{ops_of, starting}
use Rattle.mixing.specs.Model.{
  Side,
  of_port,
  becomes,
  Chip,
  with_swsm,
  with_sync,
  Kind,
  is_swsm,
  is_sync,
  is_ctrl,
  is_data,
  is_other,
  kind,
  World,
  do_write,
  do_action,
  free,
}
use Rattle.mixing.specs.Operations.{Asked}
use Rattle.mixing.specs.Rule.{
  SameWord,
  SameAction,
  SameDue,
  SameNext,
  write_whole,
  action_whole,
  due_whole,
  step_whole,
  run_whole,
  StoresTheSame,
  PortsStoreTheSame,
}
use Rattle.mixing.specs.System.{State, idle, out, inside, Sys, run}
use Rattle.mixing.specs.Tie.{Stands}
use Rattle.mixing.proofs.Claim.{starts, ops_fit, demand_3}
use Rattle.mixing.proofs.Conversations.{as_the_model}
use Rattle.mixing.proofs.Mix.{PortOk, Inv, run_ok}
use Rattle.mixing.proofs.Share.{ChipOk, Sees, same_action}
use Rattle.mixing.proofs.Wp.{View, Wp, wp_ask}

-- ---- the action that is due keeps the rules

module _ (f : Family) (p : Side) (c : Chip) (W : View) (k : ChipOk c) (s : Sees p c W) where
  due_same : {Q : View → Out → Type 0} {a : Action} {g : Reply → Talk Out} → Wp f Q W (ask a g) → SameAction f c a
  due_same {a = a} (wp_ask n h) = same_action f p c W a k s n

  next_same : (q : State f) → PortOk f W q → SameNext c q
  next_same (idle well) h = tt
  next_same (out well a g o m) h = due_same h
  next_same (inside well x seen a g t m) h = due_same h.goes

pub ports_store_the_same : (f : Family) → PortsStoreTheSame f
ports_store_the_same f made bits address regs es p = go _ (run_ok f regs (ops_of f made) (ops_fit f made) es _ (starts f bits address regs))
  where
    go : (s : Sys f) → Inv f regs s → SameNext s.chip (s.ports p)
    go s i = next_same f p s.chip (i.view p) i.chip (i.sees p) (s.ports p) (i.ports p)

-- ---- so of the code's conversations

code_same : {f : Family} (c : Chip) (q : State f) (t : Talk Out) (w : Bool) → SameNext c q → Stands q t w → SameDue f c t
code_same {f} c (idle well) t w h e = subst (SameDue f c) (sym e.0.1) tt
code_same {f} c (out well a g o m) t w h e = subst (SameDue f c) (sym e.0) h
code_same {f} c (inside well x seen a g k m) t w h e = subst (SameDue f c) (sym e.0) h

module _ (f : Family) (before : Side → Out) (bits address : ℕ) (regs : ℕ → ℕ) (es : List (Event Asked)) (p : Side) where
  words_same : let r = run_real f es (fresh f before (free bits address regs)) in SameDue f r.chip (r.ports p).conv.talk
  words_same =
      let made = (demand_3 f).parts in
      let s = run f (ops_of f made) es (starting (free bits address regs)) in
      let r = run_real f es (fresh f before (free bits address regs)) in
      let t = as_the_model f made before bits address regs es in
      code_same r.chip (s.ports p) (r.ports p).conv.talk (r.ports p).well
      (subst (λ c. SameNext c (s.ports p)) (sym t.chip) (ports_store_the_same f made bits address regs es p)) (t.stands p)

-- ---- so the chip goes on alike

module _ (f : Family) (p : Side) (w : World) where
  write_same : (c : Chip) (v : ℕ) (kd : Kind) → SameWord c v kd → write_whole p w c v kd ≡ (do_write p w c v kd).chip
  write_same c v is_swsm h = ap (λ u. with_swsm (becomes (of_port p) u c.swsm) c) (sym h)
  write_same c v is_sync h = ap (λ u. with_sync (becomes (of_port p) u c.sync) c) (sym h)
  write_same c v is_ctrl h = refl
  write_same c v is_data h = refl
  write_same c v is_other h = refl

  chip_same : (c : Chip) (a : Action) → SameAction f c a → action_whole f p w c a ≡ (do_action f p w c a).chip
  chip_same c (action.Read r) h = refl
  chip_same c (action.Write r v) h = write_same c v (kind f r) h
  chip_same c (action.Wait n) h = refl

  steps_same : (s : Real) (d : AtPort) (t : Talk Out) → SameDue f s.chip t
      → ◌≡◌ {A = Real} (record { chip = due_whole f p w s.chip t; ports = (steps f p w s d t).ports; touches = (steps f p w s d t).touches }) (steps f p w s d t)
  steps_same s d (end o) h = refl
  steps_same s d (ask a k) h =
      ap (λ c. record { chip = c; ports = (steps f p w s d (ask a k)).ports; touches = (steps f p w s d (ask a k)).touches }) (chip_same s.chip a h)

step_same : (f : Family) (e : Event Asked) (s : Real) → ((p : Side) → SameDue f s.chip (s.ports p).conv.talk) → step_whole f e s ≡ step_real f e s
step_same f (begin p q) s h = refl
step_same f (act p w) s h = steps_same f p w s (s.ports p) (s.ports p).conv.talk (h p)
step_same f (firm i) s h = refl

run_same : (f : Family) (es : List (Event Asked)) (s : Real)
    → ((ds : List (Event Asked)) (p : Side) → SameDue f (run_real f ds s).chip ((run_real f ds s).ports p).conv.talk) → run_whole f es s ≡ run_real f es s
unfolding run_whole run_real
run_same f [] s h = refl
run_same f (e ∷ es) s h = ap (run_whole f es) (step_same f e s (h [])) ∙ run_same f es (step_real f e s) (λ ds. h (e ∷ ds))

pub stores_the_same : (f : Family) → StoresTheSame f
stores_the_same f before bits address regs es = record {
  words = words_same f before bits address regs es;
  run = run_same f es (fresh f before (free bits address regs)) (words_same f before bits address regs);
}
