-- What CTRL selects, and what it is read as, for all that can be begun
use Rattle.std.specs.Prelude.{Err, Ok}
use Rattle.hardware.specs.Talk.{Talk, Res, end, ask, pick, Reply}
use Prim.Native.Nat.{ℕ, ◌+◌, ◌*◌, ◌%◌, ◌^◌, ◌≤◌}
use native.Mathlib.Omega.{arith}
use mathlib.Core.Path.{◌≡◌, refl, sym, ap, ◌∙◌, subst}
use mathlib.Core.Bool.{Bool, true, false, true≢false}
use mathlib.Core.List.{List, [], ◌∷◌}
use lib.Bits.{bit_and, bit_or, and_zero_l, and_mask, and_block, or_zero_r, or_shifted_r}
use lib.Dec.{eqb, lit<}
use borrow.Author.Tests.{eqb-true}
use Rattle.hardware.specs.Bits.{without}
use Rattle.hardware.specs.declared.Action.{Action}
use Rattle.hardware.specs.declared.Action.TheVariants as action
use Rattle.hardware.specs.declared.Family.{Family}
use Rattle.hardware.specs.declared.Port.{Port}
use Rattle.hardware.proofs.Refusal.{Taken, taken}
use Rattle.reference.specs.Out.{Out}
use Rattle.operations.specs.Operations.{operation}
use Rattle.operations.specs.Request.{request, refused}
use Rattle.operations.specs.declared.Operation.{Operation}
use Rattle.operations.specs.declared.Operation.TheVariants as operationv
use Rattle.hardware.specs.Regs.{regs}
use Rattle.drive.specs.Act.{reply_for}
use Rattle.hardware.specs.declared.Stop.TheVariants.{BadReply, Done}
use Rattle.calls.specs.Conversation.{Conv, Step, started, begun, refuses, gone, step_on, step_talk}
use Rattle.mixing.specs.Addressed.{InRange, Addressed, AllAddressed, StaysInRange, ShowsAll}
use Rattle.mixing.specs.Conversations.{Real, AtPort, at_port, changed, starts, steps, step_real, run_real, fresh}
use Rattle.mixing.specs.Events.{Event, begin, act, firm, change}
use Rattle.mixing.specs.Model.{Side, lan0, lan1, Chip, Kind, is_swsm, is_sync, is_ctrl, is_data, is_other, kind, World, do_read, do_write, do_action, free}
use Rattle.mixing.specs.Only.{only_end, only_ask}
use Rattle.mixing.specs.Operations.{mixable, Asked, port_at}
use Rattle.mixing.proofs.Only.{only_bind, only_then}
use Rattle.mixing.proofs.Operations.{sound_op}
use Rattle.mixing.proofs.Token.{acquire_addressed, release_addressed}

-- ---- what can be begun

module _ (port : Port) where
  -- the two that are not mixed
  bare_addressed : (what : Operation) (ws : List ℕ) → mixable what ≡ false → Addressed (operation port what ws)
  bare_addressed (operationv.Acquire mask) ws e = only_then (only_bind (acquire_addressed port mask) (λ _. only_end)) (λ r. only_end)
  bare_addressed (operationv.Release mask) ws e = only_then (only_bind (release_addressed port mask) (λ _. only_end)) (λ r. only_end)
  bare_addressed operationv.Veto ws e = absurd (true≢false e)
  bare_addressed operationv.Link ws e = absurd (true≢false e)
  bare_addressed operationv.Command ws e = absurd (true≢false e)
  bare_addressed (operationv.Token take) ws e = absurd (true≢false e)
  bare_addressed (operationv.PhyActivity asked) ws e = absurd (true≢false e)
  bare_addressed (operationv.ReadReg phy device register) ws e = absurd (true≢false e)
  bare_addressed (operationv.MdioList phy) ws e = absurd (true≢false e)
  bare_addressed (operationv.WriteReg phy device register value) ws e = absurd (true≢false e)
  bare_addressed (operationv.Modify at) ws e = absurd (true≢false e)
  bare_addressed (operationv.Probe phy) ws e = absurd (true≢false e)
  bare_addressed operationv.Scan ws e = absurd (true≢false e)
  bare_addressed (operationv.Reset phy x557) ws e = absurd (true≢false e)
  bare_addressed (operationv.Abilities phy) ws e = absurd (true≢false e)
  bare_addressed (operationv.Advertise asked) ws e = absurd (true≢false e)
  bare_addressed (operationv.AnLink phy) ws e = absurd (true≢false e)
  bare_addressed (operationv.KrRead address) ws e = absurd (true≢false e)
  bare_addressed (operationv.KrWrite address value) ws e = absurd (true≢false e)
  bare_addressed (operationv.KrModify c) ws e = absurd (true≢false e)
  bare_addressed operationv.RestartAn ws e = absurd (true≢false e)
  bare_addressed (operationv.KrAutoneg kr kx) ws e = absurd (true≢false e)
  bare_addressed (operationv.NvmWord word) ws e = absurd (true≢false e)
  bare_addressed operationv.AfterReset ws e = absurd (true≢false e)
  bare_addressed (operationv.Bringup veto) ws e = absurd (true≢false e)
  bare_addressed (operationv.Poll w minute) ws e = absurd (true≢false e)

  pub addressed : (what : Operation) (ws : List ℕ) → Taken (request port what ws) → Addressed (operation port what ws)
  addressed what ws h = go (mixable what) refl
    where
      go : (b : Bool) → mixable what ≡ b → Addressed (operation port what ws)
      go true e = (sound_op port what ws e h).addressed
      go false e = bare_addressed what ws e

pub all_addressed : AllAddressed
all_addressed port what ws = go (refused port what ws) (taken (request port what ws))
  where
    go : (r : Res (Unit {0})) → (r ≡ Ok tt → Taken (request port what ws)) → Addressed (started (operation port what ws) r)
    go (Err e) h = only_end
    go (Ok _) h = addressed port what ws (h refl)

-- ---- every list of events

abbrev IsCtrl : Kind → Type 0
IsCtrl is_swsm = ⊥
IsCtrl is_sync = ⊥
IsCtrl is_ctrl = Unit {0}
IsCtrl is_data = ⊥
IsCtrl is_other = ⊥

-- CTRL is the register with that number alone
ctrl_is : (f : Family) (r : ℕ) → IsCtrl (kind f r) → r ≡ 0x11144
ctrl_is f r = go (eqb r (regs f).swsm) (eqb r (regs f).sync) (eqb r 0x11144) (eqb r 0x11148) (eqb-true r 0x11144)
  where
    go : (a b c d : Bool) → (c ≡ true → r ≡ 0x11144)
        → IsCtrl (pick a is_swsm (pick b is_sync (pick c is_ctrl (pick d is_data is_other)))) → r ≡ 0x11144
    go true b c d h e = absurd e
    go false true c d h e = absurd e
    go false false true d h e = h refl
    go false false false true h e = absurd e
    go false false false false h e = absurd e

due : {a : Action} {k : Reply → Talk Out} → Addressed (ask a k) → InRange a
due (only_ask o p) = o

stepped : (c : Conv) (k v : ℕ) → Addressed c.talk → Addressed (step_talk c k v).to.talk
stepped c k v h = go c.talk refl h
  where
    go : (t : Talk Out) → c.talk ≡ t → Addressed t → Addressed (step_on t c k v).to.talk
    go (end r) e d = h
    go (ask a g) e (only_ask o p) = answered (refuses a k) (p (reply_for a (k ∷ v ∷ [])))
      where
        answered : (b : Bool) {t : Talk Out} → Addressed t
            → Addressed (pick {A = Step} b (record { stop = BadReply; to = c }) (record { stop = Done; to = gone c a t })).to.talk
        answered true q = h
        answered false q = q

module _ (f : Family) (p : Side) (w : World) (c : Chip) (small : c.selected ≤ 0xffff) where
  read_keeps : (k : Kind) → (do_read p w c k).chip.selected ≤ 0xffff
  read_keeps is_swsm = small
  read_keeps is_sync = small
  read_keeps is_ctrl = small
  read_keeps is_data = small
  read_keeps is_other = small

  write_keeps : (v : ℕ) (k : Kind) → (IsCtrl k → v ≤ 0xffff) → (do_write p w c v k).chip.selected ≤ 0xffff
  write_keeps v is_swsm h = small
  write_keeps v is_sync h = small
  write_keeps v is_ctrl h = h tt
  write_keeps v is_data h = small
  write_keeps v is_other h = small

  action_keeps : (a : Action) → InRange a → (do_action f p w c a).chip.selected ≤ 0xffff
  action_keeps (action.Read r) h = read_keeps (kind f r)
  action_keeps (action.Write r v) h = write_keeps v (kind f r) (λ e. h (ctrl_is f r e))
  action_keeps (action.Wait n) h = small

-- CTRL is in range, and what each port still says
record Ranged (s : Real) : Type 0 where
  chip : s.chip.selected ≤ 0xffff
  ports : (p : Side) → Addressed (s.ports p).conv.talk

changed_ports : (P : AtPort → Type 0) (p : Side) (d : AtPort) (ps : Side → AtPort) → P d → ((q : Side) → P (ps q)) → (q : Side) → P (change p d ps q)
changed_ports P lan0 d ps h g lan0 = h
changed_ports P lan0 d ps h g lan1 = g lan1
changed_ports P lan1 d ps h g lan0 = g lan0
changed_ports P lan1 d ps h g lan1 = h

abbrev Says : AtPort → Type 0
Says d = Addressed d.conv.talk

module _ (f : Family) (s : Real) (h : Ranged s) where
  starts_ranged : (p : Side) (q : Asked) (t : Talk Out) → Ranged (starts f p q s (s.ports p) t)
  starts_ranged p q (ask a k) = h
  starts_ranged p q (end r) = go (mixable q.what) _
    where
      port : Port
      port = port_at f p q

      go : (b well : Bool) → Ranged (pick b (changed p s.chip (at_port (begun port q.what q.block) well (s.ports p).own) s.touches s) s)
      go true well = record { chip = h.chip; ports = changed_ports Says p _ s.ports (all_addressed port q.what q.block) h.ports }
      go false well = h

  steps_ranged : (p : Side) (w : World) (t : Talk Out) → (s.ports p).conv.talk ≡ t → Ranged (steps f p w s (s.ports p) t)
  steps_ranged p w (end r) e = record { chip = h.chip; ports = changed_ports Says p _ s.ports (stepped (s.ports p).conv w.kind w.value (h.ports p)) h.ports }
  steps_ranged p w (ask a k) e =
      record {
        chip = action_keeps f p w s.chip h.chip a (due (subst Addressed e (h.ports p)));
        ports = changed_ports Says p _ s.ports (stepped (s.ports p).conv _ _ (h.ports p)) h.ports;
      }

  step_ranged : (e : Event Asked) → Ranged (step_real f e s)
  step_ranged (begin p q) = starts_ranged p q (s.ports p).conv.talk
  step_ranged (act p w) = steps_ranged p w (s.ports p).conv.talk refl
  step_ranged (firm i) = record { chip = h.chip; ports = h.ports }

run_ranged : (f : Family) (es : List (Event Asked)) (s : Real) → Ranged s → Ranged (run_real f es s)
unfolding run_real
run_ranged f [] s h = h
run_ranged f (e ∷ es) s h = run_ranged f es (step_real f e s) (step_ranged f s h e)

pub stays_in_range : (f : Family) → StaysInRange f
stays_in_range f before bits address regs es h =
    (run_ranged f es (fresh f before (free bits address regs)) (record { chip = h; ports = λ p. only_end })).chip

-- ---- what CTRL is read as

all_kept : (a : ℕ) → a ≤ 0xffff → without a 0x800c0000 ≡ a
all_kept a h =
    let same : 0 * 2 ^ 16 + a ≡ a = omega arith in
    let parts : bit_and (0 * 2 ^ 16 + a) 0x7ff3ffff ≡ bit_and 0 0x7ff3 * 2 ^ 16 + bit_and a 0xffff =
    and_block 16 0 0x7ff3 a 0xffff (omega arith) (lit< tt) in
    let low : bit_and a 0xffff ≡ a % 2 ^ 16 = and_mask a 16 in
    ap (λ x. bit_and x 0x7ff3ffff) (sym same) ∙ omega (arith, parts, and_zero_l 0x7ff3, low)

pub shows_all : ShowsAll
shows_all address true h = ap (λ x. bit_or x 0x80000000) (all_kept address h) ∙ or_shifted_r 1 31 address (omega arith)
shows_all address false h = ap (λ x. bit_or x 0) (all_kept address h) ∙ or_zero_r address
