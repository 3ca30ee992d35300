-- Demand 3
use Rattle.hardware.specs.Talk.{Talk}
use Prim.Native.Nat.{ℕ, zero, suc}
use native.Mathlib.Nat.{lt_of_le_of_lt}
use mathlib.Core.Path.{◌≡◌, refl, sym, ap, ◌∙◌, subst}
use mathlib.Core.Bool.{Bool, true, false, true≢false}
use mathlib.Core.Logic.{inl, inr}
use Rattle.std.specs.Prelude.{Option, None, Some}
use Rattle.std.proofs.lemmas.Option.{none-some, same_Some}
use lib.Dec.{lit<}
use lib.Bits.{and_le_l}
use Rattle.hardware.specs.Bits.{bit}
use Rattle.hardware.specs.declared.Family.{Family}
use Rattle.hardware.proofs.Bits.{bit-bit_and, bit_zero}
use Rattle.reference.specs.Out.{Out}
use Rattle.operations.specs.Operations.{operation}
use Rattle.mixing.specs.Heeded.{ended_well, Heeded}
use Rattle.mixing.specs.Operations.{port_at}
use Rattle.mixing.specs.Mixing.{table, Right, Mixed, starting, Mixing, takes, begun_if, Parts, ops_of, Demand3}
use Rattle.mixing.specs.Model.{Side, lan0, lan1, Owner, nobody, of_port, Chip, fw_bits, free}
use Rattle.mixing.specs.Events.{is_ok, ends_well}
use Rattle.mixing.specs.System.{Made, Sys, Begun}
use Rattle.mixing.proofs.Mix.{Rest, OpEnds, PortOk, Inv, Fit, run_ok}
use Rattle.mixing.proofs.Operations.{sound}
use Rattle.mixing.proofs.Share.{is_port, ChipOk}
use Rattle.mixing.proofs.Sound.{Sound, EndsIf}
use Rattle.mixing.proofs.Wp.{View, Wp, wp_mono}

abbrev nothing : View
nothing = record { smbi = false; mine = λ _. false; sync = 0; sel = None }

free_ok : (bits address : ℕ) (regs : ℕ → ℕ) → ChipOk (free bits address regs)
unfolding bit
free_ok bits address regs = record {
  sm = inl refl;
  sm_owned = λ i e. refl;
  good = record { small = lt_of_le_of_lt (and_le_l fw_bits bits) (lit< tt); nine = bit-bit_and 9 fw_bits bits };
  owned = λ i e. refl;
  fw_only = λ i e q. refl;
}

pub starts : (f : Family) (bits address : ℕ) (regs : ℕ → ℕ) → Inv f regs (starting (free bits address regs))
unfolding table Right
starts f bits address regs = record {
  chip = free_ok bits address regs;
  view = λ _. nothing;
  sees = λ p. record { smbi = refl; mine = λ i. refl; sync = λ e. absurd (true≢false (sym e)); sel = λ a e. absurd (none-some a e); lock = λ a e. absurd (none-some a e) };
  ports = λ p. record { clean = record { smbi = refl; free = refl }; none = λ _ i. refl };
  picked = λ p a e. absurd (none-some a e);
  kr = λ a. refl;
  right = tt;
}

owner_is : (p : Side) → is_port p (of_port p) ≡ true
owner_is lan0 = refl
owner_is lan1 = refl

not_owner : (p : Side) (o : Owner) → is_port p o ≡ false → o ≡ of_port p → ⊥
not_owner p o h e = true≢false (sym (owner_is p) ∙ sym (ap (is_port p) e) ∙ h)

-- no bit of SWSM above SMBI is anybody's
high : (c : Chip) → ChipOk c → (i : ℕ) → c.swsm.owner (suc i) ≡ nobody
unfolding bit
high c k i = k.sm_owned (suc i) (elim k.sm [ inl e ↦ ap (bit (suc i)) e ∙ bit_zero i | inr e ↦ ap (bit (suc i)) e ∙ bit_zero i ])

sm_free : (p : Side) (c : Chip) → ChipOk c → is_port p (c.swsm.owner 0) ≡ false → (i : ℕ) → is_port p (c.swsm.owner i) ≡ false
sm_free p c k h zero = h
sm_free p c k h (suc i) = ap (is_port p) (high c k i)

mixed : (f : Family) (regs : ℕ → ℕ) (s : Sys f) → Inv f regs s → Mixed regs s
mixed f regs s i = record {
  registers = i.kr;
  answers = i.right;
  owns = λ p e n. let r : Rest true (i.view p) = subst (PortOk f (i.view p)) e (i.ports p) in (
    not_owner p (s.chip.swsm.owner n) (sm_free p s.chip i.chip ((i.sees p).smbi ∙ r.clean.smbi) n),
    not_owner p (s.chip.sync.owner n) ((i.sees p).mine n ∙ r.none refl n),
  );
}

pub mixing : {O : Type 0} (f : Family) (ops : Side → O → Option (Begun f)) → Fit f (λ _. 0) ops → Mixing f ops
mixing f ops fit bits address regs es = mixed f regs _ (run_ok f regs ops fit es _ (starts f bits address regs))

-- what an operation that keeps the rules gives its caller
fits : {f : Family} {t : Talk Out} → Sound f ended_well t → (b : Bool) (W : View) → Rest b W → Wp f (OpEnds b) W t
fits s b W h = wp_mono (λ W' o e. rests (is_ok o.0) W' e) (s.balanced W.mine W (record { clean = h.clean; mine = λ i. refl }))
  where
    rests : (c : Bool) (W' : View) → EndsIf c W.mine W' → Rest (ends_well c b) W'
    rests true W' e = record { clean = e.clean; none = λ z i. e.mine i ∙ h.none z i }
    rests false W' e = record { clean = e.clean; none = λ z. absurd (true≢false (sym z)) }

pub fit : (f : Family) (t : Talk Out) (b : Bool) (m : b ≡ true → Made f t) → (b ≡ true → Sound f ended_well t) → (g : Begun f) → begun_if f t b m ≡ Some g
    → (w : Bool) (W : View) → Rest w W → Wp f (OpEnds w) W g.talk
fit f t true m s g e w W r = subst (λ h. Wp f (OpEnds w) W h.talk) (same_Some _ _ e) (fits (s refl) w W r)
fit f t false m s g e w W r = let z : true ≡ false = cc in absurd (true≢false z)

pub ops_fit : (f : Family) (made : Parts f) → Fit f (λ _. 0) (ops_of f made)
ops_fit f made p q =
    let port = port_at f p q in
    fit f (operation port q.what q.block) (takes port q.what q.block) (made p q) (sound port q.what q.block)

pub demand_3 : (f : Family) → Demand3 f
demand_3 f =
    record {
      parts = λ p q h. (sound (port_at f p q) q.what q.block h).made;
      mixes = λ made. mixing f (ops_of f made) (ops_fit f made);
    }

pub heeded : Heeded
heeded port what ws h = (sound port what ws h).heeds
