-- One step of the firmware: what the ports know still holds
use Rattle.hardware.specs.Talk.{pick}
use Prim.Native.Nat.{ℕ, ◌^◌, ◌<◌}
use mathlib.Core.Path.{◌≡◌, refl, sym, ap, ap₂, ◌∙◌}
use mathlib.Core.Bool.{Bool, true, false, not, ◌&&◌, ◌||◌, true≢false}
use lib.Dec.{lit<}
use lib.Bits.{bit_or, or_lt}
use lib.Pow.{pow-lt}
use Rattle.hardware.specs.Bits.{bit, without}
use Rattle.hardware.proofs.Bits.{bit-bit_or, bit_without, only_bit, below}
use Rattle.mixing.specs.Model.{
  Side,
  Owner,
  nobody,
  firmware,
  of_port,
  Word,
  owned_by,
  becomes,
  Chip,
  with_sync,
  fw_bits,
  partner,
  is_firmware,
  Step,
  take,
  let_go,
  lower,
  raise,
  do_step,
}
use Rattle.mixing.proofs.Lock.{is_false, good_without, and_left}
use Rattle.mixing.proofs.Rule.{free_after}
use Rattle.mixing.proofs.Share.{is_port, nobodys, keep_after, ChipOk, Sees, is_set, grows, nine_31}
use Rattle.mixing.proofs.Wp.{View, Good}

fw_owner : (q : Side) (old new : Bool) (o : Owner) → is_port q o ≡ false → is_port q (owned_by firmware old new o) ≡ false
fw_owner q old false o k = refl
fw_owner q false true o k = refl
fw_owner q true true o k = k

fw_store : (c : Chip) (v : ℕ) → ChipOk c → Good v
    → ((i : ℕ) (q : Side) → is_port q (c.sync.owner i) ≡ true → bit i v ≡ true)
    → ((q : Side) → is_port q (c.sync.owner 31) ≡ false)
    → ChipOk (with_sync (becomes firmware v c.sync) c) × ((q : Side) (W : View) → Sees q c W → Sees q (with_sync (becomes firmware v c.sync) c) W)
fw_store c v k g keeps noword = (
  record {
    sm = k.sm;
    sm_owned = k.sm_owned;
    good = g;
    owned = λ i e. free_after firmware (bit i c.sync.value) (bit i v) (c.sync.owner i) e;
    fw_only = λ i h q. fw_owner q (bit i c.sync.value) (bit i v) (c.sync.owner i) (k.fw_only i h q);
  },
  λ q W t. record {
    smbi = t.smbi;
    mine = λ i. keep_after q firmware refl (bit i c.sync.value) (bit i v) (c.sync.owner i) (k.owned i) (keeps i q) ∙ t.mine i;
    sync = λ e. absurd (true≢false (sym e ∙ sym (t.mine 31) ∙ noword q));
    sel = t.sel;
    lock = t.lock;
  },
)

abbrev FwOk : Chip → Word → Type 0
FwOk c u = ChipOk (with_sync u c) × ((q : Side) (W : View) → Sees q c W → Sees q (with_sync u c) W)

not_port : (q : Side) (o : Owner) → is_firmware o ≡ true → is_port q o ≡ false
not_port q nobody e = refl
not_port q firmware e = refl
not_port q (of_port p) e = absurd (true≢false (sym e))

and_right : (a b : Bool) → (a && b) ≡ true → b ≡ true
and_right true b h = h
and_right false b h = absurd (true≢false (sym h))

by_test : {c : Chip} (b : Bool) {u v : Word} → (b ≡ true → FwOk c u) → FwOk c v → FwOk c (pick b u v)
by_test true h k = h refl
by_test false h k = k

power_small : (i : ℕ) → bit i fw_bits ≡ true → 2 ^ i < 2 ^ 32
power_small i h = pow-lt (below 32 i fw_bits (lit< tt) h)

nine_off : (i : ℕ) → bit i fw_bits ≡ true → bit 9 (2 ^ i) ≡ false
unfolding bit
nine_off i h = is_false _ (λ t. true≢false (sym h ∙ sym (ap (λ j. bit j fw_bits) (only_bit i 9 t))))

-- `v & !2^i` keeps the other bits
others_kept : (v i j : ℕ) → v < 2 ^ 32 → 2 ^ i < 2 ^ 32 → bit j v ≡ true → (j ≡ i → ⊥) → bit j (without v (2 ^ i)) ≡ true
others_kept v i j hv hi e n =
    bit_without 32 j v (2 ^ i) hv hi ∙ ap₂ (λ s t. s && not t) e (is_false _ (λ t. n (only_bit i j t)))

pub fw_step : (i : Step) (c : Chip) → ChipOk c → FwOk c (do_step i c.sync)
fw_step take c k = go (bit 31 c.sync.value) refl
  where
    go : (b : Bool) → bit 31 c.sync.value ≡ b → FwOk c (pick b c.sync (becomes firmware (bit_or c.sync.value (2 ^ 31)) c.sync))
    go true e = (k, λ q W t. t)
    go false e = fw_store c (bit_or c.sync.value (2 ^ 31)) k
        (record { small = or_lt 32 c.sync.value (2 ^ 31) k.good.small (lit< tt); nine = bit-bit_or 9 c.sync.value (2 ^ 31) ∙ ap (λ t. t || bit 9 (2 ^ 31)) k.good.nine ∙ nine_31 })
        (λ i q h. grows c.sync.value 31 i (is_set q c.sync i (k.owned i) h))
        (λ q. nobodys q _ (k.owned 31 e))
fw_step let_go c k = by_test (is_firmware (c.sync.owner 31))
    (λ h. fw_store c (without c.sync.value 0x80000000) k (good_without c.sync.value 0x80000000 (lit< tt) k.good)
    (λ i q t. others_kept c.sync.value 31 i k.good.small (lit< tt) (is_set q c.sync i (k.owned i) t)
    (λ e. true≢false (sym t ∙ ap (λ j. is_port q (c.sync.owner j)) e ∙ not_port q (c.sync.owner 31) h)))
    (λ q. not_port q (c.sync.owner 31) h))
    (k, λ q W t. t)
fw_step (lower n) c k = by_test (is_firmware (c.sync.owner 31) && bit n fw_bits)
    (λ h. fw_store c (without c.sync.value (2 ^ n)) k (good_without c.sync.value (2 ^ n) (power_small n (and_right (is_firmware (c.sync.owner 31)) (bit n fw_bits) h)) k.good)
    (λ i q t. others_kept c.sync.value n i k.good.small (power_small n (and_right (is_firmware (c.sync.owner 31)) (bit n fw_bits) h)) (is_set q c.sync i (k.owned i) t)
    (λ e. true≢false (sym t ∙ ap (λ j. is_port q (c.sync.owner j)) e ∙ k.fw_only n (and_right (is_firmware (c.sync.owner 31)) (bit n fw_bits) h) q)))
    (λ q. not_port q (c.sync.owner 31) (and_left (is_firmware (c.sync.owner 31)) (bit n fw_bits) h)))
    (k, λ q W t. t)
fw_step (raise n) c k = by_test (is_firmware (c.sync.owner 31) && bit n fw_bits && not (bit (partner n) c.sync.value))
    (λ h. let g = and_left (is_firmware (c.sync.owner 31) && bit n fw_bits) _ h in
    fw_store c (bit_or c.sync.value (2 ^ n)) k
    (record {
      small = or_lt 32 c.sync.value (2 ^ n) k.good.small (power_small n (and_right (is_firmware (c.sync.owner 31)) (bit n fw_bits) g));
      nine = bit-bit_or 9 c.sync.value (2 ^ n) ∙ ap₂ ◌||◌ k.good.nine (nine_off n (and_right (is_firmware (c.sync.owner 31)) (bit n fw_bits) g));
    })
    (λ i q t. grows c.sync.value n i (is_set q c.sync i (k.owned i) t))
    (λ q. not_port q (c.sync.owner 31) (and_left (is_firmware (c.sync.owner 31)) (bit n fw_bits) g)))
    (k, λ q W t. t)
