-- What a port's write stores, bit by bit, and where that is the word written
use Rattle.hardware.specs.Talk.{pick}
use Prim.Native.Nat.{ℕ, zero, suc, ◌-◌, ◌/◌, ◌%◌, ◌^◌, min}
use native.Mathlib.Omega.{arith}
use mathlib.Core.Path.{◌≡◌, refl, sym, ap, ap₂, ◌∙◌, subst}
use mathlib.Core.Bool.{Bool, true, false, not, ◌&&◌, ◌||◌, true≢false}
use lib.Dec.{eqb}
use lib.Bits.{bit_and, and_step, and_le_l}
use Rattle.hardware.specs.Bits.{bit}
use Rattle.hardware.proofs.Bits.{Digit, d0, d1, low, same_bits, bit-bit_and, bit-bit_or, only_bit}
use Rattle.mixing.specs.Alone.{calm}
use Rattle.mixing.specs.Model.{
  Side,
  lan0,
  Owner,
  nobody,
  of_port,
  Word,
  owned_by,
  becomes,
  fw_bits,
  keeps,
  one_leaves,
  stored_sync,
  stored_swsm,
  is_sync,
  do_write,
  free,
}
use Rattle.mixing.specs.Rule.{OneLeaves, Owned, WriteRule}
use Rattle.mixing.proofs.Lock.{is_false}

-- ---- `keeps` and `one_leaves`, bit by bit

rest_digit : {x y : ℕ} → Digit x → Digit y → eqb (x - min x y) 1 ≡ (eqb x 1 && not (eqb y 1))
rest_digit d0 d0 = refl
rest_digit d0 d1 = refl
rest_digit d1 d0 = refl
rest_digit d1 d1 = refl

rest_half : (v m : ℕ) → (v - bit_and v m) / 2 ≡ v / 2 - bit_and (v / 2) (m / 2)
rest_half v m = omega (arith, and_step v m, and_le_l v m, and_le_l (v / 2) (m / 2))

rest_low : (v m : ℕ) → (v - bit_and v m) % 2 ≡ v % 2 - min (v % 2) (m % 2)
rest_low v m = omega (arith, and_step v m, and_le_l v m, and_le_l (v / 2) (m / 2))

bit_rest : (i v m : ℕ) → bit i (v - bit_and v m) ≡ (bit i v && not (bit i m))
unfolding bit
bit_rest zero v m = ap (λ x. eqb x 1) (rest_low v m) ∙ rest_digit (low v) (low m)
bit_rest (suc i) v m = ap (bit i) (rest_half v m) ∙ bit_rest i (v / 2) (m / 2)

bit_keeps : (i m old new : ℕ) → bit i (keeps m old new) ≡ ((bit i old && bit i m) || (bit i new && not (bit i m)))
bit_keeps i m old new =
    bit-bit_or i (bit_and old m) (new - bit_and new m) ∙ ap₂ ◌||◌ (bit-bit_and i old m) (bit_rest i new m)

inside : (i m old new : ℕ) → bit i m ≡ true → bit i (keeps m old new) ≡ bit i old
inside i m old new h = bit_keeps i m old new ∙ go (bit i m) (bit i old) (bit i new) h
  where
    go : (m o n : Bool) → m ≡ true → ((o && m) || (n && not m)) ≡ o
    go true true true e = refl
    go true true false e = refl
    go true false true e = refl
    go true false false e = refl
    go false o n e = absurd (true≢false (sym e))

outside : (i m old new : ℕ) → bit i m ≡ false → bit i (keeps m old new) ≡ bit i new
outside i m old new h = bit_keeps i m old new ∙ go (bit i m) (bit i old) (bit i new) h
  where
    go : (m o n : Bool) → m ≡ false → ((o && m) || (n && not m)) ≡ n
    go false true true e = refl
    go false true false e = refl
    go false false true e = refl
    go false false false e = refl
    go true o n e = absurd (true≢false e)

module _ (b old new : ℕ) (h : bit b (2 ^ b) ≡ true) where
  other_bits : (i : ℕ) → (i ≡ b → ⊥) → bit i (one_leaves b old new) ≡ bit i new
  other_bits i n = go (bit b new)
    where
      go : (t : Bool) → bit i (pick t (keeps (2 ^ b) old new) new) ≡ bit i new
      go true = outside i (2 ^ b) old new (is_false _ (λ e. n (only_bit b i e)))
      go false = refl

  its_bit : OneLeaves b old new (one_leaves b old new)
  its_bit = record {
    one = λ e. subst (λ t. bit b (pick t (keeps (2 ^ b) old new) new) ≡ bit b old) (sym e) (inside b (2 ^ b) old new h);
    zero = λ e. subst (λ t. bit b (pick t (keeps (2 ^ b) old new) new) ≡ false) (sym e) e;
  }

  -- where a 1 is written only over a 1, and the other bits are as written, all bits are
  all_bits : (after : ℕ) → OneLeaves b old new after → (bit b new ≡ true → bit b old ≡ true) → (i : ℕ) → ((i ≡ b → ⊥) → bit i after ≡ bit i new)
      → bit i after ≡ bit i new
  all_bits after l set i rest = go (bit i (2 ^ b)) refl
    where
      there : (t : Bool) → bit b new ≡ t → bit b after ≡ bit b new
      there true e = l.one e ∙ set e ∙ sym e
      there false e = l.zero e ∙ sym e

      go : (t : Bool) → bit i (2 ^ b) ≡ t → bit i after ≡ bit i new
      go true e = subst (λ j. bit j after ≡ bit j new) (sym (only_bit b i e)) (there (bit b new) refl)
      go false e = rest (λ z. true≢false (sym h ∙ sym (ap (λ j. bit j (2 ^ b)) z) ∙ e))

-- ---- the rule

bit_31 : bit 31 (2 ^ 31) ≡ true
unfolding bit
bit_31 = refl

bit_0 : bit 0 (2 ^ 0) ≡ true
unfolding bit
bit_0 = refl

fw_31 : bit 31 fw_bits ≡ false
unfolding bit
fw_31 = refl

module _ (old new : ℕ) where
  sync_firmware : (i : ℕ) → bit i fw_bits ≡ true → bit i (stored_sync old new) ≡ bit i old
  sync_firmware i h = inside i fw_bits old _ h

  sync_lock : OneLeaves 31 old new (stored_sync old new)
  sync_lock = record {
    one = λ e. outside 31 fw_bits old _ fw_31 ∙ (its_bit 31 old new bit_31).one e;
    zero = λ e. outside 31 fw_bits old _ fw_31 ∙ (its_bit 31 old new bit_31).zero e;
  }

  sync_rest : (i : ℕ) → bit i fw_bits ≡ false → (i ≡ 31 → ⊥) → bit i (stored_sync old new) ≡ bit i new
  sync_rest i h n = outside i fw_bits old _ h ∙ other_bits 31 old new bit_31 i n

  swsm_lock : OneLeaves 0 old new (stored_swsm old new)
  swsm_lock = its_bit 0 old new bit_0

  swsm_rest : (i : ℕ) → (i ≡ 0 → ⊥) → bit i (stored_swsm old new) ≡ bit i new
  swsm_rest i n = other_bits 0 old new bit_0 i n

pub free_after : (s : Owner) (old new : Bool) (o : Owner) → new ≡ false → owned_by s old new o ≡ nobody
free_after s old true o e = absurd (true≢false e)
free_after s old false o e = refl

owned : (p : Side) (v : ℕ) (w : Word) → Owned p w (becomes (of_port p) v w)
owned p v w = record {
  clear = λ i e. free_after (of_port p) (bit i w.value) (bit i v) (w.owner i) e;
  stays = λ i e d. ap₂ (λ new old. owned_by (of_port p) old new (w.owner i)) e d;
  raised = λ i e d. ap₂ (λ new old. owned_by (of_port p) old new (w.owner i)) e d;
}

pub write_rule : WriteRule
write_rule p w c v = (
  record {
    firmware = sync_firmware c.sync.value v;
    lock = sync_lock c.sync.value v;
    rest = sync_rest c.sync.value v;
    owners = owned p (stored_sync c.sync.value v) c.sync;
  },
  record { lock = swsm_lock c.swsm.value v; rest = swsm_rest c.swsm.value v; owners = owned p (stored_swsm c.swsm.value v) c.swsm },
)

-- ---- where it stores the word written

-- nothing is written to the firmware's bits that does not stand there, nor 1 to bit 31 where it is clear
pub sync_same : (old new : ℕ) → ((i : ℕ) → bit i fw_bits ≡ true → bit i old ≡ bit i new) → (bit 31 new ≡ true → bit 31 old ≡ true)
    → stored_sync old new ≡ new
sync_same old new fw set = same_bits (stored_sync old new) new
    (λ i. all_bits 31 old new bit_31 (stored_sync old new) (sync_lock old new) set i (λ n. go i n (bit i fw_bits) refl))
  where
    go : (i : ℕ) → (i ≡ 31 → ⊥) → (t : Bool) → bit i fw_bits ≡ t → bit i (stored_sync old new) ≡ bit i new
    go i n true e = sync_firmware old new i e ∙ fw i e
    go i n false e = sync_rest old new i e n

-- nor 1 to bit 0
pub swsm_same : (old new : ℕ) → (bit 0 new ≡ true → bit 0 old ≡ true) → stored_swsm old new ≡ new
swsm_same old new set = same_bits (stored_swsm old new) new
    (λ i. all_bits 0 old new bit_0 (stored_swsm old new) (swsm_lock old new) set i (swsm_rest old new i))

-- ---- computed

-- the firmware's bits are neither cleared nor raised, bit 31 and SWSM's bit 0 are not taken, and a 0 clears them
stored_words :
    (stored_sync 0x20 0x80000001 ≡ 0x21)
    × (stored_sync 0x80000000 0xffffffff ≡ 0xffff9e0f)
    × (stored_sync 0xffffffff 0 ≡ 0x61f0)
    × (stored_swsm 0 0x20000001 ≡ 0x20000000)
    × (stored_swsm 1 0x20000001 ≡ 0x20000001)
    × (stored_swsm 1 0 ≡ 0)
unfolding bit
stored_words = (refl, refl, refl, refl, refl, refl)

-- a port writes 1 to bits 0 and 31, and 0 to the firmware's bit 5, which is set: bit 0 is its own, the other two are nobody's
not_taken : (regs : ℕ → ℕ) → let w = (do_write lan0 (calm 0) (free 0x20 7 regs) 0x80000001 is_sync).chip.sync in
    (w.value ≡ 0x21) × (w.owner 0 ≡ of_port lan0) × (w.owner 5 ≡ nobody) × (w.owner 31 ≡ nobody)
unfolding bit
not_taken regs = (refl, refl, refl, refl)
