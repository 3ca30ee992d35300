-- What acquire_bits and release_bits do to the bits that a port owns
use Rattle.std.specs.Prelude.{Err, Ok}
use Rattle.hardware.specs.Talk.{Call, Res, is_clear, fail, times}
use Prim.Native.Nat.{ℕ, ◌^◌, ◌<◌}
use native.Mathlib.Nat.{lt_of_le_of_lt}
use mathlib.Core.Path.{◌≡◌, refl, sym, ap, ap₂, ◌∙◌}
use mathlib.Core.Bool.{Bool, true, false, not, ◌&&◌, ◌||◌, true≢false, or-true, and-false}
use lib.Dec.{lit<}
use lib.Bits.{bit_and, bit_or, or_lt, and_le_r}
use Rattle.hardware.specs.Bits.{bit, without}
use Rattle.hardware.specs.Regs.{regs}
use Rattle.hardware.specs.declared.Error.{Error}
use Rattle.hardware.specs.declared.Error.TheVariants.{Semaphore}
use Rattle.hardware.specs.declared.Family.{Family}
use Rattle.hardware.proofs.Bits.{bit-bit_and, bit-bit_or, bit_without, masked, only_bit, both_bits}
use Rattle.words.specs.declared.semaphore.Bits.{Bits}
use Rattle.words.specs.Semaphore.{software}
use Rattle.words.proofs.Theorems.Semaphore.{software_rust}
use Rattle.reference.specs.Sync.{lock, unlock, busy, set_mux, acquire_bits_turn, release_bits_locked}
use Rattle.mixing.specs.Model.{fw_bits}
use Rattle.hardware.proofs.Laws.{by_turns}
use Rattle.mixing.proofs.Only.{far, Quiet, only_bind, only_read, only_write, quiet_flush}
use Rattle.mixing.proofs.Wp.{View, with_smbi, stores, Found, MayStore, Wp, wp_end, wp_ask, wp_then, wp_attempt, wp_pick, quiet_wp}
use Rattle.mixing.proofs.Lock.{or_stop_lem, lock_goes, unlock_goes, clear_sync, sync_read_held, sync_write, is_false, and_left}

-- bit 31
abbrev reg : ℕ → Bool
reg i = bit i 0x80000000

gain : (v s m : Bool) → (m ≡ true → v ≡ true) → (s ≡ true → v ≡ false) → ((v || s) && (not v || m)) ≡ (m || s)
gain true true m h k = absurd (true≢false (k refl))
gain true false true h k = refl
gain true false false h k = refl
gain false true true h k = refl
gain false true false h k = refl
gain false false true h k = h refl
gain false false false h k = refl

lose : (v b m : Bool) → (m ≡ true → v ≡ true) → ((v && not b) && (not v || m)) ≡ (m && not b)
lose true true true h = refl
lose true true false h = refl
lose true false true h = refl
lose true false false h = refl
lose false b true h = absurd (true≢false (sym (h refl)))
lose false b false h = refl

back : (m k : Bool) → (k ≡ true → m ≡ false) → ((m || k) && not k) ≡ m
back true true h = sym (h refl)
back true false h = refl
back false true h = refl
back false false h = refl

gained : (m k s : Bool) → (k ≡ true → m ≡ false) → (k ≡ true → s ≡ false) → (((m || k) || s) && not k) ≡ (m || s)
gained true true s h g = sym (h refl)
gained true false s h g = refl
gained false true s h g = sym (g refl)
gained false false true h g = refl
gained false false false h g = refl

lost : (m k s : Bool) → (k ≡ true → m ≡ false) → (((m || k) && not s) && not k) ≡ (m && not s)
lost true true s h = absurd (true≢false (h refl))
lost true false true h = refl
lost true false false h = refl
lost false true true h = refl
lost false true false h = refl
lost false false s h = refl

or_left : (a b : Bool) → a ≡ true → (a || b) ≡ true
or_left true b h = refl
or_left false b h = absurd (true≢false (sym h))

or_keeps : (p q : Bool) → p ≡ true → (p || q) ≡ false → ⊥
or_keeps true q h e = true≢false e
or_keeps false q h e = true≢false (sym h)

pub or_first : (a b : Bool) → b ≡ false → (a || b) ≡ true → a ≡ true
or_first true b h e = refl
or_first false b h e = absurd (true≢false (sym e ∙ h))

-- ---- what a port holds between its locks

-- it owns neither SWSM bit 0 nor bit 31
pub record Clean (W : View) : Type 0 where
  pub smbi : W.smbi ≡ false
  pub free : W.mine 31 ≡ false

-- it holds m
pub record Now (m : ℕ → Bool) (W : View) : Type 0 where
  pub clean : Clean W
  pub mine : (i : ℕ) → W.mine i ≡ m i

-- it holds m at least
pub record Least (m : ℕ → Bool) (W : View) : Type 0 where
  pub clean : Clean W
  pub keeps : (i : ℕ) → m i ≡ true → W.mine i ≡ true

pub least : {m n : ℕ → Bool} {W : View} → ((i : ℕ) → m i ≡ true → n i ≡ true) → Now n W → Least m W
least h now = record { clean = now.clean; keeps = λ i p. now.mine i ∙ h i p }

abbrev pub plus : (ℕ → Bool) → ℕ → ℕ → Bool
plus m s i = m i || bit i s

abbrev pub minus : (ℕ → Bool) → ℕ → ℕ → Bool
minus m s i = m i && not (bit i s)

-- ---- `lock` and `unlock`

record Locked (W W₁ : View) : Type 0 where
  pub smbi : W₁.smbi ≡ true
  pub mine : (i : ℕ) → W₁.mine i ≡ (W.mine i || reg i)

record Unlocked (W W₁ : View) : Type 0 where
  pub smbi : W₁.smbi ≡ false
  pub mine : (i : ℕ) → W₁.mine i ≡ (W.mine i && not (reg i))

module _ {f : Family} {Q : View → Res (Unit {0}) → Type 0} (W : View) where
  locks : Clean W → ((W₁ : View) → Locked W W₁ → Q W₁ (Ok tt)) → ((W₁ : View) (e : Error) → Now W.mine W₁ → Q W₁ (Err e))
      → Wp f Q W (lock (regs f))
  locks cl h he =
      lock_goes W cl.free
      (λ v d b. h _
      (record {
        smbi = refl;
        mine = λ i. ap (λ t. t && (not (bit i v) || W.mine i)) (bit-bit_or i v 0x80000000)
            ∙ gain (bit i v) (reg i) (W.mine i) (d.has i) (λ t. ap (λ j. bit j v) (only_bit 31 i t) ∙ b);
      }))
      (λ e. he W e (record { clean = cl; mine = λ i. refl }))
      (λ e. he (with_smbi false W) e (record { clean = record { smbi = refl; free = cl.free }; mine = λ i. refl }))

  unlocks : W.smbi ≡ true → W.mine 31 ≡ true → ((W₁ : View) (r : Res (Unit {0})) → Unlocked W W₁ → Q W₁ r) → Wp f Q W (unlock (regs f))
  unlocks s e h =
      unlock_goes W s e
      (λ d r. h _ r
      (record {
        smbi = refl;
        mine = λ i. ap (λ t. t && (not (bit i W.sync) || W.mine i)) (bit_without 32 i W.sync 0x80000000 d.good.small (lit< tt))
            ∙ lose (bit i W.sync) (reg i) (W.mine i) (d.has i);
      }))

reg_31 : reg 31 ≡ true
unfolding bit
reg_31 = refl

owns : {W W₁ : View} → Locked W W₁ → W₁.mine 31 ≡ true
owns {W} l = l.mine 31 ∙ ap (λ t. W.mine 31 || t) reg_31 ∙ or-true (W.mine 31)

no_reg : (m : Bool) → (m && not (reg 31)) ≡ false
no_reg m = ap (λ t. m && not t) reg_31 ∙ and-false m

-- a bit that is bit 31 is none of those that bit 31 is none of
apart : (m : ℕ → Bool) → m 31 ≡ false → (i : ℕ) → reg i ≡ true → m i ≡ false
apart m h i e = rw (only_bit 31 i e) h

-- ---- a mask's software bits

pub record Software (s : ℕ) : Type 0 where
  pub small : s < 2 ^ 32
  pub nine : bit 9 s ≡ false
  pub top : bit 31 s ≡ false
  pub fw : (i : ℕ) → bit i fw_bits ≡ true → bit i s ≡ false

software_not : (mask i : ℕ) → bit i 0x40f ≡ false → bit i 0x1800 ≡ false → bit i (software mask) ≡ false
software_not mask i p q =
    ap (bit i) (software_rust mask) ∙ bit-bit_or i (bit_and mask 0x40f) (bit_and mask 0x1800)
    ∙ ap₂ ◌||◌ (bit-bit_and i mask 0x40f ∙ ap (λ t. bit i mask && t) p ∙ and-false (bit i mask))
    (bit-bit_and i mask 0x1800 ∙ ap (λ t. bit i mask && t) q ∙ and-false (bit i mask))

software_lt : (mask : ℕ) → bit_or (bit_and mask 0x40f) (bit_and mask 0x1800) < 2 ^ 32
software_lt mask =
    or_lt 32 (bit_and mask 0x40f) (bit_and mask 0x1800) (lt_of_le_of_lt (and_le_r mask 0x40f) (lit< tt)) (lt_of_le_of_lt (and_le_r mask 0x1800) (lit< tt))

pub software_bits : (mask : ℕ) → Software (software mask)
unfolding bit
software_bits mask =
    record {
      small = rw (software_rust mask) (software_lt mask);
      nine = software_not mask 9 refl refl;
      top = software_not mask 31 refl refl;
      fw = λ i e. software_not mask i (both_bits i fw_bits 0x40f refl e) (both_bits i fw_bits 0x1800 refl e);
    }

-- ---- acquire_bits

module _ {W₁ : View} {s : ℕ} (sw : Software s) (d : Found W₁ W₁.sync) where
  may_gain : W₁.mine 31 ≡ true → MayStore W₁ (bit_or W₁.sync s)
  may_gain e =
      record {
        held = e;
        good = record {
          small = or_lt 32 W₁.sync s d.good.small sw.small;
          nine = bit-bit_or 9 W₁.sync s ∙ ap₂ ◌||◌ d.good.nine sw.nine;
        };
        drops = λ i p q. absurd (or_keeps _ _ p (sym (bit-bit_or i W₁.sync s) ∙ q));
        raises = λ i p q. or_first _ _ (sw.fw i p) (sym (bit-bit_or i W₁.sync s) ∙ q);
      }

  -- the bits after a store of more, and of fewer
  more : ((i : ℕ) → bit i s ≡ true → bit i W₁.sync ≡ false) → (i : ℕ) → (stores W₁.sync (bit_or W₁.sync s) W₁).mine i ≡ plus W₁.mine s i
  more c i =
      ap (λ t. t && (not (bit i W₁.sync) || W₁.mine i)) (bit-bit_or i W₁.sync s)
      ∙ gain (bit i W₁.sync) (bit i s) (W₁.mine i) (d.has i) (c i)

  fewer : (i : ℕ) → (stores W₁.sync (without W₁.sync s) W₁).mine i ≡ minus W₁.mine s i
  fewer i =
      ap (λ t. t && (not (bit i W₁.sync) || W₁.mine i)) (bit_without 32 i W₁.sync s d.good.small sw.small)
      ∙ lose (bit i W₁.sync) (bit i s) (W₁.mine i) (d.has i)

module _ {m : ℕ → Bool} {W W₁ : View} (now : Now m W) (l : Locked W W₁) where
  unmine : (i : ℕ) → W₁.mine i ≡ (m i || reg i)
  unmine i = l.mine i ∙ ap (λ t. t || reg i) (now.mine i)

  no_31 : m 31 ≡ false
  no_31 = sym (now.mine 31) ∙ now.clean.free

  -- it has taken the lock, more bits, and let the lock go
  took : {W₂ W₃ : View} {s : ℕ} → Software s → ((i : ℕ) → W₂.mine i ≡ plus W₁.mine s i) → Unlocked W₂ W₃ → Now (plus m s) W₃
  took {W₂} {W₃} {s} sw e u =
      record {
        clean = record { smbi = u.smbi; free = u.mine 31 ∙ no_reg (W₂.mine 31) };
        mine = λ i. u.mine i ∙ ap (λ t. t && not (reg i)) (e i ∙ ap (λ t. t || bit i s) (unmine i))
            ∙ gained (m i) (reg i) (bit i s) (apart m no_31 i) (apart (λ j. bit j s) sw.top i);
      }

  -- the lock alone
  peeked : {W₂ : View} → Unlocked W₁ W₂ → Now m W₂
  peeked {W₂} u =
      record {
        clean = record { smbi = u.smbi; free = u.mine 31 ∙ no_reg (W₁.mine 31) };
        mine = λ i. u.mine i ∙ ap (λ t. t && not (reg i)) (unmine i) ∙ back (m i) (reg i) (apart m no_31 i);
      }

  -- fewer bits
  gave : {W₂ W₃ : View} (s : ℕ) → ((i : ℕ) → W₂.mine i ≡ minus W₁.mine s i) → Unlocked W₂ W₃ → Now (minus m s) W₃
  gave {W₂} {W₃} s e u =
      record {
        clean = record { smbi = u.smbi; free = u.mine 31 ∙ no_reg (W₂.mine 31) };
        mine = λ i. u.mine i ∙ ap (λ t. t && not (reg i)) (e i ∙ ap (λ t. t && not (bit i s)) (unmine i))
            ∙ lost (m i) (reg i) (bit i s) (apart m no_31 i);
      }

  -- a bit that is clear in the word is not the port's
  alone : Found W₁ W₁.sync → (i : ℕ) → bit i W₁.sync ≡ false → m i ≡ false
  alone d i c = is_false (m i) (λ t. true≢false (sym (d.has i (unmine i ∙ or_left (m i) (reg i) t)) ∙ c))

-- the whole mask was clear: so were its software bits
clear_software : (u : ℕ) (want : Bits) → is_clear u (busy want) ≡ true → (i : ℕ) → bit i want.sw ≡ true → bit i u ≡ false
clear_software u want h i e =
    masked u (busy want) h i
    (bit-bit_or i (bit_or want.sw want.fw) want.hw
    ∙ ap (λ t. t || bit i want.hw) (bit-bit_or i want.sw want.fw ∙ ap (λ t. t || bit i want.fw) e))

pub quiet_mux : (f : Family) (on : Bool) → Quiet f (set_mux on)
quiet_mux f on = only_bind (only_read (far 0x20 tt tt f)) (λ v. only_bind (only_write (far 0x20 tt tt f)) (λ _. quiet_flush f))

unit : (P : Res (Unit {0}) → Type 0) → P (Ok tt) → ((e : Error) → P (Err e)) → (r : Res (Unit {0})) → P r
unit P h he (Ok u) = h
unit P h he (Err e) = he e

module _ {f : Family} {Q : View → Res (Unit {0}) → Type 0} (m : ℕ → Bool) where
  pub acquires : (want : Bits) → Software want.sw → (switch : Bool)
      → ((W₁ : View) → Now (plus m want.sw) W₁ → ((i : ℕ) → bit i want.sw ≡ true → m i ≡ false) → Q W₁ (Ok tt))
      → ((W₁ : View) (e : Error) → Least m W₁ → Q W₁ (Err e))
      → (n held : ℕ) (W : View) → Now m W → Wp f Q W (times n (acquire_bits_turn (regs f) want switch) (λ held. fail (Semaphore held)) held)
  acquires want sw switch h he =
      by_turns (λ g. (held : ℕ) (W : View) → Now m W → Wp f Q W (g held)) (acquire_bits_turn (regs f) want switch) (λ held. fail (Semaphore held)) turn
      (λ held W now. wp_end (he W _ (least (λ i p. p) now)))
    where
      turn : (again : ℕ → Call (Unit {0})) → ((held : ℕ) (W : View) → Now m W → Wp f Q W (again held))
          → (held : ℕ) (W : View) → Now m W → Wp f Q W (acquire_bits_turn (regs f) want switch again held)
      turn again go held W now =
          wp_then (locks W now.clean
          (λ W₁ l. sync_read_held (owns l)
          (λ d n. rw n (wp_pick (is_clear W₁.sync (busy want))
          (λ t. sync_write (may_gain sw d (owns l))
          (λ _. wp_then (unlocks _ l.smbi (more sw d (clear_software W₁.sync want t) 31 ∙ or_left _ _ (owns l))
          (λ W₃ r u.
          let then = took now l sw (more sw d (clear_software W₁.sync want t)) u in
          let other : (i : ℕ) → bit i want.sw ≡ true → m i ≡ false = λ i p. alone now l d i (clear_software W₁.sync want t i p) in
          let stop : (e : Error) → Q W₃ (Err e) = λ e. he W₃ e (least (λ i p. or_left _ _ p) then) in
          or_stop_lem (λ _. wp_pick switch (λ _. quiet_wp (quiet_mux f true) (unit (Q W₃) (h W₃ then other) stop)) (λ _. wp_end (h W₃ then other))) stop r))))
          (λ t. wp_then (unlocks W₁ l.smbi (owns l)
          (λ W₂ r u. let then = peeked now l u in
          or_stop_lem (λ _. wp_ask tt (λ _ _. go (bit_and W₁.sync (busy want)) W₂ then)) (λ e. he W₂ e (least (λ i p. p) then)) r))))))
          (λ W₁ e then. wp_end (he W₁ e (least {n = W.mine} (λ i p. now.mine i ∙ p) then))))

  pub releases : (s : ℕ) → Software s → (micros : ℕ) → ((i : ℕ) → bit i s ≡ true → m i ≡ true)
      → ((W₁ : View) (r : Res (Unit {0})) → Now (minus m s) W₁ → Q W₁ r)
      → ((W₁ : View) (e : Error) → Least (minus m s) W₁ → Q W₁ (Err e))
      → (W : View) → Now m W → Wp f Q W (release_bits_locked (regs f) s micros)
  releases s sw micros own h he W now =
      wp_then (locks W now.clean
      (λ W₁ l. wp_attempt (clear_sync W₁ s sw.small (owns l) (λ i p. unmine now l i ∙ or_left _ _ (own i p))
      (λ d. wp_then (unlocks _ l.smbi (fewer sw d 31 ∙ ap₂ ◌&&◌ (owns l) (ap not sw.top))
      (λ W₃ r u. let then = gave now l s (fewer sw d) u in
      or_stop_lem (λ _. wp_ask tt (λ _ _. wp_end (h W₃ (Ok tt) then))) (λ e. h W₃ (Err e) then) r)))))
      (λ W₁ e then. wp_end (he W₁ e (least {n = W.mine} (λ i p. now.mine i ∙ and_left _ _ p) then))))
