-- kr_read and kr_write keep the rules
use Rattle.std.specs.Prelude.{Err, Ok}
use Rattle.hardware.specs.Talk.{Talk, Call, Res, end, ask, is_clear, fail, Reply}
use Prim.Native.Nat.{ℕ, ◌≤◌}
use native.Mathlib.Omega.{arith}
use mathlib.Core.Path.{◌≡◌, refl, sym, subst, ◌∙◌}
use mathlib.Core.Bool.{Bool, true, or-true}
use Rattle.hardware.specs.Bits.{bit}
use Rattle.hardware.specs.declared.Action.TheVariants as action
use Rattle.hardware.specs.declared.Error.TheVariants.{Timeout}
use Rattle.hardware.specs.declared.Family.{Family}
use Rattle.hardware.specs.declared.Family.TheVariants.{X552, X553}
use Rattle.hardware.specs.declared.Port.{Port}
use Rattle.hardware.proofs.Laws.{by_turns, then_end}
use Rattle.words.specs.Semaphore.{software}
use Rattle.reference.specs.Acquire.{locked}
use Rattle.reference.specs.Sync.{plain, locked_bits}
use Rattle.reference.specs.X552.{iosf_turn, iosf_idle, kr_read_body, kr_write_body, kr_read, kr_write}
use Rattle.reference.proofs.Locked.{locked_bits_lem}
use Rattle.mixing.specs.Addressed.{Addressed}
use Rattle.mixing.specs.Only.{Only, only_end}
use Rattle.mixing.specs.Heeded.{NotLock, Heeds}
use Rattle.mixing.specs.Model.{is_ctrl, is_data, kind, On}
use Rattle.mixing.specs.Events.{is_ok}
use Rattle.mixing.specs.System.{Caller, reads, writes, access, done}
use Rattle.mixing.proofs.Addressed.{read_addressed, write_addressed}
use Rattle.mixing.proofs.Heed.{heeds_only}
use Rattle.mixing.proofs.Hold.{Now, least, plus}
use Rattle.mixing.proofs.Lock.{or_stop_lem, on_success}
use Rattle.mixing.proofs.Only.{only_bind, only_pick, only_raw, only_write, only_wait}
use Rattle.mixing.proofs.Sound.{Sound, Ends, bits_bracket, honest_plain, under_heeds, under_addressed, under_wp}
use Rattle.mixing.proofs.Wp.{View, with_sel, Wp, wp_end, wp_ask, wp_then, wp_pick, wp_read, wp_write}

pub kind_ctrl : (f : Family) → kind f 0x11144 ≡ is_ctrl
kind_ctrl X552 = refl
kind_ctrl X553 = refl

pub kind_data : (f : Family) → kind f 0x11148 ≡ is_data
kind_data X552 = refl
kind_data X553 = refl

-- ---- under a lock that has bit 1

module _ {A : Type 0} {f : Family} {Q : View → A → Type 0} {W : View} {c : Reply → Talk A} (mine : W.mine 1 ≡ true) where
  read_ctrl : ((v : ℕ) → Wp f Q W (c (Ok v))) → Wp f Q W (ask (action.Read 0x11144) c)
  read_ctrl h = wp_read is_ctrl (kind_ctrl f) mine (on_success (λ r. Wp f Q W (c r)) (λ v _. h v))

  read_data : ((v : ℕ) → Wp f Q W (c (Ok v))) → Wp f Q W (ask (action.Read 0x11148) c)
  read_data h = wp_read is_data (kind_data f) mine (on_success (λ r. Wp f Q W (c r)) (λ v _. h v))

  write_ctrl : {w : ℕ} → ((v : ℕ) → Wp f Q (with_sel w W) (c (Ok v))) → Wp f Q W (ask (action.Write 0x11144 w) c)
  write_ctrl {w} h = wp_write is_ctrl (kind_ctrl f) mine (on_success (λ r. Wp f Q (with_sel w W) (c r)) (λ v _. h v))

  write_data : {w : ℕ} → ((v : ℕ) → Wp f Q W (c (Ok v))) → Wp f Q W (ask (action.Write 0x11148 w) c)
  write_data h = wp_write is_data (kind_data f) mine (on_success (λ r. Wp f Q W (c r)) (λ v _. h v))

idles : {f : Family} {Q : View → Res ℕ → Type 0} {W : View} (pause : ℕ) → W.mine 1 ≡ true → ((r : Res ℕ) → Q W r) → Wp f Q W (iosf_idle pause)
unfolding iosf_idle
idles {f} {Q} {W} pause e h =
    by_turns (λ g. (last : ℕ) → Wp f Q W (g last)) (iosf_turn pause) (λ last. fail (Timeout 0x11144 0x80000000 0 last))
    (λ again g last. read_ctrl e (λ v. wp_pick (is_clear v 0x80000000) (λ _. wp_end (h (Ok v))) (λ _. wp_ask tt (λ _ _. g v))))
    (λ last. wp_end (h (Err _))) 100 0

-- in the body nothing is taken or given back
selects : {m : ℕ → Bool} {W : View} (a : ℕ) → Now m W → Now m (with_sel a W)
selects a n = record { clean = record { smbi = n.clean.smbi; free = n.clean.free }; mine = n.mine }

module _ {f : Family} {m : ℕ → Bool} (pause a : ℕ) (W : View) (n : Now m W) (mine : W.mine 1 ≡ true) where
  read_body_lem : Wp f (Ends is_ok m) W (kr_read_body pause a)
  read_body_lem =
      wp_then (idles pause mine
      (or_stop_lem (λ _. write_ctrl mine
      (λ _. wp_then (idles pause mine
      (or_stop_lem (λ v. wp_pick (is_clear v 0xc0000) (λ _. read_data mine (λ w. wp_end (selects a n))) (λ _. wp_end (least (λ i p. p) (selects a n))))
      (λ e. least (λ i p. p) (selects a n))))))
      (λ e. least (λ i p. p) n)))

  write_body_lem : (w : ℕ) → Wp f (Ends is_ok m) W (kr_write_body pause a w)
  write_body_lem w =
      wp_then (idles pause mine
      (or_stop_lem (λ _. write_ctrl mine
      (λ _. write_data mine
      (λ _. wp_then (idles pause mine
      (or_stop_lem (λ v. wp_pick (is_clear v 0xc0000) (λ _. wp_end (selects a n)) (λ _. wp_end (least (λ i p. p) (selects a n))))
      (λ e. least (λ i p. p) (selects a n)))))))
      (λ e. least (λ i p. p) n)))

has_1 : (m : ℕ → Bool) → plus m (software 6) 1 ≡ true
unfolding software bit
has_1 m = or-true (m 1)

-- ---- no lock's register in the body

module _ (f : Family) (pause a : ℕ) where
  ctrl : NotLock (kind f 0x11144)
  ctrl = subst NotLock (sym (kind_ctrl f)) tt

  data_register : NotLock (kind f 0x11148)
  data_register = subst NotLock (sym (kind_data f)) tt

  unlocked_idle : Only (On NotLock f) (iosf_idle pause)
  unfolding iosf_idle
  unlocked_idle =
      by_turns (λ g. (last : ℕ) → Only (On NotLock f) (g last)) (iosf_turn pause) (λ last. fail (Timeout 0x11144 0x80000000 0 last))
      (λ again g last. only_bind (only_raw ctrl) (λ v. only_pick (is_clear v 0x80000000) only_end (only_bind (only_wait tt) (λ _. g v))))
      (λ last. only_end) 100 0

  unlocked_read : Only (On NotLock f) (kr_read_body pause a)
  unlocked_read =
      only_bind unlocked_idle
      (λ _. only_bind (only_write ctrl)
      (λ _. only_bind unlocked_idle (λ v. only_pick (is_clear v 0xc0000) (only_raw data_register) only_end)))

  unlocked_write : (w : ℕ) → Only (On NotLock f) (kr_write_body pause a w)
  unlocked_write w =
      only_bind unlocked_idle
      (λ _. only_bind (only_write ctrl)
      (λ _. only_bind (only_write data_register) (λ _. only_bind unlocked_idle (λ v. only_pick (is_clear v 0xc0000) only_end only_end))))

-- ---- the accesses

module _ (port : Port) where
  -- mask 6 has no TOKEN
  pub bits_only : {A : Type 0} (body : Call A) → locked_bits plain port 6 body ≡ locked plain port 6 body
  bits_only body = sym (locked_bits_lem plain port 6 body (omega arith) refl (λ e. omega arith))

  abbrev caller : Caller
  caller = record { pause = port.pause; device = port.device; lan = port.lan }

  pub reads_kr : (a : ℕ) → a ≤ 0xffff → Sound port.family is_ok (kr_read port.pause port a)
  unfolding kr_read
  reads_kr a h =
      record {
        made = access (reads caller a) end (sym (then_end (kr_read port.pause port a))) (λ r. done r);
        balanced = λ m W now. subst (Wp port.family (Ends is_ok m) W) (bits_only (kr_read_body port.pause a))
            (under_wp (bits_bracket port 6) honest_plain m (λ W₁ n. read_body_lem port.pause a W₁ n (n.mine 1 ∙ has_1 m)) W now);
        heeds = subst (Heeds port.family is_ok) (bits_only (kr_read_body port.pause a))
            (under_heeds (bits_bracket port 6) honest_plain (heeds_only (unlocked_read port.family port.pause a)));
        addressed = subst Addressed (bits_only (kr_read_body port.pause a)) (under_addressed (bits_bracket port 6) honest_plain (read_addressed port.pause a h));
      }

  pub writes_kr : (a w : ℕ) → a ≤ 0xffff → Sound port.family is_ok (kr_write port.pause port a w)
  unfolding kr_write
  writes_kr a w h =
      record {
        made = access (writes caller a w) end (sym (then_end (kr_write port.pause port a w))) (λ r. done r);
        balanced = λ m W now. subst (Wp port.family (Ends is_ok m) W) (bits_only (kr_write_body port.pause a w))
            (under_wp (bits_bracket port 6) honest_plain m (λ W₁ n. write_body_lem port.pause a W₁ n (n.mine 1 ∙ has_1 m) w) W now);
        heeds = subst (Heeds port.family is_ok) (bits_only (kr_write_body port.pause a w))
            (under_heeds (bits_bracket port 6) honest_plain (heeds_only (unlocked_write port.family port.pause a w)));
        addressed = subst Addressed (bits_only (kr_write_body port.pause a w)) (under_addressed (bits_bracket port 6) honest_plain (write_addressed port.pause a h w));
      }
