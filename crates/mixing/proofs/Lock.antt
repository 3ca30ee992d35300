-- The register semaphore of sync.rs keeps the rules
use Rattle.std.specs.Prelude.{Err, Ok}
use Rattle.hardware.specs.Talk.{Talk, Call, Res, ask, pick, or_stop, fail, Reply}
use Prim.Native.Nat.{ℕ, ◌-◌, ◌^◌, ◌<◌}
use native.Mathlib.Omega.{arith}
use mathlib.Core.Path.{◌≡◌, refl, sym, ap, ◌∙◌, subst}
use mathlib.Core.Bool.{Bool, true, false, not, ◌&&◌, true≢false}
use mathlib.Core.Logic.{inl, inr}
use lib.Dec.{eqb, lit<}
use lib.Bits.{bit_or, and_le_l}
use Rattle.hardware.specs.Bits.{bit, without}
use Rattle.hardware.specs.Regs.{regs}
use Rattle.hardware.specs.declared.Action.TheVariants as action
use Rattle.hardware.specs.declared.Error.{Error}
use Rattle.hardware.specs.declared.Error.TheVariants.{Semaphore}
use Rattle.hardware.specs.declared.Family.{Family}
use Rattle.hardware.specs.declared.Family.TheVariants.{X552, X553}
use Rattle.hardware.proofs.Bits.{bit_without, not_all_ones, test_31, only_bit}
use Rattle.reference.specs.Sync.{smbi_turn, smbi, clear, regsmp_turn, regsmp_failed, regsmp_times, lock, unlock}
use Rattle.mixing.specs.Model.{is_swsm, is_sync, kind}
use Rattle.mixing.specs.Events.{word}
use Rattle.hardware.proofs.Laws.{by_turns}
use Rattle.mixing.proofs.Only.{quiet_flush}
use Rattle.mixing.proofs.Wp.{
  View,
  with_smbi,
  stores,
  Good,
  Found,
  MayStore,
  Succeeds,
  next_read,
  Wp,
  wp_end,
  wp_ask,
  wp_then,
  wp_read,
  wp_write,
  quiet_wp,
}

pub is_true : (b : Bool) → (b ≡ false → ⊥) → b ≡ true
is_true true h = refl
is_true false h = absurd (h refl)

pub is_false : (b : Bool) → (b ≡ true → ⊥) → b ≡ false
is_false true h = absurd (h refl)
is_false false h = refl

pub and_left : (a b : Bool) → (a && b) ≡ true → a ≡ true
and_left true b h = refl
and_left false b h = h

pub kind_swsm : (f : Family) → kind f (regs f).swsm ≡ is_swsm
kind_swsm X552 = refl
kind_swsm X553 = refl

pub kind_sync : (f : Family) → kind f (regs f).sync ≡ is_sync
kind_sync X552 = refl
kind_sync X553 = refl

-- the Rust's `?`
pub or_stop_lem : {A B : Type 0} {f : Family} {Q : View → Res B → Type 0} {W : View} {k : A → Call B}
    → ((a : A) → Wp f Q W (k a)) → ((e : Error) → Q W (Err e)) → (r : Res A) → Wp f Q W (or_stop k r)
or_stop_lem h he (Ok a) = h a
or_stop_lem h he (Err e) = wp_end (he e)

pub on_success : {P : ℕ → Type 0} (R : Reply → Type 0) → ((v : ℕ) → P v → R (Ok v)) → (r : Reply) → Succeeds P r → R r
on_success R h (Ok v) m = h v m
on_success R h (Err v) m = absurd m

-- ---- one action on a semaphore register

module _ {A : Type 0} {f : Family} {Q : View → A → Type 0} {W : View} {c : Reply → Talk A} where
  pub swsm_read : (W.smbi ≡ false → Wp f Q (with_smbi true W) (c (Ok 0))) → Wp f Q W (c (Ok 1))
      → Wp f Q W (ask (action.Read (regs f).swsm) c)
  swsm_read h0 h1 =
      wp_read is_swsm (kind_swsm f) tt
      (on_success (λ r. Wp f Q (next_read W is_swsm (word r)) (c r)) (λ v m. elim m.0 [ inl e ↦ zeroth v e m.1 | inr e ↦ first v e ]))
    where
      zeroth : (v : ℕ) → v ≡ 0 → (W.smbi ≡ true → v ≡ 1) → Wp f Q (next_read W is_swsm v) (c (Ok v))
      zeroth v e one = rw e (h0 (is_false W.smbi (λ t. let z : v ≡ 1 = one t in let n : ⊥ = omega arith in n)))

      first : (v : ℕ) → v ≡ 1 → Wp f Q (next_read W is_swsm v) (c (Ok v))
      first v e = rw e h1

  pub swsm_write : W.smbi ≡ true → ((n : ℕ) → Wp f Q (with_smbi false W) (c (Ok n))) → Wp f Q W (ask (action.Write (regs f).swsm 0) c)
  swsm_write e h = wp_write is_swsm (kind_swsm f) (e, refl) (on_success (λ r. Wp f Q (with_smbi false W) (c r)) (λ v m. h v))

  pub sync_write : {w : ℕ} → MayStore W w → ((n : ℕ) → Wp f Q (stores W.sync w W) (c (Ok n)))
      → Wp f Q W (ask (action.Write (regs f).sync w) c)
  sync_write {w} m h = wp_write is_sync (kind_sync f) m (on_success (λ r. Wp f Q (stores W.sync w W) (c r)) (λ v _. h v))

  -- never all ones
  pub sync_read : ((v : ℕ) → Found W v → eqb v 0xffffffff ≡ false → bit 31 v ≡ true → Wp f Q W (c (Ok v)))
      → ((v : ℕ) → Found W v → eqb v 0xffffffff ≡ false → bit 31 v ≡ false → Wp f Q (stores v (bit_or v (2 ^ 31)) W) (c (Ok v)))
      → Wp f Q W (ask (action.Read (regs f).sync) c)
  sync_read h1 h0 =
      wp_read is_sync (kind_sync f) tt
      (on_success (λ r. Wp f Q (next_read W is_sync (word r)) (c r)) (λ v d. go v d (not_all_ones v d.good.nine) (bit 31 v) refl))
    where
      go : (v : ℕ) → Found W v → eqb v 0xffffffff ≡ false → (b : Bool) → bit 31 v ≡ b
          → Wp f Q (pick b W (stores v (bit_or v (2 ^ 31)) W)) (c (Ok v))
      go v d n true e = h1 v d n e
      go v d n false e = h0 v d n e

  -- by a port that holds the word
  pub sync_read_held : W.mine 31 ≡ true → (Found W W.sync → eqb W.sync 0xffffffff ≡ false → Wp f Q W (c (Ok W.sync)))
      → Wp f Q W (ask (action.Read (regs f).sync) c)
  sync_read_held e h =
      sync_read (λ v d n b. subst (λ x. Found W x → eqb x 0xffffffff ≡ false → Wp f Q W (c (Ok x))) (d.known e) h d n)
      (λ v d n b. absurd (true≢false (sym (d.has 31 e) ∙ b)))

-- ---- `clear`

pub good_without : (v b : ℕ) → b < 2 ^ 32 → Good v → Good (without v b)
good_without v b hb g =
    record {
      small = omega (arith, and_le_l v (0xffffffff - b), g.small);
      nine = bit_without 32 9 v b g.small hb ∙ ap (λ t. t && not (bit 9 b)) g.nine;
    }

-- a bit that `v & !b` drops was one of b
dropped : (p q : Bool) → p ≡ true → (p && not q) ≡ false → q ≡ true
dropped true true h e = refl
dropped true false h e = absurd (true≢false e)
dropped false q h e = absurd (true≢false (sym h))

module _ {f : Family} {Q : View → Res (Unit {0}) → Type 0} (W : View) where
  pub clear_swsm : W.smbi ≡ true → Q (with_smbi false W) (Ok tt) → Wp f Q W (clear (regs f).swsm 1)
  clear_swsm e h = swsm_read (λ z. absurd (true≢false (sym e ∙ z))) (swsm_write e (λ _. wp_end h))

  pub clear_sync : (b : ℕ) → b < 2 ^ 32 → W.mine 31 ≡ true → ((i : ℕ) → bit i b ≡ true → W.mine i ≡ true)
      → (Found W W.sync → Q (stores W.sync (without W.sync b) W) (Ok tt)) → Wp f Q W (clear (regs f).sync b)
  clear_sync b hb e own h =
      sync_read_held e
      (λ d n. rw n (sync_write
      (record {
        held = e;
        good = good_without W.sync b hb d.good;
        drops = λ i p q. own i (dropped _ _ p (sym (bit_without 32 i W.sync b d.good.small hb) ∙ q));
        raises = λ i p q. and_left _ _ (sym (bit_without 32 i W.sync b d.good.small hb) ∙ q);
      })
      (λ _. wp_end (h d))))

-- ---- `lock` and `unlock`

module _ {f : Family} {Q : View → Res (Unit {0}) → Type 0} where
  smbi_goes : (W : View) → Q (with_smbi true W) (Ok tt) → ((e : Error) → Q W (Err e)) → Wp f Q W (smbi (regs f).swsm)
  smbi_goes W h he =
      by_turns (Wp f Q W) (smbi_turn (regs f).swsm) (fail (Semaphore 1))
      (λ again g. swsm_read (λ _. wp_end h) (wp_ask tt (λ r m. g))) (wp_end (he _)) 2000

  regsmp_goes : (W : View) → W.smbi ≡ true → W.mine 31 ≡ false
      → ((v : ℕ) → Found W v → bit 31 v ≡ false → Q (stores v (bit_or v (2 ^ 31)) W) (Ok tt))
      → ((e : Error) → Q (with_smbi false W) (Err e)) → Wp f Q W (regsmp_times (regs f) 2000)
  regsmp_goes W s e h he =
      by_turns (Wp f Q W) (regsmp_turn (regs f).sync) (regsmp_failed (regs f).swsm)
      (λ again g. sync_read (λ v d n b. rw (n, test_31 v, b) (wp_ask tt (λ r m. g))) (λ v d n b. rw (n, test_31 v, b) (wp_end (h v d b))))
      (wp_then (clear_swsm W s (wp_then (quiet_wp (quiet_flush f) (or_stop_lem (λ u. wp_end (he _)) he))))) 2000

pub lock_goes : {f : Family} {Q : View → Res (Unit {0}) → Type 0} (W : View) → W.mine 31 ≡ false
    → ((v : ℕ) → Found W v → bit 31 v ≡ false → Q (stores v (bit_or v (2 ^ 31)) (with_smbi true W)) (Ok tt))
    → ((e : Error) → Q W (Err e)) → ((e : Error) → Q (with_smbi false W) (Err e)) → Wp f Q W (lock (regs f))
lock_goes W e h he hf =
    wp_then (smbi_goes W
    (regsmp_goes (with_smbi true W) refl e (λ v d b. h v (record { good = d.good; has = d.has; known = d.known }) b) hf)
    (λ c. wp_end (he c)))

pub unlock_goes : {f : Family} {Q : View → Res (Unit {0}) → Type 0} (W : View) → W.smbi ≡ true → W.mine 31 ≡ true
    → (Found W W.sync → (r : Res (Unit {0})) → Q (with_smbi false (stores W.sync (without W.sync 0x80000000) W)) r)
    → Wp f Q W (unlock (regs f))
unlock_goes {f} W s e h =
    wp_then (clear_sync W 0x80000000 (lit< tt) e (λ i p. rw (only_bit 31 i p) e)
    (λ d. wp_then (clear_swsm (stores W.sync (without W.sync 0x80000000) W) s (quiet_wp (quiet_flush f) (h d)))))
