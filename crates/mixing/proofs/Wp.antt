-- What a port may count on while the other port and the firmware go on, and what it owes them
use Rattle.std.specs.Prelude.{Err, Ok, Option, None, Some}
use Rattle.hardware.specs.Talk.{Talk, Res, end, ask, and_then, ◌>>=◌, attempt, pick, Reply}
use Prim.Native.Nat.{ℕ, ◌^◌, ◌<◌}
use mathlib.Core.Path.{◌≡◌, refl, sym, subst}
use mathlib.Core.Bool.{Bool, true, false, not, ◌&&◌, ◌||◌}
use mathlib.Core.Logic.{◌⊎◌}
use lib.Dec.{eqb}
use lib.Bits.{bit_or}
use Rattle.hardware.specs.Bits.{bit}
use Rattle.hardware.specs.declared.Action.{Action}
use Rattle.hardware.specs.declared.Action.TheVariants as action
use Rattle.hardware.specs.declared.Family.{Family}
use Rattle.mixing.specs.Only.{only_end, only_ask}
use Rattle.mixing.specs.Model.{Kind, is_swsm, is_sync, is_ctrl, is_data, is_other, kind, On, fw_bits}
use Rattle.mixing.specs.Events.{word}
use Rattle.mixing.proofs.Only.{IsFar, Quiet}

-- what a port knows: whether SWSM bit 0 is its own; which bits of SW_FW_SYNC are; that word, if bit 31 is its own; the address
-- that it selected under its lock, if any
pub record View : Type 0 where
  pub smbi : Bool
  pub mine : ℕ → Bool
  pub sync : ℕ
  pub sel : Option ℕ

abbrev pub with_smbi : Bool → View → View
with_smbi b W = record { smbi = b; mine = W.mine; sync = W.sync; sel = W.sel }

abbrev pub with_sel : ℕ → View → View
with_sel a W = record { smbi = W.smbi; mine = W.mine; sync = W.sync; sel = Some a }

-- it stores w over v
abbrev pub stores : ℕ → ℕ → View → View
stores v w W = record { smbi = W.smbi; mine = λ i. bit i w && (not (bit i v) || W.mine i); sync = w; sel = None }

-- a word of 32 bits without bit 9, so never all ones
pub record Good (v : ℕ) : Type 0 where
  pub small : v < 2 ^ 32
  pub nine : bit 9 v ≡ false

-- a word that the port may find in SW_FW_SYNC
pub record Found (W : View) (v : ℕ) : Type 0 where
  pub good : Good v
  pub has : (i : ℕ) → W.mine i ≡ true → bit i v ≡ true
  pub known : W.mine 31 ≡ true → W.sync ≡ v

-- a word that it may store there: it holds bit 31, clears only bits of its own, and raises none of the firmware's
pub record MayStore (W : View) (w : ℕ) : Type 0 where
  pub held : W.mine 31 ≡ true
  pub good : Good w
  pub drops : (i : ℕ) → bit i W.sync ≡ true → bit i w ≡ false → W.mine i ≡ true
  pub raises : (i : ℕ) → bit i fw_bits ≡ true → bit i w ≡ true → bit i W.sync ≡ true

abbrev pub NeedRead : View → Kind → Type 0
NeedRead W is_swsm = Unit {0}
NeedRead W is_sync = Unit {0}
NeedRead W is_ctrl = W.mine 1 ≡ true
NeedRead W is_data = W.mine 1 ≡ true
NeedRead W is_other = Unit {0}

abbrev pub NeedWrite : View → ℕ → Kind → Type 0
NeedWrite W w is_swsm = (W.smbi ≡ true) × (w ≡ 0)
NeedWrite W w is_sync = MayStore W w
NeedWrite W w is_ctrl = W.mine 1 ≡ true
NeedWrite W w is_data = W.mine 1 ≡ true
NeedWrite W w is_other = Unit {0}

-- what it owes at an action
abbrev pub Need : Family → View → Action → Type 0
Need f W (action.Read r) = NeedRead W (kind f r)
Need f W (action.Write r w) = NeedWrite W w (kind f r)
Need f W (action.Wait n) = Unit {0}

-- the model's registers never fail
abbrev pub Succeeds : (ℕ → Type 0) → Reply → Type 0
Succeeds P (Ok v) = P v
Succeeds P (Err v) = ⊥

abbrev pub MayRead : View → Kind → Reply → Type 0
MayRead W is_swsm r = Succeeds (λ v. ((v ≡ 0) ⊎ (v ≡ 1)) × (W.smbi ≡ true → v ≡ 1)) r
MayRead W is_sync r = Succeeds (Found W) r
MayRead W is_ctrl r = Succeeds (λ _. Unit {0}) r
MayRead W is_data r = Succeeds (λ _. Unit {0}) r
MayRead W is_other r = Unit {0}

abbrev pub MayWrite : Kind → Reply → Type 0
MayWrite is_swsm r = Succeeds (λ _. Unit {0}) r
MayWrite is_sync r = Succeeds (λ _. Unit {0}) r
MayWrite is_ctrl r = Succeeds (λ _. Unit {0}) r
MayWrite is_data r = Succeeds (λ _. Unit {0}) r
MayWrite is_other r = Unit {0}

-- what it may be answered
abbrev pub May : Family → View → Action → Reply → Type 0
May f W (action.Read reg) r = MayRead W (kind f reg) r
May f W (action.Write reg w) r = MayWrite (kind f reg) r
May f W (action.Wait n) r = Unit {0}

abbrev pub next_read : View → Kind → ℕ → View
next_read W is_swsm v = with_smbi (pick (eqb v 0) true W.smbi) W
next_read W is_sync v = pick (bit 31 v) W (stores v (bit_or v (2 ^ 31)) W)
next_read W is_ctrl v = W
next_read W is_data v = W
next_read W is_other v = W

abbrev pub next_write : View → ℕ → Kind → View
next_write W w is_swsm = with_smbi false W
next_write W w is_sync = stores W.sync w W
next_write W w is_ctrl = with_sel w W
next_write W w is_data = W
next_write W w is_other = W

-- what it knows then
abbrev pub next : Family → View → Action → Reply → View
next f W (action.Read reg) r = next_read W (kind f reg) (word r)
next f W (action.Write reg w) r = next_write W w (kind f reg)
next f W (action.Wait n) r = W

-- from W on the conversation pays what it owes, and it ends in Q
pub data Wp {A : Type 0} (f : Family) (Q : View → A → Type 0) : View → Talk A → Type 0 where
  wp_end : {W : View} {a : A} → Q W a → Wp f Q W (end a)
  wp_ask : {W : View} {a : Action} {c : Reply → Talk A} → Need f W a → ((r : Reply) → May f W a r → Wp f Q (next f W a r) (c r)) → Wp f Q W (ask a c)

module _ {A : Type 0} {f : Family} where
  pub wp_then : {B : Type 0} {Q : View → B → Type 0} {k : A → Talk B} {W : View} {t : Talk A}
      → Wp f (λ W' a. Wp f Q W' (k a)) W t → Wp f Q W (and_then t k)
  wp_then (wp_end h) = h
  wp_then (wp_ask n h) = wp_ask n (λ r m. wp_then (h r m))

  -- an error kept for later
  pub wp_attempt : {B : Type 0} {Q : View → Res B → Type 0} {k : Res A → Talk (Res B)} {W : View} {t : Talk (Res A)}
      → Wp f (λ W' a. Wp f Q W' (k a)) W t → Wp f Q W (attempt t >>= k)
  wp_attempt (wp_end h) = h
  wp_attempt (wp_ask n h) = wp_ask n (λ r m. wp_attempt (h r m))

  pub wp_mono : {P Q : View → A → Type 0} {W : View} {t : Talk A} → ((W' : View) (a : A) → P W' a → Q W' a) → Wp f P W t → Wp f Q W t
  wp_mono g (wp_end h) = wp_end (g _ _ h)
  wp_mono g (wp_ask n h) = wp_ask n (λ r m. wp_mono g (h r m))

  pub wp_pick : {Q : View → A → Type 0} {W : View} {t u : Talk A} (b : Bool) → (b ≡ true → Wp f Q W t) → (b ≡ false → Wp f Q W u) → Wp f Q W (pick b t u)
  wp_pick true h k = h refl
  wp_pick false h k = k refl

  -- an action on a register of a known kind
  pub wp_read : {Q : View → A → Type 0} {W : View} {c : Reply → Talk A} {reg : ℕ} (kd : Kind) → kind f reg ≡ kd → NeedRead W kd
      → ((r : Reply) → MayRead W kd r → Wp f Q (next_read W kd (word r)) (c r)) → Wp f Q W (ask (action.Read reg) c)
  wp_read {Q = Q} {W} {c} {reg} kd e =
      subst
      (λ k. NeedRead W k → ((r : Reply) → MayRead W k r → Wp f Q (next_read W k (word r)) (c r)) → Wp f Q W (ask (action.Read reg) c))
      e wp_ask

  pub wp_write : {Q : View → A → Type 0} {W : View} {c : Reply → Talk A} {reg w : ℕ} (kd : Kind) → kind f reg ≡ kd → NeedWrite W w kd
      → ((r : Reply) → MayWrite kd r → Wp f Q (next_write W w kd) (c r)) → Wp f Q W (ask (action.Write reg w) c)
  wp_write {Q = Q} {W} {c} {reg} {w} kd e =
      subst
      (λ k. NeedWrite W w k → ((r : Reply) → MayWrite k r → Wp f Q (next_write W w k) (c r)) → Wp f Q W (ask (action.Write reg w) c))
      e wp_ask

-- ---- a quiet conversation owes nothing and learns nothing

module _ (W : View) where
  far_read : (k : Kind) → IsFar k → NeedRead W k × ((v : ℕ) → next_read W k v ≡ W)
  far_read is_swsm h = absurd h
  far_read is_sync h = absurd h
  far_read is_ctrl h = absurd h
  far_read is_data h = absurd h
  far_read is_other h = (tt, λ v. refl)

  far_write : (w : ℕ) (k : Kind) → IsFar k → NeedWrite W w k × (next_write W w k ≡ W)
  far_write w is_swsm h = absurd h
  far_write w is_sync h = absurd h
  far_write w is_ctrl h = absurd h
  far_write w is_data h = absurd h
  far_write w is_other h = (tt, refl)

  far_step : (f : Family) (a : Action) → On IsFar f a → Need f W a × ((r : Reply) → next f W a r ≡ W)
  far_step f (action.Read r) h = let p = far_read (kind f r) h in (p.0, λ a. p.1 (word a))
  far_step f (action.Write r v) h = let p = far_write v (kind f r) h in (p.0, λ a. p.1)
  far_step f (action.Wait n) h = (tt, λ a. refl)

pub quiet_wp : {A : Type 0} {f : Family} {Q : View → A → Type 0} {W : View} {t : Talk A} → Quiet f t → ((a : A) → Q W a) → Wp f Q W t
quiet_wp only_end h = wp_end (h _)
quiet_wp {f = f} {Q} {W} (only_ask {a} {c} e q) h =
    let p = far_step W f a e in
    wp_ask p.0 (λ r m. subst (λ W'. Wp f Q W' (c r)) (sym (p.1 r)) (quiet_wp (q r) h))
