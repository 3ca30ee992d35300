-- One action on the shared chip: what its port learns, and that what the other port knows still holds
use Rattle.std.specs.Prelude.{Ok, Option, Some}
use Rattle.hardware.specs.Talk.{pick, Reply}
use Prim.Native.Nat.{ℕ, ◌^◌}
use mathlib.Core.Path.{◌≡◌, refl, sym, ap, ◌∙◌, subst}
use mathlib.Core.Bool.{Bool, true, false, not, ◌&&◌, ◌||◌, true≢false}
use mathlib.Core.Logic.{◌⊎◌, inl, inr}
use Rattle.std.proofs.lemmas.Option.{none-some}
use lib.Dec.{lit<}
use lib.Bits.{bit_or, or_lt}
use Rattle.hardware.specs.Bits.{bit}
use Rattle.hardware.specs.declared.Action.{Action}
use Rattle.hardware.specs.declared.Action.TheVariants as action
use Rattle.hardware.specs.declared.Family.{Family}
use Rattle.hardware.proofs.Bits.{bit-bit_or, bit_zero, both_bits}
use Rattle.mixing.specs.Model.{
  Side,
  lan0,
  lan1,
  Owner,
  nobody,
  firmware,
  of_port,
  Word,
  owned_by,
  becomes,
  stored_sync,
  stored_swsm,
  Chip,
  with_swsm,
  with_sync,
  Kind,
  is_swsm,
  is_sync,
  is_ctrl,
  is_data,
  is_other,
  kind,
  World,
  Did,
  do_read,
  do_write,
  do_action,
  fw_bits,
}
use Rattle.mixing.specs.Events.{word}
use Rattle.mixing.specs.Rule.{SameWord, SameAction}
use Rattle.mixing.proofs.Hold.{or_first}
use Rattle.mixing.proofs.Lock.{is_true, is_false}
use Rattle.mixing.proofs.Rule.{free_after, sync_same, swsm_same}
use Rattle.mixing.proofs.Wp.{
  View,
  with_smbi,
  with_sel,
  stores,
  Good,
  Found,
  MayStore,
  Need,
  NeedRead,
  NeedWrite,
  May,
  MayRead,
  MayWrite,
  next,
  next_read,
  next_write,
}

abbrev pub is_port : Side → Owner → Bool
is_port p nobody = false
is_port p firmware = false
is_port lan0 (of_port lan0) = true
is_port lan0 (of_port lan1) = false
is_port lan1 (of_port lan0) = false
is_port lan1 (of_port lan1) = true

self : (p : Side) → is_port p (of_port p) ≡ true
self lan0 = refl
self lan1 = refl

-- the other port
abbrev pub Other : Side → Side → Type 0
Other p q = is_port q (of_port p) ≡ false

excl : (p q : Side) (o : Owner) → Other p q → is_port p o ≡ true → is_port q o ≡ true → ⊥
excl p q nobody n a b = true≢false (sym a)
excl p q firmware n a b = true≢false (sym a)
excl lan0 q (of_port lan0) n a b = true≢false (sym b ∙ n)
excl lan0 q (of_port lan1) n a b = true≢false (sym a)
excl lan1 q (of_port lan0) n a b = true≢false (sym a)
excl lan1 q (of_port lan1) n a b = true≢false (sym b ∙ n)

pub nobodys : (p : Side) (o : Owner) → o ≡ nobody → is_port p o ≡ false
nobodys p o e = ap (is_port p) e

-- ---- a store, bit by bit

own_after : (p : Side) (old new : Bool) (o : Owner) → is_port p (owned_by (of_port p) old new o) ≡ (new && (not old || is_port p o))
own_after p old false o = refl
own_after p false true o = self p
own_after p true true o = refl

-- for whoever did not store, where the store clears none of his bits
pub keep_after : (q : Side) (s : Owner) → is_port q s ≡ false → (old new : Bool) (o : Owner) → (old ≡ false → o ≡ nobody) → (is_port q o ≡ true → new ≡ true)
    → is_port q (owned_by s old new o) ≡ is_port q o
keep_after q s n old false o h k = sym (is_false _ (λ t. true≢false (sym (k t))))
keep_after q s n false true o h k = n ∙ sym (nobodys q o (h refl))
keep_after q s n true true o h k = refl

-- a firmware bit never becomes a port's
fw_after : (q : Side) (s : Owner) (old new : Bool) (o : Owner) → (new ≡ true → old ≡ false → ⊥) → is_port q o ≡ false → is_port q (owned_by s old new o) ≡ false
fw_after q s old false o h k = refl
fw_after q s false true o h k = absurd (h refl refl)
fw_after q s true true o h k = k

pub record ChipOk (c : Chip) : Type 0 where
  pub sm : (c.swsm.value ≡ 0) ⊎ (c.swsm.value ≡ 1)
  pub sm_owned : (i : ℕ) → bit i c.swsm.value ≡ false → c.swsm.owner i ≡ nobody
  pub good : Good c.sync.value
  pub owned : (i : ℕ) → bit i c.sync.value ≡ false → c.sync.owner i ≡ nobody
  pub fw_only : (i : ℕ) → bit i fw_bits ≡ true → (q : Side) → is_port q (c.sync.owner i) ≡ false

pub record Sees (p : Side) (c : Chip) (W : View) : Type 0 where
  pub smbi : is_port p (c.swsm.owner 0) ≡ W.smbi
  pub mine : (i : ℕ) → is_port p (c.sync.owner i) ≡ W.mine i
  pub sync : W.mine 31 ≡ true → W.sync ≡ c.sync.value
  pub sel : (a : ℕ) → W.sel ≡ Some a → c.selected ≡ a
  pub lock : (a : ℕ) → W.sel ≡ Some a → W.mine 1 ≡ true

-- what an action does to what is known
pub record Shared (p : Side) (d : Did) (W' : View) (M : Reply → Type 0) (c : Chip) : Type 0 where
  pub may : M d.reply
  pub chip : ChipOk d.chip
  pub sees : Sees p d.chip W'
  pub others : (q : Side) (W : View) → Other p q → Sees q c W → Sees q d.chip W

pub grows : (v k i : ℕ) → bit i v ≡ true → bit i (bit_or v (2 ^ k)) ≡ true
grows v k i e = bit-bit_or i v (2 ^ k) ∙ ap (λ t. t || bit i (2 ^ k)) e

-- an owned bit is set
pub is_set : (q : Side) (w : Word) (i : ℕ) → (bit i w.value ≡ false → w.owner i ≡ nobody) → is_port q (w.owner i) ≡ true → bit i w.value ≡ true
is_set q w i h t = is_true _ (λ e. true≢false (sym t ∙ nobodys q (w.owner i) (h e)))

abbrev reg : ℕ
reg = 0x80000000

reg_31 : bit 31 (2 ^ 31) ≡ true
unfolding bit
reg_31 = refl

pub nine_31 : bit 9 (2 ^ 31) ≡ false
unfolding bit
nine_31 = refl

not_31 : (i : ℕ) → bit i fw_bits ≡ true → bit i (2 ^ 31) ≡ false
not_31 i h = both_bits i fw_bits (2 ^ 31) refl h

unchanged : {p : Side} {W : View} {M : Reply → Type 0} (c : Chip) (r : Reply) → M r → ChipOk c → Sees p c W → Shared p (record { reply = r; chip = c }) W M c
unchanged c r m k s = record { may = m; chip = k; sees = s; others = λ q W n t. t }

-- ---- a port that keeps the rules has what it writes stored

-- it has seen the firmware's bits and bit 31
sync_stored : (p : Side) (c : Chip) (W : View) (v : ℕ) → ChipOk c → Sees p c W → MayStore W v → stored_sync c.sync.value v ≡ v
sync_stored p c W v k s m =
    sync_same c.sync.value v (λ i h. go i h (bit i c.sync.value) (bit i v) refl refl)
    (λ _. is_set p c.sync 31 (k.owned 31) (s.mine 31 ∙ m.held))
  where
    known : (i : ℕ) → bit i W.sync ≡ bit i c.sync.value
    known i = ap (bit i) (s.sync m.held)

    go : (i : ℕ) → bit i fw_bits ≡ true → (x y : Bool) → bit i c.sync.value ≡ x → bit i v ≡ y → x ≡ y
    go i h true true d e = refl
    go i h true false d e = absurd (true≢false (sym (s.mine i ∙ m.drops i (known i ∙ d) e) ∙ k.fw_only i h p))
    go i h false true d e = absurd (true≢false (sym (m.raises i h e) ∙ known i ∙ d))
    go i h false false d e = refl

-- it writes nothing but 0 to SWSM
swsm_stored : (old : ℕ) → stored_swsm old 0 ≡ 0
swsm_stored old = swsm_same old 0 (λ e. absurd (true≢false (sym e ∙ bit_zero 0)))

same_word : (p : Side) (c : Chip) (W : View) (v : ℕ) (kd : Kind) → ChipOk c → Sees p c W → NeedWrite W v kd → SameWord c v kd
same_word p c W v is_swsm k s n = subst (λ u. stored_swsm c.swsm.value u ≡ u) (sym n.1) (swsm_stored c.swsm.value)
same_word p c W v is_sync k s n = sync_stored p c W v k s n
same_word p c W v is_ctrl k s n = tt
same_word p c W v is_data k s n = tt
same_word p c W v is_other k s n = tt

pub same_action : (f : Family) (p : Side) (c : Chip) (W : View) (a : Action) → ChipOk c → Sees p c W → Need f W a → SameAction f c a
same_action f p c W (action.Read r) k s n = tt
same_action f p c W (action.Write r v) k s n = same_word p c W v (kind f r) k s n
same_action f p c W (action.Wait i) k s n = tt

-- ---- SWSM

abbrev with_sm : ℕ → Chip → Chip
with_sm v c = with_swsm (record { value = v; owner = c.swsm.owner }) c

swsm_0 : (p : Side) (w : World) (c : Chip) (W : View) → ChipOk (with_sm 0 c) → Sees p (with_sm 0 c) W
    → Shared p (do_read p w (with_sm 0 c) is_swsm) (with_smbi true W) (MayRead W is_swsm) (with_sm 0 c)
unfolding bit
swsm_0 p w c W k s = record {
  may = (inl refl, λ t. absurd (true≢false (sym t ∙ sym s.smbi ∙ nobodys p _ (k.sm_owned 0 refl))));
  chip = record { sm = inr refl; sm_owned = λ i e. free_after (of_port p) (bit i 0) (bit i 1) (c.swsm.owner i) e; good = k.good; owned = k.owned; fw_only = k.fw_only };
  sees = record { smbi = self p; mine = s.mine; sync = s.sync; sel = s.sel; lock = s.lock };
  others = λ q W' n t. record { smbi = keep_after q (of_port p) n false true (c.swsm.owner 0) (k.sm_owned 0) (λ _. refl) ∙ t.smbi; mine = t.mine; sync = t.sync; sel = t.sel; lock = t.lock };
}

swsm_1 : (p : Side) (w : World) (c : Chip) (W : View) → ChipOk (with_sm 1 c) → Sees p (with_sm 1 c) W
    → Shared p (do_read p w (with_sm 1 c) is_swsm) W (MayRead W is_swsm) (with_sm 1 c)
unfolding bit
swsm_1 p w c W k s = unchanged (with_sm 1 c) (Ok 1) (inr refl, λ _. refl) k s

swsm_read : (p : Side) (w : World) (c : Chip) (W : View) → ChipOk c → Sees p c W
    → Shared p (do_read p w c is_swsm) (next_read W is_swsm c.swsm.value) (MayRead W is_swsm) c
swsm_read p w c W k s = elim k.sm [
  | inl e ↦ subst (λ v. ChipOk (with_sm v c) → Sees p (with_sm v c) W → Shared p (do_read p w (with_sm v c) is_swsm) (next_read W is_swsm v) (MayRead W is_swsm) (with_sm v c)) (sym e) (swsm_0 p w c W) k s
  | inr e ↦ subst (λ v. ChipOk (with_sm v c) → Sees p (with_sm v c) W → Shared p (do_read p w (with_sm v c) is_swsm) (next_read W is_swsm v) (MayRead W is_swsm) (with_sm v c)) (sym e) (swsm_1 p w c W) k s
]

swsm_store : (p : Side) (c : Chip) (W : View) → ChipOk c → Sees p c W → W.smbi ≡ true
    → Shared p (record { reply = Ok 0; chip = with_swsm (becomes (of_port p) 0 c.swsm) c }) (with_smbi false W) (MayWrite is_swsm) c
unfolding bit
swsm_store p c W k s e = record {
  may = tt;
  chip = record { sm = inl refl; sm_owned = λ i h. free_after (of_port p) (bit i c.swsm.value) (bit i 0) (c.swsm.owner i) h; good = k.good; owned = k.owned; fw_only = k.fw_only };
  sees = record { smbi = refl; mine = s.mine; sync = s.sync; sel = s.sel; lock = s.lock };
  others = λ q W' n t. record {
    smbi = sym (is_false _ (λ h. excl p q (c.swsm.owner 0) n (s.smbi ∙ e) h)) ∙ t.smbi;
    mine = t.mine;
    sync = t.sync;
    sel = t.sel;
    lock = t.lock;
  };
}

swsm_write : (p : Side) (w : World) (c : Chip) (W : View) → ChipOk c → Sees p c W → W.smbi ≡ true
    → Shared p (do_write p w c 0 is_swsm) (with_smbi false W) (MayWrite is_swsm) c
swsm_write p w c W k s e =
    subst (λ v. Shared p (record { reply = Ok 0; chip = with_swsm (becomes (of_port p) v c.swsm) c }) (with_smbi false W) (MayWrite is_swsm) c)
    (sym (swsm_stored c.swsm.value)) (swsm_store p c W k s e)

-- ---- SW_FW_SYNC

sync_store : (p : Side) (c : Chip) (W : View) (v : ℕ) {M : Reply → Type 0} (r : Reply) → M r → ChipOk c → Sees p c W → Good v
    → ((i : ℕ) → bit i c.sync.value ≡ true → bit i v ≡ false → W.mine i ≡ true)
    → ((i : ℕ) → bit i fw_bits ≡ true → bit i v ≡ true → bit i c.sync.value ≡ true)
    → ((q : Side) → Other p q → is_port q (c.sync.owner 31) ≡ false)
    → Shared p (record { reply = r; chip = with_sync (becomes (of_port p) v c.sync) c }) (stores c.sync.value v W) M c
sync_store p c W v r m k s g drops raises noword = record {
  may = m;
  chip = record {
    sm = k.sm;
    sm_owned = k.sm_owned;
    good = g;
    owned = λ i e. free_after (of_port p) (bit i c.sync.value) (bit i v) (c.sync.owner i) e;
    fw_only = λ i h q. fw_after q (of_port p) (bit i c.sync.value) (bit i v) (c.sync.owner i) (λ t e. true≢false (sym (raises i h t) ∙ e)) (k.fw_only i h q);
  };
  sees = record {
    smbi = s.smbi;
    mine = λ i. own_after p (bit i c.sync.value) (bit i v) (c.sync.owner i) ∙ ap (λ t. bit i v && (not (bit i c.sync.value) || t)) (s.mine i);
    sync = λ _. refl;
    sel = λ a e. absurd (none-some a e);
    lock = λ a e. absurd (none-some a e);
  };
  others = λ q W' n t. record {
    smbi = t.smbi;
    mine = λ i. keep_after q (of_port p) n (bit i c.sync.value) (bit i v) (c.sync.owner i) (k.owned i)
        (λ h. is_true _ (λ e. excl p q (c.sync.owner i) n (s.mine i ∙ drops i (is_set q c.sync i (k.owned i) h) e) h)) ∙ t.mine i;
    sync = λ e. absurd (true≢false (sym e ∙ sym (t.mine 31) ∙ noword q n));
    sel = t.sel;
    lock = t.lock;
  };
}

finds : {p : Side} {c : Chip} {W : View} → ChipOk c → Sees p c W → Found W c.sync.value
finds {p} {c} k s = record {
  good = k.good;
  has = λ i e. is_set p c.sync i (k.owned i) (s.mine i ∙ e);
  known = s.sync;
}

sync_read : (p : Side) (w : World) (c : Chip) (W : View) → ChipOk c → Sees p c W
    → Shared p (do_read p w c is_sync) (next_read W is_sync c.sync.value) (MayRead W is_sync) c
sync_read p w c W k s = go (bit 31 c.sync.value) refl
  where
    go : (b : Bool) → bit 31 c.sync.value ≡ b
        → Shared p (record { reply = Ok c.sync.value; chip = with_sync (pick b c.sync (becomes (of_port p) (bit_or c.sync.value (2 ^ 31)) c.sync)) c })
        (pick b W (stores c.sync.value (bit_or c.sync.value (2 ^ 31)) W)) (MayRead W is_sync) c
    go true e = unchanged c (Ok c.sync.value) (finds k s) k s
    go false e = sync_store p c W (bit_or c.sync.value (2 ^ 31)) (Ok c.sync.value) (finds k s) k s
        (record { small = or_lt 32 c.sync.value (2 ^ 31) k.good.small (lit< tt); nine = bit-bit_or 9 c.sync.value (2 ^ 31) ∙ ap (λ t. t || bit 9 (2 ^ 31)) k.good.nine ∙ nine_31 })
        (λ i h z. absurd (true≢false (sym (grows c.sync.value 31 i h) ∙ z)))
        (λ i h z. or_first (bit i c.sync.value) (bit i (2 ^ 31)) (not_31 i h) (sym (bit-bit_or i c.sync.value (2 ^ 31)) ∙ z))
        (λ q n. nobodys q _ (k.owned 31 e))

sync_write : (p : Side) (w : World) (c : Chip) (W : View) (v : ℕ) → ChipOk c → Sees p c W → MayStore W v
    → Shared p (do_write p w c v is_sync) (stores W.sync v W) (MayWrite is_sync) c
sync_write p w c W v k s m =
    subst (λ u. Shared p (do_write p w c v is_sync) (stores u v W) (MayWrite is_sync) c) (sym known)
    (subst (λ x. Shared p (record { reply = Ok 0; chip = with_sync (becomes (of_port p) x c.sync) c }) (stores c.sync.value v W) (MayWrite is_sync) c)
    (sym (sync_stored p c W v k s m))
    (sync_store p c W v (Ok 0) tt k s m.good
    (λ i h z. m.drops i (ap (bit i) known ∙ h) z)
    (λ i h z. sym (ap (bit i) known) ∙ m.raises i h z)
    (λ q n. is_false _ (λ h. excl p q (c.sync.owner 31) n (s.mine 31 ∙ m.held) h))))
  where
    known : W.sync ≡ c.sync.value
    known = s.sync m.held

-- ---- the KR access registers

pub some_inj : (a b : ℕ) → ◌≡◌ {A = Option ℕ} (Some a) (Some b) → a ≡ b
some_inj a b e = cc

ctrl_write : (p : Side) (w : World) (c : Chip) (W : View) (v : ℕ) → ChipOk c → Sees p c W → W.mine 1 ≡ true
    → Shared p (do_write p w c v is_ctrl) (with_sel v W) (MayWrite is_ctrl) c
ctrl_write p w c W v k s m = record {
  may = tt;
  chip = record { sm = k.sm; sm_owned = k.sm_owned; good = k.good; owned = k.owned; fw_only = k.fw_only };
  sees = record { smbi = s.smbi; mine = s.mine; sync = s.sync; sel = λ a e. some_inj v a e; lock = λ a e. m };
  others = λ q W' n t. record {
    smbi = t.smbi;
    mine = t.mine;
    sync = t.sync;
    lock = t.lock;
    sel = λ a e. absurd (excl p q (c.sync.owner 1) n (s.mine 1 ∙ m) (t.mine 1 ∙ t.lock a e));
  };
}

read_step : (p : Side) (w : World) (c : Chip) (W : View) (kd : Kind) → ChipOk c → Sees p c W → NeedRead W kd
    → Shared p (do_read p w c kd) (next_read W kd (word (do_read p w c kd).reply)) (MayRead W kd) c
read_step p w c W is_swsm k s n = swsm_read p w c W k s
read_step p w c W is_sync k s n = sync_read p w c W k s
read_step p w c W is_ctrl k s n = unchanged c _ tt k s
read_step p w c W is_data k s n = unchanged c _ tt k (record { smbi = s.smbi; mine = s.mine; sync = s.sync; sel = s.sel; lock = s.lock })
read_step p w c W is_other k s n = unchanged c _ tt k s

write_step : (p : Side) (w : World) (c : Chip) (W : View) (v : ℕ) (kd : Kind) → ChipOk c → Sees p c W → NeedWrite W v kd
    → Shared p (do_write p w c v kd) (next_write W v kd) (MayWrite kd) c
write_step p w c W v is_swsm k s n =
    subst (λ u. Shared p (do_write p w c u is_swsm) (with_smbi false W) (MayWrite is_swsm) c) (sym n.1) (swsm_write p w c W k s n.0)
write_step p w c W v is_sync k s n = sync_write p w c W v k s n
write_step p w c W v is_ctrl k s n = ctrl_write p w c W v k s n
write_step p w c W v is_data k s n = record {
  may = tt;
  chip = record { sm = k.sm; sm_owned = k.sm_owned; good = k.good; owned = k.owned; fw_only = k.fw_only };
  sees = record { smbi = s.smbi; mine = s.mine; sync = s.sync; sel = s.sel; lock = s.lock };
  others = λ q W' n t. record { smbi = t.smbi; mine = t.mine; sync = t.sync; sel = t.sel; lock = t.lock };
}
write_step p w c W v is_other k s n = unchanged c _ tt k s

pub action_step : (f : Family) (p : Side) (w : World) (c : Chip) (W : View) (a : Action) → ChipOk c → Sees p c W → Need f W a
    → Shared p (do_action f p w c a) (next f W a (do_action f p w c a).reply) (May f W a) c
action_step f p w c W (action.Read r) k s n = read_step p w c W (kind f r) k s n
action_step f p w c W (action.Write r v) k s n = write_step p w c W v (kind f r) k s n
action_step f p w c W (action.Wait i) k s n = unchanged c _ tt k s
