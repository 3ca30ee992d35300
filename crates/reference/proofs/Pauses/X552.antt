-- x552.rs: the waits of `iosf_idle` are the pause, directly behind a read of IOSF_CTRL, and no other wait is behind one
use Rattle.std.specs.Prelude.{Ok, Err, Option, None, Some}
use Prim.Native.Nat.{ℕ, zero, suc, ◌/◌, ◌%◌, ◌^◌}
use native.Mathlib.Omega.{arith}
use mathlib.Core.Path.{◌≡◌, refl}
use mathlib.Core.Bool.{Bool, true, false}
use lib.Dec.{eqb}
use Rattle.hardware.specs.Talk.{Call, Res, raw, or_stop, ◌>>=◌, ◌>>◌, pick, is_clear, write, return, delay, times}
use Rattle.hardware.specs.declared.Action.TheVariants as action
use Rattle.hardware.specs.declared.Family.{Family}
use Rattle.hardware.specs.declared.Family.TheVariants.{X552, X553}
use Rattle.hardware.specs.declared.Port.{Port}
use Rattle.words.specs.Kr.{krm}
use Rattle.answers.specs.declared.Internal.{Internal}
use Rattle.answers.specs.declared.Internal.TheVariants.{Ixfi, Kr}
use Rattle.answers.specs.declared.Speeds.{Speeds}
use Rattle.answers.specs.declared.X557.{X557}
use Rattle.reference.specs.Pauses.{paced}
use Rattle.reference.specs.Sync.{plain}
use Rattle.reference.specs.X552.{iosf_turn, iosf_times, iosf_idle, kr_read_body, kr_read, kr_write_body, kr_write, kr_modify, restart_lane, restart_an, restarted, kr_autoneg_lane, kr_autoneg, ixfi, nvm_word, mdio_clock, prepare_reset, prepare_found, prepare_probed, prepare_scanned, prepare_copper, Prepared, nothing, copper, prepare_then, after_reset, without100, copper_advertise, copper_turn, copper_internal, copper_link, setup_prepared, vetoed, setup}
use Rattle.hardware.proofs.Laws.{by_turns}
use Rattle.reference.proofs.Alike.{Alike, at_end, at_ask, alike_paced, Anywhere, Same, Still, alike_then, anywhere, ends, bind, picks, reads, raws, writes, waits}
use Rattle.reference.proofs.Pauses.Hostif.{of_post}
use Rattle.reference.proofs.Pauses.Acquire.{of_locked_bits}
use Rattle.reference.proofs.Pauses.Mdio.{of_read_reg, of_modify, of_probe, of_scan, of_reset, of_abilities, of_advertise, of_an_link}

-- ---- under the lock: anywhere between two actions

module _ (p q : ℕ) where
  -- the Rust's `?`
  on : {A B : Type 0} {b : Bool} {t t' : Call A} {k k' : A → Call B} → Alike p q Anywhere b t t'
      → ((c : Bool) (a : A) → Alike p q Anywhere c (k a) (k' a)) → Alike p q Anywhere b (t >>= k) (t' >>= k')
  on {k = k} {k' = k'} w h = alike_then w (λ c _ r. go c r)
    where
      go : (c : Bool) (r : Res _) → Alike p q Anywhere c (or_stop k r) (or_stop k' r)
      go c (Ok a) = h c a
      go c (Err e) = at_end tt

  writes_on : (b : Bool) (reg v : ℕ) → Alike p q Anywhere b (write reg v) (write reg v)
  writes_on b reg v = at_ask (action.Write reg v) (λ r. at_end tt)

  -- the sideband's wait, which is the only one directly behind a read of IOSF_CTRL
  of_turn : (f f' : ℕ → Call ℕ) → ((v : ℕ) → Alike p q Anywhere false (f v) (f' v))
      → (last : ℕ) (b : Bool) → Alike p q Anywhere b (iosf_turn p f last) (iosf_turn q f' last)
  of_turn f f' w last b = at_ask (action.Read 0x11144) (λ r. go (raw r))
    where
      go : (r : Res ℕ) → Alike p q Anywhere true
          (or_stop (λ v. pick (is_clear v 0x80000000) (return v) (delay p >> f v)) r)
          (or_stop (λ v. pick (is_clear v 0x80000000) (return v) (delay q >> f' v)) r)
      go (Err e) = at_end tt
      go (Ok v) = picks (is_clear v 0x80000000) (at_end tt) (at_ask {b = true} (action.Wait 0) (λ r. w v))

  of_times : (n last : ℕ) (b : Bool) → Alike p q Anywhere b (iosf_times p n last) (iosf_times q n last)
  unfolding times
  of_times zero last b = at_end tt
  of_times (suc n) last b = of_turn (iosf_times p n) (iosf_times q n) (λ v. of_times n v false) last b

  of_idle : (b : Bool) → Alike p q Anywhere b (iosf_idle p) (iosf_idle q)
  unfolding iosf_idle
  of_idle = of_times 100 0

  of_read_body : (address : ℕ) → Alike p q Anywhere false (kr_read_body p address) (kr_read_body q address)
  of_read_body address =
      on (of_idle false)
      (λ b _. on (writes_on b 0x11144 address)
      (λ b _. on (of_idle b)
      (λ b ctrl. picks (is_clear ctrl 0xc0000) (at_ask (action.Read 0x11148) (λ r. at_end tt)) (at_end tt))))

  of_write_body : (address value : ℕ) → Alike p q Anywhere false (kr_write_body p address value) (kr_write_body q address value)
  of_write_body address value =
      on (of_idle false)
      (λ b _. on (writes_on b 0x11144 address)
      (λ b _. on (writes_on b 0x11148 value)
      (λ b _. on (of_idle b)
      (λ b ctrl. picks (is_clear ctrl 0xc0000) (at_end tt) (at_end tt)))))

-- so every wait of `iosf_idle` is one of these
pub idle_paced : (p q : ℕ) (b : Bool) → paced p b (iosf_idle q) ≡ iosf_idle p
idle_paced p q b = alike_paced (of_idle p q b)

-- ---- with accesses

module _ (p q : ℕ) (port : Port) where
  pub of_kr_read : (address : ℕ) → Same p q (kr_read p port address) (kr_read q port address)
  unfolding kr_read
  of_kr_read address = of_locked_bits plain port 6 (omega arith) refl (λ e. omega arith) (of_read_body p q address)

  pub of_kr_write : (address value : ℕ) → Same p q (kr_write p port address value) (kr_write q port address value)
  unfolding kr_write
  of_kr_write address value = of_locked_bits plain port 6 (omega arith) refl (λ e. omega arith) (of_write_body p q address value)

  pub of_kr_modify : (port0 keep set : ℕ) → Same p q (kr_modify p port port0 keep set) (kr_modify q port port0 keep set)
  unfolding kr_modify
  of_kr_modify port0 keep set = bind (of_kr_read (krm port.lan port0)) (λ v. bind (of_kr_write (krm port.lan port0) _) (λ _. ends))

  restart_lane_lem : (lc1 : ℕ) (family : Family) → Same p q (restart_lane p port lc1 family) (restart_lane q port lc1 family)
  restart_lane_lem lc1 X552 = ends
  restart_lane_lem lc1 X553 = bind (of_kr_modify 0x5054 _ _) (λ _. ends)

  pub of_restart : Same p q (restart_an p port) (restart_an q port)
  unfolding restart_an
  of_restart = bind (of_kr_modify 0x420c _ _) (λ lc1. restart_lane_lem lc1 port.family)

  of_restarted : (lc1 : ℕ) → Same p q (restarted p port lc1) (restarted q port lc1)
  of_restarted lc1 = bind of_restart (λ _. ends)

  autoneg_lane_lem : (lc1 : ℕ) (family : Family) → Same p q (kr_autoneg_lane p port lc1 family) (kr_autoneg_lane q port lc1 family)
  autoneg_lane_lem lc1 X552 = of_restarted lc1
  autoneg_lane_lem lc1 X553 = bind (of_kr_modify 0x5054 _ _) (λ _. of_restarted lc1)

  pub of_autoneg : (kr kx : Bool) → Same p q (kr_autoneg p port kr kx) (kr_autoneg q port kr kx)
  unfolding kr_autoneg
  of_autoneg kr kx = bind (of_kr_modify 0x420c _ _) (λ lc1. autoneg_lane_lem lc1 port.family)

  pub of_ixfi : (ten_gig : Bool) → Same p q (ixfi p port ten_gig) (ixfi q port ten_gig)
  unfolding ixfi
  of_ixfi ten_gig =
      bind (of_kr_modify 0x420c _ _)
      (λ lc1. bind (of_kr_modify 0x4b00 _ _)
      (λ _. bind (of_kr_modify 0x4634 _ _)
      (λ _. bind (of_kr_modify 0x4638 _ _)
      (λ _. bind (of_kr_modify 0x5520 _ _)
      (λ _. of_restarted lc1)))))

-- ---- with none

module _ {p q : ℕ} where
  pub of_nvm : (port : Port) (word : ℕ) → Still p q (nvm_word port word)
  unfolding nvm_word
  of_nvm port word =
      of_locked_bits plain port 0x401 (omega arith) refl (λ e. omega arith)
      (anywhere (bind (of_post _) (λ _. bind (raws refl) (λ v. ends))))

  pub of_clock : (fast : Bool) → Still p q (mdio_clock fast)
  of_clock fast = bind (reads refl) (λ v. writes)

  pub of_after_reset : (port : Port) → Still p q (after_reset port)
  unfolding after_reset
  of_after_reset port = picks (eqb port.device 0x15ad) (of_clock false) ends

module _ {p q : ℕ} (port : Port) (veto : Bool) where
  prepare_reset_lem : (phy id sel : ℕ) (unstalled : Bool) → Still p q (prepare_reset port veto phy id sel unstalled)
  prepare_reset_lem phy id sel unstalled = picks veto ends (bind (of_reset port phy true) (λ _. ends))

  prepare_found_lem : (phy id sel : ℕ) → Still p q (prepare_found port veto phy id sel)
  prepare_found_lem phy id sel =
      bind (of_read_reg port phy 1 0xcc02)
      (λ alarms. picks (is_clear alarms 3) (prepare_reset_lem phy id sel false)
      (bind (of_modify port phy 0x1e 0xc479 _ 0) (λ _. prepare_reset_lem phy id sel true)))

  prepare_probed_lem : (sel phy : ℕ) (found : Option ℕ) → Still p q (prepare_probed port veto sel phy found)
  prepare_probed_lem sel phy None = ends
  prepare_probed_lem sel phy (Some id) = prepare_found_lem phy id sel

  prepare_scanned_lem : (sel : ℕ) (found : Option (ℕ × ℕ)) → Still p q (prepare_scanned port veto sel found)
  prepare_scanned_lem sel None = ends
  prepare_scanned_lem sel (Some (phy, id)) = prepare_found_lem phy id sel

  pub of_prepare_copper : Still p q (prepare_copper port veto)
  unfolding prepare_copper
  of_prepare_copper =
      bind (of_clock false)
      (λ _. bind (reads refl)
      (λ sel. picks (eqb sel 0) (bind (of_scan port) (prepare_scanned_lem sel))
      (bind (of_probe port (sel / 2 ^ 3 % 32)) (prepare_probed_lem sel (sel / 2 ^ 3 % 32)))))

  pub of_vetoed : {A : Type 0} {stopped stopped' free free' : Call A} → Same p q stopped stopped' → Same p q free free'
      → Same p q (vetoed veto stopped free) (vetoed veto stopped' free')
  of_vetoed s w = picks veto s (bind (reads refl) (λ mmngc. picks (is_clear mmngc 1) w s))

  copper_advertise_lem : (x : X557) (s : Speeds) → Still p q (copper_advertise port veto x s)
  copper_advertise_lem x s = bind (of_advertise port x.phy s None veto) (λ restarted. ends)

-- ---- what a driver calls

module _ (p q : ℕ) (port : Port) (veto : Bool) where
  pub of_prepare : {A : Type 0} {k k' : Prepared → Call A} → ((x : Prepared) → Same p q (k x) (k' x)) → Same p q (prepare_then port veto k) (prepare_then port veto k')
  of_prepare h = picks (eqb port.device 0x15ad) (bind (of_prepare_copper port veto) (λ x. h (copper x))) (h nothing)

  copper_internal_lem : (x : X557) (s : Speeds) (internal : Internal) → Same p q (copper_internal p port veto x s internal) (copper_internal q port veto x s internal)
  copper_internal_lem x s Kr = copper_advertise_lem port veto x s
  copper_internal_lem x s Ixfi =
      bind (of_ixfi p q port s.g10)
      (λ _. by_turns (λ t. Still p q t) (copper_turn port x.phy (copper_advertise port veto x s)) (copper_advertise port veto x s)
      (λ t w. bind waits
      (λ _. bind (reads {reg = 0x42a4} refl)
      (λ links. picks (is_clear links 0x40000000) w
      (bind (of_an_link port x.phy) (λ up. picks up (copper_advertise_lem port veto x s) w)))))
      (copper_advertise_lem port veto x s) 10)

  of_copper_link : (x : X557) → Same p q (copper_link p port veto x) (copper_link q port veto x)
  unfolding copper_link
  of_copper_link x = bind (of_abilities port x.phy) (λ s. copper_internal_lem x (without100 s) x.internal)

  setup_prepared_lem : (x : Prepared) → Same p q (setup_prepared p port veto x) (setup_prepared q port veto x)
  setup_prepared_lem (copper x) = bind (of_copper_link x) (λ s. ends)
  setup_prepared_lem nothing = picks (eqb port.device 0x15ae) ends (picks (eqb port.device 0x15b0) ends ends)

  pub of_setup : (x : Prepared) → Same p q (setup p port veto x) (setup q port veto x)
  of_setup x =
      picks (eqb port.device 0x15ab) (of_vetoed port veto ends (bind (of_autoneg p q port true true) (λ lc1. ends))) (setup_prepared_lem x)
