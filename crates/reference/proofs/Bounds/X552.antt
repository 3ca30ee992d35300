-- x552.rs: actions and microseconds at the most, for a pause of up to 100 microseconds
use Rattle.std.specs.Prelude.{Ok, Option, None, Some}
use Prim.Native.Nat.{ℕ, ◌+◌, ◌/◌, ◌%◌, ◌^◌, ◌≤◌}
use mathlib.Core.Path.{refl}
use mathlib.Core.Bool.{Bool, true, false}
use mathlib.Core.List.{[], ◌∷◌}
use native.Mathlib.Omega.{arith}
use lib.Dec.{eqb}
use Rattle.hardware.specs.Bound.{Within, at_end}
use Rattle.hardware.specs.Talk.{Call, is_clear, fail}
use Rattle.hardware.specs.declared.Error.TheVariants.{Timeout}
use Rattle.hardware.specs.declared.Family.{Family}
use Rattle.hardware.specs.declared.Family.TheVariants.{X552, X553}
use Rattle.hardware.specs.declared.Port.{Port}
use Rattle.hardware.proofs.Bounds.{within_more, within_pick, within_times}
use Rattle.words.specs.Hostif.{nvm_address}
use Rattle.answers.specs.declared.CopperSetup.{CopperSetup}
use Rattle.answers.specs.declared.Internal.{Internal}
use Rattle.answers.specs.declared.Internal.TheVariants.{Ixfi, Kr}
use Rattle.answers.specs.declared.Speeds.{Speeds}
use Rattle.answers.specs.declared.X557.{X557}
use Rattle.reference.specs.Sync.{plain}
use Rattle.reference.specs.X552.{
  iosf_turn,
  iosf_idle,
  kr_read_body,
  kr_read,
  kr_write_body,
  kr_write,
  kr_modify,
  restart_lane,
  restart_an,
  restarted,
  kr_autoneg_lane,
  kr_autoneg,
  ixfi,
  nvm_body,
  nvm_word,
  mdio_clock,
  prepare_reset,
  prepare_alarms,
  prepare_found,
  prepare_probed,
  prepare_scanned,
  prepare_sel,
  prepare_copper,
  Prepared,
  nothing,
  copper,
  after_reset,
  without100,
  copper_advertise,
  copper_turn,
  copper_internal,
  copper_link,
  setup_kr,
  setup_prepared,
  vetoed,
  setup,
}
use Rattle.reference.proofs.Within.{of_read, of_raw, of_write, of_delay, of_end, of_bind, of_carry}
use Rattle.reference.proofs.Bounds.Hostif.{of_post}
use Rattle.reference.proofs.Bounds.Acquire.{of_locked_bits}
use Rattle.reference.proofs.Bounds.Mdio.{of_read_reg, of_modify, of_probe, of_scan, of_reset, of_abilities, of_advertise, of_an_link}

module _ (pause : ℕ) (short : pause ≤ 100) where
  iosf_turn_lem : (f : ℕ → Call ℕ) (n m : ℕ) → ((last : ℕ) → Within (f last) n m) → (last : ℕ) → Within (iosf_turn pause f last) (2 + n) (100 + m)
  iosf_turn_lem f n m w _ =
      within_more (omega arith) (omega arith)
      (of_bind (of_raw 0x11144) (λ v. within_pick (is_clear v 0x80000000) (at_end {a = Ok v}) (of_bind (of_delay pause) (λ _. w v))))

  of_idle : Within (iosf_idle pause) 200 10000
  unfolding iosf_idle
  of_idle = of_carry (iosf_turn pause) (λ last. fail (Timeout 0x11144 0x80000000 0 last)) 2 100 100 0 0 iosf_turn_lem (λ last. at_end) 0

module _ (pause : ℕ) (short : pause ≤ 100) (port : Port) where
  read_body_lem : (address : ℕ) → Within (kr_read_body pause address) 402 20000
  read_body_lem address =
      of_bind (of_idle pause short)
      (λ _. of_bind (of_write 0x11144 address)
      (λ _. of_bind (of_idle pause short)
      (λ ctrl. within_pick (is_clear ctrl 0xc0000) (of_raw 0x11148) at_end)))

  write_body_lem : (address value : ℕ) → Within (kr_write_body pause address value) 402 20000
  write_body_lem address value =
      of_bind (of_idle pause short)
      (λ _. of_bind (of_write 0x11144 address)
      (λ _. of_bind (of_write 0x11148 value)
      (λ _. of_bind (of_idle pause short)
      (λ ctrl. within_pick (is_clear ctrl 0xc0000) of_end of_end))))

  -- one access
  pub of_kr_read : (address : ℕ) → Within (kr_read pause port address) 8021416 205222000
  unfolding kr_read
  of_kr_read address = of_locked_bits plain port 6 (omega arith) refl (λ e. omega arith) (read_body_lem address)

  pub of_kr_write : (address value : ℕ) → Within (kr_write pause port address value) 8021416 205222000
  unfolding kr_write
  of_kr_write address value = of_locked_bits plain port 6 (omega arith) refl (λ e. omega arith) (write_body_lem address value)

  -- two
  pub of_kr_modify : (port0 keep set : ℕ) → Within (kr_modify pause port port0 keep set) 16042832 410444000
  unfolding kr_modify
  of_kr_modify port0 keep set = of_bind (of_kr_read _) (λ v. of_bind (of_kr_write _ _) (λ _. of_end))

  restart_lane_lem : (lc1 : ℕ) (family : Family) → Within (restart_lane pause port lc1 family) 16042832 410444000
  restart_lane_lem lc1 X552 = at_end
  restart_lane_lem lc1 X553 = of_bind (of_kr_modify 0x5054 _ _) (λ _. of_end)

  -- four
  pub of_restart : Within (restart_an pause port) 32085664 820888000
  unfolding restart_an
  of_restart = of_bind (of_kr_modify 0x420c _ _) (λ lc1. restart_lane_lem lc1 port.family)

  pub of_restarted : (lc1 : ℕ) → Within (restarted pause port lc1) 32085664 820888000
  of_restarted lc1 = of_bind of_restart (λ _. of_end)

  autoneg_lane_lem : (lc1 : ℕ) (family : Family) → Within (kr_autoneg_lane pause port lc1 family) 48128496 1231332000
  autoneg_lane_lem lc1 X552 = within_more (omega arith) (omega arith) (of_restarted lc1)
  autoneg_lane_lem lc1 X553 = of_bind (of_kr_modify 0x5054 _ _) (λ _. of_restarted lc1)

  -- eight
  pub of_autoneg : (kr kx : Bool) → Within (kr_autoneg pause port kr kx) 64171328 1641776000
  unfolding kr_autoneg
  of_autoneg kr kx = of_bind (of_kr_modify 0x420c _ _) (λ lc1. autoneg_lane_lem lc1 port.family)

  -- fourteen
  pub of_ixfi : (ten_gig : Bool) → Within (ixfi pause port ten_gig) 112299824 2873108000
  unfolding ixfi
  of_ixfi ten_gig =
      of_bind (of_kr_modify 0x420c _ _)
      (λ lc1. of_bind (of_kr_modify 0x4b00 _ _)
      (λ _. of_bind (of_kr_modify 0x4634 _ _)
      (λ _. of_bind (of_kr_modify 0x4638 _ _)
      (λ _. of_bind (of_kr_modify 0x5520 _ _)
      (λ _. of_restarted lc1)))))

nvm_body_lem : (word : ℕ) → Within (nvm_body word) 100009 500000
nvm_body_lem word = of_bind (of_post (0xff060031 ∷ nvm_address word ∷ 0x200 ∷ 0 ∷ [])) (λ _. of_bind (of_raw 0x1580c) (λ v. of_end))

pub of_nvm : (port : Port) (word : ℕ) → Within (nvm_word port word) 8121023 205702000
unfolding nvm_word
of_nvm port word = of_locked_bits plain port 0x401 (omega arith) refl (λ e. omega arith) (nvm_body_lem word)

pub of_clock : (fast : Bool) → Within (mdio_clock fast) 2 0
of_clock fast = of_bind (of_read 0x4240) (λ v. of_write 0x4240 _)

pub of_after_reset : (port : Port) → Within (after_reset port) 2 0
unfolding after_reset
of_after_reset port = within_pick (eqb port.device 0x15ad) (of_clock false) at_end

module _ (port : Port) (veto : Bool) where
  prepare_reset_lem : (phy id sel : ℕ) (unstalled : Bool) → Within (prepare_reset port veto phy id sel unstalled) 1001314229184 25489127172060
  prepare_reset_lem phy id sel unstalled = within_pick veto at_end (of_bind (of_reset port phy true) (λ _. of_end))

  prepare_alarms_lem : (phy id sel alarms : ℕ) → Within (prepare_alarms port veto phy id sel alarms) 1033614688188 26311356984060
  prepare_alarms_lem phy id sel alarms =
      within_pick (is_clear alarms 3) (within_more (omega arith) (omega arith) (prepare_reset_lem phy id sel false))
      (of_bind (of_modify port phy 0x1e 0xc479 _ 0) (λ _. prepare_reset_lem phy id sel true))

  prepare_found_lem : (phy id sel : ℕ) → Within (prepare_found port veto phy id sel) 1049764917690 26722471890060
  prepare_found_lem phy id sel = of_bind (of_read_reg port phy 1 0xcc02) (prepare_alarms_lem phy id sel)

  prepare_probed_lem : (sel phy : ℕ) (found : Option ℕ) → Within (prepare_probed port veto sel phy found) 1049764917690 26722471890060
  prepare_probed_lem sel phy None = at_end
  prepare_probed_lem sel phy (Some id) = prepare_found_lem phy id sel

  prepare_scanned_lem : (sel : ℕ) (found : Option (ℕ × ℕ)) → Within (prepare_scanned port veto sel found) 1049764917690 26722471890060
  prepare_scanned_lem sel None = at_end
  prepare_scanned_lem sel (Some (phy, id)) = prepare_found_lem phy id sel

  prepare_sel_lem : (sel : ℕ) → Within (prepare_sel port veto sel) 2083379605818 53033825874060
  prepare_sel_lem sel =
      within_pick (eqb sel 0) (of_bind (of_scan port) (prepare_scanned_lem sel))
      (within_more (omega arith) (omega arith) (of_bind (of_probe port (sel / 2 ^ 3 % 32)) (prepare_probed_lem sel (sel / 2 ^ 3 % 32))))

  pub of_prepare_copper : Within (prepare_copper port veto) 2083379605821 53033825874060
  unfolding prepare_copper
  of_prepare_copper = of_bind (of_clock false) (λ _. of_bind (of_read 0x11178) prepare_sel_lem)

  copper_advertise_lem : (x : X557) (s : Speeds) → Within (copper_advertise port veto x s) 129201836016 3288919248000
  copper_advertise_lem x s = of_bind (of_advertise port x.phy s None veto) (λ restarted. of_end)

  copper_turn_lem : (x : X557) (s : Speeds) (t : Call CopperSetup) (n m : ℕ) → Within t n m
      → Within (copper_turn port x.phy (copper_advertise port veto x s) t) (161502295022 + n) (4111149160000 + m)
  copper_turn_lem x s t n m w =
      within_more (omega arith) (omega arith)
      (of_bind (of_delay 100000)
      (λ _. of_bind (of_read 0x42a4)
      (λ links. within_pick (is_clear links 0x40000000) (within_more (omega arith) (omega arith) w)
      (of_bind (of_an_link port x.phy) (λ up. within_pick up done more)))))
    where
      more : Within t (129201836016 + n) (3288919248000 + m)
      more = within_more (omega arith) (omega arith) w

      done : Within (copper_advertise port veto x s) (129201836016 + n) (3288919248000 + m)
      done = within_more (omega arith) (omega arith) (copper_advertise_lem x s)

module _ (pause : ℕ) (short : pause ≤ 100) (port : Port) (veto : Bool) where
  copper_internal_lem : (x : X557) (s : Speeds) (internal : Internal) → Within (copper_internal pause port veto x s internal) 1744337086060 44403283956000
  copper_internal_lem x s Kr = within_more (omega arith) (omega arith) (copper_advertise_lem port veto x s)
  copper_internal_lem x s Ixfi =
      of_bind (of_ixfi pause short port s.g10)
      (λ _. within_times (copper_turn port x.phy (copper_advertise port veto x s)) (copper_advertise port veto x s)
      161502295022 4111149160000 10 129201836016 3288919248000 (copper_turn_lem port veto x s) (copper_advertise_lem port veto x s))

  of_copper_link : (x : X557) → Within (copper_link pause port veto x) 1760487315562 44814398862000
  unfolding copper_link
  of_copper_link x = of_bind (of_abilities port x.phy) (λ s. copper_internal_lem x (without100 s) x.internal)

  of_setup_kr : Within (setup_kr pause port) 64171328 1641776000
  of_setup_kr = of_bind (of_autoneg pause short port true true) (λ lc1. of_end)

  setup_prepared_lem : (p : Prepared) → Within (setup_prepared pause port veto p) 1760487315562 44814398862000
  setup_prepared_lem (copper x) = of_bind (of_copper_link x) (λ s. of_end)
  setup_prepared_lem nothing = within_pick (eqb port.device 0x15ae) at_end (within_pick (eqb port.device 0x15b0) at_end at_end)

  pub of_vetoed : {A : Type 0} {stopped free : Call A} {n m : ℕ} → Within stopped n m → Within free n m → Within (vetoed veto stopped free) (1 + n) m
  of_vetoed {n = n} {m = m} s f =
      within_pick veto (within_more {n = n} {m = m} (omega arith) (omega arith) s)
      (within_more (omega arith) (omega arith) (of_bind (of_read 0x42d0) (λ mmngc. within_pick (is_clear mmngc 1) f s)))

  pub of_setup : (p : Prepared) → Within (setup pause port veto p) 1760487315562 44814398862000
  of_setup p =
      within_pick (eqb port.device 0x15ab) (within_more (omega arith) (omega arith) (of_vetoed at_end of_setup_kr)) (setup_prepared_lem p)
