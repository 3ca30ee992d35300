-- x553.rs and `Watch`: actions and microseconds at the most, for a pause of up to 100 microseconds
use Rattle.std.specs.Prelude.{Option, None, Some}
use Prim.Native.Nat.{ℕ, ◌+◌, ◌≤◌}
use mathlib.Core.Bool.{Bool, true, false, not, ◌||◌}
use native.Mathlib.Omega.{arith}
use lib.Dec.{eqb}
use Rattle.hardware.specs.Bound.{Within, at_end}
use Rattle.hardware.specs.Talk.{Call, is_clear}
use Rattle.hardware.specs.declared.Port.{Port}
use Rattle.hardware.proofs.Bounds.{within_more, within_pick}
use Rattle.answers.specs.declared.FirmwarePhy.{FirmwarePhy}
use Rattle.answers.specs.declared.Internal.{Internal}
use Rattle.answers.specs.declared.Internal.TheVariants.{Ixfi, Kr}
use Rattle.reference.specs.X552 as x552
use Rattle.reference.specs.X553.{
  firmware_phy,
  slow_device,
  set_mdio_speed,
  Prepared,
  nothing,
  x557,
  firmware,
  phy_info,
  setup_fw_link,
  prepare_info,
  prepare_firmware,
  prepare_device,
  prepare_then,
  after_reset,
  sgmii,
  sgmii_an,
  firmware_down,
  firmware_linked,
  setup_firmware,
  setup_prepared,
  setup_kr,
  setup_backplane,
  setup,
}
use Rattle.reference.specs.Watch.{poll_force}
use Rattle.reference.specs.Window.{Due, due, settle, window_poll}
use Rattle.reference.specs.Window as window
use Rattle.reference.proofs.Within.{of_read, of_end, of_bind}
use Rattle.reference.proofs.Bounds.Hostif.{of_activity}
use Rattle.reference.proofs.Bounds.Mdio.{of_read_reg, of_an_link}
use Rattle.reference.proofs.Bounds.X552.{of_clock, of_prepare_copper, of_kr_write, of_kr_modify, of_restart, of_autoneg, of_ixfi, of_vetoed}
use Rattle.reference.proofs.Bounds.X552 as bound552

of_speed : {A : Type 0} (device : ℕ) {t : Call A} {n m : ℕ} → Within t n m → Within (set_mdio_speed device t) (2 + n) m
of_speed device {n = n} {m = m} w =
    within_pick (slow_device device) (within_more (omega arith) (omega arith) (of_bind (of_clock false) (λ _. w)))
    (within_pick (firmware_phy device) (within_more (omega arith) (omega arith) (of_bind (of_clock true) (λ _. w)))
    (within_more {n = n} {m = m} (omega arith) (omega arith) w))

pub of_after_reset : (port : Port) → Within (after_reset port) 2 0
unfolding after_reset
of_after_reset port = of_speed port.device of_end

of_fw_link : (port : Port) (speeds : ℕ) → Within (setup_fw_link port speeds) 406054500 10285101000
unfolding setup_fw_link
of_fw_link port speeds = of_bind (of_activity port 2 _ 0 0 0) (λ out. of_end)

prepare_info_lem : (port : Port) (veto : Bool) (phy : FirmwarePhy) → Within (prepare_info port veto phy) 1218163500 30855303000
prepare_info_lem port veto phy =
    within_pick (eqb phy.id 0 || eqb phy.id 0xfffffff0) at_end
    (within_pick veto at_end
    (of_bind (of_activity port 5 0 0 0 0)
    (λ _. of_bind (of_activity port 1 0 0 0 0)
    (λ _. of_bind (of_fw_link port phy.speeds)
    (λ down. of_end)))))

of_prepare_firmware : (port : Port) (veto : Bool) → Within (prepare_firmware port veto) 1624218000 41140404000
unfolding prepare_firmware
of_prepare_firmware port veto = of_bind (of_activity port 7 0 0 0 0) (λ info. prepare_info_lem port veto (phy_info info))

pub of_prepare : {A : Type 0} (port : Port) (veto : Bool) {k : Prepared → Call A} {n m : ℕ} → ((p : Prepared) → Within (k p) n m)
    → Within (prepare_then port veto k) (2083379605823 + n) (53033825874060 + m)
of_prepare port veto {k = k} {n = n} {m = m} h = within_more (omega arith) (omega arith) (of_speed port.device device)
  where
    device : Within (prepare_device port veto k) (2083379605821 + n) (53033825874060 + m)
    device =
        within_pick (eqb port.device 0x15c8) (of_bind (of_prepare_copper port veto) (λ x. h (x557 x)))
        (within_pick (firmware_phy port.device) (within_more (omega arith) (omega arith) (of_bind (of_prepare_firmware port veto) h))
        (within_more {n = n} {m = m} (omega arith) (omega arith) (h nothing)))

firmware_down_lem : (port : Port) (phy : FirmwarePhy) (internal : Option ℕ) → Within (firmware_down port phy internal) 406054500 10285101000
firmware_down_lem port phy internal = of_bind (of_activity port 4 1 0 0 0) (λ _. of_end)

firmware_linked_lem : (port : Port) (phy : FirmwarePhy) (flx : ℕ) (down : Bool) → Within (firmware_linked port phy flx down) 812109000 20570202000
firmware_linked_lem port phy flx down =
    within_pick down (within_more (omega arith) (omega arith) (firmware_down_lem port phy (Some flx)))
    (of_bind (of_activity port 3 0 0 0 0)
    (λ info. within_pick (is_clear info.w0 0x2000000) at_end (firmware_down_lem port phy (Some flx))))

module _ (pause : ℕ) (short : pause ≤ 100) (port : Port) where
  of_sgmii : Within (sgmii pause port) 80214160 2052220000
  unfolding sgmii
  of_sgmii =
      of_bind (of_kr_modify pause short port 0x420c _ _)
      (λ lc1. of_bind (of_kr_modify pause short port 0x42a0 _ _)
      (λ forced. of_bind (of_kr_modify pause short port 0x5054 _ _)
      (λ lane. of_bind (of_restart pause short port)
      (λ _. of_end))))

  of_sgmii_an : Within (sgmii_an pause port) 88235576 2257442000
  unfolding sgmii_an
  of_sgmii_an =
      of_bind (of_kr_modify pause short port 0x420c _ _)
      (λ lc1. of_bind (of_kr_modify pause short port 0x42a0 _ _)
      (λ _. of_bind (of_kr_write pause short port _ lc1)
      (λ _. of_bind (of_kr_modify pause short port 0x5054 _ _)
      (λ flx. of_bind (of_restart pause short port)
      (λ _. of_end)))))

  of_setup_firmware : (phy : FirmwarePhy) (down : Bool) → Within (setup_firmware pause port phy down) 1306399076 33112745000
  unfolding setup_firmware
  of_setup_firmware phy down =
      within_pick down (within_more (omega arith) (omega arith) (firmware_down_lem port phy None))
      (of_bind of_sgmii_an (λ flx. of_bind (of_fw_link port phy.speeds) (firmware_linked_lem port phy flx)))

  setup_prepared_lem : (veto : Bool) (p : Prepared) → Within (setup_prepared pause port veto p) 1760487315562 44814398862000
  setup_prepared_lem veto nothing = at_end
  setup_prepared_lem veto (x557 x) = of_bind (bound552.of_setup pause short port veto (x552.copper x)) (λ s. of_end)
  setup_prepared_lem veto (firmware phy reset down) =
      within_pick reset (within_more (omega arith) (omega arith) (of_vetoed pause short port veto at_end (of_setup_firmware phy down))) at_end

  setup_kr_lem : Within (setup_kr pause port) 64171328 1641776000
  setup_kr_lem = of_bind (of_autoneg pause short port (not (eqb port.device 0x15c3)) true) (λ lc1. of_end)

  setup_backplane_lem : (veto : Bool) → Within (setup_backplane pause port veto) 64171330 1641776000
  setup_backplane_lem veto =
      of_bind (of_read 0x11178)
      (λ sel. within_pick (is_clear sel 0x100000) (of_vetoed pause short port veto at_end setup_kr_lem) at_end)

  pub of_setup : (veto : Bool) (p : Prepared) → Within (setup pause port veto p) 1760487315562 44814398862000
  of_setup veto p =
      within_pick (eqb port.device 0x15c2 || eqb port.device 0x15c3) (within_more (omega arith) (omega arith) (setup_backplane_lem veto))
      (within_pick (eqb port.device 0x15c6 || eqb port.device 0x15c7)
      (within_more (omega arith) (omega arith) (of_vetoed pause short port veto at_end of_sgmii))
      (setup_prepared_lem veto p))

  poll_force_lem : (reforced status megabits : ℕ) (internal : Internal) → Within (poll_force pause port reforced status megabits internal) 112299824 2873108000
  poll_force_lem reforced status megabits Kr =
      within_more (omega arith) (omega arith) (of_bind (of_autoneg pause short port true true) (λ _. of_end))
  poll_force_lem reforced status megabits Ixfi = of_bind (of_ixfi pause short port (eqb megabits 10000)) (λ _. of_end)

  settle_lem : (inside : Bool) (internal : Internal) (forced : Option ℕ) (reforced : ℕ) (d : Due)
      → Within (settle inside pause port internal forced reforced d) 112299824 2873108000
  settle_lem inside internal forced reforced (window.nothing p) = at_end
  settle_lem inside internal forced reforced (window.force status megabits) =
      within_pick inside at_end (poll_force_lem reforced status megabits internal)

  of_due : (phy : ℕ) (forced : Option ℕ) (reforced : ℕ) → Within (due port phy forced reforced) 80751147510 2055574530000
  unfolding due
  of_due phy forced reforced =
      of_bind (of_an_link port phy)
      (λ up. within_pick up (of_bind (of_read_reg port phy 7 0xc800) (λ v. of_bind (of_an_link port phy) (λ up. of_end))) at_end)

  pub of_window_poll : (inside : Bool) (phy : ℕ) (internal : Internal) (forced : Option ℕ) (reforced : ℕ)
      → Within (window_poll inside pause port phy internal forced reforced) 80863447334 2058447638000
  unfolding window_poll
  of_window_poll inside phy internal forced reforced = of_bind (of_due phy forced reforced) (settle_lem inside internal forced reforced)
