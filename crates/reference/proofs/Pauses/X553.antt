-- x553.rs, `Watch` and `bringup` have no sideband wait but in their accesses
use Rattle.std.specs.Prelude.{Option, None, Some}
use Prim.Native.Nat.{ℕ}
use mathlib.Core.Path.{refl}
use mathlib.Core.Bool.{Bool, true, false, not, ◌||◌}
use lib.Dec.{eqb}
use Rattle.hardware.specs.Talk.{Call, is_clear}
use Rattle.hardware.specs.declared.Family.{Family}
use Rattle.hardware.specs.declared.Family.TheVariants as familyv
use Rattle.hardware.specs.declared.Port.{Port}
use Rattle.answers.specs.declared.FirmwarePhy.{FirmwarePhy}
use Rattle.answers.specs.declared.Internal.{Internal}
use Rattle.answers.specs.declared.Internal.TheVariants.{Ixfi, Kr}
use Rattle.reference.specs.Bringup.{bringup552, bringup553, bringup_of, bringup}
use Rattle.reference.specs.Bringup as bringup
use Rattle.reference.specs.Watch.{poll_force}
use Rattle.reference.specs.Window.{Due, due, settle, window_poll}
use Rattle.reference.specs.Window as window
use Rattle.reference.specs.X552 as x552
use Rattle.reference.specs.X553.{
  firmware_phy,
  slow_device,
  set_mdio_speed,
  Prepared,
  nothing,
  x557,
  firmware,
  phy_info,
  setup_fw_link,
  prepare_info,
  prepare_firmware,
  prepare_then,
  after_reset,
  sgmii,
  sgmii_an,
  firmware_down,
  firmware_linked,
  setup_firmware,
  setup_prepared,
  setup_backplane,
  setup,
}
use Rattle.reference.proofs.Alike.{Same, Still, ends, bind, picks, reads}
use Rattle.reference.proofs.Pauses.Hostif.{of_activity}
use Rattle.reference.proofs.Pauses.Mdio.{of_read_reg, of_an_link}
use Rattle.reference.proofs.Pauses.X552.{of_clock, of_prepare_copper, of_kr_write, of_kr_modify, of_restart, of_autoneg, of_ixfi, of_vetoed}
use Rattle.reference.proofs.Pauses.X552 as pauses552

-- ---- with no access

module _ {p q : ℕ} where
  of_speed : {A : Type 0} (device : ℕ) {t t' : Call A} → Same p q t t' → Same p q (set_mdio_speed device t) (set_mdio_speed device t')
  of_speed device w =
      picks (slow_device device) (bind (of_clock false) (λ _. w)) (picks (firmware_phy device) (bind (of_clock true) (λ _. w)) w)

module _ {p q : ℕ} (port : Port) where
  of_after_reset : Still p q (after_reset port)
  unfolding after_reset
  of_after_reset = of_speed port.device ends

  pub of_family_reset : (family : Family) → Still p q (bringup.after_reset port family)
  of_family_reset familyv.X552 = pauses552.of_after_reset port
  of_family_reset familyv.X553 = of_after_reset

  of_fw_link : (speeds : ℕ) → Still p q (setup_fw_link port speeds)
  unfolding setup_fw_link
  of_fw_link speeds = bind (of_activity port 2 _ 0 0 0) (λ out. ends)

  prepare_info_lem : (veto : Bool) (phy : FirmwarePhy) → Still p q (prepare_info port veto phy)
  prepare_info_lem veto phy =
      picks (eqb phy.id 0 || eqb phy.id 0xfffffff0) ends
      (picks veto ends
      (bind (of_activity port 5 0 0 0 0)
      (λ _. bind (of_activity port 1 0 0 0 0)
      (λ _. bind (of_fw_link phy.speeds)
      (λ down. ends)))))

  of_prepare_firmware : (veto : Bool) → Still p q (prepare_firmware port veto)
  unfolding prepare_firmware
  of_prepare_firmware veto = bind (of_activity port 7 0 0 0 0) (λ info. prepare_info_lem veto (phy_info info))

  of_prepare : {A : Type 0} (veto : Bool) {k k' : Prepared → Call A} → ((x : Prepared) → Same p q (k x) (k' x))
      → Same p q (prepare_then port veto k) (prepare_then port veto k')
  of_prepare veto h =
      of_speed port.device
      (picks (eqb port.device 0x15c8) (bind (of_prepare_copper port veto) (λ x. h (x557 x)))
      (picks (firmware_phy port.device) (bind (of_prepare_firmware veto) h) (h nothing)))

  firmware_down_lem : (phy : FirmwarePhy) (internal : Option ℕ) → Still p q (firmware_down port phy internal)
  firmware_down_lem phy internal = bind (of_activity port 4 1 0 0 0) (λ _. ends)

  firmware_linked_lem : (phy : FirmwarePhy) (flx : ℕ) (down : Bool) → Still p q (firmware_linked port phy flx down)
  firmware_linked_lem phy flx down =
      picks down (firmware_down_lem phy (Some flx))
      (bind (of_activity port 3 0 0 0 0)
      (λ info. picks (is_clear info.w0 0x2000000) ends (firmware_down_lem phy (Some flx))))

-- ---- with accesses

module _ (p q : ℕ) (port : Port) where
  of_sgmii : Same p q (sgmii p port) (sgmii q port)
  unfolding sgmii
  of_sgmii =
      bind (of_kr_modify p q port 0x420c _ _)
      (λ lc1. bind (of_kr_modify p q port 0x42a0 _ _)
      (λ forced. bind (of_kr_modify p q port 0x5054 _ _)
      (λ lane. bind (of_restart p q port)
      (λ _. ends))))

  of_sgmii_an : Same p q (sgmii_an p port) (sgmii_an q port)
  unfolding sgmii_an
  of_sgmii_an =
      bind (of_kr_modify p q port 0x420c _ _)
      (λ lc1. bind (of_kr_modify p q port 0x42a0 _ _)
      (λ _. bind (of_kr_write p q port _ lc1)
      (λ _. bind (of_kr_modify p q port 0x5054 _ _)
      (λ flx. bind (of_restart p q port)
      (λ _. ends)))))

  of_setup_firmware : (phy : FirmwarePhy) (down : Bool) → Same p q (setup_firmware p port phy down) (setup_firmware q port phy down)
  unfolding setup_firmware
  of_setup_firmware phy down =
      picks down (firmware_down_lem port phy None)
      (bind of_sgmii_an (λ flx. bind (of_fw_link port phy.speeds) (firmware_linked_lem port phy flx)))

  setup_prepared_lem : (veto : Bool) (x : Prepared) → Same p q (setup_prepared p port veto x) (setup_prepared q port veto x)
  setup_prepared_lem veto nothing = ends
  setup_prepared_lem veto (x557 x) = bind (pauses552.of_setup p q port veto (x552.copper x)) (λ s. ends)
  setup_prepared_lem veto (firmware phy reset down) = picks reset (of_vetoed port veto ends (of_setup_firmware phy down)) ends

  setup_backplane_lem : (veto : Bool) → Same p q (setup_backplane p port veto) (setup_backplane q port veto)
  setup_backplane_lem veto =
      bind (reads refl)
      (λ sel. picks (is_clear sel 0x100000)
      (of_vetoed port veto ends (bind (of_autoneg p q port (not (eqb port.device 0x15c3)) true) (λ lc1. ends))) ends)

  of_setup : (veto : Bool) (x : Prepared) → Same p q (setup p port veto x) (setup q port veto x)
  of_setup veto x =
      picks (eqb port.device 0x15c2 || eqb port.device 0x15c3) (setup_backplane_lem veto)
      (picks (eqb port.device 0x15c6 || eqb port.device 0x15c7) (of_vetoed port veto ends of_sgmii) (setup_prepared_lem veto x))

  bringup_of_lem : (veto : Bool) (family : Family) → Same p q (bringup_of p port veto family) (bringup_of q port veto family)
  bringup_of_lem veto familyv.X552 = pauses552.of_prepare p q port veto {k = bringup552 p port veto} {k' = bringup552 q port veto} (λ x. bind (pauses552.of_setup p q port veto x) (λ s. ends))
  bringup_of_lem veto familyv.X553 = of_prepare port veto {k = bringup553 p port veto} {k' = bringup553 q port veto} (λ x. bind (of_setup veto x) (λ s. ends))

  pub of_bringup : (veto : Bool) → Same p q (bringup p port veto) (bringup q port veto)
  unfolding bringup
  of_bringup veto = bringup_of_lem veto port.family

  poll_force_lem : (reforced status megabits : ℕ) (internal : Internal) → Same p q (poll_force p port reforced status megabits internal) (poll_force q port reforced status megabits internal)
  poll_force_lem reforced status megabits Kr = bind (of_autoneg p q port true true) (λ _. ends)
  poll_force_lem reforced status megabits Ixfi = bind (of_ixfi p q port (eqb megabits 10000)) (λ _. ends)

  settle_lem : (inside : Bool) (internal : Internal) (forced : Option ℕ) (reforced : ℕ) (d : Due)
      → Same p q (settle inside p port internal forced reforced d) (settle inside q port internal forced reforced d)
  settle_lem inside internal forced reforced (window.nothing seen) = ends
  settle_lem inside internal forced reforced (window.force status megabits) = picks inside ends (poll_force_lem reforced status megabits internal)

  of_due : (phy : ℕ) (forced : Option ℕ) (reforced : ℕ) → Same p q (due port phy forced reforced) (due port phy forced reforced)
  unfolding due
  of_due phy forced reforced =
      bind (of_an_link port phy)
      (λ up. picks up (bind (of_read_reg port phy 7 0xc800) (λ v. bind (of_an_link port phy) (λ up. ends))) ends)

  pub of_window_poll : (inside : Bool) (phy : ℕ) (internal : Internal) (forced : Option ℕ) (reforced : ℕ)
      → Same p q (window_poll inside p port phy internal forced reforced) (window_poll inside q port phy internal forced reforced)
  unfolding window_poll
  of_window_poll inside phy internal forced reforced = bind (of_due phy forced reforced) (settle_lem inside internal forced reforced)
