-- x553.rs keeps the rules
use Rattle.std.specs.Prelude.{None, Option, Some}
use Rattle.hardware.specs.Talk.{Call, is_clear}
use Prim.Native.Nat.{ℕ}
use native.Mathlib.Omega.{arith}
use mathlib.Core.Bool.{Bool, true, false, ◌||◌}
use lib.Dec.{eqb}
use Rattle.hardware.specs.declared.Port.{Port}
use Rattle.words.specs.Kr.{krm}
use Rattle.answers.specs.declared.FirmwarePhy.{FirmwarePhy}
use Rattle.reference.specs.X552 as x552
use Rattle.reference.specs.X553.{
  firmware_phy,
  slow_device,
  set_mdio_speed,
  Prepared,
  nothing,
  x557,
  firmware,
  phy_info,
  setup_fw_link,
  prepare_info,
  prepare_firmware,
  prepare_device,
  prepare_then,
  after_reset,
  sgmii,
  sgmii_an,
  firmware_down,
  firmware_linked,
  setup_firmware,
  setup_prepared,
  setup_backplane,
  setup,
}
use Rattle.mixing.specs.Events.{is_ok}
use Rattle.mixing.proofs.Addressed.{on_lan}
use Rattle.mixing.proofs.Hostif.{s_activity}
use Rattle.mixing.proofs.Kr.{writes_kr}
use Rattle.mixing.proofs.Only.{far}
use Rattle.mixing.proofs.Sound.{Sound, ends, picks, bind}
use Rattle.mixing.proofs.X552.{s_read, s_clock, s_prepare_copper, s_vetoed, s_kr_named, s_restart, s_autoneg}
use Rattle.mixing.proofs.X552 as sound552

module _ (port : Port) where
  s_mdio_speed : {A : Type 0} {after : Call A} (device : ℕ) → Sound port.family is_ok after → Sound port.family is_ok (set_mdio_speed device after)
  s_mdio_speed device h =
      picks (slow_device device) (bind (s_clock port false) (λ _. h)) (picks (firmware_phy device) (bind (s_clock port true) (λ _. h)) h)

  pub s_after_reset : Sound port.family is_ok (after_reset port)
  unfolding after_reset
  s_after_reset = s_mdio_speed port.device ends

  s_fw_link : (speeds : ℕ) → Sound port.family is_ok (setup_fw_link port speeds)
  unfolding setup_fw_link
  s_fw_link speeds = bind (s_activity port 2 _ 0 0 0) (λ out. ends)

  s_info : (veto : Bool) (phy : FirmwarePhy) → Sound port.family is_ok (prepare_info port veto phy)
  s_info veto phy =
      picks (eqb phy.id 0 || eqb phy.id 0xfffffff0) ends
      (picks veto ends
      (bind (s_activity port 5 0 0 0 0) (λ _. bind (s_activity port 1 0 0 0 0) (λ _. bind (s_fw_link phy.speeds) (λ down. ends)))))

  s_prepare_firmware : (veto : Bool) → Sound port.family is_ok (prepare_firmware port veto)
  unfolding prepare_firmware
  s_prepare_firmware veto = bind (s_activity port 7 0 0 0 0) (λ info. s_info veto (phy_info info))

  pub s_prepare : {A : Type 0} {after : Prepared → Call A} (veto : Bool) → ((p : Prepared) → Sound port.family is_ok (after p))
      → Sound port.family is_ok (prepare_then port veto after)
  s_prepare {after = after} veto h = s_mdio_speed port.device device
    where
      device : Sound port.family is_ok (prepare_device port veto after)
      device =
          picks (eqb port.device 0x15c8) (bind (s_prepare_copper port veto) (λ x. h (x557 x)))
          (picks (firmware_phy port.device) (bind (s_prepare_firmware veto) h) (h nothing))

  s_down : (phy : FirmwarePhy) (internal : Option ℕ) → Sound port.family is_ok (firmware_down port phy internal)
  s_down phy internal = bind (s_activity port 4 1 0 0 0) (λ _. ends)

  s_linked : (phy : FirmwarePhy) (flx : ℕ) (down : Bool) → Sound port.family is_ok (firmware_linked port phy flx down)
  s_linked phy flx down =
      picks down (s_down phy (Some flx))
      (bind (s_activity port 3 0 0 0 0) (λ info. picks (is_clear info.w0 0x2000000) ends (s_down phy (Some flx))))

module _ (port : Port) where
  s_sgmii : Sound port.family is_ok (sgmii port.pause port)
  unfolding sgmii
  s_sgmii =
      bind (s_kr_named port 0x420c _ _ (omega arith))
      (λ lc1. bind (s_kr_named port 0x42a0 _ _ (omega arith))
      (λ forced. bind (s_kr_named port 0x5054 _ _ (omega arith))
      (λ lane. bind (s_restart port) (λ _. ends))))

  s_sgmii_an : Sound port.family is_ok (sgmii_an port.pause port)
  unfolding sgmii_an
  s_sgmii_an =
      bind (s_kr_named port 0x420c _ _ (omega arith))
      (λ lc1. bind (s_kr_named port 0x42a0 _ _ (omega arith))
      (λ _. bind (writes_kr port (krm port.lan 0x420c) lc1 (on_lan port.lan 0x420c (omega arith)))
      (λ _. bind (s_kr_named port 0x5054 _ _ (omega arith))
      (λ flx. bind (s_restart port) (λ _. ends)))))

  s_firmware : (phy : FirmwarePhy) (down : Bool) → Sound port.family is_ok (setup_firmware port.pause port phy down)
  unfolding setup_firmware
  s_firmware phy down =
      picks down (s_down port phy None)
      (bind s_sgmii_an (λ flx. bind (s_fw_link port phy.speeds) (λ d. s_linked port phy flx d)))

  s_setup_prepared : (veto : Bool) (p : Prepared) → Sound port.family is_ok (setup_prepared port.pause port veto p)
  s_setup_prepared veto nothing = ends
  s_setup_prepared veto (x557 x) = bind (sound552.s_setup port veto (x552.copper x)) (λ s. ends)
  s_setup_prepared veto (firmware phy reset down) = picks reset (s_vetoed port veto ends (s_firmware phy down)) ends

  s_backplane : (veto : Bool) → Sound port.family is_ok (setup_backplane port.pause port veto)
  s_backplane veto =
      bind (s_read (far 0x11178 tt tt port.family))
      (λ sel. picks (is_clear sel 0x100000) (s_vetoed port veto ends (bind (s_autoneg port _ true) (λ lc1. ends))) ends)

  pub s_setup : (veto : Bool) (p : Prepared) → Sound port.family is_ok (setup port.pause port veto p)
  s_setup veto p =
      picks (eqb port.device 0x15c2 || eqb port.device 0x15c3) (s_backplane veto)
      (picks (eqb port.device 0x15c6 || eqb port.device 0x15c7) (s_vetoed port veto ends s_sgmii) (s_setup_prepared veto p))
