-- x553.rs, with no SFP. `pause` is the wait of `iosf_idle`, in microseconds
use Rattle.std.specs.Prelude.{ℕ, Bool, true, false, not, ◌||◌, eqb, Option, None, Some}
use Rattle.std.specs.Int.Bits.{bit_and, bit_or}
use Rattle.hardware.specs.Bits.{inverse}
use Rattle.hardware.specs.Talk.{Call, ◌>>=◌, ◌>>◌, pick, is_clear, read, return, fail}
use Rattle.hardware.specs.declared.Error.TheVariants.{NoPhy}
use Rattle.hardware.specs.declared.Port.{Port}
use Rattle.words.specs.Kr.{krm}
use Rattle.answers.specs.declared.FirmwarePhy.{FirmwarePhy}
use Rattle.answers.specs.declared.Setup553.{Setup553}
use Rattle.answers.specs.declared.Setup553.TheVariants as setupv
use Rattle.answers.specs.declared.Words.{Words}
use Rattle.answers.specs.declared.X557.{X557}
use Rattle.reference.specs.Hostif.{phy_activity}
use Rattle.reference.specs.X552.{kr_modify, kr_write, restart_an, kr_autoneg, mdio_clock, prepare_copper, vetoed}
use Rattle.reference.specs.X552 as x552

-- x553.rs:57
abbrev pub firmware_phy : ℕ → Bool
firmware_phy device = eqb device 0x15e4 || eqb device 0x15e5

abbrev pub slow_device : ℕ → Bool
slow_device device = eqb device 0x15c6 || eqb device 0x15c7 || eqb device 0x15c8 || eqb device 0x15ce

-- x553.rs:61, and what comes after it
abbrev pub set_mdio_speed : {A : Type 0} → ℕ → Call A → Call A
set_mdio_speed device after =
    pick (slow_device device) (mdio_clock false >> after)
    (pick (firmware_phy device) (mdio_clock true >> after) after)

-- x553.rs:73, with no Sfp. A firmware PHY: whether it was reset, and whether it then said that it is down
pub data Prepared : Type 0 where
  nothing : Prepared
  x557 : X557 → Prepared
  firmware : FirmwarePhy → Bool → Bool → Prepared

unfoldable pub phy_info : Words → FirmwarePhy
phy_info info =
    record { id = bit_or (bit_and info.w0 0xffff0000) (bit_and info.w1 0xfff0); speeds = bit_and info.w0 0xfff }

-- x553.rs:114
unfoldable pub setup_fw_link : Port → ℕ → Call Bool
setup_fw_link port speeds =
    do
      out ← phy_activity port 2 (bit_or (bit_or speeds 0x80000) 0x400000) 0 0 0
      return (eqb out.w0 1)

abbrev pub prepare_info : Port → Bool → FirmwarePhy → Call Prepared
prepare_info port veto phy =
    pick (eqb phy.id 0 || eqb phy.id 0xfffffff0) (fail NoPhy)
    (pick veto (return (firmware phy false false))
    (do
      phy_activity port 5 0 0 0 0
      phy_activity port 1 0 0 0 0
      down ← setup_fw_link port phy.speeds
      return (firmware phy true down)))

-- x553.rs:99
unfoldable pub prepare_firmware : Port → Bool → Call Prepared
prepare_firmware port veto =
    do
      info ← phy_activity port 7 0 0 0 0
      prepare_info port veto (phy_info info)

-- what `prepare` does after `set_mdio_speed`
abbrev pub prepare_device : {A : Type 0} → Port → Bool → (Prepared → Call A) → Call A
prepare_device port veto after =
    pick (eqb port.device 0x15c8)
    (do
      x ← prepare_copper port veto
      after (x557 x))
    (pick (firmware_phy port.device)
    (do
      p ← prepare_firmware port veto
      after p)
    (after nothing))

-- x553.rs:84, and what comes after it
abbrev pub prepare_then : {A : Type 0} → Port → Bool → (Prepared → Call A) → Call A
prepare_then port veto after = set_mdio_speed port.device (prepare_device port veto after)

abbrev pub prepare : Port → Bool → Call Prepared
prepare port veto = prepare_then port veto return

-- x553.rs:129
unfoldable pub after_reset : Port → Call (Unit {0})
after_reset port = set_mdio_speed port.device (return tt)

-- x553.rs:211
unfoldable pub sgmii : ℕ → Port → Call Setup553
sgmii pause port =
    do
      lc1 ← kr_modify pause port 0x420c (inverse 32 0x20000700) 0x3200
      forced ← kr_modify pause port 0x42a0 (inverse 32 0) 0x81000
      lane ← kr_modify pause port 0x5054 (inverse 32 0x78000000) 0x26000000
      restart_an pause port
      return (setupv.Sgmii (record { link_ctrl = lc1; sgmii = forced; flx = lane }))

-- x553.rs:225
unfoldable pub sgmii_an : ℕ → Port → Call ℕ
sgmii_an pause port =
    do
      lc1 ← kr_modify pause port 0x420c (inverse 32 0x20000700) 0x3000
      kr_modify pause port 0x42a0 (inverse 32 0x81000) 0
      kr_write pause port (krm port.lan 0x420c) lc1
      flx ← kr_modify pause port 0x5054 (inverse 32 0x78000000) 0x46000000
      restart_an pause port
      return flx

abbrev pub firmware_set : FirmwarePhy → Option ℕ → Bool → Call Setup553
firmware_set phy internal overtemp = return (setupv.Firmware (record { phy = phy; internal = internal; overtemp = overtemp }))

-- too hot: the link is forced down
abbrev pub firmware_down : Port → FirmwarePhy → Option ℕ → Call Setup553
firmware_down port phy internal =
    do
      phy_activity port 4 1 0 0 0
      firmware_set phy internal true

abbrev pub firmware_linked : Port → FirmwarePhy → ℕ → Bool → Call Setup553
firmware_linked port phy flx down =
    pick down (firmware_down port phy (Some flx))
    (do
      info ← phy_activity port 3 0 0 0 0
      pick (is_clear info.w0 0x2000000) (firmware_set phy (Some flx) false) (firmware_down port phy (Some flx)))

abbrev pub firmware_up : ℕ → Port → FirmwarePhy → Call Setup553
firmware_up pause port phy =
    do
      flx ← sgmii_an pause port
      down ← setup_fw_link port phy.speeds
      firmware_linked port phy flx down

-- one that is down already is not set up again
unfoldable pub setup_firmware : ℕ → Port → FirmwarePhy → Bool → Call Setup553
setup_firmware pause port phy down = pick down (firmware_down port phy None) (firmware_up pause port phy)

abbrev pub setup_prepared : ℕ → Port → Bool → Prepared → Call Setup553
setup_prepared pause port veto nothing = fail NoPhy
setup_prepared pause port veto (x557 x) =
    do
      s ← x552.setup pause port veto (x552.copper x)
      return (setupv.X557 s)
setup_prepared pause port veto (firmware phy reset down) =
    pick reset
    (vetoed veto (firmware_set phy None false) (setup_firmware pause port phy down))
    (firmware_set phy None false)

abbrev pub setup_kr : ℕ → Port → Call Setup553
setup_kr pause port =
    do
      lc1 ← kr_autoneg pause port (not (eqb port.device 0x15c3)) true
      return (setupv.Kr lc1)

-- 2.5G backplane is left alone
abbrev pub setup_backplane : ℕ → Port → Bool → Call Setup553
setup_backplane pause port veto =
    do
      sel ← read 0x11178
      pick (is_clear sel 0x100000)
          (vetoed veto (return setupv.ManageabilityVeto) (setup_kr pause port))
          (return (setupv.Kr2500 sel))

-- x553.rs:171
abbrev pub setup : ℕ → Port → Bool → Prepared → Call Setup553
setup pause port veto prepared =
    pick (eqb port.device 0x15c2 || eqb port.device 0x15c3) (setup_backplane pause port veto)
    (pick (eqb port.device 0x15c6 || eqb port.device 0x15c7)
    (vetoed veto (return setupv.ManageabilityVeto) (sgmii pause port))
    (setup_prepared pause port veto prepared))
