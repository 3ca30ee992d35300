-- x552.rs, with no SFP; `Watch` is in Watch.antt. `pause` is the wait of `iosf_idle`, in microseconds
use Rattle.std.specs.Prelude.{ℕ, ◌/◌, ◌%◌, ◌^◌, Bool, true, false, [], ◌∷◌, eqb, Option, None, Some}
use Rattle.std.specs.Int.Bits.{bit_or}
use Rattle.hardware.specs.Bits.{without, inverse}
use Rattle.hardware.specs.Talk.{Call, ◌>>=◌, ◌>>◌, times, pick, is_clear, read, read_raw, write, delay, return, fail}
use Rattle.hardware.specs.declared.Error.TheVariants.{Timeout, Sideband, NoPhy}
use Rattle.hardware.specs.declared.Family.{Family}
use Rattle.hardware.specs.declared.Family.TheVariants.{X552, X553}
use Rattle.hardware.specs.declared.Port.{Port}
use Rattle.words.specs.Hostif.{nvm_address}
use Rattle.words.specs.Kr.{krm}
use Rattle.answers.specs.declared.CopperSetup.{CopperSetup}
use Rattle.answers.specs.declared.Internal.{Internal}
use Rattle.answers.specs.declared.Internal.TheVariants.{Ixfi, Kr}
use Rattle.answers.specs.declared.Setup552.{Setup552}
use Rattle.answers.specs.declared.Setup552.TheVariants as setupv
use Rattle.answers.specs.declared.Speeds.{Speeds}
use Rattle.answers.specs.declared.X557.{X557}
use Rattle.reference.specs.Sync.{plain}
use Rattle.reference.specs.Hostif.{post}
use Rattle.reference.specs.Acquire.{locked}
use Rattle.reference.specs.Mdio.{read_reg, modify, changed, probe, scan, reset, abilities, advertise, an_link}

-- raw reads: all ones is busy
abbrev pub iosf_turn : ℕ → (ℕ → Call ℕ) → ℕ → Call ℕ
iosf_turn pause again _ =
    do
      last ← read_raw 0x11144
      pick (is_clear last 0x80000000) (return last) (delay pause >> again last)

abbrev pub iosf_times : ℕ → ℕ → ℕ → Call ℕ
iosf_times pause n = times n (iosf_turn pause) (λ last. fail (Timeout 0x11144 0x80000000 0 last))

-- x552.rs:114
unfoldable pub iosf_idle : ℕ → Call ℕ
iosf_idle pause = iosf_times pause 100 0

-- x552.rs:124, and what comes after it
abbrev pub iosf_check : {A : Type 0} → ℕ → ℕ → Call A → Call A
iosf_check address ctrl after = pick (is_clear ctrl 0xc0000) after (fail (Sideband address ctrl))

abbrev pub kr_read_body : ℕ → ℕ → Call ℕ
kr_read_body pause address =
    do
      iosf_idle pause
      write 0x11144 address
      ctrl ← iosf_idle pause
      iosf_check address ctrl (read_raw 0x11148)

-- x552.rs:130
unfoldable pub kr_read : ℕ → Port → ℕ → Call ℕ
kr_read pause port address = locked plain port 6 (kr_read_body pause address)

abbrev pub kr_write_body : ℕ → ℕ → ℕ → Call (Unit {0})
kr_write_body pause address value =
    do
      iosf_idle pause
      write 0x11144 address
      write 0x11148 value
      ctrl ← iosf_idle pause
      iosf_check address ctrl (return tt)

-- x552.rs:140
unfoldable pub kr_write : ℕ → Port → ℕ → ℕ → Call (Unit {0})
kr_write pause port address value = locked plain port 6 (kr_write_body pause address value)

abbrev pub kr_modified : ℕ → Port → ℕ → ℕ → Call ℕ
kr_modified pause port address value =
    do
      kr_write pause port address value
      return value

-- x552.rs:149; the closure as the bits that it keeps and the bits that it sets
unfoldable pub kr_modify : ℕ → Port → ℕ → ℕ → ℕ → Call ℕ
kr_modify pause port port0 keep set =
    do
      v ← kr_read pause port (krm port.lan port0)
      kr_modified pause port (krm port.lan port0) (changed keep set v)

abbrev pub restart_lane : ℕ → Port → ℕ → Family → Call ℕ
restart_lane pause port lc1 X552 = return lc1
restart_lane pause port lc1 X553 =
    do
      kr_modify pause port 0x5054 (inverse 32 0) 0x80000000
      return lc1

-- x552.rs:160
unfoldable pub restart_an : ℕ → Port → Call ℕ
restart_an pause port =
    do
      lc1 ← kr_modify pause port 0x420c (inverse 32 0) 0x80000000
      restart_lane pause port lc1 port.family

abbrev pub restarted : ℕ → Port → ℕ → Call ℕ
restarted pause port lc1 =
    do
      restart_an pause port
      return lc1

-- AN_ENABLE, and CAP_KR and CAP_KX as asked
unfoldable pub kr_autoneg_set : Bool → Bool → ℕ
kr_autoneg_set kr kx = bit_or (bit_or 0x20000000 (pick kr 0x40000 0)) (pick kx 0x10000 0)

abbrev pub kr_autoneg_lane : ℕ → Port → ℕ → Family → Call ℕ
kr_autoneg_lane pause port lc1 X552 = restarted pause port lc1
kr_autoneg_lane pause port lc1 X553 =
    do
      kr_modify pause port 0x5054 (inverse 32 0x76000000) 0x48000000
      restarted pause port lc1

-- x552.rs:172
unfoldable pub kr_autoneg : ℕ → Port → Bool → Bool → Call ℕ
kr_autoneg pause port kr kx =
    do
      lc1 ← kr_modify pause port 0x420c (inverse 32 0x5c000) (kr_autoneg_set kr kx)
      kr_autoneg_lane pause port lc1 port.family

-- FORCE_10G or FORCE_1G
unfoldable pub ixfi_set : Bool → ℕ
ixfi_set ten_gig = pick ten_gig 0x400 0x200

-- x552.rs:191
unfoldable pub ixfi : ℕ → Port → Bool → Call ℕ
ixfi pause port ten_gig =
    do
      lc1 ← kr_modify pause port 0x420c (inverse 32 0x2000c700) (ixfi_set ten_gig)
      kr_modify pause port 0x4b00 (inverse 32 0) 0x10
      kr_modify pause port 0x4634 (inverse 32 0x18040) 0
      kr_modify pause port 0x4638 (inverse 32 0x18040) 0
      kr_modify pause port 0x5520 (inverse 32 0) 0x8000000e
      restarted pause port lc1

abbrev pub nvm_body : ℕ → Call ℕ
nvm_body word =
    do
      post (0xff060031 ∷ nvm_address word ∷ 0x200 ∷ 0 ∷ [])
      v ← read_raw 0x1580c
      return (v % 2 ^ 16)

-- x552.rs:318
unfoldable pub nvm_word : Port → ℕ → Call ℕ
nvm_word port word = locked plain port 0x401 (nvm_body word)

-- HLREG0's MDCSPD
unfoldable pub mdcspd : Bool → ℕ → ℕ
mdcspd fast hlreg0 = pick fast (bit_or hlreg0 0x10000) (without hlreg0 0x10000)

abbrev pub mdio_clock : Bool → Call (Unit {0})
mdio_clock fast =
    do
      hlreg0 ← read 0x4240
      write 0x4240 (mdcspd fast hlreg0)

-- x552.rs:384
abbrev pub slow_mdio : Call (Unit {0})
slow_mdio = mdio_clock false

-- the X553 is always KR
unfoldable pub internal_of : Family → ℕ → Internal
internal_of X552 sel = pick (is_clear sel 0x1000000) Ixfi Kr
internal_of X553 sel = Kr

unfoldable pub prepared_copper : Port → ℕ → ℕ → ℕ → Bool → Bool → X557
prepared_copper port phy id sel unstalled reset =
    record { phy = phy; id = id; sel = sel; unstalled = unstalled; reset = reset; internal = internal_of port.family sel }

abbrev pub prepare_reset : Port → Bool → ℕ → ℕ → ℕ → Bool → Call X557
prepare_reset port veto phy id sel unstalled =
    pick veto (return (prepared_copper port phy id sel unstalled false))
    (do
      reset port phy true
      return (prepared_copper port phy id sel unstalled true))

abbrev pub prepare_alarms : Port → Bool → ℕ → ℕ → ℕ → ℕ → Call X557
prepare_alarms port veto phy id sel alarms =
    pick (is_clear alarms 3) (prepare_reset port veto phy id sel false)
    (do
      modify port phy 0x1e 0xc479 (inverse 16 0x8000) 0
      prepare_reset port veto phy id sel true)

abbrev pub prepare_found : Port → Bool → ℕ → ℕ → ℕ → Call X557
prepare_found port veto phy id sel = read_reg port phy 1 0xcc02 >>= prepare_alarms port veto phy id sel

abbrev pub prepare_probed : Port → Bool → ℕ → ℕ → Option ℕ → Call X557
prepare_probed port veto sel phy None = fail NoPhy
prepare_probed port veto sel phy (Some id) = prepare_found port veto phy id sel

abbrev pub prepare_scanned : Port → Bool → ℕ → Option (ℕ × ℕ) → Call X557
prepare_scanned port veto sel None = fail NoPhy
prepare_scanned port veto sel (Some (phy, id)) = prepare_found port veto phy id sel

-- the PHY that NW_MNG_IF_SEL names, with no scan
abbrev pub prepare_sel : Port → Bool → ℕ → Call X557
prepare_sel port veto sel =
    pick (eqb sel 0) (scan port >>= prepare_scanned port veto sel)
    (probe port (sel / 2 ^ 3 % 32) >>= prepare_probed port veto sel (sel / 2 ^ 3 % 32))

-- x552.rs:391; it gives what Prepared::Copper holds
unfoldable pub prepare_copper : Port → Bool → Call X557
prepare_copper port veto =
    do
      slow_mdio
      sel ← read 0x11178
      prepare_sel port veto sel

-- x552.rs:364, with no Sfp
pub data Prepared : Type 0 where
  nothing : Prepared
  copper : X557 → Prepared

-- x552.rs:371, and what comes after it
abbrev pub prepare_then : {A : Type 0} → Port → Bool → (Prepared → Call A) → Call A
prepare_then port veto after =
    pick (eqb port.device 0x15ad)
    (do
      x ← prepare_copper port veto
      after (copper x))
    (after nothing)

abbrev pub prepare : Port → Bool → Call Prepared
prepare port veto = prepare_then port veto return

-- x552.rs:427
unfoldable pub after_reset : Port → Call (Unit {0})
after_reset port = pick (eqb port.device 0x15ad) slow_mdio (return tt)

-- 100M is not advertised
unfoldable pub without100 : Speeds → Speeds
without100 s = record { g10 = s.g10; g1 = s.g1; m100 = false }

abbrev pub copper_advertise : Port → Bool → X557 → Speeds → Call CopperSetup
copper_advertise port veto x s =
    do
      restarted ← advertise port x.phy s None veto
      return (record { x557 = x; advertised = s; restarted = restarted })

-- ten waits with no link are no error
abbrev pub copper_turn : Port → ℕ → Call CopperSetup → Call CopperSetup → Call CopperSetup
copper_turn port phy after again =
    do
      delay 100000
      links ← read 0x42a4
      pick (is_clear links 0x40000000) again
          (do
            up ← an_link port phy
            pick up after again)

abbrev pub copper_times : Port → Bool → X557 → Speeds → ℕ → Call CopperSetup
copper_times port veto x s n = times n (copper_turn port x.phy (copper_advertise port veto x s)) (copper_advertise port veto x s)

abbrev pub copper_internal : ℕ → Port → Bool → X557 → Speeds → Internal → Call CopperSetup
copper_internal pause port veto x s Kr = copper_advertise port veto x s
copper_internal pause port veto x s Ixfi =
    do
      ixfi pause port s.g10
      copper_times port veto x s 10

abbrev pub copper_able : ℕ → Port → Bool → X557 → Speeds → Call CopperSetup
copper_able pause port veto x s = copper_internal pause port veto x s x.internal

-- x552.rs:547; it gives what Setup::Copper holds
unfoldable pub copper_link : ℕ → Port → Bool → X557 → Call CopperSetup
copper_link pause port veto x =
    do
      s ← abilities port x.phy
      copper_able pause port veto x (without100 s)

abbrev pub setup_kr : ℕ → Port → Call Setup552
setup_kr pause port =
    do
      lc1 ← kr_autoneg pause port true true
      return (setupv.Kr lc1)

abbrev pub setup_prepared : ℕ → Port → Bool → Prepared → Call Setup552
setup_prepared pause port veto (copper x) =
    do
      s ← copper_link pause port veto x
      return (setupv.Copper s)
setup_prepared pause port veto nothing =
    pick (eqb port.device 0x15ae) (return setupv.FirmwarePhy)
    (pick (eqb port.device 0x15b0) (return setupv.Xfi)
    (return setupv.Kx4))

-- x553.rs:167, and what comes after it: with a veto, without
abbrev pub vetoed : {A : Type 0} → Bool → Call A → Call A → Call A
vetoed veto stopped free =
    pick veto stopped
    (do
      mmngc ← read 0x42d0
      pick (is_clear mmngc 1) free stopped)

-- x552.rs:464
abbrev pub setup : ℕ → Port → Bool → Prepared → Call Setup552
setup pause port veto prepared =
    pick (eqb port.device 0x15ab)
    (vetoed veto (return setupv.ManageabilityVeto) (setup_kr pause port))
    (setup_prepared pause port veto prepared)
