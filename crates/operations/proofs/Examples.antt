-- Worked examples: what an operation ends with, and after how many actions and microseconds
use Rattle.std.specs.Prelude.{ℕ, map, Ok, Err, Some, None}
use mathlib.Core.Path.{◌≡◌, refl}
use mathlib.Core.Bool.{Bool, true, false}
use mathlib.Core.List.{List, [], ◌∷◌, ◌++◌}
use Rattle.hardware.specs.Talk.{Reply}
use Rattle.hardware.specs.declared.Error.TheVariants.{Io, Removed, Timeout, Sideband, Semaphore, HostInterface, Firmware, NoPhy, PhyReset}
use Rattle.hardware.specs.declared.Family.TheVariants.{X553}
use Rattle.words.specs.declared.link.Link.TheVariants as linkv
use Rattle.answers.specs.declared.Copper.TheVariants as copperv
use Rattle.answers.specs.declared.Internal.{Internal}
use Rattle.answers.specs.declared.Internal.TheVariants.{Ixfi, Kr}
use Rattle.answers.specs.declared.Setup552.TheVariants as setup552v
use Rattle.answers.specs.declared.Setup553.TheVariants as setup553v
use Rattle.answers.specs.declared.Speeds.{Speeds}
use Rattle.answers.specs.declared.Value.TheVariants as valuev
use Rattle.reference.specs.Out.{answer}
use Rattle.reference.specs.X553.{sgmii_an}
use Rattle.operations.specs.Operations.{operation}
use Rattle.operations.specs.Windows.{inside}
use Rattle.operations.specs.declared.Operation.{Operation}
use Rattle.operations.specs.declared.Operation.TheVariants.{
  Veto,
  Link,
  Acquire,
  Release,
  Command,
  Token,
  PhyActivity,
  ReadReg,
  MdioList,
  WriteReg,
  Modify,
  Probe,
  Scan,
  Reset,
  Abilities,
  Advertise,
  AnLink,
  KrRead,
  KrWrite,
  KrModify,
  RestartAn,
  KrAutoneg,
  NvmWord,
  AfterReset,
  Bringup,
  Poll,
}
use Rattle.operations.specs.Example.{
  at552,
  other552,
  kr552,
  at553,
  backplane553,
  sgmii553,
  firmware553,
  ended,
  of,
  written,
  copies,
  zeros,
  failed,
  ones,
  holding,
  cycled,
  phy_read,
  phy_written,
  phy_changed,
  phy_linked,
  phy553_read,
  phy553_written,
  phy553_changed,
  kr_is,
  kr_written,
  kr_changed,
  exchanged,
  granted,
  busy,
  active,
}
use Rattle.operations.proofs.Computing.{computing}

-- hardware.rs. The manageability firmware holds the link
veto_set : of (operation at552 Veto []) (Ok 1 ∷ []) ≡ ended 1 0 (Ok (valuev.Flag true), [])
veto_set = refl

-- the host's failure
veto_failed : of (operation at552 Veto []) (failed 7 ∷ []) ≡ ended 1 0 (Err (Io 7), [])
veto_failed = refl

-- 2500 megabits
link_up : of (operation at552 Link []) (Ok 0x78000000 ∷ []) ≡ ended 1 0 (Ok (valuev.Link (linkv.Up (Some 2500))), [])
unfolding computing
link_up = refl

-- sync.rs. `release` of 0 has no action
release_0 : of (operation at552 (Release 0) []) [] ≡ ended 0 0 (Ok valuev.Nothing, [])
unfolding computing
release_0 = refl

-- but `acquire` of 0 has nine
acquire_0 : of (operation at552 (Acquire 0) []) (zeros 9) ≡ ended 9 0 (Ok valuev.Nothing, [])
unfolding computing
acquire_0 = refl

-- an I2C bit on lan 1 of the X552: the mux is set
mux_set : of (operation other552 (Acquire 0x800) []) (zeros 12) ≡ ended 12 0 (Ok valuev.Nothing, [])
unfolding computing
mux_set = refl

-- in ESDP
mux_value : written 0x20 (operation other552 (Acquire 0x800) []) (zeros 12) ≡ 2 ∷ []
unfolding computing
mux_value = refl

-- 10 microseconds after a release of the PHYs' bits
release_6 : of (operation at552 (Release 6) []) (zeros 9) ≡ ended 10 10 (Ok valuev.Nothing, [])
unfolding computing
release_6 = refl

-- 2000 after one of the others
release_1 : of (operation at552 (Release 1) []) (zeros 9) ≡ ended 10 2000 (Ok valuev.Nothing, [])
unfolding computing
release_1 = refl

-- SMBI never free
smbi_held : of (operation at552 (Acquire 6) []) (copies 2000 (Ok 1 ∷ [])) ≡ ended 4000 100000 (Err (Semaphore 1), [])
unfolding computing
smbi_held = refl

-- REGSMP never free: SMBI is given back
regsmp_held : of (operation at552 (Acquire 6) []) (Ok 0 ∷ copies 2000 (Ok 0x80000000 ∷ []) ++ zeros 3)
    ≡ ended 4004 100000 (Err (Semaphore 0x80000000), [])
unfolding computing
regsmp_held = refl

-- the bits never free: a wait after the last try too, and the last bits held are named
bits_held : of (operation at552 (Acquire 6) []) (copies 1000 (Ok 0 ∷ Ok 0 ∷ Ok 0x42 ∷ zeros 5))
    ≡ ended 9000 5000000 (Err (Semaphore 0x42), [])
unfolding computing
bits_held = refl

-- hostif.rs. The token is given
taken : of (operation at553 (Token true) []) granted ≡ ended 27 10 (Ok (valuev.Flag true), [])
unfolding computing
taken = refl

-- busy is an answer to a take
busy_take : of (operation at553 (Token true) []) busy ≡ ended 27 10 (Ok (valuev.Flag false), [])
unfolding computing
busy_take = refl

-- and an error of a give
busy_give : of (operation at553 (Token false) []) busy ≡ ended 27 10 (Err (Firmware 0x0a 0x80), [])
unfolding computing
busy_give = refl

-- status 1, and a reply of four bytes: it is in the block
replied : of (operation at552 Command (7 ∷ 8 ∷ [])) (holding (exchanged 2 (Ok 0x10400 ∷ Ok 9 ∷ [])))
    ≡ ended 28 10 (Ok (valuev.Command 1 2), 0x10400 ∷ 9 ∷ [])
unfolding computing
replied = refl

-- a reply of five bytes does not fit two words; the block stays
too_long : of (operation at552 Command (7 ∷ 8 ∷ [])) (holding (exchanged 2 (Ok 0x500 ∷ [])))
    ≡ ended 27 10 (Err (HostInterface 4), 7 ∷ 8 ∷ [])
unfolding computing
too_long = refl

-- a release that fails loses the status; the block is the reply's
lost : of (operation at552 Command (7 ∷ 8 ∷ [])) (zeros 9 ++ exchanged 2 (Ok 0x10400 ∷ Ok 9 ∷ zeros 8 ++ (failed 3 ∷ [])))
    ≡ ended 27 0 (Err (Io 3), 0x10400 ∷ 9 ∷ [])
unfolding computing
lost = refl

-- GET_PHY_INFO, with four words
abbrev info : (w0 w1 w2 w3 : ℕ) → Operation
info w0 w1 w2 w3 = PhyActivity (record { activity = 7; «data» = record { w0 = w0; w1 = w1; w2 = w2; w3 = w3 } })

-- four words, each with its bytes in the other order
activity : of (operation at553 (info 0 0 0 0) [])
    (holding (exchanged 6 (Ok 0x11000 ∷ Ok 0x04030201 ∷ Ok 0x08070605 ∷ Ok 1 ∷ Ok 2 ∷ [])))
    ≡ ended 35 10 (Ok (valuev.Activity (record { w0 = 0x01020304; w1 = 0x05060708; w2 = 0x01000000; w3 = 0x02000000 })), [])
unfolding computing
activity = refl

-- an empty reply leaves the words that were sent
activity_empty : of (operation at553 (info 1 2 3 4) []) (holding (exchanged 6 (Ok 0x10000 ∷ [])))
    ≡ ended 31 10 (Ok (valuev.Activity (record { w0 = 0x01000700; w1 = 1; w2 = 2; w3 = 3 })), [])
unfolding computing
activity_empty = refl

-- status 2 fifty times: a wait after the last try too
activity_refused : of (operation at553 (info 0 0 0 0) []) (copies 50 (holding (exchanged 6 (Ok 0x20000 ∷ []))))
    ≡ ended 1600 1500 (Err (Firmware 5 2), [])
unfolding computing
activity_refused = refl

-- mdio.rs. A register is read
phy_is : of (operation at552 (ReadReg 3 7 0xc800) []) (phy_read 7) ≡ ended 26 30 (Ok (valuev.Word 7), [])
unfolding computing
phy_is = refl

-- on the X553 with the token, taken and given back
phy_is_553 : of (operation at553 (ReadReg 3 7 0xc800) []) (phy553_read 7) ≡ ended 80 50 (Ok (valuev.Word 7), [])
unfolding computing
phy_is_553 = refl

-- the token is busy once: the bits are given back, and taken again
token_busy : of (operation at553 (ReadReg 3 7 0xc800) []) (holding busy ++ phy553_read 7)
    ≡ ended 127 5070 (Ok (valuev.Word 7), [])
unfolding computing
token_busy = refl

-- two registers under one hold
list_of_two : of (operation at552 (MdioList 3) (7 ∷ 0xc800 ∷ 1 ∷ 4 ∷ [])) (holding (cycled 7 ++ cycled 9)) ≡ ended 33 50 (Ok (valuev.List 2), 7 ∷ 9 ∷ [])
unfolding computing
list_of_two = refl

-- the second cannot be read: its error, with the first one's value
list_failed : of (operation at552 (MdioList 3) (7 ∷ 0xc800 ∷ 1 ∷ 4 ∷ [])) (holding (cycled 7 ++ zeros 4 ++ (failed 5 ∷ [])))
    ≡ ended 33 50 (Err (Io 5), 7 ∷ [])
unfolding computing
list_failed = refl

-- an empty one
list_of_none : of (operation at552 (MdioList 3) []) [] ≡ ended 0 0 (Ok (valuev.List 0), [])
unfolding computing
list_of_none = refl

-- MSCA never free: a wait before each of its hundred reads
phy_busy : of (operation at552 (ReadReg 3 7 0xc800) []) (holding (Ok 0 ∷ copies 100 (Ok 0x40000000 ∷ [])))
    ≡ ended 220 1010 (Err (Timeout 0x425c 0x40000000 0 0x40000000), [])
unfolding computing
phy_busy = refl

-- a register is written
phy_put : of (operation at552 (WriteReg 3 7 0xc800 5) []) phy_written ≡ ended 26 30 (Ok valuev.Nothing, [])
unfolding computing
phy_put = refl

-- its value goes to MSRWD
phy_put_value : written 0x4260 (operation at552 (WriteReg 3 7 0xc800 5) []) phy_written ≡ 5 ∷ []
unfolding computing
phy_put_value = refl

-- two accesses, the bits given back between them
phy_modified : of (operation at552 (Modify (record { phy = 3; device = 7; register = 0; keep = 0xff0f; set = 0x200 })) [])
    (phy_changed 0x1234)
    ≡ ended 52 60 (Ok (valuev.Word 0x1204), [])
unfolding computing
phy_modified = refl

-- an identifier without its revision
probed : of (operation at552 (Probe 3) []) (phy_read 0x0154 ++ phy_read 0xb242)
    ≡ ended 52 60 (Ok (valuev.Probe (Some 0x0154b240)), [])
unfolding computing
probed = refl

-- where there is no PHY, the second half is not asked for
probed_none : of (operation at552 (Probe 3) []) (phy_read 0xffff) ≡ ended 26 30 (Ok (valuev.Probe None), [])
unfolding computing
probed_none = refl

-- the first PHY that answers
scanned : of (operation at552 Scan []) (phy_read 0 ++ phy_read 0x0154 ++ phy_read 0xb242)
    ≡ ended 78 90 (Ok (valuev.Scan (Some (1, 0x0154b240))), [])
unfolding computing
scanned = refl

-- none of the 32
scanned_none : of (operation at552 Scan []) (copies 32 (phy_read 0)) ≡ ended 832 960 (Ok (valuev.Scan None), [])
unfolding computing
scanned_none = refl

-- done at the first look
reset_done : of (operation at552 (Reset 3 true) []) (phy_written ++ phy_read 1 ++ phy_read 0) ≡ ended 80 100092 (Ok valuev.Nothing, [])
unfolding computing
reset_done = refl

-- at none of thirty, but the read after them decides
reset_late : of (operation at552 (Reset 3 false) []) (phy_written ++ copies 30 (phy_read 0x8000) ++ phy_read 0)
    ≡ ended 862 3000960 (Ok valuev.Nothing, [])
unfolding computing
reset_late = refl

-- nor then
reset_never : of (operation at552 (Reset 3 false) []) (phy_written ++ copies 31 (phy_read 0x8000)) ≡ ended 862 3000960 (Err PhyReset, [])
unfolding computing
reset_never = refl

-- 10 gigabits and 1
abbrev fast : Speeds
fast = record { g10 = true; g1 = true; m100 = false }

-- the speeds that a PHY is able to
able : of (operation at552 (Abilities 3) []) (phy_read 0x11) ≡ ended 26 30 (Ok (valuev.Abilities fast), [])
unfolding computing
able = refl

-- these are advertised, and 2.5 and 5 gigabits as they are
abbrev advertise : Bool → Operation
advertise veto = Advertise (record { phy = 3; speeds = fast; nbase = None; veto = veto })

-- three registers, and auto-negotiation again
advertised : of (operation at552 (advertise false) []) (copies 4 (phy_changed 0xc00)) ≡ ended 208 240 (Ok (valuev.Flag true), [])
unfolding computing
advertised = refl

-- what is written to them
advertised_values : written 0x4260 (operation at552 (advertise false) []) (copies 4 (phy_changed 0xc00))
    ≡ 0x1c00 ∷ 0x8c00 ∷ 0xc00 ∷ 0xe00 ∷ []
unfolding computing
advertised_values = refl

-- under a veto auto-negotiation is not begun again
advertised_veto : of (operation at552 (advertise true) []) (copies 3 (phy_changed 0xc00)) ≡ ended 156 180 (Ok (valuev.Flag false), [])
unfolding computing
advertised_veto = refl

-- the second read is believed
linked : of (operation at552 (AnLink 3) []) phy_linked ≡ ended 52 60 (Ok (valuev.Flag true), [])
unfolding computing
linked = refl

-- also where the first was better
unlinked : of (operation at552 (AnLink 3) []) (phy_read 4 ++ phy_read 0) ≡ ended 52 60 (Ok (valuev.Flag false), [])
unfolding computing
unlinked = refl

-- x552.rs. The document's first listing
gone : of (operation at552 (KrRead 0x420c) []) (Ok 0xffffffff ∷ []) ≡ ended 1 0 (Err Removed, [])
unfolding computing
gone = refl

-- the document's case 13, the data all ones
case_13 : of (operation at552 (KrRead 0x420c) []) (kr_is 0xffffffff) ≡ ended 23 10 (Ok (valuev.Word 0xffffffff), [])
unfolding computing
case_13 = refl

-- case 13, all ones at each flush: what a flush gives is not looked at
case_13_flush : of (operation at552 (KrRead 0x420c) []) (zeros 8 ++ (ones ∷ zeros 3) ++ (Ok 5 ∷ zeros 8) ++ (ones ∷ []))
    ≡ ended 23 10 (Ok (valuev.Word 5), [])
unfolding computing
case_13_flush = refl

-- case 12: CTRL is busy 99 times, as all ones are
case_12_goes_on : of (operation at552 (KrRead 0x420c) []) (holding (copies 99 (ones ∷ []) ++ zeros 4))
    ≡ ended 221 1000 (Ok (valuev.Word 0), [])
unfolding computing
case_12_goes_on = refl

-- case 12: 100 times
case_12_timeout : of (operation at552 (KrRead 0x420c) []) (holding (copies 100 (Ok 0x80000000 ∷ [])))
    ≡ ended 219 1010 (Err (Timeout 0x11144 0x80000000 0 0x80000000), [])
unfolding computing
case_12_timeout = refl

-- the response bits count after the second wait
sideband : of (operation at552 (KrRead 0x420c) []) (holding (Ok 0x40000 ∷ Ok 0 ∷ Ok 0x40000 ∷ []))
    ≡ ended 22 10 (Err (Sideband 0x420c 0x40000), [])
unfolding computing
sideband = refl

-- a KR register is written
kr_put : of (operation at552 (KrWrite 0x420c 5) []) kr_written ≡ ended 23 10 (Ok valuev.Nothing, [])
unfolding computing
kr_put = refl

-- its value goes to DATA
kr_put_value : written 0x11148 (operation at552 (KrWrite 0x420c 5) []) kr_written ≡ 5 ∷ []
unfolding computing
kr_put_value = refl

-- of LINK_CTRL_1
abbrev change : Operation
change = KrModify (record { port0 = 0x420c; keep = 0xffffff0f; set = 0x200 })

-- two accesses, the bits given back between them
kr_modified : of (operation other552 change []) (kr_changed 0x1234) ≡ ended 46 20 (Ok (valuev.Word 0x1204), [])
unfolding computing
kr_modified = refl

-- both at lan 1's address
kr_modified_at : written 0x11144 (operation other552 change []) (kr_changed 0x1234) ≡ 0x820c ∷ 0x820c ∷ []
unfolding computing
kr_modified_at = refl

-- LINK_CTRL_1 on the X552
restarted : of (operation at552 RestartAn []) (kr_changed 5) ≡ ended 46 20 (Ok (valuev.Word 0x80000005), [])
unfolding computing
restarted = refl

-- the lane too on the X553
restarted_553 : of (operation at553 RestartAn []) (copies 2 (kr_changed 5)) ≡ ended 92 40 (Ok (valuev.Word 0x80000005), [])
unfolding computing
restarted_553 = refl

-- KR and not KX
negotiated : of (operation at552 (KrAutoneg true false) []) (copies 2 (kr_changed 0x1c000)) ≡ ended 92 40 (Ok (valuev.Word 0x20040000), [])
unfolding computing
negotiated = refl

-- the low half of the reply's fourth word
nvm : of (operation at552 (NvmWord 0x2c) []) (holding (exchanged 4 (Ok 0xffff1234 ∷ []))) ≡ ended 29 10 (Ok (valuev.Word 0x1234), [])
unfolding computing
nvm = refl

-- the MDIO clock, where the device has one
clocked : of (operation at552 AfterReset []) (zeros 2) ≡ ended 2 0 (Ok valuev.Nothing, [])
unfolding computing
clocked = refl

-- and where it has none
not_clocked : of (operation kr552 AfterReset []) [] ≡ ended 0 0 (Ok valuev.Nothing, [])
unfolding computing
not_clocked = refl

-- bringup. No PHY of its own, so none is found
no_phy : of (operation (record { family = X553; device = 0x15ad; lan = 0; pause = 10 }) (Bringup false) []) [] ≡ ended 0 0 (Err NoPhy, [])
unfolding computing
no_phy = refl

-- KR under a veto: no action
vetoed : of (operation kr552 (Bringup true) []) [] ≡ ended 0 0 (Ok (valuev.X552 setup552v.ManageabilityVeto), [])
unfolding computing
vetoed = refl

-- KR with none: MMNGC, then `kr_autoneg`
kr_up : of (operation kr552 (Bringup false) []) (Ok 0 ∷ copies 2 (kr_changed 0)) ≡ ended 93 40 (Ok (valuev.X552 (setup552v.Kr 0x20050000)), [])
unfolding computing
kr_up = refl

-- the X557, a line for each step: HLREG0 and NW_MNG_IF_SEL; PHY 3 is there, raises no alarm and is reset; what it is able to;
-- the internal link is forced to 10 gigabits, and up at the first look; what is advertised
copper_up : of (operation at552 (Bringup false) [])
    (zeros 2 ++ (Ok 0x18 ∷ [])
    ++ phy_read 0x0154 ++ phy_read 0xb242 ++ phy_read 0 ++ phy_written ++ phy_read 1 ++ phy_read 0
    ++ phy_read 0x31
    ++ copies 6 (kr_changed 0) ++ (Ok 0x40000000 ∷ phy_linked)
    ++ copies 4 (phy_changed 0))
    ≡ ended 725 200632 (
      Ok (valuev.X552 (setup552v.Copper (record {
        x557 = record { phy = 3; id = 0x0154b240; sel = 0x18; unstalled = false; reset = true; internal = Ixfi };
        advertised = fast;
        restarted = true;
      }))),
      [],
    )
unfolding computing
copper_up = refl

-- the X557 of an X553: HLREG0 twice and NW_MNG_IF_SEL, which names no PHY; PHY 0 is found and its alarm is cleared; it is reset;
-- what it is able to; what is advertised
copper_553_up : of (operation at553 (Bringup false) [])
    (zeros 5
    ++ phy553_read 0x0154 ++ phy553_read 0xb242 ++ phy553_read 1 ++ phy553_changed 0x8000
    ++ phy553_written ++ phy553_read 1 ++ phy553_read 0
    ++ phy553_read 0x31
    ++ copies 4 (phy553_changed 0))
    ≡ ended 1367 100852 (
      Ok (valuev.X553 (setup553v.X557 (setup552v.Copper (record {
        x557 = record { phy = 0; id = 0x0154b240; sel = 0; unstalled = true; reset = true; internal = Kr };
        advertised = fast;
        restarted = true;
      })))),
      [],
    )
unfolding computing
copper_553_up = refl

-- backplane at 2.5 gigabits is left as it is
backplane_2500 : of (operation backplane553 (Bringup false) []) (Ok 0x100000 ∷ []) ≡ ended 1 0 (Ok (valuev.X553 (setup553v.Kr2500 0x100000)), [])
unfolding computing
backplane_2500 = refl

-- at less, auto-negotiation
backplane_up : of (operation backplane553 (Bringup false) []) (zeros 2 ++ copies 4 (kr_changed 0))
    ≡ ended 186 80 (Ok (valuev.X553 (setup553v.Kr 0x20050000)), [])
unfolding computing
backplane_up = refl

-- SGMII. HLREG0 and MMNGC; three KR registers; auto-negotiation again
sgmii_up : of (operation sgmii553 (Bringup false) []) (zeros 3 ++ copies 5 (kr_changed 0xffffffff))
    ≡ ended 233 100 (Ok (valuev.X553 (setup553v.Sgmii (record { link_ctrl = 0xdffffaff; sgmii = 0xffffffff; flx = 0xa7ffffff }))), [])
unfolding computing
sgmii_up = refl

-- `sgmii_an`: two changes, LINK_CTRL_1 once more, the lane, and auto-negotiation again
abbrev sgmii_an_replies : List Reply
sgmii_an_replies = copies 2 (kr_changed 0xffffffff) ++ kr_written ++ copies 3 (kr_changed 0xffffffff)

-- by itself
sgmii_an_done : of (answer valuev.Word (sgmii_an 10 firmware553)) sgmii_an_replies ≡ ended 253 110 (Ok (valuev.Word 0xc7ffffff), [])
unfolding computing
sgmii_an_done = refl

-- the firmware's PHY. HLREG0; it is found, reset, initialised and set up; MMNGC; `sgmii_an`; it is set up again, and not too hot
abbrev firmware_replies : List Reply
firmware_replies = zeros 2 ++ active 0x01540700 0xb242 ++ copies 3 (active 0 0) ++ zeros 1 ++ sgmii_an_replies ++ copies 2 (active 0 0)

firmware_up : of (operation firmware553 (Bringup false) []) firmware_replies
    ≡ ended 466 170 (
      Ok (valuev.X553 (setup553v.Firmware (record {
        phy = record { id = 0x0154b240; speeds = 0x700 };
        internal = Some 0xc7ffffff;
        overtemp = false;
      }))),
      [],
    )
unfolding computing
firmware_up = refl

-- what it writes to the KR registers
firmware_values : written 0x11148 (operation firmware553 (Bringup false) []) firmware_replies
    ≡ 0xdffff8ff ∷ 0xfff7efff ∷ 0xdffff8ff ∷ 0xc7ffffff ∷ 0xffffffff ∷ 0xffffffff ∷ []
unfolding computing
firmware_values = refl

-- it says that it is down when it is set up: too hot, and forced down
firmware_hot : of (operation firmware553 (Bringup false) [])
    (zeros 2 ++ active 0x01540700 0xb242 ++ copies 2 (active 0 0) ++ active 1 0 ++ zeros 1 ++ active 0 0)
    ≡ ended 178 50 (
      Ok (valuev.X553 (setup553v.Firmware (record {
        phy = record { id = 0x0154b240; speeds = 0x700 };
        internal = None;
        overtemp = true;
      }))),
      [],
    )
unfolding computing
firmware_hot = refl

-- the Watch. PHY 3, forced for 10 gigabits so many times
abbrev poll : Internal → ℕ → Operation
poll internal reforced = Poll (record { phy = 3; internal = internal; forced = Some 7; reforced = reforced }) None

-- down: the forced status is forgotten
polled_down : of (operation at552 (poll Kr 2) []) (copies 2 (phy_read 0)) ≡ ended 52 60 (Ok (valuev.Poll copperv.Down None 2), [])
unfolding computing
polled_down = refl

-- up as it was
polled_same : of (operation at552 (poll Kr 2) []) (phy_linked ++ phy_read 7 ++ phy_linked)
    ≡ ended 130 150 (Ok (valuev.Poll (copperv.Up 10000) (Some 7) 2), [])
unfolding computing
polled_same = refl

-- a speed that the internal link has not: all stays as it was
polled_invalid : of (operation at552 (poll Kr 2) []) (phy_linked ++ phy_read 3 ++ phy_linked)
    ≡ ended 130 150 (Ok (valuev.Poll (copperv.Invalid 3) (Some 7) 2), [])
unfolding computing
polled_invalid = refl

-- 1 gigabit now: `kr_autoneg`
polled_kr : of (operation at552 (poll Kr 2) []) (phy_linked ++ phy_read 5 ++ phy_linked ++ copies 2 (kr_changed 0))
    ≡ ended 222 190 (Ok (valuev.Poll (copperv.Up 1000) (Some 5) 3), [])
unfolding computing
polled_kr = refl

-- or forced, and the counter goes on at 0
polled_ixfi : of (operation at552 (poll Ixfi 0xffffffff) []) (phy_linked ++ phy_read 5 ++ phy_linked ++ copies 6 (kr_changed 0))
    ≡ ended 406 270 (Ok (valuev.Poll (copperv.Up 1000) (Some 5) 0), [])
unfolding computing
polled_ixfi = refl

-- a re-force that fails
polled_failed : of (operation at552 (poll Kr 2) []) (phy_linked ++ phy_read 5 ++ phy_linked ++ (failed 9 ∷ []))
    ≡ ended 131 150 (Err (Io 9), [])
unfolding computing
polled_failed = refl

-- the same Watch inside a window, of a minute that it begins with; beside one that has gone by
abbrev in_window : Internal → Operation
in_window internal = Poll (record { phy = 3; internal = internal; forced = Some 7; reforced = 2 }) (Some 600)

abbrev windows : List ℕ
windows = 60 ∷ 120 ∷ 600 ∷ 601 ∷ []

-- 1 gigabit now: held, before the first action of `kr_autoneg` or `ixfi`
held_kr : of (operation at552 (in_window Kr) windows) (phy_linked ++ phy_read 5 ++ phy_linked)
    ≡ ended 130 150 (Ok (valuev.Poll (copperv.Held 1000) (Some 7) 2), [])
unfolding computing
held_kr = refl

held_ixfi : of (operation at552 (in_window Ixfi) windows) (phy_linked ++ phy_read 5 ++ phy_linked)
    ≡ ended 130 150 (Ok (valuev.Poll (copperv.Held 1000) (Some 7) 2), [])
unfolding computing
held_ixfi = refl

-- nothing is due: up as it was
held_same : of (operation at552 (in_window Kr) windows) (phy_linked ++ phy_read 7 ++ phy_linked)
    ≡ ended 130 150 (Ok (valuev.Poll (copperv.Up 10000) (Some 7) 2), [])
unfolding computing
held_same = refl

-- down, inside a window too: the forced status is forgotten
held_down : of (operation at552 (in_window Kr) windows) (copies 2 (phy_read 0)) ≡ ended 52 60 (Ok (valuev.Poll copperv.Down None 2), [])
unfolding computing
held_down = refl

-- outside all windows it is forced: one ends with this minute excluded, one starts behind it and runs to it
forced_outside : of (operation at552 (in_window Kr) (0 ∷ 600 ∷ 601 ∷ 600 ∷ [])) (phy_linked ++ phy_read 5 ++ phy_linked ++ copies 2 (kr_changed 0))
    ≡ ended 222 190 (Ok (valuev.Poll (copperv.Up 1000) (Some 5) 3), [])
unfolding computing
forced_outside = refl

-- a window over the end of the week, from Sunday 23:50 to Monday 00:05, at both edges
over_the_end : map (λ m. inside (Some m) (10070 ∷ 5 ∷ [])) (10069 ∷ 10070 ∷ 10079 ∷ 0 ∷ 4 ∷ 5 ∷ []) ≡ false ∷ true ∷ true ∷ true ∷ true ∷ false ∷ []
over_the_end = refl

-- one of a minute; two that touch; none
of_a_minute : map (λ m. inside (Some m) (60 ∷ 61 ∷ [])) (59 ∷ 60 ∷ 61 ∷ []) ≡ false ∷ true ∷ false ∷ []
of_a_minute = refl

that_touch : map (λ m. inside (Some m) (60 ∷ 62 ∷ 62 ∷ 64 ∷ [])) (59 ∷ 60 ∷ 61 ∷ 62 ∷ 63 ∷ 64 ∷ [])
    ≡ false ∷ true ∷ true ∷ true ∷ true ∷ false ∷ []
that_touch = refl

of_none : (m : ℕ) → inside (Some m) [] ≡ false
of_none m = refl
