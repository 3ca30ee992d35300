-- Worked examples of `begin`: what it turns away, and what not
use Rattle.std.specs.Prelude.{ℕ, zero, suc, Err, Option, None, Some}
use mathlib.Core.Path.{◌≡◌, refl}
use mathlib.Core.List.{List, [], ◌∷◌, ◌++◌}
use Rattle.hardware.specs.Refusal.{refusal}
use Rattle.hardware.specs.Talk.{end}
use Rattle.hardware.specs.declared.Error.{Error}
use Rattle.hardware.specs.declared.Error.TheVariants.{Lan, Fiber, Address, KrAddress, Pairs, Block, Pause, Windows}
use Rattle.hardware.specs.declared.Family.{Family}
use Rattle.hardware.specs.declared.Family.TheVariants.{X552, X553}
use Rattle.hardware.specs.declared.Port.{Port}
use Rattle.reference.specs.Pauses.{with_pause}
use Rattle.operations.specs.Request.{request}
use Rattle.arguments.specs.declared.Change.{Change}
use Rattle.words.specs.Kr.{krm}
use Rattle.operations.specs.Example.{at552, other552}
use Rattle.operations.specs.Operations.{operation}
use Rattle.operations.specs.declared.Operation.{Operation}
use Rattle.operations.specs.declared.Operation.TheVariants.{Veto, Command, Probe, ReadReg, MdioList, KrRead, KrWrite, KrModify, Poll}
use Rattle.answers.specs.declared.Internal.TheVariants.{Ixfi}
use Rattle.calls.specs.Conversation.{Conv, begun, to_lend, opening}

-- a port of lan 0
abbrev port : Family → ℕ → Port
port family device = record { family = family; device = device; lan = 0; pause = 10 }

-- ended at once
abbrev refused : Port → Error → Conv
refused p e = opening p (end (Err e, []))

-- the document's case 6: PHY 31 is taken, and begins as the operation does
phy_31 : begun at552 (Probe 31) [] ≡ opening at552 (operation at552 (Probe 31) [])
unfolding refusal request
phy_31 = refl

-- PHY 32 is not
phy_32 : begun at552 (Probe 32) [] ≡ refused at552 Address
unfolding refusal request
phy_32 = refl

-- nor is MDIO device 32
device_32 : begun at552 (ReadReg 31 32 0) [] ≡ refused at552 Address
unfolding refusal request
device_32 = refl

-- fiber, by family
fiber_552 : begun (port X552 0x15ac) Veto [] ≡ refused (port X552 0x15ac) Fiber
unfolding refusal request
fiber_552 = refl

-- and on the X553
fiber_553 : begun (port X553 0x15c4) Veto [] ≡ refused (port X553 0x15c4) Fiber
unfolding refusal request
fiber_553 = refl

-- an id that is fiber on the X552 alone
no_fiber_553 : begun (port X553 0x15ac) Veto [] ≡ opening (port X553 0x15ac) (operation (port X553 0x15ac) Veto [])
unfolding refusal request
no_fiber_553 = refl

abbrev words : ℕ → List ℕ
words zero = []
words (suc n) = 0 ∷ words n

-- a host block of 16 words, which the conversation keeps, and of 17, which are lent to each step
block_16 : begun at552 Command (words 16) ≡ opening at552 (operation at552 Command (words 16))
unfolding refusal request
block_16 = refl

kept_16 : to_lend at552 Command (words 16) ≡ 0
unfolding refusal request
kept_16 = refl

lent_17 : to_lend at552 Command (words 17) ≡ 17
unfolding refusal request
lent_17 = refl

-- of 448, as many as the host interface's buffer has
block_448 : begun at552 Command (words 448) ≡ opening at552 (operation at552 Command (words 448))
unfolding refusal request
block_448 = refl

lent_448 : to_lend at552 Command (words 448) ≡ 448
unfolding refusal request
lent_448 = refl

-- and of 449
block_449 : begun at552 Command (words 449) ≡ refused at552 Block
unfolding refusal request
block_449 = refl

-- a list of 64 pairs of device 1 and register 2, and of 65
abbrev pairs : ℕ → List ℕ
pairs zero = []
pairs (suc n) = 1 ∷ 2 ∷ pairs n

list_64 : begun at552 (MdioList 3) (pairs 64) ≡ opening at552 (operation at552 (MdioList 3) (pairs 64))
unfolding refusal request
list_64 = refl

list_65 : begun at552 (MdioList 3) (pairs 65) ≡ refused at552 Pairs
unfolding refusal request
list_65 = refl

-- a device that there is none of, behind the 64th; a register, and one that is missing
list_32 : begun at552 (MdioList 3) (pairs 65 ++ (32 ∷ 2 ∷ [])) ≡ refused at552 Address
unfolding refusal request
list_32 = refl

list_10000 : begun at552 (MdioList 3) (1 ∷ 0x10000 ∷ []) ≡ refused at552 Address
unfolding refusal request
list_10000 = refl

list_odd : begun at552 (MdioList 3) (1 ∷ 2 ∷ 1 ∷ []) ≡ refused at552 Address
unfolding refusal request
list_odd = refl

-- no other operation has a use for lent words, however many
veto_17 : begun at552 Veto (words 17) ≡ opening at552 (operation at552 Veto [])
unfolding refusal request
veto_17 = refl

-- a KR address of 0xffff is taken on either lan, since kr_read and kr_write add nothing to it
read_ffff : begun other552 (KrRead 0xffff) [] ≡ opening other552 (operation other552 (KrRead 0xffff) [])
unfolding refusal request
read_ffff = refl

-- and one above is not
read_10000 : begun other552 (KrRead 0x10000) [] ≡ refused other552 KrAddress
unfolding refusal request
read_10000 = refl

write_ffff : begun at552 (KrWrite 0xffff 7) [] ≡ opening at552 (operation at552 (KrWrite 0xffff 7) [])
unfolding refusal request
write_ffff = refl

write_10000 : begun at552 (KrWrite 0x10000 7) [] ≡ refused at552 KrAddress
unfolding refusal request
write_10000 = refl

abbrev change : ℕ → Change
change port0 = record { port0 = port0; keep = 0; set = 7 }

-- kr_modify on lan 0
modify_ffff : begun at552 (KrModify (change 0xffff)) [] ≡ opening at552 (operation at552 (KrModify (change 0xffff)) [])
unfolding refusal request krm
modify_ffff = refl

modify_10000 : begun at552 (KrModify (change 0x10000)) [] ≡ refused at552 KrAddress
unfolding refusal request krm
modify_10000 = refl

-- on lan 1 it adds 0x4000: 0xbfff comes to 0xffff, and 0xc000 past it
modify_bfff : begun other552 (KrModify (change 0xbfff)) [] ≡ opening other552 (operation other552 (KrModify (change 0xbfff)) [])
unfolding refusal request krm
modify_bfff = refl

modify_c000 : begun other552 (KrModify (change 0xc000)) [] ≡ refused other552 KrAddress
unfolding refusal request krm
modify_c000 = refl

-- where the sum wraps, the address as it is named is too large
modify_wraps : begun other552 (KrModify (change 0xfffffff0)) [] ≡ refused other552 KrAddress
unfolding refusal request krm
modify_wraps = refl

-- no lan of the chip, and fiber
abbrev wrong : Port
wrong = record { family = X552; device = 0x15ac; lan = 2; pause = 10 }

-- the lan is looked at first
lan_2 : begun wrong (Probe 32) [] ≡ refused wrong Lan
unfolding refusal request
lan_2 = refl

-- with a KR address too
lan_before_kr : begun wrong (KrRead 0x10000) [] ≡ refused wrong Lan
unfolding refusal request
lan_before_kr = refl

-- then the fiber, then the PHY
fiber_first : begun (port X552 0x15ac) (Probe 32) [] ≡ refused (port X552 0x15ac) Fiber
unfolding refusal request
fiber_first = refl

-- the copper port with another pause
abbrev paused : ℕ → Port
paused n = record { family = X552; device = 0x15ad; lan = 0; pause = n }

-- 1 and 100 are taken, 0 and 101 are not
pause_1 : begun (paused 1) (KrRead 5) [] ≡ opening (paused 1) (operation (paused 1) (KrRead 5) [])
unfolding refusal request
pause_1 = refl

pause_100 : begun (paused 100) (KrRead 5) [] ≡ opening (paused 100) (operation (paused 100) (KrRead 5) [])
unfolding refusal request
pause_100 = refl

pause_0 : begun (paused 0) (KrRead 5) [] ≡ refused (paused 0) Pause
unfolding refusal request
pause_0 = refl

pause_101 : begun (paused 101) (KrRead 5) [] ≡ refused (paused 101) Pause
unfolding refusal request
pause_101 = refl

-- also of an operation that never waits for the sideband
veto_paused_0 : begun (paused 0) Veto [] ≡ refused (paused 0) Pause
unfolding refusal request
veto_paused_0 = refl

-- 35 and 23 come before it
kr_before_pause : begun (paused 0) (KrRead 0x10000) [] ≡ refused (paused 0) KrAddress
unfolding refusal request
kr_before_pause = refl

block_before_pause : begun (paused 0) Command (words 449) ≡ refused (paused 0) Block
unfolding refusal request
block_before_pause = refl

-- ---- a poll's minute and windows

abbrev polls : ℕ → Option ℕ → Operation
polls phy minute = Poll (record { phy = phy; internal = Ixfi; forced = None; reforced = 0 }) minute

-- the last minute of the week, and the one behind it
minute_10079 : begun at552 (polls 3 (Some 10079)) [] ≡ opening at552 (operation at552 (polls 3 (Some 10079)) [])
unfolding refusal request
minute_10079 = refl

minute_10080 : begun at552 (polls 3 (Some 10080)) [] ≡ refused at552 Windows
unfolding refusal request
minute_10080 = refl

-- 32 windows, and one more
abbrev lodged : ℕ → List ℕ
lodged zero = []
lodged (suc n) = 10079 ∷ 0 ∷ lodged n

windows_32 : begun at552 (polls 3 (Some 600)) (lodged 32) ≡ opening at552 (operation at552 (polls 3 (Some 600)) (lodged 32))
unfolding refusal request
windows_32 = refl

windows_33 : begun at552 (polls 3 (Some 600)) (lodged 33) ≡ refused at552 Windows
unfolding refusal request
windows_33 = refl

-- a start or an end that is no minute, one that is its end, and half a window
start_10080 : begun at552 (polls 3 (Some 600)) (10080 ∷ 5 ∷ []) ≡ refused at552 Windows
unfolding refusal request
start_10080 = refl

end_10080 : begun at552 (polls 3 (Some 600)) (5 ∷ 10080 ∷ []) ≡ refused at552 Windows
unfolding refusal request
end_10080 = refl

of_no_minute : begun at552 (polls 3 (Some 600)) (5 ∷ 6 ∷ 7 ∷ 7 ∷ []) ≡ refused at552 Windows
unfolding refusal request
of_no_minute = refl

half_a_window : begun at552 (polls 3 (Some 600)) (5 ∷ 6 ∷ 7 ∷ []) ≡ refused at552 Windows
unfolding refusal request
half_a_window = refl

-- the PHY and the pause are looked at first
phy_before_windows : begun at552 (polls 32 (Some 10080)) [] ≡ refused at552 Address
unfolding refusal request
phy_before_windows = refl

pause_before_windows : begun (with_pause 0 at552) (polls 3 (Some 10080)) [] ≡ refused (with_pause 0 at552) Pause
unfolding refusal request
pause_before_windows = refl

-- without a minute the words mean nothing
no_minute : begun at552 (polls 3 None) (7 ∷ 7 ∷ 10080 ∷ []) ≡ begun at552 (polls 3 None) []
unfolding refusal request
no_minute = refl
