-- The 26 operations: which function of the Rust each is
use Rattle.std.specs.Prelude.{ℕ, List, [], length}
use Rattle.hardware.specs.Talk.{Talk}
use Rattle.hardware.specs.Block.{keep}
use Rattle.hardware.specs.Block as blk
use Rattle.hardware.specs.declared.Port.{Port}
use Rattle.answers.specs.declared.Value.TheVariants as valuev
use Rattle.reference.specs.Acquire as sync
use Rattle.reference.specs.Bringup.{after_reset, bringup}
use Rattle.reference.specs.Hardware as hardware
use Rattle.reference.specs.Hostif as hostif
use Rattle.reference.specs.Mdio as mdio
use Rattle.reference.specs.Out.{Out, answer, nothing, poll_value}
use Rattle.reference.specs.Window.{window_poll}
use Rattle.reference.specs.X552 as x552
use Rattle.operations.specs.Pairs.{pairs_of}
use Rattle.operations.specs.Windows.{inside}
use Rattle.operations.specs.declared.Operation.{Operation}
use Rattle.operations.specs.declared.Operation.TheVariants as operationv

-- a list's answer: as many values as it has pairs
abbrev pub list_operation : Port → ℕ → List (ℕ × ℕ) → Talk Out
list_operation port phy pairs =
    blk.◌>>=◌ (λ _. mdio.mdio_list port phy pairs) (λ _. blk.return (valuev.List (length pairs))) []

-- `pause`: the microseconds of the sideband's wait; `ws`: the words that are lent, the host block of a `command`, the pairs of an
-- `mdio_list` or the windows of a `poll`; no other operation makes use of any
abbrev pub operation_with : ℕ → Port → Operation → List ℕ → Talk Out
operation_with pause port operationv.Veto ws = answer valuev.Flag hardware.veto
operation_with pause port operationv.Link ws = answer valuev.Link (hardware.link port.family)
operation_with pause port (operationv.Acquire mask) ws = answer nothing (sync.acquire port mask)
operation_with pause port (operationv.Release mask) ws = answer nothing (sync.release port mask)
operation_with pause port operationv.Command ws =
    blk.◌>>=◌ (hostif.command port) (λ status. blk.return (valuev.Command status (length ws))) ws
operation_with pause port (operationv.Token take) ws = answer valuev.Flag (hostif.token port take)
operation_with pause port (operationv.PhyActivity asked) ws =
    answer valuev.Activity (hostif.phy_activity port asked.activity asked.data.w0 asked.data.w1 asked.data.w2 asked.data.w3)
operation_with pause port (operationv.ReadReg phy device register) ws = answer valuev.Word (mdio.read_reg port phy device register)
operation_with pause port (operationv.MdioList phy) ws = list_operation port phy (pairs_of ws)
operation_with pause port (operationv.WriteReg phy device register value) ws =
    answer nothing (mdio.write_reg port phy device register value)
operation_with pause port (operationv.Modify at) ws = answer valuev.Word (mdio.modify port at.phy at.device at.register at.keep at.set)
operation_with pause port (operationv.Probe phy) ws = answer valuev.Probe (mdio.probe port phy)
operation_with pause port operationv.Scan ws = answer valuev.Scan (mdio.scan port)
operation_with pause port (operationv.Reset phy x557) ws = answer nothing (mdio.reset port phy x557)
operation_with pause port (operationv.Abilities phy) ws = answer valuev.Abilities (mdio.abilities port phy)
operation_with pause port (operationv.Advertise asked) ws =
    answer valuev.Flag (mdio.advertise port asked.phy asked.speeds asked.nbase asked.veto)
operation_with pause port (operationv.AnLink phy) ws = answer valuev.Flag (mdio.an_link port phy)
operation_with pause port (operationv.KrRead address) ws = answer valuev.Word (x552.kr_read pause port address)
operation_with pause port (operationv.KrWrite address value) ws = answer nothing (x552.kr_write pause port address value)
operation_with pause port (operationv.KrModify c) ws = answer valuev.Word (x552.kr_modify pause port c.port0 c.keep c.set)
operation_with pause port operationv.RestartAn ws = answer valuev.Word (x552.restart_an pause port)
operation_with pause port (operationv.KrAutoneg kr kx) ws = answer valuev.Word (x552.kr_autoneg pause port kr kx)
operation_with pause port (operationv.NvmWord word) ws = answer valuev.Word (x552.nvm_word port word)
operation_with pause port operationv.AfterReset ws = answer nothing (after_reset port port.family)
operation_with pause port (operationv.Bringup veto) ws = keep (bringup pause port veto) []
operation_with pause port (operationv.Poll w minute) ws =
    answer poll_value (window_poll (inside minute ws) pause port w.phy w.internal w.forced w.reforced)

-- with the port's own pause; the Rust's is 10
abbrev pub operation : Port → Operation → List ℕ → Talk Out
operation port = operation_with port.pause port
