-- Actions and microseconds of every operation at the most, for a sideband's wait of up to 100 microseconds. Not the least
-- such numbers
use Rattle.std.specs.Prelude.{ℕ, ◌+◌, ◌*◌, List, length}
use Rattle.operations.specs.Pairs.{pairs_of}
use Rattle.operations.specs.declared.Operation.{Operation}
use Rattle.operations.specs.declared.Operation.TheVariants as operationv

-- actions, and microseconds; of a command by the words of its block, of a list by its pairs
abbrev pub most : Operation → List ℕ → ℕ × ℕ
most operationv.Veto ws = (1, 0)
most operationv.Link ws = (1, 0)
most (operationv.Acquire mask) ws = (16142100000, 410909000000)
most (operationv.Release mask) ws = (8129099, 205904000)
most operationv.Command ws = (length ws + 8121083, 205702000)
most (operationv.Token take) ws = (8121085, 205702000)
most (operationv.PhyActivity asked) ws = (406054500, 10285101000)
most (operationv.ReadReg phy device register) ws = (16150229502, 411114906000)
most (operationv.MdioList phy) ws = (16150229099 + 403 * length (pairs_of ws), 411114904000 + 2000 * length (pairs_of ws))
most (operationv.WriteReg phy device register value) ws = (16150229502, 411114906000)
most (operationv.Modify at) ws = (32300459004, 822229812000)
most (operationv.Probe phy) ws = (32300459004, 822229812000)
most operationv.Scan ws = (1033614688128, 26311353984000)
most (operationv.Reset phy x557) ws = (1001314229184, 25489127172060)
most (operationv.Abilities phy) ws = (16150229502, 411114906000)
most (operationv.Advertise asked) ws = (129201836016, 3288919248000)
most (operationv.AnLink phy) ws = (32300459004, 822229812000)
most (operationv.KrRead address) ws = (8021416, 205222000)
most (operationv.KrWrite address value) ws = (8021416, 205222000)
most (operationv.KrModify c) ws = (16042832, 410444000)
most operationv.RestartAn ws = (32085664, 820888000)
most (operationv.KrAutoneg kr kx) ws = (64171328, 1641776000)
most (operationv.NvmWord word) ws = (8121023, 205702000)
most operationv.AfterReset ws = (2, 0)
most (operationv.Bringup veto) ws = (3843866921385, 97848224736060)
most (operationv.Poll w minute) ws = (80863447334, 2058447638000)

abbrev pub actions : Operation → List ℕ → ℕ
actions what ws = (most what ws).0

abbrev pub micros : Operation → List ℕ → ℕ
micros what ws = (most what ws).1
