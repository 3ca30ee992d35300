-- The words that a request counts are lent; and a request's port
use Prim.Native.Nat.{ℕ, ◌<◌, ◌≤◌}
use mathlib.Core.Path.{◌≡◌, refl}
use mathlib.Core.List.{List}
use native.Mathlib.Omega.{arith}
use lib.ListN.{length, take}
use Rattle.hardware.specs.declared.Port.{Port}
use Rattle.operations.specs.Operations.{operation_with}
use Rattle.operations.specs.Request.{request}
use Rattle.operations.specs.declared.Operation.{Operation}
use Rattle.operations.specs.declared.Operation.TheVariants as operationv

pub words_lent : (port : Port) (what : Operation) (ws : List ℕ) → (request port what ws).words ≤ length ws
unfolding request
words_lent port operationv.Veto ws = omega arith
words_lent port operationv.Link ws = omega arith
words_lent port (operationv.Acquire mask) ws = omega arith
words_lent port (operationv.Release mask) ws = omega arith
words_lent port operationv.Command ws = omega arith
words_lent port (operationv.Token take) ws = omega arith
words_lent port (operationv.PhyActivity asked) ws = omega arith
words_lent port (operationv.ReadReg phy device register) ws = omega arith
words_lent port (operationv.MdioList phy) ws = omega arith
words_lent port (operationv.WriteReg phy device register value) ws = omega arith
words_lent port (operationv.Modify at) ws = omega arith
words_lent port (operationv.Probe phy) ws = omega arith
words_lent port operationv.Scan ws = omega arith
words_lent port (operationv.Reset phy x557) ws = omega arith
words_lent port (operationv.Abilities phy) ws = omega arith
words_lent port (operationv.Advertise asked) ws = omega arith
words_lent port (operationv.AnLink phy) ws = omega arith
words_lent port (operationv.KrRead address) ws = omega arith
words_lent port (operationv.KrWrite address value) ws = omega arith
words_lent port (operationv.KrModify c) ws = omega arith
words_lent port operationv.RestartAn ws = omega arith
words_lent port (operationv.KrAutoneg kr kx) ws = omega arith
words_lent port (operationv.NvmWord word) ws = omega arith
words_lent port operationv.AfterReset ws = omega arith
words_lent port (operationv.Bringup veto) ws = omega arith
words_lent port (operationv.Poll w minute) ws = omega arith

pub request_port : (port : Port) (what : Operation) (ws : List ℕ) → (request port what ws).port ≡ port
unfolding request
request_port port operationv.Veto ws = refl
request_port port operationv.Link ws = refl
request_port port (operationv.Acquire mask) ws = refl
request_port port (operationv.Release mask) ws = refl
request_port port operationv.Command ws = refl
request_port port (operationv.Token take) ws = refl
request_port port (operationv.PhyActivity asked) ws = refl
request_port port (operationv.ReadReg phy device register) ws = refl
request_port port (operationv.MdioList phy) ws = refl
request_port port (operationv.WriteReg phy device register value) ws = refl
request_port port (operationv.Modify at) ws = refl
request_port port (operationv.Probe phy) ws = refl
request_port port operationv.Scan ws = refl
request_port port (operationv.Reset phy x557) ws = refl
request_port port (operationv.Abilities phy) ws = refl
request_port port (operationv.Advertise asked) ws = refl
request_port port (operationv.AnLink phy) ws = refl
request_port port (operationv.KrRead address) ws = refl
request_port port (operationv.KrWrite address value) ws = refl
request_port port (operationv.KrModify c) ws = refl
request_port port operationv.RestartAn ws = refl
request_port port (operationv.KrAutoneg kr kx) ws = refl
request_port port (operationv.NvmWord word) ws = refl
request_port port operationv.AfterReset ws = refl
request_port port (operationv.Bringup veto) ws = refl
request_port port (operationv.Poll w minute) ws = refl

-- where more words are lent than a conversation keeps, the operation is a command
pub long_words : (port : Port) (what : Operation) (ws : List ℕ) → 16 < (request port what ws).words
    → (operation_with port.pause port what ws ≡ operation_with port.pause port operationv.Command ws) × ((request port what ws).words ≡ length ws)
unfolding request
long_words port operationv.Veto ws h = absurd (omega (arith, h))
long_words port operationv.Link ws h = absurd (omega (arith, h))
long_words port (operationv.Acquire mask) ws h = absurd (omega (arith, h))
long_words port (operationv.Release mask) ws h = absurd (omega (arith, h))
long_words port operationv.Command ws h = (refl, refl)
long_words port (operationv.Token take) ws h = absurd (omega (arith, h))
long_words port (operationv.PhyActivity asked) ws h = absurd (omega (arith, h))
long_words port (operationv.ReadReg phy device register) ws h = absurd (omega (arith, h))
long_words port (operationv.MdioList phy) ws h = absurd (omega (arith, h))
long_words port (operationv.WriteReg phy device register value) ws h = absurd (omega (arith, h))
long_words port (operationv.Modify at) ws h = absurd (omega (arith, h))
long_words port (operationv.Probe phy) ws h = absurd (omega (arith, h))
long_words port operationv.Scan ws h = absurd (omega (arith, h))
long_words port (operationv.Reset phy x557) ws h = absurd (omega (arith, h))
long_words port (operationv.Abilities phy) ws h = absurd (omega (arith, h))
long_words port (operationv.Advertise asked) ws h = absurd (omega (arith, h))
long_words port (operationv.AnLink phy) ws h = absurd (omega (arith, h))
long_words port (operationv.KrRead address) ws h = absurd (omega (arith, h))
long_words port (operationv.KrWrite address value) ws h = absurd (omega (arith, h))
long_words port (operationv.KrModify c) ws h = absurd (omega (arith, h))
long_words port operationv.RestartAn ws h = absurd (omega (arith, h))
long_words port (operationv.KrAutoneg kr kx) ws h = absurd (omega (arith, h))
long_words port (operationv.NvmWord word) ws h = absurd (omega (arith, h))
long_words port operationv.AfterReset ws h = absurd (omega (arith, h))
long_words port (operationv.Bringup veto) ws h = absurd (omega (arith, h))
long_words port (operationv.Poll w minute) ws h = absurd (omega (arith, h))
