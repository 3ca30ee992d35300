-- Every operation's actions and microseconds at the most
use Prim.Native.Nat.{ℕ, ◌^◌, ◌≤◌, ◌<◌}
use mathlib.Core.Bool.{Bool}
use mathlib.Core.List.{List, []}
use native.Mathlib.Omega.{arith}
use lib.Dec.{eqb}
use Rattle.hardware.specs.Bound.{Within, at_end}
use Rattle.hardware.specs.Talk.{Call, is_clear}
use Rattle.hardware.specs.declared.Family.{Family}
use Rattle.hardware.specs.declared.Family.TheVariants as familyv
use Rattle.hardware.specs.declared.Port.{Port}
use Rattle.hardware.proofs.Bounds.{within_more, within_pick}
use Rattle.answers.specs.declared.Value.{Value}
use Rattle.reference.specs.Hardware as hardware
use Rattle.reference.specs.X552 as x552
use Rattle.reference.specs.Bringup.{after_reset, bringup553, bringup_of, bringup}
use Rattle.reference.specs.Out.{answer}
use Rattle.operations.specs.Operations.{operation_with, operation}
use Rattle.operations.specs.Pairs.{pairs_of}
use Rattle.operations.specs.Request.{request}
use Rattle.operations.specs.Windows.{inside}
use Rattle.operations.specs.declared.Operation.{Operation}
use Rattle.operations.specs.declared.Operation.TheVariants as operationv
use Rattle.operations.specs.Bounds.{actions, micros}
use Rattle.reference.proofs.Within.{of_read, of_end, of_bind, of_keep, of_lent}
use Rattle.reference.proofs.Bounds.Hostif.{of_command, of_token, of_activity}
use Rattle.reference.proofs.Bounds.Acquire.{of_acquire, of_release}
use Rattle.reference.proofs.Bounds.Mdio.{
  of_read_reg,
  of_list,
  of_write_reg,
  of_modify,
  of_probe,
  of_scan,
  of_reset,
  of_abilities,
  of_advertise,
  of_an_link,
}
use Rattle.reference.proofs.Bounds.X552.{of_kr_read, of_kr_write, of_kr_modify, of_restart, of_autoneg, of_nvm, of_prepare_copper}
use Rattle.reference.proofs.Bounds.X552 as bound552
use Rattle.reference.proofs.Bounds.X553.{of_window_poll}
use Rattle.reference.proofs.Bounds.X553 as bound553

of_answer : {A : Type 0} (f : A → Value) {t : Call A} {n m : ℕ} → Within t n m → Within (answer f t) n m
of_answer f w = of_keep [] (within_more (omega arith) (omega arith) (of_bind w (λ a. of_end)))

of_veto : Within hardware.veto 1 0
of_veto = of_bind (of_read 0x42d0) (λ mmngc. of_end)

of_linked : (family : Family) (value : ℕ) → Within (hardware.linked family value) 0 0
unfolding hardware.linked
of_linked family value = within_pick (is_clear value 0x40000000) at_end at_end

of_link : (family : Family) → Within (hardware.link family) 1 0
of_link family = of_bind (of_read 0x42a4) (of_linked family)

of_after_reset : (port : Port) (family : Family) → Within (after_reset port family) 2 0
of_after_reset port familyv.X552 = bound552.of_after_reset port
of_after_reset port familyv.X553 = bound553.of_after_reset port

module _ (pause : ℕ) (short : pause ≤ 100) (port : Port) where
  bring : (veto : Bool) (family : Family) → Within (bringup_of pause port veto family) 3843866921385 97848224736060
  bring veto familyv.X552 =
      within_pick (eqb port.device 0x15ad)
      (within_more (omega arith) (omega arith)
      (of_bind (of_prepare_copper port veto) (λ x. of_bind (bound552.of_setup pause short port veto (x552.copper x)) (λ s. of_end))))
      (within_more (omega arith) (omega arith) (of_bind (bound552.of_setup pause short port veto x552.nothing) (λ s. of_end)))
  bring veto familyv.X553 =
      bound553.of_prepare port veto {k = bringup553 pause port veto} (λ p. of_bind (bound553.of_setup pause short port veto p) (λ s. of_end))

  of_bringup : (veto : Bool) → Within (bringup pause port veto) 3843866921385 97848224736060
  unfolding bringup
  of_bringup veto = bring veto port.family

  pub operation_with_lem : (what : Operation) (ws : List ℕ) → Within (operation_with pause port what ws) (actions what ws) (micros what ws)
  operation_with_lem operationv.Veto ws = of_answer _ of_veto
  operation_with_lem operationv.Link ws = of_answer _ (of_link port.family)
  operation_with_lem (operationv.Acquire mask) ws = of_answer _ (of_acquire port mask)
  operation_with_lem (operationv.Release mask) ws = of_answer _ (of_release port mask)
  operation_with_lem operationv.Command ws = within_more (omega arith) (omega arith) (of_lent (of_command port ws) (λ status b. of_end))
  operation_with_lem (operationv.Token take) ws = of_answer _ (of_token port take)
  operation_with_lem (operationv.PhyActivity asked) ws = of_answer _ (of_activity port asked.activity asked.data.w0 asked.data.w1 asked.data.w2 asked.data.w3)
  operation_with_lem (operationv.ReadReg phy device register) ws = of_answer _ (of_read_reg port phy device register)
  operation_with_lem (operationv.MdioList phy) ws = within_more (omega arith) (omega arith) (of_lent (of_list port phy (pairs_of ws)) (λ _ values. of_end))
  operation_with_lem (operationv.WriteReg phy device register value) ws = of_answer _ (of_write_reg port phy device register value)
  operation_with_lem (operationv.Modify at) ws = of_answer _ (of_modify port at.phy at.device at.register at.keep at.set)
  operation_with_lem (operationv.Probe phy) ws = of_answer _ (of_probe port phy)
  operation_with_lem operationv.Scan ws = of_answer _ (of_scan port)
  operation_with_lem (operationv.Reset phy x557) ws = of_answer _ (of_reset port phy x557)
  operation_with_lem (operationv.Abilities phy) ws = of_answer _ (of_abilities port phy)
  operation_with_lem (operationv.Advertise asked) ws = of_answer _ (of_advertise port asked.phy asked.speeds asked.nbase asked.veto)
  operation_with_lem (operationv.AnLink phy) ws = of_answer _ (of_an_link port phy)
  operation_with_lem (operationv.KrRead address) ws = of_answer _ (of_kr_read pause short port address)
  operation_with_lem (operationv.KrWrite address value) ws = of_answer _ (of_kr_write pause short port address value)
  operation_with_lem (operationv.KrModify c) ws = of_answer _ (of_kr_modify pause short port c.port0 c.keep c.set)
  operation_with_lem operationv.RestartAn ws = of_answer _ (of_restart pause short port)
  operation_with_lem (operationv.KrAutoneg kr kx) ws = of_answer _ (of_autoneg pause short port kr kx)
  operation_with_lem (operationv.NvmWord word) ws = of_answer _ (of_nvm port word)
  operation_with_lem operationv.AfterReset ws = of_answer _ (of_after_reset port port.family)
  operation_with_lem (operationv.Bringup veto) ws = of_keep [] (of_bringup veto)
  operation_with_lem (operationv.Poll w minute) ws =
      of_answer _ (of_window_poll pause short port (inside minute ws) w.phy w.internal w.forced w.reforced)

pub operation_within : (port : Port) (what : Operation) (ws : List ℕ) → port.pause ≤ 100 → Within (operation port what ws) (actions what ws) (micros what ws)
operation_within port what ws short = operation_with_lem port.pause short port what ws

-- the counts of a conversation fit 63 bits
pub record Fits (what : Operation) (ws : List ℕ) : Type 0 where
  pub of_actions : actions what ws < 2 ^ 63
  pub of_micros : micros what ws < 2 ^ 63

pub operation_fits : (port : Port) (what : Operation) (ws : List ℕ) → (request port what ws).words ≤ 448 → (request port what ws).pairs ≤ 64 → Fits what ws
unfolding request
operation_fits port operationv.Veto ws h k = record { of_actions = omega arith; of_micros = omega arith }
operation_fits port operationv.Link ws h k = record { of_actions = omega arith; of_micros = omega arith }
operation_fits port (operationv.Acquire mask) ws h k = record { of_actions = omega arith; of_micros = omega arith }
operation_fits port (operationv.Release mask) ws h k = record { of_actions = omega arith; of_micros = omega arith }
operation_fits port operationv.Command ws h k = record { of_actions = omega arith; of_micros = omega arith }
operation_fits port (operationv.Token take) ws h k = record { of_actions = omega arith; of_micros = omega arith }
operation_fits port (operationv.PhyActivity asked) ws h k = record { of_actions = omega arith; of_micros = omega arith }
operation_fits port (operationv.ReadReg phy device register) ws h k = record { of_actions = omega arith; of_micros = omega arith }
operation_fits port (operationv.MdioList phy) ws h k = record { of_actions = omega (arith, k); of_micros = omega (arith, k) }
operation_fits port (operationv.WriteReg phy device register value) ws h k = record { of_actions = omega arith; of_micros = omega arith }
operation_fits port (operationv.Modify at) ws h k = record { of_actions = omega arith; of_micros = omega arith }
operation_fits port (operationv.Probe phy) ws h k = record { of_actions = omega arith; of_micros = omega arith }
operation_fits port operationv.Scan ws h k = record { of_actions = omega arith; of_micros = omega arith }
operation_fits port (operationv.Reset phy x557) ws h k = record { of_actions = omega arith; of_micros = omega arith }
operation_fits port (operationv.Abilities phy) ws h k = record { of_actions = omega arith; of_micros = omega arith }
operation_fits port (operationv.Advertise asked) ws h k = record { of_actions = omega arith; of_micros = omega arith }
operation_fits port (operationv.AnLink phy) ws h k = record { of_actions = omega arith; of_micros = omega arith }
operation_fits port (operationv.KrRead address) ws h k = record { of_actions = omega arith; of_micros = omega arith }
operation_fits port (operationv.KrWrite address value) ws h k = record { of_actions = omega arith; of_micros = omega arith }
operation_fits port (operationv.KrModify c) ws h k = record { of_actions = omega arith; of_micros = omega arith }
operation_fits port operationv.RestartAn ws h k = record { of_actions = omega arith; of_micros = omega arith }
operation_fits port (operationv.KrAutoneg kr kx) ws h k = record { of_actions = omega arith; of_micros = omega arith }
operation_fits port (operationv.NvmWord word) ws h k = record { of_actions = omega arith; of_micros = omega arith }
operation_fits port operationv.AfterReset ws h k = record { of_actions = omega arith; of_micros = omega arith }
operation_fits port (operationv.Bringup veto) ws h k = record { of_actions = omega arith; of_micros = omega arith }
operation_fits port (operationv.Poll w minute) ws h k = record { of_actions = omega arith; of_micros = omega arith }
