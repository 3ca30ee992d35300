-- Every operation with one pause is the operation with another, with its sideband waits replaced
use Rattle.std.proofs.Common.{le-ltb}
use Prim.Native.Nat.{ℕ, ◌≤◌}
use native.Mathlib.Omega.{arith}
use lib.Dec.{eqb, ltb}
use borrow.Author.Tests.{ne_eqb}
use mathlib.Core.Path.{◌≡◌, refl}
use mathlib.Core.Bool.{false, ◌||◌}
use mathlib.Core.List.{List, []}
use Rattle.hardware.specs.Talk.{Call, is_clear}
use Rattle.hardware.specs.declared.Family.{Family}
use Rattle.hardware.specs.declared.Port.{Port}
use Rattle.answers.specs.declared.Value.{Value}
use Rattle.reference.specs.Hardware as hardware
use Rattle.reference.specs.Out.{answer}
use Rattle.reference.specs.Pauses.{paced, with_pause}
use Rattle.operations.specs.Operations.{operation_with}
use Rattle.operations.specs.Pairs.{pairs_of}
use Rattle.operations.specs.Request.{request, refused}
use Rattle.operations.proofs.Computing.{computing}
use Rattle.hardware.specs.Refusal.{refusal}
use Rattle.operations.specs.Windows.{inside}
use Rattle.operations.specs.declared.Operation.{Operation}
use Rattle.operations.specs.declared.Operation.TheVariants as operationv
use Rattle.reference.proofs.Alike.{Same, Still, at_end, alike_paced, ends, bind, picks, reads, keeps, lends}
use Rattle.reference.proofs.Pauses.Hostif.{of_command, of_token, of_activity}
use Rattle.reference.proofs.Pauses.Acquire.{of_acquire, of_release}
use Rattle.reference.proofs.Pauses.Mdio.{of_read_reg, of_list, of_write_reg, of_modify, of_probe, of_scan, of_reset, of_abilities, of_advertise, of_an_link}
use Rattle.reference.proofs.Pauses.X552.{of_kr_read, of_kr_write, of_kr_modify, of_restart, of_autoneg, of_nvm}
use Rattle.reference.proofs.Pauses.X553.{of_family_reset, of_bringup, of_window_poll}

module _ {p q : ℕ} where
  of_answer : {A : Type 0} (f : A → Value) {t t' : Call A} → Same p q t t' → Same p q (answer f t) (answer f t')
  of_answer f w = keeps [] (bind w (λ a. ends))

  of_linked : (family : Family) (value : ℕ) → Still p q (hardware.linked family value)
  unfolding hardware.linked
  of_linked family value = picks (is_clear value 0x40000000) ends ends

module _ (p q : ℕ) (port : Port) where
  alike : (what : Operation) (ws : List ℕ) → Same p q (operation_with p port what ws) (operation_with q port what ws)
  alike operationv.Veto ws = of_answer _ (bind (reads refl) (λ mmngc. ends))
  alike operationv.Link ws = of_answer _ (bind (reads refl) (of_linked port.family))
  alike (operationv.Acquire mask) ws = of_answer _ (of_acquire port mask)
  alike (operationv.Release mask) ws = of_answer _ (of_release port mask)
  alike operationv.Command ws = lends (of_command port ws) (λ c e status b. at_end e)
  alike (operationv.Token take) ws = of_answer _ (of_token port take)
  alike (operationv.PhyActivity asked) ws = of_answer _ (of_activity port asked.activity asked.data.w0 asked.data.w1 asked.data.w2 asked.data.w3)
  alike (operationv.ReadReg phy device register) ws = of_answer _ (of_read_reg port phy device register)
  alike (operationv.MdioList phy) ws = lends (of_list port phy (pairs_of ws)) (λ c e _ values. at_end e)
  alike (operationv.WriteReg phy device register value) ws = of_answer _ (of_write_reg port phy device register value)
  alike (operationv.Modify at) ws = of_answer _ (of_modify port at.phy at.device at.register at.keep at.set)
  alike (operationv.Probe phy) ws = of_answer _ (of_probe port phy)
  alike operationv.Scan ws = of_answer _ (of_scan port)
  alike (operationv.Reset phy x557) ws = of_answer _ (of_reset port phy x557)
  alike (operationv.Abilities phy) ws = of_answer _ (of_abilities port phy)
  alike (operationv.Advertise asked) ws = of_answer _ (of_advertise port asked.phy asked.speeds asked.nbase asked.veto)
  alike (operationv.AnLink phy) ws = of_answer _ (of_an_link port phy)
  alike (operationv.KrRead address) ws = of_answer _ (of_kr_read p q port address)
  alike (operationv.KrWrite address value) ws = of_answer _ (of_kr_write p q port address value)
  alike (operationv.KrModify c) ws = of_answer _ (of_kr_modify p q port c.port0 c.keep c.set)
  alike operationv.RestartAn ws = of_answer _ (of_restart p q port)
  alike (operationv.KrAutoneg kr kx) ws = of_answer _ (of_autoneg p q port kr kx)
  alike (operationv.NvmWord word) ws = of_answer _ (of_nvm port word)
  alike operationv.AfterReset ws = of_answer _ (of_family_reset port port.family)
  alike (operationv.Bringup veto) ws = keeps [] (of_bringup p q port veto)
  alike (operationv.Poll w minute) ws = of_answer _ (of_window_poll p q port (inside minute ws) w.phy w.internal w.forced w.reforced)

pub operation_paced : (p q : ℕ) (port : Port) (what : Operation) (ws : List ℕ)
    → paced p false (operation_with q port what ws) ≡ operation_with p port what ws
operation_paced p q port what ws = alike_paced (alike p q port what ws)

-- a pause that may be set
pub is_set : (p : ℕ) → 1 ≤ p → p ≤ 100 → (eqb p 0 || ltb 100 p) ≡ false
is_set p h k = rw (ne_eqb p 0 (omega arith), le-ltb _ _ k) refl

-- a port's pause is for the sideband alone, and what else may be turned away is turned away with any
module _ (p : ℕ) (port : Port) (h : (eqb p 0 || ltb 100 p) ≡ false) (k : (eqb port.pause 0 || ltb 100 port.pause) ≡ false) where
  pub same_else : (what : Operation) (ws : List ℕ)
      → (operation_with p (with_pause p port) what ws ≡ operation_with p port what ws) × (refused (with_pause p port) what ws ≡ refused port what ws)
  unfolding computing request refusal
  same_else operationv.Veto ws = (refl, rw (h, k) refl)
  same_else operationv.Link ws = (refl, rw (h, k) refl)
  same_else (operationv.Acquire mask) ws = (refl, rw (h, k) refl)
  same_else (operationv.Release mask) ws = (refl, rw (h, k) refl)
  same_else operationv.Command ws = (refl, rw (h, k) refl)
  same_else (operationv.Token take) ws = (refl, rw (h, k) refl)
  same_else (operationv.PhyActivity asked) ws = (refl, rw (h, k) refl)
  same_else (operationv.ReadReg phy device register) ws = (refl, rw (h, k) refl)
  same_else (operationv.MdioList phy) ws = (refl, rw (h, k) refl)
  same_else (operationv.WriteReg phy device register value) ws = (refl, rw (h, k) refl)
  same_else (operationv.Modify at) ws = (refl, rw (h, k) refl)
  same_else (operationv.Probe phy) ws = (refl, rw (h, k) refl)
  same_else operationv.Scan ws = (refl, rw (h, k) refl)
  same_else (operationv.Reset phy x557) ws = (refl, rw (h, k) refl)
  same_else (operationv.Abilities phy) ws = (refl, rw (h, k) refl)
  same_else (operationv.Advertise asked) ws = (refl, rw (h, k) refl)
  same_else (operationv.AnLink phy) ws = (refl, rw (h, k) refl)
  same_else (operationv.KrRead address) ws = (refl, rw (h, k) refl)
  same_else (operationv.KrWrite address value) ws = (refl, rw (h, k) refl)
  same_else (operationv.KrModify c) ws = (refl, rw (h, k) refl)
  same_else operationv.RestartAn ws = (refl, rw (h, k) refl)
  same_else (operationv.KrAutoneg kr kx) ws = (refl, rw (h, k) refl)
  same_else (operationv.NvmWord word) ws = (refl, rw (h, k) refl)
  same_else operationv.AfterReset ws = (refl, rw (h, k) refl)
  same_else (operationv.Bringup veto) ws = (refl, rw (h, k) refl)
  same_else (operationv.Poll w minute) ws = (refl, rw (h, k) refl)
