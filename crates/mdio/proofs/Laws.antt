-- write_reg's closure, regrouped as the machine goes through it
use Rattle.hardware.specs.Talk.{Call, ask, ◌>>◌, write, return}
use Rattle.hardware.specs.declared.Action.TheVariants as action
use Prim.Native.Nat.{ℕ}
use mathlib.Core.Path.{◌≡◌, ap, sym, ◌∙◌}
use lib.Bits.{bit_or}
use Rattle.words.specs.Mdio.{OP-WRITE}
use Rattle.reference.specs.Mdio.{cycle}
use Rattle.reference.proofs.Laws.{bind_assoc}
use Rattle.mdio.specs.Mdio.{body_of, address_of, mdio_addressed, resume_mdio}
use Rattle.mdio.specs.declared.mdio.Mdio.TheVariants.{Value}
use Rattle.mdio.specs.declared.mdio.Wanted.{Wanted}
use Rattle.mdio.specs.declared.mdio.Wanted.TheVariants as wanted

abbrev zero : Unit {0} → Call ℕ
zero _ = return 0

pub read_begun : (w : Wanted) {a : ℕ} → w ≡ wanted.Read a → body_of w ≡ mdio_addressed w (cycle (address_of w))
read_begun w e = rw e

regrouped : (a v : ℕ) → body_of (wanted.Write a v) ≡ write 0x4260 v >> mdio_addressed (wanted.Write a v) (cycle a)
regrouped a v =
    bind_assoc (write 0x4260 v) (λ _. cycle a >> cycle (bit_or a OP-WRITE)) zero
    ∙ ap (λ (t : Call ℕ). write 0x4260 v >> t) (bind_assoc (cycle a) (λ _. cycle (bit_or a OP-WRITE)) zero)

pub write_begun : (w : Wanted) {a v : ℕ} → w ≡ wanted.Write a v → ask (action.Write 0x4260 v) (resume_mdio w Value) ≡ body_of w
write_begun w {a} {v} e = rw e (sym (regrouped a v))
