use Prim.Native.Nat.{ℕ}
use mathlib.Core.Path.{◌≡◌}
use native.Mathlib.Omega.{arith}
use Rattle.hardware.proofs.Laws.{times_more}
use Rattle.sync.specs.Sync.{given}
use Rattle.sync.proofs.sync.SyncCall.give.Goals as goal

reads : ◌≡◌ {A = ℕ} 2000 0 → ⊥
reads h = omega (arith, h)

pub returns-else-self : goal.returns-else-self
unfolding given
returns-else-self c = simp (c.if-self.false, times_more reads)
