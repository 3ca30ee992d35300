use Prim.Native.Nat.{ℕ}
use mathlib.Core.Path.{◌≡◌}
use native.Mathlib.Omega.{arith}
use Rattle.hardware.proofs.Laws.{times_more, carry_more}
use Rattle.sync.specs.Sync.{taken}
use Rattle.sync.proofs.sync.SyncCall.take.Goals as goal

tries : ◌≡◌ {A = ℕ} 1000 0 → ⊥
tries h = omega (arith, h)

reads : ◌≡◌ {A = ℕ} 2000 0 → ⊥
reads h = omega (arith, h)

pub returns : goal.returns
unfolding taken
returns c = simp (carry_more tries, times_more reads)
