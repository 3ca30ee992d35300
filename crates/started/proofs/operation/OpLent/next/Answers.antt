use Rattle.std.proofs.Common.{List, ap, ◌∙◌}
use Prim.Native.Nat.{ℕ}
use Rattle.hardware.specs.Talk.{Talk, Res, and_then}
use Rattle.after.specs.After.{resume_after}
use Rattle.started.proofs.operation.OpLent.next.Goals as goal

pub returns : goal.returns
returns c = let g = c.args in
    c.stepped.ensures ∙ ap (λ (t : Talk (Res ℕ × List ℕ)). and_then t (λ p. resume_after g.port g.self.after p.0 p.1)) c.next-step.ensures
