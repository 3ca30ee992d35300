use Rattle.std.proofs.Common.{[], ap, ◌∙◌}
use Prim.Native.Nat.{ℕ}
use Rattle.hardware.specs.Talk.{Call}
use Rattle.hardware.specs.Block.{keep}
use Rattle.access.specs.Frame.{locked_by}
use Rattle.access.specs.Body.{held_talk}
use Rattle.access.specs.Access.{opening}
use Rattle.access.specs.declared.frame.Frame.{Frame}
use Rattle.access.proofs.Chosen.{locked_lem}
use Rattle.access.proofs.place.Begun.under.Goals as goal

pub returns : goal.returns
unfolding opening
returns c = let g = c.args in
    ap (λ (t : Call ℕ). keep t []) (locked_lem g.port g.mask (held_talk g.held))
    ∙ ap (λ (f : Frame). keep (locked_by f (held_talk g.held)) []) c.of.ensures
    ∙ c.acquire.ensures
