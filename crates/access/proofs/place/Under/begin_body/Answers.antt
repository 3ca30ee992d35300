use Rattle.std.proofs.Common.{[], ap, ◌∙◌, sym}
use Prim.Native.Nat.{ℕ}
use Rattle.hardware.specs.Talk.{Call, and_then}
use Rattle.access.specs.Access.{bodies_then, body_got}
use Rattle.access.specs.Frame.{release_by}
use Rattle.access.specs.Body.{told_body}
use Rattle.access.specs.declared.place.HoldFor.{HoldFor}
use Rattle.jobs.specs.List.{list_of}
use Rattle.access.proofs.ListLaws.{alone}
use Rattle.access.proofs.place.Under.begin_body.Goals as goal

pub returns : goal.returns
returns c = let g = c.args in
    c.bodied.ensures
    ∙ ap (λ (h : HoldFor). bodies_then g.self.frame (and_then (told_body c.start-step.new.block c.start-step.result) (body_got h (list_of c.start-step.new.block)))) c.requires
    ∙ sym (alone (release_by g.self.frame) (told_body c.start-step.new.block c.start-step.result))
    ∙ ap (λ (t : Call ℕ). Rattle.hardware.specs.Block.keep (and_then t (Rattle.reference.specs.Sync.held_done (Rattle.reference.specs.Sync.plain {A = ℕ}) (release_by g.self.frame))) []) c.start-step.ensures
