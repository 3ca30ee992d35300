use Rattle.std.proofs.Common.{ap, ◌∙◌}
use Prim.Native.Nat.{ℕ}
use Rattle.access.specs.Access.{opening}
use Rattle.access.specs.Frame.{acquire_by, release_by, frame_of}
use Rattle.access.specs.declared.frame.Frame.{Frame}
use Rattle.access.specs.Body.{list_from}
use Rattle.hardware.specs.Talk.{and_then}
use Rattle.jobs.specs.List.{list_of}
use Rattle.reference.specs.Sync.{with_values, held_taken}
use Rattle.access.proofs.ListLaws.{listing_begun}
use Rattle.access.proofs.place.Begun.listing.Goals as goal

pub returns : goal.returns
unfolding opening
returns c = let g = c.args in
    listing_begun g.port g.phy g.pairs (list_of g.block.now)
    ∙ ap (λ (m : ℕ). and_then (acquire_by (frame_of g.port m)) (held_taken with_values (release_by (frame_of g.port m)) (list_from g.phy 0 g.pairs (list_of g.block.now)))) c.mask.ensures
    ∙ ap (λ (f : Frame). and_then (acquire_by f) (held_taken with_values (release_by f) (list_from g.phy 0 g.pairs (list_of g.block.now)))) c.of.ensures
    ∙ c.acquire.ensures
