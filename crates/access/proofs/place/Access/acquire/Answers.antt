use Rattle.std.proofs.Common.{sym, ap, ◌∙◌}
use Rattle.jobs.specs.Job.{no_word}
use Rattle.access.specs.Frame.{acquire_by}
use Rattle.access.specs.Access.{opening}
use Rattle.access.specs.declared.frame.Frame.{Frame}
use Rattle.access.proofs.Chosen.{acquire_lem}
use Rattle.access.proofs.place.Access.acquire.Goals as goal

pub returns : goal.returns
unfolding opening
returns c = let g = c.args in
    c.asked.ensures _ ∙ sym c.acquire.ensures
    ∙ ap (λ (f : Frame). no_word (acquire_by f)) (sym c.of.ensures)
    ∙ ap no_word (sym (acquire_lem g.port g.mask))
