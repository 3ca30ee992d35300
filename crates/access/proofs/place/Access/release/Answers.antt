use Rattle.std.proofs.Common.{sym, ap, ◌∙◌}
use Rattle.jobs.specs.Job.{no_word}
use Rattle.access.specs.Frame.{release_by}
use Rattle.access.specs.Access.{closing}
use Rattle.access.specs.declared.frame.Frame.{Frame}
use Rattle.access.proofs.Chosen.{release_lem}
use Rattle.access.proofs.place.Access.release.Goals as goal

pub returns : goal.returns
unfolding closing
returns c = let g = c.args in
    c.release.ensures
    ∙ ap (λ (f : Frame). no_word (release_by f)) (sym c.of.ensures)
    ∙ ap no_word (sym (release_lem g.port g.mask))
