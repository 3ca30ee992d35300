use Rattle.std.proofs.Common.{ap, ◌∙◌}
use Rattle.drive.specs.Moves.{stays}
use Rattle.calls.proofs.Laws.{run_ended}
use Rattle.conversation.specs.Run.{shown_of}
use Rattle.conversation.specs.declared.run.Ran.{Ran}
use Rattle.conversation.proofs.Laws.{at_place}
use Rattle.conversation.proofs.run.run_on.Goals as goal

pub returns-in-LentDone-clause-t_after : goal.returns-in-LentDone-clause-t_after
returns-in-LentDone-clause-t_after c =
    ap (λ (r : Ran). shown_of r c.args.words.now c.args.t.now) c.refused.ensures
    ∙ run_ended c.args.c.port stays (at_place c.args.c c.args.words.now c.in-LentDone.is)
