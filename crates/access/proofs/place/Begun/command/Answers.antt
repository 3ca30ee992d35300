use Rattle.std.proofs.Common.{take, ap, ◌∙◌}
use Rattle.access.specs.Frame.{command_by}
use Rattle.access.specs.declared.frame.Frame.{Frame}
use Rattle.access.proofs.Chosen.{command_lem}
use Rattle.access.proofs.place.Begun.command.Goals as goal

pub returns : goal.returns
returns c = λ b. command_lem c.args.port 0x400 (take c.args.words b) ∙ ap (λ (f : Frame). command_by f (take c.args.words b)) c.of.ensures ∙ c.command.ensures b
