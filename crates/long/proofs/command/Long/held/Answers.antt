use Rattle.std.proofs.Common.{ap, ◌∙◌}
use Rattle.long.specs.Command.{exchange_ended}
use Rattle.long.proofs.command.Long.held.Goals as goal

pub returns-in-Ok : goal.returns-in-Ok
returns-in-Ok c = λ b. simp (c.in-Acquiring.is, c.in-Ok.is) (c.exchanged.ensures b ∙ ap (exchange_ended c.args.frame) (c.start.ensures b))
