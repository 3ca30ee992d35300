use Rattle.sync.specs.Sync.{give_bits}
use Rattle.access.specs.declared.place.CommandPlace.TheVariants as command
use Rattle.long.proofs.Laws.{synced_begun}
use Rattle.long.proofs.command.Long.exchanged.Goals as goal

pub returns-in-Done : goal.returns-in-Done
returns-in-Done c = λ b. simp (c.in-Done.is, synced_begun give_bits c.args.frame (command.Releasing c.in-Done.status) b _ c.command.ensures c.give-begun.ensures)
