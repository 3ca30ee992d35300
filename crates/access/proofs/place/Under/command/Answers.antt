use Rattle.sync.specs.Sync.{take_bits}
use Rattle.access.proofs.Asks.{sync_begun}
use Rattle.access.specs.declared.place.CommandPlace.TheVariants as command
use Rattle.access.specs.declared.place.SyncFor.TheVariants as why
use Rattle.access.proofs.place.Under.command.Goals as goal

pub returns : goal.returns
returns c = λ b. sync_begun take_bits c.args.self (why.Command c.args.whose command.Acquiring) b _ c.command.ensures c.take.ensures (c.begun.ensures b)
