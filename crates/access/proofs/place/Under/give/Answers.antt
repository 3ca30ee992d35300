use Rattle.sync.specs.Sync.{give_bits}
use Rattle.access.proofs.Asks.{sync_begun}
use Rattle.access.specs.declared.place.SyncFor.TheVariants as why
use Rattle.access.proofs.place.Under.give.Goals as goal

pub returns : goal.returns
returns c = λ b. sync_begun give_bits c.args.self (why.Bits c.args.place) b _ c.bits.ensures c.give.ensures (c.begun.ensures b)
