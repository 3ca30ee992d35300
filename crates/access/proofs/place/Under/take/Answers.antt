use Rattle.sync.specs.Sync.{take_bits}
use Rattle.access.proofs.Asks.{sync_begun}
use Rattle.access.specs.declared.place.SyncFor.TheVariants as why
use Rattle.access.proofs.place.Under.take.Goals as goal

pub returns : goal.returns
returns c = λ b. sync_begun take_bits c.args.self (why.Bits c.args.place) b _ c.bits.ensures c.take.ensures (c.begun.ensures b)
