use mathlib.Core.Path.{refl, sym, ◌∙◌}
use Rattle.sync.specs.Sync.{give_bits}
use Rattle.access.proofs.Asks.{sync_begun}
use Rattle.access.specs.declared.place.CommandPlace.TheVariants as command
use Rattle.access.specs.declared.place.SyncFor.TheVariants as why
use Rattle.access.proofs.place.Under.exchanged.Goals as goal

pub returns-in-Done : goal.returns-in-Done
returns-in-Done c = λ b. simp (c.in-Done.is) (c.asked.ensures b ∙ sym (sync_begun give_bits c.args.self (why.Command c.args.whose (command.Releasing c.in-Done.result)) b _ c.command.ensures c.give.ensures (c.begun.ensures b)))

pub returns-in-Ask : goal.returns-in-Ask
returns-in-Ask c = λ b. simp (c.in-Ask.is) refl
