use Rattle.std.proofs.Common.{sym, ◌∙◌}
use Rattle.access.proofs.Asks.{ask_begun}
use Rattle.access.proofs.place.Under.ask.Goals as goal

pub returns : goal.returns
returns c = c.asked.ensures _ ∙ sym (ask_begun c.args.self _ c.args.left c.token.ensures)
