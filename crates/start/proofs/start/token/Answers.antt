use Rattle.after.proofs.Laws.{token_begun}
use Rattle.start.proofs.start.token.Goals as goal

pub returns : goal.returns
returns c = simp (c.put.ensures.words, token_begun)
