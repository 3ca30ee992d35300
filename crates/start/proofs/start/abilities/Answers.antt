use Rattle.after.proofs.Laws.{abilities_begun}
use Rattle.start.proofs.start.abilities.Goals as goal

pub returns : goal.returns
returns c = λ b. abilities_begun _ _
