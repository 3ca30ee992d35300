use Rattle.after.proofs.Laws.{nothing_begun}
use Rattle.start.proofs.start.kr_write.Goals as goal

pub returns : goal.returns
returns c = λ b. simp nothing_begun
