use Rattle.kr.proofs.Laws.{restart_first}
use Rattle.kr.proofs.sequence.Sequence.restart.Goals as goal

pub returns : goal.returns
returns c = λ b. simp (c.begin.ensures, restart_first)
