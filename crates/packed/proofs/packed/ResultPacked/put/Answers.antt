use Rattle.packed.proofs.Laws.{then}
use Rattle.packed.specs.Packed.{words_result}
use Rattle.packed.proofs.packed.ResultPacked.put.Goals as goal

pub returns-in-Ok-clause-adds : goal.returns-in-Ok-clause-adds
unfolding words_result
returns-in-Ok-clause-adds g c =
    rw c.in-Ok.is (then c.word-at.ensures (then c.put-at.ensures.adds (rw (c.width.ensures, c.width-in-Ok.ensures) at c.pad.ensures)))

pub returns-in-Err-clause-adds : goal.returns-in-Err-clause-adds
unfolding words_result
returns-in-Err-clause-adds g c =
    rw c.in-Err.is (then c.word-at-in-Err.ensures (then c.put-at-in-Err.ensures.adds (rw (c.width-in-Err.ensures, c.width-in-Err-2.ensures) at c.pad-in-Err.ensures)))
