use Rattle.packed.proofs.Laws.{then}
use Rattle.packed.specs.Activity.{words_activity}
use Rattle.packed.proofs.p_activity.ActivityPacked.put.Goals as goal

pub returns-in-Exchanging-clause-adds : goal.returns-in-Exchanging-clause-adds
unfolding words_activity
returns-in-Exchanging-clause-adds c = rw c.in-Exchanging.is (then c.word-at.ensures (then c.word-at-in-Exchanging.ensures c.word.ensures))

pub returns-in-Pausing-clause-adds : goal.returns-in-Pausing-clause-adds
unfolding words_activity
returns-in-Pausing-clause-adds c = rw c.in-Pausing.is (then c.word-at-in-Pausing.ensures (then c.word-at-in-Pausing-2.ensures (rw c.wide_byte.ensures.same at c.word-in-Pausing.ensures)))
