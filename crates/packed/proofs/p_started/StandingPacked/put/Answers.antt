use mathlib.Core.List.{append_assoc}
use Rattle.packed.proofs.Laws.{then, is_flag}
use Rattle.packed.proofs.Width.Hardware.{drop_action}
use Rattle.packed.specs.Started.{words_standing, get_standing}
use Rattle.packed.specs.Tape.{word_at}
use Rattle.packed.proofs.p_started.StandingPacked.put.Goals as goal

pub returns-in-Kept-clause-adds : goal.returns-in-Kept-clause-adds
unfolding words_standing
returns-in-Kept-clause-adds c = rw c.in-Kept.is (then c.word-at.ensures c.put.ensures.adds)

pub returns-in-Lent-clause-adds : goal.returns-in-Lent-clause-adds
unfolding words_standing
returns-in-Lent-clause-adds c = rw c.in-Lent.is (then c.word-at-in-Lent.ensures (then c.word-at-in-Lent-2.ensures (then c.word-at-in-Lent-3.ensures (then c.word-at-in-Lent-4.ensures (then c.word-at-in-Lent-5.ensures (then c.word-at-in-Lent-6.ensures (then c.flag-at.ensures (then c.put-at.ensures.adds (then c.put-at-in-Lent.ensures.adds c.zeros.ensures)))))))))

pub returns-in-Lent-clause-back : goal.returns-in-Lent-clause-back
unfolding words_standing get_standing word_at
returns-in-Lent-clause-back c = λ rest. simp (c.in-Lent.is, is_flag, c.put-at.ensures.back, c.put-at-in-Lent.ensures.back, append_assoc, drop_action)

pub returns-in-LentDone-clause-adds : goal.returns-in-LentDone-clause-adds
unfolding words_standing
returns-in-LentDone-clause-adds c = rw c.in-LentDone.is (then c.word-at-in-LentDone.ensures (then c.word-at-in-LentDone-2.ensures (then c.put-at-in-LentDone.ensures.adds c.zeros-in-LentDone.ensures)))

pub returns-in-LentDone-clause-back : goal.returns-in-LentDone-clause-back
unfolding words_standing get_standing word_at
returns-in-LentDone-clause-back c = λ rest. simp (c.in-LentDone.is, c.put-at-in-LentDone.ensures.back, append_assoc)
