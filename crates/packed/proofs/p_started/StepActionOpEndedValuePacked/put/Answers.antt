use mathlib.Core.List.{append_assoc}
use Rattle.packed.proofs.Laws.{then, is_flag, joined_back}
use Rattle.packed.proofs.Width.Access.{drop_access_place, drop_hold_for}
use Rattle.packed.proofs.Width.Hardware.{drop_action}
use Rattle.packed.specs.Started.{words_place, get_place}
use Rattle.packed.specs.Tape.{word_at}
use Rattle.packed.proofs.p_started.StepActionOpEndedValuePacked.put.Goals as goal

pub returns-in-Done-clause-adds : goal.returns-in-Done-clause-adds
unfolding words_place
returns-in-Done-clause-adds c = rw c.in-Done.is (then c.word-at.ensures (then c.long-at.ensures (then c.put-at.ensures.adds c.zeros.ensures)))

pub returns-in-Done-clause-back : goal.returns-in-Done-clause-back
unfolding words_place get_place word_at
returns-in-Done-clause-back c = λ rest. simp (c.in-Done.is, joined_back, c.put-at.ensures.back, append_assoc)

pub returns-in-Ask-clause-adds : goal.returns-in-Ask-clause-adds
unfolding words_place
returns-in-Ask-clause-adds c = rw c.in-Ask.is (then c.word-at-in-Ask.ensures (then c.word-at-in-Ask-2.ensures (then c.word-at-in-Ask-3.ensures (then c.word-at-in-Ask-4.ensures (then c.word-at-in-Ask-5.ensures (then c.flag-at.ensures (then c.put-at-in-Ask.ensures.adds (then c.put-at-in-Ask-2.ensures.adds (then c.put-at-in-Ask-3.ensures.adds c.put.ensures.adds)))))))))

pub returns-in-Ask-clause-back : goal.returns-in-Ask-clause-back
unfolding words_place get_place word_at
returns-in-Ask-clause-back c = λ rest. simp (c.in-Ask.is, is_flag, c.put-at-in-Ask.ensures.back, c.put-at-in-Ask-2.ensures.back, c.put-at-in-Ask-3.ensures.back, c.put.ensures.back, append_assoc, drop_action, drop_hold_for, drop_access_place)
