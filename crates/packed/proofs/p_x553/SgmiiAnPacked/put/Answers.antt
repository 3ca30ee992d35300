use mathlib.Core.List.{append_assoc}
use Rattle.packed.proofs.Laws.{then}
use Rattle.packed.proofs.Width.Kr.{drop_kr_place}
use Rattle.packed.proofs.Width.Words.{drop_maybe_word}
use Rattle.packed.specs.X553.{words_sgmii_an, get_sgmii_an}
use Rattle.packed.specs.Tape.{word_at}
use Rattle.packed.proofs.p_x553.SgmiiAnPacked.put.Goals as goal

pub returns-in-Ctrl-clause-adds : goal.returns-in-Ctrl-clause-adds
unfolding words_sgmii_an
returns-in-Ctrl-clause-adds c = rw c.in-Ctrl.is (then c.word-at.ensures (then c.put-at.ensures.adds c.zeros.ensures))

pub returns-in-Ctrl-clause-back : goal.returns-in-Ctrl-clause-back
unfolding words_sgmii_an get_sgmii_an word_at
returns-in-Ctrl-clause-back c = λ rest. simp (c.in-Ctrl.is, c.put-at.ensures.back, append_assoc)

pub returns-in-Force-clause-adds : goal.returns-in-Force-clause-adds
unfolding words_sgmii_an
returns-in-Force-clause-adds c = rw c.in-Force.is (then c.word-at-in-Force.ensures (then c.word-at-in-Force-2.ensures (then c.put-at-in-Force.ensures.adds c.zeros-in-Force.ensures)))

pub returns-in-Force-clause-back : goal.returns-in-Force-clause-back
unfolding words_sgmii_an get_sgmii_an word_at
returns-in-Force-clause-back c = λ rest. simp (c.in-Force.is, c.put-at-in-Force.ensures.back, append_assoc)

pub returns-in-Again-clause-adds : goal.returns-in-Again-clause-adds
unfolding words_sgmii_an
returns-in-Again-clause-adds c = rw c.in-Again.is (then c.word-at-in-Again.ensures c.zeros-in-Again.ensures)

pub returns-in-Lane-clause-adds : goal.returns-in-Lane-clause-adds
unfolding words_sgmii_an
returns-in-Lane-clause-adds c = rw c.in-Lane.is (then c.word-at-in-Lane.ensures (then c.put-at-in-Lane.ensures.adds c.zeros-in-Lane.ensures))

pub returns-in-Lane-clause-back : goal.returns-in-Lane-clause-back
unfolding words_sgmii_an get_sgmii_an word_at
returns-in-Lane-clause-back c = λ rest. simp (c.in-Lane.is, c.put-at-in-Lane.ensures.back, append_assoc)

pub returns-in-Restart-clause-adds : goal.returns-in-Restart-clause-adds
unfolding words_sgmii_an
returns-in-Restart-clause-adds c = rw c.in-Restart.is (then c.word-at-in-Restart.ensures (then c.word-at-in-Restart-2.ensures (then c.put-at-in-Restart.ensures.adds (then c.put-at-in-Restart-2.ensures.adds c.put.ensures.adds))))

pub returns-in-Restart-clause-back : goal.returns-in-Restart-clause-back
unfolding words_sgmii_an get_sgmii_an word_at
returns-in-Restart-clause-back c = λ rest. simp (c.in-Restart.is, c.put-at-in-Restart.ensures.back, c.put-at-in-Restart-2.ensures.back, c.put.ensures.back, append_assoc, drop_kr_place, drop_maybe_word)
