use mathlib.Core.List.{append_assoc}
use Rattle.packed.proofs.Laws.{then}
use Rattle.packed.proofs.Width.Kr.{drop_kr_place}
use Rattle.packed.proofs.Width.Words.{drop_maybe_word}
use Rattle.packed.specs.After.{words_kr, get_kr}
use Rattle.packed.specs.Tape.{word_at}
use Rattle.packed.proofs.p_after.KrPacked.put.Goals as goal

pub returns-in-Modify-clause-adds : goal.returns-in-Modify-clause-adds
unfolding words_kr
returns-in-Modify-clause-adds c = rw c.in-Modify.is (then c.word-at.ensures (then c.word-at-in-Modify.ensures (then c.word-at-in-Modify-2.ensures (then c.word-at-in-Modify-3.ensures (then c.put-at.ensures.adds c.zeros.ensures)))))

pub returns-in-Modify-clause-back : goal.returns-in-Modify-clause-back
unfolding words_kr get_kr word_at
returns-in-Modify-clause-back c = λ rest. simp (c.in-Modify.is, c.put-at.ensures.back, append_assoc)

pub returns-in-Sequence-clause-adds : goal.returns-in-Sequence-clause-adds
unfolding words_kr
returns-in-Sequence-clause-adds c = rw c.in-Sequence.is (then c.word-at-in-Sequence.ensures (then c.put-at-in-Sequence.ensures.adds (then c.put-at-in-Sequence-2.ensures.adds c.put.ensures.adds)))

pub returns-in-Sequence-clause-back : goal.returns-in-Sequence-clause-back
unfolding words_kr get_kr word_at
returns-in-Sequence-clause-back c = λ rest. simp (c.in-Sequence.is, c.put-at-in-Sequence.ensures.back, c.put-at-in-Sequence-2.ensures.back, c.put.ensures.back, append_assoc, drop_kr_place, drop_maybe_word)
