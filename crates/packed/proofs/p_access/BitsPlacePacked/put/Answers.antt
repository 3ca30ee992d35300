use mathlib.Core.List.{append_assoc}
use Rattle.packed.proofs.Laws.{then}
use Rattle.packed.specs.Access.{words_bits_place, get_bits_place}
use Rattle.packed.specs.Tape.{word_at}
use Rattle.packed.proofs.p_access.BitsPlacePacked.put.Goals as goal

pub returns-in-Plain-clause-adds : goal.returns-in-Plain-clause-adds
unfolding words_bits_place
returns-in-Plain-clause-adds c = rw c.in-Plain.is (then c.word-at.ensures c.zeros.ensures)

pub returns-in-Taking-clause-adds : goal.returns-in-Taking-clause-adds
unfolding words_bits_place
returns-in-Taking-clause-adds c = rw c.in-Taking.is (then c.word-at-in-Taking.ensures (then c.word-at-in-Taking-2.ensures c.zeros-in-Taking.ensures))

pub returns-in-Freeing-clause-adds : goal.returns-in-Freeing-clause-adds
unfolding words_bits_place
returns-in-Freeing-clause-adds c = rw c.in-Freeing.is (then c.word-at-in-Freeing.ensures (then c.word-at-in-Freeing-2.ensures c.put.ensures.adds))

pub returns-in-Giving-clause-adds : goal.returns-in-Giving-clause-adds
unfolding words_bits_place
returns-in-Giving-clause-adds c = rw c.in-Giving.is (then c.word-at-in-Giving.ensures (then c.put-at.ensures.adds c.word.ensures))

pub returns-in-Giving-clause-back : goal.returns-in-Giving-clause-back
unfolding words_bits_place get_bits_place word_at
returns-in-Giving-clause-back c = λ rest. simp (c.in-Giving.is, c.put-at.ensures.back, append_assoc)
