use mathlib.Core.List.{append_assoc}
use Rattle.packed.proofs.Laws.{then}
use Rattle.packed.proofs.Width.Kr.{drop_kr_place}
use Rattle.packed.proofs.Width.Words.{drop_maybe_word}
use Rattle.packed.specs.Watch.{words_poll, get_poll}
use Rattle.packed.specs.Tape.{word_at}
use Rattle.packed.proofs.p_watch.PollPacked.put.Goals as goal

pub returns-in-First-clause-adds : goal.returns-in-First-clause-adds
unfolding words_poll
returns-in-First-clause-adds c = rw c.in-First.is (then c.word-at.ensures (then c.put-at.ensures.adds c.zeros.ensures))

pub returns-in-First-clause-back : goal.returns-in-First-clause-back
unfolding words_poll get_poll word_at
returns-in-First-clause-back c = λ rest. simp (c.in-First.is, c.put-at.ensures.back, append_assoc)

pub returns-in-Status-clause-adds : goal.returns-in-Status-clause-adds
unfolding words_poll
returns-in-Status-clause-adds c = rw c.in-Status.is (then c.word-at-in-Status.ensures c.zeros-in-Status.ensures)

pub returns-in-Second-clause-adds : goal.returns-in-Second-clause-adds
unfolding words_poll
returns-in-Second-clause-adds c = rw c.in-Second.is (then c.word-at-in-Second.ensures (then (rw c.wide.ensures.same at c.word-at-in-Second-2.ensures) (then c.put-at-in-Second.ensures.adds c.zeros-in-Second.ensures)))

pub returns-in-Second-clause-back : goal.returns-in-Second-clause-back
unfolding words_poll get_poll word_at
returns-in-Second-clause-back c = λ rest. simp (c.in-Second.is, c.wide.ensures.fits, c.put-at-in-Second.ensures.back, append_assoc)

pub returns-in-Force-clause-adds : goal.returns-in-Force-clause-adds
unfolding words_poll
returns-in-Force-clause-adds c = rw c.in-Force.is (then c.word-at-in-Force.ensures (then (rw c.wide-in-Force.ensures.same at c.word-at-in-Force-2.ensures) (then c.word-at-in-Force-3.ensures (then c.put-at-in-Force.ensures.adds (then c.put-at-in-Force-2.ensures.adds c.put.ensures.adds)))))

pub returns-in-Force-clause-back : goal.returns-in-Force-clause-back
unfolding words_poll get_poll word_at
returns-in-Force-clause-back c = λ rest. simp (c.in-Force.is, c.wide-in-Force.ensures.fits, c.put-at-in-Force.ensures.back, c.put-at-in-Force-2.ensures.back, c.put.ensures.back, append_assoc, drop_kr_place, drop_maybe_word)
