use mathlib.Core.List.{append_assoc}
use Rattle.packed.proofs.Laws.{then}
use Rattle.packed.specs.Access.{words_hold_for, get_hold_for}
use Rattle.packed.specs.Tape.{word_at}
use Rattle.packed.proofs.p_access.HoldForPacked.put.Goals as goal

pub returns-in-Alone-clause-adds : goal.returns-in-Alone-clause-adds
unfolding words_hold_for
returns-in-Alone-clause-adds c = rw c.in-Alone.is (then c.word-at.ensures c.zeros.ensures)

pub returns-in-Acquiring-clause-adds : goal.returns-in-Acquiring-clause-adds
unfolding words_hold_for
returns-in-Acquiring-clause-adds c = rw c.in-Acquiring.is (then c.word-at-in-Acquiring.ensures (then c.put-at.ensures.adds c.zeros-in-Acquiring.ensures))

pub returns-in-Acquiring-clause-back : goal.returns-in-Acquiring-clause-back
unfolding words_hold_for get_hold_for word_at
returns-in-Acquiring-clause-back c = λ rest. simp (c.in-Acquiring.is, c.put-at.ensures.back, append_assoc)

pub returns-in-Listing-clause-adds : goal.returns-in-Listing-clause-adds
unfolding words_hold_for
returns-in-Listing-clause-adds c = rw c.in-Listing.is (then c.word-at-in-Listing.ensures (then c.word-at-in-Listing-2.ensures (then (rw c.wide_byte.ensures.same at c.word-at-in-Listing-3.ensures) (then (rw c.wide_byte-in-Listing.ensures.same at c.word-at-in-Listing-4.ensures) c.zeros-in-Listing.ensures))))

pub returns-in-Releasing-clause-adds : goal.returns-in-Releasing-clause-adds
unfolding words_hold_for
returns-in-Releasing-clause-adds c = rw c.in-Releasing.is (then c.word-at-in-Releasing.ensures (then (rw c.wide_byte-in-Releasing.ensures.same at c.word-at-in-Releasing-2.ensures) c.put.ensures.adds))
