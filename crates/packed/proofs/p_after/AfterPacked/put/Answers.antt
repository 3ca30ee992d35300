use mathlib.Core.List.{append_assoc}
use Rattle.packed.proofs.Laws.{then, is_flag}
use Rattle.packed.proofs.Width.Answers.{drop_internal, drop_maybe_half}
use Rattle.packed.specs.After.{words_after, get_after}
use Rattle.packed.specs.Tape.{word_at}
use Rattle.packed.proofs.p_after.AfterPacked.put.Goals as goal

pub returns-in-Nothing-clause-adds : goal.returns-in-Nothing-clause-adds
unfolding words_after
returns-in-Nothing-clause-adds c = rw c.in-Nothing.is (then c.word-at.ensures c.zeros.ensures)

pub returns-in-Word-clause-adds : goal.returns-in-Word-clause-adds
unfolding words_after
returns-in-Word-clause-adds c = rw c.in-Word.is (then c.word-at-in-Word.ensures c.zeros-in-Word.ensures)

pub returns-in-Veto-clause-adds : goal.returns-in-Veto-clause-adds
unfolding words_after
returns-in-Veto-clause-adds c = rw c.in-Veto.is (then c.word-at-in-Veto.ensures c.zeros-in-Veto.ensures)

pub returns-in-Link-clause-adds : goal.returns-in-Link-clause-adds
unfolding words_after
returns-in-Link-clause-adds c = rw c.in-Link.is (then c.word-at-in-Link.ensures c.zeros-in-Link.ensures)

pub returns-in-Abilities-clause-adds : goal.returns-in-Abilities-clause-adds
unfolding words_after
returns-in-Abilities-clause-adds c = rw c.in-Abilities.is (then c.word-at-in-Abilities.ensures c.zeros-in-Abilities.ensures)

pub returns-in-Command-clause-adds : goal.returns-in-Command-clause-adds
unfolding words_after
returns-in-Command-clause-adds c = rw c.in-Command.is (then c.word-at-in-Command.ensures (then c.word-at-in-Command-2.ensures c.zeros-in-Command.ensures))

pub returns-in-List-clause-adds : goal.returns-in-List-clause-adds
unfolding words_after
returns-in-List-clause-adds c = rw c.in-List.is (then c.word-at-in-List.ensures (then c.word-at-in-List-2.ensures c.zeros-in-List.ensures))

pub returns-in-Token-clause-adds : goal.returns-in-Token-clause-adds
unfolding words_after
returns-in-Token-clause-adds c = rw c.in-Token.is (then c.word-at-in-Token.ensures (then c.flag-at.ensures c.zeros-in-Token.ensures))

pub returns-in-Activity-clause-adds : goal.returns-in-Activity-clause-adds
unfolding words_after
returns-in-Activity-clause-adds c = rw c.in-Activity.is (then c.word-at-in-Activity.ensures (then (rw c.wide.ensures.same at c.word-at-in-Activity-2.ensures) (then c.word-at-in-Activity-3.ensures (then c.word-at-in-Activity-4.ensures (then c.word-at-in-Activity-5.ensures (then c.word-at-in-Activity-6.ensures (then c.put-at.ensures.adds c.zeros-in-Activity.ensures)))))))

pub returns-in-Activity-clause-back : goal.returns-in-Activity-clause-back
unfolding words_after get_after word_at
returns-in-Activity-clause-back c = λ rest. simp (c.in-Activity.is, c.wide.ensures.fits, c.put-at.ensures.back, append_assoc)

pub returns-in-Mdio-clause-adds : goal.returns-in-Mdio-clause-adds
unfolding words_after
returns-in-Mdio-clause-adds c = rw c.in-Mdio.is (then c.word-at-in-Mdio.ensures (then c.put-at-in-Mdio.ensures.adds c.zeros-in-Mdio.ensures))

pub returns-in-Mdio-clause-back : goal.returns-in-Mdio-clause-back
unfolding words_after get_after word_at
returns-in-Mdio-clause-back c = λ rest. simp (c.in-Mdio.is, c.put-at-in-Mdio.ensures.back, append_assoc)

pub returns-in-Kr-clause-adds : goal.returns-in-Kr-clause-adds
unfolding words_after
returns-in-Kr-clause-adds c = rw c.in-Kr.is (then c.word-at-in-Kr.ensures (then c.put-at-in-Kr.ensures.adds c.zeros-in-Kr.ensures))

pub returns-in-Kr-clause-back : goal.returns-in-Kr-clause-back
unfolding words_after get_after word_at
returns-in-Kr-clause-back c = λ rest. simp (c.in-Kr.is, c.put-at-in-Kr.ensures.back, append_assoc)

pub returns-in-Bringup-clause-adds : goal.returns-in-Bringup-clause-adds
unfolding words_after
returns-in-Bringup-clause-adds c = rw c.in-Bringup.is (then c.word-at-in-Bringup.ensures (then c.flag-at-in-Bringup.ensures c.put.ensures.adds))

pub returns-in-Poll-clause-adds : goal.returns-in-Poll-clause-adds
unfolding words_after
returns-in-Poll-clause-adds c = rw c.in-Poll.is (then c.word-at-in-Poll.ensures (then c.word-at-in-Poll-2.ensures (then c.word-at-in-Poll-3.ensures (then c.flag-at-in-Poll.ensures (then c.put-at-in-Poll.ensures.adds (then c.put-at-in-Poll-2.ensures.adds (then c.put-at-in-Poll-3.ensures.adds c.zeros-in-Poll.ensures)))))))

pub returns-in-Poll-clause-back : goal.returns-in-Poll-clause-back
unfolding words_after get_after word_at
returns-in-Poll-clause-back c = λ rest. simp (c.in-Poll.is, is_flag, c.put-at-in-Poll.ensures.back, c.put-at-in-Poll-2.ensures.back, c.put-at-in-Poll-3.ensures.back, append_assoc, drop_internal, drop_maybe_half)
