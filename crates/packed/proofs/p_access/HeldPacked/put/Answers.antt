use mathlib.Core.List.{append_assoc}
use Rattle.packed.proofs.Laws.{then}
use Rattle.packed.specs.Access.{words_held, get_held}
use Rattle.packed.specs.Tape.{word_at}
use Rattle.packed.proofs.p_access.HeldPacked.put.Goals as goal

pub returns-in-Mdio-clause-adds : goal.returns-in-Mdio-clause-adds
unfolding words_held
returns-in-Mdio-clause-adds c = rw c.in-Mdio.is (then c.word-at.ensures (then c.put-at.ensures.adds c.word.ensures))

pub returns-in-Mdio-clause-back : goal.returns-in-Mdio-clause-back
unfolding words_held get_held word_at
returns-in-Mdio-clause-back c = λ rest. simp (c.in-Mdio.is, c.put-at.ensures.back, append_assoc)

pub returns-in-Kr-clause-adds : goal.returns-in-Kr-clause-adds
unfolding words_held
returns-in-Kr-clause-adds c = rw c.in-Kr.is (then c.word-at-in-Kr.ensures (then c.word-at-in-Kr-2.ensures c.put.ensures.adds))

pub returns-in-Nvm-clause-adds : goal.returns-in-Nvm-clause-adds
unfolding words_held
returns-in-Nvm-clause-adds c = rw c.in-Nvm.is (then c.word-at-in-Nvm.ensures (then (rw c.wide.ensures.same at c.word-at-in-Nvm-2.ensures) c.zeros.ensures))
