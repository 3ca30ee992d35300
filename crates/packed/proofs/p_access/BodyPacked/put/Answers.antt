use mathlib.Core.List.{append_assoc}
use Rattle.packed.proofs.Laws.{then}
use Rattle.packed.proofs.Width.Mdio.{drop_wanted}
use Rattle.packed.proofs.Width.Sideband.{drop_kr_wanted}
use Rattle.packed.specs.Access.{words_body, get_body}
use Rattle.packed.specs.Tape.{word_at}
use Rattle.packed.proofs.p_access.BodyPacked.put.Goals as goal

pub returns-in-Mdio-clause-adds : goal.returns-in-Mdio-clause-adds
unfolding words_body
returns-in-Mdio-clause-adds c = rw c.in-Mdio.is (then c.word-at.ensures (then c.put-at.ensures.adds (then c.put-at-in-Mdio.ensures.adds c.word.ensures)))

pub returns-in-Mdio-clause-back : goal.returns-in-Mdio-clause-back
unfolding words_body get_body word_at
returns-in-Mdio-clause-back c = λ rest. simp (c.in-Mdio.is, c.put-at.ensures.back, c.put-at-in-Mdio.ensures.back, append_assoc, drop_wanted)

pub returns-in-Kr-clause-adds : goal.returns-in-Kr-clause-adds
unfolding words_body
returns-in-Kr-clause-adds c = rw c.in-Kr.is (then c.word-at-in-Kr.ensures (then c.word-at-in-Kr-2.ensures (then c.put-at-in-Kr.ensures.adds c.put.ensures.adds)))

pub returns-in-Kr-clause-back : goal.returns-in-Kr-clause-back
unfolding words_body get_body word_at
returns-in-Kr-clause-back c = λ rest. simp (c.in-Kr.is, c.put-at-in-Kr.ensures.back, c.put.ensures.back, append_assoc, drop_kr_wanted)

pub returns-in-Nvm-clause-adds : goal.returns-in-Nvm-clause-adds
unfolding words_body
returns-in-Nvm-clause-adds c = rw c.in-Nvm.is (then c.word-at-in-Nvm.ensures (then c.put-at-in-Nvm.ensures.adds c.zeros.ensures))

pub returns-in-Nvm-clause-back : goal.returns-in-Nvm-clause-back
unfolding words_body get_body word_at
returns-in-Nvm-clause-back c = λ rest. simp (c.in-Nvm.is, c.put-at-in-Nvm.ensures.back, append_assoc)
