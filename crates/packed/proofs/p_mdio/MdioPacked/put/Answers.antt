use mathlib.Core.List.{append_assoc}
use Rattle.packed.proofs.Laws.{then}
use Rattle.packed.proofs.Width.Mdio.{drop_mdio_place}
use Rattle.packed.specs.Mdio.{words_mdio, get_mdio}
use Rattle.packed.specs.Tape.{word_at}
use Rattle.packed.proofs.p_mdio.MdioPacked.put.Goals as goal

pub returns-in-Value-clause-adds : goal.returns-in-Value-clause-adds
unfolding words_mdio
returns-in-Value-clause-adds c = rw c.in-Value.is (then c.word-at.ensures c.zeros.ensures)

pub returns-in-Cycling-clause-adds : goal.returns-in-Cycling-clause-adds
unfolding words_mdio
returns-in-Cycling-clause-adds c = rw c.in-Cycling.is (then c.word-at-in-Cycling.ensures (then c.put-at.ensures.adds c.put.ensures.adds))

pub returns-in-Cycling-clause-back : goal.returns-in-Cycling-clause-back
unfolding words_mdio get_mdio word_at
returns-in-Cycling-clause-back c = λ rest. simp (c.in-Cycling.is, c.put-at.ensures.back, c.put.ensures.back, append_assoc, drop_mdio_place)

pub returns-in-Data-clause-adds : goal.returns-in-Data-clause-adds
unfolding words_mdio
returns-in-Data-clause-adds c = rw c.in-Data.is (then c.word-at-in-Data.ensures c.zeros-in-Data.ensures)
