use mathlib.Core.List.{append_assoc}
use Rattle.packed.proofs.Laws.{then, is_flag}
use Rattle.packed.proofs.Width.Kr.{drop_kr_place}
use Rattle.packed.proofs.Width.Phy.{drop_advertise_place}
use Rattle.packed.proofs.Width.Words.{drop_maybe_word}
use Rattle.packed.specs.X552.{words_copper_link, get_copper_link}
use Rattle.packed.specs.Tape.{word_at}
use Rattle.packed.proofs.p_x552.CopperLinkPacked.put.Goals as goal

pub returns-in-Abilities-clause-adds : goal.returns-in-Abilities-clause-adds
unfolding words_copper_link
returns-in-Abilities-clause-adds c = rw c.in-Abilities.is (then c.word-at.ensures c.zeros.ensures)

pub returns-in-Ixfi-clause-adds : goal.returns-in-Ixfi-clause-adds
unfolding words_copper_link
returns-in-Ixfi-clause-adds c = rw c.in-Ixfi.is (then c.word-at-in-Ixfi.ensures (then c.flag-at.ensures (then c.flag-at-in-Ixfi.ensures (then c.flag-at-in-Ixfi-2.ensures (then c.put-at.ensures.adds (then c.put-at-in-Ixfi.ensures.adds c.put.ensures.adds))))))

pub returns-in-Ixfi-clause-back : goal.returns-in-Ixfi-clause-back
unfolding words_copper_link get_copper_link word_at
returns-in-Ixfi-clause-back c = λ rest. simp (c.in-Ixfi.is, is_flag, c.put-at.ensures.back, c.put-at-in-Ixfi.ensures.back, c.put.ensures.back, append_assoc, drop_kr_place, drop_maybe_word)

pub returns-in-Waiting-clause-adds : goal.returns-in-Waiting-clause-adds
unfolding words_copper_link
returns-in-Waiting-clause-adds c = rw c.in-Waiting.is (then c.word-at-in-Waiting.ensures (then c.flag-at-in-Waiting.ensures (then c.flag-at-in-Waiting-2.ensures (then c.flag-at-in-Waiting-3.ensures (then c.word-at-in-Waiting-2.ensures c.zeros-in-Waiting.ensures)))))

pub returns-in-Links-clause-adds : goal.returns-in-Links-clause-adds
unfolding words_copper_link
returns-in-Links-clause-adds c = rw c.in-Links.is (then c.word-at-in-Links.ensures (then c.flag-at-in-Links.ensures (then c.flag-at-in-Links-2.ensures (then c.flag-at-in-Links-3.ensures (then c.word-at-in-Links-2.ensures c.zeros-in-Links.ensures)))))

pub returns-in-Linking-clause-adds : goal.returns-in-Linking-clause-adds
unfolding words_copper_link
returns-in-Linking-clause-adds c = rw c.in-Linking.is (then c.word-at-in-Linking.ensures (then c.flag-at-in-Linking.ensures (then c.flag-at-in-Linking-2.ensures (then c.flag-at-in-Linking-3.ensures (then c.word-at-in-Linking-2.ensures (then c.put-at-in-Linking.ensures.adds c.zeros-in-Linking.ensures))))))

pub returns-in-Linking-clause-back : goal.returns-in-Linking-clause-back
unfolding words_copper_link get_copper_link word_at
returns-in-Linking-clause-back c = λ rest. simp (c.in-Linking.is, is_flag, c.put-at-in-Linking.ensures.back, append_assoc)

pub returns-in-Advertise-clause-adds : goal.returns-in-Advertise-clause-adds
unfolding words_copper_link
returns-in-Advertise-clause-adds c = rw c.in-Advertise.is (then c.word-at-in-Advertise.ensures (then c.flag-at-in-Advertise.ensures (then c.flag-at-in-Advertise-2.ensures (then c.flag-at-in-Advertise-3.ensures (then c.put-at-in-Advertise.ensures.adds (then c.put-at-in-Advertise-2.ensures.adds c.zeros-in-Advertise.ensures))))))

pub returns-in-Advertise-clause-back : goal.returns-in-Advertise-clause-back
unfolding words_copper_link get_copper_link word_at
returns-in-Advertise-clause-back c = λ rest. simp (c.in-Advertise.is, is_flag, c.put-at-in-Advertise.ensures.back, c.put-at-in-Advertise-2.ensures.back, append_assoc, drop_advertise_place)
