use mathlib.Core.List.{append_assoc}
use Rattle.packed.proofs.Laws.{then}
use Rattle.packed.proofs.Width.Answers.{drop_copper}
use Rattle.packed.specs.Answers.{words_value, get_value}
use Rattle.packed.specs.Tape.{word_at}
use Rattle.packed.proofs.p_answers.ValuePacked.put.Goals as goal

pub returns-in-Nothing-clause-adds : goal.returns-in-Nothing-clause-adds
unfolding words_value
returns-in-Nothing-clause-adds c = rw c.in-Nothing.is (then c.word-at.ensures c.zeros.ensures)

pub returns-in-Flag-clause-adds : goal.returns-in-Flag-clause-adds
unfolding words_value
returns-in-Flag-clause-adds c = rw c.in-Flag.is (then c.word-at-in-Flag.ensures (then c.flag-at.ensures c.zeros-in-Flag.ensures))

pub returns-in-Word-clause-adds : goal.returns-in-Word-clause-adds
unfolding words_value
returns-in-Word-clause-adds c = rw c.in-Word.is (then c.word-at-in-Word.ensures (then c.word-at-in-Word-2.ensures c.zeros-in-Word.ensures))

pub returns-in-Link-clause-adds : goal.returns-in-Link-clause-adds
unfolding words_value
returns-in-Link-clause-adds c = rw c.in-Link.is (then c.word-at-in-Link.ensures (then c.put-at.ensures.adds c.zeros-in-Link.ensures))

pub returns-in-Link-clause-back : goal.returns-in-Link-clause-back
unfolding words_value get_value word_at
returns-in-Link-clause-back c = λ rest. simp (c.in-Link.is, c.put-at.ensures.back, append_assoc)

pub returns-in-Command-clause-adds : goal.returns-in-Command-clause-adds
unfolding words_value
returns-in-Command-clause-adds c = rw c.in-Command.is (then c.word-at-in-Command.ensures (then (rw c.wide_byte.ensures.same at c.word-at-in-Command-2.ensures) (then c.word-at-in-Command-3.ensures c.zeros-in-Command.ensures)))

pub returns-in-List-clause-adds : goal.returns-in-List-clause-adds
unfolding words_value
returns-in-List-clause-adds c = rw c.in-List.is (then c.word-at-in-List.ensures (then c.word-at-in-List-2.ensures c.zeros-in-List.ensures))

pub returns-in-Activity-clause-adds : goal.returns-in-Activity-clause-adds
unfolding words_value
returns-in-Activity-clause-adds c = rw c.in-Activity.is (then c.word-at-in-Activity.ensures (then c.word-at-in-Activity-2.ensures (then c.word-at-in-Activity-3.ensures (then c.word-at-in-Activity-4.ensures (then c.word-at-in-Activity-5.ensures c.zeros-in-Activity.ensures)))))

pub returns-in-Probe-clause-adds : goal.returns-in-Probe-clause-adds
unfolding words_value
returns-in-Probe-clause-adds c = rw c.in-Probe.is (then c.word-at-in-Probe.ensures (then c.put-at-in-Probe.ensures.adds c.zeros-in-Probe.ensures))

pub returns-in-Probe-clause-back : goal.returns-in-Probe-clause-back
unfolding words_value get_value word_at
returns-in-Probe-clause-back c = λ rest. simp (c.in-Probe.is, c.put-at-in-Probe.ensures.back, append_assoc)

pub returns-in-Scan-clause-adds : goal.returns-in-Scan-clause-adds
unfolding words_value
returns-in-Scan-clause-adds c = rw c.in-Scan.is (then c.word-at-in-Scan.ensures (then c.put-at-in-Scan.ensures.adds c.zeros-in-Scan.ensures))

pub returns-in-Scan-clause-back : goal.returns-in-Scan-clause-back
unfolding words_value get_value word_at
returns-in-Scan-clause-back c = λ rest. simp (c.in-Scan.is, c.put-at-in-Scan.ensures.back, append_assoc)

pub returns-in-Abilities-clause-adds : goal.returns-in-Abilities-clause-adds
unfolding words_value
returns-in-Abilities-clause-adds c = rw c.in-Abilities.is (then c.word-at-in-Abilities.ensures (then c.flag-at-in-Abilities.ensures (then c.flag-at-in-Abilities-2.ensures (then c.flag-at-in-Abilities-3.ensures c.zeros-in-Abilities.ensures))))

pub returns-in-X552-clause-adds : goal.returns-in-X552-clause-adds
unfolding words_value
returns-in-X552-clause-adds c = rw c.in-X552.is (then c.word-at-in-X552.ensures (then c.put-at-in-X552.ensures.adds c.word.ensures))

pub returns-in-X552-clause-back : goal.returns-in-X552-clause-back
unfolding words_value get_value word_at
returns-in-X552-clause-back c = λ rest. simp (c.in-X552.is, c.put-at-in-X552.ensures.back, append_assoc)

pub returns-in-X553-clause-adds : goal.returns-in-X553-clause-adds
unfolding words_value
returns-in-X553-clause-adds c = rw c.in-X553.is (then c.word-at-in-X553.ensures c.put.ensures.adds)

pub returns-in-Poll-clause-adds : goal.returns-in-Poll-clause-adds
unfolding words_value
returns-in-Poll-clause-adds c = rw c.in-Poll.is (then c.word-at-in-Poll.ensures (then c.word-at-in-Poll-2.ensures (then c.put-at-in-Poll.ensures.adds (then c.put-at-in-Poll-2.ensures.adds c.zeros-in-Poll.ensures))))

pub returns-in-Poll-clause-back : goal.returns-in-Poll-clause-back
unfolding words_value get_value word_at
returns-in-Poll-clause-back c = λ rest. simp (c.in-Poll.is, c.put-at-in-Poll.ensures.back, c.put-at-in-Poll-2.ensures.back, append_assoc, drop_copper)
