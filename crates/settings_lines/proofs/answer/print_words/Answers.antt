use Rattle.std.proofs.Common.{arith}
use Rattle.streams.proofs.OutputLaws.{prints_on, prints_none}
use Rattle.settings_lines.proofs.ShownLaws.{shown_more, shown_none}
use Rattle.settings_lines.proofs.answer.print_words.Goals as goal

pub loop-place-preserved : goal.loop-place-preserved
loop-place-preserved g c =
    let l = c.loop-place in
    λ new left p.
    let more = shown_more c.args.words.now l.place c.behind-behind.result (omega arith) c.behind-behind.ensures in
    l.invariant new left (rw more (prints_on c.in_ok-print_word.ensures p))

pub returns : goal.returns
returns g c = c.loop-place.invariant _ _ (rw (shown_none c.args.words.now c.loop-place.place (omega arith)) prints_none)
