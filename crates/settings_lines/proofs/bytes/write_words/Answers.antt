use Rattle.std.proofs.Common.{arith}
use Rattle.streams.proofs.OutputLaws.{prints_on, prints_none}
use Rattle.settings_lines.proofs.ByteLaws.{bytes_more, bytes_end}
use Rattle.settings_lines.proofs.bytes.write_words.Goals as goal

pub loop-word-preserved : goal.loop-word-preserved
loop-word-preserved g c =
    let l = c.loop-word in
    let more = bytes_more c.args.words.now l.word-index (omega arith) in
    λ new left p. l.invariant new left (rw more (prints_on c.in_ok-write_word.ensures p))

pub returns : goal.returns
returns g c = let none = bytes_end c.args.words.now c.loop-word.word-index (omega arith) in c.loop-word.invariant _ _ (rw none prints_none)
