use Rattle.std.proofs.Common.{arith, refl}
use Rattle.text.proofs.WordLaws.{word_ended}
use Rattle.text.proofs.word.Goals as goal

pub returns-in-Some-clause-inside : goal.returns-in-Some-clause-inside
returns-in-Some-clause-inside c =
    let w = word_ended c.args.line.now c.in_ok-rest.rest.now _ c.args.at _ c.in_ok-rest.ensures.lookup.0.2 refl c.in_ok-start.ensures c.in-Some.length c.in-Some.ensures in
    (omega arith, w.after, w.within)
