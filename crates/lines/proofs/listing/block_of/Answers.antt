use Rattle.std.proofs.Common.{take_all, length, arith, ◌≤◌}
use Rattle.lines.proofs.listing.block_of.Goals as goal

pub returns-then-words-lt448-clause-first : goal.returns-then-words-lt448-clause-first
returns-then-words-lt448-clause-first c =
    let short : length c.args.words.now ≤ 448 = omega (arith, c.if-words-lt448.true) in
    take_all 448 c.args.words.now short
