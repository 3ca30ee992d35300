use Rattle.std.proofs.Common.{◌≡◌, arith, rules}
use Rattle.packed.proofs.Laws.{none, zero_more}
use Rattle.packed.proofs.tape.zeros.Goals as goal

pub loop-init : goal.loop-init
loop-init c = (search rules, none c.args.at c.args.tape.now)

pub loop-preserved : goal.loop-preserved
loop-preserved c = (omega arith, zero_more c.loop.counter c.loop.invariant.1 c.word-to.ensures)

pub returns : goal.returns
returns c = let e : c.loop.counter ≡ c.args.n = omega arith in rw (← e) c.loop.invariant.1
