use Rattle.std.proofs.Common.{◌≡◌, length, sym, arith, rules}
use Rattle.drive.proofs.Laws.{act_done, then, told_as, moves_within}
use Rattle.started.proofs.Laws.{told_at}
use Rattle.conversation.proofs.run.run_from.Goals as goal

pub loop-a-preserved : goal.loop-a-preserved
loop-a-preserved c = let l = c.loop-a in
    let one = told_as (sym c.next-at.ensures) (act_done c.act.ensures c.in-Ok.is (told_as (told_at _ _ c.in-Ask.is) c.ahead-place.ensures)) in
    let in-it = moves_within one l.invariant.1 l.invariant.2 in
    let len : length c.act.new.t ≡ length c.args.t.now = search rules in
    (len, omega (arith, in-it.1, len, l.invariant.0), in-it.2, then l.invariant.3 one)
