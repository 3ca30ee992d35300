use Rattle.std.proofs.Common.{◌≡◌, length, sym, ap, arith, rules}
use Rattle.hardware.specs.Talk.{Res}
use Rattle.hardware.specs.declared.Action.{Action}
use Rattle.hardware.specs.declared.Step.{Step}
use Rattle.std.specs.Prelude.{ℕ}
use Rattle.drive.specs.Moves.{stays}
use Rattle.drive.proofs.Laws.{act_done, then, told_as, moves_within}
use Rattle.long.specs.Command.{told_long}
use Rattle.long.specs.declared.command.Long.{Long}
use Rattle.started.specs.Standing.{told_lent}
use Rattle.conversation.proofs.run.lent_from.Goals as goal

pub loop-at-preserved : goal.loop-at-preserved
loop-at-preserved c = let l = c.loop-at in
    let here = told_as (ap (λ (x : Step Action Long (Res ℕ)). told_lent c.args.count (told_long l.words x)) c.in-Ask.is) stays in
    let one = told_as (ap (told_lent c.args.count) (sym c.next-at.ensures)) (act_done c.act.ensures c.in-Ok.is here) in
    let in-it = moves_within one l.invariant.1 l.invariant.2 in
    let len : length c.act.new.t ≡ length c.args.t.now = search rules in
    (len, omega (arith, in-it.1, len, l.invariant.0), in-it.2, then l.invariant.3 one)
