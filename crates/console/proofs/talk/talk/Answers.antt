use Rattle.console.proofs.TalkLaws.{listed}
use Rattle.console.proofs.talk.talk.Goals as goal

pub returns : goal.returns
returns g c =
    listed c.finish.result c.args.asked (g.W.Write.contents c.finish.new.sink) c.finish.new.waiting
    c.in_ok-at.ensures c.finish.ensures.rest c.finish.ensures.printed
