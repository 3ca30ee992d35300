use Rattle.console.proofs.TalkLaws.{turn_ended, turn_stopped, turn_acted}
use Rattle.console.proofs.talk.onward.Goals as goal

pub returns-in_default : goal.returns-in_default
returns-in_default g c = turn_ended c.in_default.is (c.asked.ensures _) c.number.ensures

pub returns-in-Err : goal.returns-in-Err
returns-in-Err g c = turn_stopped c.in-Some.is (c.asked.ensures _) c.answer-due.ensures c.in-Err.is c.number-in-Err.ensures

pub returns : goal.returns
returns g c =
    let one = c.in_ok-one.ensures in
    let ahead = c.in_ok-ahead.ensures in
    turn_acted c.in-Some.is (c.asked.ensures _) c.answer-due.ensures c.in-Ok.is c.unwrap_or-pair.ensures one.acted ahead.ahead
    one.printed ahead.printed
