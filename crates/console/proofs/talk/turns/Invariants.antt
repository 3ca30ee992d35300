use Rattle.console.proofs.TalkLaws.{Went}
use Rattle.console.proofs.talk.turns.Given as goal

-- the turns so far
abbrev pub invariant-loop-done : goal.invariant-loop-done
invariant-loop-done g l =
    Went l.fn.from l.fn.buf l.done l.at.moved l.at.number l.buf (g.W.Write.contents l.fn.sink) l.fn.waiting (g.W.Write.contents l.sink) l.waiting
