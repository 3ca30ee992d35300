use Rattle.hardware.specs.Talk.{return}
use Rattle.reference.specs.Mdio.{changed}
use Rattle.reference.specs.X552.{kr_write}
use Rattle.jobs.proofs.Laws.{wrote}
use Rattle.kr.proofs.modify.KrModify.next.Goals as goal

pub returns-in-Reading-Ok : goal.returns-in-Reading-Ok
returns-in-Reading-Ok c = λ b. let args = c.args in
    let value = changed args.change.keep args.change.set c.in-Reading-Ok.v in
    simp (c.in-Reading-Ok.is-0, c.in-Reading-Ok.is-1, c.krm-address.ensures)
    (wrote (kr_write args.port.pause args.port c.krm-address.result value) (return value))
