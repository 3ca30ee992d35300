use Rattle.hardware.specs.Talk.{return}
use Rattle.reference.specs.Mdio.{write_reg, changed}
use Rattle.jobs.proofs.Laws.{wrote}
use Rattle.phy.proofs.modify.Modify.next.Goals as goal

pub returns-in-Reading-Ok : goal.returns-in-Reading-Ok
returns-in-Reading-Ok c = λ b. let args = c.args in
    let value = changed args.at.keep args.at.set c.in-Reading-Ok.v in
    simp (c.in-Reading-Ok.is-0, c.in-Reading-Ok.is-1)
    (wrote (write_reg args.port args.at.phy args.at.device args.at.register value) (return value))
