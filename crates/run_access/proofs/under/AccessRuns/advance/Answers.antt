use Rattle.std.proofs.Common.{ap, sym, ◌∙◌}
use Rattle.jobs.specs.List.{list_of}
use Rattle.hardware.specs.Talk.{ask}
use Rattle.access.specs.Access.{exchange_then, resume_place}
use Rattle.access.specs.declared.place.AccessPlace.{AccessPlace}
use Rattle.run_access.proofs.Moved.{moves_as, sync_moves, exchange_moves, exchange_told, body_moves}
use Rattle.run_access.proofs.under.AccessRuns.advance.Goals as goal

pub returns-in-Sync : goal.returns-in-Sync
returns-in-Sync c = let g = c.args in let under = g.self.under in let at = c.in-Sync in
    moves_as (λ (p : AccessPlace). ask g.a (resume_place under p g.block.now)) at.is c.synced.ensures
    (sync_moves under at.why g.block.now at.m c.run-step.result c.call.ensures c.run-step.ensures)

pub returns-in-Body : goal.returns-in-Body
returns-in-Body c = let g = c.args in let under = g.self.under in let at = c.in-Body in
    moves_as (λ (p : AccessPlace). ask g.a (resume_place under p g.block.now)) at.is c.bodied.ensures
    (body_moves under (list_of g.block.now) (c.run-step-in-Body.ensures g.block.now))

pub returns-in-Exchange : goal.returns-in-Exchange
returns-in-Exchange c = let g = c.args in let under = g.self.under in let at = c.in-Exchange in
    moves_as (λ (p : AccessPlace). ask g.a (resume_place under p g.block.now)) at.is
    (c.exchanged.ensures _ ∙ ap (exchange_then under at.whose) (sym (exchange_told at.whose c.run-step-in-Exchange.new.block c.run-step-in-Exchange.result)))
    (exchange_moves under at.whose c.run-step-in-Exchange.ensures)
