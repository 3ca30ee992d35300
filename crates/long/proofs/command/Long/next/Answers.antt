use Rattle.std.proofs.Common.{◌≡◌, ap, ◌∙◌}
use Rattle.hardware.specs.Talk.{Call}
use Rattle.sync.specs.Sync.{resume_sync, told_sync}
use Rattle.access.specs.Frame.{command_bits}
use Rattle.access.specs.Access.{command_synced}
use Rattle.long.proofs.command.Long.next.Goals as goal

pub returns-in-Sync : goal.returns-in-Sync
returns-in-Sync c =
    let f = c.args.self.frame in
    let step : told_sync (command_bits f) c.next-step.result ≡ resume_sync (command_bits f) c.in-Sync.s c.args.reply =
    rw c.command.ensures c.next-step.ensures in
    rw c.in-Sync.is (c.synced.ensures _ ∙ ap (λ (t : Call (Unit {0})). command_synced f c.in-Sync.place t c.args.words.now) step)
