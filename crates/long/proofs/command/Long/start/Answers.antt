use Rattle.std.proofs.Common.{sym, ap, ◌∙◌}
use Rattle.sync.specs.Sync.{take_bits}
use Rattle.access.specs.Frame.{command_by}
use Rattle.access.specs.declared.frame.Frame.{Frame}
use Rattle.access.specs.declared.place.CommandPlace.TheVariants as command
use Rattle.access.proofs.Chosen.{command_lem}
use Rattle.long.proofs.Laws.{synced_begun}
use Rattle.long.proofs.command.Long.start.Goals as goal

pub returns : goal.returns
returns c = λ b. sym (
    command_lem c.args.port 0x400 b
    ∙ ap (λ (f : Frame). command_by f b) c.of-frame.ensures
    ∙ synced_begun take_bits c.of-frame.result command.Acquiring b _ c.command.ensures c.take-begun.ensures
    )
