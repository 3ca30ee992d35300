use Rattle.std.proofs.Common.{arith, get_or}
use Rattle.std.proofs.lemmas.List.{get_or_default}
use Rattle.std.proofs.lemmas.List.Edits.{map_over_more}
use Rattle.profile_table.specs.Entry.{blank}
use Rattle.profile_table.proofs.entry.blank_commas.Goals as goal

pub loop-b-preserved : goal.loop-b-preserved
loop-b-preserved c =
    rw (← c.blank.ensures)
    (map_over_more blank c.args.line.now c.loop-b.line c.loop-b.b-index (get_or c.loop-b.line c.loop-b.b-index 0) (omega arith) c.loop-b.invariant
    (get_or_default c.loop-b.line c.loop-b.b-index 0 _ (omega arith)))
