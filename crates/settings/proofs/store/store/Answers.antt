use Rattle.std.proofs.Common.{◌∙◌}
use Rattle.settings.proofs.Parts.{free_inside}
use Rattle.settings.proofs.store.store.Goals as goal

pub put-requires-clause-above : goal.put-requires-clause-above
put-requires-clause-above c = let inside = free_inside c.args.words.now {i = c.in-Some-free.index} (c.free.ensures ∙ c.in-Some-free.is) in inside.0

pub put-requires-clause-inside : goal.put-requires-clause-inside
put-requires-clause-inside c = let inside = free_inside c.args.words.now {i = c.in-Some-free.index} (c.free.ensures ∙ c.in-Some-free.is) in inside.1
