use mathlib.Core.List.{[], ◌∷◌}
use mathlib.Core.Path.{◌∙◌}
use Rattle.reference.specs.Hostif.{activity_block}
use Rattle.jobs.proofs.Laws.{stored}
use Rattle.activity.proofs.Activity.put.Goals as goal

pub returns : goal.returns
unfolding activity_block
returns c = stored (_ ∷ _ ∷ _ ∷ _ ∷ _ ∷ _ ∷ []) c.args.block.now c.requires
    ∙ simp (
      c.swap_bytes.ensures,
      c.swap_bytes-2.ensures,
      c.swap_bytes-3.ensures,
      c.swap_bytes-4.ensures,
    )
