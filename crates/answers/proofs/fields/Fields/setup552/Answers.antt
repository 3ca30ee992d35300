use Rattle.answers.proofs.Laws.{added_more}
use Rattle.answers.proofs.fields.Fields.setup552.Goals as goal

pub returns-in-Copper : goal.returns-in-Copper
returns-in-Copper c = simp (c.in-Copper.is, c.word-in-Copper.ensures, c.copper_setup.ensures, added_more)
