use Rattle.settings.proofs.MarkLaws.{no_mark}
use Rattle.settings.proofs.marks.Marks.new.Goals as goal

pub returns : goal.returns
returns c = λ k. no_mark 2048 k
