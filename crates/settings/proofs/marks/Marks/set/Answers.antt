use Rattle.std.proofs.Common.{arith}
use Rattle.settings.proofs.MarkLaws.{one_more_mark}
use Rattle.settings.proofs.marks.Marks.set.Goals as goal

pub returns-then-place-lt-MARKS : goal.returns-then-place-lt-MARKS
returns-then-place-lt-MARKS c = λ k h. one_more_mark c.args.self.now.words c.args.place k (omega arith)
