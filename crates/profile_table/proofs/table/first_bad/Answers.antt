use borrow.Author.Tests.{tests}
use Rattle.std.proofs.Common.{rules, not, inl, arith, refl}
use Rattle.std.proofs.lemmas.Iterator.Consumers.{YieldsList-from_first}
use Rattle.std.proofs.lemmas.Iterator.Search.{position_from_yields_List}
use Rattle.profile_table.specs.Rows.{is_good, rows_of}
use Rattle.profile_table.proofs.table.first_bad.Goals as goal

pub position-requires-clause-fits : goal.position-requires-clause-fits
position-requires-clause-fits c = inl (omega arith)

pub returns : goal.returns
returns c =
    position_from_yields_List (λ r. not (is_good r)) c.position.new.self _ _ c.position.ensures.ran
    (YieldsList-from_first (λ x. x) (λ s. rows_of s.0.now) {s = record { 0 = c.args.words }} (rows_of c.args.words.now) refl) (λ x b q k. search (rules, tests))
