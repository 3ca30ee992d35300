use borrow.Author.Tests.{tests}
use Rattle.std.proofs.Common.{rules, refl, arith}
use Rattle.std.proofs.lemmas.Iterator.Consumers.{YieldsList-from_first}
use Rattle.std.proofs.lemmas.Iterator.Search.{find_from_yields_List}
use Rattle.profile_table.specs.Rows.{covers, rows_of}
use Rattle.profile_table.proofs.table.profile.Goals as goal

pub returns : goal.returns
returns c =
    let found = find_from_yields_List (covers c.args.device c.args.version) c.find.new.self _ c.find.result c.find.ensures.ran
    (YieldsList-from_first (λ x. x) (λ s. rows_of s.0.now) {s = record { 0 = c.args.words }} (rows_of c.args.words.now) refl) (λ x b q k. search (rules, tests)) in
    grind arith
