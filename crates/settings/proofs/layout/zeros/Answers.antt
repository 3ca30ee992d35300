use borrow.Author.Tests.{tests}
use Rattle.std.proofs.Common.{rules, ◌≡◌, ◌+◌, ◌-◌, ◌∙◌, ap, sym, eqb, take, drop, arith}
use Rattle.std.proofs.lemmas.Iterator.{YieldsList-from_slice}
use Rattle.std.proofs.lemmas.Iterator.Search.{all_from_yields_List}
use Rattle.settings.proofs.layout.zeros.Goals as goal

pub returns : goal.returns
returns c =
    let from = drop c.args.at c.args.words.now in
    let count : c.args.at + c.args.count - c.args.at ≡ c.args.count = omega arith in
    sym
    (
    all_from_yields_List (λ w. eqb w 0) _ _ c.all.result c.all.ensures.ran (YieldsList-from_slice (take c.args.count from) (c.iter.ensures.rest ∙ ap (λ n. take n from) count))
    (λ x b q k. search (rules, tests))
    )
