use Rattle.std.proofs.Common.{arith, get_or, ◌∙◌}
use Rattle.text.specs.Decimal.{digit}
use Rattle.text.proofs.DecimalLaws.{digit_small}
use Rattle.text.proofs.NumberLaws.{value_next, one_more}
use Rattle.text.proofs.decimal.value.Goals as goal

pub loop-b-preserved : goal.loop-b-preserved
loop-b-preserved c =
    let l = c.loop-b in
    let d = c.in_ok-d.d in
    record {
      small = one_more 10 l.b-index l.v d l.invariant.small (digit_small (get_or c.args.word.now l.b-index 0) d c.in_ok-d.ensures);
      rest = l.invariant.rest ∙ value_next 10 digit c.args.word.now l.b-index l.v d (omega arith) c.in_ok-d.ensures;
    }
