use Rattle.std.proofs.Common.{arith, ◌∙◌}
use Rattle.text.specs.Hex.{digit}
use Rattle.text.proofs.NumberLaws.{value_next, one_more}
use Rattle.text.proofs.value.Goals as goal

pub loop-b-preserved : goal.loop-b-preserved
loop-b-preserved c =
    let l = c.loop-b in
    let d = c.in_ok-d.d in
    record {
      small = one_more 16 l.b-index l.v d l.invariant.small c.in_ok-d.ensures.small;
      rest = l.invariant.rest ∙ value_next 16 digit c.args.word.now l.b-index l.v d (omega arith) c.in_ok-d.ensures.b_value;
    }
