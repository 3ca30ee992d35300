use Rattle.std.proofs.Common.{arith, ◌∙◌}
use Rattle.std.specs.Iterator.Adapters.{take_source, take_count}
use Rattle.std.specs.Slice.Iter.{chunks_exact_rest}
use Rattle.streams.proofs.BatchLaws.{line_left, no_line_left}
use Rattle.streams.proofs.OutputLaws.{prints_on, prints_none}
use Rattle.streams.proofs.batch.print_lines.Goals as goal

pub loop-action-preserved : goal.loop-action-preserved
loop-action-preserved g c =
    let l = c.loop-action in
    let steps = c.in-Some.ensures.steps in
    record {
      size = steps.0.0 ∙ l.invariant.size;
      text = λ new left p. l.invariant.text new left
          (rw (line_left _ _ _ _ _ steps.0.1.0 (steps.0.1.1 ∙ l.invariant.size) steps.1) (prints_on c.in_ok-print_action.ensures p));
    }

pub returns : goal.returns
returns g c =
    let l = c.loop-action in
    l.invariant.text _ _
    (rw (no_line_left (chunks_exact_rest (take_source l.action-iterator)) (take_count l.action-iterator)
    (λ some. omega (arith, (c.in-None.ensures.steps some).1.0, l.invariant.size)))
    prints_none)
