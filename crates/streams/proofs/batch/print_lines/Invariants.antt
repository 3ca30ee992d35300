use Rattle.std.proofs.Common.{ℕ, List, Option, take, ◌*◌, ◌≡◌}
use Rattle.lines.specs.Listing.{lines_text}
use Rattle.std.specs.Iterator.Adapters.{take_source, take_count}
use Rattle.std.specs.Slice.Iter.{chunks_exact_rest, chunks_exact_size}
use Rattle.streams.specs.Output.{Prints, line_count}
use Rattle.streams.proofs.BatchLaws.{lines_left}
use Rattle.streams.proofs.batch.print_lines.Given as goal

-- where the lines that are left are printed from here, all are
abbrev pub invariant-loop-action : goal.invariant-loop-action
invariant-loop-action g l = record {
  size : chunks_exact_size (take_source l.action-iterator) ≡ 3;
  text : (new : Option (List ℕ)) (left : List ℕ)
      → Prints (g.W.Write.contents l.sink) l.waiting (lines_left (take_count l.action-iterator) (chunks_exact_rest (take_source l.action-iterator))) new left
      → Prints (g.W.Write.contents l.fn.sink) l.fn.waiting (lines_text (take (3 * line_count l.at l.t) l.t)) new left;
}
