use Rattle.std.proofs.Common.{length, ◌+◌, ◌-◌, ◌*◌, ◌≤◌, ◌≡◌}
use Rattle.std.proofs.Math.Seq.{sets}
use Rattle.streams.specs.Batch.{replies, words_ahead, places_ahead}
use Rattle.streams.specs.Input.{input}
use Rattle.streams.proofs.batch.read_ahead.Given as goal

-- the replies so far are put down, and the others follow from where the input goes on
abbrev pub invariant-loop-count : goal.invariant-loop-count
invariant-loop-count l = record {
  room : 2 * l.most ≤ length l.words;
  places : l.most ≤ length l.behind;
  count : length (replies l.most l.buf l.fn.input) ≡ l.count + length (replies (l.most - l.count) l.buf (input l.from l.input.to l.input.ended l.input.cases));
  kept : sets l.fn.words 0 (words_ahead (replies l.most l.buf l.fn.input)) ≡ sets l.words (2 * l.count) (words_ahead (replies (l.most - l.count) l.buf (input l.from l.input.to l.input.ended l.input.cases)));
  next : sets l.fn.behind 0 (places_ahead (replies l.most l.buf l.fn.input)) ≡ sets l.behind l.count (places_ahead (replies (l.most - l.count) l.buf (input l.from l.input.to l.input.ended l.input.cases)));
}
