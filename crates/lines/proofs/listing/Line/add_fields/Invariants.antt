use Rattle.std.proofs.Common.{length, take, ◌+◌, ◌*◌, ◌≡◌, ◌++◌}
use Rattle.lines.specs.Listing.{words_text}
use Rattle.lines.proofs.listing.Line.add_fields.Given as goal

-- the fields so far stand behind what was there
abbrev pub invariant-loop-field : goal.invariant-loop-field
invariant-loop-field l = record {
  text : l.self ≡ l.fn.self ++ words_text (take l.field-index l.fields);
  size : length l.self ≡ length l.fn.self + 9 * l.field-index;
}
