use Rattle.std.proofs.Common.{◌≡◌, ◌*◌, ◌++◌, drop, length}
use Rattle.settings_lines.specs.Bytes.{words_of}
use Rattle.settings_lines.proofs.bytes.fill.Given as goal

-- what is kept, and what is left
abbrev pub invariant-loop-place : goal.invariant-loop-place
invariant-loop-place l = record {
  count : length l.kept ≡ l.place;
  words : l.kept ++ words_of (drop (4 * l.place) l.bytes) ≡ words_of l.bytes;
}
