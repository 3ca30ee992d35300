-- A part of a line
use Rattle.std.specs.Prelude.{ℕ, Bool, ◌&&◌, List, leb, length}

-- whether a line has a part from start up to end
abbrev pub has_part : ℕ → ℕ → List ℕ → Bool
has_part start end line = leb start end && leb end (length line)
