-- Lines out of a buffer that is filled piece by piece
use Rattle.std.specs.Prelude.{ℕ, ◌+◌, ◌-◌, Bool, List, ◌++◌, leb, length, drop, Option, Some, None}
use Rattle.std.proofs.Math.Seq.{slice}
use Rattle.hardware.specs.Talk.{pick}
use Rattle.text.specs.Lines.{line_end, bare}
use Rattle.text.specs.Parts.{has_part}
use Rattle.lines.specs.declared.buffer.Seen.{Seen}
use Rattle.lines.specs.declared.buffer.Seen.TheVariants.{Line, More, Ended}

-- a line from one place up to another, without a carriage return at its end
abbrev pub line_from : List ℕ → ℕ → ℕ → ℕ → Seen
line_from buf from end next = Line from (from + length (bare (slice from end buf))) next

-- what is left behind the last newline of an input that has ended
abbrev pub rest_at : List ℕ → ℕ → Seen
rest_at buf from = pick (leb (length buf) from) Ended (line_from buf from (length buf) (length buf))

abbrev pub seen : List ℕ → ℕ → Bool → Option ℕ → Seen
seen buf from ended (Some e) = line_from buf from e (e + 1)
seen buf from ended None = pick ended (rest_at buf from) More

abbrev pub look_at : List ℕ → ℕ → Bool → Seen
look_at buf from ended = seen buf from ended (line_end buf from)

-- the bytes from one place up to another stand at the front, and the others as they did
abbrev pub moved : List ℕ → ℕ → ℕ → ℕ × List ℕ
moved buf from to = pick (has_part from to buf) (to - from, slice from to buf ++ drop (to - from) buf) (0, buf)
