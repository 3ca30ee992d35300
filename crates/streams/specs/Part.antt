-- Parts of the input buffer
use Rattle.std.specs.Prelude.{ℕ, List, []}
use Rattle.std.proofs.Math.Seq.{slice}
use Rattle.hardware.specs.Talk.{pick}
use Rattle.text.specs.Parts.{has_part}
use Rattle.streams.specs.declared.input.Next.{Next}
use Rattle.streams.specs.declared.input.Next.TheVariants.{Line, Ended, Long}

-- empty where there is no such part
unfoldable pub part_of : List ℕ → ℕ → ℕ → List ℕ
part_of buf start end = pick (has_part start end buf) (slice start end buf) []

-- the line that was fetched; where there is none, one that cannot be read
abbrev pub line_of : List ℕ → Next → List ℕ
line_of buf (Line start end) = part_of buf start end
line_of buf Ended = []
line_of buf Long = []
