-- Lines of the input, and where a case ends it
use Rattle.std.specs.Prelude.{ℕ, Bool, false, ◌&&◌, List, [], ◌∷◌, leb, ltb, length, take, Option, Some, None, ◌≡◌, ◌⊎◌}
use Rattle.hardware.specs.Talk.{pick}
use Rattle.text.specs.Same.{is_part}
use Rattle.lines.specs.Buffer.{look_at}
use Rattle.lines.specs.declared.buffer.Seen.{Seen}
use Rattle.lines.specs.declared.buffer.Seen.TheVariants as seen
use Rattle.streams.specs.Part.{part_of}
use Rattle.streams.specs.declared.input.Input.{Input}
use Rattle.streams.specs.declared.input.Fetched.{Fetched}
use Rattle.streams.specs.declared.input.Next.TheVariants.{Line, Ended, Long}

abbrev pub input : ℕ → ℕ → Bool → Bool → Input
input from to ended cases = record { from = from; to = to; ended = ended; cases = cases }

-- `case ` at the start of a line
abbrev pub is_case : List ℕ → Bool
is_case line = is_part line 0 5 (99 ∷ 97 ∷ 115 ∷ 101 ∷ 32 ∷ [])

-- what is there of the next line, of the bytes read so far
abbrev pub look_in : List ℕ → Input → Seen
look_in buf i = pick (leb i.to (length buf)) (look_at (take i.to buf) i.from i.ended) seen.Ended

-- no byte more has room
abbrev pub is_full : List ℕ → Input → Bool
is_full buf i = pick (ltb 0 i.from) false (leb (length buf) i.to)

-- a line that was seen; one that begins a case may end the input, which then stands before it
abbrev pub found_in : List ℕ → Input → ℕ → ℕ → ℕ → Fetched
found_in buf i start end next =
    pick (i.cases && is_case (part_of buf start end)) (record { next = Ended; input = i })
    (record { next = Line start end; input = input next i.to i.ended i.cases })

-- what the buffer gives as it is; none where more is to be read
abbrev pub seen_as : List ℕ → Input → Seen → Option Fetched
seen_as buf i (seen.Line start end next) = Some (found_in buf i start end next)
seen_as buf i seen.Ended = Some (record { next = Ended; input = i })
seen_as buf i seen.More = pick (is_full buf i) (Some (record { next = Long; input = i })) None

abbrev pub there : List ℕ → Input → Option Fetched
there buf i = seen_as buf i (look_in buf i)

-- what was fetched: at once where the buffer gives it, else what the buffer gives once more was read, or a line that is too long
pub record Fetches (old : List ℕ) (i : Input) (new : List ℕ) (fetched : Fetched) : Type 0 where
  pub at_once : (f : Fetched) → there old i ≡ Some f → (fetched ≡ f) × (new ≡ old)
  pub read : ((j : Input) × (there new j ≡ Some fetched)) ⊎ (fetched.next ≡ Long)
