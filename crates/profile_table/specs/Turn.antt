-- Lines in turn: rows, then look-ups
use Rattle.std.specs.Prelude.{ℕ, ◌+◌, Bool, true, false, cond, List, [], ◌∷◌, ◌++◌, leb, length, Option, Some, None, Result, Ok, Err, ⊤}
use Rattle.streams.specs.Part.{part_of}
use Rattle.streams.specs.declared.input.Next.{Next}
use Rattle.streams.specs.declared.input.Next.TheVariants as next
use Rattle.profile_table.specs.Rows.{rows_of}
use Rattle.profile_table.specs.Table.{checked, profile}
use Rattle.profile_table.specs.Entry.{fields, entry_of}
use Rattle.profile_table.specs.declared.row.Row.{Row}
use Rattle.profile_table.specs.declared.fault.Fault.{Fault}
use Rattle.profile_table.specs.declared.entry.Entry.{Entry}
use Rattle.profile_table.specs.declared.entry.Entry.TheVariants.{Blank, Ranged, Look}
use Rattle.profile_table.specs.declared.answer.Answer.{Answer}
use Rattle.profile_table.specs.declared.answer.Answer.TheVariants.{Taken, Profile, Nothing, Refused, Unread}
use Rattle.profile_table.specs.declared.turn.Turn.{Turn}

-- a row behind those that are kept, 257 at most
unfoldable pub kept : List ℕ → Row → List ℕ
kept words r = cond (leb (length words + 4) 1028) (words ++ r.device ∷ r.first ∷ r.last ∷ r.profile ∷ []) words

-- a table's judgement: none until the first look-up
abbrev pub Judged : Type 0
Judged = Option (Result ⊤ Fault)

abbrev pub verdict : List ℕ → Judged → Result ⊤ Fault
verdict words None = checked words
verdict words (Some v) = v

abbrev pub found : Option ℕ → Answer
found None = Nothing
found (Some n) = Profile n

abbrev pub look_answer : List ℕ → Result ⊤ Fault → ℕ → ℕ → Answer
look_answer words (Err f) device version = Refused f
look_answer words (Ok u) device version = found (profile (rows_of words) device version)

abbrev pub table_answer : Result ⊤ Fault → Answer
table_answer (Err f) = Refused f
table_answer (Ok u) = Taken

-- the judgement, what is answered, and whether that was all
abbrev pub turn : Judged → Option Answer → Bool → Turn
turn judged answer ended = record { judged = judged; answer = answer; ended = ended }

-- a line that cannot be read ends all, as does a row behind a look-up
abbrev pub unread : Judged → Turn
unread judged = turn judged (Some Unread) true

-- the turn of a line, and the rows that are kept then
abbrev pub line_turn : List ℕ → Judged → Option Entry → Turn × List ℕ
line_turn words judged None = (unread judged, words)
line_turn words judged (Some Blank) = (turn judged None false, words)
line_turn words None (Some (Ranged r)) = (turn None None false, kept words r)
line_turn words (Some v) (Some (Ranged r)) = (unread (Some v), words)
line_turn words judged (Some (Look device version)) =
    (turn (Some (verdict words judged)) (Some (look_answer words (verdict words judged) device version)) false, words)

-- the end of the input, where a table without a look-up is judged
abbrev pub last_turn : List ℕ → Judged → Turn
last_turn words None = turn (Some (checked words)) (Some (table_answer (checked words))) true
last_turn words (Some v) = turn (Some v) None true

-- what was fetched; a line that is too long cannot be read
abbrev pub next_turn : List ℕ → Judged → List ℕ → Next → Turn × List ℕ
next_turn words judged buf (next.Line start end) = line_turn words judged (entry_of (fields (part_of buf start end)))
next_turn words judged buf next.Ended = (last_turn words judged, words)
next_turn words judged buf next.Long = (unread judged, words)
