-- Lines in turn: what is answered, and the store's words then
use Rattle.std.specs.Prelude.{ℕ, Bool, true, false, cond, List, [], ◌∷◌, ◌++◌, leb, length, min, Option, Some, None, Result, Ok, Err}
use Rattle.text.specs.Hex.{hex_word}
use Rattle.text.specs.Words.{words}
use Rattle.profile_table.specs.Entry.{Fields}
use Rattle.streams.specs.Part.{part_of}
use Rattle.streams.specs.declared.input.Next.{Next}
use Rattle.streams.specs.declared.input.Next.TheVariants as next
use Rattle.settings.specs.Calls.{newest, named, store}
use Rattle.settings.specs.declared.fault.Fault.{Fault}
use Rattle.settings.specs.declared.setting.Setting.{Setting}
use Rattle.settings_lines.specs.Entry.{entry_of}
use Rattle.settings_lines.specs.declared.entry.Entry.{Entry}
use Rattle.settings_lines.specs.declared.entry.Entry.TheVariants.{Blank, Load, Store, Newest, Named, Show}
use Rattle.settings_lines.specs.declared.answer.Answer.{Answer}
use Rattle.settings_lines.specs.declared.answer.Answer.TheVariants.{Stored, Found, Nothing, Refused, Shown, Unread}
use Rattle.settings_lines.specs.declared.turn.Turn.{Turn}

-- what is answered, if anything, and whether that was all
abbrev pub turn : Option Answer → Bool → Turn
turn answer ended = record { answer = answer; ended = ended }

abbrev pub passed : Turn
passed = turn None false

abbrev pub answered : Answer → Turn
answered a = turn (Some a) false

-- a line that cannot be read ends all
abbrev pub unread : Turn
unread = turn (Some Unread) true

-- ---- words to load

-- a word behind those that are there, 8,192 at most
unfoldable pub kept : List ℕ → ℕ → Bool × List ℕ
kept ws w = cond (leb 8192 (length ws)) (false, ws) (true, ws ++ w ∷ [])

abbrev pub Outcome : Type 0
Outcome = Turn × List ℕ

-- the words behind `load`, eight hexadecimal digits each; one that cannot be read, or has no room, ends all
abbrev pub load_on : Bool × List ℕ → (List ℕ → Turn × List ℕ) → Turn × List ℕ
load_on (true, ws) then = then ws
load_on (false, ws) then = (unread, ws)

abbrev pub load_word : List ℕ → Option ℕ → (List ℕ → Turn × List ℕ) → Turn × List ℕ
load_word ws None then = (unread, ws)
load_word ws (Some w) then = load_on (kept ws w) then

unfoldable pub load : List ℕ → Fields → Turn × List ℕ
load ws [] = (passed, ws)
load ws (f ∷ fs) = load_word ws (hex_word 8 8 f) (λ vs. load vs fs)

abbrev pub behind_first : Fields → Fields
behind_first [] = []
behind_first (f ∷ fs) = fs

-- ---- stores and look-ups
abbrev pub store_answer : Result ℕ Fault → Answer
store_answer (Ok v) = Stored v
store_answer (Err f) = Refused f

abbrev pub read_answer : Result (Option Setting) Fault → Answer
read_answer (Ok None) = Nothing
read_answer (Ok (Some x)) = Found x
read_answer (Err f) = Refused f

abbrev pub answered_by : Result ℕ Fault × List ℕ → Turn × List ℕ
answered_by (r, ws) = (answered (store_answer r), ws)

-- a pause that fits in no word is out of range as any above 100
abbrev pub pause_of : ℕ → ℕ
pause_of p = min p 4294967295

-- a version that fits in no word is in no store, as 0 is not
abbrev pub version_of : ℕ → ℕ
version_of v = cond (leb v 4294967295) v 0

-- what a line is answered, and the words then
abbrev pub entry_turn : List ℕ → Fields → Option Entry → Turn × List ℕ
entry_turn ws fs None = (unread, ws)
entry_turn ws fs (Some Blank) = (passed, ws)
entry_turn ws fs (Some Load) = load ws (behind_first fs)
entry_turn ws fs (Some (Store lan pause veto)) = answered_by (store ws lan (pause_of pause) veto)
entry_turn ws fs (Some (Newest lan)) = (answered (read_answer (newest ws lan)), ws)
entry_turn ws fs (Some (Named lan version)) = (answered (read_answer (named ws lan (version_of version))), ws)
entry_turn ws fs (Some Show) = (answered Shown, ws)

abbrev pub line_turn : List ℕ → List ℕ → Turn × List ℕ
line_turn ws line = entry_turn ws (words line) (entry_of (words line))

-- what was fetched; a line that is too long cannot be read
abbrev pub next_turn : List ℕ → List ℕ → Next → Turn × List ℕ
next_turn ws buf (next.Line start end) = line_turn ws (part_of buf start end)
next_turn ws buf next.Ended = (turn None true, ws)
next_turn ws buf next.Long = (unread, ws)
