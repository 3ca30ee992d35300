-- What is answered to all lines: rows, all before the first look-up, and then look-ups
use Rattle.std.specs.Prelude.{ℕ, cond, List, [], ◌∷◌, ◌++◌, Option, Some, None, Result, Ok, Err}
use Rattle.std.specs.Option.{option_to_list}
use Rattle.profile_table.specs.Table.{fault, profile, err_or}
use Rattle.profile_table.specs.Turn.{Judged, found, table_answer, line_turn, last_turn}
use Rattle.profile_table.specs.declared.row.Row.{Row}
use Rattle.profile_table.specs.declared.fault.Fault.{Fault}
use Rattle.profile_table.specs.declared.entry.Entry.{Entry}
use Rattle.profile_table.specs.declared.entry.Entry.TheVariants.{Blank, Ranged, Look}
use Rattle.profile_table.specs.declared.answer.Answer.{Answer}
use Rattle.profile_table.specs.declared.answer.Answer.TheVariants.{Refused, Unread}
use Rattle.profile_table.specs.declared.turn.Turn.{Turn}

abbrev pub said : Result (Option ℕ) Fault → Answer
said (Err f) = Refused f
said (Ok o) = found o

-- a look-up in all rows
abbrev pub look_in : List Row → ℕ → ℕ → Answer
look_in rows device version = said (err_or (fault rows) (profile rows device version))

-- from the first look-up on: a row, or a line that cannot be read, ends all
abbrev pub looks : List Row → List (Option Entry) → List Answer
looks rows [] = []
looks rows (None ∷ es) = Unread ∷ []
looks rows (Some Blank ∷ es) = looks rows es
looks rows (Some (Ranged r) ∷ es) = Unread ∷ []
looks rows (Some (Look device version) ∷ es) = look_in rows device version ∷ looks rows es

-- behind some rows: without any look-up the table's error, or that it is taken
abbrev pub answers : List Row → List (Option Entry) → List Answer
answers rows [] = table_answer (err_or (fault rows) tt) ∷ []
answers rows (None ∷ es) = Unread ∷ []
answers rows (Some Blank ∷ es) = answers rows es
answers rows (Some (Ranged r) ∷ es) = answers (rows ++ r ∷ []) es
answers rows (Some (Look device version) ∷ es) = look_in rows device version ∷ looks rows es

-- what the turns answer, one line after the other, until one ends all
abbrev pub then_on : Turn → List Answer → List Answer
then_on t rest = option_to_list t.answer ++ cond t.ended [] rest

abbrev pub turns : List ℕ → Judged → List (Option Entry) → List Answer
turns words judged [] = then_on (last_turn words judged) []
turns words judged (e ∷ es) =
    then_on (line_turn words judged e).0 (turns (line_turn words judged e).1 (line_turn words judged e).0.judged es)
