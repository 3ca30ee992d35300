-- The listing's lines as text
use Rattle.std.specs.Prelude.{ℕ, List, [], ◌∷◌, ◌++◌, eqb, take, Ok, Err}
use Rattle.hardware.specs.Talk.{pick, Res}
use Rattle.hardware.specs.Numbers.{number, values}
use Rattle.answers.specs.Fields.{fields}
use Rattle.answers.specs.declared.Value.{Value}
use Rattle.text.specs.Digits.{hex_digits, decimal_digits}

-- `r `, `w ` and `d ` with what follows
abbrev pub read_text : ℕ → List ℕ
read_text register = (114 ∷ 32 ∷ []) ++ hex_digits register ++ 10 ∷ []

abbrev pub write_text : ℕ → ℕ → List ℕ
write_text register value = (119 ∷ 32 ∷ []) ++ hex_digits register ++ (32 ∷ []) ++ hex_digits value ++ 10 ∷ []

abbrev pub wait_text : ℕ → List ℕ
wait_text micros = (100 ∷ 32 ∷ []) ++ decimal_digits micros ++ 10 ∷ []

-- an action, by its three words in the transcript
unfoldable pub action_text : ℕ → ℕ → ℕ → List ℕ
action_text kind register value =
    pick (eqb kind 1) (read_text register)
    (pick (eqb kind 2) (write_text register value)
    (wait_text value))

-- a transcript's lines: three words an action
abbrev pub lines_text : List ℕ → List ℕ
lines_text [] = []
lines_text (kind ∷ []) = []
lines_text (kind ∷ register ∷ []) = []
lines_text (kind ∷ register ∷ value ∷ ws) = action_text kind register value ++ lines_text ws

-- fields are eight-digit words
abbrev pub field_text : ℕ → List ℕ
field_text w = (32 ∷ []) ++ hex_digits w

abbrev pub words_text : List ℕ → List ℕ
words_text [] = []
words_text (w ∷ ws) = field_text w ++ words_text ws

-- ` actions `, ` micros `
abbrev pub counts_text : ℕ → ℕ → List ℕ
counts_text actions micros =
    (32 ∷ 97 ∷ 99 ∷ 116 ∷ 105 ∷ 111 ∷ 110 ∷ 115 ∷ 32 ∷ []) ++ decimal_digits actions
    ++ (32 ∷ 109 ∷ 105 ∷ 99 ∷ 114 ∷ 111 ∷ 115 ∷ 32 ∷ []) ++ decimal_digits micros ++ 10 ∷ []

-- `end ok`
abbrev pub ok_text : List ℕ → ℕ → ℕ → List ℕ
ok_text fields actions micros = (101 ∷ 110 ∷ 100 ∷ 32 ∷ 111 ∷ 107 ∷ []) ++ words_text fields ++ counts_text actions micros

-- `end no `
abbrev pub no_text : ℕ → List ℕ → ℕ → ℕ → List ℕ
no_text number fields actions micros =
    (101 ∷ 110 ∷ 100 ∷ 32 ∷ 110 ∷ 111 ∷ 32 ∷ []) ++ decimal_digits number ++ words_text fields ++ counts_text actions micros

-- a conversation that has ended, with its host block as it is then, of 448 words at the most
abbrev pub end_text : Res Value → List ℕ → ℕ → ℕ → List ℕ
end_text (Ok v) block actions micros = ok_text (fields v (take 448 block)) actions micros
end_text (Err e) block actions micros = no_text (number e) (values e) actions micros

-- 25 and 26, where the listing stops before the end, have no field
abbrev pub stop_text : ℕ → ℕ → ℕ → List ℕ
stop_text number actions micros = (101 ∷ 110 ∷ 100 ∷ 32 ∷ 110 ∷ 111 ∷ 32 ∷ []) ++ decimal_digits number ++ counts_text actions micros

-- a host block's words
abbrev pub left_text : List ℕ → List ℕ
left_text ws = (108 ∷ 101 ∷ 102 ∷ 116 ∷ []) ++ words_text (take 448 ws) ++ (10 ∷ [])
