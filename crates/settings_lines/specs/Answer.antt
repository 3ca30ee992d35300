-- What is answered, as lines
use Rattle.std.specs.Prelude.{ℕ, ◌+◌, ◌%◌, Bool, true, false, ◌||◌, cond, List, [], ◌∷◌, ◌++◌, eqb, codes}
use Rattle.text.specs.Digits.{hex_digits, decimal_digits}
use Rattle.settings.specs.Fault.{number}
use Rattle.settings.specs.declared.setting.Setting.{Setting}
use Rattle.settings_lines.specs.declared.answer.Answer.{Answer}
use Rattle.settings_lines.specs.declared.answer.Answer.TheVariants.{Stored, Found, Nothing, Refused, Shown, Unread}

abbrev pub setting_text : Setting → List ℕ
setting_text x = codes "version " ++ decimal_digits x.version ++ codes " pause " ++ decimal_digits x.pause ++ codes " veto " ++ cond x.veto (codes "1") (codes "0")

-- ---- the words of a store, eight to a line
abbrev pub is_last : List ℕ → Bool
is_last [] = true
is_last (w ∷ ws) = false

-- a newline behind every eighth word and the last, a blank behind the others
abbrev pub behind : ℕ → Bool → ℕ
behind i last = cond (eqb (i % 8) 7 || last) 10 32

-- from the word at a place on
unfoldable pub shown_from : ℕ → List ℕ → List ℕ
shown_from i [] = []
shown_from i (w ∷ ws) = (hex_digits w ++ behind i (is_last ws) ∷ []) ++ shown_from (i + 1) ws

abbrev pub answer_text : List ℕ → Answer → List ℕ
answer_text words (Stored v) = codes "stored " ++ decimal_digits v ++ 10 ∷ []
answer_text words (Found x) = setting_text x ++ 10 ∷ []
answer_text words Nothing = codes "none" ++ 10 ∷ []
answer_text words (Refused f) = codes "no " ++ decimal_digits (number f) ++ 10 ∷ []
answer_text words Shown = shown_from 0 words
answer_text words Unread = codes "no 25" ++ 10 ∷ []
