-- What is answered, as a line
use Rattle.std.specs.Prelude.{ℕ, List, [], ◌∷◌, ◌++◌, drop, codes}
use Rattle.text.specs.Digits.{hex_digits, decimal_digits}
use Rattle.profile_table.specs.declared.fault.Fault.{Fault}
use Rattle.profile_table.specs.declared.fault.Fault.TheVariants.{BadRow, Gap, Overlap}
use Rattle.profile_table.specs.declared.answer.Answer.{Answer}
use Rattle.profile_table.specs.declared.answer.Answer.TheVariants.{Taken, Profile, Nothing, Refused, Unread}

-- four hexadecimal digits
abbrev pub half_digits : ℕ → List ℕ
half_digits v = drop 4 (hex_digits v)

-- a device and a version
abbrev pub place_text : ℕ → ℕ → List ℕ
place_text device version = half_digits device ++ (32 ∷ []) ++ half_digits version

abbrev pub fault_text : Fault → List ℕ
fault_text (BadRow row) = codes "28 " ++ decimal_digits row
fault_text (Gap device version) = codes "29 " ++ place_text device version
fault_text (Overlap device version) = codes "30 " ++ place_text device version

abbrev pub said_text : Answer → List ℕ
said_text Taken = codes "taken"
said_text (Profile n) = codes "profile " ++ decimal_digits n
said_text Nothing = codes "none"
said_text (Refused f) = codes "no " ++ fault_text f
said_text Unread = codes "no 25"

abbrev pub answer_text : Answer → List ℕ
answer_text a = said_text a ++ 10 ∷ []
