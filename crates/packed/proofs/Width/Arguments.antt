-- How many words each state of arguments is
use Prim.Native.Nat.{ℕ}
use mathlib.Core.Path.{◌≡◌, refl}
use mathlib.Core.List.{List, ◌++◌}
use lib.ListN.{length, drop}
use lib.Seq.{drop_at}
use Rattle.std.specs.Prelude.{Bool, Option}
use Rattle.packed.proofs.Parts.{option_length}
use Rattle.packed.specs.Packed.{words_flag, words_option}

pub maybe_flag_length : (s : Option Bool) → length (words_option 1 words_flag s) ≡ 2
maybe_flag_length = option_length _ (λ _. refl)

pub drop_maybe_flag : (s : Option Bool) (rest : List ℕ) → drop 2 (words_option 1 words_flag s ++ rest) ≡ rest
drop_maybe_flag s rest = drop_at (words_option 1 words_flag s) rest 2 (maybe_flag_length s)
