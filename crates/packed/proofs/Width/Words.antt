-- How many words each state of words is
use Prim.Native.Nat.{ℕ}
use mathlib.Core.Path.{◌≡◌, refl}
use mathlib.Core.List.{List, ◌++◌}
use lib.ListN.{length, drop}
use lib.Seq.{drop_at}
use Rattle.std.specs.Prelude.{Option}
use Rattle.words.specs.declared.link.Link.TheVariants as linkv
use Rattle.words.specs.declared.link.Link.{Link}
use Rattle.packed.specs.Words.{words_link}
use Rattle.packed.proofs.Parts.{option_length}
use Rattle.packed.specs.Packed.{words_word, words_option}

pub maybe_word_length : (s : Option ℕ) → length (words_option 1 words_word s) ≡ 2
maybe_word_length = option_length _ (λ _. refl)

pub drop_maybe_word : (s : Option ℕ) (rest : List ℕ) → drop 2 (words_option 1 words_word s ++ rest) ≡ rest
drop_maybe_word s rest = drop_at (words_option 1 words_word s) rest 2 (maybe_word_length s)

pub link_length : (s : Link) → length (words_link s) ≡ 3
unfolding words_link
link_length linkv.Down = refl
link_length (linkv.Up x0) = simp maybe_word_length
