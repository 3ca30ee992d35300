-- The words of words's states: a kind from 1 on, its numbers, its parts, and zeros up to the type's width
use Rattle.std.specs.Prelude.{ℕ, List, ◌∷◌, eqb, drop, replicate}
use Rattle.hardware.specs.Talk.{pick}
use Rattle.packed.specs.Tape.{word_at}
use Rattle.packed.specs.Packed.{get_option, get_word, words_option, words_word}
use Rattle.words.specs.declared.link.Link.TheVariants as linkv
use Rattle.words.specs.declared.link.Link.{Link}

-- 3 words
unfoldable pub words_link : Link → List ℕ
words_link linkv.Down = 1 ∷ replicate 2 0
words_link (linkv.Up megabits) = 2 ∷ words_option 1 words_word megabits

unfoldable pub get_link : List ℕ → Link
get_link s =
    pick (eqb (word_at s 0) 1) (linkv.Down) (
    linkv.Up (get_option get_word (drop 1 s)))
