-- The words of watch's states: a kind from 1 on, its numbers, its parts, and zeros up to the type's width
use Rattle.std.specs.Prelude.{ℕ, ◌%◌, List, ◌∷◌, ◌++◌, eqb, drop, replicate}
use Rattle.hardware.specs.Talk.{pick}
use Rattle.packed.specs.Tape.{word_at}
use Rattle.packed.specs.Kr.{get_kr_modify, get_kr_place, words_kr_modify, words_kr_place}
use Rattle.packed.specs.Packed.{get_option, get_word, words_option, words_word}
use Rattle.packed.specs.Phy.{get_an_link, words_an_link}
use Rattle.watch.specs.declared.poll.Poll.TheVariants as pollv
use Rattle.watch.specs.declared.poll.Poll.{Poll}

-- 10 words
unfoldable pub words_poll : Poll → List ℕ
words_poll (pollv.First an_link) = 1 ∷ (words_an_link an_link) ++ (replicate 8 0)
words_poll pollv.Status = 2 ∷ replicate 9 0
words_poll (pollv.Second x an_link) = 3 ∷ x ∷ (words_an_link an_link) ++ (replicate 7 0)
words_poll (pollv.Force x y sequence) = 4 ∷ x ∷ y ∷ (words_kr_place sequence.place) ++ ((words_option 1 words_word sequence.first) ++ (words_kr_modify sequence.modify))

unfoldable pub get_poll : List ℕ → Poll
get_poll s =
    pick (eqb (word_at s 0) 1) (pollv.First (get_an_link (drop 1 s))) (
    pick (eqb (word_at s 0) 2) (pollv.Status) (
    pick (eqb (word_at s 0) 3) (pollv.Second (word_at s 1 % 65536) (get_an_link (drop 2 s))) (
    pollv.Force (word_at s 1 % 65536) (word_at s 2) (record { place = (get_kr_place (drop 3 s)); first = (get_option get_word (drop 6 s)); modify = (get_kr_modify (drop 2 (drop 6 s))) }))))
