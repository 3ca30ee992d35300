-- The words of long's states: a kind from 1 on, its numbers, its parts, and zeros up to the type's width
use Rattle.std.specs.Prelude.{ℕ, List, ◌∷◌, ◌++◌, eqb, drop, replicate}
use Rattle.hardware.specs.Talk.{pick}
use Rattle.packed.specs.Tape.{word_at}
use Rattle.long.specs.declared.command.LongPlace.TheVariants as long_placev
use Rattle.long.specs.declared.command.LongPlace.{LongPlace}
use Rattle.packed.specs.Access.{get_command_place, words_command_place}
use Rattle.packed.specs.Hostif.{get_exchange, words_exchange}
use Rattle.packed.specs.Sync.{get_sync, words_sync}

-- 18 words
unfoldable pub words_long_place : LongPlace → List ℕ
words_long_place (long_placev.Sync command_place sync) = 1 ∷ (words_command_place command_place) ++ (words_sync sync)
words_long_place (long_placev.Exchange exchange) = 2 ∷ (words_exchange exchange) ++ (replicate 12 0)

unfoldable pub get_long_place : List ℕ → LongPlace
get_long_place s =
    pick (eqb (word_at s 0) 1) (long_placev.Sync (get_command_place (drop 1 s)) (get_sync (drop 8 s))) (
    long_placev.Exchange (get_exchange (drop 1 s)))
