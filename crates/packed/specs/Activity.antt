-- The words of activity's states: a kind from 1 on, its numbers, its parts, and zeros up to the type's width
use Rattle.std.specs.Prelude.{ℕ, ◌%◌, List, [], ◌∷◌, eqb}
use Rattle.hardware.specs.Talk.{pick}
use Rattle.packed.specs.Tape.{word_at}
use Rattle.activity.specs.declared.Activity.TheVariants as activityv
use Rattle.activity.specs.declared.Activity.{Activity}

-- 3 words
unfoldable pub words_activity : Activity → List ℕ
words_activity (activityv.Exchanging x) = 1 ∷ x ∷ 0 ∷ []
words_activity (activityv.Pausing x y) = 2 ∷ x ∷ y ∷ []

unfoldable pub get_activity : List ℕ → Activity
get_activity s =
    pick (eqb (word_at s 0) 1) (activityv.Exchanging (word_at s 1)) (
    activityv.Pausing (word_at s 1) (word_at s 2 % 256))
