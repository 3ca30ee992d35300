-- The words of kr's states: a kind from 1 on, its numbers, its parts, and zeros up to the type's width
use Rattle.std.specs.Prelude.{ℕ, List, [], ◌∷◌, eqb, replicate}
use Rattle.hardware.specs.Talk.{pick}
use Rattle.packed.specs.Tape.{word_at, is, flag_of}
use Rattle.kr.specs.declared.modify.KrModify.TheVariants as kr_modifyv
use Rattle.kr.specs.declared.modify.KrModify.{KrModify}
use Rattle.kr.specs.declared.sequence.KrPlace.TheVariants as kr_placev
use Rattle.kr.specs.declared.sequence.KrPlace.{KrPlace}

-- 2 words
unfoldable pub words_kr_modify : KrModify → List ℕ
words_kr_modify kr_modifyv.Reading = 1 ∷ 0 ∷ []
words_kr_modify (kr_modifyv.Writing x) = 2 ∷ x ∷ []

unfoldable pub get_kr_modify : List ℕ → KrModify
get_kr_modify s =
    pick (eqb (word_at s 0) 1) (kr_modifyv.Reading) (
    kr_modifyv.Writing (word_at s 1))

-- 3 words
unfoldable pub words_kr_place : KrPlace → List ℕ
words_kr_place (kr_placev.Advertise x y) = 1 ∷ (flag_of x) ∷ (flag_of y) ∷ []
words_kr_place kr_placev.Lane = 2 ∷ replicate 2 0
words_kr_place (kr_placev.Force x) = 3 ∷ (flag_of x) ∷ 0 ∷ []
words_kr_place kr_placev.Train = 4 ∷ replicate 2 0
words_kr_place kr_placev.Ffe4 = 5 ∷ replicate 2 0
words_kr_place kr_placev.Ffe5 = 6 ∷ replicate 2 0
words_kr_place kr_placev.Coeff = 7 ∷ replicate 2 0
words_kr_place kr_placev.Restart = 8 ∷ replicate 2 0
words_kr_place kr_placev.RestartLane = 9 ∷ replicate 2 0

unfoldable pub get_kr_place : List ℕ → KrPlace
get_kr_place s =
    pick (eqb (word_at s 0) 1) (kr_placev.Advertise (is (word_at s 1)) (is (word_at s 2))) (
    pick (eqb (word_at s 0) 2) (kr_placev.Lane) (
    pick (eqb (word_at s 0) 3) (kr_placev.Force (is (word_at s 1))) (
    pick (eqb (word_at s 0) 4) (kr_placev.Train) (
    pick (eqb (word_at s 0) 5) (kr_placev.Ffe4) (
    pick (eqb (word_at s 0) 6) (kr_placev.Ffe5) (
    pick (eqb (word_at s 0) 7) (kr_placev.Coeff) (
    pick (eqb (word_at s 0) 8) (kr_placev.Restart) (
    kr_placev.RestartLane))))))))
