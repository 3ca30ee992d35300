-- The words of hardware's states: a kind from 1 on, its numbers, its parts, and zeros up to the type's width
use Rattle.std.specs.Prelude.{ℕ, ◌%◌, List, [], ◌∷◌, eqb, replicate}
use Rattle.hardware.specs.Talk.{pick}
use Rattle.packed.specs.Tape.{word_at}
use Rattle.hardware.specs.declared.Action.TheVariants as actionv
use Rattle.hardware.specs.declared.Action.{Action}
use Rattle.hardware.specs.declared.Error.TheVariants as errorv
use Rattle.hardware.specs.declared.Error.{Error}
use Rattle.hardware.specs.declared.Family.TheVariants as familyv
use Rattle.hardware.specs.declared.Family.{Family}

-- 5 words
unfoldable pub words_error : Error → List ℕ
words_error (errorv.Io x) = 1 ∷ x ∷ replicate 3 0
words_error errorv.Removed = 2 ∷ replicate 4 0
words_error (errorv.Timeout register mask expected last) = 3 ∷ register ∷ mask ∷ expected ∷ last ∷ []
words_error (errorv.Sideband address ctrl) = 4 ∷ address ∷ ctrl ∷ replicate 2 0
words_error (errorv.Semaphore held) = 5 ∷ held ∷ replicate 3 0
words_error (errorv.HostInterface hicr) = 6 ∷ hicr ∷ replicate 3 0
words_error (errorv.Firmware command status) = 7 ∷ command ∷ status ∷ replicate 2 0
words_error errorv.NoPhy = 8 ∷ replicate 4 0
words_error errorv.PhyReset = 9 ∷ replicate 4 0
words_error errorv.Lan = 10 ∷ replicate 4 0
words_error errorv.Fiber = 11 ∷ replicate 4 0
words_error errorv.Address = 12 ∷ replicate 4 0
words_error errorv.KrAddress = 13 ∷ replicate 4 0
words_error errorv.Pairs = 14 ∷ replicate 4 0
words_error errorv.Block = 15 ∷ replicate 4 0
words_error errorv.Pause = 16 ∷ replicate 4 0
words_error errorv.Windows = 17 ∷ replicate 4 0

unfoldable pub get_error : List ℕ → Error
get_error s =
    pick (eqb (word_at s 0) 1) (errorv.Io (word_at s 1)) (
    pick (eqb (word_at s 0) 2) (errorv.Removed) (
    pick (eqb (word_at s 0) 3) (errorv.Timeout (word_at s 1) (word_at s 2) (word_at s 3) (word_at s 4)) (
    pick (eqb (word_at s 0) 4) (errorv.Sideband (word_at s 1) (word_at s 2)) (
    pick (eqb (word_at s 0) 5) (errorv.Semaphore (word_at s 1)) (
    pick (eqb (word_at s 0) 6) (errorv.HostInterface (word_at s 1)) (
    pick (eqb (word_at s 0) 7) (errorv.Firmware (word_at s 1 % 256) (word_at s 2 % 256)) (
    pick (eqb (word_at s 0) 8) (errorv.NoPhy) (
    pick (eqb (word_at s 0) 9) (errorv.PhyReset) (
    pick (eqb (word_at s 0) 10) (errorv.Lan) (
    pick (eqb (word_at s 0) 11) (errorv.Fiber) (
    pick (eqb (word_at s 0) 12) (errorv.Address) (
    pick (eqb (word_at s 0) 13) (errorv.KrAddress) (
    pick (eqb (word_at s 0) 14) (errorv.Pairs) (
    pick (eqb (word_at s 0) 15) (errorv.Block) (
    pick (eqb (word_at s 0) 16) (errorv.Pause) (
    errorv.Windows))))))))))))))))

-- 1 words
unfoldable pub words_family : Family → List ℕ
words_family familyv.X552 = 1 ∷ []
words_family familyv.X553 = 2 ∷ []

unfoldable pub get_family : List ℕ → Family
get_family s =
    pick (eqb (word_at s 0) 1) (familyv.X552) (
    familyv.X553)

-- 3 words
unfoldable pub words_action : Action → List ℕ
words_action (actionv.Read x) = 1 ∷ x ∷ 0 ∷ []
words_action (actionv.Write x y) = 2 ∷ x ∷ y ∷ []
words_action (actionv.Wait x) = 3 ∷ x ∷ 0 ∷ []

unfoldable pub get_action : List ℕ → Action
get_action s =
    pick (eqb (word_at s 0) 1) (actionv.Read (word_at s 1)) (
    pick (eqb (word_at s 0) 2) (actionv.Write (word_at s 1) (word_at s 2)) (
    actionv.Wait (word_at s 1)))
