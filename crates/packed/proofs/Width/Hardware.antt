-- How many words each state of hardware is
use Prim.Native.Nat.{ℕ}
use mathlib.Core.Path.{◌≡◌, refl}
use mathlib.Core.List.{List, ◌++◌}
use lib.ListN.{length, drop}
use lib.Seq.{drop_at}
use Rattle.std.specs.Prelude.{Bool, Result}
use Rattle.hardware.specs.declared.Action.TheVariants as actionv
use Rattle.hardware.specs.declared.Action.{Action}
use Rattle.hardware.specs.declared.Error.TheVariants as errorv
use Rattle.hardware.specs.declared.Error.{Error}
use Rattle.hardware.specs.declared.Family.TheVariants as familyv
use Rattle.hardware.specs.declared.Family.{Family}
use Rattle.packed.specs.Hardware.{words_error, words_family, words_action}
use Rattle.packed.proofs.Parts.{result_length}
use Rattle.packed.specs.Packed.{words_word, words_flag, words_nothing, words_result}

pub error_length : (s : Error) → length (words_error s) ≡ 5
unfolding words_error
error_length (errorv.Io x0) = refl
error_length errorv.Removed = refl
error_length (errorv.Timeout x0 x1 x2 x3) = refl
error_length (errorv.Sideband x0 x1) = refl
error_length (errorv.Semaphore x0) = refl
error_length (errorv.HostInterface x0) = refl
error_length (errorv.Firmware x0 x1) = refl
error_length errorv.NoPhy = refl
error_length errorv.PhyReset = refl
error_length errorv.Lan = refl
error_length errorv.Fiber = refl
error_length errorv.Address = refl
error_length errorv.KrAddress = refl
error_length errorv.Pairs = refl
error_length errorv.Block = refl
error_length errorv.Pause = refl
error_length errorv.Windows = refl

pub family_length : (s : Family) → length (words_family s) ≡ 1
unfolding words_family
family_length familyv.X552 = refl
family_length familyv.X553 = refl

pub drop_family : (s : Family) (rest : List ℕ) → drop 1 (words_family s ++ rest) ≡ rest
drop_family s rest = drop_at (words_family s) rest 1 (family_length s)

pub action_length : (s : Action) → length (words_action s) ≡ 3
unfolding words_action
action_length (actionv.Read x0) = refl
action_length (actionv.Write x0 x1) = refl
action_length (actionv.Wait x0) = refl

pub drop_action : (s : Action) (rest : List ℕ) → drop 3 (words_action s ++ rest) ≡ rest
drop_action s rest = drop_at (words_action s) rest 3 (action_length s)

pub word_or_error_length : (s : Result ℕ Error) → length (words_result 1 5 words_word words_error s) ≡ 6
word_or_error_length = result_length _ _ (λ _. refl) error_length

pub flag_or_error_length : (s : Result Bool Error) → length (words_result 1 5 words_flag words_error s) ≡ 6
flag_or_error_length = result_length _ _ (λ _. refl) error_length

pub nothing_or_error_length : (s : Result (Unit {0}) Error) → length (words_result 0 5 words_nothing words_error s) ≡ 6
nothing_or_error_length = result_length _ _ (λ _. refl) error_length

pub drop_nothing_or_error : (s : Result (Unit {0}) Error) (rest : List ℕ) → drop 6 (words_result 0 5 words_nothing words_error s ++ rest) ≡ rest
drop_nothing_or_error s rest = drop_at (words_result 0 5 words_nothing words_error s) rest 6 (nothing_or_error_length s)
