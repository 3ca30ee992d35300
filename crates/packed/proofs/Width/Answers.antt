-- How many words each state of answers is
use Prim.Native.Nat.{ℕ}
use mathlib.Core.Path.{◌≡◌, refl}
use mathlib.Core.List.{List, ◌++◌}
use lib.ListN.{length, drop, length-append}
use lib.Seq.{drop_at}
use Rattle.std.specs.Prelude.{Option, Result}
use Rattle.answers.specs.declared.Copper.TheVariants as copperv
use Rattle.answers.specs.declared.Copper.{Copper}
use Rattle.answers.specs.declared.Internal.TheVariants as internalv
use Rattle.answers.specs.declared.Internal.{Internal}
use Rattle.answers.specs.declared.Setup552.TheVariants as setup552v
use Rattle.answers.specs.declared.Setup552.{Setup552}
use Rattle.answers.specs.declared.Setup553.TheVariants as setup553v
use Rattle.answers.specs.declared.Setup553.{Setup553}
use Rattle.answers.specs.declared.Value.TheVariants as valuev
use Rattle.answers.specs.declared.Value.{Value}
use Rattle.hardware.specs.declared.Error.{Error}
use Rattle.packed.specs.Answers.{words_internal, words_setup552, words_setup553, words_copper, words_value}
use Rattle.packed.proofs.Width.Hardware.{error_length}
use Rattle.packed.proofs.Width.Words.{link_length, maybe_word_length}
use Rattle.packed.proofs.Parts.{option_length, result_length}
use Rattle.packed.specs.Packed.{words_word, words_byte_word, words_option, words_result}
use Rattle.packed.specs.Hardware.{words_error}

pub maybe_byte_word_length : (s : Option (ℕ × ℕ)) → length (words_option 2 words_byte_word s) ≡ 3
maybe_byte_word_length = option_length _ (λ _. refl)

pub internal_length : (s : Internal) → length (words_internal s) ≡ 1
unfolding words_internal
internal_length internalv.Ixfi = refl
internal_length internalv.Kr = refl

pub drop_internal : (s : Internal) (rest : List ℕ) → drop 1 (words_internal s ++ rest) ≡ rest
drop_internal s rest = drop_at (words_internal s) rest 1 (internal_length s)

pub setup552_length : (s : Setup552) → length (words_setup552 s) ≡ 11
unfolding words_setup552
setup552_length setup552v.Kx4 = refl
setup552_length setup552v.Xfi = refl
setup552_length setup552v.FirmwarePhy = refl
setup552_length (setup552v.Kr x0) = refl
setup552_length setup552v.ManageabilityVeto = refl
setup552_length (setup552v.Copper x0) = simp internal_length

pub setup553_length : (s : Setup553) → length (words_setup553 s) ≡ 12
unfolding words_setup553
setup553_length (setup553v.Kr x0) = refl
setup553_length (setup553v.Kr2500 x0) = refl
setup553_length (setup553v.Sgmii x0) = refl
setup553_length setup553v.ManageabilityVeto = refl
setup553_length (setup553v.X557 x0) = simp setup552_length
setup553_length (setup553v.Firmware x0) = simp (length-append, maybe_word_length)

pub copper_length : (s : Copper) → length (words_copper s) ≡ 2
unfolding words_copper
copper_length copperv.Down = refl
copper_length (copperv.Up x0) = refl
copper_length (copperv.Invalid x0) = refl
copper_length (copperv.Held x0) = refl

pub drop_copper : (s : Copper) (rest : List ℕ) → drop 2 (words_copper s ++ rest) ≡ rest
drop_copper s rest = drop_at (words_copper s) rest 2 (copper_length s)

pub maybe_half_length : (s : Option ℕ) → length (words_option 1 words_word s) ≡ 2
maybe_half_length = option_length _ (λ _. refl)

pub drop_maybe_half : (s : Option ℕ) (rest : List ℕ) → drop 2 (words_option 1 words_word s ++ rest) ≡ rest
drop_maybe_half s rest = drop_at (words_option 1 words_word s) rest 2 (maybe_half_length s)

pub value_length : (s : Value) → length (words_value s) ≡ 13
unfolding words_value
value_length valuev.Nothing = refl
value_length (valuev.Flag x0) = refl
value_length (valuev.Word x0) = refl
value_length (valuev.Link x0) = simp (length-append, link_length)
value_length (valuev.Command x0 x1) = refl
value_length (valuev.List x0) = refl
value_length (valuev.Activity x0) = refl
value_length (valuev.Probe x0) = simp (length-append, maybe_word_length)
value_length (valuev.Scan x0) = simp (length-append, maybe_byte_word_length)
value_length (valuev.Abilities x0) = refl
value_length (valuev.X552 x0) = simp (length-append, setup552_length)
value_length (valuev.X553 x0) = simp setup553_length
value_length (valuev.Poll x0 x1 x2) = simp (length-append, copper_length, maybe_half_length)

pub value_or_error_length : (s : Result Value Error) → length (words_result 13 5 words_value words_error s) ≡ 14
value_or_error_length = result_length _ _ value_length error_length
