-- hardware.rs's `link` reads LINKS as the datasheets have it
use Rattle.std.specs.Prelude.{Option}
use Prim.Native.Nat.{ℕ, zero, suc, ◌/◌, ◌%◌, ◌^◌, ◌<◌}
use mathlib.Core.Path.{◌≡◌, refl, ap, ◌∙◌}
use mathlib.Core.Bool.{Bool, true, false, not}
use native.Mathlib.Omega.{arith}
use Rattle.hardware.specs.Bits.{bit}
use lib.Bits.{bit_and}
use Rattle.hardware.specs.Talk.{return, pick, is_clear}
use Rattle.hardware.specs.declared.Family.{Family}
use Rattle.words.specs.Link.{speed, link_of}
use Rattle.words.proofs.Theorems.Link.{up_rust, non_standard_rust, speed_rust}
use Rattle.words.specs.declared.link.Link.TheVariants.{Down, Up}
use Rattle.reference.specs.Hardware.{megabits, linked}

same_speed : (family : Family) (code : ℕ) (b : Bool) → code < 4 → megabits family code b ≡ speed family code b
same_speed family zero b h = refl
same_speed family (suc zero) b h = refl
same_speed family (suc (suc zero)) b h = refl
same_speed family (suc (suc (suc zero))) b h = refl
same_speed family (suc (suc (suc (suc n)))) b h = absurd (omega arith)

-- `Down` where bit 30 is clear
upside : (b : Bool) (m : Option ℕ) → pick (not b) (return Down) (return (Up m)) ≡ return (pick b (Up m) Down)
upside true m = refl
upside false m = refl

not_not : (b : Bool) → not (not b) ≡ b
not_not true = refl
not_not false = refl

pub linked_document : (family : Family) (value : ℕ) → linked family value ≡ return (link_of family value)
unfolding linked link_of
linked_document family value =
    let m : Option ℕ = megabits family (bit_and (value / 2 ^ 28) 3) (not (is_clear value 0x8000000)) in
    let code : megabits family (bit_and (value / 2 ^ 28) 3) (not (is_clear value 0x8000000)) ≡ speed family (value / 2 ^ 28 % 4) (bit 27 value) =
    rw (speed_rust value, non_standard_rust value, not_not (bit 27 value)) (same_speed family (value / 2 ^ 28 % 4) (bit 27 value) (omega arith)) in
    ap (λ (b : Bool). pick b (return Down) (return (Up m))) (up_rust value)
    ∙ upside (bit 30 value) m
    ∙ ap (λ (x : Option ℕ). return (pick (bit 30 value) (Up x) Down)) code
