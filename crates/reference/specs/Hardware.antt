-- hardware.rs: `veto` and `link`
use Rattle.std.specs.Prelude.{ℕ, ◌/◌, ◌^◌, Bool, not, eqb, Option, None, Some}
use Rattle.std.specs.Int.Bits.{bit_and}
use Rattle.hardware.specs.Talk.{Call, ◌>>=◌, read, return, pick, is_clear}
use Rattle.hardware.specs.declared.Family.{Family}
use Rattle.hardware.specs.declared.Family.TheVariants.{X552, X553}
use Rattle.words.specs.declared.link.Link.{Link}
use Rattle.words.specs.declared.link.Link.TheVariants.{Down, Up}

-- hardware.rs:223
abbrev pub vetoed : ℕ → Call Bool
vetoed mmngc = return (not (is_clear mmngc 1))

abbrev pub veto : Call Bool
veto = read 0x42d0 >>= vetoed

-- hardware.rs:360
abbrev pub code0 : Family → Option ℕ
code0 X552 = None
code0 X553 = Some 10

abbrev pub megabits : Family → ℕ → Bool → Option ℕ
megabits family code nonStd =
    pick (eqb code 0) (code0 family)
    (pick (eqb code 1) (Some 100)
    (pick (eqb code 2) (Some 1000)
    (pick (eqb code 3) (pick nonStd (Some 2500) (Some 10000))
    None)))

unfoldable pub linked : Family → ℕ → Call Link
linked family value =
    pick (is_clear value 0x40000000) (return Down)
    (return (Up (megabits family (bit_and (value / 2 ^ 28) 3) (not (is_clear value 0x8000000)))))

abbrev pub link : Family → Call Link
link family = read 0x42a4 >>= linked family
