-- Link speeds: LINKS of the X552 and the X553, and the X557's vendor status
use Rattle.std.specs.Prelude.{ℕ, ◌/◌, ◌%◌, ◌^◌, Bool, ◌==◌, Option, None, Some}
use Rattle.hardware.specs.Bits.{bit}
use Rattle.hardware.specs.Talk.{pick}
use Rattle.hardware.specs.declared.Family.{Family}
use Rattle.hardware.specs.declared.Family.TheVariants.{X552, X553}
use Rattle.words.specs.declared.link.Link.{Link}
use Rattle.words.specs.declared.link.Link.TheVariants.{Down, Up}

-- only the X553 links at 10 megabits
abbrev pub slowest : Family → Option ℕ
slowest X552 = None
slowest X553 = Some 10

-- by bits 29:28 and bit 27
abbrev pub speed : Family → ℕ → Bool → Option ℕ
speed family code nonStandard =
    pick (code == 0) (slowest family)
    (pick (code == 1) (Some 100)
    (pick (code == 2) (Some 1000)
    (pick nonStandard (Some 2500) (Some 10000))))

-- bit 30 is up
unfoldable pub link_of : Family → ℕ → Link
link_of family links = pick (bit 30 links) (Up (speed family (links / 2 ^ 28 % 4) (bit 27 links))) Down

-- the low three bits of the vendor status; the internal link carries no other speed
unfoldable pub copper : ℕ → Option ℕ
copper status = pick (status % 8 == 7) (Some 10000) (pick (status % 8 == 5) (Some 1000) None)
