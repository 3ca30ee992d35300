-- The firmware's bits of the model, and their software partners, are those of the datasheets' table, by which acquire_bits goes
use Prim.Native.Nat.{ℕ, ◌+◌}
use mathlib.Core.Path.{◌≡◌, refl}
use mathlib.Core.List.{List, [], ◌∷◌, ◌++◌, map}
use Rattle.hardware.specs.Bits.{bit}
use Rattle.words.specs.Semaphore.{Row, rows, firmware, flash}
use Rattle.mixing.specs.Model.{fw_bits, partner}

-- each bit that blocks a software bit, with that bit
abbrev pairs : List Row → List (ℕ × ℕ)
pairs [] = []
pairs (r ∷ rs) = map (λ i. (i, r.software)) (r.firmware ++ r.flash) ++ pairs rs

pub partners : map (λ p. (p.0, partner p.0)) (pairs rows) ≡ pairs rows
partners = refl

-- and no other bits are the firmware's
pub bits : fw_bits ≡ firmware 0xffffffff + flash 0xffffffff
unfolding firmware flash bit
bits = refl
