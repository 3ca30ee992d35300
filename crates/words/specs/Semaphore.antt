-- The semaphore bits of SW_FW_SYNC (Intel datasheets), of the X552 and the X553
use Rattle.std.specs.Prelude.{ℕ, ◌+◌, ◌^◌, Bool, List, [], ◌∷◌}
use Rattle.hardware.specs.Bits.{bit}
use Rattle.hardware.specs.Talk.{pick}
use Rattle.words.specs.declared.semaphore.Bits.{Bits}

-- a software bit, with the firmware bit and the flash bit that block it, where it has them
pub record Row : Type 0 where
  pub software : ℕ
  pub firmware : List ℕ
  pub flash : List ℕ

abbrev row : ℕ → List ℕ → List ℕ → Row
row s f h = record { software = s; firmware = f; flash = h }

-- the document's table: a mask's other bits are dropped
abbrev pub rows : List Row
rows =
    row 0 (5 ∷ []) (4 ∷ [])
    ∷ row 1 (6 ∷ []) []
    ∷ row 2 (7 ∷ []) []
    ∷ row 3 (8 ∷ []) []
    ∷ row 10 [] []
    ∷ row 11 (13 ∷ []) []
    ∷ row 12 (14 ∷ []) []
    ∷ []

-- a bit at each of some places
abbrev pub placed : Bool → List ℕ → ℕ
placed set [] = 0
placed set (i ∷ is) = pick set (2 ^ i) 0 + placed set is

-- the mask's software bits, each at the places that its row has for it
abbrev pub gather : (Row → List ℕ) → List Row → ℕ → ℕ
gather places [] mask = 0
gather places (r ∷ rs) mask = placed (bit r.software mask) (places r) + gather places rs mask

-- the software bits to take
unfoldable pub software : ℕ → ℕ
software mask = gather (λ r. r.software ∷ []) rows mask

-- the firmware bits that block them
unfoldable pub firmware : ℕ → ℕ
firmware mask = gather (λ r. r.firmware) rows mask

-- the flash bit that blocks them
unfoldable pub flash : ℕ → ℕ
flash mask = gather (λ r. r.flash) rows mask

unfoldable pub bits : ℕ → Bits
bits mask = record { sw = software mask; fw = firmware mask; hw = flash mask }
