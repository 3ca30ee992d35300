-- A list's pairs of device and register, from the words that are lent for them
use Rattle.std.specs.Prelude.{ℕ, Bool, true, false, ◌||◌, ltb, List, [], ◌∷◌}

-- two words each; a last device without a register is no pair
abbrev pub pairs_of : List ℕ → List (ℕ × ℕ)
pairs_of [] = []
pairs_of (device ∷ []) = []
pairs_of (device ∷ register ∷ rest) = (device, register) ∷ pairs_of rest

-- whether these are no list: a device or a register that MDIO has not, or a last device without a register
abbrev pub outside : List ℕ → Bool
outside [] = false
outside (device ∷ []) = true
outside (device ∷ register ∷ rest) = (ltb 31 device || ltb 0xffff register) || outside rest
