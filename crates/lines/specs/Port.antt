-- The port line, word by word
use Rattle.std.specs.Prelude.{ℕ, List, [], ◌∷◌, Option, Some, None}
use Rattle.std.specs.Option.{option_map, option_and_then}
use Rattle.hardware.specs.Talk.{pick}
use Rattle.hardware.specs.declared.Family.{Family}
use Rattle.hardware.specs.declared.Port.{Port}
use Rattle.hardware.specs.declared.Family.TheVariants.{X552, X553}
use Rattle.text.specs.Decimal.{decimal_u32}
use Rattle.text.specs.Hex.{hex_word}
use Rattle.text.specs.Same.{same}

-- the pause, in decimal; where it is not named it is the Rust's
abbrev pub pause_of : List (List ℕ) → Option ℕ
pause_of [] = Some 10
pause_of (w ∷ []) = decimal_u32 w
pause_of (w ∷ x ∷ ws) = None

abbrev pub lan_of : Family → ℕ → List (List ℕ) → Option Port
lan_of family device [] = None
lan_of family device (w ∷ ws) =
    option_and_then (λ lan. option_map (λ pause. record { family = family; device = device; lan = lan; pause = pause }) (pause_of ws)) (hex_word 1 8 w)

abbrev pub device_of : Family → List (List ℕ) → Option Port
device_of family [] = None
device_of family (w ∷ ws) = option_and_then (λ device. lan_of family device ws) (hex_word 4 4 w)

-- `X552`, `X553`
abbrev pub family_of : List (List ℕ) → Option Port
family_of [] = None
family_of (w ∷ ws) =
    pick (same w (88 ∷ 53 ∷ 53 ∷ 50 ∷ [])) (device_of X552 ws)
    (pick (same w (88 ∷ 53 ∷ 53 ∷ 51 ∷ [])) (device_of X553 ws)
    None)

-- `port`
abbrev pub port_of : List (List ℕ) → Option Port
port_of [] = None
port_of (w ∷ ws) = pick (same w (112 ∷ 111 ∷ 114 ∷ 116 ∷ [])) (family_of ws) None
