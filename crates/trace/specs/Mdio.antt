-- The operations of mdio.rs: their names and arguments
use Rattle.std.specs.Prelude.{ℕ, Bool, true, false, ◌&&◌, leb, List, [], ◌∷◌, length, Option, Some, None}
use Rattle.hardware.specs.Talk.{pick}
use Rattle.text.specs.Same.{same}
use Rattle.arguments.specs.declared.Advertised.{Advertised}
use Rattle.arguments.specs.declared.Register.{Register}
use Rattle.operations.specs.declared.Operation.{Operation}
use Rattle.operations.specs.declared.Operation.TheVariants.{ReadReg, MdioList, WriteReg, Modify, Probe, Scan, Reset, Abilities, Advertise, AnLink}
use Rattle.trace.specs.Kinds.{Line, no_more, with_word, with_half, with_truth, with_maybe}
use Rattle.trace.specs.Kr.{kr_name}

abbrev pub with_read_reg : List ℕ → Line
with_read_reg = with_word λ phy. with_word λ dev. with_half λ reg. no_more (ReadReg phy dev reg)

-- device and register in turn
abbrev pub are_pairs : List ℕ → Bool
are_pairs [] = true
are_pairs (device ∷ []) = false
are_pairs (device ∷ register ∷ rest) = leb register 0xffff && are_pairs rest

-- the pairs are the words that are lent
abbrev pub with_pairs : Operation → List ℕ → Line
with_pairs what vs = pick (are_pairs vs) (Some (what, length vs)) None

abbrev pub with_list : List ℕ → Line
with_list = with_word λ phy. with_pairs (MdioList phy)

abbrev pub with_write_reg : List ℕ → Line
with_write_reg = with_word λ phy. with_word λ dev. with_half λ reg. with_half λ value. no_more (WriteReg phy dev reg value)

abbrev pub register : ℕ → ℕ → ℕ → ℕ → ℕ → Register
register phy dev reg keep set = record { phy = phy; device = dev; register = reg; keep = keep; set = set }

-- the bits to keep, then those to set
abbrev pub with_modify : List ℕ → Line
with_modify =
    with_word λ phy. with_word λ dev. with_half λ reg. with_half λ keep. with_half λ set. no_more (Modify (register phy dev reg keep set))

-- a PHY's address alone
abbrev pub with_phy : (ℕ → Operation) → List ℕ → Line
with_phy what = with_word λ phy. no_more (what phy)

abbrev pub with_reset : List ℕ → Line
with_reset = with_word λ phy. with_truth λ x557. no_more (Reset phy x557)

abbrev pub advertised : ℕ → Bool → Bool → Bool → Option Bool → Bool → Advertised
advertised phy g10 g1 m100 nbase veto =
    record { phy = phy; speeds = record { g10 = g10; g1 = g1; m100 = m100 }; nbase = nbase; veto = veto }

abbrev pub with_advertise : List ℕ → Line
with_advertise =
    with_word λ phy. with_truth λ g10. with_truth λ g1. with_truth λ m100. with_maybe λ nbase. with_truth λ veto.
    no_more (Advertise (advertised phy g10 g1 m100 nbase veto))

-- `reset`, `abilities`, `advertise`, `an_link`, or one of x552.rs or x553.rs
unfoldable pub phy_name : List ℕ → List ℕ → Line
phy_name w vs =
    pick (same w (114 ∷ 101 ∷ 115 ∷ 101 ∷ 116 ∷ [])) (with_reset vs)
    (pick (same w (97 ∷ 98 ∷ 105 ∷ 108 ∷ 105 ∷ 116 ∷ 105 ∷ 101 ∷ 115 ∷ [])) (with_phy Abilities vs)
    (pick (same w (97 ∷ 100 ∷ 118 ∷ 101 ∷ 114 ∷ 116 ∷ 105 ∷ 115 ∷ 101 ∷ [])) (with_advertise vs)
    (pick (same w (97 ∷ 110 ∷ 95 ∷ 108 ∷ 105 ∷ 110 ∷ 107 ∷ [])) (with_phy AnLink vs)
    (kr_name w vs))))

-- `read_reg`, `mdio_list`, `write_reg`, `modify`, `probe`, `scan`, or one of the above
unfoldable pub mdio_name : List ℕ → List ℕ → Line
mdio_name w vs =
    pick (same w (114 ∷ 101 ∷ 97 ∷ 100 ∷ 95 ∷ 114 ∷ 101 ∷ 103 ∷ [])) (with_read_reg vs)
    (pick (same w (109 ∷ 100 ∷ 105 ∷ 111 ∷ 95 ∷ 108 ∷ 105 ∷ 115 ∷ 116 ∷ [])) (with_list vs)
    (pick (same w (119 ∷ 114 ∷ 105 ∷ 116 ∷ 101 ∷ 95 ∷ 114 ∷ 101 ∷ 103 ∷ [])) (with_write_reg vs)
    (pick (same w (109 ∷ 111 ∷ 100 ∷ 105 ∷ 102 ∷ 121 ∷ [])) (with_modify vs)
    (pick (same w (112 ∷ 114 ∷ 111 ∷ 98 ∷ 101 ∷ [])) (with_phy Probe vs)
    (pick (same w (115 ∷ 99 ∷ 97 ∷ 110 ∷ [])) (no_more Scan vs)
    (phy_name w vs))))))
