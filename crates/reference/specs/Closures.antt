-- The closures that the Rust hands to `kr_modify` and `modify`, as they stand there: proofs/Closures.antt has that each one
-- keeps and sets the bits that X552.antt, X553.antt and Mdio.antt say
use Rattle.std.specs.Prelude.{ℕ, Bool, Option, None, Some}
use Rattle.std.specs.Int.Bits.{bit_or}
use Rattle.hardware.specs.Bits.{without, without_of}
use Rattle.hardware.specs.Talk.{pick}

-- x552.rs:160, both
abbrev pub restart : ℕ → ℕ
restart v = bit_or v 0x80000000

-- x552.rs:172
abbrev pub autoneg_kr : Bool → ℕ → ℕ
autoneg_kr kr v = pick kr (bit_or v 0x40000) v

abbrev pub autoneg_kx : Bool → ℕ → ℕ
autoneg_kx kx v = pick kx (bit_or v 0x10000) v

abbrev pub autoneg : Bool → Bool → ℕ → ℕ
autoneg kr kx v = autoneg_kx kx (autoneg_kr kr (without (bit_or v 0x20000000) (bit_or (bit_or (bit_or 0x40000 0x10000) 0x4000) 0x8000)))

abbrev pub autoneg_lane : ℕ → ℕ
autoneg_lane v = bit_or (bit_or (without v (bit_or (bit_or 0x70000000 0x4000000) 0x2000000)) 0x40000000) 0x8000000

-- x552.rs:191
abbrev pub force : Bool → ℕ → ℕ
force ten_gig v = bit_or (without v (bit_or (bit_or (bit_or 0x20000000 0x700) 0x4000) 0x8000)) (pick ten_gig 0x400 0x200)

abbrev pub training : ℕ → ℕ
training v = bit_or v 0x10

abbrev pub adaptation : ℕ → ℕ
adaptation v = without v (bit_or (bit_or 0x40 0x8000) 0x10000)

abbrev pub coefficients : ℕ → ℕ
coefficients v = bit_or v (bit_or (bit_or (bit_or 0x80000000 8) 4) 2)

-- x553.rs:211
abbrev pub sgmii_ctrl : ℕ → ℕ
sgmii_ctrl v = bit_or (bit_or (bit_or (without v (bit_or 0x20000000 0x700)) 0x1000) 0x2000) 0x200

abbrev pub sgmii_force : ℕ → ℕ
sgmii_force v = bit_or (bit_or v 0x80000) 0x1000

abbrev pub sgmii_lane : ℕ → ℕ
sgmii_lane v = bit_or (bit_or (bit_or (without v (bit_or 0x70000000 0x8000000)) 0x20000000) 0x2000000) 0x4000000

-- x553.rs:225
abbrev pub sgmii_an_ctrl : ℕ → ℕ
sgmii_an_ctrl v = bit_or (bit_or (without v (bit_or 0x20000000 0x700)) 0x1000) 0x2000

abbrev pub sgmii_an_force : ℕ → ℕ
sgmii_an_force v = without v (bit_or 0x80000 0x1000)

abbrev pub sgmii_an_lane : ℕ → ℕ
sgmii_an_lane v = bit_or (bit_or (bit_or (without v (bit_or 0x70000000 0x8000000)) 0x40000000) 0x2000000) 0x4000000

-- x552.rs:391
abbrev pub unstall : ℕ → ℕ
unstall v = without_of 16 v 0x8000

-- mdio.rs:127
abbrev pub bit : ℕ → ℕ → Bool → ℕ
bit v mask on = pick on (bit_or v mask) (without_of 16 v mask)

-- mdio.rs:134
abbrev pub ten : Bool → ℕ → ℕ
ten g10 v = bit v 0x1000 g10

abbrev pub nbased : Option Bool → ℕ → ℕ
nbased None v = v
nbased (Some on) v = bit v (bit_or 0x800 0x400) on

abbrev pub one : Option Bool → Bool → ℕ → ℕ
one nbase g1 v = bit (nbased nbase v) 0x8000 g1

abbrev pub hundred : Bool → ℕ → ℕ
hundred m100 v = bit (without_of 16 v 0x80) 0x100 m100

abbrev pub restart16 : ℕ → ℕ
restart16 v = bit_or v 0x200
