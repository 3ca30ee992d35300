-- The PHY identifier (Clause 45 registers 2 and 3)
use Rattle.std.specs.Prelude.{ℕ, ◌+◌, ◌*◌, ◌/◌, ◌%◌, ◌^◌, ◌||◌, ◌==◌, Option, None, Some}
use Rattle.hardware.specs.Talk.{pick}

-- register 2 is the high half; register 3 the low half, its four revision bits cleared; what is too wide is cut
unfoldable pub identifier : ℕ → ℕ → ℕ
identifier high low = high % 2 ^ 16 * 2 ^ 16 + low % 2 ^ 16 / 16 * 16

-- a high half of 0 or 0xffff means no PHY
unfoldable pub phy_id : ℕ → ℕ → Option ℕ
phy_id high low = pick (high == 0 || high == 0xffff) None (Some (identifier high low))
