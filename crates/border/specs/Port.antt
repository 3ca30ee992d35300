-- A port from plain numbers
use Rattle.std.specs.Prelude.{ℕ, eqb, ltb, Option, Some, None}
use Rattle.hardware.specs.Talk.{pick}
use Rattle.hardware.specs.declared.Family.TheVariants.{X552, X553}
use Rattle.hardware.specs.declared.Port.{Port}

-- 552 or 553, a device id of 16 bits, any lan and pause
unfoldable pub port_of : ℕ → ℕ → ℕ → ℕ → Option Port
port_of family device lan pause =
    pick (ltb 65535 device) None
    (pick (eqb family 552) (Some (record { family = X552; device = device; lan = lan; pause = pause }))
    (pick (eqb family 553) (Some (record { family = X553; device = device; lan = lan; pause = pause }))
    None))
