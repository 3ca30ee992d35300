-- A KR register's address: that of lan 1 is 0x4000 above that of lan 0
use Rattle.std.specs.Prelude.{ℕ, ◌+◌, ◌%◌, ◌^◌, ◌==◌}
use Rattle.hardware.specs.Talk.{pick}

unfoldable pub krm : ℕ → ℕ → ℕ
krm lan port0 = pick (lan == 1) ((port0 + 0x4000) % 2 ^ 32) port0
