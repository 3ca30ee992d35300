-- A change of a KR register, by the bits to clear and those to set
use Rattle.std.specs.Prelude.{ℕ}
use Rattle.hardware.specs.Bits.{inverse}
use Rattle.arguments.specs.declared.Change.{Change}

abbrev pub change : ℕ → ℕ → ℕ → Change
change port0 clear set = record { port0 = port0; keep = inverse 32 clear; set = set }
