-- Why a call is refused
use Rattle.std.specs.Prelude.{ℕ}
use Rattle.settings.specs.declared.fault.Fault.{Fault}
use Rattle.settings.specs.declared.fault.Fault.TheVariants.{Lan, Pause, Damaged, Full}

abbrev pub number : Fault → ℕ
number Lan = 20
number Pause = 32
number Damaged = 36
number Full = 37
