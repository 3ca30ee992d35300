-- Why a table is not taken
use Rattle.std.specs.Prelude.{ℕ, ◌+◌, ◌*◌}
use Rattle.profile_table.specs.declared.fault.Fault.{Fault}
use Rattle.profile_table.specs.declared.fault.Fault.TheVariants.{BadRow, Gap, Overlap}

abbrev pub number : Fault → ℕ
number (BadRow k) = 28
number (Gap device version) = 29
number (Overlap device version) = 30

-- where a version fails, by its device first
abbrev pub place : Fault → ℕ
place (BadRow k) = 0
place (Gap device version) = device * 65536 + version
place (Overlap device version) = device * 65536 + version
