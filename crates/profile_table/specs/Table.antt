-- The first error of a table, and a look-up. A table without an error is taken; Taken.antt says what that is
use Rattle.std.specs.Prelude.{ℕ, zero, suc, Bool, cond, not, List, eqb, ltb, length, position, count_by, find, Option, Some, None, Result, Ok, Err, option_map, ⊤}
use Rattle.std.specs.List.{list_any}
use Rattle.std.specs.Option.{option_or}
use Rattle.profile_table.specs.Rows.{is_good, covers, rows_of}
use Rattle.profile_table.specs.declared.row.Row.{Row}
use Rattle.profile_table.specs.declared.fault.Fault.{Fault}
use Rattle.profile_table.specs.declared.fault.Fault.TheVariants.{BadRow, Gap, Overlap}

-- row 256 where there is one, before any row is looked at; else the lowest bad row
abbrev pub bad_row : List Row → Option ℕ
bad_row rows = cond (ltb 256 (length rows)) (Some 256) (position (λ r. not (is_good r)) rows)

abbrev pub has_row : List Row → ℕ → Bool
has_row rows device = list_any (λ r. eqb r.device device) rows

-- what is wrong with a version that lies in so many rows of its device
abbrev pub fault_of : ℕ → ℕ → ℕ → Option Fault
fault_of device version zero = Some (Gap device version)
fault_of device version (suc zero) = None
fault_of device version (suc (suc n)) = Some (Overlap device version)

-- a device without rows has no version that fails
unfoldable pub fault_at : List Row → ℕ → ℕ → Option Fault
fault_at rows device version = cond (has_row rows device) (fault_of device version (count_by (covers device version) rows)) None

-- what the lowest number below n gives that gives something
unfoldable pub lowest : {A : Type 0} → (ℕ → Option A) → ℕ → Option A
lowest f zero = None
lowest f (suc n) = option_or (lowest f n) (f n)

-- the lowest device of 16 bits, and of it the lowest version of 16 bits, that fails
unfoldable pub failing : List Row → Option Fault
failing rows = lowest (λ device. lowest (fault_at rows device) 65536) 65536

-- the first error of a table, if there is one
unfoldable pub fault : List Row → Option Fault
fault rows = option_or (option_map BadRow (bad_row rows)) (failing rows)

-- the profile of the first row that a version of a device lies in
abbrev pub profile : List Row → ℕ → ℕ → Option ℕ
profile rows device version = option_map (λ r. r.profile) (find (covers device version) rows)

abbrev pub err_or : {A : Type 0} → Option Fault → A → Result A Fault
err_or (Some f) x = Err f
err_or None x = Ok x

abbrev pub checked : List ℕ → Result ⊤ Fault
checked words = err_or (fault (rows_of words)) tt

-- a look-up: the error of a table that is not taken, else the profile; a device without rows has none
abbrev pub looked_up : List ℕ → ℕ → ℕ → Result (Option ℕ) Fault
looked_up words device version = err_or (fault (rows_of words)) (profile (rows_of words) device version)
