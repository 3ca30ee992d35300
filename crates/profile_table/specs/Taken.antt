-- What it is for a table to be taken, and for an error to be the first: what the theorems about the calls say
use Rattle.std.specs.Prelude.{ℕ, ◌≡◌, ◌≤◌, ◌<◌, true, false, List, length, slice_get, count_by, Some}
use Rattle.profile_table.specs.Rows.{is_good, covers}
use Rattle.profile_table.specs.Table.{has_row}
use Rattle.profile_table.specs.declared.row.Row.{Row}
use Rattle.profile_table.specs.declared.fault.Fault.{Fault}
use Rattle.profile_table.specs.declared.fault.Fault.TheVariants.{BadRow, Gap, Overlap}

-- in how many rows a device's version lies
abbrev pub rows_at : List Row → ℕ → ℕ → ℕ
rows_at rows device version = count_by (covers device version) rows

-- the device has no row, or its version lies in just one
abbrev pub InJustOne : List Row → ℕ → ℕ → Type 0
InJustOne rows device version = has_row rows device ≡ true → rows_at rows device version ≡ 1

-- at most 256 rows, all good; for each device that has a row, every version from 0 to 65535 lies in just one of its rows
pub record IsTaken (rows : List Row) : Type 0 where
  pub few : length rows ≤ 256
  pub good : (k : ℕ) (r : Row) → slice_get rows k ≡ Some r → is_good r ≡ true
  pub one : (device version : ℕ) → version ≤ 65535 → InJustOne rows device version

-- the one row that a device's version lies in
pub record TheRow (rows : List Row) (device version : ℕ) : Type 0 where
  pub place : ℕ
  pub row : Row
  pub there : slice_get rows place ≡ Some row
  pub inside : covers device version row ≡ true
  pub only : (k : ℕ) (other : Row) → slice_get rows k ≡ Some other → covers device version other ≡ true → k ≡ place

-- row 256 of a table that has more; else the lowest bad row
pub record IsFirstBad (rows : List Row) (k : ℕ) : Type 0 where
  pub many : 256 < length rows → k ≡ 256
  pub bad : length rows ≤ 256 → (r : Row) × (slice_get rows k ≡ Some r) × (is_good r ≡ false)
  pub lower : length rows ≤ 256 → (j : ℕ) (r : Row) → j < k → slice_get rows j ≡ Some r → is_good r ≡ true

-- a device that has a row, and a version of it; no lower version of it fails, and no version of a lower device
pub record IsFirstPlace (rows : List Row) (device version : ℕ) : Type 0 where
  pub few : length rows ≤ 256
  pub good : (k : ℕ) (r : Row) → slice_get rows k ≡ Some r → is_good r ≡ true
  pub row : has_row rows device ≡ true
  pub small_device : device ≤ 65535
  pub small_version : version ≤ 65535
  pub lower_version : (w : ℕ) → w < version → InJustOne rows device w
  pub lower_device : (e w : ℕ) → e < device → w ≤ 65535 → InJustOne rows e w

-- what an error names is at fault, and nothing lower is
abbrev pub IsFirstFault : List Row → Fault → Type 0
IsFirstFault rows (BadRow k) = IsFirstBad rows k
IsFirstFault rows (Gap device version) = IsFirstPlace rows device version × (rows_at rows device version ≡ 0)
IsFirstFault rows (Overlap device version) = IsFirstPlace rows device version × (1 < rows_at rows device version)
