-- What the search by row ends computes: the contracts of private functions speak of it, and no public one
use Rattle.std.specs.Prelude.{ℕ, ◌+◌, cond, List, [], ◌∷◌, count_by, ltb, Option, Some, None}
use Rattle.std.specs.Option.{option_or}
use Rattle.profile_table.specs.Rows.{covers}
use Rattle.profile_table.specs.Fault.{place}
use Rattle.profile_table.specs.Table.{fault_of}
use Rattle.profile_table.specs.declared.row.Row.{Row}
use Rattle.profile_table.specs.declared.fault.Fault.{Fault}

-- what is wrong behind a row's last version, which lies in so many rows
abbrev pub fault_behind : Row → ℕ → Option Fault
fault_behind r n = cond (ltb r.last 65535) (fault_of r.device (r.last + 1) n) None

-- the lowest of what is wrong with 0, a row's first version and the one behind its last
unfoldable pub fault_by : List Row → Row → Option Fault
fault_by rows r =
    option_or (option_or (fault_of r.device 0 (count_by (covers r.device 0) rows)) (fault_of r.device r.first (count_by (covers r.device r.first) rows)))
    (fault_behind r (count_by (covers r.device (r.last + 1)) rows))

-- the one whose place is lower, the first where neither is
abbrev pub lower : Option Fault → Option Fault → Option Fault
lower None b = b
lower (Some x) None = Some x
lower (Some x) (Some y) = cond (ltb (place y) (place x)) (Some y) (Some x)

-- the lowest of one that was found and those by some rows
abbrev pub lowest_by : List Row → Option Fault → List Row → Option Fault
lowest_by rows found [] = found
lowest_by rows found (r ∷ rs) = lowest_by rows (lower found (fault_by rows r)) rs
