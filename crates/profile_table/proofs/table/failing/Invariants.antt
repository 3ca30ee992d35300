use Rattle.std.proofs.Common.{◌≡◌, None, true}
use Rattle.std.specs.List.{list_all}
use Rattle.profile_table.specs.Rows.{is_good, rows_of}
use Rattle.profile_table.specs.Search.{lowest_by}
use Rattle.profile_table.proofs.table.failing.Given as goal

-- the rows that are left are good, and the lowest by them all follows from them
abbrev pub invariant-loop-row : goal.invariant-loop-row
invariant-loop-row l = record {
  good : list_all is_good (rows_of l.row-iterator.0.now) ≡ true;
  found : lowest_by (rows_of l.words) l.found (rows_of l.row-iterator.0.now) ≡ lowest_by (rows_of l.words) None (rows_of l.words);
}
