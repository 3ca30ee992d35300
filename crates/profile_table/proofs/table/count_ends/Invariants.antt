use Rattle.std.proofs.Common.{◌≡◌, ◌+◌, count_by}
use Rattle.profile_table.specs.Rows.{covers, rows_of}
use Rattle.profile_table.proofs.table.count_ends.Given as goal

-- what was counted, and what the rows that are left add
abbrev pub invariant-loop-other : goal.invariant-loop-other
invariant-loop-other l = record {
  zero : l.counts.zero + count_by (covers l.row.device 0) (rows_of l.other-iterator.0.now) ≡ count_by (covers l.row.device 0) (rows_of l.fn.words);
  first : l.counts.first + count_by (covers l.row.device l.row.first) (rows_of l.other-iterator.0.now) ≡ count_by (covers l.row.device l.row.first) (rows_of l.fn.words);
  behind : l.counts.behind + count_by (covers l.row.device (l.row.last + 1)) (rows_of l.other-iterator.0.now) ≡ count_by (covers l.row.device (l.row.last + 1)) (rows_of l.fn.words);
}
