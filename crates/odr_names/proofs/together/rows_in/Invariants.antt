use Rattle.std.proofs.Common.{◌≡◌, ◌≤◌, ◌*◌, ◌^◌, take}
use Rattle.std.specs.List.{sum_by}
use Rattle.odr_names.proofs.JoinedRows.{row_count}
use Rattle.odr_names.proofs.together.rows_in.Given as goal

abbrev pub invariant-loop-i : goal.invariant-loop-i
invariant-loop-i l = (l.total ≡ sum_by row_count (take l.i l.own)) × (l.total ≤ l.i * 2 ^ 25)
