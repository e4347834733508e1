use Rattle.std.proofs.Common.{◌≡◌, ◌++◌, drop}
use Rattle.std.specs.List.{filter_map}
use Rattle.moved_parts.specs.Lines.{row_by}
use Rattle.moved_parts.proofs.lines.put_rows.Given as goal

-- the rows so far and those of the others are the rows of all
abbrev pub invariant-loop-row : goal.invariant-loop-row
invariant-loop-row l =
    record {
      ended : l.builder.ended ≡ l.fn.builder.ended;
      rows : l.builder.rows ++ filter_map (row_by l.range) (drop l.row-index l.rows) ≡ l.fn.builder.rows ++ filter_map (row_by l.range) l.rows;
    }
