use Rattle.std.proofs.Common.{◌≡◌, map, take}
use Rattle.dwarf_types.specs.FrameColumns.{out_row_moved}
use Rattle.dwarf_types.proofs.frames.moved_rows.Given as goal

abbrev pub invariant-loop-row : goal.invariant-loop-row
invariant-loop-row l = l.moved.items ≡ map (out_row_moved l.before) (take l.row-index l.rows)
