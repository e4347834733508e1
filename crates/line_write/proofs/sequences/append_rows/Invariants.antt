use Rattle.std.proofs.Common.{◌≡◌, ◌++◌, drop}
use Rattle.dwarf_types.specs.LineProgram.{registers_at, rows_bytes}
use Rattle.dwarf_types.specs.SeenLines.{rows_seen}
use Rattle.line_write.proofs.sequences.append_rows.Given as goal

abbrev pub invariant-loop-i : goal.invariant-loop-i
invariant-loop-i l = l.out ++ rows_bytes l.before (drop l.i (rows_seen l.rows)) l.end ≡ l.fn.out ++ rows_bytes (registers_at l.first) (rows_seen l.rows) l.end
