use Rattle.std.proofs.Common.{◌≡◌, ◌++◌, drop}
use Rattle.std.specs.List.{flat_map}
use Rattle.dwarf_types.specs.LineTable.{file_bytes}
use Rattle.patches.specs.Filling.{Filling, filled}
use Rattle.line_write.proofs.tables.append_files.Given as goal

abbrev pub invariant-loop-i : goal.invariant-loop-i
invariant-loop-i l = (f : Filling) → filled l.out f ++ flat_map file_bytes (drop l.i l.files) ≡ filled l.fn.out f ++ flat_map file_bytes l.files
