use Rattle.std.proofs.Common.{◌≡◌, ◌++◌, drop}
use Rattle.std.specs.List.{flat_map}
use Rattle.dwarf_types.specs.LineProgram.{sequence_bytes}
use Rattle.line_write.proofs.sequences.append_sequences.Given as goal

abbrev pub invariant-loop-i : goal.invariant-loop-i
invariant-loop-i l = l.out ++ flat_map sequence_bytes (drop l.i l.sequences) ≡ l.fn.out ++ flat_map sequence_bytes l.sequences
