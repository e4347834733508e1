use Rattle.std.proofs.Common.{◌≡◌, ◌+◌, ◌*◌, ◌^◌, ◌≤◌, length, drop}
use Rattle.std.specs.List.{flat_map}
use Rattle.macho_write.specs.SymbolTable.{text_of}
use Rattle.macho_write.proofs.symbols.strings_size.Given as goal

abbrev pub invariant-loop-i : goal.invariant-loop-i
invariant-loop-i l = record {
  summed : l.size + length (flat_map (text_of l.stabs) (drop l.i l.symbols)) ≡ 1 + length (flat_map (text_of l.stabs) l.symbols);
  room : l.size ≤ 1 + l.i * 2 ^ 63;
}
