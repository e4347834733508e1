use Rattle.std.proofs.Common.{◌+◌, ◌*◌, ◌^◌, ◌≤◌, drop}
use Rattle.macho_write.specs.SymbolTable.{entries_from}
use Rattle.macho_write.proofs.Left.{Left}
use Rattle.macho_write.proofs.symbols.emit_entries.Given as goal

abbrev pub invariant-loop-i : goal.invariant-loop-i
invariant-loop-i l = record {
  left : Left l.fn.room l.start (entries_from l.stabs 1 l.symbols) l.room l.at (entries_from l.stabs l.place (drop l.i l.symbols));
  room : l.place ≤ 1 + l.i * 2 ^ 63;
}
