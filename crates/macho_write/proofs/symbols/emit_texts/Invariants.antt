use Rattle.std.proofs.Common.{take}
use Rattle.std.specs.List.{flat_map}
use Rattle.ds_base.specs.Room.{Adds}
use Rattle.macho_write.specs.SymbolTable.{text_of}
use Rattle.macho_write.proofs.symbols.emit_texts.Given as goal

abbrev pub invariant-loop-i : goal.invariant-loop-i
invariant-loop-i l = Adds l.fn.room l.start (flat_map (text_of l.stabs) (take l.i l.symbols)) l.room l.at
