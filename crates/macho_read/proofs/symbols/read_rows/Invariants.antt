use Rattle.std.proofs.Common.{◌≡◌, ◌*◌, ◌-◌, All, drop, map}
use Rattle.macho_read.specs.Rows.{IsWithin, symbol_of_row}
use Rattle.macho_read.specs.Symbols.{each, symbol_of}
use Rattle.macho_read.proofs.Gathering.{behind}
use Rattle.macho_read.proofs.symbols.read_rows.Given as goal

-- what is read from here on, behind what was read, is what is read in all; and the names stand in the strings
abbrev pub invariant-loop-i : goal.invariant-loop-i
invariant-loop-i l =
    (behind (map (symbol_of_row l.strings) l.rows.items) (each (λ i. symbol_of l.strings i (drop (16 * i) l.table)) (l.count - l.i) l.i) ≡ each (λ i. symbol_of l.strings i (drop (16 * i) l.table)) l.count 0) × All (IsWithin l.strings) l.rows.items
