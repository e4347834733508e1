-- What the rows of symbols stand for.
use Rattle.std.specs.Prelude.{ℕ, ◌+◌, ◌≤◌, List, length, take, drop}
use Rattle.macho_read.specs.declared.image.Symbol.{Symbol}
use Rattle.macho_read.specs.declared.symbol_list.Row.{Row}

-- the symbol of a row, whose name stands in some bytes
abbrev pub symbol_of_row : List ℕ → Row → Symbol
symbol_of_row bytes r = record { name = take r.len (drop r.place bytes); kind = r.kind; sect = r.sect; desc = r.desc; value = r.value }

-- its name stands there
abbrev pub IsWithin : List ℕ → Row → Type 0
IsWithin bytes r = r.place + r.len ≤ length bytes
