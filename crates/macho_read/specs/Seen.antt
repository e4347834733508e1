-- A symbol where it stands, as the symbol of which contracts speak.
use Rattle.macho_read.specs.declared.image.Symbol.{Symbol}
use Rattle.macho_read.specs.declared.symbol_list.SymbolRef.{SymbolRef}

abbrev pub symbol_seen : SymbolRef → Symbol
symbol_seen s = record { name = s.name.now; kind = s.kind; sect = s.sect; desc = s.desc; value = s.value }
