use Rattle.std.proofs.Common.{ap, arith, length, sym}
use Rattle.ds_base.proofs.Adding.{adds_same}
use Rattle.macho_write.proofs.PlacedSymbols.{table_is}
use Rattle.macho_write.proofs.symbols.emit_symbols.Goals as goal

pub emit_entries-requires : goal.emit_entries-requires
emit_entries-requires c = record { fits = omega (arith, ap length (table_is c.args.stabs c.args.symbols.now), c.requires.fits) }

pub returns : goal.returns
returns c = adds_same _ _ _ _ _ _ (sym (table_is c.args.stabs c.args.symbols.now)) c.emit_entries.ensures
