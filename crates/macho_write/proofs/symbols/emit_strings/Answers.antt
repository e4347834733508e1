use Rattle.std.proofs.Common.{ap, arith, length, sym}
use Rattle.ds_base.proofs.Adding.{adds_more, adds_same}
use Rattle.macho_write.proofs.PlacedSymbols.{strings_are}
use Rattle.macho_write.proofs.symbols.emit_strings.Goals as goal

pub emit_texts-requires : goal.emit_texts-requires
emit_texts-requires c =
    record { fits = omega (arith, ap length (strings_are c.args.stabs c.args.symbols.now), c.requires.fits, c.emit_u8-at.ensures.adds.size, c.emit_u8-at.ensures.adds.behind) }

pub returns : goal.returns
returns c = adds_same _ _ _ _ _ _ (sym (strings_are c.args.stabs c.args.symbols.now)) (adds_more _ _ _ _ _ _ _ _ c.emit_u8-at.ensures.adds c.emit_texts.ensures)
