use Rattle.std.proofs.Common.{arith, ap, length}
use Rattle.ds_base.proofs.Adding.{item_fits}
use Rattle.macho_read.specs.Seen.{symbol_seen}
use Rattle.macho_write.specs.SymbolTable.{text_of}
use Rattle.macho_write.proofs.symbols.emit_texts.Goals as goal

pub emit_text-at-requires : goal.emit_text-at-requires
emit_text-at-requires c =
    record {
      fits = omega (
        arith,
        item_fits (text_of c.args.stabs) c.args.symbols.now c.loop-i.i (symbol_seen c.symbol-symbol.result) (omega (arith, c.loop-i-test.true, c.len-i-end.ensures)),
        ap (λ s. length (text_of c.args.stabs s)) c.symbol-symbol.ensures.item,
        c.loop-i.invariant.size,
        c.loop-i.invariant.behind,
        c.requires.fits,
      );
    }
