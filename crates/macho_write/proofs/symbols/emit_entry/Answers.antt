use Rattle.ds_base.proofs.Adding.{adds_more}
use Rattle.macho_write.proofs.symbols.emit_entry.Goals as goal

pub returns : goal.returns
returns c =
    adds_more _ _ _ _ _ _ _ _ c.emit_place-at.ensures
    (adds_more _ _ _ _ _ _ _ _ c.emit_byte-at.ensures (adds_more _ _ _ _ _ _ _ _ c.emit_byte-at-2.ensures (adds_more _ _ _ _ _ _ _ _ c.emit_u16-at.ensures.adds c.emit_u64.ensures.adds)))
