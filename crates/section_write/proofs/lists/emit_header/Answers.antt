use Rattle.ds_base.proofs.Adding.{adds_more}
use Rattle.section_write.proofs.lists.emit_header.Goals as goal

pub returns : goal.returns
returns c =
    adds_more _ _ _ _ _ _ _ _ c.emit_u32-at.ensures.adds
    (adds_more _ _ _ _ _ _ _ _ c.emit_u16-at.ensures.adds
    (adds_more _ _ _ _ _ _ _ _ c.emit_u8-at.ensures.adds
    (adds_more _ _ _ _ _ _ _ _ c.emit_u8-at-2.ensures.adds c.emit_u32.ensures.adds)))
