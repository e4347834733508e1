use Rattle.std.proofs.Common.{◌∙◌, ap, length, arith}
use Rattle.ds_base.proofs.Adding.{item_fits}
use Rattle.section_write.specs.Copied.{part_in}
use Rattle.section_write.proofs.parts.emit_parts.Goals as goal

pub emit_bytes-at-requires : goal.emit_bytes-at-requires
emit_bytes-at-requires c =
    let draft = c.draft-item.result in
    let len = ap length (c.part_of.ensures ∙ ap (part_in c.args.part) c.draft-item.is) in
    record {
      fits = omega (
        arith,
        len,
        item_fits (part_in c.args.part) c.args.drafts.now c.loop-draft.draft-index draft c.loop-draft-test.true,
        c.loop-draft.invariant.size,
        c.loop-draft.invariant.behind,
        c.requires.fits,
      );
    }
