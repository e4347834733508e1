use Rattle.std.proofs.Common.{◌∙◌, ap, arith, length}
use Rattle.std.specs.List.{flat_map}
use Rattle.ds_base.proofs.Adding.{adds_same, adds_whole}
use Rattle.layout.specs.declared.table.Content.TheVariants as contents
use Rattle.layout.proofs.SectionLengths.{layout_sizes}
use Rattle.section_write.specs.Copied.{part_in}
use Rattle.section_write.proofs.FromDrafts.{pieces_are}
use Rattle.section_write.proofs.sections.fill_pieces.Goals as goal

pub emit_parts-requires : goal.emit_parts-requires
emit_parts-requires c =
    let m = c.requires.measured in
    let piece = c.args.piece in
    let same = ap length (ap (flat_map (part_in piece)) c.drafts.ensures ∙ pieces_are m.graph c.args.layout.now m.measured piece) in
    record { fits = omega (arith, c.requires.size, layout_sizes m.graph c.args.layout.now m.measured (contents.Pieces piece), same) }

pub returns : goal.returns
returns c = λ graph measured.
    let piece = c.args.piece in
    let same = ap (flat_map (part_in piece)) c.drafts.ensures ∙ pieces_are graph c.args.layout.now measured piece in
    adds_whole _ _ _ _ (c.requires.size ∙ layout_sizes graph c.args.layout.now measured (contents.Pieces piece)) (adds_same _ _ _ _ _ _ same c.emit_parts.ensures)
