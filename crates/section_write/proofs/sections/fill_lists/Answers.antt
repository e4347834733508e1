use Rattle.std.proofs.Common.{◌^◌, ◌<◌, ◌∙◌, ap, arith, length, sym}
use Rattle.std.specs.List.{flat_map}
use Rattle.ds_base.proofs.Adding.{adds_same, adds_whole}
use Rattle.dwarf_types.specs.Lists.{behind_header}
use Rattle.layout.specs.declared.table.Content.TheVariants as contents
use Rattle.layout.specs.Lengths.{lists_size, piece_in, start_in}
use Rattle.layout.proofs.SectionLengths.{layout_sizes}
use Rattle.section_write.specs.Copied.{part_in}
use Rattle.section_write.proofs.FromDrafts.{lists_small, pieces_are}
use Rattle.section_write.proofs.sections.fill_lists.Goals as goal

pub emit_lists-requires-clause-size : goal.emit_lists-requires-clause-size
emit_lists-requires-clause-size c =
    let m = c.requires.measured in
    let piece = piece_in c.args.lists in
    let same = ap (λ p. length (behind_header (flat_map (part_in p) c.drafts.result.now))) c.piece_of.ensures ∙ ap (λ ds. length (behind_header (flat_map (part_in piece) ds))) c.drafts.ensures ∙ ap (λ bytes. length (behind_header bytes)) (pieces_are m.graph c.args.layout.now m.measured piece) in
    c.section_size-size.ensures ∙ layout_sizes m.graph c.args.layout.now m.measured (contents.Lists c.args.lists) ∙ sym same

pub emit_lists-requires-clause-small : goal.emit_lists-requires-clause-small
emit_lists-requires-clause-small c =
    let m = c.requires.measured in
    let small : lists_size (start_in c.args.layout.now.ends (piece_in c.args.lists)) < 2 ^ 32 = lists_small m.graph c.args.layout.now m.measured c.args.lists in
    omega (arith, c.section_size-size.ensures, small)

pub emit_lists-requires-clause-fits : goal.emit_lists-requires-clause-fits
emit_lists-requires-clause-fits c =
    let m = c.requires.measured in
    let piece = piece_in c.args.lists in
    let same = ap (λ p. length (behind_header (flat_map (part_in p) c.drafts.result.now))) c.piece_of.ensures ∙ ap (λ ds. length (behind_header (flat_map (part_in piece) ds))) c.drafts.ensures ∙ ap (λ bytes. length (behind_header bytes)) (pieces_are m.graph c.args.layout.now m.measured piece) in
    omega (arith, c.requires.size, layout_sizes m.graph c.args.layout.now m.measured (contents.Lists c.args.lists), same)

pub returns : goal.returns
returns c = λ graph measured.
    let piece = piece_in c.args.lists in
    let same = ap (λ p. behind_header (flat_map (part_in p) c.drafts.result.now)) c.piece_of.ensures ∙ ap (λ ds. behind_header (flat_map (part_in piece) ds)) c.drafts.ensures ∙ ap behind_header (pieces_are graph c.args.layout.now measured piece) in
    adds_whole _ _ _ _ (c.requires.size ∙ layout_sizes graph c.args.layout.now measured (contents.Lists c.args.lists)) (adds_same _ _ _ _ _ _ same c.emit_lists.ensures)
