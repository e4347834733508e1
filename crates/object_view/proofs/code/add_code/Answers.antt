use Rattle.std.proofs.Common.{List, ◌++◌, map, append_assoc, sym, ap, ◌∙◌}
use Rattle.std.proofs.lemmas.Bool.{eq-eqb}
use Rattle.std.proofs.lemmas.List.{map-append}
use Rattle.dwarf_types.specs.declared.address.Span.{Span}
use Rattle.dwarf_types.specs.declared.analysis.CodeRange.{CodeRange}
use Rattle.object_view.specs.Code.{ranges_pieces, low_high_pieces}
use Rattle.object_view.proofs.code.add_code.Goals as goal

pub returns : goal.returns
returns c =
    let tag = eq-eqb _ _ c.if-tag-ne-DW_TAG_subprogram.false in
    let as_code : Span → CodeRange = λ span. record { entry = c.args.number; span = span } in
    let both = map-append as_code (ranges_pieces c.args.entry.now) (low_high_pieces c.args.map.now c.args.entry.now) in
    rw (c.in_ok-add_spans-2.ensures, c.in_ok-add_spans.ensures, c.as_slice.ensures, c.in_ok-pieces.ensures, c.ranges_pieces.ensures, ← c.tag.ensures, tag)
    (append_assoc c.args.code.now (map as_code (ranges_pieces c.args.entry.now)) (map as_code (low_high_pieces c.args.map.now c.args.entry.now))
    ∙ ap (λ (xs : List CodeRange). c.args.code.now ++ xs) (sym both))
