use Rattle.std.proofs.Common.{◌++◌, List, ℕ, ap, sym, ◌∙◌}
use Rattle.byteorder.specs.Endian.{little_bytes}
use Rattle.ds_base.specs.DwarfNumbers.{DW_LLE_start_end}
use Rattle.dwarf_types.specs.declared.parts.ExprPart.{ExprPart}
use Rattle.dwarf_types.specs.Expressions.{expression_bytes}
use Rattle.dwarf_types.specs.Lists.{kind_bytes, size_bytes}
use Rattle.patches.specs.Filling.{filled}
use Rattle.unit_draft.proofs.Exprs.{location_is}
use Rattle.unit_draft.proofs.lists.append_location.Goals as goal

pub returns : goal.returns
returns c = λ f place tells.
    let item = c.args.item.now in
    let version = c.args.version in
    let expr = c.in_ok-write_expression.ensures f place tells
    ∙ ap (λ (ps : List ExprPart). expression_bytes place ps) c.as_slice.ensures in
    location_is version place item.parts (kind_bytes version DW_LLE_start_end) (little_bytes 8 item.span.low) (little_bytes 8 item.span.high) _ _ _ _ _ _ _ expr
    (c.in_ok-append_location_kind.ensures f) (c.in_ok-extend_lowest.ensures.ok f) (c.in_ok-extend_lowest-2.ensures.ok f)
    (c.in_ok-append_size.ensures f ∙ ap (λ (n : ℕ). filled c.extend_lowest-2.new.self f ++ size_bytes version n) (sym (c.len.ensures f))) (c.in_ok-append.ensures.ok f)
