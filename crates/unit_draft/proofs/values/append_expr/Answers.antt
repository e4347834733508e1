use Rattle.std.proofs.Common.{◌++◌}
use Rattle.ds_base.specs.Leb.{uleb}
use Rattle.dwarf_types.specs.Expressions.{expression_bytes, expression_len}
use Rattle.dwarf_types.specs.Places.{own_node}
use Rattle.unit_draft.proofs.Appending.{only_info}
use Rattle.unit_draft.proofs.Exprs.{expr_bytes}
use Rattle.unit_draft.proofs.values.append_expr.Goals as goal

pub returns : goal.returns
returns c =
    let parts = c.args.parts.now in
    only_info c.args.number c.args.version c.args.drafting.now c.append_prefixed.new.self c.write_expression.new.scratch (λ w. uleb (expression_len parts) ++ expression_bytes (own_node w.places) parts)
    (λ w fits.
    let f = w.filling in
    let place = own_node w.places in
    expr_bytes place parts _ _ _ (c.in_ok-write_expression.ensures f place fits.base) (c.in_ok-append_prefixed.ensures.ok f))
