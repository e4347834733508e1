use Rattle.std.proofs.Common.{◌++◌, [], ◌∷◌, List, ap, ◌∙◌}
use Rattle.dwarf_types.specs.declared.expr.Op.{Op}
use Rattle.dwarf_types.specs.declared.lists.Location.{Location}
use Rattle.dwarf_types.specs.declared.sides.ItemRow.{ItemRow}
use Rattle.dwarf_types.proofs.sides.Sides.store_item.Goals as goal

pub returns-clause-row : goal.returns-clause-row
returns-clause-row c =
    let row : ItemRow = record { span = c.args.item.now.span; ops = c.in_ok-ops.ops } in
    let rows = c.in_ok-ops.ensures.rows in
    let with_ops : List Op → Location = λ ops. record { span = c.args.item.now.span; ops = ops } in
    (row, c.in_ok-push.ensures.items ∙ ap (λ (rows : List ItemRow). rows ++ row ∷ []) c.store_ops.ensures.others, ap with_ops rows.1, (rows.0, rows.2))
