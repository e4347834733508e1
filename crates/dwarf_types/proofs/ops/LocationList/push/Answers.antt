use Rattle.std.proofs.Common.{rules, [], ◌∷◌, ◌++◌, List, ap, ap₂, ◌∙◌}
use Rattle.std.proofs.lemmas.List.{map_push}
use Rattle.std.proofs.lemmas.List.Elements.{All-push}
use Rattle.dwarf_types.specs.declared.expr.Op.{Op}
use Rattle.dwarf_types.specs.declared.lists.Location.{Location}
use Rattle.dwarf_types.specs.declared.sides.ItemRow.{ItemRow}
use Rattle.dwarf_types.specs.Cells.{ItemWithin, item_of}
use Rattle.dwarf_types.proofs.Kept.{items_kept, items_within}
use Rattle.dwarf_types.proofs.ops.LocationList.push.Goals as goal

pub invariant_of-self : goal.invariant_of-self
invariant_of-self c = items_within _ _ c.store_ops.ensures.grows _ c.self.invariant

pub returns-in_err-ops-clause-unchanged : goal.returns-in_err-ops-clause-unchanged
returns-in_err-ops-clause-unchanged c =
    let kept = items_kept _ _ c.store_ops.ensures.grows _ c.self.invariant in
    search rules

pub invariant_of-self-in_err-push : goal.invariant_of-self-in_err-push
invariant_of-self-in_err-push c = rw c.in_err-push.ensures.items (items_within _ _ c.store_ops.ensures.grows _ c.self.invariant)

pub returns-in_err-push-clause-unchanged : goal.returns-in_err-push-clause-unchanged
returns-in_err-push-clause-unchanged c =
    let kept = items_kept _ _ c.store_ops.ensures.grows _ c.self.invariant in
    search rules

pub invariant_of-self-2 : goal.invariant_of-self-2
invariant_of-self-2 c =
    let s = c.store_ops.new.self in
    let row : ItemRow = record { span = c.args.span; ops = c.in_ok-ops.ops } in
    let put = c.in_ok-ops.ensures.rows in
    rw c.in_ok-push.ensures.items (All-push (ItemWithin s) _ row (items_within _ _ c.store_ops.ensures.grows _ c.self.invariant) (put.0, put.2))

pub returns-clause-ok : goal.returns-clause-ok
returns-clause-ok c =
    let s = c.store_ops.new.self in
    let row : ItemRow = record { span = c.args.span; ops = c.in_ok-ops.ops } in
    let put = c.in_ok-ops.ensures.rows in
    let kept = items_kept _ _ c.store_ops.ensures.grows _ c.self.invariant in
    let with_ops : List Op → Location = λ ops. record { span = c.args.span; ops = ops } in
    let behind : List Location → Location → List Location = λ items item. items ++ item ∷ [] in
    rw (c.in_ok-push.ensures.items, ← c.self.view_is) (map_push (item_of s) c.self.inside.rows.items row ∙ ap₂ behind kept (ap with_ops put.1))
