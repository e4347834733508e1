use Rattle.std.proofs.Common.{arith}
use Rattle.ds_base.proofs.Onward.{small_kept}
use Rattle.unit_tree.proofs.Onward.{value_onward}
use Rattle.unit_tree.proofs.attribute.read_attr.Goals as goal

pub overflow_cast-end : goal.overflow_cast-end
overflow_cast-end c =
    let small = small_kept c.args.cursor.now _ (value_onward _ _ _ _ _ c.in_ok-value.ensures.exact) c.requires in
    let before = small.before_end in
    let end = small.small in
    omega (arith, before, end, c.place-end.ensures)
