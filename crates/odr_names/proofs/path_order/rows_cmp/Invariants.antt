use Rattle.std.proofs.Common.{◌+◌}
use Rattle.std.specs.Option.{option_map_or}
use Rattle.odr_names.specs.Book.{objects_in}
use Rattle.odr_names.proofs.ComparedPaths.{Stand}
use Rattle.odr_names.proofs.path_order.rows_cmp.Given as goal

abbrev pub invariant-loop-left : goal.invariant-loop-left
invariant-loop-left l = Stand (objects_in l.objects) l.rows l.fn.a l.fn.b l.left l.right

-- each row's parent stands before it
abbrev pub decreases-loop-left : goal.decreases-loop-left
decreases-loop-left l = option_map_or (λ x. x + 1) l.left 0
