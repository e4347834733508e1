use Rattle.std.proofs.Common.{◌≡◌, ◌∙◌, Some, None, ap, sym, slice_get}
use Rattle.std.specs.Ordering.{is_ne}
use Rattle.odr_names.specs.Book.{objects_in}
use Rattle.odr_names.specs.Pieces.{piece_seen}
use Rattle.odr_names.proofs.BookPaths.{parent_lower}
use Rattle.odr_names.proofs.ComparedPaths.{Stand, stand_apart, stand_longer, stand_more, stand_same, stand_shorter}
use Rattle.odr_names.proofs.path_order.rows_cmp.Goals as goal

pub returns-in_default-right : goal.returns-in_default-right
returns-in_default-right c =
    let so_far : Stand (objects_in c.args.objects.now) c.args.rows.now c.args.a c.args.b (Some c.in-Some.x) None = rw (← c.in-Some.is, ← c.in_default-right.is) c.loop-left.invariant in
    stand_longer (objects_in c.args.objects.now) c.args.rows.now c.args.a c.args.b c.in-Some.x c.requires.book.are_rows so_far

pub returns-then-x-y : goal.returns-then-x-y
returns-then-x-y c =
    let so_far : Stand (objects_in c.args.objects.now) c.args.rows.now c.args.a c.args.b (Some c.in-Some.x) (Some c.in-Some-right.y) = rw (← c.in-Some.is, ← c.in-Some-right.is) c.loop-left.invariant in
    stand_same (objects_in c.args.objects.now) c.args.rows.now c.args.a c.args.b c.in-Some.x c.in-Some-right.y c.if-x-y.true so_far

pub returns-then-is_ne : goal.returns-then-is_ne
returns-then-is_ne c =
    let so_far : Stand (objects_in c.args.objects.now) c.args.rows.now c.args.a c.args.b (Some c.in-Some.x) (Some c.in-Some-right.y) = rw (← c.in-Some.is, ← c.in-Some-right.is) c.loop-left.invariant in
    c.piece_cmp-pieces.ensures ∙ stand_apart (objects_in c.args.objects.now) c.args.rows.now c.args.a c.args.b c.in-Some.x c.in-Some-right.y c.row_at-first.result c.row_at-second.result
    (piece_seen c.piece_of.result) (piece_seen c.piece_of-in-Some.result) c.requires.book.are_rows c.row_at-first.ensures c.row_at-second.ensures c.piece_of.ensures c.piece_of-in-Some.ensures
    (ap is_ne (sym c.piece_cmp-pieces.ensures) ∙ sym c.is_ne.ensures ∙ c.if-is_ne.true) so_far

pub row_above-left-requires : goal.row_above-left-requires
row_above-left-requires c = (c.requires.book.are_rows.linked c.in-Some.x c.row_at-first.result c.row_at-first.ensures).before

pub row_above-right-requires : goal.row_above-right-requires
row_above-right-requires c = (c.requires.book.are_rows.linked c.in-Some-right.y c.row_at-second.result c.row_at-second.ensures).before

pub loop-left-smaller : goal.loop-left-smaller
loop-left-smaller c =
    let at_x : slice_get c.args.rows.now c.in-Some.x ≡ Some c.row_at-first.result = c.row_at-first.ensures in
    rw (c.in-Some.is, c.row_above-left.ensures) (parent_lower (objects_in c.args.objects.now) c.args.rows.now c.in-Some.x c.row_at-first.result c.requires.book.are_rows at_x)

pub loop-left-preserved : goal.loop-left-preserved
loop-left-preserved c =
    let so_far : Stand (objects_in c.args.objects.now) c.args.rows.now c.args.a c.args.b (Some c.in-Some.x) (Some c.in-Some-right.y) = rw (← c.in-Some.is, ← c.in-Some-right.is) c.loop-left.invariant in
    rw (c.row_above-left.ensures, c.row_above-right.ensures)
    (stand_more (objects_in c.args.objects.now) c.args.rows.now c.args.a c.args.b c.in-Some.x c.in-Some-right.y c.row_at-first.result c.row_at-second.result
    (piece_seen c.piece_of.result) (piece_seen c.piece_of-in-Some.result) c.requires.book.are_rows c.row_at-first.ensures c.row_at-second.ensures c.piece_of.ensures c.piece_of-in-Some.ensures
    (ap is_ne (sym c.piece_cmp-pieces.ensures) ∙ sym c.is_ne.ensures ∙ c.if-is_ne.false) so_far)

pub returns-then-is_some : goal.returns-then-is_some
returns-then-is_some c =
    let so_far : Stand (objects_in c.args.objects.now) c.args.rows.now c.args.a c.args.b None c.loop-left.right = rw (← c.in_default.is) c.loop-left.invariant in
    stand_shorter (objects_in c.args.objects.now) c.args.rows.now c.args.a c.args.b c.loop-left.right c.requires.book.are_rows (sym c.is_some.ensures ∙ c.if-is_some.true) so_far
