use Rattle.std.proofs.Common.{◌≡◌, ◌∙◌, ◌+◌, ◌-◌, Some, None, ap, arith, refl, slice_get}
use Rattle.std.proofs.lemmas.Bool.{both_ways}
use Rattle.odr_names.specs.Book.{Compared, objects_in, path_in}
use Rattle.odr_names.proofs.BookPaths.{compared_differ, compared_end, compared_more, compared_shorter, parent_lower}
use Rattle.odr_names.proofs.path_book.rows_equal.Goals as goal

pub returns-in_default-right : goal.returns-in_default-right
returns-in_default-right c =
    let so_far : Compared (objects_in c.args.objects.now) c.args.rows.now c.args.a c.args.b (Some c.in-Some.x) None = rw (← c.in-Some.is, ← c.in_default-right.is) c.loop-left.invariant in
    ((λ t. absurd (cc)), (λ e. absurd (compared_shorter (objects_in c.args.objects.now) c.args.rows.now _ _ c.in-Some.x c.requires.book.are_rows so_far e)))

pub returns-then-is_known : goal.returns-then-is_known
returns-then-is_known c =
    let so_far : Compared (objects_in c.args.objects.now) c.args.rows.now c.args.a c.args.b (Some c.in-Some.x) (Some c.in-Some-right.y) = rw (← c.in-Some.is, ← c.in-Some-right.is) c.loop-left.invariant in
    let known = c.is_known.ensures c.if-is_known.true in
    let same = c.requires.known (c.in-Some-right.y - c.args.first) c.in-Some.x known.1 in
    let at : c.args.first + (c.in-Some-right.y - c.args.first) ≡ c.in-Some-right.y = omega (arith, known.0) in
    ((λ t. so_far.same.1 (same ∙ ap (path_in (objects_in c.args.objects.now) c.args.rows.now) at)), (λ e. refl))

pub returns-then-not-may_be_equal : goal.returns-then-not-may_be_equal
returns-then-not-may_be_equal c =
    let rows = c.args.rows.now in
    let so_far : Compared (objects_in c.args.objects.now) rows c.args.a c.args.b (Some c.in-Some.x) (Some c.in-Some-right.y) = rw (← c.in-Some.is, ← c.in-Some-right.is) c.loop-left.invariant in
    let at_x : slice_get rows c.in-Some.x ≡ Some c.row_at-here.result = c.row_at-here.ensures in
    let at_y : slice_get rows c.in-Some-right.y ≡ Some c.row_at-there.result = c.row_at-there.ensures in
    ((λ t. absurd (cc)), (λ e. absurd (compared_differ (objects_in c.args.objects.now) rows _ _ _ _ _ _ c.requires.book.are_rows at_x at_y (λ same. both_ways _ c.if-not-may_be_equal.true (c.may_be_equal.ensures.1 same)) so_far e)))

pub row_above-left-requires : goal.row_above-left-requires
row_above-left-requires c = (c.requires.book.are_rows.linked c.in-Some.x c.row_at-here.result c.row_at-here.ensures).before

pub row_above-right-requires : goal.row_above-right-requires
row_above-right-requires c = (c.requires.book.are_rows.linked c.in-Some-right.y c.row_at-there.result c.row_at-there.ensures).before

pub loop-left-smaller : goal.loop-left-smaller
loop-left-smaller c =
    let rows = c.args.rows.now in
    let so_far : Compared (objects_in c.args.objects.now) rows c.args.a c.args.b (Some c.in-Some.x) (Some c.in-Some-right.y) = rw (← c.in-Some.is, ← c.in-Some-right.is) c.loop-left.invariant in
    let at_x : slice_get rows c.in-Some.x ≡ Some c.row_at-here.result = c.row_at-here.ensures in
    rw (c.in-Some.is, c.row_above-left.ensures) (parent_lower (objects_in c.args.objects.now) rows c.in-Some.x c.row_at-here.result c.requires.book.are_rows at_x)

pub loop-left-preserved : goal.loop-left-preserved
loop-left-preserved c =
    let rows = c.args.rows.now in
    let so_far : Compared (objects_in c.args.objects.now) rows c.args.a c.args.b (Some c.in-Some.x) (Some c.in-Some-right.y) = rw (← c.in-Some.is, ← c.in-Some-right.is) c.loop-left.invariant in
    let at_x : slice_get rows c.in-Some.x ≡ Some c.row_at-here.result = c.row_at-here.ensures in
    let at_y : slice_get rows c.in-Some-right.y ≡ Some c.row_at-there.result = c.row_at-there.ensures in
    rw (c.row_above-left.ensures, c.row_above-right.ensures)
    (compared_more (objects_in c.args.objects.now) rows _ _ _ _ _ _ c.requires.book.are_rows at_x at_y (c.may_be_equal.ensures.0 c.if-not-may_be_equal.false) so_far)

pub returns : goal.returns
returns c =
    let so_far : Compared (objects_in c.args.objects.now) c.args.rows.now c.args.a c.args.b None c.loop-left.right = rw (← c.in_default.is) c.loop-left.invariant in
    compared_end (objects_in c.args.objects.now) c.args.rows.now _ _ _ _ c.requires.book.are_rows c.is_none.ensures so_far
