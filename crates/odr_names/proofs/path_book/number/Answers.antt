use Rattle.std.proofs.Common.{◌≡◌, ◌∙◌, Some, List, slice_get, subst, sym}
use Rattle.type_names.specs.Names.{Named}
use Rattle.odr_names.specs.Book.{objects_in}
use Rattle.odr_names.specs.Numbered.{bid_at}
use Rattle.odr_names.proofs.BookPaths.{bid_at_names}
use Rattle.odr_names.proofs.path_book.number.Goals as goal

pub bid_of-requires : goal.bid_of-requires
bid_of-requires c =
    let rows = c.names.inside.rows.items in
    let at : slice_get rows c.args.x ≡ Some c.row_at.result = rw c.deref.ensures.value at c.row_at.ensures in
    let is = c.names.invariant.are_rows.of_entries c.args.x c.row_at.result at in
    (is.counted.1, is.few)

pub returns : goal.returns
returns c =
    let objects = objects_in c.names.inside.objects in
    let rows = c.names.inside.rows.items in
    let at : slice_get rows c.args.x ≡ Some c.row_at.result = rw c.deref.ensures.value at c.row_at.ensures in
    subst (λ (names : List Named). c.bid_of.result ≡ bid_at names c.args.x) c.names.view_is (c.bid_of.ensures ∙ sym (bid_at_names objects rows c.args.x c.row_at.result at))
