use Rattle.std.proofs.Common.{◌≡◌, Some, List, slice_get, subst}
use Rattle.type_names.specs.Names.{Named}
use Rattle.type_names.specs.Start.{path_hash}
use Rattle.odr_names.specs.Book.{objects_in}
use Rattle.odr_names.specs.Numbered.{path_at}
use Rattle.odr_names.proofs.BookPaths.{hash_at_names}
use Rattle.odr_names.proofs.path_book.hash_at.Goals as goal

pub returns : goal.returns
returns c =
    let objects = objects_in c.names.inside.objects in
    let rows = c.names.inside.rows.items in
    let at : slice_get rows c.args.x ≡ Some c.row_at.result = rw c.deref.ensures.value at c.row_at.ensures in
    subst (λ (names : List Named). c.row_at.result.hash ≡ path_hash (path_at names c.args.x)) c.names.view_is (hash_at_names objects rows c.args.x c.row_at.result c.names.invariant.are_rows at)
