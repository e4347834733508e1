use Rattle.std.proofs.Common.{◌≡◌, length, map, ap, arith}
use Rattle.odr_names.specs.Book.{objects_in, row_name}
use Rattle.odr_names.proofs.BookPaths.{length_names}
use Rattle.odr_names.proofs.path_book.names_are_few.Goals as goal

pub returns : goal.returns
returns c =
    let objects = objects_in c.names.inside.objects in
    let rows = c.names.inside.rows.items in
    let view : length (map (row_name objects) rows) ≡ length c.args.names.now = ap length c.names.view_is in
    omega (arith, view, length_names objects rows, c.names.invariant.few)
