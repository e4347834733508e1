use Rattle.std.proofs.Common.{◌≡◌, ◌<◌, length, map, ap, arith, subst, sym}
use Rattle.odr_names.specs.Book.{IsBook, objects_in, row_name}
use Rattle.odr_names.proofs.BookPaths.{length_names}
use Rattle.odr_names.proofs.path_book.rank_hash_at.Goals as goal

pub innermost_of-own-requires-clause-book : goal.innermost_of-own-requires-clause-book
innermost_of-own-requires-clause-book c = subst (IsBook c.names.inside.objects) (sym c.deref.ensures.value) c.names.invariant

pub innermost_of-own-requires-clause-inside : goal.innermost_of-own-requires-clause-inside
innermost_of-own-requires-clause-inside c =
    let objects = objects_in c.names.inside.objects in
    let rows = c.names.inside.rows.items in
    let view : length (map (row_name objects) rows) ≡ length c.args.names.now = ap length c.names.view_is in
    rw c.deref.ensures.value (let e : c.args.x < length rows = omega (arith, c.requires, view, length_names objects rows) in e)
