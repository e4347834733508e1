use Rattle.std.proofs.Common.{◌≡◌, ◌<◌, ◌↔◌, List, length, map, subst, sym, ap, arith}
use Rattle.std.specs.Bool.{IsTrue}
use Rattle.type_names.specs.Names.{Named}
use Rattle.odr_names.specs.Book.{IsBook, objects_in, row_name}
use Rattle.odr_names.specs.Numbered.{SamePath}
use Rattle.odr_names.proofs.BookPaths.{length_names, path_at_names}
use Rattle.odr_names.proofs.path_book.path_equal.Goals as goal

pub rows_equal-requires-clause-book : goal.rows_equal-requires-clause-book
rows_equal-requires-clause-book c = subst (IsBook c.names.inside.objects) (sym c.deref.ensures.value) c.names.invariant

pub rows_equal-requires-clause-inside : goal.rows_equal-requires-clause-inside
rows_equal-requires-clause-inside c =
    let objects = objects_in c.names.inside.objects in
    let rows = c.names.inside.rows.items in
    let view : length (map (row_name objects) rows) ≡ length c.args.names.now = ap length c.names.view_is in
    rw c.deref.ensures.value (omega (arith, c.requires.0, view, length_names objects rows), omega (arith, c.requires.1, view, length_names objects rows))

pub returns : goal.returns
returns c =
    let objects = objects_in c.names.inside.objects in
    let rows = c.names.inside.rows.items in
    let view : length (map (row_name objects) rows) ≡ length c.args.names.now = ap length c.names.view_is in
    let a_in : c.args.a < length rows = omega (arith, c.requires.0, view, length_names objects rows) in
    let b_in : c.args.b < length rows = omega (arith, c.requires.1, view, length_names objects rows) in
    subst (λ (names : List Named). IsTrue c.rows_equal.result ↔ SamePath names c.args.a c.args.b) c.names.view_is
    (rw (path_at_names objects rows c.args.a a_in, path_at_names objects rows c.args.b b_in) (rw c.deref.ensures.value at c.rows_equal.ensures))
