use Rattle.std.proofs.Common.{◌≡◌, ◌∙◌, ◌+◌, ◌<◌, ◌↔◌, List, length, map, subst, sym, ap, arith}
use Rattle.std.specs.Bool.{IsTrue}
use Rattle.type_names.specs.Names.{Named}
use Rattle.odr_names.specs.Book.{IsBook, objects_in, path_in, row_name}
use Rattle.odr_names.specs.Numbered.{SamePath, path_at}
use Rattle.odr_names.specs.declared.path_book.Row.{Row}
use Rattle.odr_names.proofs.BookPaths.{length_names, path_at_all, path_at_names}
use Rattle.odr_names.proofs.path_book.known_equal.Goals as goal

pub rows_equal-requires-clause-book : goal.rows_equal-requires-clause-book
rows_equal-requires-clause-book c = subst (IsBook c.names.inside.objects) (sym c.deref.ensures.value) c.names.invariant

pub rows_equal-requires-clause-inside : goal.rows_equal-requires-clause-inside
rows_equal-requires-clause-inside c =
    let objects = objects_in c.names.inside.objects in
    let rows = c.names.inside.rows.items in
    let view : length (map (row_name objects) rows) ≡ length c.args.names.now = ap length c.names.view_is in
    rw c.deref.ensures.value (omega (arith, c.requires.names.0, view, length_names objects rows), omega (arith, c.requires.names.1, view, length_names objects rows))

pub rows_equal-requires-clause-known : goal.rows_equal-requires-clause-known
rows_equal-requires-clause-known c = λ i x at.
    let objects = objects_in c.names.inside.objects in
    let rows = c.names.inside.rows.items in
    let same : path_at (map (row_name objects) rows) x ≡ path_at (map (row_name objects) rows) (c.args.first + i) = subst (λ (names : List Named). SamePath names x (c.args.first + i)) (sym c.names.view_is) (c.requires.known i x at) in
    subst (λ (rows : List Row). path_in objects rows x ≡ path_in objects rows (c.args.first + i)) (sym c.deref.ensures.value) (sym (path_at_all objects rows x) ∙ same ∙ path_at_all objects rows (c.args.first + i))

pub returns : goal.returns
returns c =
    let objects = objects_in c.names.inside.objects in
    let rows = c.names.inside.rows.items in
    let view : length (map (row_name objects) rows) ≡ length c.args.names.now = ap length c.names.view_is in
    let a_in : c.args.a < length rows = omega (arith, c.requires.names.0, view, length_names objects rows) in
    let b_in : c.args.b < length rows = omega (arith, c.requires.names.1, view, length_names objects rows) in
    subst (λ (names : List Named). IsTrue c.rows_equal.result ↔ SamePath names c.args.a c.args.b) c.names.view_is
    (rw (path_at_names objects rows c.args.a a_in, path_at_names objects rows c.args.b b_in) (rw c.deref.ensures.value at c.rows_equal.ensures))
