use Rattle.std.proofs.Common.{◌≡◌, ◌++◌, ◌∷◌, [], Some, List, slice_get, subst}
use Rattle.std.specs.Option.{ForSome, option_map_or}
use Rattle.type_names.specs.Names.{Named}
use Rattle.type_names.specs.Paths.{Piece}
use Rattle.odr_names.specs.Book.{objects_in, row_above}
use Rattle.odr_names.specs.Numbered.{IsOfParent, path_at}
use Rattle.odr_names.proofs.BookPaths.{above_in_names, above_lower, parent_in_names}
use Rattle.odr_names.proofs.path_book.above.Goals as goal

pub returns-clause-before : goal.returns-clause-before
returns-clause-before c =
    let rows = c.names.inside.rows.items in
    let at : slice_get rows c.args.x ≡ Some c.row_at.result = rw c.deref.ensures.value at c.row_at.ensures in
    rw c.row_above.ensures (above_lower c.args.x c.row_at.result (c.names.invariant.are_rows.linked c.args.x c.row_at.result at).before)

pub returns-clause-parent : goal.returns-clause-parent
returns-clause-parent c =
    let objects = objects_in c.names.inside.objects in
    let rows = c.names.inside.rows.items in
    let at : slice_get rows c.args.x ≡ Some c.row_at.result = rw c.deref.ensures.value at c.row_at.ensures in
    rw c.row_above.ensures (
    subst (λ (names : List Named). ForSome (row_above c.args.x c.row_at.result) (IsOfParent names c.args.x)) c.names.view_is
    (parent_in_names objects rows c.args.x c.row_at.result c.names.invariant.are_rows at))

pub returns-clause-path : goal.returns-clause-path
returns-clause-path c =
    let objects = objects_in c.names.inside.objects in
    let rows = c.names.inside.rows.items in
    let at : slice_get rows c.args.x ≡ Some c.row_at.result = rw c.deref.ensures.value at c.row_at.ensures in
    rw c.row_above.ensures (
    subst (λ (names : List Named). (piece : Piece) × (path_at names c.args.x ≡ option_map_or (path_at names) (row_above c.args.x c.row_at.result) [] ++ piece ∷ [])) c.names.view_is
    (above_in_names objects rows c.args.x c.row_at.result c.names.invariant.are_rows at))

pub row_above-requires : goal.row_above-requires
row_above-requires c =
    let rows = c.names.inside.rows.items in
    let at : slice_get rows c.args.x ≡ Some c.row_at.result = rw c.deref.ensures.value at c.row_at.ensures in
    (c.names.invariant.are_rows.linked c.args.x c.row_at.result at).before
