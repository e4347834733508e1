use Rattle.std.proofs.Common.{◌≡◌, ◌∙◌, ℕ, Option, sym, subst}
use Rattle.odr_names.specs.Book.{objects_in, path_above, path_in, row_above}
use Rattle.odr_names.specs.Innermost.{innermost}
use Rattle.odr_names.specs.Pieces.{piece_seen}
use Rattle.odr_names.proofs.BookPaths.{above_in, innermost_is, parent_lower, private_is}
use Rattle.odr_names.proofs.Innermost.{none_told, own_first, own_none}
use Rattle.odr_names.proofs.path_book.innermost_of.Goals as goal

pub returns-then-not-row : goal.returns-then-not-row
returns-then-not-row c =
    let objects = objects_in c.args.objects.now in
    let rows = c.args.rows.now in
    let so_far : innermost (path_in objects rows c.args.x) ≡ innermost (path_in objects rows c.in-Some.y) = subst (λ (next : Option ℕ). innermost (path_in objects rows c.args.x) ≡ innermost (path_above objects rows next)) c.in-Some.is c.loop-next.invariant.1 in
    none_told c.row_at-row.result.private (innermost (path_in objects rows c.in-Some.y)) (private_is objects rows c.in-Some.y c.row_at-row.result c.requires.book.are_rows c.row_at-row.ensures) c.if-not-row.true ∙ sym so_far

pub returns-then-is_some : goal.returns-then-is_some
returns-then-is_some c =
    let objects = objects_in c.args.objects.now in
    let rows = c.args.rows.now in
    let so_far : innermost (path_in objects rows c.args.x) ≡ innermost (path_in objects rows c.in-Some.y) = subst (λ (next : Option ℕ). innermost (path_in objects rows c.args.x) ≡ innermost (path_above objects rows next)) c.in-Some.is c.loop-next.invariant.1 in
    own_first c.piece_of.result.parts.private (innermost (path_above objects rows (row_above c.in-Some.y c.row_at-row.result))) (sym c.is_some.ensures ∙ c.if-is_some.true)
    ∙ sym (innermost_is objects rows c.in-Some.y c.row_at-row.result (piece_seen c.piece_of.result) c.requires.book.are_rows c.row_at-row.ensures c.piece_of.ensures) ∙ sym so_far

pub row_above-next-requires : goal.row_above-next-requires
row_above-next-requires c = (c.requires.book.are_rows.linked c.in-Some.y c.row_at-row.result c.row_at-row.ensures).before

pub loop-next-smaller : goal.loop-next-smaller
loop-next-smaller c = rw (c.in-Some.is, c.row_above-next.ensures) (parent_lower (objects_in c.args.objects.now) c.args.rows.now c.in-Some.y c.row_at-row.result c.requires.book.are_rows c.row_at-row.ensures)

pub loop-next-preserved : goal.loop-next-preserved
loop-next-preserved c =
    let objects = objects_in c.args.objects.now in
    let rows = c.args.rows.now in
    let so_far : innermost (path_in objects rows c.args.x) ≡ innermost (path_in objects rows c.in-Some.y) = subst (λ (next : Option ℕ). innermost (path_in objects rows c.args.x) ≡ innermost (path_above objects rows next)) c.in-Some.is c.loop-next.invariant.1 in
    rw c.row_above-next.ensures (
      above_in objects rows c.in-Some.y c.row_at-row.result c.requires.book.are_rows c.row_at-row.ensures,
      so_far ∙ innermost_is objects rows c.in-Some.y c.row_at-row.result (piece_seen c.piece_of.result) c.requires.book.are_rows c.row_at-row.ensures c.piece_of.ensures
          ∙ own_none c.piece_of.result.parts.private (innermost (path_above objects rows (row_above c.in-Some.y c.row_at-row.result))) (sym c.is_some.ensures ∙ c.if-is_some.false),
    )
