-- How two paths stand, from their innermost pieces up.
use Rattle.std.proofs.Common.{◌≡◌, ℕ, ◌<◌, true, false, List, [], ◌∷◌, ◌++◌, length, Option, Some, None, refl, sym, ap, ◌∙◌, slice_get}
use Rattle.std.specs.Option.{ForSome, is_some}
use Rattle.std.specs.Ordering.{is_ne, ordering_then}
use Rattle.std.specs.declared.cmp.Ordering.{Ordering}
use Rattle.std.specs.declared.cmp.Ordering.TheVariants.{Less, Equal, Greater}
use Rattle.std.proofs.lemmas.Bool.{both_ways}
use Rattle.std.proofs.lemmas.Option.{same_Some}
use Rattle.odr_names.specs.declared.path_book.Row.{Row}
use Rattle.odr_names.specs.Book.{AreRows, path_above, path_in, row_above, row_piece}
use Rattle.odr_names.specs.PathOrder.{path_order, piece_order}
use Rattle.odr_names.proofs.BookPaths.{above_in, path_of_row, row_in}
use Rattle.odr_names.proofs.PathOrder.{order_longer, order_push, order_shorter, tied_path}
use Rattle.type_names.specs.Heads.{Object}
use Rattle.type_names.specs.Paths.{Piece}

-- the paths of rows a and b stand as those of the rows that are left to compare, which are above them
pub record Stand (objects : List Object) (rows : List Row) (a b left right : Option ℕ) : Type 0 where
  pub left_in : ForSome left (λ x. x < length rows)
  pub right_in : ForSome right (λ y. y < length rows)
  pub same : path_order (path_above objects rows a) (path_above objects rows b) ≡ path_order (path_above objects rows left) (path_above objects rows right)

tied_first : (a b : Ordering) → is_ne a ≡ false → ordering_then a b ≡ b
tied_first Less b is = absurd (both_ways _ is refl)
tied_first Equal b is = refl
tied_first Greater b is = absurd (both_ways _ is refl)

apart_first : (a b : Ordering) → is_ne a ≡ true → ordering_then a b ≡ a
apart_first Less b is = refl
apart_first Equal b is = absurd (both_ways _ refl is)
apart_first Greater b is = refl

-- two rows stand as their pieces, and then as the rows above
pieces_first : (objects : List Object) (rows : List Row) (x y : ℕ) (first second : Row) (p q : Piece) → AreRows objects rows → slice_get rows x ≡ Some first → slice_get rows y ≡ Some second
    → row_piece objects first ≡ Some p → row_piece objects second ≡ Some q
    → path_order (path_in objects rows x) (path_in objects rows y) ≡ ordering_then (piece_order p q) (path_order (path_above objects rows (row_above x first)) (path_above objects rows (row_above y second)))
pieces_first objects rows x y first second p q sound at_x at_y is_p is_q =
    let left = sound.linked x first at_x in
    let right = sound.linked y second at_y in
    let one : left.piece ≡ p = same_Some left.piece p (sym left.its_piece ∙ is_p) in
    let other : right.piece ≡ q = same_Some right.piece q (sym right.its_piece ∙ is_q) in
    (λ i. path_order (path_of_row objects rows x first sound at_x i) (path_of_row objects rows y second sound at_y i))
    ∙ (λ i. path_order (path_above objects rows (row_above x first) ++ one i ∷ []) (path_above objects rows (row_above y second) ++ other i ∷ []))
    ∙ order_push (path_above objects rows (row_above x first)) (path_above objects rows (row_above y second)) p q

pub stand_more : (objects : List Object) (rows : List Row) (a b : Option ℕ) (x y : ℕ) (first second : Row) (p q : Piece) → AreRows objects rows → slice_get rows x ≡ Some first → slice_get rows y ≡ Some second
    → row_piece objects first ≡ Some p → row_piece objects second ≡ Some q → is_ne (piece_order p q) ≡ false
    → Stand objects rows a b (Some x) (Some y) → Stand objects rows a b (row_above x first) (row_above y second)
stand_more objects rows a b x y first second p q sound at_x at_y is_p is_q tied so_far = record {
  left_in = above_in objects rows x first sound at_x;
  right_in = above_in objects rows y second sound at_y;
  same = so_far.same ∙ pieces_first objects rows x y first second p q sound at_x at_y is_p is_q ∙ tied_first (piece_order p q) _ tied;
}

pub stand_apart : (objects : List Object) (rows : List Row) (a b : Option ℕ) (x y : ℕ) (first second : Row) (p q : Piece) → AreRows objects rows → slice_get rows x ≡ Some first → slice_get rows y ≡ Some second
    → row_piece objects first ≡ Some p → row_piece objects second ≡ Some q → is_ne (piece_order p q) ≡ true
    → Stand objects rows a b (Some x) (Some y) → piece_order p q ≡ path_order (path_above objects rows a) (path_above objects rows b)
stand_apart objects rows a b x y first second p q sound at_x at_y is_p is_q apart so_far =
    sym (so_far.same ∙ pieces_first objects rows x y first second p q sound at_x at_y is_p is_q ∙ apart_first (piece_order p q) _ apart)

pub stand_same : (objects : List Object) (rows : List Row) (a b : Option ℕ) (x y : ℕ) → x ≡ y → Stand objects rows a b (Some x) (Some y) → Equal ≡ path_order (path_above objects rows a) (path_above objects rows b)
stand_same objects rows a b x y one so_far = sym (so_far.same ∙ tied_path (path_in objects rows x) (path_in objects rows y) (ap (path_in objects rows) one))

pub stand_longer : (objects : List Object) (rows : List Row) (a b : Option ℕ) (x : ℕ) → AreRows objects rows → Stand objects rows a b (Some x) None → Greater ≡ path_order (path_above objects rows a) (path_above objects rows b)
stand_longer objects rows a b x sound so_far =
    let row = row_in rows x (so_far.left_in x refl) in
    sym (so_far.same ∙ ap (λ (path : List Piece). path_order path []) (path_of_row objects rows x row.0 sound row.1) ∙ order_longer (path_above objects rows (row_above x row.0)) (sound.linked x row.0 row.1).piece)

pub stand_shorter : (objects : List Object) (rows : List Row) (a b right : Option ℕ) → AreRows objects rows → is_some right ≡ true → Stand objects rows a b None right → Less ≡ path_order (path_above objects rows a) (path_above objects rows b)
stand_shorter objects rows a b None sound some so_far = absurd (both_ways _ refl some)
stand_shorter objects rows a b (Some y) sound some so_far =
    let row = row_in rows y (so_far.right_in y refl) in
    sym (so_far.same ∙ ap (λ (path : List Piece). path_order [] path) (path_of_row objects rows y row.0 sound row.1) ∙ order_shorter (path_above objects rows (row_above y row.0)) (sound.linked y row.0 row.1).piece)
