-- The path of a row is that of the row above, and its piece.
use Rattle.std.proofs.Common.{◌≡◌, Bool, true, false, cond, eqb, not, ℕ, zero, suc, ◌+◌, ◌-◌, ◌<◌, ◌≤◌, ◌↔◌, List, [], ◌∷◌, ◌++◌, length, map, Option, Some, None, refl, sym, ap, ◌∙◌, arith, slice_get, inl, inr}
use Rattle.std.specs.Option.{ForSome, is_some, option_map, option_map_or, option_or}
use Rattle.std.specs.Bool.{IsTrue}
use Rattle.std.proofs.lemmas.Bool.{eqb-false, ne_eqb}
use Rattle.std.proofs.lemmas.List.{length-map, same_from_push}
use Rattle.std.proofs.lemmas.Option.{none-some, slice_get-map, slice_get_cases, same_Some, slice_get_within}
use Rattle.type_names.specs.Heads.{Object}
use Rattle.type_names.specs.Names.{Named}
use Rattle.type_names.specs.Paths.{Piece}
use Rattle.type_names.specs.Start.{path_hash}
use Rattle.odr_names.specs.declared.path_book.Row.{Row}
use Rattle.odr_names.specs.Book.{AreRows, Compared, IsLinked, path_above, path_in, row_above, row_bid, row_name, row_path, row_piece}
use Rattle.odr_names.specs.Numbered.{IsLinkedUp, IsOfParent, bid_at, path_at}
use Rattle.odr_names.specs.Entering.{rows_up}
use Rattle.odr_names.specs.Innermost.{innermost}
use Rattle.odr_names.proofs.Innermost.{innermost_more}

-- ---- the row above

-- it stands before
pub above_lower : (x : ℕ) (row : Row) → row.up ≤ x → ForSome (row_above x row) (λ p. p < x)
above_lower x row before = go (eqb row.up 0) refl where
  go : (b : Bool) → eqb row.up 0 ≡ b → ForSome (cond b None (Some (x - row.up))) (λ p. p < x)
  go true is = λ p same. absurd (none-some p same)
  go false is = λ p same. (
      let some = eqb-false row.up 0 is in
      let it = same_Some (x - row.up) p same in
      omega (arith, it, before, some))

-- a row means the same with so many rows more before it
pub above_moved : (b x : ℕ) (row : Row) → row.up ≤ x → row_above (b + x) row ≡ option_map (λ (p : ℕ). b + p) (row_above x row)
above_moved b x row before = go (eqb row.up 0) where
  go : (none : Bool) → cond none None (Some (b + x - row.up)) ≡ option_map (λ (p : ℕ). b + p) (cond none None (Some (x - row.up)))
  go true = refl
  go false = ap (λ (p : ℕ). Some p) (let e : b + x - row.up ≡ b + (x - row.up) = omega (arith, before) in e)

-- a row so many rows behind one is below it
pub above_found : (x : ℕ) (row : Row) (parent : Option ℕ) → row.up ≡ rows_up x parent → ForSome parent (λ p. p < x) → row_above x row ≡ parent
above_found x row None is lower = ap (λ (up : ℕ). cond (eqb up 0) None (Some (x - up))) is
above_found x row (Some p) is lower =
    ap (λ (up : ℕ). cond (eqb up 0) None (Some (x - up))) is
    ∙ ap (λ (b : Bool). cond b None (Some (x - (x - p)))) (ne_eqb (x - p) 0 (λ same. (let low = lower p refl in omega arith)))
    ∙ ap (λ (p : ℕ). Some p) (let low = lower p refl in let e : x - (x - p) ≡ p = omega arith in e)

pub up_within : (x : ℕ) (parent : Option ℕ) → rows_up x parent ≤ x
up_within x None = omega arith
up_within x (Some p) = omega arith

-- ---- paths

pub row_in : (rows : List Row) (x : ℕ) → x < length rows → (row : Row) × (slice_get rows x ≡ Some row)
row_in rows x within = elim (slice_get_cases rows x).1 [
  | inl some ↦ (some.0, some.2)
  | inr past ↦ absurd (omega (arith, past.0))
]

pub path_of_row : (objects : List Object) (rows : List Row) (x : ℕ) (row : Row) (sound : AreRows objects rows) (at : slice_get rows x ≡ Some row)
    → path_in objects rows x ≡ path_above objects rows (row_above x row) ++ (sound.linked x row at).piece ∷ []
path_of_row objects rows x row sound at = ap (λ (o : Option Row). option_map_or (row_path objects) o []) at ∙ (sound.linked x row at).path

-- two rows with one piece have one path where those above have
same_above : (objects : List Object) (rows : List Row) (x y : ℕ) (left right : Row) → AreRows objects rows → slice_get rows x ≡ Some left → slice_get rows y ≡ Some right → row_piece objects left ≡ row_piece objects right
    → (path_in objects rows x ≡ path_in objects rows y) ↔ (path_above objects rows (row_above x left) ≡ path_above objects rows (row_above y right))
same_above objects rows x y left right sound at_x at_y same =
    let p = (sound.linked x left at_x).piece in
    let q = (sound.linked y right at_y).piece in
    let one : p ≡ q = same_Some p q (sym (sound.linked x left at_x).its_piece ∙ same ∙ (sound.linked y right at_y).its_piece) in
    let of_x = path_of_row objects rows x left sound at_x in
    let of_y = path_of_row objects rows y right sound at_y in (
      (λ e. (same_from_push (path_above objects rows (row_above x left)) (path_above objects rows (row_above y right)) p q (sym of_x ∙ e ∙ of_y)).0),
      (λ e. of_x ∙ ap (λ (path : List Piece). path ++ p ∷ []) e ∙ ap (λ (piece : Piece). path_above objects rows (row_above y right) ++ piece ∷ []) one ∙ sym of_y),
    )

same_piece : (objects : List Object) (rows : List Row) (x y : ℕ) (left right : Row) → AreRows objects rows → slice_get rows x ≡ Some left → slice_get rows y ≡ Some right
    → path_in objects rows x ≡ path_in objects rows y → row_piece objects left ≡ row_piece objects right
same_piece objects rows x y left right sound at_x at_y e =
    let p = (sound.linked x left at_x).piece in
    let q = (sound.linked y right at_y).piece in
    let one : p ≡ q = (same_from_push (path_above objects rows (row_above x left)) (path_above objects rows (row_above y right)) p q (sym (path_of_row objects rows x left sound at_x) ∙ e ∙ path_of_row objects rows y right sound at_y)).1 in
    (sound.linked x left at_x).its_piece ∙ ap (λ (piece : Piece). Some piece) one ∙ sym (sound.linked y right at_y).its_piece

pub hash_is : (objects : List Object) (rows : List Row) (x : ℕ) (row : Row) → AreRows objects rows → slice_get rows x ≡ Some row → row.hash ≡ path_hash (path_in objects rows x)
hash_is objects rows x row sound at = (sound.linked x row at).hash ∙ ap path_hash (sym (ap (λ (o : Option Row). option_map_or (row_path objects) o []) at))

pub private_is : (objects : List Object) (rows : List Row) (x : ℕ) (row : Row) → AreRows objects rows → slice_get rows x ≡ Some row → row.private ≡ is_some (innermost (path_in objects rows x))
private_is objects rows x row sound at = (sound.linked x row at).private ∙ ap (λ (path : List Piece). is_some (innermost path)) (sym (ap (λ (o : Option Row). option_map_or (row_path objects) o []) at))

-- the innermost piece that only its own object and entry tell apart: its own, or one above
pub innermost_is : (objects : List Object) (rows : List Row) (x : ℕ) (row : Row) (piece : Piece) → AreRows objects rows → slice_get rows x ≡ Some row → row_piece objects row ≡ Some piece
    → innermost (path_in objects rows x) ≡ option_or piece.parts.private (innermost (path_above objects rows (row_above x row)))
innermost_is objects rows x row piece sound at is =
    let one : (sound.linked x row at).piece ≡ piece = same_Some (sound.linked x row at).piece piece (sym (sound.linked x row at).its_piece ∙ is) in
    ap innermost (path_of_row objects rows x row sound at ∙ ap (λ (piece : Piece). path_above objects rows (row_above x row) ++ piece ∷ []) one) ∙ innermost_more (path_above objects rows (row_above x row)) piece

-- a path has a piece
not_empty : (objects : List Object) (rows : List Row) (x : ℕ) (row : Row) → AreRows objects rows → slice_get rows x ≡ Some row → [] ≡ path_in objects rows x → ⊥
not_empty objects rows x row sound at none = go (path_above objects rows (row_above x row)) (sound.linked x row at).piece (none ∙ path_of_row objects rows x row sound at) where
  go : (path : List Piece) (piece : Piece) → [] ≡ path ++ piece ∷ [] → ⊥
  go [] piece e = cc
  go (first ∷ path) piece e = cc

-- ---- two rows compared

pub above_in : (objects : List Object) (rows : List Row) (x : ℕ) (row : Row) → AreRows objects rows → slice_get rows x ≡ Some row → ForSome (row_above x row) (λ p. p < length rows)
above_in objects rows x row sound at = λ p is. omega (arith, above_lower x row (sound.linked x row at).before p is, slice_get_within rows x row at)

pub compared_more : (objects : List Object) (rows : List Row) (a b x y : ℕ) (first second : Row) → AreRows objects rows → slice_get rows x ≡ Some first → slice_get rows y ≡ Some second
    → (first.hash ≡ second.hash) × (row_piece objects first ≡ row_piece objects second) → Compared objects rows a b (Some x) (Some y) → Compared objects rows a b (row_above x first) (row_above y second)
compared_more objects rows a b x y first second sound at_x at_y same so_far =
    let above = same_above objects rows x y first second sound at_x at_y same.1 in
    record {
      left_in = above_in objects rows x first sound at_x;
      right_in = above_in objects rows y second sound at_y;
      same = ((λ e. above.0 (so_far.same.0 e)), (λ e. so_far.same.1 (above.1 e)));
    }

pub compared_differ : (objects : List Object) (rows : List Row) (a b x y : ℕ) (first second : Row) → AreRows objects rows → slice_get rows x ≡ Some first → slice_get rows y ≡ Some second
    → ((first.hash ≡ second.hash) × (row_piece objects first ≡ row_piece objects second) → ⊥) → Compared objects rows a b (Some x) (Some y) → path_in objects rows a ≡ path_in objects rows b → ⊥
compared_differ objects rows a b x y first second sound at_x at_y differ so_far e =
    let here = so_far.same.0 e in
    let hash : first.hash ≡ second.hash = hash_is objects rows x first sound at_x ∙ ap path_hash here ∙ sym (hash_is objects rows y second sound at_y) in
    differ (hash, same_piece objects rows x y first second sound at_x at_y here)

pub compared_shorter : (objects : List Object) (rows : List Row) (a b x : ℕ) → AreRows objects rows → Compared objects rows a b (Some x) None → path_in objects rows a ≡ path_in objects rows b → ⊥
compared_shorter objects rows a b x sound so_far e = let row = row_in rows x (so_far.left_in x refl) in not_empty objects rows x row.0 sound row.1 (sym (so_far.same.0 e))

pub compared_end : (objects : List Object) (rows : List Row) (a b : ℕ) (right : Option ℕ) (answer : Bool) → AreRows objects rows → is_some right ≡ not answer → Compared objects rows a b None right → IsTrue answer ↔ (path_in objects rows a ≡ path_in objects rows b)
compared_end objects rows a b None true sound is so_far = ((λ t. so_far.same.1 refl), (λ e. refl))
compared_end objects rows a b None false sound is so_far = absurd (cc)
compared_end objects rows a b (Some y) true sound is so_far = absurd (cc)
compared_end objects rows a b (Some y) false sound is so_far =
    ((λ t. absurd (cc)), (λ e. (let row = row_in rows y (so_far.right_in y refl) in absurd (not_empty objects rows y row.0 sound row.1 (so_far.same.0 e)))))

pub parent_lower : (objects : List Object) (rows : List Row) (x : ℕ) (row : Row) → AreRows objects rows → slice_get rows x ≡ Some row → option_map_or (λ p. p + 1) (row_above x row) 0 < x + 1
parent_lower objects rows x row sound at = go (row_above x row) (above_lower x row (sound.linked x row at).before) where
  go : (above : Option ℕ) → ForSome above (λ p. p < x) → option_map_or (λ p. p + 1) above 0 < x + 1
  go None lower = omega arith
  go (Some p) lower = omega (arith, lower p refl)

-- ---- the book as a list

pub name_is : (objects : List Object) (rows : List Row) (x : ℕ) (row : Row) → slice_get rows x ≡ Some row → slice_get (map (row_name objects) rows) x ≡ Some (row_name objects row)
name_is objects rows x row at = slice_get-map (row_name objects) rows x ∙ ap (option_map (row_name objects)) at

pub length_names : (objects : List Object) (rows : List Row) → length (map (row_name objects) rows) ≡ length rows
length_names objects rows = length-map rows (row_name objects)

pub path_at_names : (objects : List Object) (rows : List Row) (x : ℕ) → x < length rows → path_at (map (row_name objects) rows) x ≡ path_in objects rows x
path_at_names objects rows x within = let row = row_in rows x within in rw (name_is objects rows x row.0 row.1, row.1) refl

pub path_at_all : (objects : List Object) (rows : List Row) (x : ℕ) → path_at (map (row_name objects) rows) x ≡ path_in objects rows x
path_at_all objects rows x = ap (λ (o : Option Named). option_map_or (λ name. name.path) o []) (slice_get-map (row_name objects) rows x) ∙ go (slice_get rows x) where
  go : (o : Option Row) → option_map_or (λ (name : Named). name.path) (option_map (row_name objects) o) [] ≡ option_map_or (row_path objects) o []
  go None = refl
  go (Some row) = refl

pub bid_at_names : (objects : List Object) (rows : List Row) (x : ℕ) (row : Row) → slice_get rows x ≡ Some row → bid_at (map (row_name objects) rows) x ≡ row_bid row
bid_at_names objects rows x row at = rw (name_is objects rows x row at) refl

pub hash_at_names : (objects : List Object) (rows : List Row) (x : ℕ) (row : Row) → AreRows objects rows → slice_get rows x ≡ Some row → row.hash ≡ path_hash (path_at (map (row_name objects) rows) x)
hash_at_names objects rows x row sound at = hash_is objects rows x row sound at ∙ ap path_hash (sym (path_at_names objects rows x (slice_get_within rows x row at)))

-- the path of a name is that of the row above, and a piece
pub above_in_names : (objects : List Object) (rows : List Row) (x : ℕ) (row : Row) → AreRows objects rows → slice_get rows x ≡ Some row
    → (piece : Piece) × (path_at (map (row_name objects) rows) x ≡ option_map_or (path_at (map (row_name objects) rows)) (row_above x row) [] ++ piece ∷ [])
above_in_names objects rows x row sound at =
    let it = sound.linked x row at in (
      it.piece,
      path_at_names objects rows x (slice_get_within rows x row at) ∙ path_of_row objects rows x row sound at
          ∙ ap (λ (path : List Piece). path ++ it.piece ∷ []) (go (row_above x row) (above_in objects rows x row sound at)),
    ) where
      go : (parent : Option ℕ) → ForSome parent (λ p. p < length rows) → path_above objects rows parent ≡ option_map_or (path_at (map (row_name objects) rows)) parent []
      go None within = refl
      go (Some p) within = sym (path_at_names objects rows p (within p refl))

pub names_linked : (objects : List Object) (rows : List Row) → AreRows objects rows → (x : ℕ) → x < length (map (row_name objects) rows) → IsLinkedUp (map (row_name objects) rows) x
names_linked objects rows sound x within =
    let row = row_in rows x (omega (arith, within, length_names objects rows)) in
    let path = above_in_names objects rows x row.0 sound row.1 in
    record { up = row_above x row.0; before = above_lower x row.0 (sound.linked x row.0 row.1).before; piece = path.0; path = path.1 }

-- the name of the row above is that of the parent of the entry
pub parent_in_names : (objects : List Object) (rows : List Row) (x : ℕ) (row : Row) → AreRows objects rows → slice_get rows x ≡ Some row → ForSome (row_above x row) (IsOfParent (map (row_name objects) rows) x)
parent_in_names objects rows x row sound at = λ p is name up name_at up_at. (
    let above = row_in rows p (above_in objects rows x row sound at p is) in
    let its = (sound.linked x row at).above p is above.0 above.1 in
    let one : row_name objects row ≡ name = same_Some (row_name objects row) name (sym (name_is objects rows x row at) ∙ name_at) in
    let other : row_name objects above.0 ≡ up = same_Some (row_name objects above.0) up (sym (name_is objects rows p above.0 above.1) ∙ up_at) in (
      sym (ap (λ (w : Named). w.object) other) ∙ its.0 ∙ ap (λ (w : Named). w.object) one,
      sym (ap (λ (w : Named). w.parent) one) ∙ its.1 ∙ ap (λ (w : Named). Some w.entry) other,
    ))

-- ---- lists that grow

pub get_before : {X : Type 0} (xs ys : List X) (x : ℕ) → x < length xs → slice_get (xs ++ ys) x ≡ slice_get xs x
get_before [] ys x h = absurd (omega arith)
get_before (z ∷ xs) ys zero h = refl
get_before (z ∷ xs) ys (suc x) h = get_before xs ys x (omega arith)

pub get_last : {X : Type 0} (xs : List X) (y : X) → slice_get (xs ++ y ∷ []) (length xs) ≡ Some y
get_last [] y = refl
get_last (x ∷ xs) y = get_last xs y

-- ---- rows before others

above_before : (objects : List Object) (before more : List Row) (above : Option ℕ) (x : ℕ) → x ≤ length before → ForSome above (λ p. p < x) → path_above objects (before ++ more) above ≡ path_above objects before above
above_before objects before more None x within lower = refl
above_before objects before more (Some p) x within lower = ap (λ (o : Option Row). option_map_or (row_path objects) o []) (get_before before more p (omega (arith, lower p refl)))

pub link_before : (objects : List Object) (before more : List Row) (row : Row) (x : ℕ) → x ≤ length before → IsLinked objects before x row → IsLinked objects (before ++ more) x row
link_before objects before more row x within link = record {
  piece = link.piece;
  its_piece = link.its_piece;
  before = link.before;
  above = λ p is up at. (
      let lower = above_lower x row link.before p is in
      link.above p is up (sym (get_before before more p (omega (arith, lower, within))) ∙ at));
  path = link.path ∙ ap (λ (path : List Piece). path ++ link.piece ∷ []) (sym (above_before objects before more (row_above x row) x within (above_lower x row link.before)));
  hash = link.hash;
  private = link.private;
}
