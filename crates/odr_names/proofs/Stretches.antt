-- Names stand in the order of their objects.
use Rattle.std.proofs.Common.{◌≡◌, inl, inr, zero, suc, ℕ, ◌+◌, ◌-◌, ◌*◌, ◌<◌, ◌≤◌, ◌^◌, Bool, true, false, cond, if◌then◌else◌, List, [], ◌∷◌, ◌++◌, length, map, Option, Some, None, slice_get, get_or, refl, sym, ap, ◌∙◌, arith, subst, length-append}
use Rattle.std.specs.List.{cons_option, enumerate_from, filter_map, flat_map}
use Rattle.std.specs.List.Sorted.{IsNonDecreasingBy, IsPartitionPoint}
use Rattle.std.specs.Option.{option_map, option_map_or}
use Rattle.std.proofs.lemmas.Bool.{cases_lt}
use Rattle.std.proofs.lemmas.List.{get_or-append_right, get_or_append_left, get_or-map}
use Rattle.std.proofs.lemmas.Option.{get_or_from_slice_get, slice_get-map}
use Rattle.dwarf_types.specs.declared.entry.Entry.{Entry}
use Rattle.odr_names.specs.declared.path_book.Objects.{Objects}
use Rattle.odr_names.specs.declared.path_book.Row.{Row}
use Rattle.odr_names.specs.Book.{IsBook, objects_in, row_name}
use Rattle.odr_names.specs.Numbered.{bid_at}
use Rattle.odr_names.specs.Stretches.{AreOfObjects, IsFirstOf, last_object, object_at}
use Rattle.type_names.specs.Heads.{Object, entries_of, is_pooled}
use Rattle.type_names.specs.Names.{Named, named_of, names, names_in}
use Rattle.odr_names.proofs.BookPaths.{bid_at_names, length_names, name_is, row_in}

abbrev named : ℕ → Object → List (ℕ × Entry) → List Named
named n o es = filter_map (λ (e : ℕ × Entry). if is_pooled o e.0 then Some (named_of n o e.0 e.1) else None) es

own_object : (n : ℕ) (o : Object) (es : List (ℕ × Entry)) (i : ℕ) (d : Named) → i < length (named n o es) → (get_or (named n o es) i d).object ≡ n
own_object n o [] = λ i d within. absurd (omega (arith, within))
own_object n o (e ∷ es) = go (is_pooled o e.0) (own_object n o es) where
  go : (b : Bool) → ((i : ℕ) (d : Named) → i < length (named n o es) → (get_or (named n o es) i d).object ≡ n) → (i : ℕ) (d : Named)
      → i < length (cons_option (cond b (Some (named_of n o e.0 e.1)) None) (named n o es)) → (get_or (cons_option (cond b (Some (named_of n o e.0 e.1)) None) (named n o es)) i d).object ≡ n
  go false rest i d within = rest i d within
  go true rest zero d within = refl
  go true rest (suc i) d within = rest i d (omega (arith, within))

record InOrderFrom (n : ℕ) (ws : List Named) : Type 0 where
  pub from : (i : ℕ) (d : Named) → i < length ws → n ≤ (get_or ws i d).object
  pub order : IsNonDecreasingBy (λ (w : Named). w.object) ws

joined : (n : ℕ) (xs ys : List Named) → ((i : ℕ) (d : Named) → i < length xs → (get_or xs i d).object ≡ n) → InOrderFrom (n + 1) ys → InOrderFrom n (xs ++ ys)
joined n xs ys own rest = record {
  from = λ i d within. elim (cases_lt i (length xs)) [
    | inl first ↦ (let e = left i d first in omega (arith, e))
    | inr second ↦ (let e = right i d second in let more = rest.from (i - length xs) d (past i within second) in omega (arith, e, more))
  ];
  order = λ i j d le within. elim (cases_lt j (length xs)) [
    | inl first ↦ (let a = left i d (omega (arith, le, first)) in let b = left j d first in omega (arith, a, b))
    | inr second ↦ (
        let b = right j d second in
        elim (cases_lt i (length xs)) [
          | inl before ↦ (let a = left i d before in let more = rest.from (j - length xs) d (past j within second) in omega (arith, a, b, more))
          | inr after ↦ (
              let a = right i d after in
              let more = rest.order (i - length xs) (j - length xs) d (omega (arith, le, after)) (past j within second) in
              omega (arith, a, b, more))
        ])
  ];
} where
  left : (i : ℕ) (d : Named) → i < length xs → (get_or (xs ++ ys) i d).object ≡ n
  left i d within = ap (λ (w : Named). w.object) (get_or_append_left xs ys d i within) ∙ own i d within

  right : (i : ℕ) (d : Named) → length xs ≤ i → (get_or (xs ++ ys) i d).object ≡ (get_or ys (i - length xs) d).object
  right i d le = ap (λ (w : Named). w.object) (get_or-append_right xs ys (length xs) i d refl le)

  past : (i : ℕ) → i < length (xs ++ ys) → length xs ≤ i → i - length xs < length ys
  past i within le = omega (arith, length-append xs ys, within, le)

in_order_from : (n : ℕ) (objects : List Object) → InOrderFrom n (flat_map (λ (o : ℕ × Object). names_in o.0 o.1) (enumerate_from n objects))
in_order_from n [] = record { from = λ i d within. absurd (omega (arith, within)); order = λ i j d le within. absurd (omega (arith, within)) }
in_order_from n (o ∷ objects) =
    joined n (names_in n o) (flat_map (λ (o : ℕ × Object). names_in o.0 o.1) (enumerate_from (n + 1) objects)) (own_object n o (enumerate_from 0 (entries_of o))) (in_order_from (n + 1) objects)

pub rows_in_order : (all objects : List Object) (rows : List Row) → map (row_name all) rows ≡ names objects → IsNonDecreasingBy (λ (row : Row). row.object) rows
rows_in_order all objects rows is = λ i j d le within. (
    let order = subst (λ (ws : List Named). IsNonDecreasingBy (λ (w : Named). w.object) ws) (sym is) (in_order_from 1 objects).order i j (row_name all d) le (omega (arith, within, length_names all rows)) in
    let a = ap (λ (w : Named). w.object) (get_or-map (row_name all) rows i d (row_name all d) (omega (arith, le, within))) in
    let b = ap (λ (w : Named). w.object) (get_or-map (row_name all) rows j d (row_name all d) within) in
    omega (arith, order, a, b))

-- ---- in a book

object_is : (objects : List Object) (rows : List Row) (x : ℕ) (row : Row) → slice_get rows x ≡ Some row → object_at (map (row_name objects) rows) x ≡ row.object
object_is objects rows x row at = rw (name_is objects rows x row at) refl

pub first_is : (objects : List Object) (rows : List Row) (object first : ℕ) → first ≤ length rows → IsPartitionPoint (λ row. row.object < object) (λ row. object ≤ row.object) rows first
    → IsFirstOf (map (row_name objects) rows) object first
first_is objects rows object first within parted = record {
  within = omega (arith, within, length_names objects rows);
  before = λ x below. (
      let row = row_in rows x (omega (arith, within, below)) in
      let at = object_is objects rows x row.0 row.1 in
      let its = parted.0 x row.0 (omega arith) below in
      let read = ap (λ (r : Row). r.object) (get_or_from_slice_get rows x row.0 row.0 row.1) in
      omega (arith, at, its, read));
  behind = λ x from below. (
      let row = row_in rows x (omega (arith, below, length_names objects rows)) in
      let at = object_is objects rows x row.0 row.1 in
      let its = parted.1 x row.0 from (omega (arith, below, length_names objects rows)) in
      let read = ap (λ (r : Row). r.object) (get_or_from_slice_get rows x row.0 row.0 row.1) in
      omega (arith, at, its, read));
}

-- no name is of an object behind that of the last one
pub of_objects : (os : Objects) (rows : List Row) → IsBook os rows → AreOfObjects (map (row_name (objects_in os)) rows) (last_object rows)
of_objects os rows book = λ x below. (
    let within : x < length rows = omega (arith, below, length_names (objects_in os) rows) in
    let row = row_in rows x within in
    let last = row_in rows (length rows - 1) (omega (arith, within)) in
    let at = object_is (objects_in os) rows x row.0 row.1 in
    let end : last_object rows ≡ last.0.object = ap (λ (r : Option Row). option_map_or (λ (r : Row). r.object) r 0) last.1 in
    let its = book.are_rows.of_entries x row.0 row.1 in
    let order = book.in_order x (length rows - 1) row.0 (omega (arith, within)) (omega (arith, within)) in
    let first = ap (λ (r : Row). r.object) (get_or_from_slice_get rows x row.0 row.0 row.1) in
    let second = ap (λ (r : Row). r.object) (get_or_from_slice_get rows (length rows - 1) last.0 row.0 last.1) in
    (omega (arith, at, its.counted.0), omega (arith, at, end, order, first, second)))

pub last_small : (os : Objects) (rows : List Row) → IsBook os rows → last_object rows < 2 ^ 16
last_small os rows book = go (slice_get rows (length rows - 1)) refl where
  go : (row : Option Row) → slice_get rows (length rows - 1) ≡ row → option_map_or (λ (row : Row). row.object) row 0 < 2 ^ 16
  go None at = omega arith
  go (Some row) at = (book.are_rows.of_entries (length rows - 1) row at).counted.1

-- the object of the last name
pub last_is : (objects : List Object) (rows : List Row) → last_object rows ≡ object_at (map (row_name objects) rows) (length (map (row_name objects) rows) - 1)
last_is objects rows =
    go (slice_get rows (length rows - 1))
    ∙ ap (λ (name : Option Named). option_map_or (λ (name : Named). name.object) name 0) (sym (slice_get-map (row_name objects) rows (length rows - 1)))
    ∙ ap (λ (n : ℕ). object_at (map (row_name objects) rows) (n - 1)) (sym (length_names objects rows)) where
      go : (row : Option Row) → option_map_or (λ (row : Row). row.object) row 0 ≡ option_map_or (λ (name : Named). name.object) (option_map (row_name objects) row) 0
      go None = refl
      go (Some row) = refl

pub bids_small : (os : Objects) (rows : List Row) → IsBook os rows → (x : ℕ) → x < length (map (row_name (objects_in os)) rows) → bid_at (map (row_name (objects_in os)) rows) x < 2 ^ 64 - 1
bids_small os rows book x below =
    let row = row_in rows x (omega (arith, below, length_names (objects_in os) rows)) in
    let its = book.are_rows.of_entries x row.0 row.1 in
    let is = bid_at_names (objects_in os) rows x row.0 row.1 in
    omega (arith, is, go row.0.declared row.0.object row.0.entry its.counted.1 its.few) where
      go : (b : Bool) (object entry : ℕ) → object < 2 ^ 16 → entry < 2 ^ 24 → (if b then 2 ^ 63 else 0) + object * 2 ^ 32 + entry < 2 ^ 64 - 1
      go true object entry low few = omega (arith, low, few)
      go false object entry low few = omega (arith, low, few)
