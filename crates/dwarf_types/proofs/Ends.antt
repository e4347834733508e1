-- Cells beside the places behind their values.
use Rattle.std.proofs.Common.{◌≡◌, ℕ, zero, suc, ◌+◌, ◌-◌, ◌<◌, ◌≤◌, ◌||◌, List, [], ◌∷◌, ◌++◌, Bool, None, Some, map, length, drop, take, get_or, slice_get, All, cond, not, nat_lt, refl, ap, ap₂, sym, ◌∙◌, arith}
use Rattle.std.specs.List.{list_any, position, prefix_len, zip}
use Rattle.std.proofs.lemmas.List.{drop-drop, get_or-map, length-drop, length-map, length-take, length_push}
use Rattle.std.proofs.lemmas.List.Elements.{All-cons, All-head, All-nil, All-tail}
use Rattle.std.proofs.lemmas.List.Sums.{sum_by-cons}
use Rattle.std.proofs.lemmas.Slice.Zip.{length-zip}
use Rattle.dwarf_types.specs.declared.columns.Cell.{Cell}
use Rattle.dwarf_types.specs.declared.columns.Head.{Head}
use Rattle.dwarf_types.specs.declared.entry.Attr.{Attr}
use Rattle.dwarf_types.specs.declared.entry.Entry.{Entry}
use Rattle.dwarf_types.specs.declared.entry.RawAttr.{RawAttr}
use Rattle.dwarf_types.specs.declared.sides.Sides.{Sides}
use Rattle.dwarf_types.specs.Columns.{CellWithin, Follow, IsFlat, IsRaw, attr_of, cells_of, entries_of, entry_with, raw_attr_of, raw_entries_of, raw_entry_with, row}
use Rattle.dwarf_types.specs.Raw.{attr_count, raw_attr, raw_entries, raw_entry}
use Rattle.dwarf_types.proofs.Heads.{flat_cell, follow_over, row_read}

-- ---- two lists side by side

module _ {X Y : Type 0} where
  pub zip_long : (xs : List X) (ys : List Y) → length ys ≡ length xs → length (zip xs ys) ≡ length xs
  zip_long xs ys beside = omega (arith, length-zip xs ys)

  none_beside : (xs : List X) → ◌≡◌ {A = List (X × Y)} (zip xs []) []
  none_beside [] = refl
  none_beside (x ∷ xs) = refl

  drop-zip : (n : ℕ) (xs : List X) (ys : List Y) → drop n (zip xs ys) ≡ zip (drop n xs) (drop n ys)
  drop-zip zero xs ys = refl
  drop-zip (suc n) [] ys = refl
  drop-zip (suc n) (x ∷ xs) [] = sym (none_beside (drop n xs))
  drop-zip (suc n) (x ∷ xs) (y ∷ ys) = drop-zip n xs ys

  take-zip : (n : ℕ) (xs : List X) (ys : List Y) → take n (zip xs ys) ≡ zip (take n xs) (take n ys)
  take-zip zero xs ys = refl
  take-zip (suc n) [] ys = refl
  take-zip (suc n) (x ∷ xs) [] = refl
  take-zip (suc n) (x ∷ xs) (y ∷ ys) = ap (λ (zs : List (X × Y)). (x, y) ∷ zs) (take-zip n xs ys)

  -- the cells of a head, beside what a column has of them
  pub cells_beside : (xs : List X) (ys : List Y) (h : Head) → cells_of (zip xs ys) h ≡ zip (cells_of xs h) (cells_of ys h)
  cells_beside xs ys h =
      ap (take (h.first + h.count - h.first)) (drop-zip h.first xs ys) ∙ take-zip (h.first + h.count - h.first) (drop h.first xs) (drop h.first ys)

  pub zip_push : (xs : List X) (ys : List Y) (x : X) (y : Y) → length ys ≡ length xs → zip (xs ++ x ∷ []) (ys ++ y ∷ []) ≡ zip xs ys ++ (x, y) ∷ []
  zip_push [] [] x y beside = refl
  zip_push [] (b ∷ ys) x y beside = absurd (omega arith)
  zip_push (a ∷ xs) [] x y beside = absurd (omega arith)
  zip_push (a ∷ xs) (b ∷ ys) x y beside = ap (λ (zs : List (X × Y)). (a, b) ∷ zs) (zip_push xs ys x y (omega arith))

  all_beside : (P : X → Type 0) (xs : List X) (ys : List Y) → All P xs → All (λ (z : X × Y). P z.0) (zip xs ys)
  all_beside P [] ys all = All-nil (λ (z : X × Y). P z.0)
  all_beside P (x ∷ xs) [] all = All-nil (λ (z : X × Y). P z.0)
  all_beside P (x ∷ xs) (y ∷ ys) all = All-cons (λ (z : X × Y). P z.0) (x, y) (zip xs ys) (All-head P x xs all) (all_beside P xs ys (All-tail P x xs all))

  any_beside : (p : X → Bool) (xs : List X) (ys : List Y) → length ys ≡ length xs → list_any (λ (z : X × Y). p z.0) (zip xs ys) ≡ list_any p xs
  any_beside p [] ys beside = refl
  any_beside p (x ∷ xs) [] beside = absurd (omega arith)
  any_beside p (x ∷ xs) (y ∷ ys) beside = ap (λ b. p x || b) (any_beside p xs ys (omega arith))

  prefix_beside : (p : X → Bool) (xs : List X) (ys : List Y) → length ys ≡ length xs → prefix_len (λ (z : X × Y). p z.0) (zip xs ys) ≡ prefix_len p xs
  prefix_beside p [] ys beside = refl
  prefix_beside p (x ∷ xs) [] beside = absurd (omega arith)
  prefix_beside p (x ∷ xs) (y ∷ ys) beside = ap (λ n. cond (p x) (1 + n) 0) (prefix_beside p xs ys (omega arith))

  pub position_beside : (p : X → Bool) (xs : List X) (ys : List Y) → length ys ≡ length xs → position (λ (z : X × Y). p z.0) (zip xs ys) ≡ position p xs
  position_beside p xs ys beside =
      ap₂ (λ i n. cond (nat_lt i n) (Some i) None) (prefix_beside (λ x. not (p x)) xs ys beside) (zip_long xs ys beside)

  -- whether one of those from a place on passes
  pub any_open : (p : X → Bool) (n : ℕ) (xs : List X) (ys : List Y) → length ys ≡ length xs → list_any (λ (z : X × Y). p z.0) (drop n (zip xs ys)) ≡ list_any p (drop n xs)
  any_open p n xs ys beside =
      ap (list_any (λ (z : X × Y). p z.0)) (drop-zip n xs ys) ∙ any_beside p (drop n xs) (drop n ys) (simp length-drop (ap (λ (m : ℕ). m - n) beside))

-- ---- cells that are read

-- a cell and the place behind its value, where the cell's payload lies in its column
abbrev pub RawWithin : Sides → Cell × ℕ → Type 0
RawWithin s c = CellWithin s c.0

pub raw_flat : (s : Sides) (heads : List Head) (cells : List Cell) (ends : List ℕ) (at : ℕ) → IsRaw s heads cells ends at → IsFlat (RawWithin s) heads (zip cells ends) at
raw_flat s heads cells ends at r =
    let few : at ≤ length cells = r.flat.few in
    record { follow = r.flat.follow; few = omega (arith, zip_long cells ends r.beside); within = all_beside (CellWithin s) cells ends r.flat.within }

pub raw_push : (s : Sides) (heads : List Head) (cells : List Cell) (ends : List ℕ) (at : ℕ) (c : Cell) (e : ℕ) → CellWithin s c → IsRaw s heads cells ends at → IsRaw s heads (cells ++ c ∷ []) (ends ++ e ∷ []) at
raw_push s heads cells ends at c e w r =
    let beside : length ends ≡ length cells = r.beside in
    record { flat = flat_cell (CellWithin s) heads cells at c w r.flat; beside = omega (arith, length_push cells c, length_push ends e) }

-- ---- entries of cells, and the places behind their values

abbrev attrs_of : Sides → List Cell → List Attr
attrs_of s cells = map (attr_of s) cells

attrs_beside : (s : Sides) (cells : List Cell) (ends : List ℕ) → map raw_attr (zip (attrs_of s cells) ends) ≡ map (raw_attr_of s) (zip cells ends)
attrs_beside s [] ends = refl
attrs_beside s (c ∷ cells) [] = refl
attrs_beside s (c ∷ cells) (e ∷ ends) =
    let pair : Cell × ℕ = (c, e) in
    ap (λ (xs : List RawAttr). raw_attr_of s pair ∷ xs) (attrs_beside s cells ends)

-- the entry of a head
entry_beside : (s : Sides) (cells : List Cell) (ends : List ℕ) (h : Head) → raw_entry (entry_with h (attrs_of s (cells_of cells h))) (cells_of ends h) ≡ row (raw_attr_of s) raw_entry_with (zip cells ends) h
entry_beside s cells ends h =
    ap (raw_entry_with h) (attrs_beside s (cells_of cells h) (cells_of ends h) ∙ sym (ap (map (raw_attr_of s)) (cells_beside cells ends h)))

pub raw_row_read : (s : Sides) (heads : List Head) (cells : List Cell) (ends : List ℕ) (i : ℕ) (h : Head) → i < length heads → h ≡ get_or heads i h → slice_get (raw_entries_of s heads cells ends) i ≡ Some (raw_entry (entry_with h (attrs_of s (cells_of cells h))) (cells_of ends h))
raw_row_read s heads cells ends i h lt is =
    row_read (RawWithin s) raw_entry_with (raw_attr_of s) heads (zip cells ends) i h lt is ∙ ap Some (sym (entry_beside s cells ends h))

count_long : (s : Sides) (cells : List Cell) (h : Head) → h.first + h.count ≤ length cells → length (attrs_of s (cells_of cells h)) ≡ h.count
count_long s cells h le = simp (length-map, length-take, length-drop) (omega arith)

pub raw_rows : (s : Sides) (cells : List Cell) (ends : List ℕ) (at : ℕ) (heads : List Head) (end : ℕ) → Follow at heads end → end ≤ length cells → raw_entries (entries_of s heads cells) (drop at ends) ≡ raw_entries_of s heads cells ends
raw_rows s cells ends at [] end f le = refl
raw_rows s cells ends at (h ∷ heads) end f le =
    let over = follow_over (h.first + h.count) heads end f.1 in
    let begins : at ≡ h.first = f.0 in
    let attrs : List Attr = attrs_of s (cells_of cells h) in
    let long : length attrs ≡ h.count = count_long s cells h (omega arith) in
    let here : take (length attrs) (drop at ends) ≡ cells_of ends h = ap₂ (λ (n k : ℕ). take n (drop k ends)) (omega (arith, long)) begins in
    let behind : drop (length attrs) (drop at ends) ≡ drop (h.first + h.count) ends = drop-drop (length attrs) at ends ∙ ap (λ (n : ℕ). drop n ends) (omega (arith, long)) in
    ap₂ ◌∷◌ (ap (raw_entry (entry_with h attrs)) here ∙ entry_beside s cells ends h) (ap (raw_entries (entries_of s heads cells)) behind ∙ raw_rows s cells ends (h.first + h.count) heads end f.1 le)

-- ---- where the attributes of entries stand

abbrev attrs_long : Entry → ℕ
attrs_long e = length e.attrs

pub counted : (s : Sides) (cells : List Cell) (at : ℕ) (heads : List Head) (end : ℕ) → Follow at heads end → end ≤ length cells → at + attr_count (entries_of s heads cells) ≡ end
counted s cells at [] end f le = omega arith
counted s cells at (h ∷ heads) end f le =
    let over = follow_over (h.first + h.count) heads end f.1 in
    let begins : at ≡ h.first = f.0 in
    let long = count_long s cells h (omega arith) in
    let later = counted s cells (h.first + h.count) heads end f.1 le in
    omega (arith, long, sum_by-cons attrs_long (row (attr_of s) entry_with cells h) (entries_of s heads cells))

-- an entry's first one is that of its head
pub first_counted : (s : Sides) (cells : List Cell) (at : ℕ) (heads : List Head) (end i : ℕ) (d : Head) → Follow at heads end → end ≤ length cells → i < length heads → at + attr_count (take i (entries_of s heads cells)) ≡ (get_or heads i d).first
first_counted s cells at [] end i d f le lt = absurd (omega arith)
first_counted s cells at (h ∷ heads) end zero d f le lt =
    let begins : at ≡ h.first = f.0 in
    omega arith
first_counted s cells at (h ∷ heads) end (suc i) d f le lt =
    let over = follow_over (h.first + h.count) heads end f.1 in
    let begins : at ≡ h.first = f.0 in
    let long = count_long s cells h (omega arith) in
    let later = first_counted s cells (h.first + h.count) heads end i d f.1 le (omega arith) in
    omega (arith, long, later, sum_by-cons attrs_long (row (attr_of s) entry_with cells h) (take i (entries_of s heads cells)))

-- an entry begins where its head says
pub place_read : (s : Sides) (heads : List Head) (cells : List Cell) (i : ℕ) (h : Head) → i < length heads → h ≡ get_or heads i h → get_or (map (λ (e : Entry). e.place) (entries_of s heads cells)) i 0 ≡ h.place
place_read s heads cells i h lt is =
    let entry : Head → Entry = row (attr_of s) entry_with cells in
    get_or-map (λ (e : Entry). e.place) (entries_of s heads cells) i (entry h) 0 (omega (arith, length-map heads entry))
    ∙ ap (λ (e : Entry). e.place) (get_or-map entry heads i h (entry h) lt)
    ∙ ap (λ (x : Head). x.place) (sym is)
