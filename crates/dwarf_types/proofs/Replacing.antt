-- A value in the place of another: one attribute of one entry changes, whatever the columns beside the cells are then.
use Rattle.std.proofs.Common.{◌≡◌, ℕ, zero, suc, ◌+◌, ◌-◌, ◌<◌, ◌≤◌, List, [], ◌∷◌, map, length, drop, take, get_or, set, slice_get, Some, All, refl, ap, ap₂, sym, ◌∙◌, arith}
use Rattle.std.specs.Prelude.{⊤}
use Rattle.std.specs.List.{drop-map, take-map}
use Rattle.std.proofs.Math.ListN.{get_or-map}
use Rattle.std.proofs.lemmas.List.{length-map}
use Rattle.std.proofs.lemmas.List.Elements.{All-cons, All-get_or, All-nil}
use Rattle.std.proofs.lemmas.Option.{slice_get_within}
use Rattle.dwarf_types.specs.declared.columns.Cell.{Cell}
use Rattle.dwarf_types.specs.declared.columns.Head.{Head}
use Rattle.dwarf_types.specs.declared.entry.Attr.{Attr}
use Rattle.dwarf_types.specs.declared.entry.Entry.{Entry}
use Rattle.dwarf_types.specs.declared.sides.Kind.{Kind}
use Rattle.dwarf_types.specs.declared.sides.Sides.{Sides}
use Rattle.dwarf_types.specs.declared.value.Value.{Value}
use Rattle.dwarf_types.specs.Cells.{KeepsOthers, held_value}
use Rattle.dwarf_types.specs.Columns.{AreEntries, AreFew, CellWithin, IsFlat, attr_of, cell_count, cells_of, entries_of, entry_with, held_of, row}
use Rattle.dwarf_types.proofs.Few.{apart_from}
use Rattle.dwarf_types.proofs.Setting.{attr_stands, cell_place, row_set}

-- ---- lists that are the same but for one item

module _ {X A : Type 0} (f g : X → A) where
  maps_all : (xs : List X) → ((l : ℕ) (d : X) → l < length xs → g (get_or xs l d) ≡ f (get_or xs l d)) → map g xs ≡ map f xs
  maps_all [] same = refl
  maps_all (x ∷ xs) same = ap₂ ◌∷◌ (same 0 x (omega arith)) (maps_all xs (λ l d lt. same (suc l) d (omega arith)))

  maps_but : (xs : List X) (k : ℕ) (to : X) → ((l : ℕ) (d : X) → l < length xs → (l ≡ k → ⊥) → g (get_or xs l d) ≡ f (get_or xs l d)) → map g (set xs k to) ≡ set (map f xs) k (g to)
  maps_but [] k to same = refl
  maps_but (x ∷ xs) zero to same = ap (λ (ys : List A). g to ∷ ys) (maps_all xs (λ l d lt. same (suc l) d (omega arith) (λ is. omega arith)))
  maps_but (x ∷ xs) (suc k) to same = ap₂ ◌∷◌ (same 0 x (omega arith) (λ is. omega arith)) (maps_but xs k to (λ l d lt no. same (suc l) d (omega arith) (λ is. no (omega arith))))

-- ---- entries of what cells stand for

maps_itself : {A : Type 0} (xs : List A) → map (λ (x : A). x) xs ≡ xs
maps_itself [] = refl
maps_itself (x ∷ xs) = ap (λ ys. x ∷ ys) (maps_itself xs)

all_are : {A : Type 0} (xs : List A) → All (λ (x : A). ⊤) xs
all_are {A} [] = All-nil (λ (x : A). ⊤)
all_are {A} (x ∷ xs) = All-cons (λ (x : A). ⊤) x xs tt (all_are xs)

rows_mapped : {X A E : Type 0} (f : X → A) (with_attrs : Head → List A → E) (cells : List X) (heads : List Head) → map (row f with_attrs cells) heads ≡ map (row (λ (x : A). x) with_attrs (map f cells)) heads
rows_mapped f with_attrs cells [] = refl
rows_mapped {X} {A} {E} f with_attrs cells (h ∷ heads) =
    let part : cells_of (map f cells) h ≡ map f (cells_of cells h) = ap (take (h.first + h.count - h.first)) (drop-map f h.first cells) ∙ take-map f (h.first + h.count - h.first) (drop h.first cells) in
    let attrs : map f (cells_of cells h) ≡ map (λ (x : A). x) (cells_of (map f cells) h) = sym (maps_itself (cells_of (map f cells) h) ∙ part) in
    ap₂ ◌∷◌ (ap (with_attrs h) attrs) (rows_mapped f with_attrs cells heads)

flat_mapped : {X A : Type 0} (Within : X → Type 0) (f : X → A) (heads : List Head) (cells : List X) (at : ℕ) → IsFlat Within heads cells at → IsFlat (λ (x : A). ⊤) heads (map f cells) at
flat_mapped Within f heads cells at flat =
    let few : at ≤ length cells = flat.few in
    record { follow = flat.follow; few = omega (arith, length-map cells f); within = all_are (map f cells) }

-- what the cells stand for before and then, where all but one stand for the same
module _ {X A E : Type 0} (f g : X → A) (with_attrs : Head → List A → E) (attrs : E → List A) (seen : (h : Head) (xs : List A) → attrs (with_attrs h xs) ≡ xs) where
  row_over : (Within : X → Type 0) (heads : List Head) (cells : List X) (at i j : ℕ) (h : Head) (cell to : X) (e : E) (a : A) → IsFlat Within heads cells at → h ≡ get_or heads i h → slice_get (map (row f with_attrs cells) heads) i ≡ Some e → slice_get (attrs e) j ≡ Some a → cell ≡ get_or cells (h.first + j) cell → ((l : ℕ) (d : X) → l < length cells → (l ≡ h.first + j → ⊥) → g (get_or cells l d) ≡ f (get_or cells l d))
      → (map (row g with_attrs (set cells (h.first + j) to)) heads ≡ set (map (row f with_attrs cells) heads) i (with_attrs h (set (attrs e) j (g to)))) × (with_attrs h (attrs e) ≡ e) × (f cell ≡ a)
  row_over Within heads cells at i j h cell to e a flat is read this here same =
      let itself : A → A = λ x. x in
      let before : map (row f with_attrs cells) heads ≡ map (row itself with_attrs (map f cells)) heads = rows_mapped f with_attrs cells heads in
      let after : map (row g with_attrs (set cells (h.first + j) to)) heads ≡ map (row itself with_attrs (map g (set cells (h.first + j) to))) heads = rows_mapped g with_attrs (set cells (h.first + j) to) heads in
      let stands : slice_get (map (row itself with_attrs (map f cells)) heads) i ≡ Some e = ap (λ (es : List E). slice_get es i) (sym before) ∙ read in
      let it : f cell ≡ get_or (map f cells) (h.first + j) (f cell) = sym (get_or-map f cells (h.first + j) cell ∙ ap f (sym here)) in
      let written = row_set itself with_attrs attrs seen (λ (x : A). ⊤) heads (map f cells) at i j h (f cell) (g to) e a (flat_mapped Within f heads cells at flat) is stands this it in
      let all : map g (set cells (h.first + j) to) ≡ set (map f cells) (h.first + j) (g to) = maps_but f g cells (h.first + j) to same in
      let entry : E = with_attrs h (set (attrs e) j (g to)) in
      (after ∙ ap (λ (xs : List A). map (row itself with_attrs xs) heads) all ∙ written.0 ∙ ap (λ (es : List E). set es i entry) (sym before), written.1, written.2)

-- ---- the entries of cells

abbrev value_of : Sides → Cell → Value
value_of s c = held_value s c.kind c.form c.payload

-- the value of another cell
value_stays : (old new : Sides) (cells : List Cell) (k l : ℕ) (cell d : Cell) → All (CellWithin old) cells → AreFew old cells → KeepsOthers (held_of cell) old new → k < length cells → cell ≡ get_or cells k cell → l < length cells → (l ≡ k → ⊥) → value_of new (get_or cells l d) ≡ value_of old (get_or cells l d)
value_stays old new cells k l cell d within few others lt here inside other =
    let c : Cell = get_or cells l d in
    others.value c.kind c.form c.payload (All-get_or (CellWithin old) cells l d inside within) (apart_from cells k l cell d few.apart lt inside other here)

attr_stays : (old new : Sides) (c : Cell) → value_of new c ≡ value_of old c → attr_of new c ≡ attr_of old c
attr_stays old new c same =
    let with_value : Value → Attr = λ value. record { name = c.name; form = c.form; value = value } in
    ap with_value same

abbrev attrs_of : Entry → List Attr
attrs_of e = e.attrs

-- the cell of the attribute j of the entry i
pub cell_there : (s : Sides) (heads : List Head) (cells : List Cell) (i j : ℕ) (h : Head) (e : Entry) → AreEntries s heads cells → h ≡ get_or heads i h → slice_get (entries_of s heads cells) i ≡ Some e → j < length e.attrs → h.first + j < length cells
cell_there s heads cells i j h e all is read lt =
    let there = cell_place (attr_of s) entry_with attrs_of (λ h xs. refl) (CellWithin s) heads cells (cell_count heads) i j h e all.flat is read lt in
    let below : j < h.count = there.1 in
    let within : h.first + h.count ≤ length cells = there.2 in
    omega arith

pub attr_there : (s : Sides) (heads : List Head) (cells : List Cell) (i j : ℕ) (h : Head) (cell : Cell) (e : Entry) → AreEntries s heads cells → h ≡ get_or heads i h → slice_get (entries_of s heads cells) i ≡ Some e → j < length e.attrs → cell ≡ get_or cells (h.first + j) cell → slice_get e.attrs j ≡ Some (attr_of s cell)
attr_there s heads cells i j h cell e all is read lt here =
    attr_stands (attr_of s) entry_with attrs_of (λ h xs. refl) (CellWithin s) heads cells (cell_count heads) i j h cell e all.flat is read lt here

pub entries_over : (old new : Sides) (heads : List Head) (cells : List Cell) (i j : ℕ) (h : Head) (cell : Cell) (kind : Kind) (payload : ℕ) (e : Entry) (a : Attr) → AreEntries old heads cells → KeepsOthers (held_of cell) old new → h ≡ get_or heads i h → slice_get (entries_of old heads cells) i ≡ Some e → slice_get e.attrs j ≡ Some a → cell ≡ get_or cells (h.first + j) cell
    → entries_of new heads (set cells (h.first + j) (record cell { kind = kind; payload = payload })) ≡ set (entries_of old heads cells) i (record e { attrs = set e.attrs j (record a { value = held_value new kind cell.form payload }) })
entries_over old new heads cells i j h cell kind payload e a all others is read this here =
    let to : Cell = record cell { kind = kind; payload = payload } in
    let lt : h.first + j < length cells = cell_there old heads cells i j h e all is read (slice_get_within e.attrs j a this) in
    let same : (l : ℕ) (d : Cell) → l < length cells → (l ≡ h.first + j → ⊥) → attr_of new (get_or cells l d) ≡ attr_of old (get_or cells l d) = λ l d inside other. attr_stays old new (get_or cells l d) (value_stays old new cells (h.first + j) l cell d all.flat.within all.columns others lt here inside other) in
    let written = row_over (attr_of old) (attr_of new) entry_with attrs_of (λ h xs. refl) (CellWithin old) heads cells (cell_count heads) i j h cell to e a all.flat is read this here same in
    let attr : attr_of new to ≡ record a { value = held_value new kind cell.form payload } = ap (λ (x : Attr). record x { value = held_value new kind cell.form payload }) written.2 in
    let entry : entry_with h (set e.attrs j (attr_of new to)) ≡ record e { attrs = set e.attrs j (record a { value = held_value new kind cell.form payload }) } = ap₂ (λ (x : Entry) (y : Attr). record x { attrs = set e.attrs j y }) written.1 attr in
    written.0 ∙ ap (set (entries_of old heads cells) i) entry
