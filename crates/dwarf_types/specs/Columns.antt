-- What heads and cells stand for.
use Rattle.std.specs.Prelude.{ℕ, ◌≡◌, ◌+◌, ◌*◌, ◌^◌, ◌≤◌, ◌==◌, List, [], ◌∷◌, All, length, map, drop, slice_range, Option, None, Some, if◌then◌else◌}
use Rattle.std.specs.List.{AllPairs, sum_by, zip}
use Rattle.dwarf_types.specs.declared.abbrev.TheConstants.{MOST_FIELDS}
use Rattle.dwarf_types.specs.declared.columns.Cell.{Cell}
use Rattle.dwarf_types.specs.declared.columns.Head.{Head}
use Rattle.dwarf_types.specs.declared.columns.TheConstants.{NO_PARENT}
use Rattle.dwarf_types.specs.declared.entry.Attr.{Attr}
use Rattle.dwarf_types.specs.declared.entry.Entry.{Entry}
use Rattle.dwarf_types.specs.declared.entry.RawAttr.{RawAttr}
use Rattle.dwarf_types.specs.declared.entry.RawEntry.{RawEntry}
use Rattle.dwarf_types.specs.declared.sides.Held.{Held}
use Rattle.dwarf_types.specs.declared.sides.Kind.TheVariants as kinds
use Rattle.dwarf_types.specs.declared.sides.Sides.{Sides}
use Rattle.dwarf_types.specs.Built.{Built}
use Rattle.dwarf_types.specs.Cells.{IsWithin, held_value, own_item, own_items, read_items}

-- ---- attributes

abbrev pub attr_of : Sides → Cell → Attr
attr_of s c = record { name = c.name; form = c.form; value = held_value s c.kind c.form c.payload }

-- as it is read: of a cell and the place behind its value
abbrev pub raw_attr_of : Sides → Cell × ℕ → RawAttr
raw_attr_of s c = record { name = c.0.name; form = c.0.form; end = c.1; value = held_value s c.0.kind c.0.form c.0.payload }

-- a cell's payload lies in its column
abbrev pub CellWithin : Sides → Cell → Type 0
CellWithin s c = IsWithin s c.kind c.payload

-- ---- entries

abbrev pub parent_of : ℕ → Option ℕ
parent_of n = if n == NO_PARENT then None else Some n

abbrev pub cells_of : {X : Type 0} → List X → Head → List X
cells_of cells h = slice_range cells h.first (h.first + h.count)

abbrev pub entry_with : Head → List Attr → Entry
entry_with h attrs = record { parent = parent_of h.parent; unit = h.unit; place = h.place; tag = h.tag; attrs = attrs }

abbrev pub raw_entry_with : Head → List RawAttr → RawEntry
raw_entry_with h attrs = record { parent = parent_of h.parent; unit = h.unit; place = h.place; tag = h.tag; attrs = attrs }

-- the entry of a head: what its cells stand for
abbrev pub row : {X A E : Type 0} → (X → A) → (Head → List A → E) → List X → Head → E
row f with_attrs cells h = with_attrs h (map f (cells_of cells h))

abbrev pub entries_of : Sides → List Head → List Cell → List Entry
entries_of s heads cells = map (row (attr_of s) entry_with cells) heads

abbrev pub raw_entries_of : Sides → List Head → List Cell → List ℕ → List RawEntry
raw_entries_of s heads cells ends = map (row (raw_attr_of s) raw_entry_with (zip cells ends)) heads

-- the entries of the heads, and the attributes of the cells from a place on
abbrev pub built_of : Sides → List Head → List Cell → List ℕ → ℕ → Built
built_of s heads cells ends open_from = record { entries = raw_entries_of s heads cells ends; attrs = map (raw_attr_of s) (drop open_from (zip cells ends)) }

-- ---- heads and their cells

-- the cells of the heads follow one another, from one place up to another
abbrev pub Follow : ℕ → List Head → ℕ → Type 0
Follow at [] end = at ≡ end
Follow at (h ∷ heads) end = (at ≡ h.first) × Follow (h.first + h.count) heads end

-- how many cells they have
abbrev pub cell_count : List Head → ℕ
cell_count heads = sum_by (λ h. h.count) heads

-- the heads have the cells before a place, and each cell lies in its column
pub record IsFlat {X : Type 0} (Within : X → Type 0) (heads : List Head) (cells : List X) (open_from : ℕ) : Type 0 where
  pub follow : Follow 0 heads open_from
  pub few : open_from ≤ length cells
  pub within : All Within cells

-- the same of cells as they are read: each has the place behind its value
pub record IsRaw (s : Sides) (heads : List Head) (cells : List Cell) (ends : List ℕ) (open_from : ℕ) : Type 0 where
  pub flat : IsFlat (CellWithin s) heads cells open_from
  pub beside : length ends ≡ length cells

-- ---- cells and the columns beside them

-- what a cell holds of its value
abbrev pub held_of : Cell → Held
held_of c = record { kind = c.kind; payload = c.payload }

-- no two cells have the same address
abbrev pub Apart : Cell → Cell → Type 0
Apart c d = c.kind ≡ kinds.Address → d.kind ≡ kinds.Address → c.payload ≡ d.payload → ⊥

-- the columns have no more items than there are cells, so 32 bits hold their places
pub record AreFew (s : Sides) (cells : List Cell) : Type 0 where
  pub most : length cells ≤ 2 ^ 32
  pub read : read_items s ≤ length cells
  pub own : own_items s ≤ sum_by (λ c. own_item c.kind) cells
  pub apart : AllPairs Apart cells

-- ---- what is held of entries

pub record AreEntries (s : Sides) (heads : List Head) (cells : List Cell) : Type 0 where
  pub flat : IsFlat (CellWithin s) heads cells (cell_count heads)
  pub columns : AreFew s cells

-- as they are put: each head has few cells, so 32 bits hold their places
pub record IsBuilt (s : Sides) (heads : List Head) (cells : List Cell) (ends : List ℕ) (open_from : ℕ) : Type 0 where
  pub raw : IsRaw s heads cells ends open_from
  pub few : open_from ≤ MOST_FIELDS * length heads
  pub columns : AreFew s cells
