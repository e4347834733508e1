-- Entries as they are read: where they begin, and of each value the place behind it.
use Rattle.std.specs.Prelude.{ℕ, List, [], ◌∷◌, drop, length, map, take}
use Rattle.std.specs.List.{sum_by, zip}
use Rattle.dwarf_types.specs.declared.entry.Attr.{Attr}
use Rattle.dwarf_types.specs.declared.entry.Entry.{Entry}
use Rattle.dwarf_types.specs.declared.entry.RawAttr.{RawAttr}
use Rattle.dwarf_types.specs.declared.entry.RawEntry.{RawEntry}

-- where each entry begins
abbrev pub places_of : List RawEntry → List ℕ
places_of entries = map (λ e. e.place) entries

-- ---- without the places behind values

abbrev pub attr_of : RawAttr → Attr
attr_of a = record { name = a.name; form = a.form; value = a.value }

abbrev pub entry_of : RawEntry → Entry
entry_of e = record { parent = e.parent; unit = e.unit; place = e.place; tag = e.tag; attrs = map attr_of e.attrs }

-- ---- with them

abbrev pub raw_attr : Attr × ℕ → RawAttr
raw_attr a = record { name = a.0.name; form = a.0.form; end = a.1; value = a.0.value }

abbrev pub raw_entry : Entry → List ℕ → RawEntry
raw_entry e ends = record { parent = e.parent; unit = e.unit; place = e.place; tag = e.tag; attrs = map raw_attr (zip e.attrs ends) }

-- how many attributes entries have
abbrev pub attr_count : List Entry → ℕ
attr_count entries = sum_by (λ e. length e.attrs) entries

-- the places are those of one entry after the other
abbrev pub raw_entries : List Entry → List ℕ → List RawEntry
raw_entries [] ends = []
raw_entries (e ∷ entries) ends = raw_entry e (take (length e.attrs) ends) ∷ raw_entries entries (drop (length e.attrs) ends)
