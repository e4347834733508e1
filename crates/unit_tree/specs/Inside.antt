-- What the values of every object keep to that was read: their bytes stand before their ends, a reference leads to the first byte of an entry,
-- an offset to a table or a list is inside its section, and the index of an address leads to one.
use Rattle.std.specs.Prelude.{◌≡◌, ◌<◌, ◌≤◌, ◌==◌, ℕ, Bool, true, false, List, length, slice_get, Some, None, IsSome}
use Rattle.std.specs.List.{All, find}
use Rattle.ds_base.specs.DwarfNumbers.{DW_AT_stmt_list, DW_FORM_sec_offset}
use Rattle.dwarf_types.specs.declared.entry.InUnit.{InUnit as AUnit}
use Rattle.dwarf_types.specs.declared.entry.RawAttr.{RawAttr}
use Rattle.dwarf_types.specs.declared.entry.RawEntry.{RawEntry}
use Rattle.dwarf_types.specs.declared.entry.RawUnits.{RawUnits}
use Rattle.dwarf_types.specs.declared.value.Value.{Value}
use Rattle.dwarf_types.specs.declared.value.Value.TheVariants as values
use Rattle.dwarf_types.specs.SectionBytes.{SectionBytes, location_bytes, range_bytes}
use Rattle.index_tables.specs.declared.bases.Bases.{Bases}
use Rattle.index_tables.specs.Bases.{bases_in}
use Rattle.index_tables.specs.Tables.{address_place}
use Rattle.unit_tree.specs.declared.meaning.Meaning.{Meaning}
use Rattle.unit_tree.specs.declared.meaning.Meaning.TheVariants.{RangeList, LocationList}
use Rattle.unit_tree.specs.Meaning.{is_address_index, table_of}
use Rattle.unit_tree.specs.Spelling.{begins_at}

-- an offset to a list, by what its attribute names, in a unit of a version
abbrev pub IsListInside : SectionBytes → ℕ → Meaning → ℕ → Type 0
IsListInside sections version RangeList n = n < length (range_bytes sections version)
IsListInside sections version LocationList n = n < length (location_bytes sections version)
IsListInside sections version _ n = Unit {0}

-- an index of an address, or an offset
abbrev pub IsOffsetInside : SectionBytes → ℕ → Bases → Bool → Meaning → ℕ → Type 0
IsOffsetInside sections version bases true meaning n = IsSome (address_place sections bases.addresses n)
IsOffsetInside sections version bases false meaning n = IsListInside sections version meaning n

-- the value of an attribute in a unit of a version and with bases, with all entries of the object
abbrev pub IsValueInside : SectionBytes → ℕ → Bases → List RawEntry → RawAttr → Value → Type 0
IsValueInside sections version bases all a (values.Address place) = 8 ≤ a.end
IsValueInside sections version bases all a (values.Block form bytes) = length bytes ≤ a.end
IsValueInside sections version bases all a (values.Ref place) = begins_at all None place ≡ true
IsValueInside sections version bases all a (values.Offset n) = IsOffsetInside sections version bases (is_address_index a.form) (table_of a.name) n
IsValueInside sections version bases all a value = Unit {0}

abbrev pub IsEntryInside : SectionBytes → ℕ → Bases → List RawEntry → RawEntry → Type 0
IsEntryInside sections version bases all e = All (λ a. IsValueInside sections version bases all a a.value) e.attrs

-- an entry, by the version of its unit and the bases in the root of that
pub record LiesInside (sections : SectionBytes) (raw : RawUnits) (e : RawEntry) : Type 0 where
  pub unit : AUnit
  pub its_unit : slice_get raw.units e.unit ≡ Some unit
  pub root : RawEntry
  pub its_root : slice_get raw.entries unit.first ≡ Some root
  pub values : IsEntryInside sections unit.version (bases_in root.attrs) raw.entries e

-- the line table that the first stmt_list of a root names, where that is a section offset
abbrev pub IsRootInside : SectionBytes → RawEntry → Type 0
IsRootInside sections e = (a : RawAttr) (n : ℕ) → e.parent ≡ None → find (λ a. a.name == DW_AT_stmt_list) e.attrs ≡ Some a → a.form ≡ DW_FORM_sec_offset → a.value ≡ values.Offset n → n < length sections.line

pub record AreInside (sections : SectionBytes) (raw : RawUnits) : Type 0 where
  pub values : All (LiesInside sections raw) raw.entries
  pub lines : All (IsRootInside sections) raw.entries
