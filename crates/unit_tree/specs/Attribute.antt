-- The attributes of an entry (DWARF 4, section 7.5.3; DWARF 5, section 7.5.3): its values in the order of its declaration, with the references among them.
use Rattle.std.specs.Prelude.{ℕ, ◌+◌, ◌-◌, ◌^◌, ◌==◌, ◌&&◌, Bool, true, false, not, List, [], ◌∷◌, ◌++◌, length, min, Option, Some, None, Result, Ok, nat_lt, if◌then◌else◌}
use Rattle.std.specs.List.{list_any}
use Rattle.std.specs.Option.{option_map, option_map_or, option_to_list}
use Rattle.ds_base.specs.DwarfNumbers.{DW_AT_stmt_list}
use Rattle.ds_base.specs.declared.fault.Fault.{Fault}
use Rattle.ds_base.specs.declared.fault.Kind.TheVariants.{BadIndex, BadOffset, BadOutput}
use Rattle.ds_base.specs.Spot.{Spot, fault_at}
use Rattle.ds_base.specs.Reading.{◌>>=◌, refuse_if, or_fault, text_of}
use Rattle.dwarf_types.specs.declared.abbrev.Field.{Field}
use Rattle.dwarf_types.specs.declared.entry.RawAttr.{RawAttr}
use Rattle.dwarf_types.specs.SectionBytes.{SectionBytes, location_bytes, range_bytes}
use Rattle.dwarf_types.specs.declared.value.Value.{Value}
use Rattle.dwarf_types.specs.declared.value.Value.TheVariants as values
use Rattle.form_value.specs.Reading.{value_at}
use Rattle.index_tables.specs.declared.bases.Bases.{Bases}
use Rattle.index_tables.specs.Tables.{text_place, address_place, list_place}
use Rattle.unit_tree.specs.declared.attribute.UnitContext.{UnitContext}
use Rattle.unit_tree.specs.declared.meaning.Meaning.{Meaning}
use Rattle.unit_tree.specs.declared.meaning.Meaning.TheVariants.{InUnit, InObject, LineTable, RangeList, LocationList, TextIndex, AddressIndex, RangeListIndex, LocationListIndex, Other}
use Rattle.unit_tree.specs.declared.profile.Profile.{Profile}
use Rattle.unit_tree.specs.declared.profile.Profile.TheVariants.{Input, Output}
use Rattle.unit_tree.specs.declared.reference.Reference.{Reference}
use Rattle.unit_tree.specs.Meaning.{meaning_of}

-- The number of a reference, an offset or an index.
abbrev pub number_in : Value → Option ℕ
number_in (values.Offset n) = Some n
number_in _ = None

-- The place to which a reference leads. One past 32 bits is cut to the last place of 32 bits, where no entry begins: a section has fewer bytes.
abbrev pub led_to : ℕ → ℕ
led_to place = min place (2 ^ 32 - 1)

abbrev pub has_attr : ℕ → List RawAttr → Bool
has_attr name attrs = list_any (λ a. a.name == name) attrs

-- the unit's line table is named by the first such attribute of its root
abbrev pub names_lines : Bool → List RawAttr → Bool
names_lines root before = root && not (has_attr DW_AT_stmt_list before)

-- an offset to a table or list of a section
abbrev pub offset_in : List ℕ → ℕ → Spot → Result (Value × Option Reference) Fault
offset_in section n s = refuse_if (not (nat_lt n (length section))) (fault_at s BadOffset) >>= λ u. Ok (values.Offset n, None)

-- the bytes are those of an image that was written
abbrev pub is_output : Profile → Bool
is_output Input = false
is_output Output = true

-- An offset that leads to no table or list that is read. An object may have one; in an image that was written it is a fault.
abbrev pub offset_nowhere : Profile → ℕ → Spot → Result (Value × Option Reference) Fault
offset_nowhere profile n s = refuse_if (is_output profile) (fault_at s BadOutput) >>= λ u. Ok (values.Offset n, None)

-- a reference to a place, from a value that stands here, to an entry of a unit or of any
abbrev pub reference_to : ℕ → Option ℕ → Spot → Value × Option Reference
reference_to place unit s = (values.Ref (led_to place), Some (record { place = s.place; target = led_to place; unit = unit }))

-- What an index means, which stands here, by the bases of the unit (DWARF 5, sections 7.26 to 7.29). Where these are not known yet no index is tried.

-- a text of __debug_str
unfoldable pub text_named : SectionBytes → Option Bases → ℕ → Spot → Result (Value × Option Reference) Fault
text_named sections None n s = Ok (values.Offset n, None)
text_named sections (Some bases) n s = do
  place ← or_fault (text_place sections bases.texts n) (fault_at s BadIndex)
  text ← or_fault (text_of sections.strings place) (fault_at s BadOffset)
  Ok (values.Text text, None)

-- an address, which stays the index
unfoldable pub address_named : SectionBytes → Option Bases → ℕ → Spot → Result (Value × Option Reference) Fault
address_named sections None n s = Ok (values.Offset n, None)
address_named sections (Some bases) n s = do
  _ ← or_fault (address_place sections bases.addresses n) (fault_at s BadIndex)
  Ok (values.Offset n, None)

-- a list of a section, given by its place there
unfoldable pub list_named : List ℕ → Option ℕ → ℕ → Spot → Result (Value × Option Reference) Fault
list_named section None n s = Ok (values.Offset n, None)
list_named section (Some base) n s = do
  place ← or_fault (list_place section base n) (fault_at s BadIndex)
  offset_in section place s

-- what a number means, which stands here
unfoldable pub meant_at : SectionBytes → UnitContext → Bool → Meaning → ℕ → Spot → Result (Value × Option Reference) Fault
meant_at sections context lines InUnit n s = Ok (reference_to (context.place + n) (Some context.unit) s)
meant_at sections context lines InObject n s = Ok (reference_to n None s)
meant_at sections context lines LineTable n s = if lines then offset_in sections.line n s else offset_nowhere context.profile n s
meant_at sections context lines RangeList n s = offset_in (range_bytes sections context.version) n s
meant_at sections context lines LocationList n s = offset_in (location_bytes sections context.version) n s
meant_at sections context lines TextIndex n s = text_named sections context.bases n s
meant_at sections context lines AddressIndex n s = address_named sections context.bases n s
meant_at sections context lines RangeListIndex n s = list_named sections.rnglists (option_map (λ bases. bases.ranges) context.bases) n s
meant_at sections context lines LocationListIndex n s = list_named sections.loclists (option_map (λ bases. bases.locations) context.bases) n s
meant_at sections context lines Other n s = offset_nowhere context.profile n s

-- what a value means, which stands here as an attribute behind others of a root or another entry
unfoldable pub value_meant_at : SectionBytes → UnitContext → Bool → Field → List RawAttr → Value → Spot → Result (Value × Option Reference) Fault
value_meant_at sections context root field before value s =
    option_map_or (λ n. meant_at sections context (names_lines root before) (meaning_of field.form field.name) n s) (number_in value) (Ok (value, None))

-- the next attribute, behind others, and the reference that it is
unfoldable pub attr_at : SectionBytes → UnitContext → Bool → Field → List RawAttr → Spot → Result ((RawAttr × Option Reference) × Spot) Fault
attr_at sections context root field before s = do
  read ← value_at field context.version sections s
  meant ← value_meant_at sections context root field before read.0 s
  Ok ((record { name = field.name; form = field.form; end = read.1.place; value = meant.0 }, meant.1), read.1)

-- attributes and references that were read
abbrev pub Described : Type 0
Described = List RawAttr × List Reference

-- the attributes of some fields, behind those before
unfoldable pub attrs_at : SectionBytes → UnitContext → Bool → List Field → Described → Spot → Result (Described × Spot) Fault
attrs_at sections context root [] before s = Ok (before, s)
attrs_at sections context root (field ∷ fields) before s = do
  attr ← attr_at sections context root field before.0 s
  attrs_at sections context root fields (before.0 ++ attr.0.0 ∷ [], before.1 ++ option_to_list attr.0.1) attr.1
