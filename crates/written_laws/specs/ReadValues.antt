-- Attributes as they are read again that were written, and what has to be there for that.
use Rattle.std.specs.Prelude.{◌≡◌, ◌<◌, ◌≤◌, ◌+◌, ◌^◌, ℕ, pos, IsTrue, List, [], ◌∷◌, length, map, None, Some}
use Rattle.ds_base.specs.DwarfNumbers.{DW_AT_ranges, DW_AT_stmt_list, DW_FORM_exprloc}
use Rattle.ds_base.specs.Reading.{text_of}
use Rattle.dwarf_types.specs.declared.abbrev.Field.{Field}
use Rattle.dwarf_types.specs.declared.address.Addr.TheVariants.{Fixed}
use Rattle.dwarf_types.specs.declared.entry.RawAttr.{RawAttr}
use Rattle.dwarf_types.specs.declared.graph.OutAttr.{OutAttr}
use Rattle.dwarf_types.specs.declared.graph.OutValue.{OutValue}
use Rattle.dwarf_types.specs.declared.graph.OutValue.TheVariants as outs
use Rattle.dwarf_types.specs.declared.value.Value.{Value}
use Rattle.dwarf_types.specs.declared.value.Value.TheVariants as values
use Rattle.dwarf_types.specs.Expressions.{expression_bytes, expression_len}
use Rattle.dwarf_types.specs.Forms.{form_of}
use Rattle.dwarf_types.specs.Places.{ListPlaces, Places, behind_value, own_node, ref_place}
use Rattle.dwarf_types.specs.SectionBytes.{SectionBytes, location_bytes, range_bytes}
use Rattle.dwarf_types.specs.Spelled.{AreBytes}
use Rattle.dwarf_types.specs.Values.{value_bytes}
use Rattle.dwarf_types.specs.WellValues.{FitsBlock, FitsForm, has_locations}
use Rattle.unit_tree.specs.Spelling.{Origin}

-- what an abbreviation says of an attribute of the unit of a number
abbrev pub field_of : ℕ → OutAttr → Field
field_of u a = record { name = a.name; form = form_of u a.value; fixed = pos 0 }

abbrev pub fields_of : ℕ → List OutAttr → List Field
fields_of u attrs = map (field_of u) attrs

-- a value as it is read: an expression as bytes, a reference as the place in the section, a list or table as its place
abbrev pub raw_value : Places → ListPlaces → OutValue → Value
raw_value places next (outs.Address n) = values.Address (record { at = Fixed n; linked = None; linked_end = None })
raw_value places next (outs.Text text) = values.Text text
raw_value places next (outs.Number form bits) = values.Number form bits
raw_value places next (outs.Wide bytes) = values.Wide bytes
raw_value places next (outs.Block form bytes) = values.Block form bytes
raw_value places next (outs.Expr parts) = values.Block DW_FORM_exprloc (expression_bytes (own_node places) parts)
raw_value places next (outs.Ref target) = values.Ref (places.start target.unit + places.node target)
raw_value places next (outs.Ranges spans) = values.Offset next.ranges
raw_value places next (outs.Locations items) = values.Offset next.locations
raw_value places next outs.Lines = values.Offset places.lines

-- an attribute that stands at a place
abbrev pub raw_attr : Places → ListPlaces → ℕ → OutAttr → RawAttr
raw_attr places next place a = record { name = a.name; form = form_of places.unit a.value; end = place + length (value_bytes places next a.value); value = raw_value places next a.value }

abbrev pub raw_attrs : Places → ListPlaces → ℕ → List OutAttr → List RawAttr
raw_attrs places next place [] = []
raw_attrs places next place (a ∷ attrs) = raw_attr places next place a ∷ raw_attrs places (behind_value places.version next a.value) (place + length (value_bytes places next a.value)) attrs

-- the values of the unit count from where it begins
pub record IsOrigin (places : Places) (o : Origin) : Type 0 where
  pub place : o.place ≡ places.start places.unit
  pub version : o.version ≡ places.version
  pub old : 4 ≤ places.version

-- what a value names is there, and its place fits four bytes; what it is fits its form
abbrev pub IsThere : Places → SectionBytes → ListPlaces → ℕ → OutValue → Type 0
IsThere places sections next name (outs.Address n) = n < 2 ^ 64
IsThere places sections next name (outs.Text text) = (places.text text < 2 ^ 32) × (text_of sections.strings (places.text text) ≡ Some text)
IsThere places sections next name (outs.Number form bits) = FitsForm form bits
IsThere places sections next name (outs.Wide bytes) = (places.version ≡ 5) × (length bytes ≡ 16) × AreBytes bytes
IsThere places sections next name (outs.Block form bytes) = FitsBlock form (length bytes) × AreBytes bytes
IsThere places sections next name (outs.Expr parts) =
    (expression_len parts < 2 ^ 64) × (length (expression_bytes (own_node places) parts) ≡ expression_len parts) × AreBytes (expression_bytes (own_node places) parts)
IsThere places sections next name (outs.Ref target) = ref_place places target < 2 ^ 32
IsThere places sections next name (outs.Ranges spans) = (next.ranges < 2 ^ 32) × (name ≡ DW_AT_ranges) × (next.ranges < length (range_bytes sections places.version))
IsThere places sections next name (outs.Locations items) = (next.locations < 2 ^ 32) × IsTrue (has_locations name) × (next.locations < length (location_bytes sections places.version))
IsThere places sections next name outs.Lines = (places.lines < 2 ^ 32) × (name ≡ DW_AT_stmt_list) × (places.lines < length sections.line)

abbrev pub AreThere : Places → SectionBytes → ListPlaces → List OutAttr → Type 0
AreThere places sections next [] = Unit {0}
AreThere places sections next (a ∷ attrs) = IsThere places sections next a.name a.value × AreThere places sections (behind_value places.version next a.value) attrs
