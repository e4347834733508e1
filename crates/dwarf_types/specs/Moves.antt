-- Whether an entry of an analysis has an address, and whether that moved to the linked program.
use Rattle.std.specs.Prelude.{ℕ, ◌==◌, ◌||◌, ◌&&◌, not, Bool, false, List, [], ◌++◌, length, slice_get, Option, Some, None, is_some, if◌then◌else◌}
use Rattle.std.specs.Option.{option_and_then, option_map, option_map_or, option_to_list}
use Rattle.std.specs.List.{find, filter_map, flat_map, list_any, list_all}
use Rattle.ds_base.specs.DwarfNumbers.{DW_AT_call_return_pc, DW_AT_high_pc, DW_AT_location, DW_AT_low_pc, DW_AT_ranges, DW_TAG_GNU_call_site}
use Rattle.dwarf_types.specs.declared.address.Place.{Place}
use Rattle.dwarf_types.specs.declared.address.Span.{Span}
use Rattle.dwarf_types.specs.declared.entry.Attr.{Attr}
use Rattle.dwarf_types.specs.declared.entry.Entry.{Entry}
use Rattle.dwarf_types.specs.declared.expr.Op.{Op}
use Rattle.dwarf_types.specs.declared.value.Value.{Value}
use Rattle.dwarf_types.specs.declared.value.Value.TheVariants as values

-- the value of the entry's first attribute of a name
abbrev pub value_of : ℕ → Entry → Option Value
value_of name e = option_map (λ a. a.value) (find (λ a. a.name == name) e.attrs)

-- ---- attributes of class address

abbrev pub place_in : Value → Option Place
place_in (values.Address place) = Some place
place_in _ = None

-- the attribute tells the first address behind something: an end, or where a call returns to
abbrev pub tells_end : ℕ → ℕ → Bool
tells_end tag name = name == DW_AT_high_pc || (name == DW_AT_call_return_pc || (name == DW_AT_low_pc && tag == DW_TAG_GNU_call_site))

-- the address to which an attribute of an entry of this tag moved
abbrev pub address_moved : ℕ → Attr → Option ℕ
address_moved tag a = option_and_then (λ place. if tells_end tag a.name then place.linked_end else place.linked) (place_in a.value)

-- ---- ranges

-- the pieces of a range list
abbrev pub spans_in : Value → List Span
spans_in (values.Ranges spans) = spans
spans_in _ = []

abbrev pub has_piece : Value → Bool
has_piece value = not (length (spans_in value) == 0)

-- ---- location expressions

-- the address fields of an operation, and those of the operations inside it
abbrev pub op_fields : Op → List Place
op_fields op = option_to_list op.address ++ filter_map (λ inner. inner.address) op.inner

abbrev pub operations_in : Value → Option (List Op)
operations_in (values.Expr ops) = Some ops
operations_in _ = None

-- the operations of an attribute that is a location expression
abbrev pub location_in : Attr → Option (List Op)
location_in a = if a.name == DW_AT_location then operations_in a.value else None

-- the address fields of an entry's location expression, which is the first that it has; a location list is none
abbrev pub location_fields : Entry → List Place
location_fields e = option_map_or (flat_map op_fields) (slice_get (filter_map location_in e.attrs) 0) []

abbrev pub has_location : Entry → Bool
has_location e = not (length (location_fields e) == 0)

-- it has such fields, and all of them moved
abbrev pub location_moves : Entry → Bool
location_moves e = has_location e && list_all (λ place. is_some place.linked) (location_fields e)

-- ---- entries

-- an attribute of class address, a ranges attribute of whatever form, or a location expression with an address field
abbrev pub has_address : Entry → Bool
has_address e = list_any (λ a. is_some (place_in a.value)) e.attrs || (is_some (value_of DW_AT_ranges e) || has_location e)

-- one of these moved
abbrev pub moves : Entry → Bool
moves e = list_any (λ a. is_some (address_moved e.tag a)) e.attrs || (option_map_or has_piece (value_of DW_AT_ranges e) false || location_moves e)
