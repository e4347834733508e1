-- The code of an object's subprograms in the linked program (DWARF 4, section 2.17).
use Rattle.std.specs.Prelude.{ℕ, ◌+◌, ◌^◌, ◌==◌, List, [], ◌++◌, map, Option, Some, None, nat_lt, nat_le, if◌then◌else◌}
use Rattle.std.specs.List.{enumerate_from, flat_map}
use Rattle.std.specs.Option.{option_and_then, option_map_or}
use Rattle.ds_base.specs.DwarfNumbers.{DW_AT_high_pc, DW_AT_low_pc, DW_AT_ranges, DW_FORM_sdata, DW_TAG_subprogram}
use Rattle.dwarf_types.specs.declared.address.Span.{Span}
use Rattle.dwarf_types.specs.declared.analysis.CodeRange.{CodeRange}
use Rattle.dwarf_types.specs.declared.entry.Entry.{Entry}
use Rattle.dwarf_types.specs.declared.value.Value.{Value}
use Rattle.dwarf_types.specs.declared.value.Value.TheVariants as values
use Rattle.dwarf_types.specs.Moves.{place_in, spans_in, value_of}
use Rattle.addr_map.specs.declared.map.AddrMap.{AddrMap}
use Rattle.addr_map.specs.Moved.{pieces}
use Rattle.dwarf_types.specs.Forms.{is_flag}
use Rattle.line_read.specs.Rising.{placed}

-- an address of the object that a value is
abbrev pub object_address : Value → Option ℕ
object_address value = option_and_then (λ place. placed place.at) (place_in value)

-- a constant that is no length below zero
abbrev pub length_of : ℕ → ℕ → Option ℕ
length_of form bits =
    if is_flag form then None
    else if form == DW_FORM_sdata then (if nat_lt bits (2 ^ 63) then Some bits else None)
    else Some bits

-- where code ends that begins at an address: "the value may be an address, or a constant that is the length"
abbrev pub end_from : ℕ → Value → Option ℕ
end_from low (values.Number form bits) = option_and_then (λ len. if nat_lt (low + len) (2 ^ 64) then Some (low + len) else None) (length_of form bits)
end_from low value = object_address value

-- the pieces from an address to an end, which is not below it
abbrev pub pieces_to : AddrMap → ℕ → ℕ → List Span
pieces_to map low high = if nat_le low high then pieces map low high else []

-- the pieces from an entry's low_pc to its high_pc
abbrev pub low_high_pieces : AddrMap → Entry → List Span
low_high_pieces map e =
    option_map_or (λ low. option_map_or (pieces_to map low) (option_and_then (end_from low) (value_of DW_AT_high_pc e)) [])
    (option_and_then object_address (value_of DW_AT_low_pc e)) []

-- the pieces of an entry's range list
abbrev pub ranges_pieces : Entry → List Span
ranges_pieces e = option_map_or spans_in (value_of DW_AT_ranges e) []

-- the pieces of a subprogram's code, by its number; other entries have none
abbrev pub code_ranges : AddrMap → ℕ × Entry → List CodeRange
code_ranges m e =
    if e.1.tag == DW_TAG_subprogram then map (λ span. record { entry = e.0; span = span }) (ranges_pieces e.1 ++ low_high_pieces m e.1) else []

-- those of all entries in order
abbrev pub code_of : AddrMap → List Entry → List CodeRange
code_of map entries = flat_map (code_ranges map) (enumerate_from 0 entries)
