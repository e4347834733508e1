-- The kinds of range list entries (DWARF 5, section 7.25, table 7.30) and of location list entries (section 7.7.3, table 7.10).
use Rattle.std.specs.Prelude.{ℕ, ◌==◌, Option, Some, None, if◌then◌else◌}
use Rattle.ds_base.specs.DwarfNumbers.{DW_LLE_base_address, DW_LLE_base_addressx, DW_LLE_default_location, DW_LLE_end_of_list, DW_LLE_offset_pair, DW_LLE_start_end, DW_LLE_start_length, DW_LLE_startx_endx, DW_LLE_startx_length, DW_RLE_base_address, DW_RLE_base_addressx, DW_RLE_end_of_list, DW_RLE_offset_pair, DW_RLE_start_end, DW_RLE_start_length, DW_RLE_startx_endx, DW_RLE_startx_length}
use Rattle.list_items.specs.declared.context.ListForm.{ListForm}
use Rattle.list_items.specs.declared.context.ListForm.TheVariants as forms
use Rattle.list_items.specs.declared.kinds.EntryKind.{EntryKind}
use Rattle.list_items.specs.declared.kinds.EntryKind.TheVariants.{EndOfList, BaseAddressx, StartxEndx, StartxLength, OffsetPair, DefaultLocation, BaseAddress, StartEnd, StartLength}

unfoldable pub range_kind : ℕ → Option EntryKind
range_kind code =
    if code == DW_RLE_end_of_list then Some EndOfList
    else if code == DW_RLE_base_addressx then Some BaseAddressx
    else if code == DW_RLE_startx_endx then Some StartxEndx
    else if code == DW_RLE_startx_length then Some StartxLength
    else if code == DW_RLE_offset_pair then Some OffsetPair
    else if code == DW_RLE_base_address then Some BaseAddress
    else if code == DW_RLE_start_end then Some StartEnd
    else if code == DW_RLE_start_length then Some StartLength
    else None

unfoldable pub location_kind : ℕ → Option EntryKind
location_kind code =
    if code == DW_LLE_end_of_list then Some EndOfList
    else if code == DW_LLE_base_addressx then Some BaseAddressx
    else if code == DW_LLE_startx_endx then Some StartxEndx
    else if code == DW_LLE_startx_length then Some StartxLength
    else if code == DW_LLE_offset_pair then Some OffsetPair
    else if code == DW_LLE_default_location then Some DefaultLocation
    else if code == DW_LLE_base_address then Some BaseAddress
    else if code == DW_LLE_start_end then Some StartEnd
    else if code == DW_LLE_start_length then Some StartLength
    else None

-- the kind of an entry by its code; words have none
abbrev pub kind_in : ListForm → ℕ → Option EntryKind
kind_in forms.Words code = None
kind_in forms.RangeEntries code = range_kind code
kind_in forms.LocationEntries code = location_kind code
