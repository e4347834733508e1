-- What a number means that is a reference, a section offset or an index (DWARF 4, section 7.5.4; DWARF 5, section 7.5.5), by its form and its attribute.
use Rattle.std.specs.Prelude.{ℕ, ◌==◌, ◌||◌, Bool, if◌then◌else◌}
use Rattle.ds_base.specs.DwarfNumbers.{DW_FORM_ref1, DW_FORM_ref2, DW_FORM_ref4, DW_FORM_ref8, DW_FORM_ref_udata, DW_FORM_ref_addr, DW_FORM_sec_offset, DW_FORM_strx, DW_FORM_strx1, DW_FORM_strx2, DW_FORM_strx3, DW_FORM_strx4, DW_FORM_addrx, DW_FORM_addrx1, DW_FORM_addrx2, DW_FORM_addrx3, DW_FORM_addrx4, DW_FORM_rnglistx, DW_FORM_loclistx, DW_AT_stmt_list, DW_AT_ranges}
use Rattle.dwarf_types.specs.WellValues.{has_locations}
use Rattle.unit_tree.specs.declared.meaning.Meaning.{Meaning}
use Rattle.unit_tree.specs.declared.meaning.Meaning.TheVariants.{InUnit, InObject, LineTable, RangeList, LocationList, TextIndex, AddressIndex, RangeListIndex, LocationListIndex, Other}

-- what a section offset leads to
unfoldable pub table_of : ℕ → Meaning
table_of name =
    if name == DW_AT_stmt_list then LineTable
    else if name == DW_AT_ranges then RangeList
    else if has_locations name then LocationList
    else Other

-- the forms of indices into tables of string offsets, of addresses, and of lists
abbrev pub is_text_index : ℕ → Bool
is_text_index form = form == DW_FORM_strx || (form == DW_FORM_strx1 || (form == DW_FORM_strx2 || (form == DW_FORM_strx3 || form == DW_FORM_strx4)))

abbrev pub is_address_index : ℕ → Bool
is_address_index form = form == DW_FORM_addrx || (form == DW_FORM_addrx1 || (form == DW_FORM_addrx2 || (form == DW_FORM_addrx3 || form == DW_FORM_addrx4)))

abbrev pub is_list_index : ℕ → Bool
is_list_index form = form == DW_FORM_rnglistx || form == DW_FORM_loclistx

-- the index of a list leads where an offset of the attribute does, whichever of the two forms it has
abbrev pub index_of : Meaning → Meaning
index_of RangeList = RangeListIndex
index_of LocationList = LocationListIndex
index_of _ = Other

-- references of one unit count from the unit's first byte, the others and section offsets from the section's
unfoldable pub meaning_of : ℕ → ℕ → Meaning
meaning_of form name =
    if form == DW_FORM_ref1 || (form == DW_FORM_ref2 || (form == DW_FORM_ref4 || (form == DW_FORM_ref8 || form == DW_FORM_ref_udata))) then InUnit
    else if form == DW_FORM_ref_addr then InObject
    else if form == DW_FORM_sec_offset then table_of name
    else if is_text_index form then TextIndex
    else if is_address_index form then AddressIndex
    else if is_list_index form then index_of (table_of name)
    else Other
