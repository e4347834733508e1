-- The table of forms (DWARF 4, section 7.5.4, figure 21; DWARF 5, section 7.5.6, table 7.6).
use Rattle.std.specs.Prelude.{ℕ, ◌==◌, ◌||◌, Option, Some, None, if◌then◌else◌}
use Rattle.ds_base.specs.DwarfNumbers.{DW_FORM_addr, DW_FORM_addrx, DW_FORM_addrx1, DW_FORM_addrx2, DW_FORM_addrx3, DW_FORM_addrx4, DW_FORM_block, DW_FORM_block1, DW_FORM_block2, DW_FORM_block4, DW_FORM_data1, DW_FORM_data2, DW_FORM_data4, DW_FORM_data8, DW_FORM_data16, DW_FORM_exprloc, DW_FORM_flag, DW_FORM_flag_present, DW_FORM_implicit_const, DW_FORM_indirect, DW_FORM_line_strp, DW_FORM_loclistx, DW_FORM_ref_addr, DW_FORM_ref_sig8, DW_FORM_ref_sup4, DW_FORM_ref_sup8, DW_FORM_ref_udata, DW_FORM_ref1, DW_FORM_ref2, DW_FORM_ref4, DW_FORM_ref8, DW_FORM_rnglistx, DW_FORM_sdata, DW_FORM_sec_offset, DW_FORM_string, DW_FORM_strp, DW_FORM_strp_sup, DW_FORM_strx, DW_FORM_strx1, DW_FORM_strx2, DW_FORM_strx3, DW_FORM_strx4, DW_FORM_udata}
use Rattle.form_value.specs.declared.form.Coding.TheVariants.{One, Two, Three, Four, Eight, Leb}
use Rattle.form_value.specs.declared.form.FormClass.{FormClass}
use Rattle.form_value.specs.declared.form.FormClass.TheVariants.{Address, Text, StrText, LineStrText, Number, Signed, Present, Implicit, Wide, Block, Offset, Outside}
use Rattle.form_value.specs.declared.form.FormRow.{FormRow}

abbrev pub since_4 : FormClass → Option FormRow
since_4 class = Some (record { since = 4; class = class })

abbrev pub since_5 : FormClass → Option FormRow
since_5 class = Some (record { since = 5; class = class })

-- how values of a form are spelled, and since which version, if the standard has the form
unfoldable pub form_row : ℕ → Option FormRow
form_row form =
    if form == DW_FORM_addr then since_4 Address
    else if form == DW_FORM_string then since_4 Text
    else if form == DW_FORM_strp then since_4 StrText
    else if form == DW_FORM_line_strp then since_5 LineStrText
    else if form == DW_FORM_data1 || form == DW_FORM_flag then since_4 (Number One)
    else if form == DW_FORM_data2 then since_4 (Number Two)
    else if form == DW_FORM_data4 then since_4 (Number Four)
    else if form == DW_FORM_data8 then since_4 (Number Eight)
    else if form == DW_FORM_udata then since_4 (Number Leb)
    else if form == DW_FORM_sdata then since_4 Signed
    else if form == DW_FORM_flag_present then since_4 Present
    else if form == DW_FORM_implicit_const then since_5 Implicit
    else if form == DW_FORM_data16 then since_5 Wide
    else if form == DW_FORM_block1 then since_4 (Block One)
    else if form == DW_FORM_block2 then since_4 (Block Two)
    else if form == DW_FORM_block4 then since_4 (Block Four)
    else if form == DW_FORM_block || form == DW_FORM_exprloc then since_4 (Block Leb)
    else if form == DW_FORM_ref1 then since_4 (Offset One)
    else if form == DW_FORM_ref2 then since_4 (Offset Two)
    else if form == DW_FORM_ref4 || (form == DW_FORM_ref_addr || form == DW_FORM_sec_offset) then since_4 (Offset Four)
    else if form == DW_FORM_ref8 then since_4 (Offset Eight)
    else if form == DW_FORM_ref_udata then since_4 (Offset Leb)
    else if form == DW_FORM_addrx1 || form == DW_FORM_strx1 then since_5 (Offset One)
    else if form == DW_FORM_addrx2 || form == DW_FORM_strx2 then since_5 (Offset Two)
    else if form == DW_FORM_addrx3 || form == DW_FORM_strx3 then since_5 (Offset Three)
    else if form == DW_FORM_addrx4 || form == DW_FORM_strx4 then since_5 (Offset Four)
    else if form == DW_FORM_addrx || (form == DW_FORM_strx || (form == DW_FORM_loclistx || form == DW_FORM_rnglistx)) then since_5 (Offset Leb)
    else if form == DW_FORM_indirect || (form == DW_FORM_ref_sup4 || (form == DW_FORM_strp_sup || (form == DW_FORM_ref_sig8 || form == DW_FORM_ref_sup8))) then since_4 Outside
    else None
