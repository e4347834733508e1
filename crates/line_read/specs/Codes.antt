-- The operations of line programs by their codes (DWARF 4, section 7.21, figures 37 and 38; DWARF 5, section 7.22, tables 7.25 and 7.26).
use Rattle.std.specs.Prelude.{ℕ, ◌==◌, nat_lt, Option, Some, None, if◌then◌else◌}
use Rattle.ds_base.specs.DwarfNumbers.{DW_LNS_copy, DW_LNS_advance_pc, DW_LNS_advance_line, DW_LNS_set_file, DW_LNS_set_column, DW_LNS_negate_stmt, DW_LNS_set_basic_block, DW_LNS_const_add_pc, DW_LNS_fixed_advance_pc, DW_LNS_set_prologue_end, DW_LNS_set_epilogue_begin, DW_LNS_set_isa, DW_LNE_end_sequence, DW_LNE_set_address, DW_LNE_define_file, DW_LNE_set_discriminator}
use Rattle.line_read.specs.declared.codes.StandardOp.{StandardOp}
use Rattle.line_read.specs.declared.codes.StandardOp.TheVariants as standard
use Rattle.line_read.specs.declared.codes.ExtendedOp.{ExtendedOp}
use Rattle.line_read.specs.declared.codes.ExtendedOp.TheVariants as extended

-- the standard operation of a code
unfoldable pub standard_of : ℕ → Option StandardOp
standard_of code =
    if code == DW_LNS_copy then Some standard.Copy
    else if code == DW_LNS_advance_pc then Some standard.AdvancePc
    else if code == DW_LNS_advance_line then Some standard.AdvanceLine
    else if code == DW_LNS_set_file then Some standard.SetFile
    else if code == DW_LNS_set_column then Some standard.SetColumn
    else if code == DW_LNS_negate_stmt then Some standard.NegateStmt
    else if code == DW_LNS_set_basic_block then Some standard.SetBasicBlock
    else if code == DW_LNS_const_add_pc then Some standard.ConstAddPc
    else if code == DW_LNS_fixed_advance_pc then Some standard.FixedAdvancePc
    else if code == DW_LNS_set_prologue_end then Some standard.SetPrologueEnd
    else if code == DW_LNS_set_epilogue_begin then Some standard.SetEpilogueBegin
    else if code == DW_LNS_set_isa then Some standard.SetIsa
    else None

-- the operation that defines a file, which version 5 does not have
abbrev pub file_definition_of : ℕ → Option ExtendedOp
file_definition_of version = if nat_lt version 5 then Some extended.DefineFile else None

-- the extended operation of a code in tables of a version
unfoldable pub extended_of : ℕ → ℕ → Option ExtendedOp
extended_of version code =
    if code == DW_LNE_end_sequence then Some extended.EndSequence
    else if code == DW_LNE_set_address then Some extended.SetAddress
    else if code == DW_LNE_define_file then file_definition_of version
    else if code == DW_LNE_set_discriminator then Some extended.SetDiscriminator
    else None
