-- The numbers of the standards, as tables of other tools have them (`Dwarf.def` and `MachO.h` of LLVM 19, `dwarf.h` of elfutils), and sizes of records added up from their fields.
use Rattle.std.proofs.Common.{◌≡◌, ℕ, List, [], ◌∷◌, ◌++◌, codes, length, map, replicate, refl}
use Rattle.ds_base.specs.DwarfNumbers as dw
use Rattle.ds_base.specs.MachONumbers as macho

-- DWARF 5, section 7.5.3, table 7.3: tags.
tags : (dw.DW_TAG_array_type ∷ dw.DW_TAG_class_type ∷ dw.DW_TAG_entry_point ∷ dw.DW_TAG_enumeration_type ∷ dw.DW_TAG_formal_parameter ∷ dw.DW_TAG_imported_declaration ∷ dw.DW_TAG_label ∷ dw.DW_TAG_lexical_block ∷ dw.DW_TAG_member ∷ dw.DW_TAG_pointer_type ∷ dw.DW_TAG_reference_type ∷ dw.DW_TAG_compile_unit ∷ dw.DW_TAG_string_type ∷ dw.DW_TAG_structure_type ∷ dw.DW_TAG_subroutine_type ∷ dw.DW_TAG_typedef ∷ dw.DW_TAG_union_type ∷ dw.DW_TAG_unspecified_parameters ∷ dw.DW_TAG_variant ∷ dw.DW_TAG_common_block ∷ dw.DW_TAG_common_inclusion ∷ dw.DW_TAG_inheritance ∷ dw.DW_TAG_inlined_subroutine ∷ dw.DW_TAG_module ∷ dw.DW_TAG_ptr_to_member_type ∷ dw.DW_TAG_set_type ∷ dw.DW_TAG_subrange_type ∷ dw.DW_TAG_with_stmt ∷ dw.DW_TAG_access_declaration ∷ dw.DW_TAG_base_type ∷ dw.DW_TAG_catch_block ∷ dw.DW_TAG_const_type ∷ dw.DW_TAG_constant ∷ dw.DW_TAG_enumerator ∷ dw.DW_TAG_file_type ∷ dw.DW_TAG_friend ∷ dw.DW_TAG_namelist ∷ dw.DW_TAG_namelist_item ∷ dw.DW_TAG_packed_type ∷ dw.DW_TAG_subprogram ∷ dw.DW_TAG_template_type_parameter ∷ dw.DW_TAG_template_value_parameter ∷ dw.DW_TAG_thrown_type ∷ dw.DW_TAG_try_block ∷ dw.DW_TAG_variant_part ∷ dw.DW_TAG_variable ∷ dw.DW_TAG_volatile_type ∷ dw.DW_TAG_dwarf_procedure ∷ dw.DW_TAG_restrict_type ∷ dw.DW_TAG_interface_type ∷ dw.DW_TAG_namespace ∷ dw.DW_TAG_imported_module ∷ dw.DW_TAG_unspecified_type ∷ dw.DW_TAG_partial_unit ∷ dw.DW_TAG_imported_unit ∷ dw.DW_TAG_condition ∷ dw.DW_TAG_shared_type ∷ dw.DW_TAG_type_unit ∷ dw.DW_TAG_rvalue_reference_type ∷ dw.DW_TAG_template_alias ∷ dw.DW_TAG_coarray_type ∷ dw.DW_TAG_generic_subrange ∷ dw.DW_TAG_dynamic_type ∷ dw.DW_TAG_atomic_type ∷ dw.DW_TAG_call_site ∷ dw.DW_TAG_call_site_parameter ∷ dw.DW_TAG_skeleton_unit ∷ dw.DW_TAG_immutable_type ∷ dw.DW_TAG_GNU_template_template_param ∷ dw.DW_TAG_GNU_template_parameter_pack ∷ dw.DW_TAG_GNU_call_site ∷ []) ≡ (0x1 ∷ 0x2 ∷ 0x3 ∷ 0x4 ∷ 0x5 ∷ 0x8 ∷ 0xa ∷ 0xb ∷ 0xd ∷ 0xf ∷ 0x10 ∷ 0x11 ∷ 0x12 ∷ 0x13 ∷ 0x15 ∷ 0x16 ∷ 0x17 ∷ 0x18 ∷ 0x19 ∷ 0x1a ∷ 0x1b ∷ 0x1c ∷ 0x1d ∷ 0x1e ∷ 0x1f ∷ 0x20 ∷ 0x21 ∷ 0x22 ∷ 0x23 ∷ 0x24 ∷ 0x25 ∷ 0x26 ∷ 0x27 ∷ 0x28 ∷ 0x29 ∷ 0x2a ∷ 0x2b ∷ 0x2c ∷ 0x2d ∷ 0x2e ∷ 0x2f ∷ 0x30 ∷ 0x31 ∷ 0x32 ∷ 0x33 ∷ 0x34 ∷ 0x35 ∷ 0x36 ∷ 0x37 ∷ 0x38 ∷ 0x39 ∷ 0x3a ∷ 0x3b ∷ 0x3c ∷ 0x3d ∷ 0x3f ∷ 0x40 ∷ 0x41 ∷ 0x42 ∷ 0x43 ∷ 0x44 ∷ 0x45 ∷ 0x46 ∷ 0x47 ∷ 0x48 ∷ 0x49 ∷ 0x4a ∷ 0x4b ∷ 0x4106 ∷ 0x4107 ∷ 0x4109 ∷ [])
tags = refl

-- DWARF 5, section 7.5.4, table 7.5: attributes.
attributes : (dw.DW_AT_sibling ∷ dw.DW_AT_location ∷ dw.DW_AT_name ∷ dw.DW_AT_ordering ∷ dw.DW_AT_byte_size ∷ dw.DW_AT_bit_offset ∷ dw.DW_AT_bit_size ∷ dw.DW_AT_stmt_list ∷ dw.DW_AT_low_pc ∷ dw.DW_AT_high_pc ∷ dw.DW_AT_language ∷ dw.DW_AT_discr ∷ dw.DW_AT_discr_value ∷ dw.DW_AT_visibility ∷ dw.DW_AT_import ∷ dw.DW_AT_string_length ∷ dw.DW_AT_common_reference ∷ dw.DW_AT_comp_dir ∷ dw.DW_AT_const_value ∷ dw.DW_AT_containing_type ∷ dw.DW_AT_default_value ∷ dw.DW_AT_inline ∷ dw.DW_AT_is_optional ∷ dw.DW_AT_lower_bound ∷ dw.DW_AT_producer ∷ dw.DW_AT_prototyped ∷ dw.DW_AT_return_addr ∷ dw.DW_AT_start_scope ∷ dw.DW_AT_bit_stride ∷ dw.DW_AT_upper_bound ∷ dw.DW_AT_abstract_origin ∷ dw.DW_AT_accessibility ∷ dw.DW_AT_address_class ∷ dw.DW_AT_artificial ∷ dw.DW_AT_base_types ∷ dw.DW_AT_calling_convention ∷ dw.DW_AT_count ∷ dw.DW_AT_data_member_location ∷ dw.DW_AT_decl_column ∷ dw.DW_AT_decl_file ∷ dw.DW_AT_decl_line ∷ dw.DW_AT_declaration ∷ dw.DW_AT_discr_list ∷ dw.DW_AT_encoding ∷ dw.DW_AT_external ∷ dw.DW_AT_frame_base ∷ dw.DW_AT_friend ∷ dw.DW_AT_identifier_case ∷ dw.DW_AT_macro_info ∷ dw.DW_AT_namelist_item ∷ dw.DW_AT_priority ∷ dw.DW_AT_segment ∷ dw.DW_AT_specification ∷ dw.DW_AT_static_link ∷ dw.DW_AT_type ∷ dw.DW_AT_use_location ∷ dw.DW_AT_variable_parameter ∷ dw.DW_AT_virtuality ∷ dw.DW_AT_vtable_elem_location ∷ dw.DW_AT_allocated ∷ dw.DW_AT_associated ∷ dw.DW_AT_data_location ∷ dw.DW_AT_byte_stride ∷ dw.DW_AT_entry_pc ∷ dw.DW_AT_use_UTF8 ∷ dw.DW_AT_extension ∷ dw.DW_AT_ranges ∷ dw.DW_AT_trampoline ∷ dw.DW_AT_call_column ∷ dw.DW_AT_call_file ∷ dw.DW_AT_call_line ∷ dw.DW_AT_description ∷ dw.DW_AT_binary_scale ∷ dw.DW_AT_decimal_scale ∷ dw.DW_AT_small ∷ dw.DW_AT_decimal_sign ∷ dw.DW_AT_digit_count ∷ dw.DW_AT_picture_string ∷ dw.DW_AT_mutable ∷ dw.DW_AT_threads_scaled ∷ dw.DW_AT_explicit ∷ dw.DW_AT_object_pointer ∷ dw.DW_AT_endianity ∷ dw.DW_AT_elemental ∷ dw.DW_AT_pure ∷ dw.DW_AT_recursive ∷ dw.DW_AT_signature ∷ dw.DW_AT_main_subprogram ∷ dw.DW_AT_data_bit_offset ∷ dw.DW_AT_const_expr ∷ dw.DW_AT_enum_class ∷ dw.DW_AT_linkage_name ∷ dw.DW_AT_string_length_bit_size ∷ dw.DW_AT_string_length_byte_size ∷ dw.DW_AT_rank ∷ dw.DW_AT_str_offsets_base ∷ dw.DW_AT_addr_base ∷ dw.DW_AT_rnglists_base ∷ dw.DW_AT_dwo_id ∷ dw.DW_AT_dwo_name ∷ dw.DW_AT_reference ∷ dw.DW_AT_rvalue_reference ∷ dw.DW_AT_macros ∷ dw.DW_AT_call_all_calls ∷ dw.DW_AT_call_all_source_calls ∷ dw.DW_AT_call_all_tail_calls ∷ dw.DW_AT_call_return_pc ∷ dw.DW_AT_call_value ∷ dw.DW_AT_call_origin ∷ dw.DW_AT_call_parameter ∷ dw.DW_AT_call_pc ∷ dw.DW_AT_call_tail_call ∷ dw.DW_AT_call_target ∷ dw.DW_AT_call_target_clobbered ∷ dw.DW_AT_call_data_location ∷ dw.DW_AT_call_data_value ∷ dw.DW_AT_noreturn ∷ dw.DW_AT_alignment ∷ dw.DW_AT_export_symbols ∷ dw.DW_AT_deleted ∷ dw.DW_AT_defaulted ∷ dw.DW_AT_loclists_base ∷ dw.DW_AT_GNU_dwo_name ∷ []) ≡ (0x1 ∷ 0x2 ∷ 0x3 ∷ 0x9 ∷ 0xb ∷ 0xc ∷ 0xd ∷ 0x10 ∷ 0x11 ∷ 0x12 ∷ 0x13 ∷ 0x15 ∷ 0x16 ∷ 0x17 ∷ 0x18 ∷ 0x19 ∷ 0x1a ∷ 0x1b ∷ 0x1c ∷ 0x1d ∷ 0x1e ∷ 0x20 ∷ 0x21 ∷ 0x22 ∷ 0x25 ∷ 0x27 ∷ 0x2a ∷ 0x2c ∷ 0x2e ∷ 0x2f ∷ 0x31 ∷ 0x32 ∷ 0x33 ∷ 0x34 ∷ 0x35 ∷ 0x36 ∷ 0x37 ∷ 0x38 ∷ 0x39 ∷ 0x3a ∷ 0x3b ∷ 0x3c ∷ 0x3d ∷ 0x3e ∷ 0x3f ∷ 0x40 ∷ 0x41 ∷ 0x42 ∷ 0x43 ∷ 0x44 ∷ 0x45 ∷ 0x46 ∷ 0x47 ∷ 0x48 ∷ 0x49 ∷ 0x4a ∷ 0x4b ∷ 0x4c ∷ 0x4d ∷ 0x4e ∷ 0x4f ∷ 0x50 ∷ 0x51 ∷ 0x52 ∷ 0x53 ∷ 0x54 ∷ 0x55 ∷ 0x56 ∷ 0x57 ∷ 0x58 ∷ 0x59 ∷ 0x5a ∷ 0x5b ∷ 0x5c ∷ 0x5d ∷ 0x5e ∷ 0x5f ∷ 0x60 ∷ 0x61 ∷ 0x62 ∷ 0x63 ∷ 0x64 ∷ 0x65 ∷ 0x66 ∷ 0x67 ∷ 0x68 ∷ 0x69 ∷ 0x6a ∷ 0x6b ∷ 0x6c ∷ 0x6d ∷ 0x6e ∷ 0x6f ∷ 0x70 ∷ 0x71 ∷ 0x72 ∷ 0x73 ∷ 0x74 ∷ 0x75 ∷ 0x76 ∷ 0x77 ∷ 0x78 ∷ 0x79 ∷ 0x7a ∷ 0x7b ∷ 0x7c ∷ 0x7d ∷ 0x7e ∷ 0x7f ∷ 0x80 ∷ 0x81 ∷ 0x82 ∷ 0x83 ∷ 0x84 ∷ 0x85 ∷ 0x86 ∷ 0x87 ∷ 0x88 ∷ 0x89 ∷ 0x8a ∷ 0x8b ∷ 0x8c ∷ 0x2130 ∷ [])
attributes = refl

-- DWARF 5, section 7.5.6, table 7.6: forms of attribute values.
forms : (dw.DW_FORM_addr ∷ dw.DW_FORM_block2 ∷ dw.DW_FORM_block4 ∷ dw.DW_FORM_data2 ∷ dw.DW_FORM_data4 ∷ dw.DW_FORM_data8 ∷ dw.DW_FORM_string ∷ dw.DW_FORM_block ∷ dw.DW_FORM_block1 ∷ dw.DW_FORM_data1 ∷ dw.DW_FORM_flag ∷ dw.DW_FORM_sdata ∷ dw.DW_FORM_strp ∷ dw.DW_FORM_udata ∷ dw.DW_FORM_ref_addr ∷ dw.DW_FORM_ref1 ∷ dw.DW_FORM_ref2 ∷ dw.DW_FORM_ref4 ∷ dw.DW_FORM_ref8 ∷ dw.DW_FORM_ref_udata ∷ dw.DW_FORM_indirect ∷ dw.DW_FORM_sec_offset ∷ dw.DW_FORM_exprloc ∷ dw.DW_FORM_flag_present ∷ dw.DW_FORM_ref_sig8 ∷ dw.DW_FORM_strx ∷ dw.DW_FORM_addrx ∷ dw.DW_FORM_ref_sup4 ∷ dw.DW_FORM_strp_sup ∷ dw.DW_FORM_data16 ∷ dw.DW_FORM_line_strp ∷ dw.DW_FORM_implicit_const ∷ dw.DW_FORM_loclistx ∷ dw.DW_FORM_rnglistx ∷ dw.DW_FORM_ref_sup8 ∷ dw.DW_FORM_strx1 ∷ dw.DW_FORM_strx2 ∷ dw.DW_FORM_strx3 ∷ dw.DW_FORM_strx4 ∷ dw.DW_FORM_addrx1 ∷ dw.DW_FORM_addrx2 ∷ dw.DW_FORM_addrx3 ∷ dw.DW_FORM_addrx4 ∷ []) ≡ (0x1 ∷ 0x3 ∷ 0x4 ∷ 0x5 ∷ 0x6 ∷ 0x7 ∷ 0x8 ∷ 0x9 ∷ 0xa ∷ 0xb ∷ 0xc ∷ 0xd ∷ 0xe ∷ 0xf ∷ 0x10 ∷ 0x11 ∷ 0x12 ∷ 0x13 ∷ 0x14 ∷ 0x15 ∷ 0x16 ∷ 0x17 ∷ 0x18 ∷ 0x19 ∷ 0x20 ∷ 0x1a ∷ 0x1b ∷ 0x1c ∷ 0x1d ∷ 0x1e ∷ 0x1f ∷ 0x21 ∷ 0x22 ∷ 0x23 ∷ 0x24 ∷ 0x25 ∷ 0x26 ∷ 0x27 ∷ 0x28 ∷ 0x29 ∷ 0x2a ∷ 0x2b ∷ 0x2c ∷ [])
forms = refl

-- DWARF 5, section 7.7.1, table 7.9: operations of expressions.
operations : (dw.DW_OP_addr ∷ dw.DW_OP_deref ∷ dw.DW_OP_const1u ∷ dw.DW_OP_const1s ∷ dw.DW_OP_const2u ∷ dw.DW_OP_const2s ∷ dw.DW_OP_const4u ∷ dw.DW_OP_const4s ∷ dw.DW_OP_const8u ∷ dw.DW_OP_const8s ∷ dw.DW_OP_constu ∷ dw.DW_OP_consts ∷ dw.DW_OP_dup ∷ dw.DW_OP_drop ∷ dw.DW_OP_over ∷ dw.DW_OP_pick ∷ dw.DW_OP_swap ∷ dw.DW_OP_rot ∷ dw.DW_OP_xderef ∷ dw.DW_OP_abs ∷ dw.DW_OP_and ∷ dw.DW_OP_div ∷ dw.DW_OP_minus ∷ dw.DW_OP_mod ∷ dw.DW_OP_mul ∷ dw.DW_OP_neg ∷ dw.DW_OP_not ∷ dw.DW_OP_or ∷ dw.DW_OP_plus ∷ dw.DW_OP_plus_uconst ∷ dw.DW_OP_shl ∷ dw.DW_OP_shr ∷ dw.DW_OP_shra ∷ dw.DW_OP_xor ∷ dw.DW_OP_bra ∷ dw.DW_OP_eq ∷ dw.DW_OP_ge ∷ dw.DW_OP_gt ∷ dw.DW_OP_le ∷ dw.DW_OP_lt ∷ dw.DW_OP_ne ∷ dw.DW_OP_skip ∷ dw.DW_OP_lit0 ∷ dw.DW_OP_lit1 ∷ dw.DW_OP_lit2 ∷ dw.DW_OP_lit3 ∷ dw.DW_OP_lit4 ∷ dw.DW_OP_lit5 ∷ dw.DW_OP_lit6 ∷ dw.DW_OP_lit7 ∷ dw.DW_OP_lit8 ∷ dw.DW_OP_lit9 ∷ dw.DW_OP_lit10 ∷ dw.DW_OP_lit11 ∷ dw.DW_OP_lit12 ∷ dw.DW_OP_lit13 ∷ dw.DW_OP_lit14 ∷ dw.DW_OP_lit15 ∷ dw.DW_OP_lit16 ∷ dw.DW_OP_lit17 ∷ dw.DW_OP_lit18 ∷ dw.DW_OP_lit19 ∷ dw.DW_OP_lit20 ∷ dw.DW_OP_lit21 ∷ dw.DW_OP_lit22 ∷ dw.DW_OP_lit23 ∷ dw.DW_OP_lit24 ∷ dw.DW_OP_lit25 ∷ dw.DW_OP_lit26 ∷ dw.DW_OP_lit27 ∷ dw.DW_OP_lit28 ∷ dw.DW_OP_lit29 ∷ dw.DW_OP_lit30 ∷ dw.DW_OP_lit31 ∷ dw.DW_OP_reg0 ∷ dw.DW_OP_reg1 ∷ dw.DW_OP_reg2 ∷ dw.DW_OP_reg3 ∷ dw.DW_OP_reg4 ∷ dw.DW_OP_reg5 ∷ dw.DW_OP_reg6 ∷ dw.DW_OP_reg7 ∷ dw.DW_OP_reg8 ∷ dw.DW_OP_reg9 ∷ dw.DW_OP_reg10 ∷ dw.DW_OP_reg11 ∷ dw.DW_OP_reg12 ∷ dw.DW_OP_reg13 ∷ dw.DW_OP_reg14 ∷ dw.DW_OP_reg15 ∷ dw.DW_OP_reg16 ∷ dw.DW_OP_reg17 ∷ dw.DW_OP_reg18 ∷ dw.DW_OP_reg19 ∷ dw.DW_OP_reg20 ∷ dw.DW_OP_reg21 ∷ dw.DW_OP_reg22 ∷ dw.DW_OP_reg23 ∷ dw.DW_OP_reg24 ∷ dw.DW_OP_reg25 ∷ dw.DW_OP_reg26 ∷ dw.DW_OP_reg27 ∷ dw.DW_OP_reg28 ∷ dw.DW_OP_reg29 ∷ dw.DW_OP_reg30 ∷ dw.DW_OP_reg31 ∷ dw.DW_OP_breg0 ∷ dw.DW_OP_breg1 ∷ dw.DW_OP_breg2 ∷ dw.DW_OP_breg3 ∷ dw.DW_OP_breg4 ∷ dw.DW_OP_breg5 ∷ dw.DW_OP_breg6 ∷ dw.DW_OP_breg7 ∷ dw.DW_OP_breg8 ∷ dw.DW_OP_breg9 ∷ dw.DW_OP_breg10 ∷ dw.DW_OP_breg11 ∷ dw.DW_OP_breg12 ∷ dw.DW_OP_breg13 ∷ dw.DW_OP_breg14 ∷ dw.DW_OP_breg15 ∷ dw.DW_OP_breg16 ∷ dw.DW_OP_breg17 ∷ dw.DW_OP_breg18 ∷ dw.DW_OP_breg19 ∷ dw.DW_OP_breg20 ∷ dw.DW_OP_breg21 ∷ dw.DW_OP_breg22 ∷ dw.DW_OP_breg23 ∷ dw.DW_OP_breg24 ∷ dw.DW_OP_breg25 ∷ dw.DW_OP_breg26 ∷ dw.DW_OP_breg27 ∷ dw.DW_OP_breg28 ∷ dw.DW_OP_breg29 ∷ dw.DW_OP_breg30 ∷ dw.DW_OP_breg31 ∷ dw.DW_OP_regx ∷ dw.DW_OP_fbreg ∷ dw.DW_OP_bregx ∷ dw.DW_OP_piece ∷ dw.DW_OP_deref_size ∷ dw.DW_OP_xderef_size ∷ dw.DW_OP_nop ∷ dw.DW_OP_push_object_address ∷ dw.DW_OP_call2 ∷ dw.DW_OP_call4 ∷ dw.DW_OP_call_ref ∷ dw.DW_OP_form_tls_address ∷ dw.DW_OP_call_frame_cfa ∷ dw.DW_OP_bit_piece ∷ dw.DW_OP_implicit_value ∷ dw.DW_OP_stack_value ∷ dw.DW_OP_implicit_pointer ∷ dw.DW_OP_addrx ∷ dw.DW_OP_constx ∷ dw.DW_OP_entry_value ∷ dw.DW_OP_const_type ∷ dw.DW_OP_regval_type ∷ dw.DW_OP_deref_type ∷ dw.DW_OP_xderef_type ∷ dw.DW_OP_convert ∷ dw.DW_OP_reinterpret ∷ dw.DW_OP_GNU_push_tls_address ∷ dw.DW_OP_GNU_entry_value ∷ []) ≡ (0x3 ∷ 0x6 ∷ 0x8 ∷ 0x9 ∷ 0xa ∷ 0xb ∷ 0xc ∷ 0xd ∷ 0xe ∷ 0xf ∷ 0x10 ∷ 0x11 ∷ 0x12 ∷ 0x13 ∷ 0x14 ∷ 0x15 ∷ 0x16 ∷ 0x17 ∷ 0x18 ∷ 0x19 ∷ 0x1a ∷ 0x1b ∷ 0x1c ∷ 0x1d ∷ 0x1e ∷ 0x1f ∷ 0x20 ∷ 0x21 ∷ 0x22 ∷ 0x23 ∷ 0x24 ∷ 0x25 ∷ 0x26 ∷ 0x27 ∷ 0x28 ∷ 0x29 ∷ 0x2a ∷ 0x2b ∷ 0x2c ∷ 0x2d ∷ 0x2e ∷ 0x2f ∷ 0x30 ∷ 0x31 ∷ 0x32 ∷ 0x33 ∷ 0x34 ∷ 0x35 ∷ 0x36 ∷ 0x37 ∷ 0x38 ∷ 0x39 ∷ 0x3a ∷ 0x3b ∷ 0x3c ∷ 0x3d ∷ 0x3e ∷ 0x3f ∷ 0x40 ∷ 0x41 ∷ 0x42 ∷ 0x43 ∷ 0x44 ∷ 0x45 ∷ 0x46 ∷ 0x47 ∷ 0x48 ∷ 0x49 ∷ 0x4a ∷ 0x4b ∷ 0x4c ∷ 0x4d ∷ 0x4e ∷ 0x4f ∷ 0x50 ∷ 0x51 ∷ 0x52 ∷ 0x53 ∷ 0x54 ∷ 0x55 ∷ 0x56 ∷ 0x57 ∷ 0x58 ∷ 0x59 ∷ 0x5a ∷ 0x5b ∷ 0x5c ∷ 0x5d ∷ 0x5e ∷ 0x5f ∷ 0x60 ∷ 0x61 ∷ 0x62 ∷ 0x63 ∷ 0x64 ∷ 0x65 ∷ 0x66 ∷ 0x67 ∷ 0x68 ∷ 0x69 ∷ 0x6a ∷ 0x6b ∷ 0x6c ∷ 0x6d ∷ 0x6e ∷ 0x6f ∷ 0x70 ∷ 0x71 ∷ 0x72 ∷ 0x73 ∷ 0x74 ∷ 0x75 ∷ 0x76 ∷ 0x77 ∷ 0x78 ∷ 0x79 ∷ 0x7a ∷ 0x7b ∷ 0x7c ∷ 0x7d ∷ 0x7e ∷ 0x7f ∷ 0x80 ∷ 0x81 ∷ 0x82 ∷ 0x83 ∷ 0x84 ∷ 0x85 ∷ 0x86 ∷ 0x87 ∷ 0x88 ∷ 0x89 ∷ 0x8a ∷ 0x8b ∷ 0x8c ∷ 0x8d ∷ 0x8e ∷ 0x8f ∷ 0x90 ∷ 0x91 ∷ 0x92 ∷ 0x93 ∷ 0x94 ∷ 0x95 ∷ 0x96 ∷ 0x97 ∷ 0x98 ∷ 0x99 ∷ 0x9a ∷ 0x9b ∷ 0x9c ∷ 0x9d ∷ 0x9e ∷ 0x9f ∷ 0xa0 ∷ 0xa1 ∷ 0xa2 ∷ 0xa3 ∷ 0xa4 ∷ 0xa5 ∷ 0xa6 ∷ 0xa7 ∷ 0xa8 ∷ 0xa9 ∷ 0xe0 ∷ 0xf3 ∷ [])
operations = refl

-- DWARF 5, section 7.12, table 7.17: languages.
languages : (dw.DW_LANG_C89 ∷ dw.DW_LANG_C ∷ dw.DW_LANG_Ada83 ∷ dw.DW_LANG_C_plus_plus ∷ dw.DW_LANG_Cobol74 ∷ dw.DW_LANG_Cobol85 ∷ dw.DW_LANG_Fortran77 ∷ dw.DW_LANG_Fortran90 ∷ dw.DW_LANG_Pascal83 ∷ dw.DW_LANG_Modula2 ∷ dw.DW_LANG_Java ∷ dw.DW_LANG_C99 ∷ dw.DW_LANG_Ada95 ∷ dw.DW_LANG_Fortran95 ∷ dw.DW_LANG_PLI ∷ dw.DW_LANG_ObjC ∷ dw.DW_LANG_ObjC_plus_plus ∷ dw.DW_LANG_UPC ∷ dw.DW_LANG_D ∷ dw.DW_LANG_Python ∷ dw.DW_LANG_OpenCL ∷ dw.DW_LANG_Go ∷ dw.DW_LANG_Modula3 ∷ dw.DW_LANG_Haskell ∷ dw.DW_LANG_C_plus_plus_03 ∷ dw.DW_LANG_C_plus_plus_11 ∷ dw.DW_LANG_OCaml ∷ dw.DW_LANG_Rust ∷ dw.DW_LANG_C11 ∷ dw.DW_LANG_Swift ∷ dw.DW_LANG_Julia ∷ dw.DW_LANG_Dylan ∷ dw.DW_LANG_C_plus_plus_14 ∷ dw.DW_LANG_Fortran03 ∷ dw.DW_LANG_Fortran08 ∷ dw.DW_LANG_RenderScript ∷ dw.DW_LANG_BLISS ∷ []) ≡ (0x1 ∷ 0x2 ∷ 0x3 ∷ 0x4 ∷ 0x5 ∷ 0x6 ∷ 0x7 ∷ 0x8 ∷ 0x9 ∷ 0xa ∷ 0xb ∷ 0xc ∷ 0xd ∷ 0xe ∷ 0xf ∷ 0x10 ∷ 0x11 ∷ 0x12 ∷ 0x13 ∷ 0x14 ∷ 0x15 ∷ 0x16 ∷ 0x17 ∷ 0x18 ∷ 0x19 ∷ 0x1a ∷ 0x1b ∷ 0x1c ∷ 0x1d ∷ 0x1e ∷ 0x1f ∷ 0x20 ∷ 0x21 ∷ 0x22 ∷ 0x23 ∷ 0x24 ∷ 0x25 ∷ [])
languages = refl

-- DWARF 5, section 7.22, table 7.25: standard operations of line programs.
standard_operations : (dw.DW_LNS_extended_op ∷ dw.DW_LNS_copy ∷ dw.DW_LNS_advance_pc ∷ dw.DW_LNS_advance_line ∷ dw.DW_LNS_set_file ∷ dw.DW_LNS_set_column ∷ dw.DW_LNS_negate_stmt ∷ dw.DW_LNS_set_basic_block ∷ dw.DW_LNS_const_add_pc ∷ dw.DW_LNS_fixed_advance_pc ∷ dw.DW_LNS_set_prologue_end ∷ dw.DW_LNS_set_epilogue_begin ∷ dw.DW_LNS_set_isa ∷ []) ≡ (0x0 ∷ 0x1 ∷ 0x2 ∷ 0x3 ∷ 0x4 ∷ 0x5 ∷ 0x6 ∷ 0x7 ∷ 0x8 ∷ 0x9 ∷ 0xa ∷ 0xb ∷ 0xc ∷ [])
standard_operations = refl

-- DWARF 5, section 7.22, table 7.26: extended operations of line programs.
extended_operations : (dw.DW_LNE_end_sequence ∷ dw.DW_LNE_set_address ∷ dw.DW_LNE_define_file ∷ dw.DW_LNE_set_discriminator ∷ []) ≡ (0x1 ∷ 0x2 ∷ 0x3 ∷ 0x4 ∷ [])
extended_operations = refl

-- DWARF 5, section 7.22, table 7.27: contents of line table entries.
line_contents : (dw.DW_LNCT_path ∷ dw.DW_LNCT_directory_index ∷ dw.DW_LNCT_timestamp ∷ dw.DW_LNCT_size ∷ dw.DW_LNCT_MD5 ∷ []) ≡ (0x1 ∷ 0x2 ∷ 0x3 ∷ 0x4 ∷ 0x5 ∷ [])
line_contents = refl

-- DWARF 5, section 7.25, table 7.30: kinds of range list entries.
range_entries : (dw.DW_RLE_end_of_list ∷ dw.DW_RLE_base_addressx ∷ dw.DW_RLE_startx_endx ∷ dw.DW_RLE_startx_length ∷ dw.DW_RLE_offset_pair ∷ dw.DW_RLE_base_address ∷ dw.DW_RLE_start_end ∷ dw.DW_RLE_start_length ∷ []) ≡ (0x0 ∷ 0x1 ∷ 0x2 ∷ 0x3 ∷ 0x4 ∷ 0x5 ∷ 0x6 ∷ 0x7 ∷ [])
range_entries = refl

-- DWARF 5, section 7.7.3, table 7.10: kinds of location list entries.
location_entries : (dw.DW_LLE_end_of_list ∷ dw.DW_LLE_base_addressx ∷ dw.DW_LLE_startx_endx ∷ dw.DW_LLE_startx_length ∷ dw.DW_LLE_offset_pair ∷ dw.DW_LLE_default_location ∷ dw.DW_LLE_base_address ∷ dw.DW_LLE_start_end ∷ dw.DW_LLE_start_length ∷ []) ≡ (0x0 ∷ 0x1 ∷ 0x2 ∷ 0x3 ∷ 0x4 ∷ 0x5 ∷ 0x6 ∷ 0x7 ∷ 0x8 ∷ [])
location_entries = refl

-- DWARF 5, section 7.5.1, table 7.2: kinds of units.
unit_types : (dw.DW_UT_compile ∷ dw.DW_UT_type ∷ dw.DW_UT_partial ∷ dw.DW_UT_skeleton ∷ dw.DW_UT_split_compile ∷ dw.DW_UT_split_type ∷ []) ≡ (0x1 ∷ 0x2 ∷ 0x3 ∷ 0x4 ∷ 0x5 ∷ 0x6 ∷ [])
unit_types = refl

-- The versions of units that are read and written (DWARF 4, section 7.5.1.1; DWARF 5, section 7.5.1).
versions : (dw.DWARF_4 ∷ dw.DWARF_5 ∷ []) ≡ (0x4 ∷ 0x5 ∷ [])
versions = refl

-- DWARF 5, section 7.2.2: lengths.
reserved_lengths : (dw.LENGTH_RESERVED ∷ []) ≡ (0xfffffff0 ∷ [])
reserved_lengths = refl

-- DWARF 5, section 7.24: call frame information.
frame_ids : (dw.DW_CIE_ID ∷ []) ≡ (0xffffffff ∷ [])
frame_ids = refl

-- DWARF 4, section 7.4, the 32-bit format: the bytes of an address of the targets, of an offset, and of the header of a unit of version 4 (section 7.5.1.1). DWARF 5: of the header of a compile unit (section 7.5.1.1).
sizes : (dw.ADDRESS_SIZE ∷ dw.OFFSET_SIZE ∷ dw.UNIT_HEADER_SIZE ∷ dw.UNIT_5_HEADER_SIZE ∷ []) ≡ (0x8 ∷ 0x4 ∷ 0xb ∷ 0xc ∷ [])
sizes = refl

-- The line programs that are written (DWARF 4, section 6.2.4): line_base, which is -5, line_range and opcode_base.
written_programs : (dw.LINE_BASE ∷ dw.LINE_RANGE ∷ dw.OPCODE_BASE ∷ []) ≡ (0xfb ∷ 0xe ∷ 0xd ∷ [])
written_programs = refl

-- Apple's accelerator tables (LLVM's `AppleAcceleratorTable`, and its "Source Level Debugging with LLVM"): the magic number "HASH", the version, the hash function of Daniel J. Bernstein with its first value, and the one atom that is written.
apple_tables : (dw.APPLE_HASH_MAGIC ∷ dw.APPLE_HASH_VERSION ∷ dw.DW_hash_function_djb ∷ dw.DJB_HASH_START ∷ dw.DW_ATOM_die_offset ∷ []) ≡ (0x48415348 ∷ 0x1 ∷ 0x0 ∷ 0x1505 ∷ 0x1 ∷ [])
apple_tables = refl

-- mach-o/loader.h: the header of a 64-bit file.
header : (macho.MH_MAGIC_64 ∷ macho.MH_OBJECT ∷ macho.MH_EXECUTE ∷ macho.MH_DYLIB ∷ macho.MH_BUNDLE ∷ macho.MH_DSYM ∷ []) ≡ (0xfeedfacf ∷ 0x1 ∷ 0x2 ∷ 0x6 ∷ 0x8 ∷ 0xa ∷ [])
header = refl

-- mach/machine.h: the CPU types that are read.
cpus : (macho.CPU_TYPE_X86_64 ∷ macho.CPU_TYPE_ARM64 ∷ []) ≡ (0x1000007 ∷ 0x100000c ∷ [])
cpus = refl

-- mach-o/loader.h: load commands.
commands : (macho.LC_SYMTAB ∷ macho.LC_SEGMENT_64 ∷ macho.LC_UUID ∷ []) ≡ (0x2 ∷ 0x19 ∷ 0x1b ∷ [])
commands = refl

-- mach-o/loader.h, mach-o/nlist.h, mach-o/reloc.h, ar.h: sizes of records in bytes.
record_sizes : (macho.MACH_HEADER_64_SIZE ∷ macho.SEGMENT_COMMAND_64_SIZE ∷ macho.SECTION_64_SIZE ∷ macho.SYMTAB_COMMAND_SIZE ∷ macho.UUID_COMMAND_SIZE ∷ macho.NLIST_64_SIZE ∷ macho.RELOCATION_INFO_SIZE ∷ macho.AR_HDR_SIZE ∷ []) ≡ (0x20 ∷ 0x48 ∷ 0x50 ∷ 0x18 ∷ 0x18 ∷ 0x10 ∷ 0x8 ∷ 0x3c ∷ [])
record_sizes = refl

-- mach-o/fat.h: what a universal file begins with, and the sizes of its header and of a record in bytes. Its numbers have the highest byte first.
universal : (macho.FAT_MAGIC ∷ macho.FAT_HEADER_SIZE ∷ macho.FAT_ARCH_SIZE ∷ []) ≡ (0xcafebabe ∷ 0x8 ∷ 0x14 ∷ [])
universal = refl

-- mach/machine.h: the bits of a CPU subtype that say what the code may do, and not which CPU it is for.
subtype_bits : (macho.CPU_SUBTYPE_MASK ∷ []) ≡ (0xff000000 ∷ [])
subtype_bits = refl

-- mach-o/loader.h: a type, which is the lowest byte of a section's flags, and attributes there.
section_flags : (macho.S_ZEROFILL ∷ macho.S_ATTR_DEBUG ∷ []) ≡ (0x1 ∷ 0x2000000 ∷ [])
section_flags = refl

-- mach/vm_prot.h: protections of a segment.
protections : (macho.VM_PROT_READ ∷ macho.VM_PROT_WRITE ∷ macho.VM_PROT_EXECUTE ∷ macho.VM_PROT_ALL ∷ macho.VM_PROT_DEFAULT ∷ []) ≡ (0x1 ∷ 0x2 ∷ 0x4 ∷ 0x7 ∷ 0x3 ∷ [])
protections = refl

-- mach-o/nlist.h: the fields and the values of a symbol's n_type.
symbols : (macho.N_STAB ∷ macho.N_TYPE ∷ macho.N_EXT ∷ macho.N_UNDF ∷ macho.N_ABS ∷ macho.N_SECT ∷ []) ≡ (0xe0 ∷ 0xe ∷ 0x1 ∷ 0x0 ∷ 0x2 ∷ 0xe ∷ [])
symbols = refl

-- mach-o/stab.h: the kinds of stabs.
stabs : (macho.N_GSYM ∷ macho.N_FUN ∷ macho.N_STSYM ∷ macho.N_LCSYM ∷ macho.N_BNSYM ∷ macho.N_AST ∷ macho.N_ENSYM ∷ macho.N_SO ∷ macho.N_OSO ∷ []) ≡ (0x20 ∷ 0x24 ∷ 0x26 ∷ 0x28 ∷ 0x2e ∷ 0x32 ∷ 0x4e ∷ 0x64 ∷ 0x66 ∷ [])
stabs = refl

-- mach-o/x86_64/reloc.h and mach-o/arm64/reloc.h: the plain relocation, and the length of 8 bytes in powers of two (mach-o/reloc.h).
relocations : (macho.X86_64_RELOC_UNSIGNED ∷ macho.ARM64_RELOC_UNSIGNED ∷ macho.RELOC_LENGTH_8 ∷ []) ≡ (0x0 ∷ 0x0 ∷ 0x3 ∷ [])
relocations = refl

-- mach-o/reloc.h: the bit of `r_address` that is set in a scattered relocation.
scattered : (macho.R_SCATTERED ∷ []) ≡ (0x80000000 ∷ [])
scattered = refl

-- each name of a segment or a section fills its 16 bytes
abbrev section_names : List (List ℕ)
section_names = macho.SEG_TEXT ∷ macho.SEG_DWARF ∷ macho.SECT_TEXT ∷ macho.SECT_DEBUG_ABBREV ∷ macho.SECT_DEBUG_INFO ∷ macho.SECT_DEBUG_STR ∷ macho.SECT_DEBUG_STR_OFFS ∷ macho.SECT_DEBUG_ADDR ∷ macho.SECT_DEBUG_LINE ∷ macho.SECT_DEBUG_LINE_STR ∷ macho.SECT_DEBUG_RANGES ∷ macho.SECT_DEBUG_RNGLISTS ∷ macho.SECT_DEBUG_LOC ∷ macho.SECT_DEBUG_LOCLISTS ∷ macho.SECT_DEBUG_ARANGES ∷ macho.SECT_DEBUG_FRAME ∷ macho.SECT_APPLE_NAMES ∷ macho.SECT_APPLE_TYPES ∷ macho.SECT_APPLE_NAMESPACES ∷ []

names_fill_their_field : map length section_names ≡ replicate 19 16
names_fill_their_field = refl

-- "!<arch>" and a line end, "`" and a line end, "#1/"
archive_texts : (macho.ARMAG ∷ macho.ARFMAG ∷ macho.AR_EFMT1 ∷ []) ≡ ((0x21 ∷ 0x3c ∷ 0x61 ∷ 0x72 ∷ 0x63 ∷ 0x68 ∷ 0x3e ∷ 0x0a ∷ []) ∷ (0x60 ∷ 0x0a ∷ []) ∷ (0x23 ∷ 0x31 ∷ 0x2f ∷ []) ∷ [])
archive_texts = refl

-- the longest name of a section has no zero behind it, and a shorter one has
padding : (macho.SECT_DEBUG_LINE_STR ∷ macho.SECT_TEXT ∷ []) ≡ (codes "__debug_line_str" ∷ (codes "__text" ++ (0 ∷ 0 ∷ 0 ∷ 0 ∷ 0 ∷ 0 ∷ 0 ∷ 0 ∷ 0 ∷ 0 ∷ [])) ∷ [])
padding = refl
