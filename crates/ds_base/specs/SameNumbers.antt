-- The constants of the code are the numbers of the standards.
use Rattle.std.specs.Prelude.{◌≡◌, [], ◌∷◌}
use Rattle.ds_base.specs.declared.dwarf.TheConstants as dwarf
use Rattle.ds_base.specs.declared.macho.TheConstants as macho
use Rattle.ds_base.specs.DwarfNumbers as standard
use Rattle.ds_base.specs.MachONumbers as apple

-- DWARF's, a group a line
pub record AreDwarfNumbers : Type 0 where
  pub tags : (dwarf.DW_TAG_array_type ∷ dwarf.DW_TAG_class_type ∷ dwarf.DW_TAG_entry_point ∷ dwarf.DW_TAG_enumeration_type ∷ dwarf.DW_TAG_formal_parameter ∷ dwarf.DW_TAG_imported_declaration ∷ dwarf.DW_TAG_label ∷ dwarf.DW_TAG_lexical_block ∷ dwarf.DW_TAG_member ∷ dwarf.DW_TAG_pointer_type ∷ dwarf.DW_TAG_reference_type ∷ dwarf.DW_TAG_compile_unit ∷ dwarf.DW_TAG_string_type ∷ dwarf.DW_TAG_structure_type ∷ dwarf.DW_TAG_subroutine_type ∷ dwarf.DW_TAG_typedef ∷ dwarf.DW_TAG_union_type ∷ dwarf.DW_TAG_unspecified_parameters ∷ dwarf.DW_TAG_variant ∷ dwarf.DW_TAG_common_block ∷ dwarf.DW_TAG_common_inclusion ∷ dwarf.DW_TAG_inheritance ∷ dwarf.DW_TAG_inlined_subroutine ∷ dwarf.DW_TAG_module ∷ dwarf.DW_TAG_ptr_to_member_type ∷ dwarf.DW_TAG_set_type ∷ dwarf.DW_TAG_subrange_type ∷ dwarf.DW_TAG_with_stmt ∷ dwarf.DW_TAG_access_declaration ∷ dwarf.DW_TAG_base_type ∷ dwarf.DW_TAG_catch_block ∷ dwarf.DW_TAG_const_type ∷ dwarf.DW_TAG_constant ∷ dwarf.DW_TAG_enumerator ∷ dwarf.DW_TAG_file_type ∷ dwarf.DW_TAG_friend ∷ dwarf.DW_TAG_namelist ∷ dwarf.DW_TAG_namelist_item ∷ dwarf.DW_TAG_packed_type ∷ dwarf.DW_TAG_subprogram ∷ dwarf.DW_TAG_template_type_parameter ∷ dwarf.DW_TAG_template_value_parameter ∷ dwarf.DW_TAG_thrown_type ∷ dwarf.DW_TAG_try_block ∷ dwarf.DW_TAG_variant_part ∷ dwarf.DW_TAG_variable ∷ dwarf.DW_TAG_volatile_type ∷ dwarf.DW_TAG_dwarf_procedure ∷ dwarf.DW_TAG_restrict_type ∷ dwarf.DW_TAG_interface_type ∷ dwarf.DW_TAG_namespace ∷ dwarf.DW_TAG_imported_module ∷ dwarf.DW_TAG_unspecified_type ∷ dwarf.DW_TAG_partial_unit ∷ dwarf.DW_TAG_imported_unit ∷ dwarf.DW_TAG_condition ∷ dwarf.DW_TAG_shared_type ∷ dwarf.DW_TAG_type_unit ∷ dwarf.DW_TAG_rvalue_reference_type ∷ dwarf.DW_TAG_template_alias ∷ dwarf.DW_TAG_coarray_type ∷ dwarf.DW_TAG_generic_subrange ∷ dwarf.DW_TAG_dynamic_type ∷ dwarf.DW_TAG_atomic_type ∷ dwarf.DW_TAG_call_site ∷ dwarf.DW_TAG_call_site_parameter ∷ dwarf.DW_TAG_skeleton_unit ∷ dwarf.DW_TAG_immutable_type ∷ dwarf.DW_TAG_GNU_template_template_param ∷ dwarf.DW_TAG_GNU_template_parameter_pack ∷ dwarf.DW_TAG_GNU_call_site ∷ []) ≡ (standard.DW_TAG_array_type ∷ standard.DW_TAG_class_type ∷ standard.DW_TAG_entry_point ∷ standard.DW_TAG_enumeration_type ∷ standard.DW_TAG_formal_parameter ∷ standard.DW_TAG_imported_declaration ∷ standard.DW_TAG_label ∷ standard.DW_TAG_lexical_block ∷ standard.DW_TAG_member ∷ standard.DW_TAG_pointer_type ∷ standard.DW_TAG_reference_type ∷ standard.DW_TAG_compile_unit ∷ standard.DW_TAG_string_type ∷ standard.DW_TAG_structure_type ∷ standard.DW_TAG_subroutine_type ∷ standard.DW_TAG_typedef ∷ standard.DW_TAG_union_type ∷ standard.DW_TAG_unspecified_parameters ∷ standard.DW_TAG_variant ∷ standard.DW_TAG_common_block ∷ standard.DW_TAG_common_inclusion ∷ standard.DW_TAG_inheritance ∷ standard.DW_TAG_inlined_subroutine ∷ standard.DW_TAG_module ∷ standard.DW_TAG_ptr_to_member_type ∷ standard.DW_TAG_set_type ∷ standard.DW_TAG_subrange_type ∷ standard.DW_TAG_with_stmt ∷ standard.DW_TAG_access_declaration ∷ standard.DW_TAG_base_type ∷ standard.DW_TAG_catch_block ∷ standard.DW_TAG_const_type ∷ standard.DW_TAG_constant ∷ standard.DW_TAG_enumerator ∷ standard.DW_TAG_file_type ∷ standard.DW_TAG_friend ∷ standard.DW_TAG_namelist ∷ standard.DW_TAG_namelist_item ∷ standard.DW_TAG_packed_type ∷ standard.DW_TAG_subprogram ∷ standard.DW_TAG_template_type_parameter ∷ standard.DW_TAG_template_value_parameter ∷ standard.DW_TAG_thrown_type ∷ standard.DW_TAG_try_block ∷ standard.DW_TAG_variant_part ∷ standard.DW_TAG_variable ∷ standard.DW_TAG_volatile_type ∷ standard.DW_TAG_dwarf_procedure ∷ standard.DW_TAG_restrict_type ∷ standard.DW_TAG_interface_type ∷ standard.DW_TAG_namespace ∷ standard.DW_TAG_imported_module ∷ standard.DW_TAG_unspecified_type ∷ standard.DW_TAG_partial_unit ∷ standard.DW_TAG_imported_unit ∷ standard.DW_TAG_condition ∷ standard.DW_TAG_shared_type ∷ standard.DW_TAG_type_unit ∷ standard.DW_TAG_rvalue_reference_type ∷ standard.DW_TAG_template_alias ∷ standard.DW_TAG_coarray_type ∷ standard.DW_TAG_generic_subrange ∷ standard.DW_TAG_dynamic_type ∷ standard.DW_TAG_atomic_type ∷ standard.DW_TAG_call_site ∷ standard.DW_TAG_call_site_parameter ∷ standard.DW_TAG_skeleton_unit ∷ standard.DW_TAG_immutable_type ∷ standard.DW_TAG_GNU_template_template_param ∷ standard.DW_TAG_GNU_template_parameter_pack ∷ standard.DW_TAG_GNU_call_site ∷ [])
  pub attributes : (dwarf.DW_AT_sibling ∷ dwarf.DW_AT_location ∷ dwarf.DW_AT_name ∷ dwarf.DW_AT_ordering ∷ dwarf.DW_AT_byte_size ∷ dwarf.DW_AT_bit_offset ∷ dwarf.DW_AT_bit_size ∷ dwarf.DW_AT_stmt_list ∷ dwarf.DW_AT_low_pc ∷ dwarf.DW_AT_high_pc ∷ dwarf.DW_AT_language ∷ dwarf.DW_AT_discr ∷ dwarf.DW_AT_discr_value ∷ dwarf.DW_AT_visibility ∷ dwarf.DW_AT_import ∷ dwarf.DW_AT_string_length ∷ dwarf.DW_AT_common_reference ∷ dwarf.DW_AT_comp_dir ∷ dwarf.DW_AT_const_value ∷ dwarf.DW_AT_containing_type ∷ dwarf.DW_AT_default_value ∷ dwarf.DW_AT_inline ∷ dwarf.DW_AT_is_optional ∷ dwarf.DW_AT_lower_bound ∷ dwarf.DW_AT_producer ∷ dwarf.DW_AT_prototyped ∷ dwarf.DW_AT_return_addr ∷ dwarf.DW_AT_start_scope ∷ dwarf.DW_AT_bit_stride ∷ dwarf.DW_AT_upper_bound ∷ dwarf.DW_AT_abstract_origin ∷ dwarf.DW_AT_accessibility ∷ dwarf.DW_AT_address_class ∷ dwarf.DW_AT_artificial ∷ dwarf.DW_AT_base_types ∷ dwarf.DW_AT_calling_convention ∷ dwarf.DW_AT_count ∷ dwarf.DW_AT_data_member_location ∷ dwarf.DW_AT_decl_column ∷ dwarf.DW_AT_decl_file ∷ dwarf.DW_AT_decl_line ∷ dwarf.DW_AT_declaration ∷ dwarf.DW_AT_discr_list ∷ dwarf.DW_AT_encoding ∷ dwarf.DW_AT_external ∷ dwarf.DW_AT_frame_base ∷ dwarf.DW_AT_friend ∷ dwarf.DW_AT_identifier_case ∷ dwarf.DW_AT_macro_info ∷ dwarf.DW_AT_namelist_item ∷ dwarf.DW_AT_priority ∷ dwarf.DW_AT_segment ∷ dwarf.DW_AT_specification ∷ dwarf.DW_AT_static_link ∷ dwarf.DW_AT_type ∷ dwarf.DW_AT_use_location ∷ dwarf.DW_AT_variable_parameter ∷ dwarf.DW_AT_virtuality ∷ dwarf.DW_AT_vtable_elem_location ∷ dwarf.DW_AT_allocated ∷ dwarf.DW_AT_associated ∷ dwarf.DW_AT_data_location ∷ dwarf.DW_AT_byte_stride ∷ dwarf.DW_AT_entry_pc ∷ dwarf.DW_AT_use_UTF8 ∷ dwarf.DW_AT_extension ∷ dwarf.DW_AT_ranges ∷ dwarf.DW_AT_trampoline ∷ dwarf.DW_AT_call_column ∷ dwarf.DW_AT_call_file ∷ dwarf.DW_AT_call_line ∷ dwarf.DW_AT_description ∷ dwarf.DW_AT_binary_scale ∷ dwarf.DW_AT_decimal_scale ∷ dwarf.DW_AT_small ∷ dwarf.DW_AT_decimal_sign ∷ dwarf.DW_AT_digit_count ∷ dwarf.DW_AT_picture_string ∷ dwarf.DW_AT_mutable ∷ dwarf.DW_AT_threads_scaled ∷ dwarf.DW_AT_explicit ∷ dwarf.DW_AT_object_pointer ∷ dwarf.DW_AT_endianity ∷ dwarf.DW_AT_elemental ∷ dwarf.DW_AT_pure ∷ dwarf.DW_AT_recursive ∷ dwarf.DW_AT_signature ∷ dwarf.DW_AT_main_subprogram ∷ dwarf.DW_AT_data_bit_offset ∷ dwarf.DW_AT_const_expr ∷ dwarf.DW_AT_enum_class ∷ dwarf.DW_AT_linkage_name ∷ dwarf.DW_AT_string_length_bit_size ∷ dwarf.DW_AT_string_length_byte_size ∷ dwarf.DW_AT_rank ∷ dwarf.DW_AT_str_offsets_base ∷ dwarf.DW_AT_addr_base ∷ dwarf.DW_AT_rnglists_base ∷ dwarf.DW_AT_dwo_id ∷ dwarf.DW_AT_dwo_name ∷ dwarf.DW_AT_reference ∷ dwarf.DW_AT_rvalue_reference ∷ dwarf.DW_AT_macros ∷ dwarf.DW_AT_call_all_calls ∷ dwarf.DW_AT_call_all_source_calls ∷ dwarf.DW_AT_call_all_tail_calls ∷ dwarf.DW_AT_call_return_pc ∷ dwarf.DW_AT_call_value ∷ dwarf.DW_AT_call_origin ∷ dwarf.DW_AT_call_parameter ∷ dwarf.DW_AT_call_pc ∷ dwarf.DW_AT_call_tail_call ∷ dwarf.DW_AT_call_target ∷ dwarf.DW_AT_call_target_clobbered ∷ dwarf.DW_AT_call_data_location ∷ dwarf.DW_AT_call_data_value ∷ dwarf.DW_AT_noreturn ∷ dwarf.DW_AT_alignment ∷ dwarf.DW_AT_export_symbols ∷ dwarf.DW_AT_deleted ∷ dwarf.DW_AT_defaulted ∷ dwarf.DW_AT_loclists_base ∷ dwarf.DW_AT_GNU_dwo_name ∷ []) ≡ (standard.DW_AT_sibling ∷ standard.DW_AT_location ∷ standard.DW_AT_name ∷ standard.DW_AT_ordering ∷ standard.DW_AT_byte_size ∷ standard.DW_AT_bit_offset ∷ standard.DW_AT_bit_size ∷ standard.DW_AT_stmt_list ∷ standard.DW_AT_low_pc ∷ standard.DW_AT_high_pc ∷ standard.DW_AT_language ∷ standard.DW_AT_discr ∷ standard.DW_AT_discr_value ∷ standard.DW_AT_visibility ∷ standard.DW_AT_import ∷ standard.DW_AT_string_length ∷ standard.DW_AT_common_reference ∷ standard.DW_AT_comp_dir ∷ standard.DW_AT_const_value ∷ standard.DW_AT_containing_type ∷ standard.DW_AT_default_value ∷ standard.DW_AT_inline ∷ standard.DW_AT_is_optional ∷ standard.DW_AT_lower_bound ∷ standard.DW_AT_producer ∷ standard.DW_AT_prototyped ∷ standard.DW_AT_return_addr ∷ standard.DW_AT_start_scope ∷ standard.DW_AT_bit_stride ∷ standard.DW_AT_upper_bound ∷ standard.DW_AT_abstract_origin ∷ standard.DW_AT_accessibility ∷ standard.DW_AT_address_class ∷ standard.DW_AT_artificial ∷ standard.DW_AT_base_types ∷ standard.DW_AT_calling_convention ∷ standard.DW_AT_count ∷ standard.DW_AT_data_member_location ∷ standard.DW_AT_decl_column ∷ standard.DW_AT_decl_file ∷ standard.DW_AT_decl_line ∷ standard.DW_AT_declaration ∷ standard.DW_AT_discr_list ∷ standard.DW_AT_encoding ∷ standard.DW_AT_external ∷ standard.DW_AT_frame_base ∷ standard.DW_AT_friend ∷ standard.DW_AT_identifier_case ∷ standard.DW_AT_macro_info ∷ standard.DW_AT_namelist_item ∷ standard.DW_AT_priority ∷ standard.DW_AT_segment ∷ standard.DW_AT_specification ∷ standard.DW_AT_static_link ∷ standard.DW_AT_type ∷ standard.DW_AT_use_location ∷ standard.DW_AT_variable_parameter ∷ standard.DW_AT_virtuality ∷ standard.DW_AT_vtable_elem_location ∷ standard.DW_AT_allocated ∷ standard.DW_AT_associated ∷ standard.DW_AT_data_location ∷ standard.DW_AT_byte_stride ∷ standard.DW_AT_entry_pc ∷ standard.DW_AT_use_UTF8 ∷ standard.DW_AT_extension ∷ standard.DW_AT_ranges ∷ standard.DW_AT_trampoline ∷ standard.DW_AT_call_column ∷ standard.DW_AT_call_file ∷ standard.DW_AT_call_line ∷ standard.DW_AT_description ∷ standard.DW_AT_binary_scale ∷ standard.DW_AT_decimal_scale ∷ standard.DW_AT_small ∷ standard.DW_AT_decimal_sign ∷ standard.DW_AT_digit_count ∷ standard.DW_AT_picture_string ∷ standard.DW_AT_mutable ∷ standard.DW_AT_threads_scaled ∷ standard.DW_AT_explicit ∷ standard.DW_AT_object_pointer ∷ standard.DW_AT_endianity ∷ standard.DW_AT_elemental ∷ standard.DW_AT_pure ∷ standard.DW_AT_recursive ∷ standard.DW_AT_signature ∷ standard.DW_AT_main_subprogram ∷ standard.DW_AT_data_bit_offset ∷ standard.DW_AT_const_expr ∷ standard.DW_AT_enum_class ∷ standard.DW_AT_linkage_name ∷ standard.DW_AT_string_length_bit_size ∷ standard.DW_AT_string_length_byte_size ∷ standard.DW_AT_rank ∷ standard.DW_AT_str_offsets_base ∷ standard.DW_AT_addr_base ∷ standard.DW_AT_rnglists_base ∷ standard.DW_AT_dwo_id ∷ standard.DW_AT_dwo_name ∷ standard.DW_AT_reference ∷ standard.DW_AT_rvalue_reference ∷ standard.DW_AT_macros ∷ standard.DW_AT_call_all_calls ∷ standard.DW_AT_call_all_source_calls ∷ standard.DW_AT_call_all_tail_calls ∷ standard.DW_AT_call_return_pc ∷ standard.DW_AT_call_value ∷ standard.DW_AT_call_origin ∷ standard.DW_AT_call_parameter ∷ standard.DW_AT_call_pc ∷ standard.DW_AT_call_tail_call ∷ standard.DW_AT_call_target ∷ standard.DW_AT_call_target_clobbered ∷ standard.DW_AT_call_data_location ∷ standard.DW_AT_call_data_value ∷ standard.DW_AT_noreturn ∷ standard.DW_AT_alignment ∷ standard.DW_AT_export_symbols ∷ standard.DW_AT_deleted ∷ standard.DW_AT_defaulted ∷ standard.DW_AT_loclists_base ∷ standard.DW_AT_GNU_dwo_name ∷ [])
  pub forms : (dwarf.DW_FORM_addr ∷ dwarf.DW_FORM_block2 ∷ dwarf.DW_FORM_block4 ∷ dwarf.DW_FORM_data2 ∷ dwarf.DW_FORM_data4 ∷ dwarf.DW_FORM_data8 ∷ dwarf.DW_FORM_string ∷ dwarf.DW_FORM_block ∷ dwarf.DW_FORM_block1 ∷ dwarf.DW_FORM_data1 ∷ dwarf.DW_FORM_flag ∷ dwarf.DW_FORM_sdata ∷ dwarf.DW_FORM_strp ∷ dwarf.DW_FORM_udata ∷ dwarf.DW_FORM_ref_addr ∷ dwarf.DW_FORM_ref1 ∷ dwarf.DW_FORM_ref2 ∷ dwarf.DW_FORM_ref4 ∷ dwarf.DW_FORM_ref8 ∷ dwarf.DW_FORM_ref_udata ∷ dwarf.DW_FORM_indirect ∷ dwarf.DW_FORM_sec_offset ∷ dwarf.DW_FORM_exprloc ∷ dwarf.DW_FORM_flag_present ∷ dwarf.DW_FORM_ref_sig8 ∷ dwarf.DW_FORM_strx ∷ dwarf.DW_FORM_addrx ∷ dwarf.DW_FORM_ref_sup4 ∷ dwarf.DW_FORM_strp_sup ∷ dwarf.DW_FORM_data16 ∷ dwarf.DW_FORM_line_strp ∷ dwarf.DW_FORM_implicit_const ∷ dwarf.DW_FORM_loclistx ∷ dwarf.DW_FORM_rnglistx ∷ dwarf.DW_FORM_ref_sup8 ∷ dwarf.DW_FORM_strx1 ∷ dwarf.DW_FORM_strx2 ∷ dwarf.DW_FORM_strx3 ∷ dwarf.DW_FORM_strx4 ∷ dwarf.DW_FORM_addrx1 ∷ dwarf.DW_FORM_addrx2 ∷ dwarf.DW_FORM_addrx3 ∷ dwarf.DW_FORM_addrx4 ∷ []) ≡ (standard.DW_FORM_addr ∷ standard.DW_FORM_block2 ∷ standard.DW_FORM_block4 ∷ standard.DW_FORM_data2 ∷ standard.DW_FORM_data4 ∷ standard.DW_FORM_data8 ∷ standard.DW_FORM_string ∷ standard.DW_FORM_block ∷ standard.DW_FORM_block1 ∷ standard.DW_FORM_data1 ∷ standard.DW_FORM_flag ∷ standard.DW_FORM_sdata ∷ standard.DW_FORM_strp ∷ standard.DW_FORM_udata ∷ standard.DW_FORM_ref_addr ∷ standard.DW_FORM_ref1 ∷ standard.DW_FORM_ref2 ∷ standard.DW_FORM_ref4 ∷ standard.DW_FORM_ref8 ∷ standard.DW_FORM_ref_udata ∷ standard.DW_FORM_indirect ∷ standard.DW_FORM_sec_offset ∷ standard.DW_FORM_exprloc ∷ standard.DW_FORM_flag_present ∷ standard.DW_FORM_ref_sig8 ∷ standard.DW_FORM_strx ∷ standard.DW_FORM_addrx ∷ standard.DW_FORM_ref_sup4 ∷ standard.DW_FORM_strp_sup ∷ standard.DW_FORM_data16 ∷ standard.DW_FORM_line_strp ∷ standard.DW_FORM_implicit_const ∷ standard.DW_FORM_loclistx ∷ standard.DW_FORM_rnglistx ∷ standard.DW_FORM_ref_sup8 ∷ standard.DW_FORM_strx1 ∷ standard.DW_FORM_strx2 ∷ standard.DW_FORM_strx3 ∷ standard.DW_FORM_strx4 ∷ standard.DW_FORM_addrx1 ∷ standard.DW_FORM_addrx2 ∷ standard.DW_FORM_addrx3 ∷ standard.DW_FORM_addrx4 ∷ [])
  pub operations : (dwarf.DW_OP_addr ∷ dwarf.DW_OP_deref ∷ dwarf.DW_OP_const1u ∷ dwarf.DW_OP_const1s ∷ dwarf.DW_OP_const2u ∷ dwarf.DW_OP_const2s ∷ dwarf.DW_OP_const4u ∷ dwarf.DW_OP_const4s ∷ dwarf.DW_OP_const8u ∷ dwarf.DW_OP_const8s ∷ dwarf.DW_OP_constu ∷ dwarf.DW_OP_consts ∷ dwarf.DW_OP_dup ∷ dwarf.DW_OP_drop ∷ dwarf.DW_OP_over ∷ dwarf.DW_OP_pick ∷ dwarf.DW_OP_swap ∷ dwarf.DW_OP_rot ∷ dwarf.DW_OP_xderef ∷ dwarf.DW_OP_abs ∷ dwarf.DW_OP_and ∷ dwarf.DW_OP_div ∷ dwarf.DW_OP_minus ∷ dwarf.DW_OP_mod ∷ dwarf.DW_OP_mul ∷ dwarf.DW_OP_neg ∷ dwarf.DW_OP_not ∷ dwarf.DW_OP_or ∷ dwarf.DW_OP_plus ∷ dwarf.DW_OP_plus_uconst ∷ dwarf.DW_OP_shl ∷ dwarf.DW_OP_shr ∷ dwarf.DW_OP_shra ∷ dwarf.DW_OP_xor ∷ dwarf.DW_OP_bra ∷ dwarf.DW_OP_eq ∷ dwarf.DW_OP_ge ∷ dwarf.DW_OP_gt ∷ dwarf.DW_OP_le ∷ dwarf.DW_OP_lt ∷ dwarf.DW_OP_ne ∷ dwarf.DW_OP_skip ∷ dwarf.DW_OP_lit0 ∷ dwarf.DW_OP_lit1 ∷ dwarf.DW_OP_lit2 ∷ dwarf.DW_OP_lit3 ∷ dwarf.DW_OP_lit4 ∷ dwarf.DW_OP_lit5 ∷ dwarf.DW_OP_lit6 ∷ dwarf.DW_OP_lit7 ∷ dwarf.DW_OP_lit8 ∷ dwarf.DW_OP_lit9 ∷ dwarf.DW_OP_lit10 ∷ dwarf.DW_OP_lit11 ∷ dwarf.DW_OP_lit12 ∷ dwarf.DW_OP_lit13 ∷ dwarf.DW_OP_lit14 ∷ dwarf.DW_OP_lit15 ∷ dwarf.DW_OP_lit16 ∷ dwarf.DW_OP_lit17 ∷ dwarf.DW_OP_lit18 ∷ dwarf.DW_OP_lit19 ∷ dwarf.DW_OP_lit20 ∷ dwarf.DW_OP_lit21 ∷ dwarf.DW_OP_lit22 ∷ dwarf.DW_OP_lit23 ∷ dwarf.DW_OP_lit24 ∷ dwarf.DW_OP_lit25 ∷ dwarf.DW_OP_lit26 ∷ dwarf.DW_OP_lit27 ∷ dwarf.DW_OP_lit28 ∷ dwarf.DW_OP_lit29 ∷ dwarf.DW_OP_lit30 ∷ dwarf.DW_OP_lit31 ∷ dwarf.DW_OP_reg0 ∷ dwarf.DW_OP_reg1 ∷ dwarf.DW_OP_reg2 ∷ dwarf.DW_OP_reg3 ∷ dwarf.DW_OP_reg4 ∷ dwarf.DW_OP_reg5 ∷ dwarf.DW_OP_reg6 ∷ dwarf.DW_OP_reg7 ∷ dwarf.DW_OP_reg8 ∷ dwarf.DW_OP_reg9 ∷ dwarf.DW_OP_reg10 ∷ dwarf.DW_OP_reg11 ∷ dwarf.DW_OP_reg12 ∷ dwarf.DW_OP_reg13 ∷ dwarf.DW_OP_reg14 ∷ dwarf.DW_OP_reg15 ∷ dwarf.DW_OP_reg16 ∷ dwarf.DW_OP_reg17 ∷ dwarf.DW_OP_reg18 ∷ dwarf.DW_OP_reg19 ∷ dwarf.DW_OP_reg20 ∷ dwarf.DW_OP_reg21 ∷ dwarf.DW_OP_reg22 ∷ dwarf.DW_OP_reg23 ∷ dwarf.DW_OP_reg24 ∷ dwarf.DW_OP_reg25 ∷ dwarf.DW_OP_reg26 ∷ dwarf.DW_OP_reg27 ∷ dwarf.DW_OP_reg28 ∷ dwarf.DW_OP_reg29 ∷ dwarf.DW_OP_reg30 ∷ dwarf.DW_OP_reg31 ∷ dwarf.DW_OP_breg0 ∷ dwarf.DW_OP_breg1 ∷ dwarf.DW_OP_breg2 ∷ dwarf.DW_OP_breg3 ∷ dwarf.DW_OP_breg4 ∷ dwarf.DW_OP_breg5 ∷ dwarf.DW_OP_breg6 ∷ dwarf.DW_OP_breg7 ∷ dwarf.DW_OP_breg8 ∷ dwarf.DW_OP_breg9 ∷ dwarf.DW_OP_breg10 ∷ dwarf.DW_OP_breg11 ∷ dwarf.DW_OP_breg12 ∷ dwarf.DW_OP_breg13 ∷ dwarf.DW_OP_breg14 ∷ dwarf.DW_OP_breg15 ∷ dwarf.DW_OP_breg16 ∷ dwarf.DW_OP_breg17 ∷ dwarf.DW_OP_breg18 ∷ dwarf.DW_OP_breg19 ∷ dwarf.DW_OP_breg20 ∷ dwarf.DW_OP_breg21 ∷ dwarf.DW_OP_breg22 ∷ dwarf.DW_OP_breg23 ∷ dwarf.DW_OP_breg24 ∷ dwarf.DW_OP_breg25 ∷ dwarf.DW_OP_breg26 ∷ dwarf.DW_OP_breg27 ∷ dwarf.DW_OP_breg28 ∷ dwarf.DW_OP_breg29 ∷ dwarf.DW_OP_breg30 ∷ dwarf.DW_OP_breg31 ∷ dwarf.DW_OP_regx ∷ dwarf.DW_OP_fbreg ∷ dwarf.DW_OP_bregx ∷ dwarf.DW_OP_piece ∷ dwarf.DW_OP_deref_size ∷ dwarf.DW_OP_xderef_size ∷ dwarf.DW_OP_nop ∷ dwarf.DW_OP_push_object_address ∷ dwarf.DW_OP_call2 ∷ dwarf.DW_OP_call4 ∷ dwarf.DW_OP_call_ref ∷ dwarf.DW_OP_form_tls_address ∷ dwarf.DW_OP_call_frame_cfa ∷ dwarf.DW_OP_bit_piece ∷ dwarf.DW_OP_implicit_value ∷ dwarf.DW_OP_stack_value ∷ dwarf.DW_OP_implicit_pointer ∷ dwarf.DW_OP_addrx ∷ dwarf.DW_OP_constx ∷ dwarf.DW_OP_entry_value ∷ dwarf.DW_OP_const_type ∷ dwarf.DW_OP_regval_type ∷ dwarf.DW_OP_deref_type ∷ dwarf.DW_OP_xderef_type ∷ dwarf.DW_OP_convert ∷ dwarf.DW_OP_reinterpret ∷ dwarf.DW_OP_GNU_push_tls_address ∷ dwarf.DW_OP_GNU_entry_value ∷ []) ≡ (standard.DW_OP_addr ∷ standard.DW_OP_deref ∷ standard.DW_OP_const1u ∷ standard.DW_OP_const1s ∷ standard.DW_OP_const2u ∷ standard.DW_OP_const2s ∷ standard.DW_OP_const4u ∷ standard.DW_OP_const4s ∷ standard.DW_OP_const8u ∷ standard.DW_OP_const8s ∷ standard.DW_OP_constu ∷ standard.DW_OP_consts ∷ standard.DW_OP_dup ∷ standard.DW_OP_drop ∷ standard.DW_OP_over ∷ standard.DW_OP_pick ∷ standard.DW_OP_swap ∷ standard.DW_OP_rot ∷ standard.DW_OP_xderef ∷ standard.DW_OP_abs ∷ standard.DW_OP_and ∷ standard.DW_OP_div ∷ standard.DW_OP_minus ∷ standard.DW_OP_mod ∷ standard.DW_OP_mul ∷ standard.DW_OP_neg ∷ standard.DW_OP_not ∷ standard.DW_OP_or ∷ standard.DW_OP_plus ∷ standard.DW_OP_plus_uconst ∷ standard.DW_OP_shl ∷ standard.DW_OP_shr ∷ standard.DW_OP_shra ∷ standard.DW_OP_xor ∷ standard.DW_OP_bra ∷ standard.DW_OP_eq ∷ standard.DW_OP_ge ∷ standard.DW_OP_gt ∷ standard.DW_OP_le ∷ standard.DW_OP_lt ∷ standard.DW_OP_ne ∷ standard.DW_OP_skip ∷ standard.DW_OP_lit0 ∷ standard.DW_OP_lit1 ∷ standard.DW_OP_lit2 ∷ standard.DW_OP_lit3 ∷ standard.DW_OP_lit4 ∷ standard.DW_OP_lit5 ∷ standard.DW_OP_lit6 ∷ standard.DW_OP_lit7 ∷ standard.DW_OP_lit8 ∷ standard.DW_OP_lit9 ∷ standard.DW_OP_lit10 ∷ standard.DW_OP_lit11 ∷ standard.DW_OP_lit12 ∷ standard.DW_OP_lit13 ∷ standard.DW_OP_lit14 ∷ standard.DW_OP_lit15 ∷ standard.DW_OP_lit16 ∷ standard.DW_OP_lit17 ∷ standard.DW_OP_lit18 ∷ standard.DW_OP_lit19 ∷ standard.DW_OP_lit20 ∷ standard.DW_OP_lit21 ∷ standard.DW_OP_lit22 ∷ standard.DW_OP_lit23 ∷ standard.DW_OP_lit24 ∷ standard.DW_OP_lit25 ∷ standard.DW_OP_lit26 ∷ standard.DW_OP_lit27 ∷ standard.DW_OP_lit28 ∷ standard.DW_OP_lit29 ∷ standard.DW_OP_lit30 ∷ standard.DW_OP_lit31 ∷ standard.DW_OP_reg0 ∷ standard.DW_OP_reg1 ∷ standard.DW_OP_reg2 ∷ standard.DW_OP_reg3 ∷ standard.DW_OP_reg4 ∷ standard.DW_OP_reg5 ∷ standard.DW_OP_reg6 ∷ standard.DW_OP_reg7 ∷ standard.DW_OP_reg8 ∷ standard.DW_OP_reg9 ∷ standard.DW_OP_reg10 ∷ standard.DW_OP_reg11 ∷ standard.DW_OP_reg12 ∷ standard.DW_OP_reg13 ∷ standard.DW_OP_reg14 ∷ standard.DW_OP_reg15 ∷ standard.DW_OP_reg16 ∷ standard.DW_OP_reg17 ∷ standard.DW_OP_reg18 ∷ standard.DW_OP_reg19 ∷ standard.DW_OP_reg20 ∷ standard.DW_OP_reg21 ∷ standard.DW_OP_reg22 ∷ standard.DW_OP_reg23 ∷ standard.DW_OP_reg24 ∷ standard.DW_OP_reg25 ∷ standard.DW_OP_reg26 ∷ standard.DW_OP_reg27 ∷ standard.DW_OP_reg28 ∷ standard.DW_OP_reg29 ∷ standard.DW_OP_reg30 ∷ standard.DW_OP_reg31 ∷ standard.DW_OP_breg0 ∷ standard.DW_OP_breg1 ∷ standard.DW_OP_breg2 ∷ standard.DW_OP_breg3 ∷ standard.DW_OP_breg4 ∷ standard.DW_OP_breg5 ∷ standard.DW_OP_breg6 ∷ standard.DW_OP_breg7 ∷ standard.DW_OP_breg8 ∷ standard.DW_OP_breg9 ∷ standard.DW_OP_breg10 ∷ standard.DW_OP_breg11 ∷ standard.DW_OP_breg12 ∷ standard.DW_OP_breg13 ∷ standard.DW_OP_breg14 ∷ standard.DW_OP_breg15 ∷ standard.DW_OP_breg16 ∷ standard.DW_OP_breg17 ∷ standard.DW_OP_breg18 ∷ standard.DW_OP_breg19 ∷ standard.DW_OP_breg20 ∷ standard.DW_OP_breg21 ∷ standard.DW_OP_breg22 ∷ standard.DW_OP_breg23 ∷ standard.DW_OP_breg24 ∷ standard.DW_OP_breg25 ∷ standard.DW_OP_breg26 ∷ standard.DW_OP_breg27 ∷ standard.DW_OP_breg28 ∷ standard.DW_OP_breg29 ∷ standard.DW_OP_breg30 ∷ standard.DW_OP_breg31 ∷ standard.DW_OP_regx ∷ standard.DW_OP_fbreg ∷ standard.DW_OP_bregx ∷ standard.DW_OP_piece ∷ standard.DW_OP_deref_size ∷ standard.DW_OP_xderef_size ∷ standard.DW_OP_nop ∷ standard.DW_OP_push_object_address ∷ standard.DW_OP_call2 ∷ standard.DW_OP_call4 ∷ standard.DW_OP_call_ref ∷ standard.DW_OP_form_tls_address ∷ standard.DW_OP_call_frame_cfa ∷ standard.DW_OP_bit_piece ∷ standard.DW_OP_implicit_value ∷ standard.DW_OP_stack_value ∷ standard.DW_OP_implicit_pointer ∷ standard.DW_OP_addrx ∷ standard.DW_OP_constx ∷ standard.DW_OP_entry_value ∷ standard.DW_OP_const_type ∷ standard.DW_OP_regval_type ∷ standard.DW_OP_deref_type ∷ standard.DW_OP_xderef_type ∷ standard.DW_OP_convert ∷ standard.DW_OP_reinterpret ∷ standard.DW_OP_GNU_push_tls_address ∷ standard.DW_OP_GNU_entry_value ∷ [])
  pub languages : (dwarf.DW_LANG_C89 ∷ dwarf.DW_LANG_C ∷ dwarf.DW_LANG_Ada83 ∷ dwarf.DW_LANG_C_plus_plus ∷ dwarf.DW_LANG_Cobol74 ∷ dwarf.DW_LANG_Cobol85 ∷ dwarf.DW_LANG_Fortran77 ∷ dwarf.DW_LANG_Fortran90 ∷ dwarf.DW_LANG_Pascal83 ∷ dwarf.DW_LANG_Modula2 ∷ dwarf.DW_LANG_Java ∷ dwarf.DW_LANG_C99 ∷ dwarf.DW_LANG_Ada95 ∷ dwarf.DW_LANG_Fortran95 ∷ dwarf.DW_LANG_PLI ∷ dwarf.DW_LANG_ObjC ∷ dwarf.DW_LANG_ObjC_plus_plus ∷ dwarf.DW_LANG_UPC ∷ dwarf.DW_LANG_D ∷ dwarf.DW_LANG_Python ∷ dwarf.DW_LANG_OpenCL ∷ dwarf.DW_LANG_Go ∷ dwarf.DW_LANG_Modula3 ∷ dwarf.DW_LANG_Haskell ∷ dwarf.DW_LANG_C_plus_plus_03 ∷ dwarf.DW_LANG_C_plus_plus_11 ∷ dwarf.DW_LANG_OCaml ∷ dwarf.DW_LANG_Rust ∷ dwarf.DW_LANG_C11 ∷ dwarf.DW_LANG_Swift ∷ dwarf.DW_LANG_Julia ∷ dwarf.DW_LANG_Dylan ∷ dwarf.DW_LANG_C_plus_plus_14 ∷ dwarf.DW_LANG_Fortran03 ∷ dwarf.DW_LANG_Fortran08 ∷ dwarf.DW_LANG_RenderScript ∷ dwarf.DW_LANG_BLISS ∷ []) ≡ (standard.DW_LANG_C89 ∷ standard.DW_LANG_C ∷ standard.DW_LANG_Ada83 ∷ standard.DW_LANG_C_plus_plus ∷ standard.DW_LANG_Cobol74 ∷ standard.DW_LANG_Cobol85 ∷ standard.DW_LANG_Fortran77 ∷ standard.DW_LANG_Fortran90 ∷ standard.DW_LANG_Pascal83 ∷ standard.DW_LANG_Modula2 ∷ standard.DW_LANG_Java ∷ standard.DW_LANG_C99 ∷ standard.DW_LANG_Ada95 ∷ standard.DW_LANG_Fortran95 ∷ standard.DW_LANG_PLI ∷ standard.DW_LANG_ObjC ∷ standard.DW_LANG_ObjC_plus_plus ∷ standard.DW_LANG_UPC ∷ standard.DW_LANG_D ∷ standard.DW_LANG_Python ∷ standard.DW_LANG_OpenCL ∷ standard.DW_LANG_Go ∷ standard.DW_LANG_Modula3 ∷ standard.DW_LANG_Haskell ∷ standard.DW_LANG_C_plus_plus_03 ∷ standard.DW_LANG_C_plus_plus_11 ∷ standard.DW_LANG_OCaml ∷ standard.DW_LANG_Rust ∷ standard.DW_LANG_C11 ∷ standard.DW_LANG_Swift ∷ standard.DW_LANG_Julia ∷ standard.DW_LANG_Dylan ∷ standard.DW_LANG_C_plus_plus_14 ∷ standard.DW_LANG_Fortran03 ∷ standard.DW_LANG_Fortran08 ∷ standard.DW_LANG_RenderScript ∷ standard.DW_LANG_BLISS ∷ [])
  pub standard_operations : (dwarf.DW_LNS_extended_op ∷ dwarf.DW_LNS_copy ∷ dwarf.DW_LNS_advance_pc ∷ dwarf.DW_LNS_advance_line ∷ dwarf.DW_LNS_set_file ∷ dwarf.DW_LNS_set_column ∷ dwarf.DW_LNS_negate_stmt ∷ dwarf.DW_LNS_set_basic_block ∷ dwarf.DW_LNS_const_add_pc ∷ dwarf.DW_LNS_fixed_advance_pc ∷ dwarf.DW_LNS_set_prologue_end ∷ dwarf.DW_LNS_set_epilogue_begin ∷ dwarf.DW_LNS_set_isa ∷ []) ≡ (standard.DW_LNS_extended_op ∷ standard.DW_LNS_copy ∷ standard.DW_LNS_advance_pc ∷ standard.DW_LNS_advance_line ∷ standard.DW_LNS_set_file ∷ standard.DW_LNS_set_column ∷ standard.DW_LNS_negate_stmt ∷ standard.DW_LNS_set_basic_block ∷ standard.DW_LNS_const_add_pc ∷ standard.DW_LNS_fixed_advance_pc ∷ standard.DW_LNS_set_prologue_end ∷ standard.DW_LNS_set_epilogue_begin ∷ standard.DW_LNS_set_isa ∷ [])
  pub extended_operations : (dwarf.DW_LNE_end_sequence ∷ dwarf.DW_LNE_set_address ∷ dwarf.DW_LNE_define_file ∷ dwarf.DW_LNE_set_discriminator ∷ []) ≡ (standard.DW_LNE_end_sequence ∷ standard.DW_LNE_set_address ∷ standard.DW_LNE_define_file ∷ standard.DW_LNE_set_discriminator ∷ [])
  pub line_contents : (dwarf.DW_LNCT_path ∷ dwarf.DW_LNCT_directory_index ∷ dwarf.DW_LNCT_timestamp ∷ dwarf.DW_LNCT_size ∷ dwarf.DW_LNCT_MD5 ∷ []) ≡ (standard.DW_LNCT_path ∷ standard.DW_LNCT_directory_index ∷ standard.DW_LNCT_timestamp ∷ standard.DW_LNCT_size ∷ standard.DW_LNCT_MD5 ∷ [])
  pub range_entries : (dwarf.DW_RLE_end_of_list ∷ dwarf.DW_RLE_base_addressx ∷ dwarf.DW_RLE_startx_endx ∷ dwarf.DW_RLE_startx_length ∷ dwarf.DW_RLE_offset_pair ∷ dwarf.DW_RLE_base_address ∷ dwarf.DW_RLE_start_end ∷ dwarf.DW_RLE_start_length ∷ []) ≡ (standard.DW_RLE_end_of_list ∷ standard.DW_RLE_base_addressx ∷ standard.DW_RLE_startx_endx ∷ standard.DW_RLE_startx_length ∷ standard.DW_RLE_offset_pair ∷ standard.DW_RLE_base_address ∷ standard.DW_RLE_start_end ∷ standard.DW_RLE_start_length ∷ [])
  pub location_entries : (dwarf.DW_LLE_end_of_list ∷ dwarf.DW_LLE_base_addressx ∷ dwarf.DW_LLE_startx_endx ∷ dwarf.DW_LLE_startx_length ∷ dwarf.DW_LLE_offset_pair ∷ dwarf.DW_LLE_default_location ∷ dwarf.DW_LLE_base_address ∷ dwarf.DW_LLE_start_end ∷ dwarf.DW_LLE_start_length ∷ []) ≡ (standard.DW_LLE_end_of_list ∷ standard.DW_LLE_base_addressx ∷ standard.DW_LLE_startx_endx ∷ standard.DW_LLE_startx_length ∷ standard.DW_LLE_offset_pair ∷ standard.DW_LLE_default_location ∷ standard.DW_LLE_base_address ∷ standard.DW_LLE_start_end ∷ standard.DW_LLE_start_length ∷ [])
  pub unit_types : (dwarf.DW_UT_compile ∷ dwarf.DW_UT_type ∷ dwarf.DW_UT_partial ∷ dwarf.DW_UT_skeleton ∷ dwarf.DW_UT_split_compile ∷ dwarf.DW_UT_split_type ∷ []) ≡ (standard.DW_UT_compile ∷ standard.DW_UT_type ∷ standard.DW_UT_partial ∷ standard.DW_UT_skeleton ∷ standard.DW_UT_split_compile ∷ standard.DW_UT_split_type ∷ [])
  pub versions : (dwarf.DWARF_4 ∷ dwarf.DWARF_5 ∷ []) ≡ (standard.DWARF_4 ∷ standard.DWARF_5 ∷ [])
  pub reserved_lengths : (dwarf.LENGTH_RESERVED ∷ []) ≡ (standard.LENGTH_RESERVED ∷ [])
  pub frame_ids : (dwarf.DW_CIE_ID ∷ []) ≡ (standard.DW_CIE_ID ∷ [])
  pub sizes : (dwarf.ADDRESS_SIZE ∷ dwarf.OFFSET_SIZE ∷ dwarf.UNIT_HEADER_SIZE ∷ dwarf.UNIT_5_HEADER_SIZE ∷ []) ≡ (standard.ADDRESS_SIZE ∷ standard.OFFSET_SIZE ∷ standard.UNIT_HEADER_SIZE ∷ standard.UNIT_5_HEADER_SIZE ∷ [])
  pub written_programs : (dwarf.LINE_BASE ∷ dwarf.LINE_RANGE ∷ dwarf.OPCODE_BASE ∷ []) ≡ (standard.LINE_BASE ∷ standard.LINE_RANGE ∷ standard.OPCODE_BASE ∷ [])
  pub apple_tables : (dwarf.APPLE_HASH_MAGIC ∷ dwarf.APPLE_HASH_VERSION ∷ dwarf.DW_hash_function_djb ∷ dwarf.DJB_HASH_START ∷ dwarf.DW_ATOM_die_offset ∷ []) ≡ (standard.APPLE_HASH_MAGIC ∷ standard.APPLE_HASH_VERSION ∷ standard.DW_hash_function_djb ∷ standard.DJB_HASH_START ∷ standard.DW_ATOM_die_offset ∷ [])

-- those of Mach-O, numbers and texts a line for each group
pub record AreMachONumbers : Type 0 where
  pub header : (macho.MH_MAGIC_64 ∷ macho.MH_OBJECT ∷ macho.MH_EXECUTE ∷ macho.MH_DYLIB ∷ macho.MH_BUNDLE ∷ macho.MH_DSYM ∷ []) ≡ (apple.MH_MAGIC_64 ∷ apple.MH_OBJECT ∷ apple.MH_EXECUTE ∷ apple.MH_DYLIB ∷ apple.MH_BUNDLE ∷ apple.MH_DSYM ∷ [])
  pub cpus : (macho.CPU_TYPE_X86_64 ∷ macho.CPU_TYPE_ARM64 ∷ []) ≡ (apple.CPU_TYPE_X86_64 ∷ apple.CPU_TYPE_ARM64 ∷ [])
  pub commands : (macho.LC_SYMTAB ∷ macho.LC_SEGMENT_64 ∷ macho.LC_UUID ∷ []) ≡ (apple.LC_SYMTAB ∷ apple.LC_SEGMENT_64 ∷ apple.LC_UUID ∷ [])
  pub sizes : (macho.MACH_HEADER_64_SIZE ∷ macho.SEGMENT_COMMAND_64_SIZE ∷ macho.SECTION_64_SIZE ∷ macho.SYMTAB_COMMAND_SIZE ∷ macho.UUID_COMMAND_SIZE ∷ macho.NLIST_64_SIZE ∷ macho.RELOCATION_INFO_SIZE ∷ macho.AR_HDR_SIZE ∷ []) ≡ (apple.MACH_HEADER_64_SIZE ∷ apple.SEGMENT_COMMAND_64_SIZE ∷ apple.SECTION_64_SIZE ∷ apple.SYMTAB_COMMAND_SIZE ∷ apple.UUID_COMMAND_SIZE ∷ apple.NLIST_64_SIZE ∷ apple.RELOCATION_INFO_SIZE ∷ apple.AR_HDR_SIZE ∷ [])
  pub universal : (macho.FAT_MAGIC ∷ macho.FAT_HEADER_SIZE ∷ macho.FAT_ARCH_SIZE ∷ []) ≡ (apple.FAT_MAGIC ∷ apple.FAT_HEADER_SIZE ∷ apple.FAT_ARCH_SIZE ∷ [])
  pub subtype_bits : (macho.CPU_SUBTYPE_MASK ∷ []) ≡ (apple.CPU_SUBTYPE_MASK ∷ [])
  pub names : (macho.SEG_TEXT ∷ macho.SEG_DWARF ∷ macho.SECT_TEXT ∷ macho.SECT_DEBUG_ABBREV ∷ macho.SECT_DEBUG_INFO ∷ macho.SECT_DEBUG_STR ∷ macho.SECT_DEBUG_STR_OFFS ∷ macho.SECT_DEBUG_ADDR ∷ macho.SECT_DEBUG_LINE ∷ macho.SECT_DEBUG_LINE_STR ∷ macho.SECT_DEBUG_RANGES ∷ macho.SECT_DEBUG_RNGLISTS ∷ macho.SECT_DEBUG_LOC ∷ macho.SECT_DEBUG_LOCLISTS ∷ macho.SECT_DEBUG_ARANGES ∷ macho.SECT_DEBUG_FRAME ∷ macho.SECT_APPLE_NAMES ∷ macho.SECT_APPLE_TYPES ∷ macho.SECT_APPLE_NAMESPACES ∷ macho.SECT_ZDEBUG ∷ []) ≡ (apple.SEG_TEXT ∷ apple.SEG_DWARF ∷ apple.SECT_TEXT ∷ apple.SECT_DEBUG_ABBREV ∷ apple.SECT_DEBUG_INFO ∷ apple.SECT_DEBUG_STR ∷ apple.SECT_DEBUG_STR_OFFS ∷ apple.SECT_DEBUG_ADDR ∷ apple.SECT_DEBUG_LINE ∷ apple.SECT_DEBUG_LINE_STR ∷ apple.SECT_DEBUG_RANGES ∷ apple.SECT_DEBUG_RNGLISTS ∷ apple.SECT_DEBUG_LOC ∷ apple.SECT_DEBUG_LOCLISTS ∷ apple.SECT_DEBUG_ARANGES ∷ apple.SECT_DEBUG_FRAME ∷ apple.SECT_APPLE_NAMES ∷ apple.SECT_APPLE_TYPES ∷ apple.SECT_APPLE_NAMESPACES ∷ apple.SECT_ZDEBUG ∷ [])
  pub section_flags : (macho.S_ZEROFILL ∷ macho.S_ATTR_DEBUG ∷ []) ≡ (apple.S_ZEROFILL ∷ apple.S_ATTR_DEBUG ∷ [])
  pub protections : (macho.VM_PROT_READ ∷ macho.VM_PROT_WRITE ∷ macho.VM_PROT_EXECUTE ∷ macho.VM_PROT_ALL ∷ macho.VM_PROT_DEFAULT ∷ []) ≡ (apple.VM_PROT_READ ∷ apple.VM_PROT_WRITE ∷ apple.VM_PROT_EXECUTE ∷ apple.VM_PROT_ALL ∷ apple.VM_PROT_DEFAULT ∷ [])
  pub symbols : (macho.N_STAB ∷ macho.N_TYPE ∷ macho.N_EXT ∷ macho.N_UNDF ∷ macho.N_ABS ∷ macho.N_SECT ∷ []) ≡ (apple.N_STAB ∷ apple.N_TYPE ∷ apple.N_EXT ∷ apple.N_UNDF ∷ apple.N_ABS ∷ apple.N_SECT ∷ [])
  pub stabs : (macho.N_GSYM ∷ macho.N_FUN ∷ macho.N_STSYM ∷ macho.N_LCSYM ∷ macho.N_BNSYM ∷ macho.N_AST ∷ macho.N_ENSYM ∷ macho.N_SO ∷ macho.N_OSO ∷ []) ≡ (apple.N_GSYM ∷ apple.N_FUN ∷ apple.N_STSYM ∷ apple.N_LCSYM ∷ apple.N_BNSYM ∷ apple.N_AST ∷ apple.N_ENSYM ∷ apple.N_SO ∷ apple.N_OSO ∷ [])
  pub relocations : (macho.X86_64_RELOC_UNSIGNED ∷ macho.ARM64_RELOC_UNSIGNED ∷ macho.RELOC_LENGTH_8 ∷ []) ≡ (apple.X86_64_RELOC_UNSIGNED ∷ apple.ARM64_RELOC_UNSIGNED ∷ apple.RELOC_LENGTH_8 ∷ [])
  pub scattered : (macho.R_SCATTERED ∷ []) ≡ (apple.R_SCATTERED ∷ [])
  pub archives : (macho.ARMAG ∷ macho.ARFMAG ∷ macho.AR_EFMT1 ∷ []) ≡ (apple.ARMAG ∷ apple.ARFMAG ∷ apple.AR_EFMT1 ∷ [])
