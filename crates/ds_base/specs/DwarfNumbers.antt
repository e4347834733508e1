-- The numbers of DWARF 4 and 5 under the standard's names. Each group names the section and table of DWARF 5 that lists it; DWARF 4 gives those that it has the same numbers. Names with GNU are GCC's.
use Rattle.std.specs.Prelude.{ℕ}

-- DWARF 5, section 7.5.3, table 7.3: tags.
abbrev pub DW_TAG_array_type : ℕ
DW_TAG_array_type = 0x01

abbrev pub DW_TAG_class_type : ℕ
DW_TAG_class_type = 0x02

abbrev pub DW_TAG_entry_point : ℕ
DW_TAG_entry_point = 0x03

abbrev pub DW_TAG_enumeration_type : ℕ
DW_TAG_enumeration_type = 0x04

abbrev pub DW_TAG_formal_parameter : ℕ
DW_TAG_formal_parameter = 0x05

abbrev pub DW_TAG_imported_declaration : ℕ
DW_TAG_imported_declaration = 0x08

abbrev pub DW_TAG_label : ℕ
DW_TAG_label = 0x0a

abbrev pub DW_TAG_lexical_block : ℕ
DW_TAG_lexical_block = 0x0b

abbrev pub DW_TAG_member : ℕ
DW_TAG_member = 0x0d

abbrev pub DW_TAG_pointer_type : ℕ
DW_TAG_pointer_type = 0x0f

abbrev pub DW_TAG_reference_type : ℕ
DW_TAG_reference_type = 0x10

abbrev pub DW_TAG_compile_unit : ℕ
DW_TAG_compile_unit = 0x11

abbrev pub DW_TAG_string_type : ℕ
DW_TAG_string_type = 0x12

abbrev pub DW_TAG_structure_type : ℕ
DW_TAG_structure_type = 0x13

abbrev pub DW_TAG_subroutine_type : ℕ
DW_TAG_subroutine_type = 0x15

abbrev pub DW_TAG_typedef : ℕ
DW_TAG_typedef = 0x16

abbrev pub DW_TAG_union_type : ℕ
DW_TAG_union_type = 0x17

abbrev pub DW_TAG_unspecified_parameters : ℕ
DW_TAG_unspecified_parameters = 0x18

abbrev pub DW_TAG_variant : ℕ
DW_TAG_variant = 0x19

abbrev pub DW_TAG_common_block : ℕ
DW_TAG_common_block = 0x1a

abbrev pub DW_TAG_common_inclusion : ℕ
DW_TAG_common_inclusion = 0x1b

abbrev pub DW_TAG_inheritance : ℕ
DW_TAG_inheritance = 0x1c

abbrev pub DW_TAG_inlined_subroutine : ℕ
DW_TAG_inlined_subroutine = 0x1d

abbrev pub DW_TAG_module : ℕ
DW_TAG_module = 0x1e

abbrev pub DW_TAG_ptr_to_member_type : ℕ
DW_TAG_ptr_to_member_type = 0x1f

abbrev pub DW_TAG_set_type : ℕ
DW_TAG_set_type = 0x20

abbrev pub DW_TAG_subrange_type : ℕ
DW_TAG_subrange_type = 0x21

abbrev pub DW_TAG_with_stmt : ℕ
DW_TAG_with_stmt = 0x22

abbrev pub DW_TAG_access_declaration : ℕ
DW_TAG_access_declaration = 0x23

abbrev pub DW_TAG_base_type : ℕ
DW_TAG_base_type = 0x24

abbrev pub DW_TAG_catch_block : ℕ
DW_TAG_catch_block = 0x25

abbrev pub DW_TAG_const_type : ℕ
DW_TAG_const_type = 0x26

abbrev pub DW_TAG_constant : ℕ
DW_TAG_constant = 0x27

abbrev pub DW_TAG_enumerator : ℕ
DW_TAG_enumerator = 0x28

abbrev pub DW_TAG_file_type : ℕ
DW_TAG_file_type = 0x29

abbrev pub DW_TAG_friend : ℕ
DW_TAG_friend = 0x2a

abbrev pub DW_TAG_namelist : ℕ
DW_TAG_namelist = 0x2b

abbrev pub DW_TAG_namelist_item : ℕ
DW_TAG_namelist_item = 0x2c

abbrev pub DW_TAG_packed_type : ℕ
DW_TAG_packed_type = 0x2d

abbrev pub DW_TAG_subprogram : ℕ
DW_TAG_subprogram = 0x2e

abbrev pub DW_TAG_template_type_parameter : ℕ
DW_TAG_template_type_parameter = 0x2f

abbrev pub DW_TAG_template_value_parameter : ℕ
DW_TAG_template_value_parameter = 0x30

abbrev pub DW_TAG_thrown_type : ℕ
DW_TAG_thrown_type = 0x31

abbrev pub DW_TAG_try_block : ℕ
DW_TAG_try_block = 0x32

abbrev pub DW_TAG_variant_part : ℕ
DW_TAG_variant_part = 0x33

abbrev pub DW_TAG_variable : ℕ
DW_TAG_variable = 0x34

abbrev pub DW_TAG_volatile_type : ℕ
DW_TAG_volatile_type = 0x35

abbrev pub DW_TAG_dwarf_procedure : ℕ
DW_TAG_dwarf_procedure = 0x36

abbrev pub DW_TAG_restrict_type : ℕ
DW_TAG_restrict_type = 0x37

abbrev pub DW_TAG_interface_type : ℕ
DW_TAG_interface_type = 0x38

abbrev pub DW_TAG_namespace : ℕ
DW_TAG_namespace = 0x39

abbrev pub DW_TAG_imported_module : ℕ
DW_TAG_imported_module = 0x3a

abbrev pub DW_TAG_unspecified_type : ℕ
DW_TAG_unspecified_type = 0x3b

abbrev pub DW_TAG_partial_unit : ℕ
DW_TAG_partial_unit = 0x3c

abbrev pub DW_TAG_imported_unit : ℕ
DW_TAG_imported_unit = 0x3d

abbrev pub DW_TAG_condition : ℕ
DW_TAG_condition = 0x3f

abbrev pub DW_TAG_shared_type : ℕ
DW_TAG_shared_type = 0x40

abbrev pub DW_TAG_type_unit : ℕ
DW_TAG_type_unit = 0x41

abbrev pub DW_TAG_rvalue_reference_type : ℕ
DW_TAG_rvalue_reference_type = 0x42

abbrev pub DW_TAG_template_alias : ℕ
DW_TAG_template_alias = 0x43

abbrev pub DW_TAG_coarray_type : ℕ
DW_TAG_coarray_type = 0x44

abbrev pub DW_TAG_generic_subrange : ℕ
DW_TAG_generic_subrange = 0x45

abbrev pub DW_TAG_dynamic_type : ℕ
DW_TAG_dynamic_type = 0x46

abbrev pub DW_TAG_atomic_type : ℕ
DW_TAG_atomic_type = 0x47

abbrev pub DW_TAG_call_site : ℕ
DW_TAG_call_site = 0x48

abbrev pub DW_TAG_call_site_parameter : ℕ
DW_TAG_call_site_parameter = 0x49

abbrev pub DW_TAG_skeleton_unit : ℕ
DW_TAG_skeleton_unit = 0x4a

abbrev pub DW_TAG_immutable_type : ℕ
DW_TAG_immutable_type = 0x4b

abbrev pub DW_TAG_GNU_template_template_param : ℕ
DW_TAG_GNU_template_template_param = 0x4106

abbrev pub DW_TAG_GNU_template_parameter_pack : ℕ
DW_TAG_GNU_template_parameter_pack = 0x4107

abbrev pub DW_TAG_GNU_call_site : ℕ
DW_TAG_GNU_call_site = 0x4109

-- DWARF 5, section 7.5.4, table 7.5: attributes.
abbrev pub DW_AT_sibling : ℕ
DW_AT_sibling = 0x01

abbrev pub DW_AT_location : ℕ
DW_AT_location = 0x02

abbrev pub DW_AT_name : ℕ
DW_AT_name = 0x03

abbrev pub DW_AT_ordering : ℕ
DW_AT_ordering = 0x09

abbrev pub DW_AT_byte_size : ℕ
DW_AT_byte_size = 0x0b

abbrev pub DW_AT_bit_offset : ℕ
DW_AT_bit_offset = 0x0c

abbrev pub DW_AT_bit_size : ℕ
DW_AT_bit_size = 0x0d

abbrev pub DW_AT_stmt_list : ℕ
DW_AT_stmt_list = 0x10

abbrev pub DW_AT_low_pc : ℕ
DW_AT_low_pc = 0x11

abbrev pub DW_AT_high_pc : ℕ
DW_AT_high_pc = 0x12

abbrev pub DW_AT_language : ℕ
DW_AT_language = 0x13

abbrev pub DW_AT_discr : ℕ
DW_AT_discr = 0x15

abbrev pub DW_AT_discr_value : ℕ
DW_AT_discr_value = 0x16

abbrev pub DW_AT_visibility : ℕ
DW_AT_visibility = 0x17

abbrev pub DW_AT_import : ℕ
DW_AT_import = 0x18

abbrev pub DW_AT_string_length : ℕ
DW_AT_string_length = 0x19

abbrev pub DW_AT_common_reference : ℕ
DW_AT_common_reference = 0x1a

abbrev pub DW_AT_comp_dir : ℕ
DW_AT_comp_dir = 0x1b

abbrev pub DW_AT_const_value : ℕ
DW_AT_const_value = 0x1c

abbrev pub DW_AT_containing_type : ℕ
DW_AT_containing_type = 0x1d

abbrev pub DW_AT_default_value : ℕ
DW_AT_default_value = 0x1e

abbrev pub DW_AT_inline : ℕ
DW_AT_inline = 0x20

abbrev pub DW_AT_is_optional : ℕ
DW_AT_is_optional = 0x21

abbrev pub DW_AT_lower_bound : ℕ
DW_AT_lower_bound = 0x22

abbrev pub DW_AT_producer : ℕ
DW_AT_producer = 0x25

abbrev pub DW_AT_prototyped : ℕ
DW_AT_prototyped = 0x27

abbrev pub DW_AT_return_addr : ℕ
DW_AT_return_addr = 0x2a

abbrev pub DW_AT_start_scope : ℕ
DW_AT_start_scope = 0x2c

abbrev pub DW_AT_bit_stride : ℕ
DW_AT_bit_stride = 0x2e

abbrev pub DW_AT_upper_bound : ℕ
DW_AT_upper_bound = 0x2f

abbrev pub DW_AT_abstract_origin : ℕ
DW_AT_abstract_origin = 0x31

abbrev pub DW_AT_accessibility : ℕ
DW_AT_accessibility = 0x32

abbrev pub DW_AT_address_class : ℕ
DW_AT_address_class = 0x33

abbrev pub DW_AT_artificial : ℕ
DW_AT_artificial = 0x34

abbrev pub DW_AT_base_types : ℕ
DW_AT_base_types = 0x35

abbrev pub DW_AT_calling_convention : ℕ
DW_AT_calling_convention = 0x36

abbrev pub DW_AT_count : ℕ
DW_AT_count = 0x37

abbrev pub DW_AT_data_member_location : ℕ
DW_AT_data_member_location = 0x38

abbrev pub DW_AT_decl_column : ℕ
DW_AT_decl_column = 0x39

abbrev pub DW_AT_decl_file : ℕ
DW_AT_decl_file = 0x3a

abbrev pub DW_AT_decl_line : ℕ
DW_AT_decl_line = 0x3b

abbrev pub DW_AT_declaration : ℕ
DW_AT_declaration = 0x3c

abbrev pub DW_AT_discr_list : ℕ
DW_AT_discr_list = 0x3d

abbrev pub DW_AT_encoding : ℕ
DW_AT_encoding = 0x3e

abbrev pub DW_AT_external : ℕ
DW_AT_external = 0x3f

abbrev pub DW_AT_frame_base : ℕ
DW_AT_frame_base = 0x40

abbrev pub DW_AT_friend : ℕ
DW_AT_friend = 0x41

abbrev pub DW_AT_identifier_case : ℕ
DW_AT_identifier_case = 0x42

abbrev pub DW_AT_macro_info : ℕ
DW_AT_macro_info = 0x43

abbrev pub DW_AT_namelist_item : ℕ
DW_AT_namelist_item = 0x44

abbrev pub DW_AT_priority : ℕ
DW_AT_priority = 0x45

abbrev pub DW_AT_segment : ℕ
DW_AT_segment = 0x46

abbrev pub DW_AT_specification : ℕ
DW_AT_specification = 0x47

abbrev pub DW_AT_static_link : ℕ
DW_AT_static_link = 0x48

abbrev pub DW_AT_type : ℕ
DW_AT_type = 0x49

abbrev pub DW_AT_use_location : ℕ
DW_AT_use_location = 0x4a

abbrev pub DW_AT_variable_parameter : ℕ
DW_AT_variable_parameter = 0x4b

abbrev pub DW_AT_virtuality : ℕ
DW_AT_virtuality = 0x4c

abbrev pub DW_AT_vtable_elem_location : ℕ
DW_AT_vtable_elem_location = 0x4d

abbrev pub DW_AT_allocated : ℕ
DW_AT_allocated = 0x4e

abbrev pub DW_AT_associated : ℕ
DW_AT_associated = 0x4f

abbrev pub DW_AT_data_location : ℕ
DW_AT_data_location = 0x50

abbrev pub DW_AT_byte_stride : ℕ
DW_AT_byte_stride = 0x51

abbrev pub DW_AT_entry_pc : ℕ
DW_AT_entry_pc = 0x52

abbrev pub DW_AT_use_UTF8 : ℕ
DW_AT_use_UTF8 = 0x53

abbrev pub DW_AT_extension : ℕ
DW_AT_extension = 0x54

abbrev pub DW_AT_ranges : ℕ
DW_AT_ranges = 0x55

abbrev pub DW_AT_trampoline : ℕ
DW_AT_trampoline = 0x56

abbrev pub DW_AT_call_column : ℕ
DW_AT_call_column = 0x57

abbrev pub DW_AT_call_file : ℕ
DW_AT_call_file = 0x58

abbrev pub DW_AT_call_line : ℕ
DW_AT_call_line = 0x59

abbrev pub DW_AT_description : ℕ
DW_AT_description = 0x5a

abbrev pub DW_AT_binary_scale : ℕ
DW_AT_binary_scale = 0x5b

abbrev pub DW_AT_decimal_scale : ℕ
DW_AT_decimal_scale = 0x5c

abbrev pub DW_AT_small : ℕ
DW_AT_small = 0x5d

abbrev pub DW_AT_decimal_sign : ℕ
DW_AT_decimal_sign = 0x5e

abbrev pub DW_AT_digit_count : ℕ
DW_AT_digit_count = 0x5f

abbrev pub DW_AT_picture_string : ℕ
DW_AT_picture_string = 0x60

abbrev pub DW_AT_mutable : ℕ
DW_AT_mutable = 0x61

abbrev pub DW_AT_threads_scaled : ℕ
DW_AT_threads_scaled = 0x62

abbrev pub DW_AT_explicit : ℕ
DW_AT_explicit = 0x63

abbrev pub DW_AT_object_pointer : ℕ
DW_AT_object_pointer = 0x64

abbrev pub DW_AT_endianity : ℕ
DW_AT_endianity = 0x65

abbrev pub DW_AT_elemental : ℕ
DW_AT_elemental = 0x66

abbrev pub DW_AT_pure : ℕ
DW_AT_pure = 0x67

abbrev pub DW_AT_recursive : ℕ
DW_AT_recursive = 0x68

abbrev pub DW_AT_signature : ℕ
DW_AT_signature = 0x69

abbrev pub DW_AT_main_subprogram : ℕ
DW_AT_main_subprogram = 0x6a

abbrev pub DW_AT_data_bit_offset : ℕ
DW_AT_data_bit_offset = 0x6b

abbrev pub DW_AT_const_expr : ℕ
DW_AT_const_expr = 0x6c

abbrev pub DW_AT_enum_class : ℕ
DW_AT_enum_class = 0x6d

abbrev pub DW_AT_linkage_name : ℕ
DW_AT_linkage_name = 0x6e

abbrev pub DW_AT_string_length_bit_size : ℕ
DW_AT_string_length_bit_size = 0x6f

abbrev pub DW_AT_string_length_byte_size : ℕ
DW_AT_string_length_byte_size = 0x70

abbrev pub DW_AT_rank : ℕ
DW_AT_rank = 0x71

abbrev pub DW_AT_str_offsets_base : ℕ
DW_AT_str_offsets_base = 0x72

abbrev pub DW_AT_addr_base : ℕ
DW_AT_addr_base = 0x73

abbrev pub DW_AT_rnglists_base : ℕ
DW_AT_rnglists_base = 0x74

abbrev pub DW_AT_dwo_id : ℕ
DW_AT_dwo_id = 0x75

abbrev pub DW_AT_dwo_name : ℕ
DW_AT_dwo_name = 0x76

abbrev pub DW_AT_reference : ℕ
DW_AT_reference = 0x77

abbrev pub DW_AT_rvalue_reference : ℕ
DW_AT_rvalue_reference = 0x78

abbrev pub DW_AT_macros : ℕ
DW_AT_macros = 0x79

abbrev pub DW_AT_call_all_calls : ℕ
DW_AT_call_all_calls = 0x7a

abbrev pub DW_AT_call_all_source_calls : ℕ
DW_AT_call_all_source_calls = 0x7b

abbrev pub DW_AT_call_all_tail_calls : ℕ
DW_AT_call_all_tail_calls = 0x7c

abbrev pub DW_AT_call_return_pc : ℕ
DW_AT_call_return_pc = 0x7d

abbrev pub DW_AT_call_value : ℕ
DW_AT_call_value = 0x7e

abbrev pub DW_AT_call_origin : ℕ
DW_AT_call_origin = 0x7f

abbrev pub DW_AT_call_parameter : ℕ
DW_AT_call_parameter = 0x80

abbrev pub DW_AT_call_pc : ℕ
DW_AT_call_pc = 0x81

abbrev pub DW_AT_call_tail_call : ℕ
DW_AT_call_tail_call = 0x82

abbrev pub DW_AT_call_target : ℕ
DW_AT_call_target = 0x83

abbrev pub DW_AT_call_target_clobbered : ℕ
DW_AT_call_target_clobbered = 0x84

abbrev pub DW_AT_call_data_location : ℕ
DW_AT_call_data_location = 0x85

abbrev pub DW_AT_call_data_value : ℕ
DW_AT_call_data_value = 0x86

abbrev pub DW_AT_noreturn : ℕ
DW_AT_noreturn = 0x87

abbrev pub DW_AT_alignment : ℕ
DW_AT_alignment = 0x88

abbrev pub DW_AT_export_symbols : ℕ
DW_AT_export_symbols = 0x89

abbrev pub DW_AT_deleted : ℕ
DW_AT_deleted = 0x8a

abbrev pub DW_AT_defaulted : ℕ
DW_AT_defaulted = 0x8b

abbrev pub DW_AT_loclists_base : ℕ
DW_AT_loclists_base = 0x8c

abbrev pub DW_AT_GNU_dwo_name : ℕ
DW_AT_GNU_dwo_name = 0x2130

-- DWARF 5, section 7.5.6, table 7.6: forms of attribute values.
abbrev pub DW_FORM_addr : ℕ
DW_FORM_addr = 0x01

abbrev pub DW_FORM_block2 : ℕ
DW_FORM_block2 = 0x03

abbrev pub DW_FORM_block4 : ℕ
DW_FORM_block4 = 0x04

abbrev pub DW_FORM_data2 : ℕ
DW_FORM_data2 = 0x05

abbrev pub DW_FORM_data4 : ℕ
DW_FORM_data4 = 0x06

abbrev pub DW_FORM_data8 : ℕ
DW_FORM_data8 = 0x07

abbrev pub DW_FORM_string : ℕ
DW_FORM_string = 0x08

abbrev pub DW_FORM_block : ℕ
DW_FORM_block = 0x09

abbrev pub DW_FORM_block1 : ℕ
DW_FORM_block1 = 0x0a

abbrev pub DW_FORM_data1 : ℕ
DW_FORM_data1 = 0x0b

abbrev pub DW_FORM_flag : ℕ
DW_FORM_flag = 0x0c

abbrev pub DW_FORM_sdata : ℕ
DW_FORM_sdata = 0x0d

abbrev pub DW_FORM_strp : ℕ
DW_FORM_strp = 0x0e

abbrev pub DW_FORM_udata : ℕ
DW_FORM_udata = 0x0f

abbrev pub DW_FORM_ref_addr : ℕ
DW_FORM_ref_addr = 0x10

abbrev pub DW_FORM_ref1 : ℕ
DW_FORM_ref1 = 0x11

abbrev pub DW_FORM_ref2 : ℕ
DW_FORM_ref2 = 0x12

abbrev pub DW_FORM_ref4 : ℕ
DW_FORM_ref4 = 0x13

abbrev pub DW_FORM_ref8 : ℕ
DW_FORM_ref8 = 0x14

abbrev pub DW_FORM_ref_udata : ℕ
DW_FORM_ref_udata = 0x15

abbrev pub DW_FORM_indirect : ℕ
DW_FORM_indirect = 0x16

abbrev pub DW_FORM_sec_offset : ℕ
DW_FORM_sec_offset = 0x17

abbrev pub DW_FORM_exprloc : ℕ
DW_FORM_exprloc = 0x18

abbrev pub DW_FORM_flag_present : ℕ
DW_FORM_flag_present = 0x19

abbrev pub DW_FORM_ref_sig8 : ℕ
DW_FORM_ref_sig8 = 0x20

abbrev pub DW_FORM_strx : ℕ
DW_FORM_strx = 0x1a

abbrev pub DW_FORM_addrx : ℕ
DW_FORM_addrx = 0x1b

abbrev pub DW_FORM_ref_sup4 : ℕ
DW_FORM_ref_sup4 = 0x1c

abbrev pub DW_FORM_strp_sup : ℕ
DW_FORM_strp_sup = 0x1d

abbrev pub DW_FORM_data16 : ℕ
DW_FORM_data16 = 0x1e

abbrev pub DW_FORM_line_strp : ℕ
DW_FORM_line_strp = 0x1f

abbrev pub DW_FORM_implicit_const : ℕ
DW_FORM_implicit_const = 0x21

abbrev pub DW_FORM_loclistx : ℕ
DW_FORM_loclistx = 0x22

abbrev pub DW_FORM_rnglistx : ℕ
DW_FORM_rnglistx = 0x23

abbrev pub DW_FORM_ref_sup8 : ℕ
DW_FORM_ref_sup8 = 0x24

abbrev pub DW_FORM_strx1 : ℕ
DW_FORM_strx1 = 0x25

abbrev pub DW_FORM_strx2 : ℕ
DW_FORM_strx2 = 0x26

abbrev pub DW_FORM_strx3 : ℕ
DW_FORM_strx3 = 0x27

abbrev pub DW_FORM_strx4 : ℕ
DW_FORM_strx4 = 0x28

abbrev pub DW_FORM_addrx1 : ℕ
DW_FORM_addrx1 = 0x29

abbrev pub DW_FORM_addrx2 : ℕ
DW_FORM_addrx2 = 0x2a

abbrev pub DW_FORM_addrx3 : ℕ
DW_FORM_addrx3 = 0x2b

abbrev pub DW_FORM_addrx4 : ℕ
DW_FORM_addrx4 = 0x2c

-- DWARF 5, section 7.7.1, table 7.9: operations of expressions.
abbrev pub DW_OP_addr : ℕ
DW_OP_addr = 0x03

abbrev pub DW_OP_deref : ℕ
DW_OP_deref = 0x06

abbrev pub DW_OP_const1u : ℕ
DW_OP_const1u = 0x08

abbrev pub DW_OP_const1s : ℕ
DW_OP_const1s = 0x09

abbrev pub DW_OP_const2u : ℕ
DW_OP_const2u = 0x0a

abbrev pub DW_OP_const2s : ℕ
DW_OP_const2s = 0x0b

abbrev pub DW_OP_const4u : ℕ
DW_OP_const4u = 0x0c

abbrev pub DW_OP_const4s : ℕ
DW_OP_const4s = 0x0d

abbrev pub DW_OP_const8u : ℕ
DW_OP_const8u = 0x0e

abbrev pub DW_OP_const8s : ℕ
DW_OP_const8s = 0x0f

abbrev pub DW_OP_constu : ℕ
DW_OP_constu = 0x10

abbrev pub DW_OP_consts : ℕ
DW_OP_consts = 0x11

abbrev pub DW_OP_dup : ℕ
DW_OP_dup = 0x12

abbrev pub DW_OP_drop : ℕ
DW_OP_drop = 0x13

abbrev pub DW_OP_over : ℕ
DW_OP_over = 0x14

abbrev pub DW_OP_pick : ℕ
DW_OP_pick = 0x15

abbrev pub DW_OP_swap : ℕ
DW_OP_swap = 0x16

abbrev pub DW_OP_rot : ℕ
DW_OP_rot = 0x17

abbrev pub DW_OP_xderef : ℕ
DW_OP_xderef = 0x18

abbrev pub DW_OP_abs : ℕ
DW_OP_abs = 0x19

abbrev pub DW_OP_and : ℕ
DW_OP_and = 0x1a

abbrev pub DW_OP_div : ℕ
DW_OP_div = 0x1b

abbrev pub DW_OP_minus : ℕ
DW_OP_minus = 0x1c

abbrev pub DW_OP_mod : ℕ
DW_OP_mod = 0x1d

abbrev pub DW_OP_mul : ℕ
DW_OP_mul = 0x1e

abbrev pub DW_OP_neg : ℕ
DW_OP_neg = 0x1f

abbrev pub DW_OP_not : ℕ
DW_OP_not = 0x20

abbrev pub DW_OP_or : ℕ
DW_OP_or = 0x21

abbrev pub DW_OP_plus : ℕ
DW_OP_plus = 0x22

abbrev pub DW_OP_plus_uconst : ℕ
DW_OP_plus_uconst = 0x23

abbrev pub DW_OP_shl : ℕ
DW_OP_shl = 0x24

abbrev pub DW_OP_shr : ℕ
DW_OP_shr = 0x25

abbrev pub DW_OP_shra : ℕ
DW_OP_shra = 0x26

abbrev pub DW_OP_xor : ℕ
DW_OP_xor = 0x27

abbrev pub DW_OP_bra : ℕ
DW_OP_bra = 0x28

abbrev pub DW_OP_eq : ℕ
DW_OP_eq = 0x29

abbrev pub DW_OP_ge : ℕ
DW_OP_ge = 0x2a

abbrev pub DW_OP_gt : ℕ
DW_OP_gt = 0x2b

abbrev pub DW_OP_le : ℕ
DW_OP_le = 0x2c

abbrev pub DW_OP_lt : ℕ
DW_OP_lt = 0x2d

abbrev pub DW_OP_ne : ℕ
DW_OP_ne = 0x2e

abbrev pub DW_OP_skip : ℕ
DW_OP_skip = 0x2f

abbrev pub DW_OP_lit0 : ℕ
DW_OP_lit0 = 0x30

abbrev pub DW_OP_lit1 : ℕ
DW_OP_lit1 = 0x31

abbrev pub DW_OP_lit2 : ℕ
DW_OP_lit2 = 0x32

abbrev pub DW_OP_lit3 : ℕ
DW_OP_lit3 = 0x33

abbrev pub DW_OP_lit4 : ℕ
DW_OP_lit4 = 0x34

abbrev pub DW_OP_lit5 : ℕ
DW_OP_lit5 = 0x35

abbrev pub DW_OP_lit6 : ℕ
DW_OP_lit6 = 0x36

abbrev pub DW_OP_lit7 : ℕ
DW_OP_lit7 = 0x37

abbrev pub DW_OP_lit8 : ℕ
DW_OP_lit8 = 0x38

abbrev pub DW_OP_lit9 : ℕ
DW_OP_lit9 = 0x39

abbrev pub DW_OP_lit10 : ℕ
DW_OP_lit10 = 0x3a

abbrev pub DW_OP_lit11 : ℕ
DW_OP_lit11 = 0x3b

abbrev pub DW_OP_lit12 : ℕ
DW_OP_lit12 = 0x3c

abbrev pub DW_OP_lit13 : ℕ
DW_OP_lit13 = 0x3d

abbrev pub DW_OP_lit14 : ℕ
DW_OP_lit14 = 0x3e

abbrev pub DW_OP_lit15 : ℕ
DW_OP_lit15 = 0x3f

abbrev pub DW_OP_lit16 : ℕ
DW_OP_lit16 = 0x40

abbrev pub DW_OP_lit17 : ℕ
DW_OP_lit17 = 0x41

abbrev pub DW_OP_lit18 : ℕ
DW_OP_lit18 = 0x42

abbrev pub DW_OP_lit19 : ℕ
DW_OP_lit19 = 0x43

abbrev pub DW_OP_lit20 : ℕ
DW_OP_lit20 = 0x44

abbrev pub DW_OP_lit21 : ℕ
DW_OP_lit21 = 0x45

abbrev pub DW_OP_lit22 : ℕ
DW_OP_lit22 = 0x46

abbrev pub DW_OP_lit23 : ℕ
DW_OP_lit23 = 0x47

abbrev pub DW_OP_lit24 : ℕ
DW_OP_lit24 = 0x48

abbrev pub DW_OP_lit25 : ℕ
DW_OP_lit25 = 0x49

abbrev pub DW_OP_lit26 : ℕ
DW_OP_lit26 = 0x4a

abbrev pub DW_OP_lit27 : ℕ
DW_OP_lit27 = 0x4b

abbrev pub DW_OP_lit28 : ℕ
DW_OP_lit28 = 0x4c

abbrev pub DW_OP_lit29 : ℕ
DW_OP_lit29 = 0x4d

abbrev pub DW_OP_lit30 : ℕ
DW_OP_lit30 = 0x4e

abbrev pub DW_OP_lit31 : ℕ
DW_OP_lit31 = 0x4f

abbrev pub DW_OP_reg0 : ℕ
DW_OP_reg0 = 0x50

abbrev pub DW_OP_reg1 : ℕ
DW_OP_reg1 = 0x51

abbrev pub DW_OP_reg2 : ℕ
DW_OP_reg2 = 0x52

abbrev pub DW_OP_reg3 : ℕ
DW_OP_reg3 = 0x53

abbrev pub DW_OP_reg4 : ℕ
DW_OP_reg4 = 0x54

abbrev pub DW_OP_reg5 : ℕ
DW_OP_reg5 = 0x55

abbrev pub DW_OP_reg6 : ℕ
DW_OP_reg6 = 0x56

abbrev pub DW_OP_reg7 : ℕ
DW_OP_reg7 = 0x57

abbrev pub DW_OP_reg8 : ℕ
DW_OP_reg8 = 0x58

abbrev pub DW_OP_reg9 : ℕ
DW_OP_reg9 = 0x59

abbrev pub DW_OP_reg10 : ℕ
DW_OP_reg10 = 0x5a

abbrev pub DW_OP_reg11 : ℕ
DW_OP_reg11 = 0x5b

abbrev pub DW_OP_reg12 : ℕ
DW_OP_reg12 = 0x5c

abbrev pub DW_OP_reg13 : ℕ
DW_OP_reg13 = 0x5d

abbrev pub DW_OP_reg14 : ℕ
DW_OP_reg14 = 0x5e

abbrev pub DW_OP_reg15 : ℕ
DW_OP_reg15 = 0x5f

abbrev pub DW_OP_reg16 : ℕ
DW_OP_reg16 = 0x60

abbrev pub DW_OP_reg17 : ℕ
DW_OP_reg17 = 0x61

abbrev pub DW_OP_reg18 : ℕ
DW_OP_reg18 = 0x62

abbrev pub DW_OP_reg19 : ℕ
DW_OP_reg19 = 0x63

abbrev pub DW_OP_reg20 : ℕ
DW_OP_reg20 = 0x64

abbrev pub DW_OP_reg21 : ℕ
DW_OP_reg21 = 0x65

abbrev pub DW_OP_reg22 : ℕ
DW_OP_reg22 = 0x66

abbrev pub DW_OP_reg23 : ℕ
DW_OP_reg23 = 0x67

abbrev pub DW_OP_reg24 : ℕ
DW_OP_reg24 = 0x68

abbrev pub DW_OP_reg25 : ℕ
DW_OP_reg25 = 0x69

abbrev pub DW_OP_reg26 : ℕ
DW_OP_reg26 = 0x6a

abbrev pub DW_OP_reg27 : ℕ
DW_OP_reg27 = 0x6b

abbrev pub DW_OP_reg28 : ℕ
DW_OP_reg28 = 0x6c

abbrev pub DW_OP_reg29 : ℕ
DW_OP_reg29 = 0x6d

abbrev pub DW_OP_reg30 : ℕ
DW_OP_reg30 = 0x6e

abbrev pub DW_OP_reg31 : ℕ
DW_OP_reg31 = 0x6f

abbrev pub DW_OP_breg0 : ℕ
DW_OP_breg0 = 0x70

abbrev pub DW_OP_breg1 : ℕ
DW_OP_breg1 = 0x71

abbrev pub DW_OP_breg2 : ℕ
DW_OP_breg2 = 0x72

abbrev pub DW_OP_breg3 : ℕ
DW_OP_breg3 = 0x73

abbrev pub DW_OP_breg4 : ℕ
DW_OP_breg4 = 0x74

abbrev pub DW_OP_breg5 : ℕ
DW_OP_breg5 = 0x75

abbrev pub DW_OP_breg6 : ℕ
DW_OP_breg6 = 0x76

abbrev pub DW_OP_breg7 : ℕ
DW_OP_breg7 = 0x77

abbrev pub DW_OP_breg8 : ℕ
DW_OP_breg8 = 0x78

abbrev pub DW_OP_breg9 : ℕ
DW_OP_breg9 = 0x79

abbrev pub DW_OP_breg10 : ℕ
DW_OP_breg10 = 0x7a

abbrev pub DW_OP_breg11 : ℕ
DW_OP_breg11 = 0x7b

abbrev pub DW_OP_breg12 : ℕ
DW_OP_breg12 = 0x7c

abbrev pub DW_OP_breg13 : ℕ
DW_OP_breg13 = 0x7d

abbrev pub DW_OP_breg14 : ℕ
DW_OP_breg14 = 0x7e

abbrev pub DW_OP_breg15 : ℕ
DW_OP_breg15 = 0x7f

abbrev pub DW_OP_breg16 : ℕ
DW_OP_breg16 = 0x80

abbrev pub DW_OP_breg17 : ℕ
DW_OP_breg17 = 0x81

abbrev pub DW_OP_breg18 : ℕ
DW_OP_breg18 = 0x82

abbrev pub DW_OP_breg19 : ℕ
DW_OP_breg19 = 0x83

abbrev pub DW_OP_breg20 : ℕ
DW_OP_breg20 = 0x84

abbrev pub DW_OP_breg21 : ℕ
DW_OP_breg21 = 0x85

abbrev pub DW_OP_breg22 : ℕ
DW_OP_breg22 = 0x86

abbrev pub DW_OP_breg23 : ℕ
DW_OP_breg23 = 0x87

abbrev pub DW_OP_breg24 : ℕ
DW_OP_breg24 = 0x88

abbrev pub DW_OP_breg25 : ℕ
DW_OP_breg25 = 0x89

abbrev pub DW_OP_breg26 : ℕ
DW_OP_breg26 = 0x8a

abbrev pub DW_OP_breg27 : ℕ
DW_OP_breg27 = 0x8b

abbrev pub DW_OP_breg28 : ℕ
DW_OP_breg28 = 0x8c

abbrev pub DW_OP_breg29 : ℕ
DW_OP_breg29 = 0x8d

abbrev pub DW_OP_breg30 : ℕ
DW_OP_breg30 = 0x8e

abbrev pub DW_OP_breg31 : ℕ
DW_OP_breg31 = 0x8f

abbrev pub DW_OP_regx : ℕ
DW_OP_regx = 0x90

abbrev pub DW_OP_fbreg : ℕ
DW_OP_fbreg = 0x91

abbrev pub DW_OP_bregx : ℕ
DW_OP_bregx = 0x92

abbrev pub DW_OP_piece : ℕ
DW_OP_piece = 0x93

abbrev pub DW_OP_deref_size : ℕ
DW_OP_deref_size = 0x94

abbrev pub DW_OP_xderef_size : ℕ
DW_OP_xderef_size = 0x95

abbrev pub DW_OP_nop : ℕ
DW_OP_nop = 0x96

abbrev pub DW_OP_push_object_address : ℕ
DW_OP_push_object_address = 0x97

abbrev pub DW_OP_call2 : ℕ
DW_OP_call2 = 0x98

abbrev pub DW_OP_call4 : ℕ
DW_OP_call4 = 0x99

abbrev pub DW_OP_call_ref : ℕ
DW_OP_call_ref = 0x9a

abbrev pub DW_OP_form_tls_address : ℕ
DW_OP_form_tls_address = 0x9b

abbrev pub DW_OP_call_frame_cfa : ℕ
DW_OP_call_frame_cfa = 0x9c

abbrev pub DW_OP_bit_piece : ℕ
DW_OP_bit_piece = 0x9d

abbrev pub DW_OP_implicit_value : ℕ
DW_OP_implicit_value = 0x9e

abbrev pub DW_OP_stack_value : ℕ
DW_OP_stack_value = 0x9f

abbrev pub DW_OP_implicit_pointer : ℕ
DW_OP_implicit_pointer = 0xa0

abbrev pub DW_OP_addrx : ℕ
DW_OP_addrx = 0xa1

abbrev pub DW_OP_constx : ℕ
DW_OP_constx = 0xa2

abbrev pub DW_OP_entry_value : ℕ
DW_OP_entry_value = 0xa3

abbrev pub DW_OP_const_type : ℕ
DW_OP_const_type = 0xa4

abbrev pub DW_OP_regval_type : ℕ
DW_OP_regval_type = 0xa5

abbrev pub DW_OP_deref_type : ℕ
DW_OP_deref_type = 0xa6

abbrev pub DW_OP_xderef_type : ℕ
DW_OP_xderef_type = 0xa7

abbrev pub DW_OP_convert : ℕ
DW_OP_convert = 0xa8

abbrev pub DW_OP_reinterpret : ℕ
DW_OP_reinterpret = 0xa9

abbrev pub DW_OP_GNU_push_tls_address : ℕ
DW_OP_GNU_push_tls_address = 0xe0

abbrev pub DW_OP_GNU_entry_value : ℕ
DW_OP_GNU_entry_value = 0xf3

-- DWARF 5, section 7.12, table 7.17: languages.
abbrev pub DW_LANG_C89 : ℕ
DW_LANG_C89 = 0x01

abbrev pub DW_LANG_C : ℕ
DW_LANG_C = 0x02

abbrev pub DW_LANG_Ada83 : ℕ
DW_LANG_Ada83 = 0x03

abbrev pub DW_LANG_C_plus_plus : ℕ
DW_LANG_C_plus_plus = 0x04

abbrev pub DW_LANG_Cobol74 : ℕ
DW_LANG_Cobol74 = 0x05

abbrev pub DW_LANG_Cobol85 : ℕ
DW_LANG_Cobol85 = 0x06

abbrev pub DW_LANG_Fortran77 : ℕ
DW_LANG_Fortran77 = 0x07

abbrev pub DW_LANG_Fortran90 : ℕ
DW_LANG_Fortran90 = 0x08

abbrev pub DW_LANG_Pascal83 : ℕ
DW_LANG_Pascal83 = 0x09

abbrev pub DW_LANG_Modula2 : ℕ
DW_LANG_Modula2 = 0x0a

abbrev pub DW_LANG_Java : ℕ
DW_LANG_Java = 0x0b

abbrev pub DW_LANG_C99 : ℕ
DW_LANG_C99 = 0x0c

abbrev pub DW_LANG_Ada95 : ℕ
DW_LANG_Ada95 = 0x0d

abbrev pub DW_LANG_Fortran95 : ℕ
DW_LANG_Fortran95 = 0x0e

abbrev pub DW_LANG_PLI : ℕ
DW_LANG_PLI = 0x0f

abbrev pub DW_LANG_ObjC : ℕ
DW_LANG_ObjC = 0x10

abbrev pub DW_LANG_ObjC_plus_plus : ℕ
DW_LANG_ObjC_plus_plus = 0x11

abbrev pub DW_LANG_UPC : ℕ
DW_LANG_UPC = 0x12

abbrev pub DW_LANG_D : ℕ
DW_LANG_D = 0x13

abbrev pub DW_LANG_Python : ℕ
DW_LANG_Python = 0x14

abbrev pub DW_LANG_OpenCL : ℕ
DW_LANG_OpenCL = 0x15

abbrev pub DW_LANG_Go : ℕ
DW_LANG_Go = 0x16

abbrev pub DW_LANG_Modula3 : ℕ
DW_LANG_Modula3 = 0x17

abbrev pub DW_LANG_Haskell : ℕ
DW_LANG_Haskell = 0x18

abbrev pub DW_LANG_C_plus_plus_03 : ℕ
DW_LANG_C_plus_plus_03 = 0x19

abbrev pub DW_LANG_C_plus_plus_11 : ℕ
DW_LANG_C_plus_plus_11 = 0x1a

abbrev pub DW_LANG_OCaml : ℕ
DW_LANG_OCaml = 0x1b

abbrev pub DW_LANG_Rust : ℕ
DW_LANG_Rust = 0x1c

abbrev pub DW_LANG_C11 : ℕ
DW_LANG_C11 = 0x1d

abbrev pub DW_LANG_Swift : ℕ
DW_LANG_Swift = 0x1e

abbrev pub DW_LANG_Julia : ℕ
DW_LANG_Julia = 0x1f

abbrev pub DW_LANG_Dylan : ℕ
DW_LANG_Dylan = 0x20

abbrev pub DW_LANG_C_plus_plus_14 : ℕ
DW_LANG_C_plus_plus_14 = 0x21

abbrev pub DW_LANG_Fortran03 : ℕ
DW_LANG_Fortran03 = 0x22

abbrev pub DW_LANG_Fortran08 : ℕ
DW_LANG_Fortran08 = 0x23

abbrev pub DW_LANG_RenderScript : ℕ
DW_LANG_RenderScript = 0x24

abbrev pub DW_LANG_BLISS : ℕ
DW_LANG_BLISS = 0x25

-- DWARF 5, section 7.22, table 7.25: standard operations of line programs.
abbrev pub DW_LNS_extended_op : ℕ
DW_LNS_extended_op = 0x00

abbrev pub DW_LNS_copy : ℕ
DW_LNS_copy = 0x01

abbrev pub DW_LNS_advance_pc : ℕ
DW_LNS_advance_pc = 0x02

abbrev pub DW_LNS_advance_line : ℕ
DW_LNS_advance_line = 0x03

abbrev pub DW_LNS_set_file : ℕ
DW_LNS_set_file = 0x04

abbrev pub DW_LNS_set_column : ℕ
DW_LNS_set_column = 0x05

abbrev pub DW_LNS_negate_stmt : ℕ
DW_LNS_negate_stmt = 0x06

abbrev pub DW_LNS_set_basic_block : ℕ
DW_LNS_set_basic_block = 0x07

abbrev pub DW_LNS_const_add_pc : ℕ
DW_LNS_const_add_pc = 0x08

abbrev pub DW_LNS_fixed_advance_pc : ℕ
DW_LNS_fixed_advance_pc = 0x09

abbrev pub DW_LNS_set_prologue_end : ℕ
DW_LNS_set_prologue_end = 0x0a

abbrev pub DW_LNS_set_epilogue_begin : ℕ
DW_LNS_set_epilogue_begin = 0x0b

abbrev pub DW_LNS_set_isa : ℕ
DW_LNS_set_isa = 0x0c

-- DWARF 5, section 7.22, table 7.26: extended operations of line programs.
abbrev pub DW_LNE_end_sequence : ℕ
DW_LNE_end_sequence = 0x01

abbrev pub DW_LNE_set_address : ℕ
DW_LNE_set_address = 0x02

abbrev pub DW_LNE_define_file : ℕ
DW_LNE_define_file = 0x03

abbrev pub DW_LNE_set_discriminator : ℕ
DW_LNE_set_discriminator = 0x04

-- DWARF 5, section 7.22, table 7.27: contents of line table entries.
abbrev pub DW_LNCT_path : ℕ
DW_LNCT_path = 0x01

abbrev pub DW_LNCT_directory_index : ℕ
DW_LNCT_directory_index = 0x02

abbrev pub DW_LNCT_timestamp : ℕ
DW_LNCT_timestamp = 0x03

abbrev pub DW_LNCT_size : ℕ
DW_LNCT_size = 0x04

abbrev pub DW_LNCT_MD5 : ℕ
DW_LNCT_MD5 = 0x05

-- DWARF 5, section 7.25, table 7.30: kinds of range list entries.
abbrev pub DW_RLE_end_of_list : ℕ
DW_RLE_end_of_list = 0x00

abbrev pub DW_RLE_base_addressx : ℕ
DW_RLE_base_addressx = 0x01

abbrev pub DW_RLE_startx_endx : ℕ
DW_RLE_startx_endx = 0x02

abbrev pub DW_RLE_startx_length : ℕ
DW_RLE_startx_length = 0x03

abbrev pub DW_RLE_offset_pair : ℕ
DW_RLE_offset_pair = 0x04

abbrev pub DW_RLE_base_address : ℕ
DW_RLE_base_address = 0x05

abbrev pub DW_RLE_start_end : ℕ
DW_RLE_start_end = 0x06

abbrev pub DW_RLE_start_length : ℕ
DW_RLE_start_length = 0x07

-- DWARF 5, section 7.7.3, table 7.10: kinds of location list entries.
abbrev pub DW_LLE_end_of_list : ℕ
DW_LLE_end_of_list = 0x00

abbrev pub DW_LLE_base_addressx : ℕ
DW_LLE_base_addressx = 0x01

abbrev pub DW_LLE_startx_endx : ℕ
DW_LLE_startx_endx = 0x02

abbrev pub DW_LLE_startx_length : ℕ
DW_LLE_startx_length = 0x03

abbrev pub DW_LLE_offset_pair : ℕ
DW_LLE_offset_pair = 0x04

abbrev pub DW_LLE_default_location : ℕ
DW_LLE_default_location = 0x05

abbrev pub DW_LLE_base_address : ℕ
DW_LLE_base_address = 0x06

abbrev pub DW_LLE_start_end : ℕ
DW_LLE_start_end = 0x07

abbrev pub DW_LLE_start_length : ℕ
DW_LLE_start_length = 0x08

-- DWARF 5, section 7.5.1, table 7.2: kinds of units.
abbrev pub DW_UT_compile : ℕ
DW_UT_compile = 0x01

abbrev pub DW_UT_type : ℕ
DW_UT_type = 0x02

abbrev pub DW_UT_partial : ℕ
DW_UT_partial = 0x03

abbrev pub DW_UT_skeleton : ℕ
DW_UT_skeleton = 0x04

abbrev pub DW_UT_split_compile : ℕ
DW_UT_split_compile = 0x05

abbrev pub DW_UT_split_type : ℕ
DW_UT_split_type = 0x06

-- The versions of units that are read and written (DWARF 4, section 7.5.1.1; DWARF 5, section 7.5.1).
abbrev pub DWARF_4 : ℕ
DWARF_4 = 4

abbrev pub DWARF_5 : ℕ
DWARF_5 = 5

-- DWARF 5, section 7.2.2: lengths.
-- "The values 0xfffffff0 through 0xffffffff are reserved" for lengths.
abbrev pub LENGTH_RESERVED : ℕ
LENGTH_RESERVED = 0xfffffff0

-- DWARF 5, section 7.24: call frame information.
-- The id of a CIE.
abbrev pub DW_CIE_ID : ℕ
DW_CIE_ID = 0xffffffff

-- DWARF 4, section 7.4, the 32-bit format: the bytes of an address of the targets, of an offset, and of the header of a unit of version 4 (section 7.5.1.1). DWARF 5: of the header of a compile unit (section 7.5.1.1).
abbrev pub ADDRESS_SIZE : ℕ
ADDRESS_SIZE = 8

abbrev pub OFFSET_SIZE : ℕ
OFFSET_SIZE = 4

abbrev pub UNIT_HEADER_SIZE : ℕ
UNIT_HEADER_SIZE = 11

abbrev pub UNIT_5_HEADER_SIZE : ℕ
UNIT_5_HEADER_SIZE = 12

-- The line programs that are written (DWARF 4, section 6.2.4): line_base, which is -5, line_range and opcode_base.
abbrev pub LINE_BASE : ℕ
LINE_BASE = 0xfb

abbrev pub LINE_RANGE : ℕ
LINE_RANGE = 14

abbrev pub OPCODE_BASE : ℕ
OPCODE_BASE = 13

-- Apple's accelerator tables (LLVM's `AppleAcceleratorTable`, and its "Source Level Debugging with LLVM"): the magic number "HASH", the version, the hash function of Daniel J. Bernstein with its first value, and the one atom that is written.
abbrev pub APPLE_HASH_MAGIC : ℕ
APPLE_HASH_MAGIC = 0x48415348

abbrev pub APPLE_HASH_VERSION : ℕ
APPLE_HASH_VERSION = 1

abbrev pub DW_hash_function_djb : ℕ
DW_hash_function_djb = 0

abbrev pub DJB_HASH_START : ℕ
DJB_HASH_START = 5381

abbrev pub DW_ATOM_die_offset : ℕ
DW_ATOM_die_offset = 1
