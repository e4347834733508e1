-- The table of operations (DWARF 4, section 7.7.1, figure 24; DWARF 5, section 7.7.1, table 7.9; GNU's own from 0xe0 on).
use Rattle.std.specs.Prelude.{ℕ, ◌==◌, ◌&&◌, ◌||◌, Bool, Option, Some, None, nat_le, if◌then◌else◌}
use Rattle.ds_base.specs.DwarfNumbers.{DW_OP_GNU_entry_value, DW_OP_GNU_push_tls_address, DW_OP_abs, DW_OP_addr, DW_OP_addrx, DW_OP_bit_piece, DW_OP_bra, DW_OP_breg0, DW_OP_breg31, DW_OP_bregx, DW_OP_call2, DW_OP_call4, DW_OP_call_frame_cfa, DW_OP_call_ref, DW_OP_const1s, DW_OP_const1u, DW_OP_const2s, DW_OP_const2u, DW_OP_const4s, DW_OP_const4u, DW_OP_const8s, DW_OP_const8u, DW_OP_const_type, DW_OP_consts, DW_OP_constu, DW_OP_constx, DW_OP_convert, DW_OP_deref, DW_OP_deref_size, DW_OP_deref_type, DW_OP_drop, DW_OP_dup, DW_OP_entry_value, DW_OP_eq, DW_OP_fbreg, DW_OP_form_tls_address, DW_OP_implicit_pointer, DW_OP_implicit_value, DW_OP_lit0, DW_OP_ne, DW_OP_nop, DW_OP_over, DW_OP_pick, DW_OP_piece, DW_OP_plus, DW_OP_plus_uconst, DW_OP_push_object_address, DW_OP_reg31, DW_OP_regval_type, DW_OP_regx, DW_OP_reinterpret, DW_OP_rot, DW_OP_shl, DW_OP_skip, DW_OP_stack_value, DW_OP_swap, DW_OP_xderef, DW_OP_xderef_size, DW_OP_xderef_type, DW_OP_xor}
use Rattle.dwarf_types.specs.declared.operands.Operands.{Operands}
use Rattle.dwarf_types.specs.declared.operands.Operands.TheVariants.{Empty, Address, Fixed, Uleb, Sleb, UlebSleb, UlebUleb, Block, Expression, BaseBlock, UlebBase, ByteBase, Base, Index, Outside}

-- a code is one of a row of codes
abbrev pub is_within : ℕ → ℕ → ℕ → Bool
is_within low high code = nat_le low code && nat_le code high

-- the operations that are their code alone
unfoldable pub has_no_operands : ℕ → Bool
has_no_operands code =
    is_within DW_OP_abs DW_OP_plus code
    || (is_within DW_OP_shl DW_OP_xor code
    || (is_within DW_OP_eq DW_OP_ne code
    || (is_within DW_OP_lit0 DW_OP_reg31 code
    || (code == DW_OP_deref
    || (code == DW_OP_dup
    || (code == DW_OP_drop
    || (code == DW_OP_over
    || (code == DW_OP_swap
    || (code == DW_OP_rot
    || (code == DW_OP_xderef
    || (code == DW_OP_nop
    || (code == DW_OP_push_object_address
    || (code == DW_OP_form_tls_address
    || (code == DW_OP_call_frame_cfa
    || (code == DW_OP_stack_value
    || code == DW_OP_GNU_push_tls_address)))))))))))))))

-- the operands of an operation, if there is an operation of the code
unfoldable pub operands_of : ℕ → Option Operands
operands_of code =
    if has_no_operands code then Some Empty
    else if code == DW_OP_addr then Some Address
    else if code == DW_OP_const1u || code == DW_OP_const1s || code == DW_OP_pick then Some (Fixed 1)
    else if code == DW_OP_deref_size || code == DW_OP_xderef_size then Some (Fixed 1)
    else if code == DW_OP_const2u || code == DW_OP_const2s then Some (Fixed 2)
    else if code == DW_OP_skip || code == DW_OP_bra then Some (Fixed 2)
    else if code == DW_OP_const4u || code == DW_OP_const4s then Some (Fixed 4)
    else if code == DW_OP_const8u || code == DW_OP_const8s then Some (Fixed 8)
    else if code == DW_OP_constu || code == DW_OP_plus_uconst then Some Uleb
    else if code == DW_OP_regx || code == DW_OP_piece then Some Uleb
    else if code == DW_OP_consts || code == DW_OP_fbreg then Some Sleb
    else if is_within DW_OP_breg0 DW_OP_breg31 code then Some Sleb
    else if code == DW_OP_bregx then Some UlebSleb
    else if code == DW_OP_bit_piece then Some UlebUleb
    else if code == DW_OP_implicit_value then Some Block
    else if code == DW_OP_entry_value || code == DW_OP_GNU_entry_value then Some Expression
    else if code == DW_OP_const_type then Some BaseBlock
    else if code == DW_OP_regval_type then Some UlebBase
    else if code == DW_OP_deref_type then Some ByteBase
    else if code == DW_OP_convert || code == DW_OP_reinterpret then Some Base
    else if code == DW_OP_call2 || code == DW_OP_call4 || code == DW_OP_call_ref then Some Outside
    else if code == DW_OP_implicit_pointer || code == DW_OP_xderef_type then Some Outside
    else if code == DW_OP_addrx || code == DW_OP_constx then Some Index
    else None
