-- Entries told by their addresses: which are linked, and which were left behind.
use Rattle.std.proofs.Common.{◌≡◌, ℕ, true, false, Option, Some, None, List, [], ◌∷◌, refl}
use Rattle.ds_base.specs.DwarfNumbers.{DW_AT_location, DW_AT_low_pc, DW_AT_ranges, DW_OP_addr, DW_OP_fbreg, DW_TAG_GNU_call_site, DW_TAG_inlined_subroutine, DW_TAG_lexical_block, DW_TAG_subprogram, DW_TAG_variable}
use Rattle.dwarf_types.specs.declared.address.Addr.TheVariants as addrs
use Rattle.dwarf_types.specs.declared.address.Place.{Place}
use Rattle.dwarf_types.specs.declared.address.Span.{Span}
use Rattle.dwarf_types.specs.declared.entry.Entry.{Entry}
use Rattle.dwarf_types.specs.declared.expr.Op.{Op}
use Rattle.dwarf_types.specs.declared.value.Value.{Value}
use Rattle.dwarf_types.specs.declared.value.Value.TheVariants as values
use Rattle.dwarf_types.specs.Live.{is_left_behind, low_pc_moves}
use Rattle.dwarf_types.specs.Moves.{location_moves}

-- an entry of a tag that says one thing
abbrev entry : ℕ → ℕ → Value → Entry
entry tag name value = record { parent = Some 0; unit = 0; place = 0; tag = tag; attrs = record { name = name; form = 0; value = value } ∷ [] }

-- an address that did not move, one that moved as a start, and one that moved as an end
abbrev stayed : Place
stayed = record { at = addrs.Placed 0x10; linked = None; linked_end = None }

abbrev moved : Place
moved = record { at = addrs.Placed 0x10; linked = Some 0x1000; linked_end = None }

abbrev ended : Place
ended = record { at = addrs.Placed 0x10; linked = None; linked_end = Some 0x1000 }

abbrev piece : Span
piece = record { low = 0; high = 4 }

-- an expression of one operation
abbrev operation : ℕ → Option Place → List Op
operation code address = record { code = code; bytes = []; address = address; base = None; inner = [] } ∷ []

-- ---- linked code

a_linked_function : low_pc_moves (entry DW_TAG_subprogram DW_AT_low_pc (values.Address moved)) ≡ true
a_linked_function = refl

a_function_that_was_not_linked : low_pc_moves (entry DW_TAG_subprogram DW_AT_low_pc (values.Address stayed)) ≡ false
a_function_that_was_not_linked = refl

a_function_with_ranges : low_pc_moves (entry DW_TAG_subprogram DW_AT_ranges (values.Ranges (piece ∷ []))) ≡ false
a_function_with_ranges = refl

-- ---- linked data

a_linked_variable : location_moves (entry DW_TAG_variable DW_AT_location (values.Expr (operation DW_OP_addr (Some moved)))) ≡ true
a_linked_variable = refl

a_variable_that_was_not_linked : location_moves (entry DW_TAG_variable DW_AT_location (values.Expr (operation DW_OP_addr (Some stayed)))) ≡ false
a_variable_that_was_not_linked = refl

a_variable_with_a_location_list : location_moves (entry DW_TAG_variable DW_AT_location (values.Locations (record { span = piece; ops = operation DW_OP_addr (Some moved) } ∷ []))) ≡ false
a_variable_with_a_location_list = refl

-- ---- what is left behind by a live parent

a_block_that_was_not_linked : is_left_behind (entry DW_TAG_lexical_block DW_AT_low_pc (values.Address stayed)) ≡ true
a_block_that_was_not_linked = refl

a_block_without_a_piece : is_left_behind (entry DW_TAG_lexical_block DW_AT_ranges (values.Ranges [])) ≡ true
a_block_without_a_piece = refl

a_linked_inlined_function : is_left_behind (entry DW_TAG_inlined_subroutine DW_AT_low_pc (values.Address moved)) ≡ false
a_linked_inlined_function = refl

a_variable_without_an_address : is_left_behind (entry DW_TAG_variable DW_AT_location (values.Expr (operation DW_OP_fbreg None))) ≡ false
a_variable_without_an_address = refl

-- a call returns to an end
a_call_that_returns_to_linked_code : is_left_behind (entry DW_TAG_GNU_call_site DW_AT_low_pc (values.Address ended)) ≡ false
a_call_that_returns_to_linked_code = refl

a_call_before_linked_code : is_left_behind (entry DW_TAG_GNU_call_site DW_AT_low_pc (values.Address moved)) ≡ true
a_call_before_linked_code = refl
