-- Expressions: their operations, what these mean, or the first fault (DWARF 4 and 5, sections 2.5 and 7.7.1).
use Rattle.std.proofs.Common.{◌≡◌, ℕ, List, [], ◌∷◌, Some, None, Ok, Err, refl}
use Rattle.ds_base.specs.declared.fault.Fault.{Fault}
use Rattle.ds_base.specs.declared.fault.Kind.{Kind}
use Rattle.ds_base.specs.declared.fault.Kind.TheVariants as kinds
use Rattle.ds_base.specs.declared.fault.Part.TheVariants as parts
use Rattle.ds_base.specs.Reading.{bytes_at, leb_at, number_at, sleb_at, uleb_at}
use Rattle.dwarf_types.specs.declared.address.Addr.TheVariants as addrs
use Rattle.dwarf_types.specs.declared.address.Place.{Place}
use Rattle.dwarf_types.specs.declared.expr.Base.{Base}
use Rattle.dwarf_types.specs.declared.expr.Base.TheVariants as bases
use Rattle.dwarf_types.specs.declared.expr.Op.{Op}
use Rattle.dwarf_types.specs.Operations.{has_no_operands, operands_of}
use Rattle.index_tables.specs.Tables.{address_count, address_place, is_address_table, is_table}
use Rattle.reloc_table.specs.Address.{address_of}
use Rattle.expr_walk.specs.Length.{ops_len}
use Rattle.expr_walk.specs.Reading.{base_block_at, block_at, bytes_up_to, code_at, entry_value_from, inner_of, op_at, op_from, operands_at, plain_at, plain_from, walk_of}
use Rattle.expr_resolve.specs.Context.{Context}
use Rattle.expr_resolve.specs.Expressions.{expression_of}
use Rattle.reader_tests.specs.declared.bytes.TheConstants.{CUT, NAMING}
use Rattle.reader_tests.proofs.Object.{image, map, sections, two}

-- what an expression computes with
reading : Unit {0}
unfolding walk_of op_at op_from entry_value_from inner_of plain_at plain_from code_at operands_at block_at base_block_at bytes_up_to operands_of has_no_operands bytes_at number_at uleb_at sleb_at leb_at
reading = tt

understanding : Unit {0}
unfolding reading expression_of address_of address_place address_count is_address_table is_table
understanding = tt

-- an operation that holds and names nothing, and one that names a base type
abbrev plain : ℕ → List ℕ → Op
plain code bytes = record { code = code; bytes = bytes; address = None; base = None; inner = [] }

abbrev typed : ℕ → List ℕ → Base → Op
typed code bytes base = record (plain code bytes) { base = Some base }

-- ---- operations, cut

-- a number that went nowhere
abbrev number : ℕ → Place
number n = record { at = addrs.Fixed n; linked = None; linked_end = None }

abbrev cut : List Op
cut =
    record (plain 3 (3 ∷ 0 ∷ 0 ∷ 0 ∷ 0 ∷ 0 ∷ 0 ∷ 0 ∷ 0 ∷ [])) { address = Some (number 0) }
    ∷ plain 0x9f (0x9f ∷ []) ∷ plain 0x92 (0x92 ∷ 0x81 ∷ 1 ∷ 0x78 ∷ []) ∷ plain 0x9d (0x9d ∷ 0x85 ∷ 2 ∷ 3 ∷ [])
    ∷ typed 0xa8 (0xa8 ∷ 0x2a ∷ []) (bases.Entry 0x2a) ∷ typed 0xa8 (0xa8 ∷ 0 ∷ []) bases.Generic
    ∷ record (plain 0xa3 (0xa3 ∷ 1 ∷ 0x55 ∷ [])) { inner = record { code = 0x55; bytes = 0x55 ∷ []; address = None; base = None } ∷ [] }
    ∷ plain 0x9f (0x9f ∷ []) ∷ []

operations : walk_of CUT parts.Info 0x100 4 ≡ Ok cut
unfolding reading
operations = refl

-- in the output they take 10, 8, 5, 5 and 4 bytes, since the number of a base type takes four there, also that of the generic type
their_length_in_the_output : ops_len cut ≡ 32
unfolding reading
their_length_in_the_output = refl

-- ---- operations, understood

-- an expression of unit 1, of a version, whose first byte stands at 0xd0, in an object of which entry 7 is a base type at 0xfa
abbrev context : ℕ → Context
context version = record {
  image = image;
  map = map;
  bases = record { entry = 7; unit = 1; place = 0xfa } ∷ [];
  part = parts.Info;
  relocs = two 0 8;
  unit = 1;
  start = 0xd0;
  version = version;
  sections = sections [];
  addresses = two 8 16;
  addr_base = 8;
}

-- the address 0x20, where the range begins; no address before it is in the range, so it is no end of one there
abbrev address : Place
address = record { at = addrs.Placed 0x20; linked = Some 0x100002000; linked_end = None }

their_operands : expression_of (context 5) NAMING 0x100 ≡ Ok (
    record (plain 3 (3 ∷ 0x20 ∷ 0 ∷ 0 ∷ 0 ∷ 0 ∷ 0 ∷ 0 ∷ 0 ∷ [])) { address = Some address }
    ∷ record (plain 3 (3 ∷ 0x20 ∷ 0 ∷ 0 ∷ 0 ∷ 0 ∷ 0 ∷ 0 ∷ 0 ∷ [])) { address = Some (number 0x20) }
    ∷ typed 0xa8 (0xa8 ∷ 0x2a ∷ []) (bases.Entry 7)
    ∷ record (plain 0xa3 (0xa3 ∷ 3 ∷ 0x96 ∷ 0xa8 ∷ 0x2a ∷ [])) {
      inner = record { code = 0x96; bytes = 0x96 ∷ []; address = None; base = None } ∷ record { code = 0xa8; bytes = 0xa8 ∷ 0x2a ∷ []; address = None; base = Some (bases.Entry 7) } ∷ [];
    } ∷ [])
unfolding understanding
their_operands = refl

-- ---- first faults of expressions that begin at 0x100

abbrev fault : Kind → ℕ → Fault
fault kind place = record { kind = kind; section = parts.Info; place = place }

an_unknown_operation : expression_of (context 4) (0x96 ∷ 4 ∷ []) 0x100 ≡ Err (fault kinds.UnknownOp 0x101)
unfolding understanding
an_unknown_operation = refl

a_call : expression_of (context 4) (0x96 ∷ 0x99 ∷ []) 0x100 ≡ Err (fault kinds.OpOutsideProfile 0x101)
unfolding understanding
a_call = refl

a_cut_operand : expression_of (context 4) (0x96 ∷ 3 ∷ 1 ∷ 2 ∷ []) 0x100 ≡ Err (fault kinds.Truncated 0x102)
unfolding understanding
a_cut_operand = refl

a_number_that_is_too_wide : expression_of (context 4) (0x10 ∷ 0xff ∷ 0xff ∷ 0xff ∷ 0xff ∷ 0xff ∷ 0xff ∷ 0xff ∷ 0xff ∷ 0xff ∷ 2 ∷ []) 0x100 ≡ Err (fault kinds.LebTooWide 0x101)
unfolding understanding
a_number_that_is_too_wide = refl

an_unknown_operation_inside_an_entry_value : expression_of (context 4) (0xa3 ∷ 2 ∷ 0x96 ∷ 0 ∷ []) 0x100 ≡ Err (fault kinds.UnknownOp 0x103)
unfolding understanding
an_unknown_operation_inside_an_entry_value = refl

an_index_of_an_address_before_version_5 : expression_of (context 4) (0x96 ∷ 0xa1 ∷ 0 ∷ []) 0x100 ≡ Err (fault kinds.OpOutsideProfile 0x101)
unfolding understanding
an_index_of_an_address_before_version_5 = refl

an_entry_value_inside_another : expression_of (context 4) (0xa3 ∷ 2 ∷ 0x96 ∷ 0xa3 ∷ []) 0x100 ≡ Err (fault kinds.OpOutsideProfile 0x103)
unfolding understanding
an_entry_value_inside_another = refl

an_index_one_past_the_table : expression_of (context 5) (0x96 ∷ 0xa2 ∷ 2 ∷ []) 0x100 ≡ Err (fault kinds.BadIndex 0x101)
unfolding understanding
an_index_one_past_the_table = refl

no_base_type : expression_of (context 5) (0x96 ∷ 0xa8 ∷ 0x2b ∷ []) 0x100 ≡ Err (fault kinds.BadOperandType 0x101)
unfolding understanding
no_base_type = refl

no_base_type_inside_an_entry_value : expression_of (context 5) (0xa3 ∷ 3 ∷ 0x96 ∷ 0xa8 ∷ 0x2b ∷ []) 0x100 ≡ Err (fault kinds.BadOperandType 0x103)
unfolding understanding
no_base_type_inside_an_entry_value = refl

a_branch_over_a_longer_operation : expression_of (context 5) (0xa8 ∷ 0x2a ∷ 0x2f ∷ 0 ∷ 0 ∷ []) 0x100 ≡ Err (fault kinds.BranchOverRewrite 0x100)
unfolding understanding
a_branch_over_a_longer_operation = refl
