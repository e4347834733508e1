-- The operations of an object's expression (DWARF 4 and 5, section 7.7.1) with what their operands mean, or the first fault.
use Rattle.std.specs.Prelude.{ℕ, ◌+◌, ◌-◌, ◌==◌, ◌&&◌, ◌||◌, not, Bool, List, [], ◌∷◌, length, take, drop, Option, Some, None, is_some, is_none, Result, Ok, if◌then◌else◌}
use Rattle.std.specs.List.{find, list_any, sum_by}
use Rattle.std.specs.Option.{option_map, option_and_then}
use Rattle.byteorder.specs.Endian.{little_number}
use Rattle.ds_base.specs.DwarfNumbers.{DW_OP_addr, DW_OP_addrx, DW_OP_bra, DW_OP_const8u, DW_OP_constx, DW_OP_convert, DW_OP_reinterpret, DW_OP_skip}
use Rattle.ds_base.specs.declared.fault.Fault.{Fault}
use Rattle.ds_base.specs.declared.fault.Kind.{Kind}
use Rattle.ds_base.specs.declared.fault.Kind.TheVariants as kinds
use Rattle.ds_base.specs.Reading.{◌>>=◌, or_fault, refuse_if}
use Rattle.dwarf_types.specs.declared.address.Addr.{Addr}
use Rattle.dwarf_types.specs.declared.address.Addr.TheVariants as addrs
use Rattle.dwarf_types.specs.declared.address.Place.{Place}
use Rattle.dwarf_types.specs.declared.expr.Base.{Base}
use Rattle.dwarf_types.specs.declared.expr.Base.TheVariants as bases
use Rattle.dwarf_types.specs.declared.expr.Op.{Op}
use Rattle.dwarf_types.specs.declared.expr.PlainOp.{PlainOp}
use Rattle.index_tables.specs.Tables.{address_place, stored}
use Rattle.reloc_table.specs.Address.{address_of, reloc_at}
use Rattle.expr_walk.specs.Length.{op_len, plain_len}
use Rattle.expr_walk.specs.Reading.{walk_of}
use Rattle.dwarf_types.specs.LinkedExpressions.{outside}
use Rattle.dwarf_types.specs.Operations.{operands_of}
use Rattle.moved_parts.specs.Places.{place_of}
use Rattle.expr_resolve.specs.Context.{Context, Names, names_of}

abbrev pub fault_in : Names → Kind → ℕ → Fault
fault_in s kind place = record { kind = kind; section = s.part; place = place }

-- ---- addresses

-- The operand of DW_OP_addr is an address, and so is that of DW_OP_const8u where a relocation stands at it.
abbrev pub holds_address : Context → ℕ → PlainOp → Bool
holds_address s place op = op.code == DW_OP_addr || (op.code == DW_OP_const8u && is_some (reloc_at s.relocs (place + 1)))

-- the number in the eight bytes behind the code, and what it means there
abbrev pub operand_place : Context → ℕ → PlainOp → Place
operand_place s place op = place_of s.map (address_of s.image s.relocs (place + 1) (little_number 8 (drop 1 op.bytes)))

-- the address of an operation that begins at a place
abbrev pub address_meant : Context → ℕ → PlainOp → Option Place
address_meant s place op = if holds_address s place op then Some (operand_place s place op) else None

-- ---- base types

-- "The operand 0 is the generic type" in conversions alone.
abbrev pub is_conversion : ℕ → Bool
is_conversion code = code == DW_OP_convert || code == DW_OP_reinterpret

-- the base type that an operation of a code names: one of the unit stands at the place, which counts from the unit's first byte
abbrev pub base_named : Names → ℕ → Base → Option Base
base_named s code bases.Generic = if is_conversion code then Some bases.Generic else None
base_named s code (bases.Entry n) = option_map (λ b. bases.Entry b.entry) (find (λ b. b.unit == s.unit && b.place == s.start + n) s.bases)

-- the base type of an operation that begins at a place, if it names one
abbrev pub base_meant : Names → ℕ → ℕ → Option Base → Result (Option Base) Fault
base_meant s place code None = Ok None
base_meant s place code (Some base) = or_fault (base_named s code base) (fault_in s kinds.BadOperandType place) >>= λ meant. Ok (Some meant)

-- ---- entries of the table of addresses

-- an operation of such a code names an entry by its index (DWARF 5, sections 2.5.1.1 and 2.6.1.1)
abbrev pub names_entry : ℕ → Bool
names_entry code = code == DW_OP_addrx || code == DW_OP_constx

-- the index, as it is read
abbrev pub number_in : Addr → Option ℕ
number_in (addrs.Fixed n) = Some n
number_in other = None

abbrev pub index_in : Option Place → Option ℕ
index_in None = None
index_in (Some place) = number_in place.at

-- the place in __debug_addr of the entry at an index, if it is there
abbrev pub entry_of : Names → Option Place → Option ℕ
entry_of s address = option_and_then (λ index. address_place s.sections s.addr_base index) (index_in address)

-- what the entry at a place means, and where that went
abbrev pub entry_meant : Context → ℕ → Place
entry_meant s at = place_of s.map (address_of s.image s.addresses at (stored 8 s.sections.addr at))

-- The code of the operation that holds an entry in its eight bytes: of an address, or of a constant.
abbrev pub holding : ℕ → ℕ
holding code = if code == DW_OP_addrx then DW_OP_addr else DW_OP_const8u

-- An entry is an address, and so is a constant where a relocation stands at it.
abbrev pub entry_address : Context → ℕ → ℕ → Option Place
entry_address s code at = if code == DW_OP_addrx || is_some (reloc_at s.addresses at) then Some (entry_meant s at) else None

-- the operation in the place of one that names the entry at a place
abbrev pub held : Context → ℕ → Option Base → ℕ → PlainOp
held s code base at = record { code = holding code; bytes = holding code ∷ take 8 (drop at s.sections.addr); address = entry_address s code at; base = base }

-- the place of the entry that an operation names, if it names one that is there
abbrev pub named_by : Names → ℕ → Option Place → Option ℕ
named_by s code address = if names_entry code then entry_of s address else None

-- an operation names an entry that is not there
abbrev pub is_lost : Names → ℕ → Option Place → Bool
is_lost s code address = names_entry code && is_none (entry_of s address)

-- ---- operations

-- the operation at a place where it names no entry that is there, and the one that holds the entry
abbrev pub operand_meant : Context → ℕ → PlainOp → Option Base → Option ℕ → PlainOp
operand_meant s place op base None = record op { address = address_meant s place op; base = base }
operand_meant s place op base (Some at) = held s op.code base at

-- an operation that begins at a place, and is no entry value
abbrev pub plain_meant : Context → ℕ → PlainOp → Result PlainOp Fault
plain_meant s place op = base_meant (names_of s) place op.code op.base >>= λ base. Ok (operand_meant s place op base (named_by (names_of s) op.code op.address))

-- items one after the other, the first of which begins at a place
abbrev pub each_from : {A B : Type 0} → (A → ℕ) → (ℕ → A → Result B Fault) → ℕ → List A → Result (List B) Fault
each_from len meant place [] = Ok []
each_from len meant place (x ∷ xs) = do
  here ← meant place x
  others ← each_from len meant (place + len x) xs
  Ok (here ∷ others)

abbrev pub plain_size : PlainOp → ℕ
plain_size op = length op.bytes

abbrev pub op_size : Op → ℕ
op_size op = length op.bytes

-- the expression inside an entry value stands at its end
abbrev pub inner_start : ℕ → Op → ℕ
inner_start place op = place + length op.bytes - sum_by plain_size op.inner

-- an operation with others inside
abbrev pub with_inner : PlainOp → List PlainOp → Op
with_inner op inner = record { code = op.code; bytes = op.bytes; address = op.address; base = op.base; inner = inner }

-- an operation that begins at a place, by what one is that is no entry value: first it alone, then the operations inside
abbrev pub op_by : (ℕ → PlainOp → Result PlainOp Fault) → ℕ → Op → Result Op Fault
op_by meant place op = do
  outer ← meant place (outside op)
  inner ← each_from plain_size meant (inner_start place op) op.inner
  Ok (with_inner outer inner)

abbrev pub op_meant : Context → ℕ → Op → Result Op Fault
op_meant s = op_by (plain_meant s)

-- an operation that begins at a place, and is no entry value, as it is stored, but for its base type, which is told by its entry
abbrev pub plain_stored : Names → ℕ → PlainOp → Result PlainOp Fault
plain_stored s place op = base_meant s place op.code op.base >>= λ base. Ok (record op { base = base })

abbrev pub op_stored : Names → ℕ → Op → Result Op Fault
op_stored s = op_by (plain_stored s)

-- ---- indices

-- an operation that begins at a place, and is no entry value, names no entry that is not there
abbrev pub plain_indexed : Names → ℕ → PlainOp → Result (Unit {0}) Fault
plain_indexed s place op = refuse_if (is_lost s op.code op.address) (fault_in s kinds.BadIndex place)

-- the same of an operation and of those inside
abbrev pub op_indexed : Names → ℕ → Op → Result (Unit {0}) Fault
op_indexed s place op = do
  _ ← plain_indexed s place (outside op)
  _ ← each_from plain_size (plain_indexed s) (inner_start place op) op.inner
  Ok tt

abbrev pub indices_tried : Names → ℕ → List Op → Result (Unit {0}) Fault
indices_tried s first ops = each_from op_size (op_indexed s) first ops >>= λ _. Ok tt

-- ---- branches

abbrev pub is_branch : ℕ → Bool
is_branch code = code == DW_OP_bra || code == DW_OP_skip

-- the operation has another length in the output
abbrev pub plain_changes : PlainOp → Bool
plain_changes op = not (plain_len (operands_of op.code) op.bytes == length op.bytes)

abbrev pub op_changes : Op → Bool
op_changes op = not (op_len (operands_of op.code) op == length op.bytes)

-- an expression branches, while one of its operations changes its length
abbrev pub plain_branches_over : List PlainOp → Bool
plain_branches_over ops = list_any (λ op. is_branch op.code) ops && list_any plain_changes ops

abbrev pub branches_over : List Op → Bool
branches_over ops = list_any (λ op. is_branch op.code) ops && list_any op_changes ops

-- the expression inside an operation that begins at a place
abbrev pub inner_tried : Names → ℕ → Op → Result (Unit {0}) Fault
inner_tried s place op = refuse_if (plain_branches_over op.inner) (fault_in s kinds.BranchOverRewrite (inner_start place op))

-- an expression that begins at a place, and then those inside its operations in order
abbrev pub branches_tried : Names → ℕ → List Op → Result (Unit {0}) Fault
branches_tried s first ops = do
  _ ← refuse_if (branches_over ops) (fault_in s kinds.BranchOverRewrite first)
  _ ← each_from op_size (inner_tried s) first ops
  Ok tt

-- ---- the expression

-- first all its operations, then the base types that they name, then the entries, then its branches
unfoldable pub expression_of : Context → List ℕ → ℕ → Result (List Op) Fault
expression_of s bytes first = do
  ops ← walk_of bytes s.part first s.version
  meant ← each_from op_size (op_meant s) first ops
  _ ← indices_tried (names_of s) first ops
  _ ← branches_tried (names_of s) first ops
  Ok meant

-- The same with each operation as it is stored, where nothing moves: an address is the number in its field, and what an index names stays an index.
unfoldable pub stored_expression_of : Names → List ℕ → ℕ → Result (List Op) Fault
stored_expression_of s bytes first = do
  ops ← walk_of bytes s.part first s.version
  stored ← each_from op_size (op_stored s) first ops
  _ ← indices_tried s first ops
  _ ← branches_tried s first ops
  Ok stored
