-- The length of an expression in the output, where each base type operand is spelled in four bytes, and an address or a constant that stood in a table stands in the operation.
use Rattle.std.specs.Prelude.{ℕ, ◌+◌, ◌-◌, List, length, drop, Option, Some}
use Rattle.std.specs.List.{sum_by}
use Rattle.ds_base.specs.Leb.{uleb_len_of}
use Rattle.dwarf_types.specs.declared.expr.Op.{Op}
use Rattle.dwarf_types.specs.declared.expr.PlainOp.{PlainOp}
use Rattle.dwarf_types.specs.declared.operands.Operands.{Operands}
use Rattle.dwarf_types.specs.declared.operands.Operands.TheVariants.{Expression, BaseBlock, UlebBase, ByteBase, Base, Index}
use Rattle.dwarf_types.specs.LinkedExpressions.{front_leb}
use Rattle.dwarf_types.specs.Operations.{operands_of}

-- the length of the LEB number at the front of some bytes
abbrev pub front_leb_len : List ℕ → ℕ
front_leb_len bytes = length (front_leb bytes)

-- the length of the bytes with four in place of the LEB number that stands at a place of them
abbrev pub respelled_len : List ℕ → ℕ → ℕ
respelled_len bytes at = length bytes - front_leb_len (drop at bytes) + 4

-- the length of an operation that is no entry value: a base type stands behind the code, or behind the code and another operand; what an index names is eight bytes behind a code
abbrev pub plain_len : Option Operands → List ℕ → ℕ
plain_len (Some Base) bytes = respelled_len bytes 1
plain_len (Some BaseBlock) bytes = respelled_len bytes 1
plain_len (Some ByteBase) bytes = respelled_len bytes 2
plain_len (Some UlebBase) bytes = respelled_len bytes (1 + front_leb_len (drop 1 bytes))
plain_len (Some Index) bytes = 9
plain_len other bytes = length bytes

abbrev pub inner_len : List PlainOp → ℕ
inner_len ops = sum_by (λ op. plain_len (operands_of op.code) op.bytes) ops

-- the length of an operation: an entry value is its code, a length in its shortest spelling, and the expression inside
abbrev pub op_len : Option Operands → Op → ℕ
op_len (Some Expression) op = 1 + uleb_len_of (inner_len op.inner) + inner_len op.inner
op_len other op = plain_len other op.bytes

-- the length of an expression
abbrev pub ops_len : List Op → ℕ
ops_len ops = sum_by (λ op. op_len (operands_of op.code) op) ops
