-- Reading an expression (DWARF 4 and 5, section 7.7.1) of a unit of a version: its operations, or the first fault.
use Rattle.std.specs.Prelude.{ℕ, zero, suc, ◌+◌, ◌-◌, ◌^◌, ◌==◌, min, Bool, false, not, List, [], ◌∷◌, ◌++◌, length, Option, Some, None, Result, Ok, Err, slice_range, if◌then◌else◌}
use Rattle.ds_base.specs.declared.fault.Fault.{Fault}
use Rattle.ds_base.specs.declared.fault.Kind.TheVariants as kinds
use Rattle.ds_base.specs.declared.fault.Part.{Part}
use Rattle.ds_base.specs.Spot.{Spot, fault_at, start}
use Rattle.ds_base.specs.Reading.{◌>>=◌, refuse_if, or_fault, bytes_at, number_at, uleb_at, sleb_at}
use Rattle.dwarf_types.specs.declared.address.Addr.TheVariants as addresses
use Rattle.dwarf_types.specs.declared.address.Place.{Place}
use Rattle.dwarf_types.specs.declared.expr.Base.{Base}
use Rattle.dwarf_types.specs.declared.expr.Base.TheVariants as bases
use Rattle.dwarf_types.specs.declared.expr.Op.{Op}
use Rattle.dwarf_types.specs.declared.expr.PlainOp.{PlainOp}
use Rattle.dwarf_types.specs.declared.operands.Operands.{Operands}
use Rattle.dwarf_types.specs.declared.operands.Operands.TheVariants as operands
use Rattle.dwarf_types.specs.declared.operands.Named.{Named}
use Rattle.dwarf_types.specs.declared.operands.Named.TheVariants.{Nothing, Address, BaseType, Index}
use Rattle.dwarf_types.specs.Operations.{operands_of}

-- what is named by what is read
abbrev pub naming : {A : Type 0} → (A → Named) → Result (A × Spot) Fault → Result (Named × Spot) Fault
naming name read = read >>= λ x. Ok (name x.0, x.1)

-- bytes behind their length
unfoldable pub block_at : Spot → Result (List ℕ × Spot) Fault
block_at s = do
  n ← uleb_at s
  bytes_at n.0 n.1

-- a base type, and a constant of that type behind its length
unfoldable pub base_block_at : Spot → Result (Named × Spot) Fault
base_block_at s = do
  base ← uleb_at s
  n ← number_at 1 base.1
  constant ← bytes_at n.0 n.1
  Ok (BaseType base.0, constant.1)

-- The operands of an operation, and what they name. Operations are refused at their first byte; so is an entry value, which stands in an outermost expression alone.
unfoldable pub operands_at : Operands → Spot → Spot → Result (Named × Spot) Fault
operands_at operands.Empty first s = Ok (Nothing, s)
operands_at operands.Address first s = naming (λ n. Address n) (number_at 8 s)
operands_at (operands.Fixed width) first s = naming (λ n. Nothing) (bytes_at width s)
operands_at operands.Uleb first s = naming (λ n. Nothing) (uleb_at s)
operands_at operands.Sleb first s = naming (λ n. Nothing) (sleb_at s)
operands_at operands.UlebSleb first s = uleb_at s >>= λ n. naming (λ z. Nothing) (sleb_at n.1)
operands_at operands.UlebUleb first s = uleb_at s >>= λ n. naming (λ m. Nothing) (uleb_at n.1)
operands_at operands.Block first s = naming (λ bytes. Nothing) (block_at s)
operands_at operands.BaseBlock first s = base_block_at s
operands_at operands.UlebBase first s = uleb_at s >>= λ n. naming (λ base. BaseType base) (uleb_at n.1)
operands_at operands.ByteBase first s = number_at 1 s >>= λ n. naming (λ base. BaseType base) (uleb_at n.1)
operands_at operands.Base first s = naming (λ base. BaseType base) (uleb_at s)
operands_at operands.Index first s = naming (λ index. Index index) (uleb_at s)
operands_at operands.Expression first s = Err (fault_at first kinds.OpOutsideProfile)
operands_at operands.Outside first s = Err (fault_at first kinds.OpOutsideProfile)

-- an address as it is stored, or the index of one
abbrev pub address_in : Named → Option Place
address_in Nothing = None
address_in (Address n) = Some (record { at = addresses.Fixed n; linked = None; linked_end = None })
address_in (BaseType n) = None
address_in (Index n) = Some (record { at = addresses.Fixed n; linked = None; linked_end = None })

-- A base type by its place in the unit. No entry stands past 32 bits, and none at the last such place, which stands for all behind it.
abbrev pub base_of : ℕ → Base
base_of n = if n == 0 then bases.Generic else bases.Entry (min n (2 ^ 32 - 1))

abbrev pub base_in : Named → Option Base
base_in Nothing = None
base_in (Address n) = None
base_in (Index n) = None
base_in (BaseType n) = Some (base_of n)

-- the bytes from a spot up to a place
unfoldable pub bytes_up_to : Spot → ℕ → List ℕ
bytes_up_to s end = slice_range s.bytes s.place end

-- in version 5 alone a unit has a table of addresses, of which an operation may name one
abbrev pub is_outside : ℕ → Operands → Bool
is_outside version operands.Index = not (version == 5)
is_outside version other = false

-- an operation's code, and its row of the table
unfoldable pub code_at : ℕ → Spot → Result ((ℕ × Operands) × Spot) Fault
code_at version s = do
  code ← number_at 1 s
  row ← or_fault (operands_of code.0) (fault_at s kinds.UnknownOp)
  _ ← refuse_if (is_outside version row) (fault_at s kinds.OpOutsideProfile)
  Ok ((code.0, row), code.1)

-- the operation that begins at first, behind its code: the bytes are all of it
unfoldable pub plain_from : Spot → ℕ → Operands → Spot → Result (PlainOp × Spot) Fault
plain_from first code row s = do
  named ← operands_at row first s
  Ok (record { code = code; bytes = bytes_up_to first named.1.place; address = address_in named.0; base = base_in named.0 }, named.1)

-- an operation that is no entry value
unfoldable pub plain_at : ℕ → Spot → Result (PlainOp × Spot) Fault
plain_at version s = do
  code ← code_at version s
  plain_from s code.0.0 code.0.1 code.1

-- Operations one after the other up to the end, behind those before. Each takes a byte at least, so a count of more than the bytes that are left never runs out; it would be a fault.
abbrev pub all_at : {A : Type 0} → (Spot → Result (A × Spot) Fault) → ℕ → List A → Spot → Result (List A) Fault
all_at read zero before s = Err (fault_at s kinds.Truncated)
all_at read (suc left) before s = if s.end - s.place == 0 then Ok before else (read s >>= λ op. all_at read left (before ++ op.0 ∷ []) op.1)

-- the operations of which all of some bytes are made; places of faults are counted from the first of them
abbrev pub expression_of : {A : Type 0} → (Spot → Result (A × Spot) Fault) → Part → List ℕ → Result (List A) Fault
expression_of read part bytes = all_at read (suc (length bytes)) [] (start part bytes)

-- the same, where the first byte stands at a place
abbrev pub placed_from : {A : Type 0} → ℕ → Result A Fault → Result A Fault
placed_from first (Ok x) = Ok x
placed_from first (Err f) = Err (record f { place = first + f.place })

-- the operations of the expression inside an entry value, whose first byte stands at a place
unfoldable pub inner_of : ℕ → List ℕ → Part → ℕ → Result (List PlainOp) Fault
inner_of version bytes part first = placed_from first (expression_of (plain_at version) part bytes)

-- an entry value that begins at first, behind its code (DWARF 5, section 2.5.1.7)
unfoldable pub entry_value_from : ℕ → Part → Spot → ℕ → Spot → Result (Op × Spot) Fault
entry_value_from version part first code s = do
  len ← uleb_at s
  inside ← bytes_at len.0 len.1
  inner ← inner_of version inside.0 part len.1.place
  Ok (record { code = code; bytes = bytes_up_to first inside.1.place; address = None; base = None; inner = inner }, inside.1)

-- an operation with none inside
abbrev pub alone : PlainOp → Op
alone op = record { code = op.code; bytes = op.bytes; address = op.address; base = op.base; inner = [] }

-- the operation that begins at first, behind its code
unfoldable pub op_from : ℕ → Part → Spot → ℕ → Operands → Spot → Result (Op × Spot) Fault
op_from version part first code operands.Expression s = entry_value_from version part first code s
op_from version part first code row s = plain_from first code row s >>= λ op. Ok (alone op.0, op.1)

-- an operation of an outermost expression
unfoldable pub op_at : ℕ → Part → Spot → Result (Op × Spot) Fault
op_at version part s = do
  code ← code_at version s
  op_from version part s code.0.0 code.0.1 code.1

-- the operations of an expression whose first byte stands at a place of a part, in a unit of a version
unfoldable pub walk_of : List ℕ → Part → ℕ → ℕ → Result (List Op) Fault
walk_of bytes part first version = placed_from first (expression_of (op_at version part) part bytes)
