-- How an expression of a unit of a version is spelled (DWARF 4 and 5, section 7.7.1), whoever reads it.
use Rattle.std.specs.Prelude.{◌≡◌, ℕ, false, List, [], ◌∷◌, Some, None}
use Rattle.std.specs.List.{flat_map}
use Rattle.dwarf_types.specs.Spelled.{InTurn, IsNumber}
use Rattle.dwarf_types.specs.SpelledOperands.{SpellsBlock, SpellsOperands}
use Rattle.dwarf_types.specs.declared.expr.Op.{Op}
use Rattle.dwarf_types.specs.declared.expr.PlainOp.{PlainOp}
use Rattle.dwarf_types.specs.declared.operands.Operands.{Operands}
use Rattle.dwarf_types.specs.declared.operands.Operands.TheVariants as operands
use Rattle.dwarf_types.specs.declared.operands.Named.{Named}
use Rattle.dwarf_types.specs.Operations.{operands_of}
use Rattle.expr_walk.specs.Reading.{is_outside, address_in, base_in}

-- an operation that is no entry value: its bytes are its code and its operands, and it tells what they name
pub record IsPlain (version : ℕ) (op : PlainOp) : Type 0 where
  pub row : Operands
  pub known : operands_of op.code ≡ Some row
  pub inside : is_outside version row ≡ false
  pub named : Named
  pub spells : InTurn (λ bytes. IsNumber 1 bytes op.code) (λ bytes. SpellsOperands row bytes named) op.bytes
  pub address : op.address ≡ address_in named
  pub base : op.base ≡ base_in named

abbrev pub Each : {A : Type 0} → (A → Type 0) → List A → Type 0
Each P [] = Unit {0}
Each P (x ∷ xs) = P x × Each P xs

-- an entry value: its bytes are its code, a length, and those of the operations inside, one after the other
pub record IsEntryValue (version : ℕ) (op : Op) : Type 0 where
  pub known : operands_of op.code ≡ Some operands.Expression
  pub spells : InTurn (λ bytes. IsNumber 1 bytes op.code) (λ bytes. SpellsBlock bytes (flat_map (λ inner. inner.bytes) op.inner)) op.bytes
  pub each : Each (IsPlain version) op.inner
  pub address : op.address ≡ None
  pub base : op.base ≡ None

-- an operation with none inside
pub record IsAlone (version : ℕ) (op : Op) : Type 0 where
  pub plain : IsPlain version (record { code = op.code; bytes = op.bytes; address = op.address; base = op.base })
  pub inner : op.inner ≡ []

pub data IsOp (version : ℕ) (op : Op) : Type 0 where
  an_entry_value : IsEntryValue version op → IsOp version op
  alone_it_is : IsAlone version op → IsOp version op

-- bytes spell operations: they are those of one operation after the other
pub record SpellsExpression (version : ℕ) (bytes : List ℕ) (ops : List Op) : Type 0 where
  pub whole : flat_map (λ op. op.bytes) ops ≡ bytes
  pub each : Each (IsOp version) ops
