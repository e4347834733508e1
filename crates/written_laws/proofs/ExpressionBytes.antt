-- Whole expressions are bytes.
use Rattle.std.proofs.Common.{◌∷◌, ℕ, false, List, [], All, Option}
use Rattle.std.specs.List.{concat}
use Rattle.std.specs.Option.{option_map_or}
use Rattle.std.proofs.lemmas.List.Elements.{All-head, All-tail}
use Rattle.dwarf_types.specs.declared.graph.Node.{Node}
use Rattle.dwarf_types.specs.declared.operands.Named.{Named}
use Rattle.dwarf_types.specs.declared.operands.Operands.{Operands}
use Rattle.dwarf_types.specs.declared.operands.Operands.TheVariants as operands
use Rattle.dwarf_types.specs.declared.parts.ExprPart.{ExprPart}
use Rattle.dwarf_types.specs.declared.parts.ExprPart.TheVariants as parts
use Rattle.dwarf_types.specs.declared.parts.PlainPart.{PlainPart}
use Rattle.dwarf_types.specs.declared.parts.PlainPart.TheVariants as plain
use Rattle.dwarf_types.specs.Expressions.{expression_bytes, inner_len, part_bytes, plain_part_bytes, typed_bytes}
use Rattle.dwarf_types.specs.Spelled.{Followed, IsCopy, IsNumber, IsUleb}
use Rattle.dwarf_types.specs.SpelledOperands.{SpellsBlock, SpellsOperands}
use Rattle.dwarf_types.specs.WholeParts.{AreOperations, IsOperation, IsTyped, IsWhole, IsWholePart, IsWholePlainPart, SpellsAround}
use Rattle.written_laws.proofs.Bytes.{Bytes, all_have, both, byte, digits, given, none, number, same_bytes, spelled, unsigned}
use Rattle.written_laws.proofs.OperationCodes.{code_small}

-- ---- items of operands

uleb_is : (bytes : List ℕ) (n : ℕ) → IsUleb bytes n → Bytes bytes
uleb_is bytes n is = spelled bytes is.spelled

number_is : (width : ℕ) (bytes : List ℕ) (n : ℕ) → IsNumber width bytes n → Bytes bytes
number_is width bytes n is = same_bytes is.is (number width n)

copy_is : (count : ℕ) (bytes copy : List ℕ) → IsCopy count bytes copy → Bytes bytes
copy_is count bytes copy is = same_bytes is.is (given copy is.sound)

block_is : (bytes block : List ℕ) → SpellsBlock bytes block → Bytes bytes
block_is bytes block is = same_bytes is.is (both (uleb_is is.front is.value is.first) (copy_is is.value is.back block is.second))

constant_is : (bytes constant : List ℕ) → Followed (IsNumber 1) (λ n. IsCopy n) bytes constant → Bytes bytes
constant_is bytes constant is = same_bytes is.is (both (number_is 1 is.front is.value is.first) (copy_is is.value is.back constant is.second))

-- ---- operations

operands_are : (row : Operands) (bytes : List ℕ) (named : Named) → SpellsOperands row bytes named → Bytes bytes
operands_are operands.Empty bytes named is = same_bytes is.0 none
operands_are operands.Address bytes named is = number_is 8 bytes is.of is.spells
operands_are (operands.Fixed width) bytes named is = copy_is width bytes is.of is.spells
operands_are operands.Uleb bytes named is = uleb_is bytes is.of is.spells
operands_are operands.Sleb bytes named is = spelled bytes is.spells.spelled
operands_are operands.UlebSleb bytes named is = same_bytes is.is (both (uleb_is is.front is.value is.first) (spelled is.back is.second.spells.spelled))
operands_are operands.UlebUleb bytes named is = same_bytes is.is (both (uleb_is is.front is.value is.first) (uleb_is is.back is.second.of is.second.spells))
operands_are operands.Block bytes named is = block_is bytes is.of is.spells
operands_are operands.BaseBlock bytes named is =
    let behind = is.second in
    same_bytes is.is (both (uleb_is is.front is.value is.first) (same_bytes behind.is (both (number_is 1 behind.front behind.value behind.first) (copy_is behind.value behind.back behind.second.of behind.second.spells))))
operands_are operands.UlebBase bytes named is = same_bytes is.is (both (uleb_is is.front is.value is.first) (uleb_is is.back is.second.of is.second.spells))
operands_are operands.ByteBase bytes named is = same_bytes is.is (both (number_is 1 is.front is.value is.first) (uleb_is is.back is.second.of is.second.spells))
operands_are operands.Base bytes named is = uleb_is bytes is.of is.spells
operands_are operands.Index bytes named is = uleb_is bytes is.of is.spells
operands_are operands.Expression bytes named is = absurd is
operands_are operands.Outside bytes named is = absurd is

operation_is : (bytes : List ℕ) → IsOperation bytes → Bytes bytes
operation_is bytes is =
    let parts = is.spells in
    same_bytes parts.is (both (number_is 1 parts.front is.code parts.first) (operands_are is.row parts.back is.named parts.second))

operations_in : (operations : List (List ℕ)) → All IsOperation operations → Bytes (concat operations)
operations_in [] all = none
operations_in (o ∷ operations) all = both (operation_is o (All-head IsOperation o operations all)) (operations_in operations (All-tail IsOperation o operations all))

operations_are : (bytes : List ℕ) → AreOperations bytes → Bytes bytes
operations_are bytes is = same_bytes is.is (operations_in is.operations is.each)

-- ---- parts

around_are : (row : Operands) (before after : List ℕ) → SpellsAround row before after → Bytes before × Bytes after
around_are operands.Base before after is = (same_bytes is.0 none, same_bytes is.1 none)
around_are operands.BaseBlock before after is = (same_bytes is.0 none, constant_is after is.1 is.2)
around_are operands.UlebBase before after is = (uleb_is before is.0 is.1, same_bytes is.2 none)
around_are operands.ByteBase before after is = (number_is 1 before is.0 is.1, same_bytes is.2 none)
around_are row before after is = absurd is

typed_are : (nodes : List Node) (place : ℕ → ℕ) (code : ℕ) (before : List ℕ) (base : Option ℕ) (after : List ℕ) → IsTyped nodes code before base after → Bytes (typed_bytes place code before base after)
typed_are nodes place code before base after is =
    let around = around_are is.row before after is.spells in
    byte code (code_small code is.row is.known) (both around.0 (both (digits false 4 (option_map_or place base 0)) around.1))

plain_part_is : (nodes : List Node) (place : ℕ → ℕ) (part : PlainPart) → IsWholePlainPart nodes part → Bytes (plain_part_bytes place part)
plain_part_is nodes place (plain.Plain bytes) is = operations_are bytes is
plain_part_is nodes place (plain.Typed code before base after) is = typed_are nodes place code before base after is

part_is : (nodes : List Node) (place : ℕ → ℕ) (part : ExprPart) → IsWholePart nodes part → Bytes (part_bytes place part)
part_is nodes place (parts.Plain bytes) is = operations_are bytes is
part_is nodes place (parts.Typed code before base after) is = typed_are nodes place code before base after is
part_is nodes place (parts.Nested code inner) is =
    byte code (code_small code operands.Expression is.0) (both (unsigned (inner_len inner)) (all_have (IsWholePlainPart nodes) (plain_part_bytes place) (plain_part_is nodes place) inner is.1.each))

pub expression_is : (nodes : List Node) (place : ℕ → ℕ) (expression : List ExprPart) → IsWhole nodes expression → Bytes (expression_bytes place expression)
expression_is nodes place expression is = all_have (IsWholePart nodes) (part_bytes place) (part_is nodes place) expression is.each
