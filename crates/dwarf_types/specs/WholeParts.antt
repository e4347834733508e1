-- Whole expressions: parts that are cut at operations, each of them read by this project and spelled as its row of the table says.
use Rattle.std.specs.Prelude.{◌≡◌, ◌<◌, ℕ, Bool, true, false, List, [], ◌∷◌, map, length, slice_get, Option, Some, None}
use Rattle.std.specs.List.{All, concat}
use Rattle.ds_base.specs.DwarfNumbers.{DW_TAG_base_type}
use Rattle.dwarf_types.specs.declared.graph.Node.{Node}
use Rattle.dwarf_types.specs.declared.operands.Named.{Named}
use Rattle.dwarf_types.specs.declared.operands.Named.TheVariants.{BaseType, Index}
use Rattle.dwarf_types.specs.declared.operands.Operands.{Operands}
use Rattle.dwarf_types.specs.declared.operands.Operands.TheVariants as operands
use Rattle.dwarf_types.specs.declared.parts.ExprPart.{ExprPart}
use Rattle.dwarf_types.specs.declared.parts.ExprPart.TheVariants as parts
use Rattle.dwarf_types.specs.declared.parts.PlainPart.{PlainPart}
use Rattle.dwarf_types.specs.declared.parts.PlainPart.TheVariants as plain
use Rattle.dwarf_types.specs.Operations.{operands_of}
use Rattle.dwarf_types.specs.Spelled.{InTurn, Followed, IsNumber, IsCopy, IsUleb}
use Rattle.dwarf_types.specs.SpelledOperands.{SpellsOperands}

-- ---- stretches of bytes

abbrev pub StandsAlone : Named → Type 0
StandsAlone (BaseType place) = ⊥
StandsAlone (Index index) = ⊥
StandsAlone _ = Unit {0}

-- the bytes of one operation that names no base type and no entry of a table of addresses, and is no entry value
pub record IsOperation (bytes : List ℕ) : Type 0 where
  pub code : ℕ
  pub row : Operands
  pub known : operands_of code ≡ Some row
  pub named : Named
  pub spells : InTurn (λ front. IsNumber 1 front code) (λ back. SpellsOperands row back named) bytes
  pub alone : StandsAlone named

-- those of one operation after the other, and of one at least
pub record AreOperations (bytes : List ℕ) : Type 0 where
  pub operations : List (List ℕ)
  pub is : bytes ≡ concat operations
  pub some : 0 < length operations
  pub each : All IsOperation operations

-- ---- operations that name a base type

-- the operands before the base type, and those behind it
abbrev pub SpellsAround : Operands → List ℕ → List ℕ → Type 0
SpellsAround operands.Base before after = (before ≡ []) × (after ≡ [])
SpellsAround operands.BaseBlock before after = (before ≡ []) × (constant : List ℕ) × Followed (IsNumber 1) (λ n. IsCopy n) after constant
SpellsAround operands.UlebBase before after = (n : ℕ) × IsUleb before n × (after ≡ [])
SpellsAround operands.ByteBase before after = (n : ℕ) × IsNumber 1 before n × (after ≡ [])
SpellsAround _ before after = ⊥

-- node k is a base type
pub record IsBaseType (nodes : List Node) (k : ℕ) : Type 0 where
  pub node : Node
  pub stands : slice_get nodes k ≡ Some node
  pub tag : node.tag ≡ DW_TAG_base_type

-- a base type of the unit; the generic type in a conversion alone, whose one operand is a base type
abbrev pub IsBase : List Node → Operands → Option ℕ → Type 0
IsBase nodes row (Some k) = IsBaseType nodes k
IsBase nodes row None = row ≡ operands.Base

pub record IsTyped (nodes : List Node) (code : ℕ) (before : List ℕ) (base : Option ℕ) (after : List ℕ) : Type 0 where
  pub row : Operands
  pub known : operands_of code ≡ Some row
  pub spells : SpellsAround row before after
  pub base_is : IsBase nodes row base

-- ---- parts, by the nodes of their unit

-- no stretch stands right behind another
abbrev pub AreApart : List Bool → Type 0
AreApart [] = Unit {0}
AreApart (true ∷ true ∷ bs) = ⊥
AreApart (b ∷ bs) = AreApart bs

abbrev pub is_plain_stretch : PlainPart → Bool
is_plain_stretch (plain.Plain bytes) = true
is_plain_stretch _ = false

abbrev pub IsWholePlainPart : List Node → PlainPart → Type 0
IsWholePlainPart nodes (plain.Plain bytes) = AreOperations bytes
IsWholePlainPart nodes (plain.Typed code before base after) = IsTyped nodes code before base after

-- the expression inside an entry value
pub record IsWholeInner (nodes : List Node) (inner : List PlainPart) : Type 0 where
  pub each : All (IsWholePlainPart nodes) inner
  pub apart : AreApart (map is_plain_stretch inner)

abbrev pub is_stretch : ExprPart → Bool
is_stretch (parts.Plain bytes) = true
is_stretch _ = false

abbrev pub IsWholePart : List Node → ExprPart → Type 0
IsWholePart nodes (parts.Plain bytes) = AreOperations bytes
IsWholePart nodes (parts.Typed code before base after) = IsTyped nodes code before base after
IsWholePart nodes (parts.Nested code inner) = (operands_of code ≡ Some operands.Expression) × IsWholeInner nodes inner

pub record IsWhole (nodes : List Node) (expression : List ExprPart) : Type 0 where
  pub each : All (IsWholePart nodes) expression
  pub apart : AreApart (map is_stretch expression)
