-- What the operations of an expression that is read say: parts, with the operations' own bytes, and base types by the nodes at their places.
use Rattle.std.specs.Prelude.{◌≡◌, ◌<◌, ◌+◌, ◌==◌, ◌^◌, ℕ, List, [], ◌∷◌, drop, Option, Some, None}
use Rattle.std.specs.List.{flat_map, position}
use Rattle.std.specs.Option.{option_map_or}
use Rattle.dwarf_types.specs.declared.expr.Base.{Base}
use Rattle.dwarf_types.specs.declared.expr.Base.TheVariants as bases
use Rattle.dwarf_types.specs.declared.expr.Op.{Op}
use Rattle.dwarf_types.specs.declared.expr.PlainOp.{PlainOp}
use Rattle.dwarf_types.specs.declared.graph.Graph.{Graph}
use Rattle.dwarf_types.specs.declared.graph.Node.{Node}
use Rattle.dwarf_types.specs.declared.graph.OutUnit.{OutUnit}
use Rattle.dwarf_types.specs.declared.operands.Operands.{Operands}
use Rattle.dwarf_types.specs.declared.operands.Operands.TheVariants as operands
use Rattle.dwarf_types.specs.declared.parts.ExprPart.{ExprPart}
use Rattle.dwarf_types.specs.declared.parts.ExprPart.TheVariants as parts
use Rattle.dwarf_types.specs.declared.parts.PlainPart.{PlainPart}
use Rattle.dwarf_types.specs.declared.parts.PlainPart.TheVariants as plain
use Rattle.dwarf_types.specs.Expressions.{expression_bytes, inner_bytes}
use Rattle.dwarf_types.specs.Layout.{unit_start}
use Rattle.dwarf_types.specs.LinkedExpressions.{as_part, before_base, behind_base, joined, joined_plain, outside}
use Rattle.dwarf_types.specs.Operations.{operands_of}
use Rattle.dwarf_types.specs.WholeParts.{IsBaseType}
use Rattle.expr_walk.specs.Spelling.{Each, IsPlain, SpellsExpression}
use Rattle.written_laws.specs.ReadUnits.{made_of}

-- the node of a base type that is named by its place in the unit
abbrev pub base_told : (ℕ → Option ℕ) → Base → Option ℕ
base_told node bases.Generic = None
base_told node (bases.Entry n) = node n

-- an operation byte for byte, or what stands around a base type
abbrev pub part_told : (ℕ → Option ℕ) → PlainOp → PlainPart
part_told node op =
    option_map_or (λ base. plain.Typed op.code (before_base (operands_of op.code) (drop 1 op.bytes)) (base_told node base) (behind_base (operands_of op.code) (drop 1 op.bytes))) op.base (plain.Plain op.bytes)

-- stretches of bytes as long as can be
abbrev pub parts_told : (ℕ → Option ℕ) → List PlainOp → List PlainPart
parts_told node [] = []
parts_told node (op ∷ ops) = joined_plain (part_told node op) (parts_told node ops)

-- the codes of operations that name base types are bytes
abbrev pub IsCode : PlainPart → Type 0
IsCode (plain.Plain bytes) = Unit {0}
IsCode (plain.Typed code before base after) = code < 256

abbrev pub AreCodes : List PlainPart → Type 0
AreCodes [] = Unit {0}
AreCodes (part ∷ parts) = IsCode part × AreCodes parts

-- a base type stands at a place that four digits hold, and the node there is it; at 0 stands none
pub record LeadsBack (place : ℕ → ℕ) (node : ℕ → Option ℕ) (k : ℕ) : Type 0 where
  pub some : 0 < place k
  pub fits : place k < 2 ^ 28
  pub back : node (place k) ≡ Some k

abbrev pub LeadBack : List Node → (ℕ → ℕ) → (ℕ → Option ℕ) → Type 0
LeadBack nodes place node = (k : ℕ) → IsBaseType nodes k → LeadsBack place node k

-- operations that the bytes of parts are, and that say these parts
pub record SaysAgain (place : ℕ → ℕ) (node : ℕ → Option ℕ) (version : ℕ) (parts : List PlainPart) : Type 0 where
  pub ops : List PlainOp
  pub whole : flat_map (λ op. op.bytes) ops ≡ inner_bytes place parts
  pub each : Each (IsPlain version) ops
  pub back : parts_told node ops ≡ parts

-- which node of a unit begins at a place that counts from the unit's first byte
abbrev pub node_in : Graph → ℕ → OutUnit → ℕ → Option ℕ
node_in graph u unit place = position (λ e. e.1.place == unit_start graph u + place) (made_of graph u unit)

-- ---- outermost expressions

-- an entry value is its code and the expression inside
abbrev pub op_told : (ℕ → Option ℕ) → Option Operands → Op → ExprPart
op_told node (Some operands.Expression) op = parts.Nested op.code (parts_told node op.inner)
op_told node row op = as_part (part_told node (outside op))

abbrev pub expression_told : (ℕ → Option ℕ) → List Op → List ExprPart
expression_told node [] = []
expression_told node (op ∷ ops) = joined (op_told node (operands_of op.code) op) (expression_told node ops)

abbrev pub IsCodeOf : ExprPart → Type 0
IsCodeOf (parts.Plain bytes) = Unit {0}
IsCodeOf (parts.Typed code before base after) = code < 256
IsCodeOf (parts.Nested code inner) = (code < 256) × AreCodes inner

abbrev pub AreCodesOf : List ExprPart → Type 0
AreCodesOf [] = Unit {0}
AreCodesOf (part ∷ expression) = IsCodeOf part × AreCodesOf expression

-- the bytes of an expression spell operations, and these say it again
pub record IsSaidAgain (place : ℕ → ℕ) (node : ℕ → Option ℕ) (version : ℕ) (expression : List ExprPart) : Type 0 where
  pub ops : List Op
  pub spells : SpellsExpression version (expression_bytes place expression) ops
  pub back : expression_told node ops ≡ expression
