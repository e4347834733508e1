-- How long an expression is in the output does not depend on where its base types go.
use Rattle.std.proofs.Common.{◌≡◌, ◌+◌, ℕ, List, [], ◌∷◌, ◌++◌, length-append, drop, Option, Some, None, refl, sym, ap, ◌∙◌, arith}
use Rattle.std.specs.Option.{option_map_or}
use Rattle.std.proofs.lemmas.List.Sums.{sum_by-cons}
use Rattle.ds_base.specs.Leb.{uleb_len_of}
use Rattle.dwarf_types.specs.declared.expr.Base.{Base}
use Rattle.dwarf_types.specs.declared.expr.Op.{Op}
use Rattle.dwarf_types.specs.declared.expr.PlainOp.{PlainOp}
use Rattle.dwarf_types.specs.declared.graph.Target.{Target}
use Rattle.dwarf_types.specs.declared.operands.Operands.{Operands}
use Rattle.dwarf_types.specs.declared.operands.Operands.TheVariants as operands
use Rattle.dwarf_types.specs.declared.parts.ExprPart.{ExprPart}
use Rattle.dwarf_types.specs.declared.parts.ExprPart.TheVariants as parts
use Rattle.dwarf_types.specs.declared.parts.PlainPart.{PlainPart}
use Rattle.dwarf_types.specs.declared.parts.PlainPart.TheVariants as plain
use Rattle.dwarf_types.specs.Expressions.{expression_len, inner_len, part_len, plain_part_len}
use Rattle.dwarf_types.specs.LinkedExpressions.{as_part, base_node, before_base, behind_base, joined, joined_plain, moved_bytes, op_part, outside, parts_of, plain_part, plain_parts}
use Rattle.dwarf_types.specs.Operations.{operands_of}

pub inner_joined : (part : PlainPart) (ps : List PlainPart) → inner_len (joined_plain part ps) ≡ plain_part_len part + inner_len ps
inner_joined (plain.Plain front) [] = sum_by-cons plain_part_len (plain.Plain front) []
inner_joined (plain.Plain front) (plain.Plain back ∷ ps) =
    omega (arith, sum_by-cons plain_part_len (plain.Plain (front ++ back)) ps, sum_by-cons plain_part_len (plain.Plain back) ps, length-append front back)
inner_joined (plain.Plain front) (plain.Typed code before base after ∷ ps) = sum_by-cons plain_part_len (plain.Plain front) (plain.Typed code before base after ∷ ps)
inner_joined (plain.Typed code before base after) ps = sum_by-cons plain_part_len (plain.Typed code before base after) ps

pub parts_joined : (part : ExprPart) (ps : List ExprPart) → expression_len (joined part ps) ≡ part_len part + expression_len ps
parts_joined (parts.Plain front) [] = sum_by-cons part_len (parts.Plain front) []
parts_joined (parts.Plain front) (parts.Plain back ∷ ps) =
    omega (arith, sum_by-cons part_len (parts.Plain (front ++ back)) ps, sum_by-cons part_len (parts.Plain back) ps, length-append front back)
parts_joined (parts.Plain front) (parts.Typed code before base after ∷ ps) = sum_by-cons part_len (parts.Plain front) (parts.Typed code before base after ∷ ps)
parts_joined (parts.Plain front) (parts.Nested code inner ∷ ps) = sum_by-cons part_len (parts.Plain front) (parts.Nested code inner ∷ ps)
parts_joined (parts.Typed code before base after) ps = sum_by-cons part_len (parts.Typed code before base after) ps
parts_joined (parts.Nested code inner) ps = sum_by-cons part_len (parts.Nested code inner) ps

pub as_long : (part : PlainPart) → part_len (as_part part) ≡ plain_part_len part
as_long (plain.Plain bytes) = refl
as_long (plain.Typed code before base after) = refl

module _ (f g : ℕ → Option Target) where
  plain_by : (op : PlainOp) (base : Option Base) → plain_part_len (option_map_or (λ b. plain.Typed op.code (before_base (operands_of op.code) (drop 1 op.bytes)) (base_node f b) (behind_base (operands_of op.code) (drop 1 op.bytes))) base (plain.Plain (moved_bytes op)))
      ≡ plain_part_len (option_map_or (λ b. plain.Typed op.code (before_base (operands_of op.code) (drop 1 op.bytes)) (base_node g b) (behind_base (operands_of op.code) (drop 1 op.bytes))) base (plain.Plain (moved_bytes op)))
  plain_by op None = refl
  plain_by op (Some base) = refl

  plain_long : (op : PlainOp) → plain_part_len (plain_part f op) ≡ plain_part_len (plain_part g op)
  plain_long op = plain_by op op.base

  inner_long : (ops : List PlainOp) → inner_len (plain_parts f ops) ≡ inner_len (plain_parts g ops)
  inner_long [] = refl
  inner_long (op ∷ ops) = omega (arith, inner_joined (plain_part f op) (plain_parts f ops), inner_joined (plain_part g op) (plain_parts g ops), plain_long op, inner_long ops)

  op_long : (row : Option Operands) (op : Op) → part_len (op_part f row op) ≡ part_len (op_part g row op)
  op_long None op = as_long (plain_part f (outside op)) ∙ plain_long (outside op) ∙ sym (as_long (plain_part g (outside op)))
  op_long (Some operands.Expression) op = ap (λ (n : ℕ). 1 + (uleb_len_of n + n)) (inner_long op.inner)
  op_long (Some _) op = as_long (plain_part f (outside op)) ∙ plain_long (outside op) ∙ sym (as_long (plain_part g (outside op)))

  pub expression_long : (ops : List Op) → expression_len (parts_of f ops) ≡ expression_len (parts_of g ops)
  expression_long [] = refl
  expression_long (op ∷ ops) =
      omega (arith, parts_joined (op_part f (operands_of op.code) op) (parts_of f ops), parts_joined (op_part g (operands_of op.code) op) (parts_of g ops), op_long (operands_of op.code) op, expression_long ops)
