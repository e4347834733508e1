-- Expressions that are written are whole.
use Rattle.std.proofs.Common.{◌≡◌, ℕ, List, [], ◌∷◌, ◌++◌, length-append, drop, Option, Some, None, IfSome, append_assoc, append-nil, refl, sym, ap, subst, ◌∙◌, arith}
use Rattle.std.specs.List.{All, concat}
use Rattle.std.specs.Option.{option_map, option_map_or}
use Rattle.std.proofs.lemmas.List.Elements.{All-append, All-cons, All-head, All-nil, All-tail}
use Rattle.dwarf_types.specs.declared.expr.Base.{Base}
use Rattle.dwarf_types.specs.declared.expr.Base.TheVariants as bases
use Rattle.dwarf_types.specs.declared.expr.Op.{Op}
use Rattle.dwarf_types.specs.declared.expr.PlainOp.{PlainOp}
use Rattle.dwarf_types.specs.declared.graph.Node.{Node}
use Rattle.dwarf_types.specs.declared.graph.Target.{Target}
use Rattle.dwarf_types.specs.declared.operands.Operands.{Operands}
use Rattle.dwarf_types.specs.declared.operands.Operands.TheVariants as operands
use Rattle.dwarf_types.specs.declared.parts.ExprPart.{ExprPart}
use Rattle.dwarf_types.specs.declared.parts.ExprPart.TheVariants as parts
use Rattle.dwarf_types.specs.declared.parts.PlainPart.{PlainPart}
use Rattle.dwarf_types.specs.declared.parts.PlainPart.TheVariants as plain
use Rattle.dwarf_types.specs.LinkedExpressions.{as_part, base_node, before_base, behind_base, joined, joined_plain, moved_bytes, op_part, outside, parts_of, plain_part, plain_parts}
use Rattle.dwarf_types.specs.Operations.{operands_of}
use Rattle.dwarf_types.specs.WholeParts.{AreOperations, IsBase, IsBaseType, IsOperation, IsTyped, IsWhole, IsWholeInner, IsWholePart, IsWholePlainPart, SpellsAround}
use Rattle.linked_laws.specs.Spellable.{IsSpellableBy, IsSpellableOp, IsSpellablePlain, NamesBase, is_entry_value, is_other}

-- ---- stretches

one_operation : (bytes : List ℕ) → IsOperation bytes → AreOperations bytes
one_operation bytes op = record { operations = bytes ∷ []; is = sym (append-nil bytes); some = omega arith; each = All-cons IsOperation bytes [] op (All-nil IsOperation) }

concat_more : (xss yss : List (List ℕ)) → concat xss ++ concat yss ≡ concat (xss ++ yss)
concat_more [] yss = refl
concat_more (xs ∷ xss) yss = append_assoc xs (concat xss) (concat yss) ∙ ap (λ (bytes : List ℕ). xs ++ bytes) (concat_more xss yss)

more_operations : (xs ys : List ℕ) → AreOperations xs → AreOperations ys → AreOperations (xs ++ ys)
more_operations xs ys a b = record {
  operations = a.operations ++ b.operations;
  is = ap (λ (bytes : List ℕ). bytes ++ ys) a.is ∙ ap (λ (bytes : List ℕ). concat a.operations ++ bytes) b.is ∙ concat_more a.operations b.operations;
  some = omega (arith, a.some, length-append a.operations b.operations);
  each = All-append IsOperation a.operations b.operations a.each b.each;
}

-- ---- by the image of each entry, and the nodes of the unit

module _ (image : ℕ → Option Target) (nodes : List Node) where
  -- a base type that is named went to a base type of the unit
  abbrev pub GoesTo : Base → Type 0
  GoesTo bases.Generic = Unit {0}
  GoesTo (bases.Entry k) = (target : Target) × (image k ≡ Some target) × IsBaseType nodes target.node

  abbrev pub PlainGoes : PlainOp → Type 0
  PlainGoes op = IfSome op.base GoesTo

  pub record OpGoes (op : Op) : Type 0 where
    pub own : IfSome op.base GoesTo
    pub inner : All PlainGoes op.inner

  base_is : (row : Operands) (base : Base) → (may : Rattle.linked_laws.specs.Spellable.MayName row base) → GoesTo base → IsBase nodes row (base_node image base)
  base_is row bases.Generic may goes = may
  base_is row (bases.Entry k) may goes = subst (λ (node : Option ℕ). IsBase nodes row node) (sym (ap (option_map (λ target. target.node)) goes.1)) goes.2

  typed : (op : PlainOp) (base : Base) → NamesBase op base → GoesTo base
      → IsTyped nodes op.code (before_base (operands_of op.code) (drop 1 op.bytes)) (base_node image base) (behind_base (operands_of op.code) (drop 1 op.bytes))
  typed op base names goes = record {
    row = names.row;
    known = names.known;
    spells = subst (λ (row : Option Operands). SpellsAround names.row (before_base row (drop 1 op.bytes)) (behind_base row (drop 1 op.bytes))) (sym names.known) names.around;
    base_is = base_is names.row base names.may goes;
  }

  plain_whole_by : (op : PlainOp) (base : Option Base) → IsSpellableBy op base → IfSome base GoesTo
      → IsWholePlainPart nodes (option_map_or (λ b. plain.Typed op.code (before_base (operands_of op.code) (drop 1 op.bytes)) (base_node image b) (behind_base (operands_of op.code) (drop 1 op.bytes))) base (plain.Plain (moved_bytes op)))
  plain_whole_by op None given goes = one_operation (moved_bytes op) given
  plain_whole_by op (Some base) given goes = typed op base given goes

  pub plain_whole : (op : PlainOp) → IsSpellablePlain op → PlainGoes op → IsWholePlainPart nodes (plain_part image op)
  plain_whole op given goes = plain_whole_by op op.base given goes

  -- ---- inside entry values

  inner_more : (part : PlainPart) (ps : List PlainPart) → IsWholePlainPart nodes part → IsWholeInner nodes ps → IsWholeInner nodes (joined_plain part ps)
  inner_more (plain.Plain front) [] whole rest = record { each = All-cons (IsWholePlainPart nodes) (plain.Plain front) [] whole rest.each; apart = tt }
  inner_more (plain.Plain front) (plain.Plain back ∷ ps) whole rest =
      record {
        each = All-cons (IsWholePlainPart nodes) (plain.Plain (front ++ back)) ps
            (more_operations front back whole (All-head (IsWholePlainPart nodes) (plain.Plain back) ps rest.each)) (All-tail (IsWholePlainPart nodes) (plain.Plain back) ps rest.each);
        apart = rest.apart;
      }
  inner_more (plain.Plain front) (plain.Typed code before base after ∷ ps) whole rest =
      record { each = All-cons (IsWholePlainPart nodes) (plain.Plain front) (plain.Typed code before base after ∷ ps) whole rest.each; apart = rest.apart }
  inner_more (plain.Typed code before base after) ps whole rest =
      record { each = All-cons (IsWholePlainPart nodes) (plain.Typed code before base after) ps whole rest.each; apart = rest.apart }

  pub inner_whole : (ops : List PlainOp) → All IsSpellablePlain ops → All PlainGoes ops → IsWholeInner nodes (plain_parts image ops)
  inner_whole [] given goes = record { each = All-nil (IsWholePlainPart nodes); apart = tt }
  inner_whole (op ∷ ops) given goes =
      inner_more (plain_part image op) (plain_parts image ops) (plain_whole op (All-head IsSpellablePlain op ops given) (All-head PlainGoes op ops goes))
      (inner_whole ops (All-tail IsSpellablePlain op ops given) (All-tail PlainGoes op ops goes))

  -- ---- expressions

  part_whole : (part : PlainPart) → IsWholePlainPart nodes part → IsWholePart nodes (as_part part)
  part_whole (plain.Plain bytes) whole = whole
  part_whole (plain.Typed code before base after) whole = whole

  other_part : (row : Option Operands) (op : Op) → operands_of op.code ≡ row → (row ≡ Some operands.Expression → ⊥) → op_part image row op ≡ as_part (plain_part image (outside op))
  other_part None op is other = refl
  other_part (Some operands.Expression) op is other = absurd (other refl)
  other_part (Some _) op is other = refl

  op_whole : (op : Op) → IsSpellableOp op → OpGoes op → IsWholePart nodes (op_part image (operands_of op.code) op)
  op_whole op (is_entry_value known given) goes =
      subst (λ (row : Option Operands). IsWholePart nodes (op_part image row op)) (sym known) (known, inner_whole op.inner given goes.inner)
  op_whole op (is_other other given) goes =
      subst (IsWholePart nodes) (sym (other_part (operands_of op.code) op refl other)) (part_whole (plain_part image (outside op)) (plain_whole (outside op) given goes.own))

  parts_more : (part : ExprPart) (ps : List ExprPart) → IsWholePart nodes part → IsWhole nodes ps → IsWhole nodes (joined part ps)
  parts_more (parts.Plain front) [] whole rest = record { each = All-cons (IsWholePart nodes) (parts.Plain front) [] whole rest.each; apart = tt }
  parts_more (parts.Plain front) (parts.Plain back ∷ ps) whole rest =
      record {
        each = All-cons (IsWholePart nodes) (parts.Plain (front ++ back)) ps (more_operations front back whole (All-head (IsWholePart nodes) (parts.Plain back) ps rest.each))
            (All-tail (IsWholePart nodes) (parts.Plain back) ps rest.each);
        apart = rest.apart;
      }
  parts_more (parts.Plain front) (parts.Typed code before base after ∷ ps) whole rest =
      record { each = All-cons (IsWholePart nodes) (parts.Plain front) (parts.Typed code before base after ∷ ps) whole rest.each; apart = rest.apart }
  parts_more (parts.Plain front) (parts.Nested code inner ∷ ps) whole rest =
      record { each = All-cons (IsWholePart nodes) (parts.Plain front) (parts.Nested code inner ∷ ps) whole rest.each; apart = rest.apart }
  parts_more (parts.Typed code before base after) ps whole rest =
      record { each = All-cons (IsWholePart nodes) (parts.Typed code before base after) ps whole rest.each; apart = rest.apart }
  parts_more (parts.Nested code inner) ps whole rest =
      record { each = All-cons (IsWholePart nodes) (parts.Nested code inner) ps whole rest.each; apart = rest.apart }

  pub expression_whole : (ops : List Op) → All IsSpellableOp ops → All OpGoes ops → IsWhole nodes (parts_of image ops)
  expression_whole [] given goes = record { each = All-nil (IsWholePart nodes); apart = tt }
  expression_whole (op ∷ ops) given goes =
      parts_more (op_part image (operands_of op.code) op) (parts_of image ops) (op_whole op (All-head IsSpellableOp op ops given) (All-head OpGoes op ops goes))
      (expression_whole ops (All-tail IsSpellableOp op ops given) (All-tail OpGoes op ops goes))
