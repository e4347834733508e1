-- How long the operations of an expression are, once they are written.
use Rattle.std.proofs.Common.{◌≡◌, ℕ, ◌+◌, List, [], ◌∷◌, length, drop, Option, Some, None, refl, sym, ap, ap₂, subst, ◌∙◌, arith, inl, inr}
use Rattle.std.specs.List.{All}
use Rattle.std.specs.Option.{option_map_or}
use Rattle.std.proofs.lemmas.List.Sums.{sum_by-cons}
use Rattle.std.proofs.lemmas.List.Elements.{All-head, All-tail}
use Rattle.byteorder.specs.Endian.{little_bytes}
use Rattle.ds_base.specs.Leb.{uleb_len_of}
use Rattle.dwarf_types.specs.declared.address.Place.{Place}
use Rattle.dwarf_types.specs.declared.expr.Base.{Base}
use Rattle.dwarf_types.specs.declared.expr.Op.{Op}
use Rattle.dwarf_types.specs.declared.expr.PlainOp.{PlainOp}
use Rattle.dwarf_types.specs.declared.graph.Target.{Target}
use Rattle.dwarf_types.specs.declared.operands.Named.{Named}
use Rattle.dwarf_types.specs.declared.operands.Named.TheVariants.{Nothing, Address, BaseType, Index}
use Rattle.dwarf_types.specs.declared.operands.Operands.{Operands}
use Rattle.dwarf_types.specs.declared.operands.Operands.TheVariants as operands
use Rattle.dwarf_types.specs.declared.parts.PlainPart.TheVariants as plain
use Rattle.dwarf_types.specs.Spelled.{InTurn, IsNumber}
use Rattle.dwarf_types.specs.SpelledOperands.{SpellsOperands}
use Rattle.dwarf_types.specs.Expressions.{expression_len, part_len, plain_part_len, typed_len, inner_len as parts_inner_len}
use Rattle.dwarf_types.specs.LinkedExpressions.{base_node, before_base, behind_base, moved_bytes, op_part, outside, parts_of, plain_part, plain_parts}
use Rattle.dwarf_types.specs.Operations.{operands_of}
use Rattle.dwarf_types.specs.WholeParts.{StandsAlone}
use Rattle.expr_walk.specs.Length.{inner_len, op_len, ops_len, plain_len}
use Rattle.linked_laws.specs.Spellable.{IsSpellableOp, IsSpellablePlain, is_entry_value, is_other}
use Rattle.linked_laws.proofs.ExpressionLengths.{as_long, inner_joined, parts_joined}
use Rattle.object_laws.proofs.ExpressionBases.{around_long}
use Rattle.object_laws.proofs.ExpressionOperations.{AddressFits, BaseFits, IsEight, IsMeant, behind_code, linked_number, plain_given}

-- ---- operations that name no base type

none_named : (row : Operands) (bytes back : List ℕ) (named : Named) → SpellsOperands row back named → StandsAlone named → plain_len (Some row) bytes ≡ length bytes
none_named operands.BaseBlock bytes back named spells none = absurd (subst StandsAlone spells.second.second.is none)
none_named operands.UlebBase bytes back named spells none = absurd (subst StandsAlone spells.second.is none)
none_named operands.ByteBase bytes back named spells none = absurd (subst StandsAlone spells.second.is none)
none_named operands.Base bytes back named spells none = absurd (subst StandsAlone spells.is none)
none_named operands.Index bytes back named spells none = absurd (subst StandsAlone spells.is none)
none_named _ bytes back named spells none = refl

eight_long : (row : Operands) (back : List ℕ) (named : Named) → SpellsOperands row back named → IsEight row → length back ≡ 8
eight_long row back named spells (inl is) = let s = subst (λ (r : Operands). SpellsOperands r back named) is spells in ap length s.spells.is
eight_long row back named spells (inr is) = let s = subst (λ (r : Operands). SpellsOperands r back named) is spells in ap length s.spells.is ∙ s.spells.len

moved_long : (op : PlainOp) (address : Option Place) (m : IsMeant op) → AddressFits m.row address
    → length (option_map_or (λ place. op.code ∷ little_bytes 8 (linked_number place)) address op.bytes) ≡ length op.bytes
moved_long op None m fits = refl
moved_long op (Some place) m fits =
    let whole = ap length (behind_code op.bytes m.spells.front m.spells.back op.code m.spells.is m.spells.first) in
    let eight = eight_long m.row m.spells.back m.named m.spells.second fits.0 in
    omega (arith, whole, eight)

plain_none : (op : PlainOp) (m : IsMeant op) → StandsAlone m.named → length (moved_bytes op) ≡ plain_len (operands_of op.code) op.bytes
plain_none op m none =
    moved_long op op.address m m.address ∙ sym (none_named m.row op.bytes m.spells.back m.named m.spells.second none) ∙ ap (λ row. plain_len row op.bytes) (sym m.known)

-- ---- operations that name one

plain_some : (op : PlainOp) (n : ℕ) (row : Operands) → operands_of op.code ≡ Some row → InTurn (λ bytes. IsNumber 1 bytes op.code) (λ bytes. SpellsOperands row bytes (BaseType n)) op.bytes
    → typed_len (before_base (operands_of op.code) (drop 1 op.bytes)) (behind_base (operands_of op.code) (drop 1 op.bytes)) ≡ plain_len (operands_of op.code) op.bytes
plain_some op n row known spells =
    let is = behind_code op.bytes spells.front spells.back op.code spells.is spells.first in
    ap₂ (λ (r : Option Operands) (bytes : List ℕ). typed_len (before_base r (drop 1 bytes)) (behind_base r (drop 1 bytes))) known is
    ∙ around_long row op.code spells.back n spells.second
    ∙ ap₂ (λ (r : Option Operands) (bytes : List ℕ). plain_len r bytes) (sym known) (sym is)

module _ (f : ℕ → Option Target) where
  long_by : (op : PlainOp) (m : IsMeant op) (named : Named) (base : Option Base) → m.named ≡ named → BaseFits m.row named base
      → plain_part_len (option_map_or (λ b. plain.Typed op.code (before_base (operands_of op.code) (drop 1 op.bytes)) (base_node f b) (behind_base (operands_of op.code) (drop 1 op.bytes))) base (plain.Plain (moved_bytes op)))
      ≡ plain_len (operands_of op.code) op.bytes
  long_by op m Nothing None is fits = plain_none op m (subst StandsAlone (sym is) tt)
  long_by op m (Address a) None is fits = plain_none op m (subst StandsAlone (sym is) tt)
  long_by op m (BaseType n) None is fits = absurd fits
  long_by op m (Index n) None is fits = absurd fits
  long_by op m Nothing (Some base) is fits = absurd fits
  long_by op m (Address a) (Some base) is fits = absurd fits
  long_by op m (Index n) (Some base) is fits = absurd fits
  long_by op m (BaseType n) (Some base) is fits =
      plain_some op n m.row m.known (subst (λ (named : Named). InTurn (λ bytes. IsNumber 1 bytes op.code) (λ bytes. SpellsOperands m.row bytes named) op.bytes) is m.spells)

  plain_long : (op : PlainOp) → IsMeant op → plain_part_len (plain_part f op) ≡ plain_len (operands_of op.code) op.bytes
  plain_long op m = long_by op m m.named op.base refl m.base

-- ---- operations of an outermost expression

-- an entry value, or another operation
pub data IsMeantOp (op : Op) : Type 0 where
  meant_entry : operands_of op.code ≡ Some operands.Expression → All IsMeant op.inner → IsMeantOp op
  meant_other : IsMeant (outside op) → IsMeantOp op

no_expression : (bytes : List ℕ) (named : Named) (row : Operands) → SpellsOperands row bytes named → (row ≡ operands.Expression → ⊥)
no_expression bytes named row spells is = subst (λ (r : Operands). SpellsOperands r bytes named) is spells

row_is : (x y : Operands) → Some x ≡ Some y → x ≡ y
row_is x y e = cc

given_all : (ops : List PlainOp) → All IsMeant ops → All IsSpellablePlain ops
given_all ops all k d lt = plain_given _ (all k d lt)

pub op_given : (op : Op) → IsMeantOp op → IsSpellableOp op
op_given op (meant_entry known all) = is_entry_value known (given_all op.inner all)
op_given op (meant_other m) = is_other (λ known. no_expression m.spells.back m.named m.row m.spells.second (row_is m.row operands.Expression (sym m.known ∙ known))) (plain_given (outside op) m)

module _ (f : ℕ → Option Target) where
  inner_long : (ops : List PlainOp) → All IsMeant ops → parts_inner_len (plain_parts f ops) ≡ inner_len ops
  inner_long [] all = refl
  inner_long (op ∷ ops) all =
      omega (
        arith,
        inner_joined (plain_part f op) (plain_parts f ops),
        plain_long f op (All-head IsMeant op ops all),
        inner_long ops (All-tail IsMeant op ops all),
        sum_by-cons (λ (op : PlainOp). plain_len (operands_of op.code) op.bytes) op ops,
      )

  other_long : (row : Operands) (op : Op) → (row ≡ operands.Expression → ⊥) → plain_part_len (plain_part f (outside op)) ≡ plain_len (Some row) op.bytes → part_len (op_part f (Some row) op) ≡ op_len (Some row) op
  other_long operands.Expression op other is = absurd (other refl)
  other_long _ op other is = as_long (plain_part f (outside op)) ∙ is

  abbrev Agrees : Op → Option Operands → Type 0
  Agrees op row = part_len (op_part f row op) ≡ op_len row op

  op_long : (op : Op) → IsMeantOp op → Agrees op (operands_of op.code)
  op_long op (meant_entry known all) = subst (Agrees op) (sym known) (ap (λ (n : ℕ). 1 + (uleb_len_of n + n)) (inner_long op.inner all) ∙ omega arith)
  op_long op (meant_other m) =
      subst (Agrees op) (sym m.known)
      (other_long m.row op (no_expression m.spells.back m.named m.row m.spells.second) (plain_long f (outside op) m ∙ ap (λ row. plain_len row op.bytes) m.known))

  pub ops_long : (ops : List Op) → All IsMeantOp ops → expression_len (parts_of f ops) ≡ ops_len ops
  ops_long [] all = refl
  ops_long (op ∷ ops) all =
      omega (
        arith,
        parts_joined (op_part f (operands_of op.code) op) (parts_of f ops),
        op_long op (All-head IsMeantOp op ops all),
        ops_long ops (All-tail IsMeantOp op ops all),
        sum_by-cons (λ (op : Op). op_len (operands_of op.code) op) op ops,
      )
