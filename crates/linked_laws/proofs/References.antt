-- References and base types that lead to nodes are written.
use Rattle.std.proofs.Common.{◌≡◌, ◌⊎◌, inl, inr, ℕ, zero, suc, ◌<◌, ◌==◌, Bool, false, cond, List, [], ◌∷◌, ◌++◌, drop, length, get_or, Option, Some, None, refl, sym, ap, subst, ◌∙◌, arith}
use Rattle.std.specs.List.{Contains, filter_map}
use Rattle.std.specs.Option.{option_map, option_map_or}
use Rattle.std.proofs.lemmas.Bool.{both_ways}
use Rattle.std.proofs.lemmas.List.Elements.{All-contains, All-contains_itself, Contains-append_right}
use Rattle.ds_base.specs.DwarfNumbers.{DW_AT_decl_file}
use Rattle.dwarf_types.specs.declared.entry.Attr.{Attr}
use Rattle.dwarf_types.specs.declared.entry.Entry.{Entry}
use Rattle.dwarf_types.specs.declared.expr.Base.{Base}
use Rattle.dwarf_types.specs.declared.expr.Base.TheVariants as bases
use Rattle.dwarf_types.specs.declared.expr.Op.{Op}
use Rattle.dwarf_types.specs.declared.expr.PlainOp.{PlainOp}
use Rattle.dwarf_types.specs.declared.graph.OutAttr.{OutAttr}
use Rattle.dwarf_types.specs.declared.graph.OutValue.{OutValue}
use Rattle.dwarf_types.specs.declared.graph.OutValue.TheVariants as out
use Rattle.dwarf_types.specs.declared.graph.Target.{Target}
use Rattle.dwarf_types.specs.declared.operands.Operands.{Operands}
use Rattle.dwarf_types.specs.declared.operands.Operands.TheVariants as operands
use Rattle.dwarf_types.specs.declared.parts.ExprPart.{ExprPart}
use Rattle.dwarf_types.specs.declared.parts.ExprPart.TheVariants as parts
use Rattle.dwarf_types.specs.declared.parts.PlainPart.{PlainPart}
use Rattle.dwarf_types.specs.declared.parts.PlainPart.TheVariants as plain
use Rattle.dwarf_types.specs.declared.value.Value.{Value}
use Rattle.dwarf_types.specs.declared.value.Value.TheVariants as values
use Rattle.dwarf_types.specs.LinkedExpressions.{as_part, base_node, before_base, behind_base, joined, joined_plain, moved_bytes, op_part, outside, parts_of, plain_part, plain_parts}
use Rattle.dwarf_types.specs.LinkedValues.{FileNumbers, attr_written, attrs_written, file_written, is_left_out, value_written}
use Rattle.dwarf_types.specs.Operations.{operands_of}
use Rattle.dwarf_types.specs.WholeParts.{is_plain_stretch, is_stretch}
use Rattle.linked_laws.proofs.Lists.{all_of_kept}

-- ---- attributes

module _ (image : ℕ → Option Target) (files : FileNumbers) (e : Entry) where
  abbrev named : Attr → OutValue → OutAttr
  named a value = record { name = a.name; value = value }

  pub reference_written : (a : Attr) (j : ℕ) (target : Target) → Contains e.attrs a → a.value ≡ values.Ref j → is_left_out image e a.name ≡ false → (a.name == DW_AT_decl_file) ≡ false → image j ≡ Some target
      → Contains (attrs_written image files e) (named a (out.Ref target))
  reference_written a j target there value left file goes =
      let f = attr_written image files e in
      let is : f a ≡ Some (named a (out.Ref target)) =
      ap (λ (b : Bool). cond b None (option_map (named a) (cond (a.name == DW_AT_decl_file) (file_written image files e a a.value) (value_written image e a a.value)))) left
      ∙ ap (λ (b : Bool). option_map (named a) (cond b (file_written image files e a a.value) (value_written image e a a.value))) file
      ∙ ap (λ (v : Value). option_map (named a) (value_written image e a v)) value
      ∙ ap (λ (found : Option Target). option_map (named a) (option_map (λ target. out.Ref target) found)) goes in
      All-contains (λ (x : Attr). (y : OutAttr) → f x ≡ Some y → Contains (filter_map f e.attrs) y) e.attrs a
      (all_of_kept (Contains (filter_map f e.attrs)) f e.attrs (All-contains_itself (filter_map f e.attrs))) there (named a (out.Ref target)) is

-- ---- elements

first_in : {A : Type 0} (x : A) (xs : List A) → Contains (x ∷ xs) x
first_in x xs = (0, omega arith, refl)

later_in : {A : Type 0} (x : A) (xs : List A) (y : A) → Contains xs y → Contains (x ∷ xs) y
later_in x xs y h = Contains-append_right (x ∷ []) xs y h

in_cases : {A : Type 0} (x : A) (xs : List A) (y : A) → Contains (x ∷ xs) y → (x ≡ y) ⊎ Contains xs y
in_cases {A} x xs y w = go w.0 w.1 w.2
  where
    go : (i : ℕ) → i < length (x ∷ xs) → get_or (x ∷ xs) i y ≡ y → (x ≡ y) ⊎ Contains xs y
    go zero lt e = inl e
    go (suc i) lt e = inr (i, omega (arith, lt), e)

none_in : {A : Type 0} (y : A) → Contains [] y → ⊥
none_in y w = omega (arith, w.1)

-- ---- operations inside entry values

module _ (image : ℕ → Option Target) where
  inner_first : (part : PlainPart) (ps : List PlainPart) → is_plain_stretch part ≡ false → Contains (joined_plain part ps) part
  inner_first (plain.Plain bytes) ps other = absurd (both_ways _ other refl)
  inner_first (plain.Typed code before base after) ps other = first_in (plain.Typed code before base after) ps

  inner_later : (part : PlainPart) (ps : List PlainPart) (x : PlainPart) → is_plain_stretch x ≡ false → Contains ps x → Contains (joined_plain part ps) x
  inner_later (plain.Plain front) [] x other h = absurd (none_in x h)
  inner_later (plain.Plain front) (plain.Plain back ∷ ps) x other h = elim (in_cases (plain.Plain back) ps x h) [
    | inl same ↦ absurd (both_ways _ other (ap is_plain_stretch (sym same)))
    | inr later ↦ later_in (plain.Plain (front ++ back)) ps x later
  ]
  inner_later (plain.Plain front) (plain.Typed code before base after ∷ ps) x other h = later_in (plain.Plain front) (plain.Typed code before base after ∷ ps) x h
  inner_later (plain.Typed code before base after) ps x other h = later_in (plain.Typed code before base after) ps x h

  inner_there : (ops : List PlainOp) (op : PlainOp) → Contains ops op → is_plain_stretch (plain_part image op) ≡ false → Contains (plain_parts image ops) (plain_part image op)
  inner_there [] op h other = absurd (none_in op h)
  inner_there (first ∷ ops) op h other = elim (in_cases first ops op h) [
    | inl same ↦ subst (λ (x : PlainOp). Contains (joined_plain (plain_part image x) (plain_parts image ops)) (plain_part image op)) (sym same) (inner_first (plain_part image op) (plain_parts image ops) other)
    | inr later ↦ inner_later (plain_part image first) (plain_parts image ops) (plain_part image op) other (inner_there ops op later other)
  ]

  abbrev before_of : PlainOp → List ℕ
  before_of op = before_base (operands_of op.code) (drop 1 op.bytes)

  abbrev after_of : PlainOp → List ℕ
  after_of op = behind_base (operands_of op.code) (drop 1 op.bytes)

  -- an operation that names a base type
  typed_part : (op : PlainOp) (j : ℕ) (target : Target) → op.base ≡ Some (bases.Entry j) → image j ≡ Some target → plain_part image op ≡ plain.Typed op.code (before_of op) (Some target.node) (after_of op)
  typed_part op j target base goes =
      ap (λ (b : Option Base). option_map_or (λ base. plain.Typed op.code (before_of op) (base_node image base) (after_of op)) b (plain.Plain (moved_bytes op))) base
      ∙ ap (λ (found : Option Target). plain.Typed op.code (before_of op) (option_map (λ target. target.node) found) (after_of op)) goes

  -- ---- expressions

  part_first : (part : ExprPart) (ps : List ExprPart) → is_stretch part ≡ false → Contains (joined part ps) part
  part_first (parts.Plain bytes) ps other = absurd (both_ways _ other refl)
  part_first (parts.Typed code before base after) ps other = first_in (parts.Typed code before base after) ps
  part_first (parts.Nested code inner) ps other = first_in (parts.Nested code inner) ps

  part_later : (part : ExprPart) (ps : List ExprPart) (x : ExprPart) → is_stretch x ≡ false → Contains ps x → Contains (joined part ps) x
  part_later (parts.Plain front) [] x other h = absurd (none_in x h)
  part_later (parts.Plain front) (parts.Plain back ∷ ps) x other h = elim (in_cases (parts.Plain back) ps x h) [
    | inl same ↦ absurd (both_ways _ other (ap is_stretch (sym same)))
    | inr later ↦ later_in (parts.Plain (front ++ back)) ps x later
  ]
  part_later (parts.Plain front) (parts.Typed code before base after ∷ ps) x other h = later_in (parts.Plain front) (parts.Typed code before base after ∷ ps) x h
  part_later (parts.Plain front) (parts.Nested code inner ∷ ps) x other h = later_in (parts.Plain front) (parts.Nested code inner ∷ ps) x h
  part_later (parts.Typed code before base after) ps x other h = later_in (parts.Typed code before base after) ps x h
  part_later (parts.Nested code inner) ps x other h = later_in (parts.Nested code inner) ps x h

  part_there : (ops : List Op) (op : Op) → Contains ops op → is_stretch (op_part image (operands_of op.code) op) ≡ false → Contains (parts_of image ops) (op_part image (operands_of op.code) op)
  part_there [] op h other = absurd (none_in op h)
  part_there (first ∷ ops) op h other = elim (in_cases first ops op h) [
    | inl same ↦ subst (λ (x : Op). Contains (joined (op_part image (operands_of x.code) x) (parts_of image ops)) (op_part image (operands_of op.code) op)) (sym same) (part_first (op_part image (operands_of op.code) op) (parts_of image ops) other)
    | inr later ↦ part_later (op_part image (operands_of first.code) first) (parts_of image ops) (op_part image (operands_of op.code) op) other (part_there ops op later other)
  ]

  other_part : (row : Option Operands) (op : Op) → (row ≡ Some operands.Expression → ⊥) → op_part image row op ≡ as_part (plain_part image (outside op))
  other_part None op other = refl
  other_part (Some operands.Expression) op other = absurd (other refl)
  other_part (Some _) op other = refl

  pub base_written : (ops : List Op) (op : Op) (j : ℕ) (target : Target) → Contains ops op → (operands_of op.code ≡ Some operands.Expression → ⊥) → op.base ≡ Some (bases.Entry j) → image j ≡ Some target
      → (before : List ℕ) × (after : List ℕ) × Contains (parts_of image ops) (parts.Typed op.code before (Some target.node) after)
  base_written ops op j target there other base goes =
      let is : op_part image (operands_of op.code) op ≡ parts.Typed op.code (before_of (outside op)) (Some target.node) (after_of (outside op)) =
      other_part (operands_of op.code) op other ∙ ap as_part (typed_part (outside op) j target base goes) in
      (before_of (outside op), after_of (outside op), subst (Contains (parts_of image ops)) is (part_there ops op there (ap is_stretch is)))

  pub inner_written : (ops : List Op) (op : Op) (one : PlainOp) (j : ℕ) (target : Target) → Contains ops op → operands_of op.code ≡ Some operands.Expression → Contains op.inner one → one.base ≡ Some (bases.Entry j) → image j ≡ Some target
      → (inner : List PlainPart) × (before : List ℕ) × (after : List ℕ) × Contains (parts_of image ops) (parts.Nested op.code inner) × Contains inner (plain.Typed one.code before (Some target.node) after)
  inner_written ops op one j target there row inside base goes =
      let is : op_part image (operands_of op.code) op ≡ parts.Nested op.code (plain_parts image op.inner) = ap (λ (row : Option Operands). op_part image row op) row in
      let typed = typed_part one j target base goes in (
        plain_parts image op.inner,
        before_of one,
        after_of one,
        subst (Contains (parts_of image ops)) is (part_there ops op there (ap is_stretch is)),
        subst (Contains (plain_parts image op.inner)) typed (inner_there op.inner one inside (ap is_plain_stretch typed)),
      )
