-- The base types that an understood expression names are of its unit.
use Rattle.std.proofs.Common.{◌≡◌, ℕ, suc, ◌+◌, ◌==◌, ◌&&◌, Bool, true, false, cond, List, [], ◌∷◌, map, Option, Some, None, Ok, refl, sym, ap, subst, ◌∙◌, arith}
use Rattle.std.specs.Prelude.{if◌then◌else◌}
use Rattle.std.specs.List.{All, Contains, find}
use Rattle.std.specs.Option.{option_map}
use Rattle.std.proofs.lemmas.Bool.{eqb-true}
use Rattle.std.proofs.lemmas.List.Elements.{All-cons}
use Rattle.ds_base.specs.declared.fault.Kind.TheVariants as kinds
use Rattle.ds_base.specs.Reading.{◌>>=◌, or_fault}
use Rattle.dwarf_types.specs.declared.expr.Base.{Base}
use Rattle.dwarf_types.specs.declared.expr.Base.TheVariants as bases
use Rattle.dwarf_types.specs.declared.expr.Op.{Op}
use Rattle.dwarf_types.specs.declared.expr.PlainOp.{PlainOp}
use Rattle.dwarf_types.specs.Live.{base_in, op_bases}
use Rattle.dwarf_types.specs.LinkedExpressions.{outside}
use Rattle.ds_base.proofs.Passing.{bind_ok, found_ok, ok_is}
use Rattle.expr_walk.specs.Reading.{walk_of}
use Rattle.expr_resolve.specs.declared.context.BaseType.{BaseType}
use Rattle.expr_resolve.specs.Context.{Context, names_of}
use Rattle.expr_resolve.specs.Expressions.{base_meant, base_named, branches_tried, each_from, expression_of, fault_in, indices_tried, inner_start, is_conversion, named_by, op_meant, op_size, operand_meant, plain_meant, plain_size, with_inner}
use Rattle.object_view.proofs.Names.{all_filtered, each_from_all}

-- a base type of a unit among some
pub record IsTypeOf (types : List BaseType) (unit entry : ℕ) : Type 0 where
  pub base : BaseType
  pub known : Contains types base
  pub its_entry : base.entry ≡ entry
  pub its_unit : base.unit ≡ unit

abbrev pub IsKnownOp : List BaseType → ℕ → Op → Type 0
IsKnownOp types unit op = All (IsTypeOf types unit) (op_bases op)

-- the entry that a base is, if it is one, is a base type of the unit
abbrev IsKnownBase : List BaseType → ℕ → Option Base → Type 0
IsKnownBase types unit base = (entry : ℕ) → base_in base ≡ Some entry → IsTypeOf types unit entry

both_true : (b c : Bool) → (b && c) ≡ true → b ≡ true
both_true true c e = refl
both_true false c e = absurd cc

found_step : {X : Type 0} (p : X → Bool) (y : X) (xs : List X) (x : X) (b : Bool) → p y ≡ b → cond b (Some y) (find p xs) ≡ Some x → (find p xs ≡ Some x → Contains xs x × (p x ≡ true)) → Contains (y ∷ xs) x × (p x ≡ true)
found_step p y xs x true is e others = let same : y ≡ x = cc in ((0, omega arith, same), subst (λ z. p z ≡ true) same is)
found_step p y xs x false is e others = let r = others e in ((suc r.0.0, omega (arith, r.0.1), r.0.2), r.1)

-- what is found is one of the list, and passes
found_in : {X : Type 0} (p : X → Bool) (xs : List X) (x : X) → find p xs ≡ Some x → Contains xs x × (p x ≡ true)
found_in p [] x e = absurd cc
found_in p (y ∷ xs) x e = found_step p y xs x (p y) refl e (found_in p xs x)

generic_none : (b : Bool) (meant : Base) (entry : ℕ) → (if b then Some bases.Generic else None) ≡ Some meant → base_in (Some meant) ≡ Some entry → ⊥
generic_none true meant entry e is =
    let same : bases.Generic ≡ meant = cc in
    let none : None ≡ Some entry = ap (λ (m : Base). base_in (Some m)) same ∙ is in
    cc
generic_none false meant entry e is = cc

mapped_some : {X Y : Type 0} (f : X → Y) (o : Option X) (y : Y) → option_map f o ≡ Some y → (x : X) × (o ≡ Some x) × (f x ≡ y)
mapped_some f None y e = absurd cc
mapped_some f (Some x) y e = (x, refl, cc)

named_known : (s : Context) (code : ℕ) (base meant : Base) → base_named (names_of s) code base ≡ Some meant → IsKnownBase s.bases s.unit (Some meant)
named_known s code bases.Generic meant e entry is = absurd (generic_none (is_conversion code) meant entry e is)
named_known s code (bases.Entry n) meant e entry is =
    let test : BaseType → Bool = λ b. b.unit == s.unit && b.place == s.start + n in
    let b = mapped_some (λ (b : BaseType). bases.Entry b.entry) (find test s.bases) meant e in
    let there = found_in test s.bases b.0 b.1 in
    let named : Some b.0.entry ≡ Some entry = ap (λ (m : Base). base_in (Some m)) b.2 ∙ is in
    record { base = b.0; known = there.0; its_entry = cc; its_unit = eqb-true b.0.unit s.unit (both_true (b.0.unit == s.unit) (b.0.place == s.start + n) there.1) }

base_known : (s : Context) (place code : ℕ) (base meant : Option Base) → base_meant (names_of s) place code base ≡ Ok meant → IsKnownBase s.bases s.unit meant
base_known s place code None meant e = subst (IsKnownBase s.bases s.unit) (ok_is None meant e) (λ entry is. absurd cc)
base_known s place code (Some base) meant e =
    let b = bind_ok (or_fault (base_named (names_of s) code base) (fault_in (names_of s) kinds.BadOperandType place)) (λ m. Ok (Some m)) meant e in
    subst (IsKnownBase s.bases s.unit) (ok_is (Some b.0) meant b.2) (named_known s code base b.0 (found_ok (base_named (names_of s) code base) (fault_in (names_of s) kinds.BadOperandType place) b.0 b.1))

-- whatever becomes of an operation, it names the base
operand_base : (s : Context) (place : ℕ) (op : PlainOp) (base : Option Base) (at : Option ℕ) → (operand_meant s place op base at).base ≡ base
operand_base s place op base None = refl
operand_base s place op base (Some at) = refl

plain_known : (s : Context) (place : ℕ) (op meant : PlainOp) → plain_meant s place op ≡ Ok meant → IsKnownBase s.bases s.unit meant.base
plain_known s place op meant e =
    let at : Option ℕ = named_by (names_of s) op.code op.address in
    let b = bind_ok (base_meant (names_of s) place op.code op.base) (λ base. Ok (operand_meant s place op base at)) meant e in
    subst (λ (o : PlainOp). IsKnownBase s.bases s.unit o.base) (ok_is (operand_meant s place op b.0 at) meant b.2)
    (subst (IsKnownBase s.bases s.unit) (sym (operand_base s place op b.0 at)) (base_known s place op.code op.base b.0 b.1))

mapped_known : (s : Context) (inner : List PlainOp) → All (λ (o : PlainOp). IsKnownBase s.bases s.unit o.base) inner → All (IsKnownBase s.bases s.unit) (map (λ (o : PlainOp). o.base) inner)
mapped_known s [] h = λ k d lt. absurd (omega arith)
mapped_known s (o ∷ inner) h = All-cons (IsKnownBase s.bases s.unit) o.base (map (λ (o : PlainOp). o.base) inner) (h 0 o (omega arith)) (mapped_known s inner (λ k d lt. h (suc k) d (omega arith)))

op_known : (s : Context) (place : ℕ) (op meant : Op) → op_meant s place op ≡ Ok meant → IsKnownOp s.bases s.unit meant
op_known s place op meant e =
    let outer = bind_ok (plain_meant s place (outside op)) (λ outer. each_from plain_size (plain_meant s) (inner_start place op) op.inner >>= λ inner. Ok (with_inner outer inner)) meant e in
    let inner = bind_ok (each_from plain_size (plain_meant s) (inner_start place op) op.inner) (λ inner. Ok (with_inner outer.0 inner)) meant outer.2 in
    let inside = each_from_all plain_size (plain_meant s) (λ (o : PlainOp). IsKnownBase s.bases s.unit o.base) (λ p x y is. plain_known s p x y is) (inner_start place op) op.inner inner.0 inner.1 in
    let all = All-cons (IsKnownBase s.bases s.unit) outer.0.base (map (λ (o : PlainOp). o.base) inner.0) (plain_known s place (outside op) outer.0 outer.1) (mapped_known s inner.0 inside) in
    subst (IsKnownOp s.bases s.unit) (ok_is (with_inner outer.0 inner.0) meant inner.2) (all_filtered (IsTypeOf s.bases s.unit) base_in (outer.0.base ∷ map (λ (o : PlainOp). o.base) inner.0) all)

-- each operation that an expression means
pub ops_known : (s : Context) (bytes : List ℕ) (first : ℕ) (ops : List Op) → expression_of s bytes first ≡ Ok ops → All (IsKnownOp s.bases s.unit) ops
unfolding expression_of
ops_known s bytes first ops e =
    let walk = bind_ok (walk_of bytes s.part first s.version) (λ walked. each_from op_size (op_meant s) first walked >>= λ meant. indices_tried (names_of s) first walked >>= λ v. branches_tried (names_of s) first walked >>= λ u. Ok meant) ops e in
    let each = bind_ok (each_from op_size (op_meant s) first walk.0) (λ meant. indices_tried (names_of s) first walk.0 >>= λ v. branches_tried (names_of s) first walk.0 >>= λ u. Ok meant) ops walk.2 in
    let indexed = bind_ok (indices_tried (names_of s) first walk.0) (λ v. branches_tried (names_of s) first walk.0 >>= λ u. Ok each.0) ops each.2 in
    let tried = bind_ok (branches_tried (names_of s) first walk.0) (λ u. Ok each.0) ops indexed.2 in
    subst (All (IsKnownOp s.bases s.unit)) (ok_is each.0 ops tried.2) (each_from_all op_size (op_meant s) (IsKnownOp s.bases s.unit) (λ p x y is. op_known s p x y is) first walk.0 each.0 each.1)
