-- What the operations keep to that are meant: they name base types of the unit, and their lengths are those of the operations as stored.
use Rattle.std.proofs.Common.{◌≡◌, ℕ, suc, ◌+◌, ◌∙◌, ◌&&◌, Bool, true, false, cond, List, [], ◌∷◌, map, Option, Some, None, Result, Ok, refl, sym, ap, ap₂, subst, arith}
use Rattle.std.specs.Prelude.{◌==◌, if◌then◌else◌}
use Rattle.std.specs.List.{All, Contains, find, filter_map, flat_map, sum_by, cons_option}
use Rattle.std.specs.Option.{option_map}
use Rattle.std.proofs.lemmas.Bool.{eqb-true}
use Rattle.std.proofs.lemmas.List.Sums.{sum_by-cons}
use Rattle.std.proofs.lemmas.List.Elements.{All-append, All-cons, All-contains, All-head, All-map, All-nil, All-tail}
use Rattle.ds_base.specs.declared.fault.Fault.{Fault}
use Rattle.ds_base.specs.declared.fault.Kind.TheVariants as kinds
use Rattle.ds_base.specs.Reading.{or_fault}
use Rattle.dwarf_types.specs.declared.expr.Base.{Base}
use Rattle.dwarf_types.specs.declared.expr.Base.TheVariants as bases
use Rattle.dwarf_types.specs.declared.expr.Op.{Op}
use Rattle.dwarf_types.specs.declared.expr.PlainOp.{PlainOp}
use Rattle.dwarf_types.specs.Live.{base_in, op_bases}
use Rattle.ds_base.proofs.Passing.{bind_ok, found_ok, ok_is}
use Rattle.expr_walk.specs.Length.{op_len, ops_len, plain_len}
use Rattle.dwarf_types.specs.Operations.{operands_of}
use Rattle.dwarf_types.specs.LinkedExpressions.{outside}
use Rattle.expr_resolve.specs.declared.context.BaseType.{BaseType}
use Rattle.expr_resolve.specs.Context.{Context, names_of}
use Rattle.expr_resolve.specs.Expressions.{base_meant, base_named, each_from, fault_in, inner_start, is_conversion, named_by, op_meant, op_size, operand_meant, plain_meant, plain_size, with_inner}
use Rattle.expr_resolve.specs.Sound.{IsKnown, NameKnown}
use Rattle.expr_resolve.proofs.Entries.{operand_base, operand_len, outer_len}

-- ---- items one after the other

each_kept : {A B : Type 0} (P : B → Type 0) (len : A → ℕ) (meant : ℕ → A → Result B Fault) → ((place : ℕ) (x : A) (y : B) → meant place x ≡ Ok y → P y)
    → (place : ℕ) (xs : List A) (ys : List B) → each_from len meant place xs ≡ Ok ys → All P ys
each_kept P len meant keeps place [] ys e = subst (All P) (ok_is [] ys e) (All-nil P)
each_kept P len meant keeps place (x ∷ xs) ys e =
    let here = bind_ok (meant place x) _ ys e in
    let others = bind_ok (each_from len meant (place + len x) xs) _ ys here.2 in
    subst (All P) (ok_is (here.0 ∷ others.0) ys others.2) (All-cons P here.0 others.0 (keeps place x here.0 here.1) (each_kept P len meant keeps (place + len x) xs others.0 others.1))

each_sum : {A : Type 0} (size : A → ℕ) (len : A → ℕ) (meant : ℕ → A → Result A Fault) → ((place : ℕ) (x : A) (y : A) → meant place x ≡ Ok y → size y ≡ size x)
    → (place : ℕ) (xs : List A) (ys : List A) → each_from len meant place xs ≡ Ok ys → sum_by size ys ≡ sum_by size xs
each_sum {A = A} size len meant same place [] ys e = ap (λ (zs : List A). sum_by size zs) (sym (ok_is [] ys e))
each_sum {A = A} size len meant same place (x ∷ xs) ys e =
    let here = bind_ok (meant place x) _ ys e in
    let others = bind_ok (each_from len meant (place + len x) xs) _ ys here.2 in
    ap (λ (zs : List A). sum_by size zs) (sym (ok_is (here.0 ∷ others.0) ys others.2))
    ∙ sum_by-cons size here.0 others.0 ∙ ap₂ (λ (n m : ℕ). n + m) (same place x here.0 here.1) (each_sum size len meant same (place + len x) xs others.0 others.1) ∙ sym (sum_by-cons size x xs)

-- ---- base types

-- what is found is there, and passes
found_first : {X : Type 0} (p : X → Bool) (x : X) (xs : List X) (y : X) (b : Bool) → (find p xs ≡ Some y → Contains xs y × (p y ≡ true)) → p x ≡ b → cond b (Some x) (find p xs) ≡ Some y → Contains (x ∷ xs) y × (p y ≡ true)
found_first {X = X} p x xs y true behind t e = let same : x ≡ y = cc in subst (λ (z : X). Contains (x ∷ xs) z × (p z ≡ true)) same ((0, omega arith, refl), t)
found_first p x xs y false behind t e = let f = behind e in ((suc f.0.0, omega (arith, f.0.1), f.0.2), f.1)

found_here : {X : Type 0} (p : X → Bool) (xs : List X) (y : X) → find p xs ≡ Some y → Contains xs y × (p y ≡ true)
found_here p [] y e = absurd cc
found_here p (x ∷ xs) y e = found_first p x xs y (p x) (found_here p xs y) refl e

-- the base type that is named, if one is, is of the unit
abbrev Knows : Context → Option Base → Type 0
Knows s base = (entry : ℕ) → base_in base ≡ Some entry → IsKnown (names_of s) entry

both : (a b : Bool) → (a && b) ≡ true → a ≡ true
both true b e = refl
both false b e = absurd cc

named_known : (s : Context) (n : ℕ) (found : Option BaseType) (meant : Base) → find (λ b. b.unit == s.unit && b.place == s.start + n) s.bases ≡ found → option_map (λ b. bases.Entry b.entry) found ≡ Some meant → Knows s (Some meant)
named_known s n None meant is e entry at = absurd cc
named_known s n (Some b) meant is e entry at =
    let f = found_here (λ (b : BaseType). b.unit == s.unit && b.place == s.start + n) s.bases b is in
    let same : base_in (Some (bases.Entry b.entry)) ≡ base_in (Some meant) = ap base_in e in
    let there : Some b.entry ≡ Some entry = same ∙ at in
    record { base = b; known = f.0; its_entry = cc; its_unit = eqb-true b.unit s.unit (both (b.unit == s.unit) _ f.1) }

generic_known : (s : Context) (allowed : Bool) (meant : Base) → (if allowed then Some bases.Generic else None) ≡ Some meant → Knows s (Some meant)
generic_known s true meant e entry at = let same : base_in (Some bases.Generic) ≡ base_in (Some meant) = ap base_in e in absurd (let gone : None ≡ Some entry = same ∙ at in cc)
generic_known s false meant e entry at = absurd cc

base_named_known : (s : Context) (code : ℕ) (base meant : Base) → base_named (names_of s) code base ≡ Some meant → Knows s (Some meant)
base_named_known s code bases.Generic meant e = generic_known s (is_conversion code) meant e
base_named_known s code (bases.Entry n) meant e = named_known s n (find (λ b. b.unit == s.unit && b.place == s.start + n) s.bases) meant refl e

base_known : (s : Context) (place code : ℕ) (base meant : Option Base) → base_meant (names_of s) place code base ≡ Ok meant → Knows s meant
base_known s place code None meant e = subst (Knows s) (ok_is None meant e) (λ entry at. absurd cc)
base_known s place code (Some base) meant e =
    let named = bind_ok (or_fault (base_named (names_of s) code base) (fault_in (names_of s) kinds.BadOperandType place)) _ meant e in
    subst (Knows s) (ok_is (Some named.0) meant named.2) (base_named_known s code base named.0 (found_ok (base_named (names_of s) code base) _ named.0 named.1))

-- ---- operations that are no entry values

plain_known : (s : Context) (place : ℕ) (op meant : PlainOp) → plain_meant s place op ≡ Ok meant → Knows s meant.base
plain_known s place op meant e =
    let base = bind_ok (base_meant (names_of s) place op.code op.base) _ meant e in
    let known = base_known s place op.code op.base base.0 base.1 in
    let named : Knows s (operand_meant s place op base.0 (named_by (names_of s) op.code op.address)).base = subst (Knows s) (sym (operand_base s place op base.0 (named_by (names_of s) op.code op.address))) known in
    subst (λ (m : PlainOp). Knows s m.base) (ok_is _ meant base.2) named

abbrev plain_length : PlainOp → ℕ
plain_length op = plain_len (operands_of op.code) op.bytes

plain_same_length : (s : Context) (place : ℕ) (op meant : PlainOp) → plain_meant s place op ≡ Ok meant → plain_length meant ≡ plain_length op
plain_same_length s place op meant e =
    let base = bind_ok (base_meant (names_of s) place op.code op.base) _ meant e in
    ap plain_length (sym (ok_is (operand_meant s place op base.0 (named_by (names_of s) op.code op.address)) meant base.2)) ∙ operand_len s place op base.0

-- ---- operations

all_known : (s : Context) (named : List (Option Base)) → All (Knows s) named → All (IsKnown (names_of s)) (filter_map base_in named)
all_known s [] all = All-nil (IsKnown (names_of s))
all_known s (b ∷ named) all = one_more (base_in b) (filter_map base_in named) (All-head (Knows s) b named all) (all_known s named (All-tail (Knows s) b named all))
  where
    one_more : (o : Option ℕ) (behind : List ℕ) → ((entry : ℕ) → o ≡ Some entry → IsKnown (names_of s) entry) → All (IsKnown (names_of s)) behind → All (IsKnown (names_of s)) (cons_option o behind)
    one_more None behind one others = others
    one_more (Some entry) behind one others = All-cons (IsKnown (names_of s)) entry behind (one entry refl) others

abbrev OpKnown : Context → Op → Type 0
OpKnown s op = All (IsKnown (names_of s)) (op_bases op)

op_known : (s : Context) (place : ℕ) (op meant : Op) → op_meant s place op ≡ Ok meant → OpKnown s meant
op_known s place op meant e =
    let outer = bind_ok (plain_meant s place (outside op)) _ meant e in
    let inner = bind_ok (each_from plain_size (plain_meant s) (inner_start place op) op.inner) _ meant outer.2 in
    let own = plain_known s place (outside op) outer.0 outer.1 in
    let others = each_kept (λ (m : PlainOp). Knows s m.base) plain_size (plain_meant s) (plain_known s) (inner_start place op) op.inner inner.0 inner.1 in
    let named : List (Option Base) = map (λ m. m.base) inner.0 in
    let all : All (Knows s) (outer.0.base ∷ named) = All-cons (Knows s) outer.0.base named own (All-map (Knows s) (λ (m : PlainOp). m.base) inner.0 others) in
    subst (OpKnown s) (ok_is (with_inner outer.0 inner.0) meant inner.2) (all_known s (outer.0.base ∷ named) all)

abbrev op_length : Op → ℕ
op_length op = op_len (operands_of op.code) op

op_same_length : (s : Context) (place : ℕ) (op meant : Op) → op_meant s place op ≡ Ok meant → op_length meant ≡ op_length op
op_same_length s place op meant e =
    let outer = bind_ok (plain_meant s place (outside op)) _ meant e in
    let inner = bind_ok (each_from plain_size (plain_meant s) (inner_start place op) op.inner) _ meant outer.2 in
    let base = bind_ok (base_meant (names_of s) place op.code op.base) _ outer.0 outer.1 in
    let lengths = each_sum plain_length plain_size (plain_meant s) (plain_same_length s) (inner_start place op) op.inner inner.0 inner.1 in
    ap op_length (sym (ok_is (with_inner outer.0 inner.0) meant inner.2))
    ∙ ap (λ (m : PlainOp). op_length (with_inner m inner.0)) (sym (ok_is (operand_meant s place (outside op) base.0 (named_by (names_of s) op.code op.address)) outer.0 base.2))
    ∙ outer_len s place op base.0 inner.0 lengths

-- ---- all operations

all_flat : {A B : Type 0} (P : B → Type 0) (f : A → List B) (xs : List A) → All (λ x. All P (f x)) xs → All P (flat_map f xs)
all_flat P f [] all = All-nil P
all_flat {A = A} P f (x ∷ xs) all = All-append P (f x) (flat_map f xs) (All-head (λ (x : A). All P (f x)) x xs all) (all_flat P f xs (All-tail (λ (x : A). All P (f x)) x xs all))

pub ops_known : (s : Context) (first : ℕ) (ops meant : List Op) → each_from op_size (op_meant s) first ops ≡ Ok meant → NameKnown (names_of s) meant
ops_known s first ops meant e entry there =
    All-contains (IsKnown (names_of s)) (flat_map op_bases meant) entry (all_flat (IsKnown (names_of s)) op_bases meant (each_kept (OpKnown s) op_size (op_meant s) (op_known s) first ops meant e)) there

pub ops_same_length : (s : Context) (first : ℕ) (ops meant : List Op) → each_from op_size (op_meant s) first ops ≡ Ok meant → ops_len meant ≡ ops_len ops
ops_same_length s first ops meant e = each_sum op_length op_size (op_meant s) (op_same_length s) first ops meant e
