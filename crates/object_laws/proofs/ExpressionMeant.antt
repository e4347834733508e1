-- What the operands of an operation mean: each operation that is meant keeps to its row of the table.
use Rattle.std.proofs.Common.{◌≡◌, ℕ, ◌+◌, ◌∙◌, ◌&&◌, ◌||◌, Bool, true, false, List, [], ◌∷◌, drop, Option, Some, None, Result, Ok, refl, sym, ap, subst, inl, inr}
use Rattle.std.specs.Prelude.{◌==◌, ◌⊎◌, is_none, if◌then◌else◌}
use Rattle.std.specs.List.{All, find}
use Rattle.std.specs.Option.{option_map}
use Rattle.std.proofs.lemmas.Bool.{eqb-true}
use Rattle.std.proofs.lemmas.List.Elements.{All-cons, All-nil}
use Rattle.ds_base.proofs.Passing.{bind_ok, found_ok, ok_is}
use Rattle.ds_base.specs.DwarfNumbers.{DW_OP_addr, DW_OP_const8u, DW_OP_convert, DW_OP_reinterpret}
use Rattle.ds_base.specs.declared.fault.Fault.{Fault}
use Rattle.ds_base.specs.declared.fault.Kind.TheVariants as kinds
use Rattle.ds_base.specs.Reading.{or_fault, refuse_if}
use Rattle.dwarf_types.specs.declared.expr.Base.{Base}
use Rattle.dwarf_types.specs.declared.expr.Base.TheVariants as bases
use Rattle.dwarf_types.specs.declared.expr.Op.{Op}
use Rattle.dwarf_types.specs.declared.expr.PlainOp.{PlainOp}
use Rattle.dwarf_types.specs.declared.operands.Named.{Named}
use Rattle.dwarf_types.specs.declared.operands.Named.TheVariants.{Nothing, Address, BaseType, Index}
use Rattle.dwarf_types.specs.declared.operands.Operands.{Operands}
use Rattle.dwarf_types.specs.declared.operands.Operands.TheVariants as operands
use Rattle.dwarf_types.specs.Operations.{has_no_operands, operands_of}
use Rattle.dwarf_types.specs.Spelled.{AreBytes}
use Rattle.dwarf_types.specs.SpelledOperands.{SpellsOperands}
use Rattle.dwarf_types.specs.LinkedExpressions.{outside}
use Rattle.byteorder.specs.Endian.{little_number}
use Rattle.reloc_table.specs.Address.{address_of}
use Rattle.addr_map.specs.Sound.{IsSound as IsSoundMap}
use Rattle.expr_walk.specs.Reading.{base_in, base_of}
use Rattle.expr_walk.specs.Spelling.{Each, IsOp, IsPlain, an_entry_value, alone_it_is}
use Rattle.expr_resolve.specs.declared.context.BaseType.{BaseType as ContextBase}
use Rattle.expr_resolve.specs.Context.{Context, names_of}
use Rattle.expr_resolve.specs.Expressions.{base_meant, base_named, each_from, entry_of, fault_in, held, holds_address, index_in, indices_tried, inner_start, is_conversion, is_lost, named_by, names_entry, op_indexed, op_meant, op_size, operand_meant, operand_place, plain_indexed, plain_meant, plain_size, with_inner}
use Rattle.expr_resolve.proofs.Entries.{addr_row, const8u_row, found_ends, index_row, named_of}
use Rattle.linked_laws.specs.Spellable.{MayName}
use Rattle.object_laws.proofs.ExpressionEntries.{held_is, index_names, index_no_base, index_spelled, place_fits}
use Rattle.object_laws.proofs.ExpressionOperations.{AddressFits, BaseFits, IsEight, IsMeant}
use Rattle.object_laws.proofs.ExpressionLengths.{IsMeantOp, meant_entry, meant_other}

-- ---- rows of single codes

convert_row : operands_of DW_OP_convert ≡ Some operands.Base
unfolding operands_of has_no_operands
convert_row = refl

reinterpret_row : operands_of DW_OP_reinterpret ≡ Some operands.Base
unfolding operands_of has_no_operands
reinterpret_row = refl

row_is : (x y : Operands) → Some x ≡ Some y → x ≡ y
row_is x y e = cc

row_of : (code other : ℕ) (x y : Operands) → operands_of code ≡ Some x → operands_of other ≡ Some y → (code == other) ≡ true → x ≡ y
row_of code other x y known row e = row_is x y (sym known ∙ ap operands_of (eqb-true code other e) ∙ row)

either : (a b : Bool) → (a || b) ≡ true → (a ≡ true) ⊎ (b ≡ true)
either true b e = inl refl
either false b e = inr e

both : (a b : Bool) → (a && b) ≡ true → a ≡ true
both true b e = refl
both false b e = absurd cc

eight_of : (code : ℕ) (row : Operands) (related : Bool) → operands_of code ≡ Some row → (code == DW_OP_addr || (code == DW_OP_const8u && related)) ≡ true → IsEight row
eight_of code row related known e = elim (either (code == DW_OP_addr) (code == DW_OP_const8u && related) e) [
  | inl addr ↦ inl (row_of code DW_OP_addr row operands.Address known addr_row addr)
  | inr const8u ↦ inr (row_of code DW_OP_const8u row (operands.Fixed 8) known const8u_row (both (code == DW_OP_const8u) related const8u))
]

conversion_row : (code : ℕ) (row : Operands) → operands_of code ≡ Some row → is_conversion code ≡ true → row ≡ operands.Base
conversion_row code row known e = elim (either (code == DW_OP_convert) (code == DW_OP_reinterpret) e) [
  | inl convert ↦ row_of code DW_OP_convert row operands.Base known convert_row convert
  | inr reinterpret ↦ row_of code DW_OP_reinterpret row operands.Base known reinterpret_row reinterpret
]

-- ---- addresses and base types

address_fits : (s : Context) (place : ℕ) (op : PlainOp) (row : Operands) (b : Bool) → IsSoundMap s.map → operands_of op.code ≡ Some row → holds_address s place op ≡ b
    → AddressFits row (if b then Some (operand_place s place op) else None)
address_fits s place op row true sound known is = (eight_of op.code row _ known is, place_fits s.map (address_of s.image s.relocs (place + 1) (little_number 8 (drop 1 op.bytes))) sound)
address_fits s place op row false sound known is = tt

generic_may : (row : Operands) (b : Bool) (base : Base) → (b ≡ true → row ≡ operands.Base) → (if b then Some bases.Generic else None) ≡ Some base → MayName row base
generic_may row true base conversion e = let same : bases.Generic ≡ base = cc in subst (MayName row) same (conversion refl)
generic_may row false base conversion e = absurd cc

entry_may : (row : Operands) (found : Option ContextBase) (base : Base) → option_map (λ b. bases.Entry b.entry) found ≡ Some base → MayName row base
entry_may row None base e = absurd cc
entry_may row (Some b) base e = let same : bases.Entry b.entry ≡ base = cc in subst (MayName row) same tt

may_name : (s : Context) (code : ℕ) (row : Operands) (named base : Base) → operands_of code ≡ Some row → base_named (names_of s) code named ≡ Some base → MayName row base
may_name s code row bases.Generic base known e = generic_may row (is_conversion code) base (conversion_row code row known) e
may_name s code row (bases.Entry n) base known e = entry_may row (find (λ b. b.unit == s.unit && b.place == s.start + n) s.bases) base e

none_fits : (s : Context) (place code : ℕ) (read meant : Option Base) → read ≡ None → base_meant (names_of s) place code read ≡ Ok meant → meant ≡ None
none_fits s place code read meant none e = sym (ok_is None meant (ap (base_meant (names_of s) place code) (sym none) ∙ e))

base_fits : (s : Context) (place code : ℕ) (row : Operands) (named : Named) (read meant : Option Base) → operands_of code ≡ Some row → read ≡ base_in named → ((n : ℕ) → named ≡ Index n → ⊥) → base_meant (names_of s) place code read ≡ Ok meant
    → BaseFits row named meant
base_fits s place code row Nothing read meant known is none e = subst (BaseFits row Nothing) (sym (none_fits s place code read meant is e)) tt
base_fits s place code row (Address a) read meant known is none e = subst (BaseFits row (Address a)) (sym (none_fits s place code read meant is e)) tt
base_fits s place code row (Index n) read meant known is none e = absurd (none n refl)
base_fits s place code row (BaseType n) read meant known is none e =
    let base = bind_ok (or_fault (base_named (names_of s) code (base_of n)) (fault_in (names_of s) kinds.BadOperandType place)) _ meant (ap (base_meant (names_of s) place code) (sym is) ∙ e) in
    subst (BaseFits row (BaseType n)) (ok_is (Some base.0) meant base.2)
    (may_name s code row (base_of n) base.0 known (found_ok (base_named (names_of s) code (base_of n)) _ base.0 base.1))

-- ---- items one after the other

each_gives : {A B : Type 0} (P : A → Type 0) (Q : B → Type 0) (len : A → ℕ) (meant : ℕ → A → Result B Fault) → ((place : ℕ) (x : A) (y : B) → P x → meant place x ≡ Ok y → Q y)
    → (place : ℕ) (xs : List A) (ys : List B) → Each P xs → each_from len meant place xs ≡ Ok ys → All Q ys
each_gives P Q len meant gives place [] ys each e = subst (All Q) (ok_is [] ys e) (All-nil Q)
each_gives P Q len meant gives place (x ∷ xs) ys each e =
    let here = bind_ok (meant place x) _ ys e in
    let others = bind_ok (each_from len meant (place + len x) xs) _ ys here.2 in
    subst (All Q) (ok_is (here.0 ∷ others.0) ys others.2) (All-cons Q here.0 others.0 (gives place x here.0 each.0 here.1) (each_gives P Q len meant gives (place + len x) xs others.0 each.1 others.1))

-- what is so of each, and what else is
both_each : {A : Type 0} (P Q : A → Type 0) (xs : List A) → Each P xs → Each Q xs → Each (λ x. P x × Q x) xs
both_each P Q [] p q = tt
both_each P Q (x ∷ xs) p q = ((p.0, q.0), both_each P Q xs p.1 q.1)

-- what trying each has shown
each_tried : {A : Type 0} (P : A → Type 0) (len : A → ℕ) (tried : ℕ → A → Result (Unit {0}) Fault) → ((place : ℕ) (x : A) (u : Unit {0}) → tried place x ≡ Ok u → P x)
    → (place : ℕ) (xs : List A) (us : List (Unit {0})) → each_from len tried place xs ≡ Ok us → Each P xs
each_tried P len tried shows place [] us e = tt
each_tried P len tried shows place (x ∷ xs) us e =
    let here = bind_ok (tried place x) _ us e in
    let others = bind_ok (each_from len tried (place + len x) xs) _ us here.2 in
    (shows place x here.0 here.1, each_tried P len tried shows (place + len x) xs others.0 others.1)

-- ---- entries that are named are there

abbrev pub IsFound : Context → PlainOp → Type 0
IsFound s op = is_lost (names_of s) op.code op.address ≡ false

-- those that an operation names, and the operations inside
abbrev pub AreFound : Context → Op → Type 0
AreFound s op = IsFound s (outside op) × Each (IsFound s) op.inner

not_refused : (b : Bool) (f : Fault) (u : Unit {0}) → refuse_if b f ≡ Ok u → b ≡ false
not_refused true f u e = absurd cc
not_refused false f u e = refl

plain_found : (s : Context) (place : ℕ) (op : PlainOp) (u : Unit {0}) → plain_indexed (names_of s) place op ≡ Ok u → IsFound s op
plain_found s place op u e = not_refused (is_lost (names_of s) op.code op.address) (fault_in (names_of s) kinds.BadIndex place) u e

op_found : (s : Context) (place : ℕ) (op : Op) (u : Unit {0}) → op_indexed (names_of s) place op ≡ Ok u → AreFound s op
op_found s place op u e =
    let outer = bind_ok (plain_indexed (names_of s) place (outside op)) _ u e in
    let inner = bind_ok (each_from plain_size (plain_indexed (names_of s)) (inner_start place op) op.inner) _ u outer.2 in
    (plain_found s place (outside op) outer.0 outer.1, each_tried (IsFound s) plain_size (plain_indexed (names_of s)) (plain_found s) (inner_start place op) op.inner inner.0 inner.1)

pub ops_found : (s : Context) (first : ℕ) (ops : List Op) (u : Unit {0}) → indices_tried (names_of s) first ops ≡ Ok u → Each (AreFound s) ops
ops_found s first ops u e =
    let each = bind_ok (each_from op_size (op_indexed (names_of s)) first ops) _ u e in
    each_tried (AreFound s) op_size (op_indexed (names_of s)) (op_found s) first ops each.0 each.1

-- an operation that names no entry, where none is lost, may name none
named_none : (names : Bool) (entry : Option ℕ) → (if names then entry else None) ≡ None → (names && is_none entry) ≡ false → names ≡ true → ⊥
named_none true None is found names = cc
named_none true (Some at) is found names = cc
named_none false entry is found names = cc

-- ---- operations

module _ (s : Context) (sound : IsSoundMap s.map) (table : AreBytes s.sections.addr) where
  abbrev IsFine : PlainOp → Type 0
  IsFine op = IsPlain s.version op × IsFound s op

  operand_is : (place : ℕ) (op : PlainOp) (base : Option Base) (entry : Option ℕ) → IsPlain s.version op → named_by (names_of s) op.code op.address ≡ entry → IsFound s op → base_meant (names_of s) place op.code op.base ≡ Ok base
      → IsMeant (operand_meant s place op base entry)
  operand_is place op base None w named found e = record {
    row = w.row;
    known = w.known;
    named = w.named;
    spells = w.spells;
    address = address_fits s place op w.row (holds_address s place op) sound w.known refl;
    base = base_fits s place op.code w.row w.named op.base base w.known w.base
        (λ n is.
        let row = index_spelled w.row w.spells.back n (subst (λ (x : Named). SpellsOperands w.row w.spells.back x) is w.spells.second) in
        named_none (names_entry op.code) (entry_of (names_of s) op.address) named found (index_names op.code (w.known ∙ ap (λ (r : Operands). Some r) row))) e;
  }
  operand_is place op base (Some at) w named found e =
      let n = named_of (names_entry op.code) (entry_of (names_of s) op.address) at named in
      let row = row_is w.row operands.Index (sym w.known ∙ index_row op.code n.0) in
      let none = none_fits s place op.code op.base base (w.base ∙ index_no_base w.row w.spells.back w.named row w.spells.second) e in
      subst (λ (b : Option Base). IsMeant (held s op.code b at)) (sym none) (held_is s op.code at table sound (found_ends s (index_in op.address) at n.1))

  plain_is : (place : ℕ) (op meant : PlainOp) → IsFine op → plain_meant s place op ≡ Ok meant → IsMeant meant
  plain_is place op meant w e =
      let base = bind_ok (base_meant (names_of s) place op.code op.base) _ meant e in
      subst IsMeant (ok_is (operand_meant s place op base.0 (named_by (names_of s) op.code op.address)) meant base.2) (operand_is place op base.0 (named_by (names_of s) op.code op.address) w.0 refl w.1 base.1)

  -- an entry value stays one
  nested_kept : (place : ℕ) (op : PlainOp) (base : Option Base) (entry : Option ℕ) → named_by (names_of s) op.code op.address ≡ entry → operands_of op.code ≡ Some operands.Expression
      → operands_of (operand_meant s place op base entry).code ≡ Some operands.Expression
  nested_kept place op base None is known = known
  nested_kept place op base (Some at) is known =
      let n = named_of (names_entry op.code) (entry_of (names_of s) op.address) at is in
      let never = row_is operands.Expression operands.Index (sym known ∙ index_row op.code n.0) in
      absurd cc

  plain_nested : (place : ℕ) (op meant : PlainOp) → plain_meant s place op ≡ Ok meant → operands_of op.code ≡ Some operands.Expression → operands_of meant.code ≡ Some operands.Expression
  plain_nested place op meant e known =
      let base = bind_ok (base_meant (names_of s) place op.code op.base) _ meant e in
      subst (λ (o : PlainOp). operands_of o.code ≡ Some operands.Expression) (ok_is (operand_meant s place op base.0 (named_by (names_of s) op.code op.address)) meant base.2)
      (nested_kept place op base.0 (named_by (names_of s) op.code op.address) refl known)

  abbrev AreFine : Op → Type 0
  AreFine op = IsOp s.version op × AreFound s op

  op_meant_by : (place : ℕ) (op meant : Op) → IsOp s.version op → AreFound s op → op_meant s place op ≡ Ok meant → IsMeantOp meant
  op_meant_by place op meant (an_entry_value w) found e =
      let outer = bind_ok (plain_meant s place (outside op)) _ meant e in
      let inner = bind_ok (each_from plain_size (plain_meant s) (inner_start place op) op.inner) _ meant outer.2 in
      subst IsMeantOp (ok_is (with_inner outer.0 inner.0) meant inner.2)
      (meant_entry (plain_nested place (outside op) outer.0 outer.1 w.known)
      (each_gives IsFine IsMeant plain_size (plain_meant s) plain_is (inner_start place op) op.inner inner.0 (both_each (IsPlain s.version) (IsFound s) op.inner w.each found.1) inner.1))
  op_meant_by place op meant (alone_it_is w) found e =
      let outer = bind_ok (plain_meant s place (outside op)) _ meant e in
      let inner = bind_ok (each_from plain_size (plain_meant s) (inner_start place op) op.inner) _ meant outer.2 in
      subst IsMeantOp (ok_is (with_inner outer.0 inner.0) meant inner.2) (meant_other (plain_is place (outside op) outer.0 (w.plain, found.0) outer.1))

  pub ops_meant : (first : ℕ) (ops meant : List Op) → Each (IsOp s.version) ops → Each (AreFound s) ops → each_from op_size (op_meant s) first ops ≡ Ok meant → All IsMeantOp meant
  ops_meant first ops meant each found e =
      each_gives AreFine IsMeantOp op_size (op_meant s) (λ place op now fine is. op_meant_by place op now fine.0 fine.1 is) first ops meant (both_each (IsOp s.version) (AreFound s) ops each found) e
