-- An operation that holds an entry of the table of addresses: its length, and the base type that it names.
use Rattle.std.proofs.Common.{◌≡◌, ℕ, suc, ◌+◌, ◌-◌, ◌*◌, ◌/◌, ◌<◌, ◌≤◌, ◌∙◌, ◌&&◌, ◌||◌, not, Bool, true, false, List, ◌∷◌, length, take, drop, Option, Some, None, refl, sym, ap, arith, inl, inr}
use Rattle.std.specs.Prelude.{nat_lt, ◌==◌, ◌⊎◌, if◌then◌else◌}
use Rattle.std.specs.Option.{option_and_then}
use Rattle.std.proofs.Math.Nat.{mul-div-le}
use Rattle.std.proofs.lemmas.Bool.{ltb-true, ltb-false, not-true, eqb-true}
use Rattle.std.proofs.lemmas.List.{length-take, length-drop}
use Rattle.ds_base.specs.Leb.{uleb_len_of}
use Rattle.ds_base.specs.DwarfNumbers.{DW_OP_addr, DW_OP_addrx, DW_OP_const8u, DW_OP_constx, LENGTH_RESERVED}
use Rattle.dwarf_types.specs.declared.expr.Base.{Base}
use Rattle.dwarf_types.specs.declared.expr.Op.{Op}
use Rattle.dwarf_types.specs.declared.expr.PlainOp.{PlainOp}
use Rattle.dwarf_types.specs.declared.operands.Operands.{Operands}
use Rattle.dwarf_types.specs.declared.operands.Operands.TheVariants as operands
use Rattle.dwarf_types.specs.Operations.{operands_of, has_no_operands}
use Rattle.dwarf_types.specs.SectionBytes.{SectionBytes}
use Rattle.dwarf_types.specs.LinkedExpressions.{outside}
use Rattle.expr_walk.specs.Length.{inner_len, op_len, plain_len}
use Rattle.index_tables.specs.Tables.{address_count, address_place, is_address_table, is_described, is_table, length_of}
use Rattle.expr_resolve.specs.Context.{Context, names_of}
use Rattle.expr_resolve.specs.Expressions.{entry_of, held, holding, index_in, named_by, names_entry, operand_meant, with_inner}

-- ---- entries lie in their section

both : (a b : Bool) → (a && b) ≡ true → (a ≡ true) × (b ≡ true)
both true b e = (refl, e)
both false b e = absurd cc

unless_true : (a x : Bool) → (if a then false else x) ≡ true → (a ≡ false) × (x ≡ true)
unless_true true x e = absurd cc
unless_true false x e = (refl, e)

neither : (a b : Bool) → (a || b) ≡ false → (a ≡ false) × (b ≡ false)
neither true b e = absurd cc
neither false b e = (refl, e)

told_of : (b : Bool) (x at : ℕ) → (if b then Some x else None) ≡ Some at → (b ≡ true) × (x ≡ at)
told_of true x at e = (refl, cc)
told_of false x at e = absurd cc

counted : (b : Bool) (n index : ℕ) → index < (if b then n else 0) → (b ≡ true) × (index < n)
counted true n index lt = (refl, lt)
counted false n index lt = absurd (omega (arith, lt))

described : (section : List ℕ) (base : ℕ) → is_described section base ≡ true → (4 ≤ length_of section base) × (base - 4 + length_of section base ≤ length section)
described section base e =
    let size = both (not (nat_lt (length_of section base) 4)) _ e in
    let few = both (nat_lt (length_of section base) LENGTH_RESERVED) _ size.1 in
    let ends = both (not (nat_lt (length section) (base - 4 + length_of section base))) _ few.1 in
    (ltb-false _ _ (not-true _ size.0), ltb-false _ _ (not-true _ ends.0))

table_ends : (section : List ℕ) (base : ℕ) → is_address_table section base ≡ true → (8 ≤ base) × (4 ≤ length_of section base) × (base - 4 + length_of section base ≤ length section)
unfolding is_address_table is_table
table_ends section base e =
    let table = both _ _ e in
    let there = unless_true (nat_lt base 8 || nat_lt (length section) base) (is_described section base) table.0 in
    let outside = neither (nat_lt base 8) (nat_lt (length section) base) there.0 in
    let d = described section base there.1 in
    (ltb-false _ _ outside.0, d.0, d.1)

entry_ends : (base index size whole : ℕ) → index < (size - 4) / 8 → 8 ≤ base → 4 ≤ size → base - 4 + size ≤ whole → base + 8 * index + 8 ≤ whole
entry_ends base index size whole lt some few ends =
    let most : 8 * ((size - 4) / 8) ≤ size - 4 = mul-div-le (size - 4) 8 in
    omega (arith, lt, some, few, ends, most)

counted_ends : (section : List ℕ) (base index : ℕ) → index < address_count section base → base + 8 * index + 8 ≤ length section
unfolding address_count
counted_ends section base index lt =
    let c = counted (is_address_table section base) ((length_of section base - 4) / 8) index lt in
    let t = table_ends section base c.0 in
    entry_ends base index (length_of section base) (length section) c.1 t.0 t.1 t.2

place_ends : (sections : SectionBytes) (base index at : ℕ) → address_place sections base index ≡ Some at → at + 8 ≤ length sections.addr
unfolding address_place
place_ends sections base index at e =
    let t = told_of (nat_lt index (address_count sections.addr base)) (base + 8 * index) at e in
    let ends = counted_ends sections.addr base index (ltb-true _ _ t.0) in
    omega (arith, t.1, ends)

pub found_ends : (s : Context) (index : Option ℕ) (at : ℕ) → option_and_then (λ n. address_place s.sections s.addr_base n) index ≡ Some at → at + 8 ≤ length s.sections.addr
found_ends s None at e = absurd cc
found_ends s (Some n) at e = place_ends s.sections s.addr_base n at e

pub named_of : (names : Bool) (entry : Option ℕ) (at : ℕ) → (if names then entry else None) ≡ Some at → (names ≡ true) × (entry ≡ Some at)
named_of true entry at e = (refl, e)
named_of false entry at e = absurd cc

-- ---- lengths

addrx_row : operands_of DW_OP_addrx ≡ Some operands.Index
unfolding operands_of has_no_operands
addrx_row = refl

constx_row : operands_of DW_OP_constx ≡ Some operands.Index
unfolding operands_of has_no_operands
constx_row = refl

pub addr_row : operands_of DW_OP_addr ≡ Some operands.Address
unfolding operands_of has_no_operands
addr_row = refl

pub const8u_row : operands_of DW_OP_const8u ≡ Some (operands.Fixed 8)
unfolding operands_of has_no_operands
const8u_row = refl

either : (a b : Bool) → (a || b) ≡ true → (a ≡ true) ⊎ (b ≡ true)
either true b e = inl refl
either false b e = inr e

pub index_row : (code : ℕ) → names_entry code ≡ true → operands_of code ≡ Some operands.Index
index_row code e = elim (either (code == DW_OP_addrx) (code == DW_OP_constx) e) [
  | inl addrx ↦ ap operands_of (eqb-true code DW_OP_addrx addrx) ∙ addrx_row
  | inr constx ↦ ap operands_of (eqb-true code DW_OP_constx constx) ∙ constx_row
]

holding_len : (b : Bool) (bytes : List ℕ) → plain_len (operands_of (if b then DW_OP_addr else DW_OP_const8u)) bytes ≡ length bytes
holding_len true bytes = ap (λ (o : Option Operands). plain_len o bytes) addr_row
holding_len false bytes = ap (λ (o : Option Operands). plain_len o bytes) const8u_row

held_len : (s : Context) (code at : ℕ) (base : Option Base) (bytes : List ℕ) → names_entry code ≡ true → at + 8 ≤ length s.sections.addr
    → plain_len (operands_of (held s code base at).code) (held s code base at).bytes ≡ plain_len (operands_of code) bytes
held_len s code at base bytes names inside =
    let eight : suc (length (take 8 (drop at s.sections.addr))) ≡ 9 = omega (arith, inside, length-take 8 (drop at s.sections.addr), length-drop at s.sections.addr) in
    holding_len (code == DW_OP_addrx) (holding code ∷ take 8 (drop at s.sections.addr)) ∙ eight ∙ sym (ap (λ (o : Option Operands). plain_len o bytes) (index_row code names))

meant_len : (s : Context) (place : ℕ) (op : PlainOp) (base : Option Base) (entry : Option ℕ) → named_by (names_of s) op.code op.address ≡ entry
    → plain_len (operands_of (operand_meant s place op base entry).code) (operand_meant s place op base entry).bytes ≡ plain_len (operands_of op.code) op.bytes
meant_len s place op base None is = refl
meant_len s place op base (Some at) is =
    let n = named_of (names_entry op.code) (entry_of (names_of s) op.address) at is in
    held_len s op.code at base op.bytes n.0 (found_ends s (index_in op.address) at n.1)

-- the operation that one becomes has its length in the output
pub operand_len : (s : Context) (place : ℕ) (op : PlainOp) (base : Option Base)
    → plain_len (operands_of (operand_meant s place op base (named_by (names_of s) op.code op.address)).code) (operand_meant s place op base (named_by (names_of s) op.code op.address)).bytes ≡ plain_len (operands_of op.code) op.bytes
operand_len s place op base = meant_len s place op base (named_by (names_of s) op.code op.address) refl

-- and names the base type
pub operand_base : (s : Context) (place : ℕ) (op : PlainOp) (base : Option Base) (entry : Option ℕ) → (operand_meant s place op base entry).base ≡ base
operand_base s place op base None = refl
operand_base s place op base (Some at) = refl

-- ---- operations with others inside

holding_op_len : (b : Bool) (op : Op) → op_len (operands_of (if b then DW_OP_addr else DW_OP_const8u)) op ≡ length op.bytes
holding_op_len true op = ap (λ (o : Option Operands). op_len o op) addr_row
holding_op_len false op = ap (λ (o : Option Operands). op_len o op) const8u_row

same_len : (row : Option Operands) (op meant : Op) → meant.bytes ≡ op.bytes → inner_len meant.inner ≡ inner_len op.inner → op_len row meant ≡ op_len row op
same_len (Some operands.Expression) op meant bytes inner = ap (λ (n : ℕ). 1 + uleb_len_of n + n) inner
same_len other op meant bytes inner = ap (plain_len other) bytes

op_meant_len : (s : Context) (place : ℕ) (op : Op) (base : Option Base) (inner : List PlainOp) (entry : Option ℕ) → named_by (names_of s) op.code op.address ≡ entry → inner_len inner ≡ inner_len op.inner
    → op_len (operands_of (operand_meant s place (outside op) base entry).code) (with_inner (operand_meant s place (outside op) base entry) inner) ≡ op_len (operands_of op.code) op
op_meant_len s place op base inner None is lengths = same_len (operands_of op.code) op (with_inner (operand_meant s place (outside op) base None) inner) refl lengths
op_meant_len s place op base inner (Some at) is lengths =
    let n = named_of (names_entry op.code) (entry_of (names_of s) op.address) at is in
    let inside = found_ends s (index_in op.address) at n.1 in
    let eight : suc (length (take 8 (drop at s.sections.addr))) ≡ 9 = omega (arith, inside, length-take 8 (drop at s.sections.addr), length-drop at s.sections.addr) in
    holding_op_len (op.code == DW_OP_addrx) (with_inner (operand_meant s place (outside op) base (Some at)) inner) ∙ eight ∙ sym (ap (λ (o : Option Operands). op_len o op) (index_row op.code n.0))

pub outer_len : (s : Context) (place : ℕ) (op : Op) (base : Option Base) (inner : List PlainOp) → inner_len inner ≡ inner_len op.inner
    → op_len (operands_of (operand_meant s place (outside op) base (named_by (names_of s) op.code op.address)).code) (with_inner (operand_meant s place (outside op) base (named_by (names_of s) op.code op.address)) inner) ≡ op_len (operands_of op.code) op
outer_len s place op base inner lengths = op_meant_len s place op base inner (named_by (names_of s) op.code op.address) refl lengths
