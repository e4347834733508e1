-- What the operations keep to that an expression is cut into: they hold their operands, and those inside.
use Rattle.std.proofs.Common.{◌≡◌, ℕ, ◌≤◌, ◌∙◌, ◌||◌, Bool, true, false, List, [], ◌∷◌, length, Some, Result, Ok, Err, refl, sym, ap, subst, arith, inl, inr}
use Rattle.std.specs.Prelude.{◌==◌, ◌⊎◌, OnOk}
use Rattle.std.specs.List.{All, flat_map, sum_by}
use Rattle.std.proofs.lemmas.Bool.{eqb-true}
use Rattle.std.proofs.lemmas.List.{length-append}
use Rattle.std.proofs.lemmas.List.Concat.{length-flat_map}
use Rattle.std.proofs.lemmas.List.Elements.{All-cons, All-nil}
use Rattle.ds_base.specs.DwarfNumbers.{DW_OP_addr, DW_OP_const8u}
use Rattle.ds_base.specs.declared.fault.Part.{Part}
use Rattle.ds_base.specs.declared.fault.ReadError.{ReadError}
use Rattle.ds_base.specs.Reading.{Gives}
use Rattle.dwarf_types.specs.declared.expr.Op.{Op}
use Rattle.dwarf_types.specs.declared.expr.PlainOp.{PlainOp}
use Rattle.dwarf_types.specs.Spelled.{AreBytes}
use Rattle.dwarf_types.specs.declared.operands.Operands.{Operands}
use Rattle.dwarf_types.specs.declared.operands.Operands.TheVariants as operands
use Rattle.dwarf_types.specs.Operations.{operands_of, has_no_operands}
use Rattle.expr_walk.specs.Reading.{walk_of}
use Rattle.dwarf_types.specs.SpelledOperands.{SpellsOperands}
use Rattle.expr_walk.specs.Spelling.{Each, IsOp, IsPlain, an_entry_value, alone_it_is}
use Rattle.expr_walk.proofs.SpellingLaws.{expression_spelled}
use Rattle.expr_resolve.specs.Steps.{IsCut, IsPlainCut}
use Rattle.expr_resolve.specs.Expressions.{op_size, plain_size}

-- ---- operands

-- an operand in eight bytes
abbrev IsEight : Operands → Type 0
IsEight row = (row ≡ operands.Address) ⊎ (row ≡ operands.Fixed 8)

either : (a b : Bool) → (a || b) ≡ true → (a ≡ true) ⊎ (b ≡ true)
either true b e = inl refl
either false b e = inr e

addr_row : operands_of DW_OP_addr ≡ Some operands.Address
unfolding operands_of has_no_operands
addr_row = refl

const8u_row : operands_of DW_OP_const8u ≡ Some (operands.Fixed 8)
unfolding operands_of has_no_operands
const8u_row = refl

row_is : (x y : Operands) → Some x ≡ Some y → x ≡ y
row_is x y e = cc

eight_of : (code : ℕ) (row : Operands) → operands_of code ≡ Some row → (code == DW_OP_addr || code == DW_OP_const8u) ≡ true → IsEight row
eight_of code row known e = elim (either (code == DW_OP_addr) (code == DW_OP_const8u) e) [
  | inl addr ↦ inl (row_is row operands.Address (sym known ∙ ap operands_of (eqb-true code DW_OP_addr addr) ∙ addr_row))
  | inr const8u ↦ inr (row_is row (operands.Fixed 8) (sym known ∙ ap operands_of (eqb-true code DW_OP_const8u const8u) ∙ const8u_row))
]

eight_long : (version : ℕ) (op : PlainOp) (w : IsPlain version op) → IsEight w.row → length w.spells.back ≡ 8
eight_long version op w (inl is) = let s = subst (λ (r : Operands). SpellsOperands r w.spells.back w.named) is w.spells.second in ap length s.spells.is
eight_long version op w (inr is) = let s = subst (λ (r : Operands). SpellsOperands r w.spells.back w.named) is w.spells.second in ap length s.spells.is ∙ s.spells.len

plain_cut : (version : ℕ) (op : PlainOp) → IsPlain version op → IsPlainCut op
plain_cut version op w eight =
    let code : length w.spells.front ≡ 1 = ap length w.spells.first.is in
    let operand : length w.spells.back ≡ 8 = eight_long version op w (eight_of op.code w.row w.known eight) in
    omega (arith, ap length w.spells.is, length-append w.spells.front w.spells.back, code, operand)

-- ---- operations

all_of : {A : Type 0} (P Q : A → Type 0) → ((x : A) → P x → Q x) → (xs : List A) → Each P xs → All Q xs
all_of P Q gives [] each = All-nil Q
all_of P Q gives (x ∷ xs) each = All-cons Q x xs (gives x each.0) (all_of P Q gives xs each.1)

none_inside : (inner : List PlainOp) (n : ℕ) → inner ≡ [] → All IsPlainCut inner × (sum_by plain_size inner ≤ n)
none_inside inner n is = subst (λ (xs : List PlainOp). All IsPlainCut xs × (sum_by plain_size xs ≤ n)) (sym is) (All-nil IsPlainCut, omega arith)

not_eight : IsEight operands.Expression → ⊥
not_eight (inl is) = cc
not_eight (inr is) = cc

op_cut : (version : ℕ) (op : Op) → IsOp version op → IsCut op
op_cut version op (an_entry_value w) =
    let block = w.spells.second in
    let inside : length block.back ≡ sum_by plain_size op.inner = ap length block.second.is ∙ length-flat_map (λ (inner : PlainOp). inner.bytes) op.inner in
    record {
      operand = λ eight. absurd (not_eight (eight_of op.code operands.Expression w.known eight));
      inner = all_of (IsPlain version) IsPlainCut (plain_cut version) op.inner w.each;
      inside = omega (arith, ap length w.spells.is, length-append w.spells.front w.spells.back, ap length block.is, length-append block.front block.back, inside);
    }
op_cut version op (alone_it_is w) =
    let none = none_inside op.inner (length op.bytes) w.inner in
    record { operand = plain_cut version _ w.plain; inner = none.0; inside = none.1 }

ops_cut : (bytes : List ℕ) (part : Part) (first version : ℕ) (ops : List Op) → AreBytes bytes → walk_of bytes part first version ≡ Ok ops → All IsCut ops
ops_cut bytes part first version ops sound e = let w = expression_spelled bytes part first version ops sound e in all_of (IsOp version) IsCut (op_cut version) ops w.each

-- ---- what a call gave

pub given_cut : (bytes : List ℕ) (part : Part) (first version : ℕ) (r : Result (Unit {0}) ReadError) (ops : List Op) → AreBytes bytes → Gives (λ (_ : Unit {0}). ops) r (walk_of bytes part first version) → OnOk r (All IsCut ops)
given_cut bytes part first version (Ok done) ops sound e = ops_cut bytes part first version ops sound e
given_cut bytes part first version (Err error) ops sound e = tt

pub given_size : (bytes : List ℕ) (r : Result (Unit {0}) ReadError) (ops : List Op) → OnOk r (flat_map (λ op. op.bytes) ops ≡ bytes) → OnOk r (sum_by op_size ops ≡ length bytes)
given_size bytes (Ok done) ops whole = sym (length-flat_map (λ (op : Op). op.bytes) ops) ∙ ap length whole
given_size bytes (Err error) ops whole = tt
