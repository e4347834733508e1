-- The code of an operation is a byte.
use Rattle.std.proofs.Common.{◌≡◌, ◌<◌, ◌==◌, ◌&&◌, ◌||◌, ℕ, Bool, true, false, Option, Some, nat_le, refl, if◌then◌else◌, arith}
use Rattle.std.proofs.lemmas.Bool.{eqb-true, leb-true}
use Rattle.ds_base.specs.DwarfNumbers.{DW_OP_GNU_entry_value, DW_OP_GNU_push_tls_address, DW_OP_abs, DW_OP_addr, DW_OP_addrx, DW_OP_bit_piece, DW_OP_bra, DW_OP_breg0, DW_OP_breg31, DW_OP_bregx, DW_OP_call2, DW_OP_call4, DW_OP_call_frame_cfa, DW_OP_call_ref, DW_OP_const1s, DW_OP_const1u, DW_OP_const2s, DW_OP_const2u, DW_OP_const4s, DW_OP_const4u, DW_OP_const8s, DW_OP_const8u, DW_OP_const_type, DW_OP_consts, DW_OP_constu, DW_OP_constx, DW_OP_convert, DW_OP_deref, DW_OP_deref_size, DW_OP_deref_type, DW_OP_drop, DW_OP_dup, DW_OP_entry_value, DW_OP_eq, DW_OP_fbreg, DW_OP_form_tls_address, DW_OP_implicit_pointer, DW_OP_implicit_value, DW_OP_lit0, DW_OP_ne, DW_OP_nop, DW_OP_over, DW_OP_pick, DW_OP_piece, DW_OP_plus, DW_OP_plus_uconst, DW_OP_push_object_address, DW_OP_reg31, DW_OP_regval_type, DW_OP_regx, DW_OP_reinterpret, DW_OP_rot, DW_OP_shl, DW_OP_skip, DW_OP_stack_value, DW_OP_swap, DW_OP_xderef, DW_OP_xderef_size, DW_OP_xderef_type, DW_OP_xor}
use Rattle.dwarf_types.specs.declared.operands.Operands.{Operands}
use Rattle.dwarf_types.specs.declared.operands.Operands.TheVariants.{Empty, Address, Fixed, Uleb, Sleb, UlebSleb, UlebUleb, Block, Expression, BaseBlock, UlebBase, ByteBase, Base, Index, Outside}
use Rattle.dwarf_types.specs.Operations.{has_no_operands, is_within, operands_of}

either : {P : Type 0} (a b : Bool) → (a || b) ≡ true → (a ≡ true → P) → (b ≡ true → P) → P
either true b e f g = f refl
either false b e f g = g e

both : (a b : Bool) → (a && b) ≡ true → b ≡ true
both true b e = e
both false b e = absurd (let no : ⊥ = cc in no)

-- a test of the chain, and the rest of it
row : {P : Type 0} (b : Bool) (x y : Operands) (rest : Option Operands) → (if b then Some x else rest) ≡ Some y → (b ≡ true → P) → (rest ≡ Some y → P) → P
row true x y rest e f g = f refl
row false x y rest e f g = g e

is : (code c : ℕ) → (code == c) ≡ true → c < 256 → code < 256
is code c e lt = let same : code ≡ c = eqb-true code c e in omega arith

within : (low high code : ℕ) → is_within low high code ≡ true → high < 256 → code < 256
within low high code e lt =
    let le = leb-true code high (both (nat_le low code) (nat_le code high) e) in
    omega arith

none_small : (code : ℕ) → has_no_operands code ≡ true → code < 256
unfolding has_no_operands
none_small code e =
    either (is_within DW_OP_abs DW_OP_plus code) _ e (λ t. within DW_OP_abs DW_OP_plus code t (omega arith)) (λ e.
    either (is_within DW_OP_shl DW_OP_xor code) _ e (λ t. within DW_OP_shl DW_OP_xor code t (omega arith)) (λ e.
    either (is_within DW_OP_eq DW_OP_ne code) _ e (λ t. within DW_OP_eq DW_OP_ne code t (omega arith)) (λ e.
    either (is_within DW_OP_lit0 DW_OP_reg31 code) _ e (λ t. within DW_OP_lit0 DW_OP_reg31 code t (omega arith)) (λ e.
    either (code == DW_OP_deref) _ e (λ t. is code DW_OP_deref t (omega arith)) (λ e.
    either (code == DW_OP_dup) _ e (λ t. is code DW_OP_dup t (omega arith)) (λ e.
    either (code == DW_OP_drop) _ e (λ t. is code DW_OP_drop t (omega arith)) (λ e.
    either (code == DW_OP_over) _ e (λ t. is code DW_OP_over t (omega arith)) (λ e.
    either (code == DW_OP_swap) _ e (λ t. is code DW_OP_swap t (omega arith)) (λ e.
    either (code == DW_OP_rot) _ e (λ t. is code DW_OP_rot t (omega arith)) (λ e.
    either (code == DW_OP_xderef) _ e (λ t. is code DW_OP_xderef t (omega arith)) (λ e.
    either (code == DW_OP_nop) _ e (λ t. is code DW_OP_nop t (omega arith)) (λ e.
    either (code == DW_OP_push_object_address) _ e (λ t. is code DW_OP_push_object_address t (omega arith)) (λ e.
    either (code == DW_OP_form_tls_address) _ e (λ t. is code DW_OP_form_tls_address t (omega arith)) (λ e.
    either (code == DW_OP_call_frame_cfa) _ e (λ t. is code DW_OP_call_frame_cfa t (omega arith)) (λ e.
    either (code == DW_OP_stack_value) (code == DW_OP_GNU_push_tls_address) e (λ t. is code DW_OP_stack_value t (omega arith)) (λ t. is code DW_OP_GNU_push_tls_address t (omega arith)))))))))))))))))

two : (code c d : ℕ) → (code == c || code == d) ≡ true → c < 256 → d < 256 → code < 256
two code c d e lc ld = either (code == c) (code == d) e (λ t. is code c t lc) (λ t. is code d t ld)

three : (code c d f : ℕ) → (code == c || code == d || code == f) ≡ true → c < 256 → d < 256 → f < 256 → code < 256
three code c d f e lc ld lf = either (code == c || code == d) (code == f) e (λ t. two code c d t lc ld) (λ t. is code f t lf)

pub code_small : (code : ℕ) (operands : Operands) → operands_of code ≡ Some operands → code < 256
unfolding operands_of
code_small code operands e =
    row (has_no_operands code) Empty operands _ e (none_small code) (λ e.
    row (code == DW_OP_addr) Address operands _ e (λ t. is code DW_OP_addr t (omega arith)) (λ e.
    row (code == DW_OP_const1u || code == DW_OP_const1s || code == DW_OP_pick) (Fixed 1) operands _ e (λ t. three code DW_OP_const1u DW_OP_const1s DW_OP_pick t (omega arith) (omega arith) (omega arith)) (λ e.
    row (code == DW_OP_deref_size || code == DW_OP_xderef_size) (Fixed 1) operands _ e (λ t. two code DW_OP_deref_size DW_OP_xderef_size t (omega arith) (omega arith)) (λ e.
    row (code == DW_OP_const2u || code == DW_OP_const2s) (Fixed 2) operands _ e (λ t. two code DW_OP_const2u DW_OP_const2s t (omega arith) (omega arith)) (λ e.
    row (code == DW_OP_skip || code == DW_OP_bra) (Fixed 2) operands _ e (λ t. two code DW_OP_skip DW_OP_bra t (omega arith) (omega arith)) (λ e.
    row (code == DW_OP_const4u || code == DW_OP_const4s) (Fixed 4) operands _ e (λ t. two code DW_OP_const4u DW_OP_const4s t (omega arith) (omega arith)) (λ e.
    row (code == DW_OP_const8u || code == DW_OP_const8s) (Fixed 8) operands _ e (λ t. two code DW_OP_const8u DW_OP_const8s t (omega arith) (omega arith)) (λ e.
    row (code == DW_OP_constu || code == DW_OP_plus_uconst) Uleb operands _ e (λ t. two code DW_OP_constu DW_OP_plus_uconst t (omega arith) (omega arith)) (λ e.
    row (code == DW_OP_regx || code == DW_OP_piece) Uleb operands _ e (λ t. two code DW_OP_regx DW_OP_piece t (omega arith) (omega arith)) (λ e.
    row (code == DW_OP_consts || code == DW_OP_fbreg) Sleb operands _ e (λ t. two code DW_OP_consts DW_OP_fbreg t (omega arith) (omega arith)) (λ e.
    row (is_within DW_OP_breg0 DW_OP_breg31 code) Sleb operands _ e (λ t. within DW_OP_breg0 DW_OP_breg31 code t (omega arith)) (λ e.
    row (code == DW_OP_bregx) UlebSleb operands _ e (λ t. is code DW_OP_bregx t (omega arith)) (λ e.
    row (code == DW_OP_bit_piece) UlebUleb operands _ e (λ t. is code DW_OP_bit_piece t (omega arith)) (λ e.
    row (code == DW_OP_implicit_value) Block operands _ e (λ t. is code DW_OP_implicit_value t (omega arith)) (λ e.
    row (code == DW_OP_entry_value || code == DW_OP_GNU_entry_value) Expression operands _ e (λ t. two code DW_OP_entry_value DW_OP_GNU_entry_value t (omega arith) (omega arith)) (λ e.
    row (code == DW_OP_const_type) BaseBlock operands _ e (λ t. is code DW_OP_const_type t (omega arith)) (λ e.
    row (code == DW_OP_regval_type) UlebBase operands _ e (λ t. is code DW_OP_regval_type t (omega arith)) (λ e.
    row (code == DW_OP_deref_type) ByteBase operands _ e (λ t. is code DW_OP_deref_type t (omega arith)) (λ e.
    row (code == DW_OP_convert || code == DW_OP_reinterpret) Base operands _ e (λ t. two code DW_OP_convert DW_OP_reinterpret t (omega arith) (omega arith)) (λ e.
    row (code == DW_OP_call2 || code == DW_OP_call4 || code == DW_OP_call_ref) Outside operands _ e (λ t. three code DW_OP_call2 DW_OP_call4 DW_OP_call_ref t (omega arith) (omega arith) (omega arith)) (λ e.
    row (code == DW_OP_implicit_pointer || code == DW_OP_xderef_type) Outside operands _ e (λ t. two code DW_OP_implicit_pointer DW_OP_xderef_type t (omega arith) (omega arith)) (λ e.
    row (code == DW_OP_addrx || code == DW_OP_constx) Index operands _ e (λ t. two code DW_OP_addrx DW_OP_constx t (omega arith) (omega arith)) (λ e. absurd (let no : ⊥ = cc in no))))))))))))))))))))))))
