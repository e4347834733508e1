-- What a form can hold in a unit of a version, by its row of the table of forms.
use Rattle.std.proofs.Common.{◌≡◌, ◌<◌, ◌≤◌, ◌^◌, ◌==◌, ◌||◌, ℕ, Bool, true, false, Option, inl, inr, ◌⊎◌, refl, arith}
use Rattle.std.specs.Prelude.{IfSome, if◌then◌else◌}
use Rattle.std.proofs.lemmas.Bool.{eqb-true}
use Rattle.ds_base.specs.DwarfNumbers.{DW_FORM_addr, DW_FORM_addrx, DW_FORM_addrx1, DW_FORM_addrx2, DW_FORM_addrx3, DW_FORM_addrx4, DW_FORM_block, DW_FORM_block1, DW_FORM_block2, DW_FORM_block4, DW_FORM_data1, DW_FORM_data2, DW_FORM_data4, DW_FORM_data8, DW_FORM_data16, DW_FORM_exprloc, DW_FORM_flag, DW_FORM_flag_present, DW_FORM_implicit_const, DW_FORM_indirect, DW_FORM_line_strp, DW_FORM_loclistx, DW_FORM_ref_addr, DW_FORM_ref_sig8, DW_FORM_ref_sup4, DW_FORM_ref_sup8, DW_FORM_ref_udata, DW_FORM_ref1, DW_FORM_ref2, DW_FORM_ref4, DW_FORM_ref8, DW_FORM_rnglistx, DW_FORM_sdata, DW_FORM_sec_offset, DW_FORM_string, DW_FORM_strp, DW_FORM_strp_sup, DW_FORM_strx, DW_FORM_strx1, DW_FORM_strx2, DW_FORM_strx3, DW_FORM_strx4, DW_FORM_udata}
use Rattle.dwarf_types.specs.WellValues.{FitsBlock, FitsForm}
use Rattle.form_value.specs.declared.form.Coding.{Coding}
use Rattle.form_value.specs.declared.form.Coding.TheVariants.{One, Two, Three, Four, Eight, Leb}
use Rattle.form_value.specs.declared.form.FormClass.{FormClass}
use Rattle.form_value.specs.declared.form.FormClass.TheVariants.{Address, Text, StrText, LineStrText, Number, Signed, Present, Implicit, Wide, Block, Offset, Outside}
use Rattle.form_value.specs.declared.form.FormRow.{FormRow}
use Rattle.form_value.specs.Forms.{form_row}

-- what a coding holds is below this
abbrev pub bound : Coding → ℕ
bound One = 2 ^ 8
bound Two = 2 ^ 16
bound Three = 2 ^ 24
bound Four = 2 ^ 32
bound Eight = 2 ^ 64
bound Leb = 2 ^ 64

-- the versions of units that are read
abbrev pub IsVersion : ℕ → Type 0
IsVersion version = (version ≡ 4) ⊎ (version ≡ 5)

-- what is read by the class of a form fits the form; 16 bytes stand in version 5 alone
abbrev pub Holds : ℕ → ℕ → FormClass → Type 0
Holds version form Address = Unit {0}
Holds version form Text = Unit {0}
Holds version form StrText = Unit {0}
Holds version form LineStrText = Unit {0}
Holds version form (Number coding) = (n : ℕ) → n < bound coding → FitsForm form n
Holds version form Signed = (n : ℕ) → n < 2 ^ 64 → FitsForm form n
Holds version form Present = FitsForm form 1
Holds version form Implicit = Unit {0}
Holds version form Wide = version ≡ 5
Holds version form (Block coding) = (len : ℕ) → len < bound coding → (form ≡ DW_FORM_exprloc) ⊎ FitsBlock form len
Holds version form (Offset coding) = Unit {0}
Holds version form Outside = Unit {0}

-- in a unit that may have the form
abbrev pub HoldsIn : ℕ → ℕ → Option FormRow → Type 0
HoldsIn version form row = IfSome row (λ row. row.since ≤ version → Holds version form row.class)

by_test : (version form : ℕ) (b : Bool) (x y : Option FormRow) → (b ≡ true → HoldsIn version form x) → HoldsIn version form y → HoldsIn version form (if b then x else y)
by_test version form true x y f h = f refl
by_test version form false x y f h = h

is_one : (form c : ℕ) → (form == c) ≡ true → form ≡ c
is_one form c e = eqb-true form c e

either : (b c : Bool) → (b || c) ≡ true → (b ≡ true) ⊎ (c ≡ true)
either true c e = inl refl
either false c e = inr e

is_five : (version : ℕ) → IsVersion version → 5 ≤ version → version ≡ 5
is_five version (inl four) old = absurd (omega (arith, four, old))
is_five version (inr five) old = five

pub forms_hold : (version : ℕ) → IsVersion version → (form : ℕ) → HoldsIn version form (form_row form)
unfolding form_row
forms_hold version known form =
    by_test version form (form == DW_FORM_addr) _ _ (λ e old. tt)
    (by_test version form (form == DW_FORM_string) _ _ (λ e old. tt)
    (by_test version form (form == DW_FORM_strp) _ _ (λ e old. tt)
    (by_test version form (form == DW_FORM_line_strp) _ _ (λ e old. tt)
    (by_test version form (form == DW_FORM_data1 || form == DW_FORM_flag) _ _ (λ e old n lt. elim (either (form == DW_FORM_data1) (form == DW_FORM_flag) e) [
      | inl d ↦ FitsForm.in_data1 (is_one form DW_FORM_data1 d) lt
      | inr f ↦ FitsForm.in_flag (is_one form DW_FORM_flag f) lt
    ])
    (by_test version form (form == DW_FORM_data2) _ _ (λ e old n lt. FitsForm.in_data2 (is_one form DW_FORM_data2 e) lt)
    (by_test version form (form == DW_FORM_data4) _ _ (λ e old n lt. FitsForm.in_data4 (is_one form DW_FORM_data4 e) lt)
    (by_test version form (form == DW_FORM_data8) _ _ (λ e old n lt. FitsForm.in_data8 (is_one form DW_FORM_data8 e) lt)
    (by_test version form (form == DW_FORM_udata) _ _ (λ e old n lt. FitsForm.in_udata (is_one form DW_FORM_udata e) lt)
    (by_test version form (form == DW_FORM_sdata) _ _ (λ e old n lt. FitsForm.in_sdata (is_one form DW_FORM_sdata e) lt)
    (by_test version form (form == DW_FORM_flag_present) _ _ (λ e old. FitsForm.in_flag_present (is_one form DW_FORM_flag_present e) refl)
    (by_test version form (form == DW_FORM_implicit_const) _ _ (λ e old. tt)
    (by_test version form (form == DW_FORM_data16) _ _ (λ e old. is_five version known old)
    (by_test version form (form == DW_FORM_block1) _ _ (λ e old n lt. inr (FitsBlock.in_block1 (is_one form DW_FORM_block1 e) lt))
    (by_test version form (form == DW_FORM_block2) _ _ (λ e old n lt. inr (FitsBlock.in_block2 (is_one form DW_FORM_block2 e) lt))
    (by_test version form (form == DW_FORM_block4) _ _ (λ e old n lt. inr (FitsBlock.in_block4 (is_one form DW_FORM_block4 e) lt))
    (by_test version form (form == DW_FORM_block || form == DW_FORM_exprloc) _ _ (λ e old n lt. elim (either (form == DW_FORM_block) (form == DW_FORM_exprloc) e) [
      | inl b ↦ inr (FitsBlock.in_block (is_one form DW_FORM_block b) lt)
      | inr x ↦ inl (is_one form DW_FORM_exprloc x)
    ])
    (by_test version form (form == DW_FORM_ref1) _ _ (λ e old. tt)
    (by_test version form (form == DW_FORM_ref2) _ _ (λ e old. tt)
    (by_test version form (form == DW_FORM_ref4 || (form == DW_FORM_ref_addr || form == DW_FORM_sec_offset)) _ _ (λ e old. tt)
    (by_test version form (form == DW_FORM_ref8) _ _ (λ e old. tt)
    (by_test version form (form == DW_FORM_ref_udata) _ _ (λ e old. tt)
    (by_test version form (form == DW_FORM_addrx1 || form == DW_FORM_strx1) _ _ (λ e old. tt)
    (by_test version form (form == DW_FORM_addrx2 || form == DW_FORM_strx2) _ _ (λ e old. tt)
    (by_test version form (form == DW_FORM_addrx3 || form == DW_FORM_strx3) _ _ (λ e old. tt)
    (by_test version form (form == DW_FORM_addrx4 || form == DW_FORM_strx4) _ _ (λ e old. tt)
    (by_test version form (form == DW_FORM_addrx || (form == DW_FORM_strx || (form == DW_FORM_loclistx || form == DW_FORM_rnglistx))) _ _ (λ e old. tt)
    (by_test version form (form == DW_FORM_indirect || (form == DW_FORM_ref_sup4 || (form == DW_FORM_strp_sup || (form == DW_FORM_ref_sig8 || form == DW_FORM_ref_sup8)))) _ _ (λ e old. tt) tt)))))))))))))))))))))))))))
