-- Forms of the table: their numbers, and the form that a number gets.
use Rattle.std.proofs.Common.{◌≡◌, ℕ, ◌<◌, Bool, true, false, Option, Some, None, Result, Ok, Err, refl, ap, ◌∙◌, subst, sym, arith}
use Rattle.std.specs.Prelude.{IfOk, ◌==◌, ◌||◌, if◌then◌else◌}
use Rattle.std.proofs.lemmas.Bool.{eqb-true}
use Rattle.ds_base.specs.DwarfNumbers.{DW_FORM_addr, DW_FORM_addrx, DW_FORM_addrx1, DW_FORM_addrx2, DW_FORM_addrx3, DW_FORM_addrx4, DW_FORM_block, DW_FORM_block1, DW_FORM_block2, DW_FORM_block4, DW_FORM_data1, DW_FORM_data16, DW_FORM_data2, DW_FORM_data4, DW_FORM_data8, DW_FORM_exprloc, DW_FORM_flag, DW_FORM_flag_present, DW_FORM_implicit_const, DW_FORM_indirect, DW_FORM_line_strp, DW_FORM_loclistx, DW_FORM_ref1, DW_FORM_ref2, DW_FORM_ref4, DW_FORM_ref8, DW_FORM_ref_addr, DW_FORM_ref_sig8, DW_FORM_ref_sup4, DW_FORM_ref_sup8, DW_FORM_ref_udata, DW_FORM_rnglistx, DW_FORM_sdata, DW_FORM_sec_offset, DW_FORM_string, DW_FORM_strp, DW_FORM_strp_sup, DW_FORM_strx, DW_FORM_strx1, DW_FORM_strx2, DW_FORM_strx3, DW_FORM_strx4, DW_FORM_udata}
use Rattle.dwarf_types.specs.Put.{number_form}
use Rattle.form_value.specs.declared.form.FormClass.{FormClass}
use Rattle.form_value.specs.declared.form.FormClass.TheVariants as classes
use Rattle.form_value.specs.declared.form.FormRow.{FormRow}
use Rattle.form_value.specs.Forms.{form_row}

-- the form that a number of a class gets
abbrev pub numbered : FormClass → ℕ → ℕ
numbered classes.Implicit form = DW_FORM_sdata
numbered _ form = form

-- what holds of a form that has a row
abbrev pub IsKnown : ℕ → Option FormRow → Type 0
IsKnown form None = Unit {0}
IsKnown form (Some row) = (form < 256) × (number_form form ≡ numbered row.class form)

one : (form k : ℕ) (row more : Option FormRow) → IsKnown k row → IsKnown form more → IsKnown form (if form == k then row else more)
one form k row more here later = chosen (form == k) (λ same. subst (λ (n : ℕ). IsKnown n row) (sym (eqb-true form k same)) here)
  where
    chosen : (b : Bool) → (b ≡ true → IsKnown form row) → IsKnown form (if b then row else more)
    chosen true first = first refl
    chosen false first = later

-- a test of one of several numbers
split : (form k : ℕ) (b : Bool) (row more : Option FormRow) → IsKnown form (if form == k then row else (if b then row else more)) → IsKnown form (if form == k || b then row else more)
split form k b row more h = chosen (form == k) h
  where
    chosen : (a : Bool) → IsKnown form (if a then row else (if b then row else more)) → IsKnown form (if a || b then row else more)
    chosen true known = known
    chosen false known = known

form_known : (form : ℕ) → IsKnown form (form_row form)
unfolding form_row
form_known form =
    one form DW_FORM_addr _ _ (omega arith, refl) (
    one form DW_FORM_string _ _ (omega arith, refl) (
    one form DW_FORM_strp _ _ (omega arith, refl) (
    one form DW_FORM_line_strp _ _ (omega arith, refl) (
    split form DW_FORM_data1 _ _ _ (one form DW_FORM_data1 _ _ (omega arith, refl) (
    one form DW_FORM_flag _ _ (omega arith, refl) (
    one form DW_FORM_data2 _ _ (omega arith, refl) (
    one form DW_FORM_data4 _ _ (omega arith, refl) (
    one form DW_FORM_data8 _ _ (omega arith, refl) (
    one form DW_FORM_udata _ _ (omega arith, refl) (
    one form DW_FORM_sdata _ _ (omega arith, refl) (
    one form DW_FORM_flag_present _ _ (omega arith, refl) (
    one form DW_FORM_implicit_const _ _ (omega arith, refl) (
    one form DW_FORM_data16 _ _ (omega arith, refl) (
    one form DW_FORM_block1 _ _ (omega arith, refl) (
    one form DW_FORM_block2 _ _ (omega arith, refl) (
    one form DW_FORM_block4 _ _ (omega arith, refl) (
    split form DW_FORM_block _ _ _ (one form DW_FORM_block _ _ (omega arith, refl) (
    one form DW_FORM_exprloc _ _ (omega arith, refl) (
    one form DW_FORM_ref1 _ _ (omega arith, refl) (
    one form DW_FORM_ref2 _ _ (omega arith, refl) (
    split form DW_FORM_ref4 _ _ _ (one form DW_FORM_ref4 _ _ (omega arith, refl) (
    split form DW_FORM_ref_addr _ _ _ (one form DW_FORM_ref_addr _ _ (omega arith, refl) (
    one form DW_FORM_sec_offset _ _ (omega arith, refl) (
    one form DW_FORM_ref8 _ _ (omega arith, refl) (
    one form DW_FORM_ref_udata _ _ (omega arith, refl) (
    split form DW_FORM_addrx1 _ _ _ (one form DW_FORM_addrx1 _ _ (omega arith, refl) (
    one form DW_FORM_strx1 _ _ (omega arith, refl) (
    split form DW_FORM_addrx2 _ _ _ (one form DW_FORM_addrx2 _ _ (omega arith, refl) (
    one form DW_FORM_strx2 _ _ (omega arith, refl) (
    split form DW_FORM_addrx3 _ _ _ (one form DW_FORM_addrx3 _ _ (omega arith, refl) (
    one form DW_FORM_strx3 _ _ (omega arith, refl) (
    split form DW_FORM_addrx4 _ _ _ (one form DW_FORM_addrx4 _ _ (omega arith, refl) (
    one form DW_FORM_strx4 _ _ (omega arith, refl) (
    split form DW_FORM_addrx _ _ _ (one form DW_FORM_addrx _ _ (omega arith, refl) (
    split form DW_FORM_strx _ _ _ (one form DW_FORM_strx _ _ (omega arith, refl) (
    split form DW_FORM_loclistx _ _ _ (one form DW_FORM_loclistx _ _ (omega arith, refl) (
    one form DW_FORM_rnglistx _ _ (omega arith, refl) (
    split form DW_FORM_indirect _ _ _ (one form DW_FORM_indirect _ _ (omega arith, refl) (
    split form DW_FORM_ref_sup4 _ _ _ (one form DW_FORM_ref_sup4 _ _ (omega arith, refl) (
    split form DW_FORM_strp_sup _ _ _ (one form DW_FORM_strp_sup _ _ (omega arith, refl) (
    split form DW_FORM_ref_sig8 _ _ _ (one form DW_FORM_ref_sig8 _ _ (omega arith, refl) (
    one form DW_FORM_ref_sup8 _ _ (omega arith, refl) (tt))))))))))))))))))))))))))))))))))))))))))))))))))))))))))

known : (form : ℕ) (row : FormRow) → form_row form ≡ Some row → IsKnown form (Some row)
known form row e = subst (IsKnown form) e (form_known form)

pub small_form : (form : ℕ) (row : FormRow) → form_row form ≡ Some row → form < 256
small_form form row e = (known form row e).0

pub own_form : (form : ℕ) (row : FormRow) (class : FormClass) → form_row form ≡ Some row → row.class ≡ class → number_form form ≡ numbered class form
own_form form row class e is = (known form row e).1 ∙ ap (λ c. numbered c form) is

-- what holds in any case
pub always : {X E : Type 0} {P : Type 0} (r : Result X E) → P → IfOk r (λ x. P)
always (Ok x) h = h
always (Err e) h = tt
