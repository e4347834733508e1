-- Constants, flags and blocks are spelled in their forms.
use Rattle.std.proofs.Common.{◌≡◌, ◌<◌, ◌≤◌, ◌^◌, ◌++◌, ◌-◌, ℕ, suc, nat_lt, ℤ, pos, Bool, true, false, IsTrue, List, length, refl, sym, ap, subst, arith}
use Rattle.byteorder.specs.Endian.{little_bytes}
use Rattle.std.proofs.lemmas.Bool.{lt-ltb, ltb-false}
use Rattle.std.specs.Int.{w64, cast_signed}
use Rattle.std.proofs.lemmas.Int.{of_z-to_z}
use Rattle.ds_base.specs.DwarfNumbers.{DW_FORM_flag_present, DW_FORM_sdata}
use Rattle.ds_base.specs.Leb.{fits_i64, sleb, uleb}
use Rattle.ds_base.proofs.LebShortest.{sleb_shortest, uleb_shortest}
use Rattle.dwarf_types.specs.declared.abbrev.Field.{Field}
use Rattle.dwarf_types.specs.declared.value.Value.TheVariants as values
use Rattle.dwarf_types.specs.SectionBytes.{SectionBytes}
use Rattle.dwarf_types.specs.Spelled.{AreBytes, IsSleb, IsUleb}
use Rattle.dwarf_types.specs.Values.{block_prefix, number_bytes}
use Rattle.dwarf_types.specs.WellValues.{FitsBlock, FitsForm}
use Rattle.dwarf_types.specs.WellValues.FitsForm.{in_data1, in_data2, in_data4, in_data8, in_flag, in_flag_present, in_sdata, in_udata}
use Rattle.dwarf_types.specs.WellValues.FitsBlock.{in_block, in_block1, in_block2, in_block4}
use Rattle.form_value.specs.declared.form.Coding.TheVariants as codings
use Rattle.form_value.specs.declared.form.FormClass.TheVariants as classes
use Rattle.form_value.specs.Forms.{form_row}
use Rattle.form_value.specs.Spelling.{SpellsValue}

pub is_uleb : (n : ℕ) → n < 2 ^ 64 → IsUleb (uleb n) n
is_uleb n lt = let w = uleb_shortest n lt in record { spelled = w.spelled; value = w.value; fits = lt }

pub is_sleb : (z : ℤ) → IsTrue (fits_i64 z) → IsSleb (sleb z) z
is_sleb z fits = let w = sleb_shortest z fits in record { spelled = w.spelled; value = w.value; fits = fits }

signed_by : (bits : ℕ) (b : Bool) → nat_lt bits (2 ^ 63) ≡ b → bits < 2 ^ 64 → IsTrue (fits_i64 (cast_signed w64 bits))
signed_by bits true e lt = rw e e
signed_by bits false e lt =
    let high : 2 ^ 63 ≤ bits = ltb-false bits (2 ^ 63) e in
    let low : nat_lt (2 ^ 64 - suc bits) (2 ^ 63) ≡ true = lt-ltb (2 ^ 64 - suc bits) (2 ^ 63) (omega (arith, high, lt)) in
    rw e low

signed_fits : (bits : ℕ) → bits < 2 ^ 64 → IsTrue (fits_i64 (cast_signed w64 bits))
signed_fits bits lt = signed_by bits (nat_lt bits (2 ^ 63)) refl lt

-- a field of a form under a name, as output has it
abbrev pub field : ℕ → ℕ → Field
field name form = record { name = name; form = form; fixed = pos 0 }

module _ (name version : ℕ) (old : 4 ≤ version) (sections : SectionBytes) where
  pub number_spelled : (form bits : ℕ) → FitsForm form bits → SpellsValue (field name form) version sections (number_bytes form bits) (values.Number form bits)
  unfolding number_bytes form_row
  number_spelled form bits (in_data1 e lt) =
      subst (λ (f : ℕ). SpellsValue (field name f) version sections (number_bytes f bits) (values.Number f bits)) (sym e)
      (record { row = record { since = 4; class = classes.Number codings.One }; known = refl; old = old; spells = record { of = bits; spells = record { is = refl; fits = lt }; is = refl } })
  number_spelled form bits (in_data2 e lt) =
      subst (λ (f : ℕ). SpellsValue (field name f) version sections (number_bytes f bits) (values.Number f bits)) (sym e)
      (record { row = record { since = 4; class = classes.Number codings.Two }; known = refl; old = old; spells = record { of = bits; spells = record { is = refl; fits = lt }; is = refl } })
  number_spelled form bits (in_data4 e lt) =
      subst (λ (f : ℕ). SpellsValue (field name f) version sections (number_bytes f bits) (values.Number f bits)) (sym e)
      (record { row = record { since = 4; class = classes.Number codings.Four }; known = refl; old = old; spells = record { of = bits; spells = record { is = refl; fits = lt }; is = refl } })
  number_spelled form bits (in_data8 e lt) =
      subst (λ (f : ℕ). SpellsValue (field name f) version sections (number_bytes f bits) (values.Number f bits)) (sym e)
      (record { row = record { since = 4; class = classes.Number codings.Eight }; known = refl; old = old; spells = record { of = bits; spells = record { is = refl; fits = lt }; is = refl } })
  number_spelled form bits (in_flag e lt) =
      subst (λ (f : ℕ). SpellsValue (field name f) version sections (number_bytes f bits) (values.Number f bits)) (sym e)
      (record { row = record { since = 4; class = classes.Number codings.One }; known = refl; old = old; spells = record { of = bits; spells = record { is = refl; fits = lt }; is = refl } })
  number_spelled form bits (in_udata e lt) =
      subst (λ (f : ℕ). SpellsValue (field name f) version sections (number_bytes f bits) (values.Number f bits)) (sym e)
      (record { row = record { since = 4; class = classes.Number codings.Leb }; known = refl; old = old; spells = record { of = bits; spells = is_uleb bits lt; is = refl } })
  number_spelled form bits (in_sdata e lt) =
      subst (λ (f : ℕ). SpellsValue (field name f) version sections (number_bytes f bits) (values.Number f bits)) (sym e)
      (record { row = record { since = 4; class = classes.Signed }; known = refl; old = old; spells = record { of = cast_signed w64 bits; spells = is_sleb (cast_signed w64 bits) (signed_fits bits lt); is = ap (values.Number DW_FORM_sdata) (sym (of_z-to_z w64 bits lt)) } })
  number_spelled form bits (in_flag_present e one) =
      subst (λ (f : ℕ). SpellsValue (field name f) version sections (number_bytes f bits) (values.Number f bits)) (sym e)
      (record { row = record { since = 4; class = classes.Present }; known = refl; old = old; spells = (refl, ap (values.Number DW_FORM_flag_present) one) })

  pub block_spelled : (form : ℕ) (block : List ℕ) → FitsBlock form (length block) → AreBytes block → SpellsValue (field name form) version sections (block_prefix form (length block) ++ block) (values.Block form block)
  unfolding block_prefix form_row
  block_spelled form block (in_block1 e lt) sound =
      subst (λ (f : ℕ). SpellsValue (field name f) version sections (block_prefix f (length block) ++ block) (values.Block f block)) (sym e)
      (record { row = record { since = 4; class = classes.Block codings.One }; known = refl; old = old; spells = record { of = block; spells = record { front = little_bytes 1 (length block); back = block; is = refl; first = record { is = refl; fits = lt }; second = record { is = refl; sound = sound; len = refl } }; is = refl } })
  block_spelled form block (in_block2 e lt) sound =
      subst (λ (f : ℕ). SpellsValue (field name f) version sections (block_prefix f (length block) ++ block) (values.Block f block)) (sym e)
      (record { row = record { since = 4; class = classes.Block codings.Two }; known = refl; old = old; spells = record { of = block; spells = record { front = little_bytes 2 (length block); back = block; is = refl; first = record { is = refl; fits = lt }; second = record { is = refl; sound = sound; len = refl } }; is = refl } })
  block_spelled form block (in_block4 e lt) sound =
      subst (λ (f : ℕ). SpellsValue (field name f) version sections (block_prefix f (length block) ++ block) (values.Block f block)) (sym e)
      (record { row = record { since = 4; class = classes.Block codings.Four }; known = refl; old = old; spells = record { of = block; spells = record { front = little_bytes 4 (length block); back = block; is = refl; first = record { is = refl; fits = lt }; second = record { is = refl; sound = sound; len = refl } }; is = refl } })
  block_spelled form block (in_block e lt) sound =
      subst (λ (f : ℕ). SpellsValue (field name f) version sections (block_prefix f (length block) ++ block) (values.Block f block)) (sym e)
      (record { row = record { since = 4; class = classes.Block codings.Leb }; known = refl; old = old; spells = record { of = block; spells = record { front = uleb (length block); back = block; is = refl; first = is_uleb (length block) lt; second = record { is = refl; sound = sound; len = refl } }; is = refl } })
