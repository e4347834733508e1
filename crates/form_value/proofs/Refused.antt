-- Of which kinds the faults of an attribute value are.
use Rattle.std.proofs.Common.{ℕ, List, Result, refl, arith, Bool, [], ◌∷◌}
use Rattle.std.specs.Prelude.{nat_lt}
use Rattle.std.specs.List.{Contains}
use Rattle.ds_base.specs.declared.fault.Fault.{Fault}
use Rattle.ds_base.specs.declared.fault.Kind.{Kind}
use Rattle.ds_base.specs.declared.fault.Kind.TheVariants as kinds
use Rattle.ds_base.specs.Spot.{Spot, fault_at}
use Rattle.ds_base.specs.Reading.{◌>>=◌, or_fault, bytes_at, number_at, placed_text_at, text_at, sleb_at, refuse_if, text_of}
use Rattle.dwarf_types.specs.declared.abbrev.Field.{Field}
use Rattle.dwarf_types.specs.SectionBytes.{SectionBytes}
use Rattle.dwarf_types.specs.declared.value.Value.{Value}
use Rattle.dwarf_types.specs.declared.value.Value.TheVariants as values
use Rattle.ds_base.proofs.FaultKinds.{FaultsAre, ok_kinds, err_kinds, bind_kinds, refuse_kinds, found_kinds, bytes_kinds, number_kinds, text_kinds, uleb_kinds, sleb_kinds}
use Rattle.form_value.specs.declared.form.Coding.{Coding}
use Rattle.form_value.specs.declared.form.Coding.TheVariants.{One, Two, Three, Four, Eight, Leb}
use Rattle.form_value.specs.declared.form.FormClass.{FormClass}
use Rattle.form_value.specs.declared.form.FormClass.TheVariants.{Address, Text, StrText, LineStrText, Number, Signed, Present, Implicit, Wide, Block, Offset, Outside}
use Rattle.form_value.specs.Forms.{form_row}
use Rattle.form_value.specs.Reading.{coded_at, block_at, made, fixed_address, in_64_bits, class_at, value_at}

abbrev pub IsOne : Kind → Type 0
IsOne = Contains (kinds.Truncated ∷ kinds.LebTooWide ∷ kinds.UnknownForm ∷ kinds.FormOutsideProfile ∷ kinds.BadOffset ∷ [])

-- a test before what follows
tried_kinds : {A : Type 0} (b : Bool) (f : Fault) (next : Result A Fault) → IsOne f.kind → FaultsAre IsOne next → FaultsAre IsOne (refuse_if b f >>= λ u. next)
tried_kinds b f next is later = bind_kinds IsOne (refuse_if b f) (λ u. next) (refuse_kinds IsOne b f is) (λ u. later)

cut : IsOne kinds.Truncated
cut = (0, omega arith, refl)

wide : IsOne kinds.LebTooWide
wide = (1, omega arith, refl)

outside : IsOne kinds.FormOutsideProfile
outside = (3, omega arith, refl)

coded_kinds : (coding : Coding) (s : Spot) → FaultsAre IsOne (coded_at coding s)
unfolding coded_at
coded_kinds One s = number_kinds IsOne 1 s cut
coded_kinds Two s = number_kinds IsOne 2 s cut
coded_kinds Three s = number_kinds IsOne 3 s cut
coded_kinds Four s = number_kinds IsOne 4 s cut
coded_kinds Eight s = number_kinds IsOne 8 s cut
coded_kinds Leb s = uleb_kinds IsOne s cut wide

block_kinds : (coding : Coding) (s : Spot) → FaultsAre IsOne (block_at coding s)
unfolding block_at
block_kinds coding s = bind_kinds IsOne (coded_at coding s) _ (coded_kinds coding s) (λ n. bytes_kinds IsOne n.0 n.1 cut)

placed_kinds : (section : List ℕ) (s : Spot) → FaultsAre IsOne (placed_text_at section s)
unfolding placed_text_at
placed_kinds section s =
    bind_kinds IsOne (number_at 4 s) _ (number_kinds IsOne 4 s cut) (λ place.
    bind_kinds IsOne (or_fault (text_of section place.0) (fault_at s kinds.BadOffset)) _ (found_kinds IsOne (text_of section place.0) (fault_at s kinds.BadOffset) (4, omega arith, refl)) (λ text. ok_kinds IsOne _))

made_kinds : {A : Type 0} (value : A → Value) (read : Result (A × Spot) Fault) → FaultsAre IsOne read → FaultsAre IsOne (made value read)
made_kinds value read h = bind_kinds IsOne read _ h (λ x. ok_kinds IsOne _)

class_kinds : (class : FormClass) (field : Field) (sections : SectionBytes) (s : Spot) → FaultsAre IsOne (class_at class field sections s)
unfolding class_at
class_kinds Address field sections s = made_kinds fixed_address (number_at 8 s) (number_kinds IsOne 8 s cut)
class_kinds Text field sections s = made_kinds (λ text. values.Text text) (text_at s) (text_kinds IsOne s cut)
class_kinds StrText field sections s = made_kinds (λ text. values.Text text) (placed_text_at sections.strings s) (placed_kinds sections.strings s)
class_kinds LineStrText field sections s = made_kinds (λ text. values.Text text) (placed_text_at sections.line_str s) (placed_kinds sections.line_str s)
class_kinds (Number coding) field sections s = made_kinds (λ n. values.Number field.form n) (coded_at coding s) (coded_kinds coding s)
class_kinds Signed field sections s = made_kinds (λ n. values.Number field.form (in_64_bits n)) (sleb_at s) (sleb_kinds IsOne s cut wide)
class_kinds Present field sections s = ok_kinds IsOne _
class_kinds Implicit field sections s = ok_kinds IsOne _
class_kinds Wide field sections s = made_kinds (λ bytes. values.Wide bytes) (bytes_at 16 s) (bytes_kinds IsOne 16 s cut)
class_kinds (Block coding) field sections s = made_kinds (λ bytes. values.Block field.form bytes) (block_at coding s) (block_kinds coding s)
class_kinds (Offset coding) field sections s = made_kinds (λ n. values.Offset n) (coded_at coding s) (coded_kinds coding s)
class_kinds Outside field sections s = err_kinds IsOne (fault_at s kinds.FormOutsideProfile) outside

pub value_faults : (field : Field) (version : ℕ) (sections : SectionBytes) (s : Spot) → FaultsAre IsOne (value_at field version sections s)
unfolding value_at
value_faults field version sections s =
    bind_kinds IsOne (or_fault (form_row field.form) (fault_at s kinds.UnknownForm)) _ (found_kinds IsOne (form_row field.form) (fault_at s kinds.UnknownForm) (2, omega arith, refl)) (λ row.
    tried_kinds (nat_lt version row.since) (fault_at s kinds.FormOutsideProfile) (class_at row.class field sections s) outside (class_kinds row.class field sections s))
