-- Reading one attribute value (DWARF 5, section 7.5.5): the value, or the first fault.
use Rattle.std.specs.Prelude.{ℕ, ℤ, List, None, Result, Ok, Err, nat_lt}
use Rattle.std.specs.Int.{w64, cast_unsigned}
use Rattle.ds_base.specs.DwarfNumbers.{DW_FORM_sdata}
use Rattle.ds_base.specs.declared.fault.Fault.{Fault}
use Rattle.ds_base.specs.declared.fault.Kind.TheVariants as kinds
use Rattle.ds_base.specs.Spot.{Spot, fault_at}
use Rattle.ds_base.specs.Reading.{◌>>=◌, refuse_if, or_fault, bytes_at, number_at, placed_text_at, text_at, uleb_at, sleb_at}
use Rattle.dwarf_types.specs.declared.address.Addr.TheVariants.{Fixed}
use Rattle.dwarf_types.specs.declared.abbrev.Field.{Field}
use Rattle.dwarf_types.specs.SectionBytes.{SectionBytes}
use Rattle.dwarf_types.specs.declared.value.Value.{Value}
use Rattle.dwarf_types.specs.declared.value.Value.TheVariants as values
use Rattle.form_value.specs.declared.form.Coding.{Coding}
use Rattle.form_value.specs.declared.form.Coding.TheVariants.{One, Two, Three, Four, Eight, Leb}
use Rattle.form_value.specs.declared.form.FormClass.{FormClass}
use Rattle.form_value.specs.declared.form.FormClass.TheVariants.{Address, Text, StrText, LineStrText, Number, Signed, Present, Implicit, Wide, Block, Offset, Outside}
use Rattle.form_value.specs.Forms.{form_row}

unfoldable pub coded_at : Coding → Spot → Result (ℕ × Spot) Fault
coded_at One s = number_at 1 s
coded_at Two s = number_at 2 s
coded_at Three s = number_at 3 s
coded_at Four s = number_at 4 s
coded_at Eight s = number_at 8 s
coded_at Leb s = uleb_at s

-- bytes behind their length
unfoldable pub block_at : Coding → Spot → Result (List ℕ × Spot) Fault
block_at coding s = do
  n ← coded_at coding s
  bytes_at n.0 n.1

-- a value made of what is read
abbrev pub made : {A : Type 0} → (A → Value) → Result (A × Spot) Fault → Result (Value × Spot) Fault
made value read = read >>= λ x. Ok (value x.0, x.1)

-- an address as it is stored
abbrev pub fixed_address : ℕ → Value
fixed_address n = values.Address (record { at = Fixed n; linked = None; linked_end = None })

-- a signed constant in 64 bits
abbrev pub in_64_bits : ℤ → ℕ
in_64_bits n = cast_unsigned w64 n

-- the value of an attribute, by the class of its form
unfoldable pub class_at : FormClass → Field → SectionBytes → Spot → Result (Value × Spot) Fault
class_at Address field sections s = made fixed_address (number_at 8 s)
class_at Text field sections s = made (λ text. values.Text text) (text_at s)
class_at StrText field sections s = made (λ text. values.Text text) (placed_text_at sections.strings s)
class_at LineStrText field sections s = made (λ text. values.Text text) (placed_text_at sections.line_str s)
class_at (Number coding) field sections s = made (λ n. values.Number field.form n) (coded_at coding s)
class_at Signed field sections s = made (λ n. values.Number field.form (in_64_bits n)) (sleb_at s)
class_at Present field sections s = Ok (values.Number field.form 1, s)
class_at Implicit field sections s = Ok (values.Number DW_FORM_sdata (in_64_bits field.fixed), s)
class_at Wide field sections s = made (λ bytes. values.Wide bytes) (bytes_at 16 s)
class_at (Block coding) field sections s = made (λ bytes. values.Block field.form bytes) (block_at coding s)
class_at (Offset coding) field sections s = made (λ n. values.Offset n) (coded_at coding s)
class_at Outside field sections s = Err (fault_at s kinds.FormOutsideProfile)

-- The value of an attribute in a unit of a version. Its form is tried before its bytes.
unfoldable pub value_at : Field → ℕ → SectionBytes → Spot → Result (Value × Spot) Fault
value_at field version sections s = do
  row ← or_fault (form_row field.form) (fault_at s kinds.UnknownForm)
  _ ← refuse_if (nat_lt version row.since) (fault_at s kinds.FormOutsideProfile)
  class_at row.class field sections s
