-- How an attribute value is spelled (DWARF 5, section 7.5.5), whoever reads it.
use Rattle.std.specs.Prelude.{◌≡◌, ◌≤◌, ◌++◌, ℕ, List, [], length, Some, Ok}
use Rattle.ds_base.specs.DwarfNumbers.{DW_FORM_sdata}
use Rattle.ds_base.specs.Spot.{Spot, rest}
use Rattle.ds_base.specs.Reading.{text_of}
use Rattle.dwarf_types.specs.Spelled.{InTurn, Made, IsUleb, IsSleb, IsNumber, IsCopy, IsText}
use Rattle.dwarf_types.specs.declared.abbrev.Field.{Field}
use Rattle.dwarf_types.specs.SectionBytes.{SectionBytes}
use Rattle.dwarf_types.specs.declared.value.Value.{Value}
use Rattle.dwarf_types.specs.declared.value.Value.TheVariants as values
use Rattle.form_value.specs.declared.form.Coding.{Coding}
use Rattle.form_value.specs.declared.form.Coding.TheVariants.{One, Two, Three, Four, Eight, Leb}
use Rattle.form_value.specs.declared.form.FormClass.{FormClass}
use Rattle.form_value.specs.declared.form.FormClass.TheVariants.{Address, Text, StrText, LineStrText, Number, Signed, Present, Implicit, Wide, Block, Offset, Outside}
use Rattle.form_value.specs.declared.form.FormRow.{FormRow}
use Rattle.form_value.specs.Forms.{form_row}
use Rattle.form_value.specs.Reading.{fixed_address, in_64_bits, value_at}

abbrev pub SpellsNumber : Coding → List ℕ → ℕ → Type 0
SpellsNumber One bytes n = IsNumber 1 bytes n
SpellsNumber Two bytes n = IsNumber 2 bytes n
SpellsNumber Three bytes n = IsNumber 3 bytes n
SpellsNumber Four bytes n = IsNumber 4 bytes n
SpellsNumber Eight bytes n = IsNumber 8 bytes n
SpellsNumber Leb bytes n = IsUleb bytes n

-- a length and so many bytes
abbrev pub SpellsBlock : Coding → List ℕ → List ℕ → Type 0
SpellsBlock coding bytes block = InTurn (λ b. SpellsNumber coding b (length block)) (λ b. IsCopy (length block) b block) bytes

-- the place of a text of a section
pub record SpellsPlace (section bytes text : List ℕ) : Type 0 where
  pub place : ℕ
  pub number : IsNumber 4 bytes place
  pub stands : text_of section place ≡ Some text

abbrev pub SpellsClass : FormClass → Field → SectionBytes → List ℕ → Value → Type 0
SpellsClass Address field sections bytes value = Made fixed_address (IsNumber 8) bytes value
SpellsClass Text field sections bytes value = Made (λ text. values.Text text) IsText bytes value
SpellsClass StrText field sections bytes value = Made (λ text. values.Text text) (SpellsPlace sections.strings) bytes value
SpellsClass LineStrText field sections bytes value = Made (λ text. values.Text text) (SpellsPlace sections.line_str) bytes value
SpellsClass (Number coding) field sections bytes value = Made (λ n. values.Number field.form n) (SpellsNumber coding) bytes value
SpellsClass Signed field sections bytes value = Made (λ n. values.Number field.form (in_64_bits n)) IsSleb bytes value
SpellsClass Present field sections bytes value = (bytes ≡ []) × (value ≡ values.Number field.form 1)
SpellsClass Implicit field sections bytes value = (bytes ≡ []) × (value ≡ values.Number DW_FORM_sdata (in_64_bits field.fixed))
SpellsClass Wide field sections bytes value = Made (λ wide. values.Wide wide) (IsCopy 16) bytes value
SpellsClass (Block coding) field sections bytes value = Made (λ block. values.Block field.form block) (SpellsBlock coding) bytes value
SpellsClass (Offset coding) field sections bytes value = Made (λ n. values.Offset n) (SpellsNumber coding) bytes value
SpellsClass Outside field sections bytes value = ⊥

-- bytes spell the value of an attribute in a unit of a version, which has the form
pub record SpellsValue (field : Field) (version : ℕ) (sections : SectionBytes) (bytes : List ℕ) (value : Value) : Type 0 where
  pub row : FormRow
  pub known : form_row field.form ≡ Some row
  pub old : row.since ≤ version
  pub spells : SpellsClass row.class field sections bytes value

-- a spelling of the value stands between two spots
pub record IsSpelled (field : Field) (version : ℕ) (sections : SectionBytes) (s : Spot) (value : Value) (t : Spot) : Type 0 where
  pub bytes : List ℕ
  pub spells : SpellsValue field version sections bytes value
  pub parts : rest s ≡ bytes ++ rest t

-- the value is read, and some bytes are left
pub record IsRead (field : Field) (version : ℕ) (sections : SectionBytes) (s : Spot) (value : Value) (more : List ℕ) : Type 0 where
  pub next : Spot
  pub reads : value_at field version sections s ≡ Ok (value, next)
  pub left : rest next ≡ more
