-- How an abbreviation table is spelled (DWARF 4, section 7.5.3; DWARF 5, section 7.5.3), whoever reads it.
use Rattle.std.specs.Prelude.{◌≡◌, ◌<◌, ◌≤◌, ◌==◌, ◌++◌, ℕ, pos, Bool, true, false, List, [], ◌∷◌, length, drop}
use Rattle.ds_base.specs.DwarfNumbers.{DW_FORM_implicit_const}
use Rattle.dwarf_types.specs.Spelled.{InTurn, IsUleb, IsSleb, IsNumber}
use Rattle.dwarf_types.specs.declared.abbrev.Field.{Field}
use Rattle.dwarf_types.specs.declared.abbrev.Abbrev.{Abbrev}
use Rattle.abbrev_read.specs.Codes.{is_declared}

-- the value of an implicit constant; any other attribute has none here
abbrev pub constant_in : Bool → Field → List ℕ → Type 0
constant_in true field bytes = IsSleb bytes field.fixed
constant_in false field bytes = (bytes ≡ []) × (field.fixed ≡ pos 0)

-- an attribute: its number, that of its form, and the value of an implicit constant
abbrev pub SpellsField : Field → List ℕ → Type 0
SpellsField field = InTurn (λ b. IsUleb b field.name) (InTurn (λ b. IsUleb b field.form) (constant_in (field.form == DW_FORM_implicit_const) field))

-- attributes one after the other, and two zeros
abbrev pub SpellsFields : List Field → List ℕ → Type 0
SpellsFields [] = InTurn (λ b. IsUleb b 0) (λ b. IsUleb b 0)
SpellsFields (field ∷ fields) = InTurn (SpellsField field) (SpellsFields fields)

abbrev pub children_byte : Bool → ℕ
children_byte true = 1
children_byte false = 0

-- a declaration: its code, its tag, whether there are children, and its attributes
abbrev pub SpellsDeclaration : Abbrev → List ℕ → Type 0
SpellsDeclaration d = InTurn (λ b. IsUleb b d.code) (InTurn (λ b. IsUleb b d.tag) (InTurn (λ b. IsNumber 1 b (children_byte d.children)) (SpellsFields d.fields)))

-- declarations one after the other, and the code 0
abbrev pub SpellsTable : List Abbrev → List ℕ → Type 0
SpellsTable [] = λ b. IsUleb b 0
SpellsTable (d ∷ ds) = InTurn (SpellsDeclaration d) (SpellsTable ds)

-- a number of 16 bits that is not 0
abbrev pub IsShort : ℕ → Type 0
IsShort n = (0 < n) × (n ≤ 65535)

abbrev pub AreFields : List Field → Type 0
AreFields [] = Unit {0}
AreFields (field ∷ fields) = (IsShort field.name × IsShort field.form) × AreFields fields

-- an entry of such a declaration has few attributes
abbrev pub HasFewFields : Abbrev → Type 0
HasFewFields d = length d.fields ≤ 256

pub record IsDeclaration (d : Abbrev) : Type 0 where
  pub code : 0 < d.code
  pub tag : IsShort d.tag
  pub few : HasFewFields d
  pub fields : AreFields d.fields

-- declarations behind others, no two of which have one code
abbrev pub AreDeclarations : List Abbrev → List Abbrev → Type 0
AreDeclarations before [] = Unit {0}
AreDeclarations before (d ∷ ds) = ((is_declared d.code before ≡ false) × IsDeclaration d) × AreDeclarations (before ++ d ∷ []) ds

-- at a place of the section stands the spelling of a table
pub record StandsAt (bytes : List ℕ) (offset : ℕ) (table : List Abbrev) : Type 0 where
  pub spelling : List ℕ
  pub more : List ℕ
  pub parts : drop offset bytes ≡ spelling ++ more
  pub spells : SpellsTable table spelling
  pub sound : AreDeclarations [] table
