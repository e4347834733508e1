-- The declarations of a written table as they are read again.
use Rattle.std.specs.Prelude.{◌≡◌, ◌≤◌, ◌+◌, ◌==◌, ℕ, pos, false, List, [], ◌∷◌, length, map}
use Rattle.ds_base.specs.DwarfNumbers.{DW_FORM_implicit_const}
use Rattle.dwarf_types.specs.declared.abbrev.Abbrev.{Abbrev}
use Rattle.dwarf_types.specs.declared.abbrev.Declaration.{Declaration}
use Rattle.dwarf_types.specs.declared.abbrev.Field.{Field}
use Rattle.abbrev_read.specs.Spelling.{IsShort}

abbrev pub fields_of : List (ℕ × ℕ) → List Field
fields_of pairs = map (λ p. record { name = p.0; form = p.1; fixed = pos 0 }) pairs

abbrev pub abbrev_of : ℕ → Declaration → Abbrev
abbrev_of code d = record { code = code; tag = d.tag; children = d.children; fields = fields_of d.attributes }

-- declarations with their codes, the first of which has a number
abbrev pub abbrevs_from : ℕ → List Declaration → List Abbrev
abbrevs_from code [] = []
abbrevs_from code (d ∷ ds) = abbrev_of code d ∷ abbrevs_from (code + 1) ds

-- numbers that an abbreviation may have, of which none stands for a constant in the table
abbrev pub AreShort : List (ℕ × ℕ) → Type 0
AreShort [] = Unit {0}
AreShort (p ∷ pairs) = (IsShort p.0 × IsShort p.1 × ((p.1 == DW_FORM_implicit_const) ≡ false)) × AreShort pairs

pub record IsSmall (d : Declaration) : Type 0 where
  pub tag : IsShort d.tag
  pub few : length d.attributes ≤ 256
  pub attributes : AreShort d.attributes

abbrev pub AreSmall : List Declaration → Type 0
AreSmall [] = Unit {0}
AreSmall (d ∷ ds) = IsSmall d × AreSmall ds
