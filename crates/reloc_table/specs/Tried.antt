-- Stations between the code and the definitions: the parts of the sections that were seen, and where those lie that were tried.
use Rattle.std.specs.Prelude.{◌≡◌, ◌+◌, ◌<◌, ◌≤◌, ◌^◌, ℕ, List, length, IfSome}
use Rattle.std.specs.List.{list_any}
use Rattle.ds_base.specs.declared.fault.Part.{Part}
use Rattle.dwarf_types.specs.SectionBytes.{SectionBytes}
use Rattle.macho_read.specs.declared.image.Section.{Section}
use Rattle.reloc_table.specs.Parts.{same_part, is_of, section_of}

-- they are the parts of these sections
abbrev pub AreParts : List Section → List Part → Type 0
AreParts sections seen = (part : Part) → list_any (λ own. same_part own part) seen ≡ list_any (is_of part) sections

-- a section lies in the file
abbrev pub IsInside : List ℕ → Section → Type 0
IsInside bytes section = section.offset + section.size ≤ length bytes

-- each section does that is a part of the file
abbrev pub LieInside : List ℕ → List Section → Type 0
LieInside bytes sections = (part : Part) → IfSome (section_of sections part) (IsInside bytes)

-- Every section that is read has fewer bytes than places of 32 bits count.
pub record AreSmall (sections : SectionBytes) : Type 0 where
  pub info : length sections.info < 2 ^ 32
  pub addr : length sections.addr < 2 ^ 32
  pub line : length sections.line < 2 ^ 32
  pub ranges : length sections.ranges < 2 ^ 32
  pub rnglists : length sections.rnglists < 2 ^ 32
  pub loc : length sections.loc < 2 ^ 32
  pub loclists : length sections.loclists < 2 ^ 32
  pub frame : length sections.frame < 2 ^ 32
