-- The bytes of an object's debug sections, without where they lie in memory.
use Rattle.std.specs.Prelude.{ℕ, ◌==◌, List, if◌then◌else◌}
use Rattle.dwarf_types.specs.declared.sections.Sections.{Sections}

pub record SectionBytes : Type 0 where
  pub info : List ℕ
  pub abbrev_ : List ℕ
  pub strings : List ℕ
  pub str_offs : List ℕ
  pub addr : List ℕ
  pub line : List ℕ
  pub line_str : List ℕ
  pub ranges : List ℕ
  pub rnglists : List ℕ
  pub loc : List ℕ
  pub loclists : List ℕ
  pub aranges : List ℕ
  pub frame : List ℕ

abbrev pub bytes_in : Sections → SectionBytes
bytes_in s = record {
  info = s.info.now;
  abbrev_ = s.abbrev.now;
  strings = s.strings.now;
  str_offs = s.str_offs.now;
  addr = s.addr.now;
  line = s.line.now;
  line_str = s.line_str.now;
  ranges = s.ranges.now;
  rnglists = s.rnglists.now;
  loc = s.loc.now;
  loclists = s.loclists.now;
  aranges = s.aranges.now;
  frame = s.frame.now;
}

-- the section of the range lists of a unit, by its version (DWARF 4 and 5, section 2.17.3)
abbrev pub range_bytes : SectionBytes → ℕ → List ℕ
range_bytes sections version = if version == 5 then sections.rnglists else sections.ranges

-- the section of its location lists (DWARF 4 and 5, section 2.6.2)
abbrev pub location_bytes : SectionBytes → ℕ → List ℕ
location_bytes sections version = if version == 5 then sections.loclists else sections.loc
