-- Entries that are put one behind the other, and the attributes of the next one.
use Rattle.std.specs.Prelude.{List}
use Rattle.dwarf_types.specs.declared.entry.RawAttr.{RawAttr}
use Rattle.dwarf_types.specs.declared.entry.RawEntry.{RawEntry}

pub record Built : Type 0 where
  pub entries : List RawEntry
  pub attrs : List RawAttr
