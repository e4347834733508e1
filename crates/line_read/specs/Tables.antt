-- The directories and files of a line table, as its version has them: from version 5 on with entry formats.
use Rattle.std.specs.Prelude.{ℕ, List, nat_le, Result, if◌then◌else◌}
use Rattle.ds_base.specs.declared.fault.Fault.{Fault}
use Rattle.ds_base.specs.Spot.{Spot}
use Rattle.dwarf_types.specs.declared.lines.FileName.{FileName}
use Rattle.dwarf_types.specs.SectionBytes.{SectionBytes}
use Rattle.line_read.specs.declared.names.HeaderEnd.{HeaderEnd}
use Rattle.line_read.specs.Entries.{dir_entry_at, file_entry_at, entries_of}
use Rattle.line_read.specs.Names.{dir_at, file_at, table_of}

unfoldable pub dirs_at : HeaderEnd → SectionBytes → ℕ → Spot → Result (List (List ℕ) × Spot) Fault
dirs_at header sections version s = if nat_le 5 version then entries_of (dir_entry_at header sections) header s else table_of (dir_at header) s

unfoldable pub files_at : HeaderEnd → SectionBytes → ℕ → Spot → Result (List FileName × Spot) Fault
files_at header sections version s = if nat_le 5 version then entries_of (file_entry_at header sections) header s else table_of (file_at header) s
