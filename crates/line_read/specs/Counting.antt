-- A line table as a unit of another version has it.
use Rattle.std.specs.Prelude.{ℕ, ◌==◌, ◌&&◌, List, ◌∷◌, ◌++◌, take, nat_lt, if◌then◌else◌}
use Rattle.ds_base.specs.DwarfNumbers.{DWARF_5}
use Rattle.dwarf_types.specs.declared.lines.RawLines.{RawLines}

-- A table before version 5 counts directories and files from 1, and its directory 0 is the unit's; a table of version 5 counts both from 0, and has the unit's
-- directory and first file there (DWARF 5, section 6.2.4).
abbrev pub counted_from_0 : List ℕ → RawLines → RawLines
counted_from_0 dir lines = record lines { dirs = dir ∷ lines.dirs; files = take 1 lines.files ++ lines.files }

-- a table of a version, as a unit of a version has it that was compiled in a directory
abbrev pub lines_as : ℕ → ℕ → List ℕ → RawLines → RawLines
lines_as unit table dir lines = if unit == DWARF_5 && nat_lt table DWARF_5 then counted_from_0 dir lines else lines
