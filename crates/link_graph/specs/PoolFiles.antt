-- The source files of merged entries: the line table of the pool's unit names those that they name.
use Rattle.std.specs.Prelude.{ℕ, ◌+◌, ◌-◌, ◌==◌, ◌&&◌, Bool, List, [], ◌∷◌, ◌++◌, map, take, length, slice_get, Option, Some, None, if◌then◌else◌}
use Rattle.std.specs.List.{filter_map, position}
use Rattle.std.specs.Option.{option_and_then, option_map, option_map_or, unwrap_or}
use Rattle.std.specs.Str.{bytes_eq}
use Rattle.ds_base.specs.DwarfNumbers.{DW_AT_comp_dir, DW_AT_decl_file}
use Rattle.ds_base.specs.FirstUse.{once}
use Rattle.dwarf_types.specs.declared.analysis.Analysis.{Analysis}
use Rattle.dwarf_types.specs.declared.entry.Attr.{Attr}
use Rattle.dwarf_types.specs.declared.entry.Entry.{Entry}
use Rattle.dwarf_types.specs.declared.entry.InUnit.{InUnit}
use Rattle.dwarf_types.specs.declared.lines.FileName.{FileName}
use Rattle.dwarf_types.specs.declared.lines.OutLines.{OutLines}
use Rattle.dwarf_types.specs.declared.value.Value.{Value}
use Rattle.dwarf_types.specs.declared.value.Value.TheVariants as values
use Rattle.dwarf_types.specs.Moves.{value_of}

-- a file by the names of its directory and of itself
pub record SourceFile : Type 0 where
  pub dir : List ℕ
  pub name : List ℕ

abbrev pub same_file : SourceFile → SourceFile → Bool
same_file a b = bytes_eq a.dir b.dir && bytes_eq a.name b.name

-- ---- the files of a unit (DWARF 4, section 6.2.4; DWARF 5, section 6.2.4)

-- The place of a number in a list of a line table. In version 5 files and directories are counted from 0; in version 4 from 1, and 0 has no place.
abbrev pub place_of_number : ℕ → ℕ → Option ℕ
place_of_number version n = if version == 5 then Some n else if n == 0 then None else Some (n - 1)

abbrev pub text_or_empty : Value → List ℕ
text_or_empty (values.Text text) = text
text_or_empty _ = []

-- the directory of a unit's compilation, empty where it has none
abbrev pub directory_of_unit : Analysis → InUnit → List ℕ
directory_of_unit seen unit = option_map_or (λ root. option_map_or text_or_empty (value_of DW_AT_comp_dir root) []) (slice_get seen.entries unit.first) []

-- the directory at a place of a table, empty where none is listed
abbrev pub listed_directory : OutLines → ℕ → List ℕ
listed_directory lines i = unwrap_or (slice_get lines.dirs i) []

-- the directory of a number; one without a place is that of the compilation
abbrev pub directory_in : Analysis → InUnit → OutLines → ℕ → List ℕ
directory_in seen unit lines n = option_map_or (listed_directory lines) (place_of_number unit.version n) (directory_of_unit seen unit)

abbrev pub listed_file : Analysis → InUnit → OutLines → FileName → SourceFile
listed_file seen unit lines file = record { dir = directory_in seen unit lines file.dir; name = file.name }

-- the file at a place of a unit's table
abbrev pub file_at : Analysis → InUnit → ℕ → Option SourceFile
file_at seen unit i = option_and_then (λ lines. option_map (listed_file seen unit lines) (slice_get lines.files i)) unit.lines

-- the file of a number in the table of unit u
abbrev pub file_in : Analysis → ℕ → ℕ → Option SourceFile
file_in seen u n = option_and_then (λ unit. option_and_then (file_at seen unit) (place_of_number unit.version n)) (slice_get seen.units u)

-- ---- the files of entries

abbrev pub file_by : Analysis → ℕ → Value → Option SourceFile
file_by seen u (values.Number form bits) = file_in seen u bits
file_by seen u _ = None

-- the file that a decl_file of an entry of unit u names, if its table has it
abbrev pub file_named : Analysis → ℕ → Attr → Option SourceFile
file_named seen u a = if a.name == DW_AT_decl_file then file_by seen u a.value else None

abbrev pub files_named : Analysis → Entry → List SourceFile
files_named seen e = filter_map (file_named seen e.unit) e.attrs

-- ---- the table of the pool's unit

-- the number of a file among others, which are counted from 1
abbrev pub number_of : List SourceFile → SourceFile → Option ℕ
number_of files file = option_map (λ i. i + 1) (position (same_file file) files)

-- what the number of a file in the table of unit u becomes, among these files; 0 stays where it has no place, since it names none
abbrev pub number_among : List SourceFile → Analysis → ℕ → ℕ → Option ℕ
number_among files seen u n =
    option_and_then (λ unit. option_map_or (λ i. option_and_then (number_of files) (file_at seen unit i)) (place_of_number unit.version n) (Some 0)) (slice_get seen.units u)

-- the directories of files by first use, each once, but for the empty one
abbrev pub directories : List SourceFile → List (List ℕ)
directories files = once bytes_eq (filter_map (λ file. if length file.dir == 0 then None else Some file.dir) files)

-- the number of a directory; the empty one has 0
abbrev pub number_of_directory : List (List ℕ) → List ℕ → ℕ
number_of_directory dirs dir = option_map_or (λ i. i + 1) (position (bytes_eq dir) dirs) 0

abbrev pub file_written : List (List ℕ) → SourceFile → FileName
file_written dirs file = record { name = file.name; dir = number_of_directory dirs file.dir; time = 0; size = 0; digest = None }

-- What stands at number 0 of a table of version 5, so that its directories and files are counted from 1 too: the empty directory, and the first file once more.
abbrev pub first_directory : ℕ → List (List ℕ)
first_directory version = if version == 5 then [] ∷ [] else []

abbrev pub first_file : ℕ → List SourceFile → List SourceFile
first_file version files = if version == 5 then take 1 files else []

-- a table of a version, without rows
abbrev pub table_of : ℕ → List SourceFile → OutLines
table_of version files = record {
  dirs = first_directory version ++ directories files;
  files = map (file_written (directories files)) (first_file version files ++ files);
  sequences = [];
}
