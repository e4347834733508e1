-- Which source files the nodes of a linked graph name: those that their entries name.
use Rattle.std.specs.Prelude.{◌≡◌, ℕ, zero, suc, Bool, true, false, List, [], slice_get, Option, Some, None, is_none}
use Rattle.std.specs.List.{Contains}
use Rattle.std.specs.Option.{option_and_then, option_map, option_map_or}
use Rattle.ds_base.specs.DwarfNumbers.{DW_AT_decl_file}
use Rattle.dwarf_types.specs.declared.analysis.Analysis.{Analysis}
use Rattle.dwarf_types.specs.declared.entry.Attr.{Attr}
use Rattle.dwarf_types.specs.declared.entry.Entry.{Entry}
use Rattle.dwarf_types.specs.declared.entry.InUnit.{InUnit}
use Rattle.dwarf_types.specs.declared.graph.OutUnit.{OutUnit}
use Rattle.dwarf_types.specs.declared.lines.FileName.{FileName}
use Rattle.dwarf_types.specs.declared.lines.OutLines.{OutLines}
use Rattle.dwarf_types.specs.declared.value.Value.TheVariants as values
use Rattle.dwarf_types.specs.LinkedValues.{FileNumbers}
use Rattle.link_graph.specs.PoolFiles.{SourceFile, file_in, listed_directory, place_of_number}

-- ---- the table of an output unit without a directory of its compilation (DWARF 4, section 6.2.4; DWARF 5, section 6.2.4)

-- the directory of a number
abbrev pub directory_told : ℕ → OutLines → ℕ → List ℕ
directory_told version lines n = option_map_or (listed_directory lines) (place_of_number version n) []

abbrev pub file_as_told : ℕ → OutLines → FileName → SourceFile
file_as_told version lines file = record { dir = directory_told version lines file.dir; name = file.name }

-- the file of a number, by the names of its directory and of itself
abbrev pub file_told : OutUnit → ℕ → Option SourceFile
file_told unit n = option_and_then (λ lines. option_and_then (λ i. option_map (file_as_told unit.version lines) (slice_get lines.files i)) (place_of_number unit.version n)) unit.lines

-- ---- numbers of source files

-- number n names no file in the table of unit u of an object: in version 4 this is 0
abbrev pub names_none : Analysis → ℕ → ℕ → Bool
names_none seen u n = option_map_or (λ unit. is_none (place_of_number unit.version n)) (slice_get seen.units u) false

-- What number n of the table of unit u is in an output unit: a number that names the same file, or 0 for one that names none. One that the table doesn't have is left out.
abbrev pub Becomes : OutUnit → Analysis → ℕ → ℕ → Option ℕ → Type 0
Becomes unit seen u n None = (names_none seen u n ≡ false) × (file_in seen u n ≡ None)
Becomes unit seen u n (Some zero) = names_none seen u n ≡ true
Becomes unit seen u n (Some (suc m)) = (file : SourceFile) × (file_in seen u n ≡ Some file) × (file_told unit (suc m) ≡ Some file)

-- The numbers that an entry gives stay in a unit that has the line table of the entry's own. In another one each becomes what names its file there.
abbrev pub KeepsFiles : OutUnit → Analysis → Entry → FileNumbers → Type 0
KeepsFiles unit seen e None = (own : InUnit) × (slice_get seen.units e.unit ≡ Some own) × (unit.version ≡ own.version) × (unit.lines ≡ own.lines)
KeepsFiles unit seen e (Some number) = (a : Attr) (form n : ℕ) → Contains e.attrs a → a.name ≡ DW_AT_decl_file → a.value ≡ values.Number form n → Becomes unit seen e.unit n (number n)
