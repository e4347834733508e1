-- The entries of merged nodes, and the source files that they name: where names stand, and how files are numbered.
use Rattle.std.specs.Prelude.{◌≡◌, ◌<◌, ℕ, List, [], ◌∷◌, ◌++◌, map, length, slice_get, Option, Some, None, if◌then◌else◌, ◌==◌}
use Rattle.std.specs.List.{All}
use Rattle.std.specs.Option.{option_and_then, option_map_or}
use denote.Ref.{Bor}
use Rattle.indexmap.specs.IndexSet.{IndexSet, insert_key}
use Rattle.clone_units.specs.declared.source_files.FileRef.{FileRef}
use Rattle.clone_units.specs.declared.noted_uses.FileUse.{FileUse}
use Rattle.clone_units.specs.declared.entry_sources.SourceRef.{SourceRef}
use Rattle.clone_values.specs.Images.{NamesAmong, image_at}
use Rattle.dwarf_types.specs.declared.address.Span.{Span}
use Rattle.dwarf_types.specs.declared.analysis.Analysis.{Analysis}
use Rattle.dwarf_types.specs.declared.entry.Attr.{Attr}
use Rattle.dwarf_types.specs.declared.entry.InUnit.{InUnit}
use Rattle.dwarf_types.specs.declared.graph.Target.{Target}
use Rattle.dwarf_types.specs.declared.lines.OutLines.{OutLines}
use Rattle.dwarf_types.specs.declared.shape.Origin.{Origin}
use Rattle.link_graph.specs.Graph.{Source, files_of, source_of}
use Rattle.link_graph.specs.PoolFiles.{SourceFile, file_in, file_named, files_named, listed_file, number_of, same_file, table_of}

-- ---- what is borrowed, as values

abbrev pub source_seen : SourceRef → Source
source_seen s = record { object = s.object; seen = s.seen.now; entry = s.entry }

abbrev pub file_seen : FileRef → SourceFile
file_seen f = record { dir = f.dir.now; name = f.name.now }

module _ {S : Type 0} where
  abbrev pub files_seen : IndexSet FileRef S → List SourceFile
  files_seen files = map file_seen files.keys

  abbrev pub dirs_seen : IndexSet (Bor (List ℕ)) S → List (List ℕ)
  dirs_seen dirs = map (λ dir. dir.now) dirs.keys

-- ---- files

-- the files that the entry of a node names
abbrev pub uses_of : List Analysis → Origin → List SourceFile
uses_of all origin = option_map_or (λ source. files_named source.seen source.entry) (source_of all origin) []

-- The attribute names a file by this number, in the table of each unit; without a number it names none.
abbrev pub Names : Attr → Option ℕ → Type 0
Names a number = (seen : Analysis) (u : ℕ) → option_and_then (file_in seen u) number ≡ file_named seen u a

-- the file of a use, if the table has it
abbrev pub file_of_use : List Analysis → FileUse → Option SourceFile
file_of_use all named = option_and_then (λ seen. file_in seen named.unit named.number) (slice_get all named.object)

-- a file is put last unless it is there, if there is one
abbrev pub with_named : List SourceFile → Option SourceFile → List SourceFile
with_named files None = files
with_named files (Some file) = insert_key same_file files file

-- the unit of a use is there
abbrev pub IsUseIn : List Analysis → FileUse → Type 0
IsUseIn all named = (seen : Analysis) × (slice_get all named.object ≡ Some seen) × (named.unit < length seen.units)

-- the directory of a file, unless it is empty
abbrev pub some_dir : SourceFile → Option (List ℕ)
some_dir file = if length file.dir == 0 then None else Some file.dir

-- ---- their numbers

abbrev pub numbers_listed : List SourceFile → Analysis → InUnit → OutLines → List (Option ℕ)
numbers_listed files seen unit lines = map (λ file. number_of files (listed_file seen unit lines file)) lines.files

-- Before the files of a unit of version 4, which are counted from 1, stands number 0, which names none; in version 5 files are counted from 0.
abbrev pub numbers_before : ℕ → List (Option ℕ)
numbers_before version = if version == 5 then [] else Some 0 ∷ []

-- at each number that a unit has, the number of that file among others
abbrev pub numbers_of_unit : List SourceFile → Analysis → InUnit → List (Option ℕ)
numbers_of_unit files seen unit = numbers_before unit.version ++ option_map_or (numbers_listed files seen unit) unit.lines []

abbrev pub numbers_in : List SourceFile → Analysis → List (List (Option ℕ))
numbers_in files seen = map (numbers_of_unit files seen) seen.units

abbrev pub numbers_of_all : List SourceFile → List Analysis → List (List (List (Option ℕ)))
numbers_of_all files all = map (numbers_in files) all

-- ---- nodes

-- where a reference leads, by the rows of all objects
abbrev pub image_in : List (List (Option Target)) → ℕ → ℕ → Option Target
image_in images object k = option_and_then (λ row. image_at row k) (slice_get images object)

-- the entry of a node is there, and its unit
pub record IsSourced (all : List Analysis) (origin : Origin) : Type 0 where
  pub source : Source
  pub stands : source_of all origin ≡ Some source
  pub unit : source.entry.unit < length source.seen.units

-- the entry of a node is there, with what its references and its source file need
pub record IsPooled (all : List Analysis) (images : List (List (Option Target))) (origin : Origin) : Type 0 where
  pub source : Source
  pub stands : source_of all origin ≡ Some source
  pub row : source.object < length images
  pub among : (row : List (Option Target)) → slice_get images source.object ≡ Some row → NamesAmong (length row) source.entry
  pub unit : source.entry.unit < length source.seen.units

-- all nodes but the root, which comes first, stand for entries
pub record ArePooled (all : List Analysis) (images : List (List (Option Target))) (origins : List Origin) : Type 0 where
  pub root : Origin
  pub below : List Origin
  pub nodes : origins ≡ root ∷ below
  pub no_entry : source_of all root ≡ None
  pub each : All (IsPooled all images) below

-- what is made for the unit of merged entries: the numbers of the source files that its entries name, its line table, and no ranges
pub record IsMadeFor (all : List Analysis) (version : ℕ) (origins : List Origin) (rows : List (List (List (Option ℕ)))) (table : OutLines) (spans : List Span) : Type 0 where
  pub numbers : rows ≡ numbers_of_all (files_of all origins) all
  pub lines : table ≡ table_of version (files_of all origins)
  pub ranges : spans ≡ []
