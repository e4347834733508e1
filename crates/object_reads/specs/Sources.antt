-- The objects of a program with the bytes of their files, and what their analyses are.
use Rattle.std.specs.Prelude.{ℕ, ◌+◌, List, [], ◌∷◌, drop, map, take, Option, Some, None, Result, Ok, Err, slice_index_or}
use Rattle.std.specs.List.{zip}
use Rattle.std.specs.Option.{option_map}
use Rattle.ds_base.specs.declared.fault.Fault.{Fault}
use Rattle.ds_base.specs.Reading.{◌>>=◌}
use Rattle.dwarf_types.specs.declared.analysis.Analysis.{Analysis}
use Rattle.stab_map.specs.declared.object.MapObject.{MapObject}
use Rattle.ar_read.specs.Archive.{member_of}
use Rattle.object_view.specs.Analysis.{analysis_of}
use Rattle.link_status.specs.declared.refusal.Refusal.{Refusal}
use Rattle.link_status.specs.declared.refusal.Refusal.TheVariants as refusals
use Rattle.universal.specs.Choice.{slice_for}
use Rattle.object_reads.specs.declared.lent.Lent.{Lent}
use Rattle.object_reads.specs.declared.sources.Sources.{Sources}
use Rattle.object_reads.specs.declared.target.Target.{Target}

-- the bytes of an object: those of its file, or of the member that it is
abbrev pub content_of : Option (List ℕ) → List ℕ → Result (List ℕ) Fault
content_of None file = Ok file
content_of (Some member) file = member_of file member

-- an object for a program of this CPU type by the bytes of a file that isn't universal
unfoldable pub analysis_of_thin : ℕ → MapObject → List ℕ → Result Analysis Fault
analysis_of_thin cpu object file = do
  bytes ← content_of object.member file
  analysis_of bytes object cpu

-- an object for a program by the bytes of its file, or its first fault; of a universal file by the slice that is for the program
unfoldable pub analysis_in : Target → MapObject → List ℕ → Result Analysis Fault
analysis_in target object file = do
  slice ← slice_for target.arch file
  analysis_of_thin target.cpu object slice

-- an object without entries
abbrev pub no_entries : Analysis
no_entries = record { units = []; entries = []; code = []; frames = [] }

-- an object of the map, and the bytes of its file, where it is not left away
pub record Source : Type 0 where
  pub object : MapObject
  pub file : Option (List ℕ)

-- the object and the bytes of the file of its number, where it has one
abbrev pub source_of : List (List ℕ) → MapObject × Option ℕ → Source
source_of files x = record { object = x.0; file = option_map (λ k. slice_index_or files k []) x.1 }

-- objects with the files of their numbers
abbrev pub sources_of : List MapObject → List (List ℕ) → List (Option ℕ) → List Source
sources_of objects files numbers = map (source_of files) (zip objects numbers)

-- the objects of all programs up to those of this one, by the bytes of all files; and the program's own
abbrev pub listed : Sources → List (List ℕ) → List Source
listed it files = take it.end (sources_of it.objects.now files it.numbers.now)

abbrev pub own_sources : Sources → List (List ℕ) → List Source
own_sources it files = drop it.first (listed it files)

-- objects whose files are lent
abbrev pub lent_sources : Lent → List Source
lent_sources it = sources_of it.objects.now it.files.now it.numbers.now

-- an object whose file is left away has no entries
abbrev pub analysis_from : Target → MapObject → Option (List ℕ) → Result Analysis Fault
analysis_from target object (Some file) = analysis_in target object file
analysis_from target object None = Ok no_entries

-- the object of a number, and those behind it
abbrev pub and_then : ℕ → Result Analysis Fault → Result (List Analysis) Refusal → Result (List Analysis) Refusal
and_then number (Err fault) others = Err (refusals.Faulty number fault)
and_then number (Ok seen) (Err refusal) = Err refusal
and_then number (Ok seen) (Ok others) = Ok (seen ∷ others)

-- objects, which have numbers from this one on, or the first fault of the first that has one
abbrev pub analyses_from : Target → ℕ → List Source → Result (List Analysis) Refusal
analyses_from target number [] = Ok []
analyses_from target number (s ∷ sources) = and_then number (analysis_from target s.object s.file) (analyses_from target (number + 1) sources)
