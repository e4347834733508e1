-- What is read of objects, each and all. Want of memory says nothing.
use Rattle.std.specs.Prelude.{◌≡◌, ◌<◌, ◌≤◌, ◌+◌, ◌-◌, ℕ, ◌^◌, Bool, List, [], ◌++◌, drop, length, slice_get, slice_index_or, Option, Some, Result, Ok, Err}
use Rattle.std.specs.List.{All}
use Rattle.work_share.specs.Results.{GivesAll}
use Rattle.ds_base.specs.declared.fault.Fault.{Fault}
use Rattle.ds_base.specs.declared.fault.ReadError.{ReadError}
use Rattle.ds_base.specs.declared.fault.ReadError.TheVariants as errors
use Rattle.dwarf_types.specs.declared.analysis.Analysis.{Analysis}
use Rattle.dwarf_types.specs.Sound.{IsSound}
use Rattle.link_status.specs.declared.refusal.Refusal.{Refusal}
use Rattle.link_status.specs.declared.refusal.Refusal.TheVariants as refusals
use Rattle.object_reads.specs.declared.files.FilesLeft.{FilesLeft}
use Rattle.object_reads.specs.declared.objects.ReadObject.{ReadObject}
use Rattle.object_reads.specs.declared.reading.ReadBatch.{ReadBatch}
use Rattle.object_reads.specs.declared.reading.ReadObjects.{ReadObjects}
use Rattle.object_reads.specs.declared.target.Target.{Target}
use Rattle.object_reads.specs.Marks.{AreLive, MarkLive}
use Rattle.object_reads.specs.Sources.{Source, analyses_from, analysis_from}

-- an object with the marks of its live entries, where it has no fault
pub record IsRead (read : Result Analysis Fault) (it : ReadObject) : Type 0 where
  pub exact : read ≡ Ok it.analysis
  pub sound : IsSound it.analysis
  pub size : length it.live ≡ length it.analysis.entries
  pub live : AreLive (it.analysis, it.live)

-- such an object, or its first fault
abbrev pub ReadsObject : Result Analysis Fault → Result ReadObject ReadError → Type 0
ReadsObject read (Ok it) = IsRead read it
ReadsObject read (Err (errors.Faulty fault)) = read ≡ Err fault
ReadsObject read (Err errors.NoMemory) = Unit {0}

-- the same of the object of a number, which its fault tells
abbrev pub ReadsNumbered : ℕ → Result Analysis Fault → Result ReadObject Refusal → Type 0
ReadsNumbered number read (Ok it) = IsRead read it
ReadsNumbered number read (Err (refusals.Faulty file fault)) = (file ≡ number) × (read ≡ Err fault)
ReadsNumbered number read (Err (refusals.Limit which n)) = ⊥
ReadsNumbered number read (Err refusals.NoMemory) = Unit {0}

-- what is read of the object at a place, for a program
abbrev pub ReadsAt : Target → List Source → ℕ → Result ReadObject Refusal → Type 0
ReadsAt target sources item out = (s : Source) → slice_get sources item ≡ Some s → ReadsNumbered (item + 1) (analysis_from target s.object s.file) out

-- of each file no object stands behind its last
abbrev pub AreLast : List (Option ℕ) → List ℕ → Type 0
AreLast source last = (k n : ℕ) → slice_get source k ≡ Some (Some n) → k ≤ slice_index_or last n k

-- the files of the objects from a number on are held as they were
abbrev pub AreHeld : ℕ → List (Option ℕ) → List (List ℕ) → List (List ℕ) → Type 0
AreHeld from source files held = (k n : ℕ) → from ≤ k → slice_get source k ≡ Some (Some n) → slice_index_or held n [] ≡ slice_index_or files n []

-- the analyses so far before those that are left
abbrev pub behind : List Analysis → Result (List Analysis) Refusal → Result (List Analysis) Refusal
behind seen (Ok others) = Ok (seen ++ others)
behind seen (Err refusal) = Err refusal

-- the files of the objects from a number on are held, and it is told which file has its last object where
pub record HoldsFrom (from : ℕ) (source : List (Option ℕ)) (files : List (List ℕ)) (it : FilesLeft) : Type 0 where
  pub held : AreHeld from source files it.left
  pub long : length it.left ≡ length files
  pub small : All (λ file. length file < 2 ^ 32) it.left
  pub last : AreLast source it.last.items

-- what is read of the objects from one up to another
pub record ReadsBatch (target : Target) (sources : List Source) (from : ℕ) (batch : ReadBatch) : Type 0 where
  pub some : from < batch.end
  pub within : batch.end ≤ length sources
  pub given : GivesAll (λ k out. ReadsAt target sources (from + k) out) (batch.end - from) batch.outs.items

-- the objects from the first of a program up to another are read, of which none has a fault
pub record Going (target : Target) (first : ℕ) (sources : List Source) (end : ℕ) (seen : List Analysis) (marks : List (List Bool)) : Type 0 where
  pub exact : analyses_from target (first + 1) (drop first sources) ≡ behind seen (analyses_from target (end + 1) (drop end sources))
  pub sound : All IsSound seen
  pub size : first + length seen ≡ end
  pub live : MarkLive seen marks

-- all objects from the first of a program on with the marks of their live entries, where none has a fault
pub record AreRead (target : Target) (first : ℕ) (sources : List Source) (seen : List Analysis) (marks : List (List Bool)) : Type 0 where
  pub exact : analyses_from target (first + 1) (drop first sources) ≡ Ok seen
  pub sound : All IsSound seen
  pub size : first + length seen ≡ length sources
  pub live : MarkLive seen marks

-- such objects, or the first fault of the first that has one
abbrev pub Reads : Target → ℕ → List Source → Result ReadObjects Refusal → Type 0
Reads target first sources (Ok it) = AreRead target first sources it.seen it.marks
Reads target first sources (Err (refusals.Faulty file fault)) = analyses_from target (first + 1) (drop first sources) ≡ Err (refusals.Faulty file fault)
Reads target first sources (Err (refusals.Limit which n)) = ⊥
Reads target first sources (Err refusals.NoMemory) = Unit {0}
