-- What a link makes of a program and its objects: the image of the graph of their live entries.
use Rattle.std.specs.Prelude.{◌≡◌, ◌+◌, ◌++◌, ℕ, ◌-◌, ◌^◌, Bool, List, length, Option, Some, None, Result, Ok, Err, is_some, nat_le, if◌then◌else◌}
use Rattle.std.specs.List.{filter, sum_by}
use Rattle.std.specs.Option.{option_or}
use Rattle.ds_base.specs.declared.fault.Fault.{Fault}
use Rattle.dwarf_types.specs.declared.analysis.Analysis.{Analysis}
use Rattle.dwarf_types.specs.declared.graph.Graph.{Graph}
use Rattle.macho_read.specs.declared.image.Image.{Image}
use Rattle.type_names.specs.Names.{Named}
use Rattle.link_graph.specs.Merged.{linked_names}
use Rattle.link_graph.specs.Pool.{pool_names}
use Rattle.layout.specs.Lengths.{long_section}
use Rattle.dsym_write.specs.Bundle.{image_file}
use Rattle.link_status.specs.declared.refusal.LimitKind.TheVariants as limits
use Rattle.link_status.specs.declared.refusal.Refusal.{Refusal}
use Rattle.link_status.specs.declared.refusal.Refusal.TheVariants as refusals
use Rattle.object_reads.specs.Marks.{MarkLive}
use Rattle.object_reads.specs.declared.sources.Sources.{Sources}
use Rattle.object_reads.specs.declared.target.Target.{Target}
use Rattle.object_reads.specs.Sources.{Source, analyses_from, own_sources}
use Rattle.universal.specs.declared.choosing.Arch.{Arch}
use Rattle.unit_drafts.specs.Graphs.{IsClosed, graph_of}
use Rattle.unit_drafts.specs.Limits.{drafts_limit}
use Rattle.link_core.specs.declared.bundle.Counts.{Counts}
use Rattle.link_core.specs.declared.bundle.Linked.{Linked}
use Rattle.link_core.specs.declared.program.Program.{Program}

-- ---- limits

-- the first limit that the image of a graph reaches: of a section's bytes, of the image's
abbrev pub image_limit : Image → Graph → Option Refusal
image_limit program graph =
    if is_some (long_section graph) then Some (refusals.Limit limits.Section (2 ^ 32 - 1))
    else if nat_le (2 ^ 32) (length (image_file program graph)) then Some (refusals.Limit limits.File (2 ^ 32))
    else None

-- the first limit of what is linked of analyses with their live entries: of what is drafted, or else of the image
abbrev pub limit_of : Bool → Image → List Analysis → List (List Bool) → Option Refusal
limit_of odr program seen live = option_or (drafts_limit odr seen live) (image_limit program (graph_of odr seen live))

-- ---- a program with its objects

-- a program, for which slices of universal files are chosen by this CPU type and subtype, with its objects, of which the first has this number
pub record Part : Type 0 where
  pub arch : Arch
  pub image : Image
  pub number : ℕ
  pub sources : List Source

-- for what its objects are read
abbrev pub target_of : Arch → Image → Target
target_of arch image = record { arch = arch; cpu = image.cpu }

-- the analyses of its objects, or the first fault of the first that has one
abbrev pub analyses_of : Part → Result (List Analysis) Refusal
analyses_of part = analyses_from (target_of part.arch part.image) part.number part.sources

-- a program with its own among the objects that are read together, by the bytes of all files
abbrev pub part_of : Program → Sources → List (List ℕ) → Part
part_of program sources files = record { arch = program.arch; image = program.image.now; number = sources.first + 1; sources = own_sources sources files }

-- ---- what is linked

-- what is counted of a link: of the names that are merged each entry, and each path once
abbrev pub counts_of : List Analysis → List (List Bool) → List Named → Graph → List ℕ → Counts
counts_of seen marks names graph image =
    record {
      objects = length seen;
      entries = sum_by (λ object. length object.entries) seen;
      live = sum_by (λ row. length (filter (λ b. b) row)) marks;
      pooled = length names;
      names = length (pool_names names);
      nodes = sum_by (λ unit. length unit.nodes) graph.units;
      bytes = length image;
    }

-- What is made of analyses whose live entries are marked, where no limit is reached: a file with the image behind what stood in it before, the counts, and the closed table of names.
pub record IsLinked (odr : Bool) (image : Image) (front : List ℕ) (seen : List Analysis) (marks : List (List Bool)) (linked : Linked) : Type 0 where
  pub fits : limit_of odr image seen marks ≡ None
  pub file : linked.file ≡ front ++ image_file image (graph_of odr seen marks)
  pub counts : linked.counts ≡ counts_of seen marks (linked_names odr seen marks) (graph_of odr seen marks) (image_file image (graph_of odr seen marks))
  pub closed : IsClosed (linked_names odr seen marks) linked.closed

-- What linking a program with its objects answers, where entries of one name are merged or not, and where its image goes behind what stands in a file: what is made, by the marks of the live entries; or the first fault of the first object that has one; or else the first limit that is reached. Want of memory says nothing.
pub data LinksPart (odr : Bool) (part : Part) (front : List ℕ) : Result Linked Refusal → Type 0 where
  linked : (seen : List Analysis) (marks : List (List Bool)) (it : Linked) → analyses_of part ≡ Ok seen → MarkLive seen marks → IsLinked odr part.image front seen marks it → LinksPart odr part front (Ok it)
  fault : (file : ℕ) (why : Fault) → analyses_of part ≡ Err (refusals.Faulty file why) → LinksPart odr part front (Err (refusals.Faulty file why))
  limit : (seen : List Analysis) (marks : List (List Bool)) (refusal : Refusal) → analyses_of part ≡ Ok seen → MarkLive seen marks → limit_of odr part.image seen marks ≡ Some refusal → LinksPart odr part front (Err refusal)
  no_memory : LinksPart odr part front (Err refusals.NoMemory)

-- What is answered where a program's objects are only read: that none has a fault, or the first one's.
pub data ChecksPart (part : Part) : Result (Unit {0}) Refusal → Type 0 where
  clean : (seen : List Analysis) (marks : List (List Bool)) → analyses_of part ≡ Ok seen → MarkLive seen marks → ChecksPart part (Ok tt)
  faulty : (file : ℕ) (why : Fault) → analyses_of part ≡ Err (refusals.Faulty file why) → ChecksPart part (Err (refusals.Faulty file why))
  unchecked : ChecksPart part (Err refusals.NoMemory)

-- the files of later objects are left, unless a fault or want of memory ended it
abbrev pub Leaves : {X : Type 0} → Type 0 → Result X Refusal → Type 0
Leaves left (Ok it) = left
Leaves left (Err (refusals.Limit which n)) = left
Leaves left (Err (refusals.Faulty file why)) = Unit {0}
Leaves left (Err refusals.NoMemory) = Unit {0}
