-- What is linked of a program whose objects' files are held.
use Rattle.std.specs.Prelude.{◌≡◌, ℕ, Bool, List, map, None, Some, Result, Ok, Err}
use Rattle.ds_base.specs.declared.fault.Fault.{Fault}
use Rattle.dwarf_types.specs.declared.analysis.Analysis.{Analysis}
use Rattle.dsym_write.specs.Bundle.{image_file}
use Rattle.dsym_write.specs.Plist.{plist_bytes}
use Rattle.link_graph.specs.Merged.{linked_names}
use Rattle.link_status.specs.declared.refusal.Refusal.{Refusal}
use Rattle.link_status.specs.declared.refusal.Refusal.TheVariants as refusals
use Rattle.macho_read.specs.declared.image.Image.{Image}
use Rattle.stab_map.specs.declared.object.MapObject.{MapObject}
use Rattle.object_reads.specs.Marks.{MarkLive}
use Rattle.object_reads.specs.Sources.{Source}
use Rattle.unit_drafts.specs.Graphs.{graph_of}
use Rattle.link_core.specs.Linked.{Part, analyses_of, counts_of, limit_of}
use Rattle.link_program.specs.declared.bundle.Bundle.{Bundle}
use Rattle.link_program.specs.Files.{HeldFile, content_in}

-- the objects of a debug map with the bytes of their files, as far as those are held
abbrev pub sources_in : List HeldFile → List MapObject → List Source
sources_in held objects = map (λ object. record { object = object; file = content_in held object.file }) objects

-- a program with its objects, which have numbers from one on; of universal files the slice for the CPU type and subtype in its header is read
abbrev pub thin_part : Image → List Source → Part
thin_part program sources = record { arch = record { cpu = program.cpu; sub = program.sub }; image = program; number = 1; sources = sources }

-- What linking a program of a name with its objects answers, where entries of one name are merged or not: the bundle, by the marks of the live entries; or the first fault of the first object that has one; or else the first limit that is reached. Want of memory says nothing.
pub data Bundles (odr : Bool) (program : Image) (name : List ℕ) (sources : List Source) : Result Bundle Refusal → Type 0 where
  bundle : (seen : List Analysis) (marks : List (List Bool)) (made : Bundle) → analyses_of (thin_part program sources) ≡ Ok seen → MarkLive seen marks
      → limit_of odr program seen marks ≡ None → made.image ≡ image_file program (graph_of odr seen marks) → made.plist ≡ plist_bytes name
      → made.counts ≡ counts_of seen marks (linked_names odr seen marks) (graph_of odr seen marks) (image_file program (graph_of odr seen marks)) → Bundles odr program name sources (Ok made)
  fault : (file : ℕ) (fault : Fault) → analyses_of (thin_part program sources) ≡ Err (refusals.Faulty file fault) → Bundles odr program name sources (Err (refusals.Faulty file fault))
  limit : (seen : List Analysis) (marks : List (List Bool)) (refusal : Refusal) → analyses_of (thin_part program sources) ≡ Ok seen → MarkLive seen marks
      → limit_of odr program seen marks ≡ Some refusal → Bundles odr program name sources (Err refusal)
  no_memory : Bundles odr program name sources (Err refusals.NoMemory)

-- Nothing refuses the link of a program with its objects: none has a fault, and no limit is reached.
pub record HasNoRefusal (odr : Bool) (program : Image) (sources : List Source) : Type 0 where
  pub seen : List Analysis
  pub sound : analyses_of (thin_part program sources) ≡ Ok seen
  pub fits : (marks : List (List Bool)) → MarkLive seen marks → limit_of odr program seen marks ≡ None
