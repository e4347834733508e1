-- What the passes behind the drafts answer, each to the next. Want of memory says nothing.
use Rattle.std.specs.Prelude.{◌≡◌, ◌++◌, ◌<◌, ◌-◌, ℕ, ◌^◌, Bool, List, length, Some, None, Result, Ok, Err}
use Rattle.std.specs.List.{filter, sum_by}
use Rattle.dwarf_types.specs.declared.analysis.Analysis.{Analysis}
use Rattle.dwarf_types.specs.declared.frames.OutFrame.{OutFrame}
use Rattle.dwarf_types.specs.declared.graph.Graph.{Graph}
use Rattle.macho_read.specs.declared.image.Image.{Image}
use Rattle.link_graph.specs.Merged.{linked_names}
use Rattle.link_graph.specs.Pool.{pool_names}
use Rattle.layout.specs.Laid.{Laid, Measures}
use Rattle.unit_draft.specs.declared.unit.Draft.{Draft}
use Rattle.unit_draft.specs.Drafted.{AreDrafts}
use Rattle.dsym_write.specs.Bundle.{image_file}
use Rattle.link_status.specs.declared.refusal.Refusal.{Refusal}
use Rattle.link_status.specs.declared.refusal.Refusal.TheVariants as refusals
use Rattle.unit_drafts.specs.Graphs.{IsClosed, graph_of}
use Rattle.link_core.specs.declared.bundle.Counted.{Counted}
use Rattle.link_core.specs.declared.bundle.Drafted.{Drafted}
use Rattle.link_core.specs.declared.bundle.Linked.{Linked}
use Rattle.link_core.specs.Linked.{IsLinked, image_limit, limit_of}

-- they are of some graph, which has these frames
pub record AreOfGraph (drafts : List Draft) (frames : List OutFrame) : Type 0 where
  pub graph : Graph
  pub are : AreDrafts graph drafts
  pub its_frames : graph.frames ≡ frames

-- ---- the image

-- the layout of a graph, or the first limit that it reaches
abbrev pub Lays : Graph → Result Laid Refusal → Type 0
Lays graph (Ok layout) = Measures graph (Ok layout)
Lays graph (Err (refusals.Faulty file fault)) = ⊥
Lays graph (Err (refusals.Limit which n)) = (program : Image) → image_limit program graph ≡ Some (refusals.Limit which n)
Lays graph (Err refusals.NoMemory) = Unit {0}

-- the image of a program's graph behind what stood before it, or the first limit that is reached
abbrev pub Images : List ℕ → Image → Graph → Result (List ℕ) Refusal → Type 0
Images front program graph (Ok bytes) = (image_limit program graph ≡ None) × (bytes ≡ front ++ image_file program graph)
Images front program graph (Err (refusals.Faulty file fault)) = ⊥
Images front program graph (Err (refusals.Limit which n)) = image_limit program graph ≡ Some (refusals.Limit which n)
Images front program graph (Err refusals.NoMemory) = Unit {0}

-- what is counted of analyses with their live entries, but for what is written
pub record AreCounted (odr : Bool) (seen : List Analysis) (marks : List (List Bool)) (counted : Counted) : Type 0 where
  pub objects : counted.objects ≡ length seen
  pub entries : counted.entries ≡ sum_by (λ object. length object.entries) seen
  pub live : counted.live ≡ sum_by (λ row. length (filter (λ b. b) row)) marks
  pub pooled : counted.pooled ≡ length (linked_names odr seen marks)
  pub names : counted.names ≡ length (pool_names (linked_names odr seen marks))

-- the graph that is linked of them is drafted, which has not too many units and merges not too many entries
pub record IsDrafted (odr : Bool) (seen : List Analysis) (marks : List (List Bool)) (it : Drafted) : Type 0 where
  pub few_names : length (linked_names odr seen marks) < 2 ^ 25
  pub few : length (graph_of odr seen marks).units < 2 ^ 32 - 1
  pub drafts_are : AreDrafts (graph_of odr seen marks) it.drafts
  pub frames_are : (graph_of odr seen marks).frames ≡ it.frames
  pub counted_are : AreCounted odr seen marks it.counted
  pub closed_is : IsClosed (linked_names odr seen marks) it.closed

-- what is made of analyses whose live entries are marked, or the first limit that is reached
abbrev pub Links : Bool → Image → List ℕ → List Analysis → List (List Bool) → Result Linked Refusal → Type 0
Links odr program front seen marks (Ok linked) = IsLinked odr program front seen marks linked
Links odr program front seen marks (Err (refusals.Faulty file fault)) = ⊥
Links odr program front seen marks (Err (refusals.Limit which n)) = limit_of odr program seen marks ≡ Some (refusals.Limit which n)
Links odr program front seen marks (Err refusals.NoMemory) = Unit {0}
