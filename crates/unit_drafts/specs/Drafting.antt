-- Units drafted batch by batch, while the analyses go that no later unit needs. Want of memory says nothing.
use Rattle.std.specs.Prelude.{◌≡◌, ◌<◌, ◌≤◌, ◌+◌, ◌-◌, ℕ, ◌^◌, List, length, slice_get, Option, Some, Result, Ok, Err}
use Rattle.std.specs.List.{All}
use Rattle.std.specs.Option.{option_map_or}
use Rattle.clone_units.specs.Units.{AreThere, Holds, object_of}
use Rattle.work_share.specs.Results.{GivesAll}
use Rattle.dwarf_types.specs.declared.analysis.Analysis.{Analysis}
use Rattle.dwarf_types.specs.declared.graph.Graph.{Graph}
use Rattle.dwarf_types.specs.declared.graph.OutUnit.{OutUnit}
use Rattle.dwarf_types.specs.declared.shape.Shape.{Shape}
use Rattle.dwarf_types.specs.Entries.{unit_len}
use Rattle.dwarf_types.specs.Sound.{IsSound}
use Rattle.link_graph.specs.Graph.{IsShape, graph_in}
use Rattle.unit_draft.specs.declared.unit.Draft.{Draft}
use Rattle.unit_draft.specs.Drafted.{AreDrafts, IsDraft}
use Rattle.link_status.specs.declared.refusal.LimitKind.TheVariants as limits
use Rattle.link_status.specs.declared.refusal.Refusal.{Refusal}
use Rattle.link_status.specs.declared.refusal.Refusal.TheVariants as refusals
use Rattle.unit_drafts.specs.declared.batch.Batch.{Batch}
use Rattle.unit_drafts.specs.declared.drafting.Drafts.{Drafts}
use Rattle.unit_drafts.specs.Limits.{units_limit}

-- of all analyses those from a number on are left
abbrev pub AreLeft : ℕ → List Analysis → List Analysis → Type 0
AreLeft from all left = (i : ℕ) → from ≤ i → slice_get left i ≡ slice_get all i

-- the first object whose analysis a unit needs: its own, or the first of all for a unit of none
abbrev pub first_needed : Option ℕ → ℕ
first_needed object = option_map_or (λ o. o) object 0

-- the unit of a number may be drafted by the analyses that are left
pub record MayDraft (left : List Analysis) (shape : Shape) (unit : ℕ) : Type 0 where
  pub there : unit < length shape.units
  pub few : length shape.units < 2 ^ 32 - 1
  pub holds : Holds left shape unit

-- the draft of unit u of a graph, or that it is too long
abbrev pub DraftsUnit : Graph → ℕ → Result Draft Refusal → Type 0
DraftsUnit graph u (Ok draft) = (unit : OutUnit) × (slice_get graph.units u ≡ Some unit) × IsDraft u unit draft
DraftsUnit graph u (Err (refusals.Faulty file fault)) = ⊥
DraftsUnit graph u (Err (refusals.Limit which n)) = (which ≡ limits.Unit) × (n ≡ 2 ^ 28) × ((unit : OutUnit) × (slice_get graph.units u ≡ Some unit) × (2 ^ 28 ≤ unit_len u unit))
DraftsUnit graph u (Err refusals.NoMemory) = Unit {0}

-- the same by the analyses that are left, whichever the others are
abbrev pub DraftsBy : List Analysis → Shape → ℕ → Result Draft Refusal → Type 0
DraftsBy left shape u out = (all : List Analysis) → IsShape all shape → AreThere shape u all left → DraftsUnit (graph_in all shape) u out

-- the units from one up to another may be drafted by the analyses that are left
abbrev pub MayDraftFrom : List Analysis → Shape → ℕ → ℕ → Type 0
MayDraftFrom left shape first end = (u : ℕ) → first ≤ u → u < end → MayDraft left shape u

-- the drafts of these units, each or that it is too long
abbrev pub DraftsFrom : List Analysis → Shape → ℕ → ℕ → List (Result Draft Refusal) → Type 0
DraftsFrom left shape first end outs = GivesAll (λ k out. DraftsBy left shape (first + k) out) (end - first) outs

-- the same of the units of a batch
abbrev pub MayDraftBatch : Batch → Type 0
MayDraftBatch it = MayDraftFrom it.left.now it.shape.now it.first it.end

abbrev pub DraftsBatch : Batch → List (Result Draft Refusal) → Type 0
DraftsBatch it outs = DraftsFrom it.left.now it.shape.now it.first it.end outs

-- So many units of a shape are drafted, and the analyses that the others need are left.
pub record AreDrafting (seen : List Analysis) (shape : Shape) (it : Drafts) : Type 0 where
  pub within : length it.outs.items ≤ length shape.units
  pub given : GivesAll (DraftsUnit (graph_in seen shape)) (length it.outs.items) it.outs.items
  pub left : AreLeft it.dropped seen it.left
  pub long : length it.left ≡ length seen
  pub gone : it.dropped ≤ length seen
  pub waits : (v : ℕ) → length it.outs.items ≤ v → v < length shape.units → it.dropped ≤ first_needed (object_of shape v)

-- a shape of sound analyses whose units can be numbered
pub record MayDraftAll (seen : List Analysis) (shape : Shape) : Type 0 where
  pub is_shape : IsShape seen shape
  pub sound : All IsSound seen
  pub few : length shape.units < 2 ^ 32 - 1

-- the drafts of all units, or that one is too long
abbrev pub DraftsUnits : Graph → Result (List Draft) Refusal → Type 0
DraftsUnits graph (Ok drafts) = AreDrafts graph drafts
DraftsUnits graph (Err (refusals.Faulty file fault)) = ⊥
DraftsUnits graph (Err (refusals.Limit which n)) = units_limit graph ≡ Some (refusals.Limit which n)
DraftsUnits graph (Err refusals.NoMemory) = Unit {0}
