-- Links in which nothing is merged, object by object.
use Rattle.std.specs.Prelude.{◌≡◌, ◌<◌, ◌≤◌, ◌+◌, ◌-◌, ◌^◌, ℕ, Bool, true, false, List, length, Result, Ok, Err}
use Rattle.std.specs.List.{All, filter, flat_map, sum_by}
use Rattle.dwarf_types.specs.declared.analysis.Analysis.{Analysis}
use Rattle.dwarf_types.specs.declared.shape.Shape.{Shape}
use Rattle.dwarf_types.specs.LinkedShape.{AreMarked}
use Rattle.dwarf_types.specs.Sound.{IsSound}
use Rattle.link_graph.specs.Merged.{shape_of}
use Rattle.link_graph.specs.OwnShapes.{StandsBehind}
use Rattle.work_share.specs.Results.{GivesAll}
use Rattle.object_reads.specs.declared.objects.ReadObject.{ReadObject}
use Rattle.link_status.specs.declared.refusal.Refusal.{Refusal}
use Rattle.link_core.specs.declared.unmerged.Unmerged.{Unmerged}
use Rattle.object_reads.specs.declared.target.Target.{Target}
use Rattle.object_reads.specs.Sources.{Source}
use Rattle.object_reads.specs.Reading.{Going, Reads, ReadsAt}
use Rattle.unit_drafts.specs.Drafting.{AreDrafting}

-- the shape of objects with the marks of their live entries, whose units can be numbered; or that there are too many of them
abbrev pub HasUnits : List Analysis → List (List Bool) → Shape → Bool → Type 0
HasUnits seen marks shape false = (shape ≡ shape_of false seen marks) × (length shape.units < 2 ^ 32 - 1)
HasUnits seen marks shape true = 2 ^ 32 - 1 ≤ length (shape_of false seen marks).units

-- What is linked of such objects: what is counted of them, their frames, and their shape with drafts of its units, unless there are too many.
pub record IsUnmerged (seen : List Analysis) (marks : List (List Bool)) (it : Unmerged) : Type 0 where
  pub objects : length it.drafts.left ≡ length seen
  pub entries : it.entries ≡ sum_by (λ object. length object.entries) seen
  pub live : it.live ≡ sum_by (λ row. length (filter (λ b. b) row)) marks
  pub frames : it.frames ≡ flat_map (λ object. object.frames) seen
  pub units : HasUnits seen marks it.shape it.many
  pub drafting : it.many ≡ false → AreDrafting seen it.shape it.drafts

-- one more object may be put behind them
pub record MayAdd (seen : List Analysis) (marks : List (List Bool)) (it : Unmerged) (object : ReadObject) : Type 0 where
  pub so_far : IsUnmerged seen marks it
  pub few : length seen + 1 < 2 ^ 16
  pub behind : StandsBehind seen marks object.analysis object.live

-- the objects of a program, whose first stands at a place, have no fault below another place, and that much is linked
pub record SoFar (target : Target) (start : ℕ) (sources : List Source) (i : ℕ) (it : Unmerged) : Type 0 where
  pub seen : List Analysis
  pub marks : List (List Bool)
  pub going : Going target start sources i seen marks
  pub linked : IsUnmerged seen marks it

-- what was read of the objects of a batch may be put behind those below
pub record MayAddBatch (target : Target) (start : ℕ) (sources : List Source) (first count : ℕ) (it : Unmerged) (outs : List (Result ReadObject Refusal)) : Type 0 where
  pub so_far : SoFar target start sources first it
  pub given : GivesAll (λ k out. ReadsAt target sources (first + k) out) count outs
  pub within : first + count ≤ length sources
  pub few : length sources < start + 2 ^ 16

-- those below a place, or the first fault of the first that has one
abbrev pub AddsUpTo : Target → ℕ → List Source → ℕ → Unmerged → Result (Unit {0}) Refusal → Type 0
AddsUpTo target start sources end it (Ok done) = SoFar target start sources end it
AddsUpTo target start sources end it (Err refusal) = Reads target start sources (Err refusal)

-- what is linked of sound objects with their marks
pub record AreLinked (seen : List Analysis) (marks : List (List Bool)) (it : Unmerged) : Type 0 where
  pub linked : IsUnmerged seen marks it
  pub sound : All IsSound seen
  pub marked : AreMarked seen marks

-- and all units are drafted, if there are not too many
pub record IsWhole (seen : List Analysis) (marks : List (List Bool)) (it : Unmerged) : Type 0 where
  pub are : AreLinked seen marks it
  pub all : it.many ≡ false → length it.drafts.outs.items ≡ length it.shape.units
