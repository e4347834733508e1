-- What a link answers, by what its passes do.
use Rattle.std.proofs.Common.{◌≡◌, ◌++◌, ◌+◌, ◌<◌, ◌-◌, ◌^◌, ℕ, Bool, List, drop, length, Option, Some, None, Result, Ok, Err, refl, sym, ap, subst, ◌∙◌, arith, length-append}
use Rattle.std.specs.List.{filter, flat_map, sum_by}
use Rattle.std.specs.Option.{option_or}
use Rattle.dwarf_types.specs.declared.analysis.Analysis.{Analysis}
use Rattle.dwarf_types.specs.declared.graph.Graph.{Graph}
use Rattle.macho_read.specs.declared.image.Image.{Image}
use Rattle.dsym_write.specs.Bundle.{image_file}
use Rattle.layout.proofs.OfDrafts.{none_long}
use Rattle.link_graph.specs.Graph.{graph_in}
use Rattle.link_graph.specs.Merged.{linked_names}
use Rattle.unit_draft.specs.Drafted.{AreDrafts}
use Rattle.link_status.specs.declared.refusal.Refusal.{Refusal}
use Rattle.link_status.specs.declared.refusal.Refusal.TheVariants as refusals
use Rattle.object_reads.specs.declared.target.Target.{Target}
use Rattle.object_reads.specs.Marks.{MarkLive}
use Rattle.object_reads.specs.Reading.{Reads}
use Rattle.object_reads.specs.Sources.{Source, analyses_from}
use Rattle.unit_drafts.specs.declared.graph.Shaped.{Shaped}
use Rattle.unit_drafts.specs.Drafting.{DraftsUnits}
use Rattle.unit_drafts.specs.Graphs.{IsClosed, graph_of}
use Rattle.unit_drafts.specs.Limits.{drafts_limit, units_limit}
use Rattle.unit_drafts.specs.Shaped.{IsShaped, Shapes}
use Rattle.unit_drafts.proofs.Graphs.{frames_are, limit_is, shape_few, units_fit}
use Rattle.link_core.specs.declared.bundle.Counted.{Counted}
use Rattle.link_core.specs.declared.bundle.Drafted.{Drafted}
use Rattle.link_core.specs.declared.bundle.Linked.{Linked}
use Rattle.link_core.specs.Linked.{ChecksPart, IsLinked, Leaves, LinksPart, Part, analyses_of, counts_of, fault, faulty, image_limit, limit, limit_of, linked, no_memory, target_of, unchecked}
use Rattle.link_core.specs.Passes.{AreCounted, Images, IsDrafted, Links}

module _ (odr : Bool) (program : Image) (seen : List Analysis) (live : List (List Bool)) where
  -- a limit of what is drafted is the first of all
  pub drafts_limited : (r : Refusal) → drafts_limit odr seen live ≡ Some r → limit_of odr program seen live ≡ Some r
  drafts_limited r reached = ap (λ (first : Option Refusal). option_or first (image_limit program (graph_of odr seen live))) reached

  -- and where there is none, it is the image's
  pub drafts_unlimited : drafts_limit odr seen live ≡ None → limit_of odr program seen live ≡ image_limit program (graph_of odr seen live)
  drafts_unlimited none = ap (λ (first : Option Refusal). option_or first (image_limit program (graph_of odr seen live))) none

  drafted_fits : (it : Drafted) → IsDrafted odr seen live it → limit_of odr program seen live ≡ image_limit program (graph_of odr seen live)
  drafted_fits it are = drafts_unlimited (limit_is odr seen live are.few_names ∙ units_fit (graph_of odr seen live) are.few (none_long (graph_of odr seen live) it.drafts are.drafts_are))

module _ (odr : Bool) (program : Image) (front : List ℕ) (seen : List Analysis) (live : List (List Bool)) where
  pub shape_refused : (r : Refusal) → Shapes odr seen live (Err r) → Links odr program front seen live (Err r)
  shape_refused (refusals.Faulty file why) h = absurd h
  shape_refused (refusals.Limit which n) h = drafts_limited odr program seen live (refusals.Limit which n) h
  shape_refused refusals.NoMemory h = tt

  module _ (shaped : Shaped) (h : IsShaped odr seen live shaped) where
    pub drafts_refused : (r : Refusal) → DraftsUnits (graph_in seen shaped.shape) (Err r) → Links odr program front seen live (Err r)
    drafts_refused (refusals.Faulty file why) d = absurd d
    drafts_refused (refusals.Limit which n) d = drafts_limited odr program seen live (refusals.Limit which n) (limit_is odr seen live h.few_names ∙ ap units_limit (sym h.graph) ∙ d)
    drafts_refused refusals.NoMemory d = tt

  module _ (it : Drafted) (drafted : IsDrafted odr seen live it) where
    pub image_refused : (r : Refusal) → Images front program (graph_of odr seen live) (Err r) → Links odr program front seen live (Err r)
    image_refused (refusals.Faulty file why) d = absurd d
    image_refused (refusals.Limit which n) d = drafted_fits odr program seen live it drafted ∙ d
    image_refused refusals.NoMemory d = tt

    counts_are : (graph : Graph) (image : List ℕ) (counted : Counted) (nodes bytes : ℕ) → AreCounted odr seen live counted → nodes ≡ sum_by (λ unit. length unit.nodes) graph.units → bytes ≡ length image
        → record { objects = counted.objects; entries = counted.entries; live = counted.live; pooled = counted.pooled; names = counted.names; nodes = nodes; bytes = bytes } ≡ counts_of seen live (linked_names odr seen live) graph image
    counts_are graph image counted nodes bytes are n b = rw (are.objects, are.entries, are.live, are.pooled, are.names, n, b) refl

    pub links_made : (file : List ℕ) (nodes bytes : ℕ) → Images front program (graph_of odr seen live) (Ok file)
        → nodes ≡ sum_by (λ unit. length unit.nodes) (graph_of odr seen live).units → bytes ≡ length file - length front
        → Links odr program front seen live (Ok (record {
          file = file;
          counts = record { objects = it.counted.objects; entries = it.counted.entries; live = it.counted.live; pooled = it.counted.pooled; names = it.counted.names; nodes = nodes; bytes = bytes };
          closed = it.closed;
        }))
    links_made file nodes bytes d n b =
        let image = image_file program (graph_of odr seen live) in
        let long : bytes ≡ length image = omega (arith, b, ap length d.1, length-append front image) in
        record {
          fits = drafted_fits odr program seen live it drafted ∙ d.0;
          file = d.1;
          counts = counts_are (graph_of odr seen live) image it.counted nodes bytes drafted.counted_are n long;
          closed = drafted.closed_is;
        }

-- the units of a shape are drafted
pub drafted : (odr : Bool) (seen lent : List Analysis) (live : List (List Bool)) (shaped : Shaped) (h : IsShaped odr seen live shaped) (it : Drafted)
    → DraftsUnits (graph_in seen shaped.shape) (Ok it.drafts) → lent ≡ seen → it.frames ≡ flat_map (λ object. object.frames) lent → it.counted.objects ≡ length seen → it.counted.entries ≡ sum_by (λ object. length object.entries) seen
    → it.counted.live ≡ sum_by (λ row. length (filter (λ b. b) row)) live → it.counted.pooled ≡ shaped.pooled → it.counted.names ≡ shaped.names → it.closed ≡ shaped.closed → IsDrafted odr seen live it
drafted odr seen lent live shaped h it are same framed o e l p n c = record {
  few_names = h.few_names;
  few = subst (λ (g : Graph). length g.units < 2 ^ 32 - 1) h.graph (shape_few seen shaped.shape h.is_shape h.few);
  drafts_are = subst (λ (g : Graph). AreDrafts g it.drafts) h.graph are;
  frames_are = frames_are odr seen lent live it.frames shaped h same framed;
  counted_are = record { objects = o; entries = e; live = l; pooled = p ∙ h.pooled; names = n ∙ h.names };
  closed_is = subst (IsClosed (linked_names odr seen live)) (sym c) h.closed;
}

-- ---- a program with its objects

-- the analyses of its own objects
pub own_read : (part : Part) (target : Target) (first : ℕ) (sources : List Source) → target ≡ target_of part.arch part.image → part.number ≡ first + 1 → part.sources ≡ drop first sources → analyses_of part ≡ analyses_from target (first + 1) (drop first sources)
own_read part target first sources same number own = rw (number, own) (ap (λ (t : Target). analyses_from t (first + 1) (drop first sources)) (sym same))

pub check_refused : (part : Part) (target : Target) (first : ℕ) (sources : List Source) → analyses_of part ≡ analyses_from target (first + 1) (drop first sources) → (r : Refusal) → Reads target first sources (Err r) → ChecksPart part (Err r)
check_refused part target first sources own (refusals.Faulty file why) h = faulty file why (own ∙ h)
check_refused part target first sources own (refusals.Limit which n) h = absurd h
check_refused part target first sources own refusals.NoMemory h = unchecked

module _ (odr : Bool) (part : Part) (front : List ℕ) where
  pub part_refused : (target : Target) (first : ℕ) (sources : List Source) → analyses_of part ≡ analyses_from target (first + 1) (drop first sources) → (r : Refusal) → Reads target first sources (Err r) → LinksPart odr part front (Err r)
  part_refused target first sources own (refusals.Faulty file why) h = fault file why (own ∙ h)
  part_refused target first sources own (refusals.Limit which n) h = absurd h
  part_refused target first sources own refusals.NoMemory h = no_memory

  pub part_made : (seen : List Analysis) (marks : List (List Bool)) (r : Result Linked Refusal) → analyses_of part ≡ Ok seen → MarkLive seen marks → Links odr part.image front seen marks r → LinksPart odr part front r
  part_made seen marks (Ok it) e live h = linked seen marks it e live h
  part_made seen marks (Err (refusals.Faulty file why)) e live h = absurd h
  part_made seen marks (Err (refusals.Limit which n)) e live h = limit seen marks (refusals.Limit which n) e live h
  part_made seen marks (Err refusals.NoMemory) e live h = no_memory

-- ---- files that are left

abbrev the_refusal : (X : Type 0) → Refusal → Result X Refusal
the_refusal X r = Err r

pub left_read : (X : Type 0) (target : Target) (first : ℕ) (sources : List Source) (left : Type 0) (r : Refusal) → Reads target first sources (Err r) → Leaves left (the_refusal X r)
left_read X target first sources left (refusals.Faulty file why) h = tt
left_read X target first sources left (refusals.Limit which n) h = absurd h
left_read X target first sources left refusals.NoMemory h = tt

pub left_all : {X : Type 0} (left : Type 0) (r : Result X Refusal) → left → Leaves left r
left_all left (Ok it) h = h
left_all left (Err (refusals.Faulty file why)) h = tt
left_all left (Err (refusals.Limit which n)) h = h
left_all left (Err refusals.NoMemory) h = tt
