-- The graph that is linked: its names, its shape, its frames, and the drafts of its units.
use Rattle.std.proofs.Common.{◌≡◌, ◌<◌, ◌≤◌, ◌+◌, ◌-◌, ◌^◌, ℕ, suc, Bool, true, false, List, [], ◌∷◌, ◌++◌, length, get_or, slice_get, Option, Some, None, is_some, map, if◌then◌else◌, Result, Ok, Err, refl, sym, ap, subst, ◌∙◌, arith}
use Rattle.std.specs.List.{flat_map, zip}
use Rattle.std.proofs.lemmas.Bool.{le-leb, lt-leb}
use Rattle.std.proofs.lemmas.List.{length-map}
use Rattle.std.proofs.lemmas.Option.{get_or_from_slice_get, slice_get_within}
use Rattle.std.proofs.lemmas.Slice.Zip.{get_or-zip, length-zip}
use Rattle.work_share.specs.Results.{GivesAll}
use Rattle.clone_units.specs.Units.{AreThere}
use Rattle.clone_units.proofs.Placed.{units_many}
use Rattle.dwarf_types.specs.declared.analysis.Analysis.{Analysis}
use Rattle.dwarf_types.specs.declared.frames.OutFrame.{OutFrame}
use Rattle.dwarf_types.specs.declared.graph.Graph.{Graph}
use Rattle.dwarf_types.specs.declared.shape.Shape.{Shape}
use Rattle.dwarf_types.specs.declared.shape.ShapeUnit.{ShapeUnit}
use Rattle.dwarf_types.specs.LinkedShape.{marks_in, objects_of}
use Rattle.link_graph.specs.Graph.{IsShape, graph_in, pool_version}
use Rattle.link_graph.specs.Merged.{linked_names, object_units, pool_origin, pool_root, pool_units, shape_of}
use Rattle.link_graph.specs.Pool.{pool_names, preorder}
use Rattle.odr_names.specs.Making.{AreLiveRows}
use Rattle.type_names.specs.Names.{Named}
use Rattle.type_pool.specs.declared.closed.ClosedPool.{ClosedPool}
use Rattle.layout.specs.Lengths.{long_unit}
use Rattle.layout.proofs.DraftRuns.{Drafted, long_here, one_drafted}
use Rattle.unit_draft.specs.declared.unit.Draft.{Draft}
use Rattle.unit_drafts.specs.declared.graph.Shaped.{Shaped}
use Rattle.link_status.specs.declared.refusal.LimitKind.TheVariants as limits
use Rattle.link_status.specs.declared.refusal.Refusal.{Refusal}
use Rattle.link_status.specs.declared.refusal.Refusal.TheVariants as refusals
use Rattle.unit_drafts.specs.Limits.{drafts_limit, units_limit}
use Rattle.object_reads.specs.Marks.{AreLive, MarkLive}
use Rattle.unit_drafts.specs.Graphs.{IsClosed, graph_of}
use Rattle.unit_drafts.specs.Drafting.{DraftsBy, DraftsUnit, DraftsUnits}
use Rattle.unit_drafts.specs.Shaped.{HasPool, IsShaped, Shapes}
use Rattle.work_share.proofs.Turns.{given_as, given_more}

pub limited : (b : Bool) (found rest : Option Refusal) → b ≡ true → (if b then found else rest) ≡ found
limited b found rest e = ap (λ (it : Bool). if it then found else rest) e

pub unlimited : (b : Bool) (found rest : Option Refusal) → b ≡ false → (if b then found else rest) ≡ rest
unlimited b found rest e = ap (λ (it : Bool). if it then found else rest) e

-- ---- names

abbrev is_whole : Analysis × List Bool → Type 0
is_whole object = length object.1 ≡ length object.0.entries

pub live_rows : (seen : List Analysis) (live : List (List Bool)) → MarkLive seen live → AreLiveRows seen live
live_rows seen live h = record {
  len = h.marked.each;
  each = λ i a row at there.
      let within = slice_get_within seen i a at in
      let within_rows = slice_get_within live i row there in
      let lt : i < length (zip seen live) = omega (arith, within, within_rows, length-zip seen live) in
      let both : get_or (zip seen live) i (a, row) ≡ (a, row) = get_or-zip seen live i (a, row) within within_rows ∙ cc (get_or_from_slice_get seen i a a at, get_or_from_slice_get live i row row there) in
      record { len = subst is_whole both (h.marked.whole i (a, row) lt); exact = subst AreLive both (h.live i (a, row) lt) };
}

pub names_limit : (odr : Bool) (seen : List Analysis) (live : List (List Bool)) → 2 ^ 25 ≤ length (linked_names odr seen live) → drafts_limit odr seen live ≡ Some (refusals.Limit limits.Pooled (2 ^ 25))
names_limit odr seen live le = limited _ _ _ (le-leb (2 ^ 25) (length (linked_names odr seen live)) le)

-- where the names are few, the limit is that of the graph's units
pub limit_is : (odr : Bool) (seen : List Analysis) (live : List (List Bool)) → length (linked_names odr seen live) < 2 ^ 25 → drafts_limit odr seen live ≡ units_limit (graph_of odr seen live)
limit_is odr seen live few = unlimited _ _ _ (lt-leb (2 ^ 25) (length (linked_names odr seen live)) few)

-- ---- the unit of merged entries

-- its nodes but the root, in a shape
pub pool_none : (names : List Named) → length names ≡ 0 → length (pool_names names) ≡ 0
unfolding preorder
pool_none [] e = refl
pool_none (n ∷ names) e = absurd (omega (arith, e))

pub pool_first : (shape : Shape) (names : List Named) → HasPool shape names → 0 < length names → (unit : ShapeUnit) × (slice_get shape.units 0 ≡ Some unit) × (length unit.nodes ≡ suc (length (pool_names names)))
pool_first shape [] h some = absurd (omega (arith, some))
pool_first shape (n ∷ names) h some = (
  record { version = h.version; nodes = pool_root ∷ map (pool_origin (n ∷ names)) (pool_names (n ∷ names)) },
  ap (λ (us : List ShapeUnit). slice_get us 0) h.units,
  ap suc (length-map (pool_names (n ∷ names)) (pool_origin (n ∷ names))),
)

-- ---- frames

pub frames_same : (seen : List Analysis) (marks : List (List Bool)) → length marks ≡ length seen → flat_map (λ object. object.frames) seen ≡ flat_map (λ o. o.seen.frames) (objects_of seen marks)
frames_same [] marks e = refl
frames_same (a ∷ seen) [] e = absurd (omega (arith, e))
frames_same (a ∷ seen) (row ∷ marks) e = ap (λ (l : List OutFrame). a.frames ++ l) (frames_same seen marks (omega (arith, e)))

-- ---- the shape

module _ (odr : Bool) (seen : List Analysis) (live : List (List Bool)) (names : List Named) (shape : Shape) (named : names ≡ linked_names odr seen live) (is : shape ≡ shape_of odr seen live) (it : IsShape seen shape) where
  same_graph : graph_in seen shape ≡ graph_of odr seen live
  same_graph = ap (graph_in seen) is

  many : length (graph_of odr seen live).units ≡ length shape.units
  many = sym (ap (λ (g : Graph). length g.units) same_graph) ∙ units_many seen shape it

  pub shape_long : length names < 2 ^ 25 → 2 ^ 32 - 1 ≤ length shape.units → drafts_limit odr seen live ≡ Some (refusals.Limit limits.Section (2 ^ 32 - 1))
  shape_long few le =
      limit_is odr seen live (omega (arith, few, ap length named))
      ∙ limited _ _ _ (le-leb (2 ^ 32 - 1) (length (graph_of odr seen live).units) (omega (arith, le, many)))

  pub has_pool : HasPool shape names
  has_pool = record {
    version = pool_version (object_units odr seen live);
    others = object_units odr seen live;
    units = ap (λ (s : Shape). s.units) is ∙ ap (λ (ns : List Named). pool_units (pool_version (object_units odr seen live)) ns ++ object_units odr seen live) (sym named);
  }

  pub shape_whole : (pooled paths : ℕ) (closed : ClosedPool) → length names < 2 ^ 25 → length shape.units < 2 ^ 32 - 1 → pooled ≡ length names → paths ≡ length (pool_names names) → IsClosed names closed
      → Shapes odr seen live (Ok (record { shape = shape; pooled = pooled; names = paths; closed = closed }))
  shape_whole pooled paths closed few_names few a b it_closed = record {
    is_shape = it;
    graph = same_graph;
    few = few;
    few_names = omega (arith, few_names, ap length named);
    pooled = a ∙ ap length named;
    names = b ∙ ap (λ (ns : List Named). length (pool_names ns)) named;
    closed = subst (λ (ns : List Named). IsClosed ns closed) named it_closed;
  }

-- as they are lent
pub shape_lent : (odr : Bool) (seen lent : List Analysis) (live : List (List Bool)) (r : Result Shaped Refusal) → lent ≡ seen → Shapes odr lent live r → Shapes odr seen live r
shape_lent odr seen lent live r same h = subst (λ (s : List Analysis). Shapes odr s live r) same h

pub shape_few : (seen : List Analysis) (shape : Shape) → IsShape seen shape → length shape.units < 2 ^ 32 - 1 → length (graph_in seen shape).units < 2 ^ 32 - 1
shape_few seen shape is few = omega (arith, few, units_many seen shape is)

pub frames_are : (odr : Bool) (seen lent : List Analysis) (live : List (List Bool)) (frames : List OutFrame) (shaped : Shaped) → IsShaped odr seen live shaped → lent ≡ seen → frames ≡ flat_map (λ object. object.frames) lent → (graph_of odr seen live).frames ≡ frames
frames_are odr seen lent live frames shaped h same are =
    sym (ap (λ (g : Graph). g.frames) h.graph) ∙ sym (are ∙ ap (flat_map (λ (object : Analysis). object.frames)) same ∙ frames_same seen (marks_in shaped.shape) h.is_shape.marked.each)

-- ---- drafts

-- a unit is too long
pub long_limit : (graph : Graph) (u : ℕ) → length graph.units < 2 ^ 32 - 1 → long_unit graph ≡ Some u → units_limit graph ≡ Some (refusals.Limit limits.Unit (2 ^ 28))
long_limit graph u few is = unlimited _ _ _ (lt-leb (2 ^ 32 - 1) (length graph.units) few) ∙ limited _ _ _ (ap is_some is)

module _ (graph : Graph) (u : ℕ) (drafts : List Draft) (before : Drafted graph u drafts) where
  -- one more draft, or that the unit is too long
  pub draft_more : (more : List Draft) (draft : Draft) → DraftsUnit graph u (Ok draft) → more ≡ drafts ++ draft ∷ [] → Drafted graph (u + 1) more
  draft_more more draft one pushed = one_drafted graph u one.0 drafts more draft (slice_get_within graph.units u one.0 one.1) (sym (get_or_from_slice_get graph.units u one.0 one.0 one.1)) before one.2 pushed

  pub draft_long : (r : Refusal) → length graph.units < 2 ^ 32 - 1 → DraftsUnit graph u (Err r) → DraftsUnits graph (Err r)
  draft_long (refusals.Faulty file why) few long = absurd long
  draft_long (refusals.Limit which n) few long =
      let unit = long.2.0 in
      let first = long_here graph u unit drafts (slice_get_within graph.units u unit long.2.1) (sym (get_or_from_slice_get graph.units u unit unit long.2.1)) before long.2.2 in
      long_limit graph u few first ∙ rw (long.0, long.1) refl
  draft_long refusals.NoMemory few long = tt

-- what is given of the units of a shape is given of those of its graph
pub given_whole : (seen : List Analysis) (shape : Shape) (u : ℕ) (outs : List (Result Draft Refusal)) → IsShape seen shape → u ≡ length shape.units → GivesAll (DraftsUnit (graph_in seen shape)) u outs
    → GivesAll (DraftsUnit (graph_in seen shape)) (length (graph_in seen shape).units) outs
given_whole seen shape u outs is many given = subst (λ (n : ℕ). GivesAll (DraftsUnit (graph_in seen shape)) n outs) (many ∙ sym (units_many seen shape is)) given

-- and what one batch gives comes behind what those before it gave
pub given_batch : (seen left : List Analysis) (shape : Shape) (first end : ℕ) (outs more all : List (Result Draft Refusal)) → IsShape seen shape → first ≤ end
    → ((u : ℕ) → first ≤ u → u < end → AreThere shape u seen left) → GivesAll (DraftsUnit (graph_in seen shape)) first outs → GivesAll (λ k out. DraftsBy left shape (first + k) out) (end - first) more → all ≡ outs ++ more
    → GivesAll (DraftsUnit (graph_in seen shape)) end all
given_batch seen left shape first end outs more all is le there before here whole =
    let graph = graph_in seen shape in
    let now : GivesAll (λ k out. DraftsUnit graph (first + k) out) (end - first) more =
    given_as (λ k out. DraftsBy left shape (first + k) out) (λ k out. DraftsUnit graph (first + k) out) (end - first) more (λ k out lt drafts. drafts seen is (there (first + k) (omega arith) (omega (arith, lt, le)))) here in
    subst (GivesAll (DraftsUnit graph) end) (sym whole) (given_more (DraftsUnit graph) first end outs more le before now)

-- few units, none of them too long, reach no limit
pub units_fit : (graph : Graph) → length graph.units < 2 ^ 32 - 1 → long_unit graph ≡ None → units_limit graph ≡ None
units_fit graph few none = unlimited _ _ _ (lt-leb (2 ^ 32 - 1) (length graph.units) few) ∙ unlimited _ _ _ (ap is_some none)
