-- What is linked of objects grows with each, where nothing is merged.
use Rattle.std.proofs.Common.{◌≡◌, ◌<◌, ◌≤◌, ◌+◌, ◌-◌, ◌^◌, ℕ, Bool, true, false, List, [], ◌∷◌, ◌++◌, length, slice_get, Option, Some, Result, Ok, Err, refl, sym, ap, subst, ◌∙◌, arith, inl, inr, append-nil, length-append, zero, suc, None, map, cond, ◌==◌}
use Rattle.std.specs.List.{All, cons_option, enumerate_from, filter, filter_map, flat_map}
use Rattle.std.specs.Option.{option_and_then}
use Rattle.std.specs.Prelude.{if◌then◌else◌}
use Rattle.std.proofs.lemmas.Bool.{cases_lt, ne_eqb}
use Rattle.std.proofs.lemmas.Option.{same_Some}
use Rattle.std.proofs.lemmas.Grind.{flat_map-append}
use Rattle.std.proofs.lemmas.List.Elements.{All-push}
use Rattle.std.proofs.lemmas.List.Sums.{sum_by_push}
use Rattle.work_share.specs.Results.{GivesAll}
use Rattle.clone_units.specs.Nodes.{number_of_object}
use Rattle.clone_units.specs.Units.{object_of}
use Rattle.clone_units.proofs.Cloned.{number_back}
use Rattle.clone_units.proofs.Placed.{units_many as units_of_graph}
use Rattle.dwarf_types.specs.declared.analysis.Analysis.{Analysis}
use Rattle.dwarf_types.specs.declared.entry.Entry.{Entry}
use Rattle.dwarf_types.specs.declared.entry.InUnit.{InUnit}
use Rattle.dwarf_types.specs.declared.frames.OutFrame.{OutFrame}
use Rattle.dwarf_types.specs.declared.graph.Graph.{Graph}
use Rattle.dwarf_types.specs.declared.graph.OutUnit.{OutUnit}
use Rattle.dwarf_types.specs.declared.shape.Shape.{Shape}
use Rattle.dwarf_types.specs.declared.shape.ShapeUnit.{ShapeUnit}
use Rattle.dwarf_types.specs.LinkedShape.{AreMarked, marks_in, origin_of}
use Rattle.dwarf_types.specs.LinkedUnits.{Object, kept_entries}
use Rattle.dwarf_types.specs.Sound.{IsSound}
use Rattle.link_graph.specs.Graph.{IsShape, graph_in}
use Rattle.link_graph.specs.Merged.{linked_names, shape_of}
use Rattle.link_graph.specs.OwnShapes.{StandsBehind}
use Rattle.link_graph.specs.Passes.{marked, unit_in, units_of}
use Rattle.link_graph.proofs.Growing.{graph_begins, names_none, shape_grown, units_begin}
use Rattle.link_graph.proofs.Joined.{shape_is}
use Rattle.macho_read.specs.declared.image.Image.{Image}
use Rattle.unit_draft.specs.declared.unit.Draft.{Draft}
use Rattle.type_names.specs.Names.{Named}
use Rattle.link_core.specs.declared.bundle.Drafted.{Drafted}
use Rattle.unit_drafts.specs.declared.drafting.Drafts.{Drafts}
use Rattle.object_reads.specs.declared.reading.ReadBatch.{ReadBatch}
use Rattle.link_status.specs.declared.refusal.LimitKind.TheVariants as limits
use Rattle.link_status.specs.declared.refusal.Refusal.{Refusal}
use Rattle.link_status.specs.declared.refusal.Refusal.TheVariants as refusals
use Rattle.link_core.specs.declared.unmerged.Unmerged.{Unmerged}
use Rattle.object_reads.specs.declared.objects.ReadObject.{ReadObject}
use Rattle.object_reads.specs.declared.target.Target.{Target}
use Rattle.object_reads.specs.Sources.{Source}
use Rattle.unit_drafts.specs.Graphs.{IsClosed, graph_of}
use Rattle.link_core.specs.Passes.{IsDrafted, Links}
use Rattle.object_reads.specs.Reading.{Reads, ReadsAt, ReadsBatch}
use Rattle.unit_drafts.specs.Drafting.{AreDrafting, AreLeft, DraftsUnit, DraftsUnits, MayDraftAll, first_needed}
use Rattle.unit_drafts.specs.Limits.{drafts_limit}
use Rattle.link_core.proofs.Bundling.{drafts_limited}
use Rattle.link_core.specs.Unmerged.{AreLinked, HasUnits, IsUnmerged, IsWhole, MayAdd, MayAddBatch, SoFar}
use Rattle.unit_drafts.proofs.Counting.{entries_few, filter_few, live_few}
use Rattle.unit_drafts.proofs.Graphs.{frames_same, given_whole, limit_is, pool_none, shape_few, shape_long}
use Rattle.object_reads.proofs.ObjectsRead.{going_more, going_none, going_stops}
use Rattle.work_share.proofs.Turns.{given_as, slice_get_behind, slice_get_front, there_is}

pub shape_is_of : (seen : List Analysis) (marks : List (List Bool)) → All IsSound seen → AreMarked seen marks → IsShape seen (shape_of false seen marks)
shape_is_of seen marks sound marked = shape_is false seen marks (shape_of false seen marks) sound marked.each refl

-- ---- units that can be numbered

pub units_few : (seen : List Analysis) (marks : List (List Bool)) (shape : Shape) (many : Bool) → many ≡ false → HasUnits seen marks shape many → (shape ≡ shape_of false seen marks) × (length shape.units < 2 ^ 32 - 1)
units_few seen marks shape many few h = subst (HasUnits seen marks shape) few h

pub units_many : (seen : List Analysis) (marks : List (List Bool)) (shape : Shape) (many : Bool) → many ≡ true → HasUnits seen marks shape many → 2 ^ 32 - 1 ≤ length (shape_of false seen marks).units
units_many seen marks shape many is h = subst (HasUnits seen marks shape) is h

-- ---- units of an object

-- the object that the root of a unit names
abbrev object_named : ShapeUnit → Option ℕ
object_named unit = option_and_then number_of_object (slice_get unit.nodes 0)

unit_named : (object : ℕ) (o : Object) (u : ℕ × InUnit) (unit : ShapeUnit) → unit_in object o u ≡ Some unit → object_named unit ≡ Some object
unit_named object o u unit = go (kept_entries o u.0)
  where
    go : (es : List (ℕ × Entry)) → (if length es == 0 then None else Some (record { version = u.1.version; nodes = map (origin_of object o u.0) es })) ≡ Some unit → object_named unit ≡ Some object
    go [] e = absurd cc
    go (x ∷ es) e =
        let some = sym (ap (λ (b : Bool). cond b None (Some (record { version = u.1.version; nodes = map (origin_of object o u.0) (x ∷ es) }))) (ne_eqb (suc (length es)) 0 (omega arith))) ∙ e in
        ap object_named (sym (same_Some (record { version = u.1.version; nodes = map (origin_of object o u.0) (x ∷ es) }) unit some)) ∙ number_back object

units_named : (object : ℕ) (o : Object) (us : List (ℕ × InUnit)) (k : ℕ) (unit : ShapeUnit) → slice_get (filter_map (unit_in object o) us) k ≡ Some unit → object_named unit ≡ Some object
units_named object o [] k unit at = absurd cc
units_named object o (u ∷ us) k unit at = go (unit_in object o u) refl (λ n. units_named object o us n unit) k at
  where
    go : (it : Option ShapeUnit) → unit_in object o u ≡ it → ((n : ℕ) → slice_get (filter_map (unit_in object o) us) n ≡ Some unit → object_named unit ≡ Some object) → (k : ℕ) → slice_get (cons_option it (filter_map (unit_in object o) us)) k ≡ Some unit → object_named unit ≡ Some object
    go None e rest k at = rest k at
    go (Some first) e rest zero at = unit_named object o u unit (e ∙ at)
    go (Some first) e rest (suc k) at = rest k at

-- ---- drafts, as the shape grows

-- what is drafted of a graph is drafted of one that begins with its units
drafts_on : (graph more : Graph) (others : List OutUnit) (count : ℕ) (outs : List (Result Draft Refusal)) → more.units ≡ graph.units ++ others → count ≤ length graph.units → GivesAll (DraftsUnit graph) count outs → GivesAll (DraftsUnit more) count outs
drafts_on graph more others count outs begins le given = given_as (DraftsUnit graph) (DraftsUnit more) count outs (λ k out lt drafts. one k out (there k (omega (arith, lt, le))) drafts) given
  where
    there : (k : ℕ) → k < length graph.units → slice_get more.units k ≡ slice_get graph.units k
    there k lt = ap (λ (us : List OutUnit). slice_get us k) begins ∙ slice_get_front graph.units others k lt

    one : (k : ℕ) (out : Result Draft Refusal) → slice_get more.units k ≡ slice_get graph.units k → DraftsUnit graph k out → DraftsUnit more k out
    one k (Ok draft) same d = (d.0, same ∙ d.1, d.2)
    one k (Err (refusals.Faulty file fault)) same d = absurd d
    one k (Err (refusals.Limit which n)) same d = (d.0, d.1, (d.2.0, same ∙ d.2.1, d.2.2))
    one k (Err refusals.NoMemory) same d = tt

-- the analyses that are left, with one more
left_more : (from : ℕ) (all left : List Analysis) (object : Analysis) → length left ≡ length all → AreLeft from all left → AreLeft from (all ++ object ∷ []) (left ++ object ∷ [])
left_more from all left object long are i le = elim (cases_lt i (length all)) [
  | inl lt ↦ slice_get_front left (object ∷ []) i (omega (arith, lt, long)) ∙ are i le ∙ sym (slice_get_front all (object ∷ []) i lt)
  | inr ge ↦ slice_get_behind left (object ∷ []) (i - length all) i (omega (arith, ge, long)) ∙ sym (slice_get_behind all (object ∷ []) (i - length all) i (omega (arith, ge)))
]

object_same : (shape more : Shape) (others : List ShapeUnit) (u : ℕ) → more.units ≡ shape.units ++ others → u < length shape.units → object_of more u ≡ object_of shape u
object_same shape more others u begins lt = ap (option_and_then (λ (unit : ShapeUnit). option_and_then number_of_object (slice_get unit.nodes 0))) (ap (λ (us : List ShapeUnit). slice_get us u) begins ∙ slice_get_front shape.units others u lt)

module _ (seen : List Analysis) (marks : List (List Bool)) (object : Analysis) (row : List Bool) (behind : StandsBehind seen marks object row) where
  abbrev seen' : List Analysis
  seen' = seen ++ object ∷ []

  abbrev marks' : List (List Bool)
  marks' = marks ++ row ∷ []

  pub drafting_more : (shape shape' : Shape) (it it' : Drafts) → shape ≡ shape_of false seen marks → shape' ≡ shape_of false seen' marks' → it'.left ≡ it.left ++ object ∷ [] → it'.dropped ≡ it.dropped → it'.outs.items ≡ it.outs.items
      → AreDrafting seen shape it → AreDrafting seen' shape' it'
  drafting_more shape shape' it it' is is' left dropped outs are =
      let others : List ShapeUnit = units_of (length seen) (marked object row) in
      let graphs = graph_begins seen marks object row behind in
      let begins : shape'.units ≡ shape.units ++ others =
      ap (λ (s : Shape). s.units) is' ∙ ap (λ (s : Shape). s.units) (shape_grown seen marks object row behind) ∙ ap (λ (s : Shape). s.units ++ others) (sym is) in
      let long : length shape'.units ≡ length shape.units + length others = ap length begins ∙ length-append shape.units others in
      let graph_is : (graph_in seen' shape').units ≡ (graph_in seen shape).units ++ graphs.0 =
      ap (λ (s : Shape). (graph_in seen' s).units) is' ∙ graphs.1 ∙ ap (λ (s : Shape). (graph_in seen s).units ++ graphs.0) (sym is) in
      record {
        within = omega (arith, ap length outs, are.within, long);
        given = subst (λ (l : List (Result Draft Refusal)). GivesAll (DraftsUnit (graph_in seen' shape')) (length l) l) (sym outs)
            (drafts_on (graph_in seen shape) (graph_in seen' shape') graphs.0 (length it.outs.items) it.outs.items graph_is (omega (arith, are.within, units_of_graph seen shape (subst (IsShape seen) (sym is) (shape_is_of seen marks behind.sound behind.marked)))) are.given);
        left = subst (λ (n : ℕ). AreLeft n seen' it'.left) (sym dropped) (subst (AreLeft it.dropped seen') (sym left) (left_more it.dropped seen it.left object are.long are.left));
        long = omega (arith, ap length left, length-append it.left (object ∷ []), length-append seen (object ∷ []), are.long);
        gone = omega (arith, dropped, are.gone, length-append seen (object ∷ []));
        waits = λ v le lt. elim (cases_lt v (length shape.units)) [
          | inl old ↦
              let was = are.waits v (omega (arith, le, ap length outs)) old in
              let same = ap first_needed (object_same shape shape' others v begins old) in
              omega (arith, was, same, dropped)
          | inr new ↦
              let at = there_is shape'.units v lt in
              let here = sym (slice_get_behind shape.units others (v - length shape.units) v (omega (arith, new))) ∙ ap (λ (us : List ShapeUnit). slice_get us v) (sym begins) ∙ at.1 in
              let named = ap (option_and_then object_named) at.1 ∙ units_named (length seen) (marked object row) (enumerate_from 0 object.units) (v - length shape.units) at.0 here in
              let needs = ap first_needed named in
              omega (arith, needs, dropped, are.gone)
        ];
      }

  -- too many units stay too many
  pub many_still : (shape : Shape) → HasUnits seen marks shape true → HasUnits seen' marks' shape true
  many_still shape many =
      let units = units_begin seen marks object row behind in
      omega (arith, many, ap length units.1, length-append (shape_of false seen marks).units units.0)

  -- where there are not too many now, there were not too many before
  units_before : (shape shape' : Shape) (was now : Bool) → HasUnits seen marks shape was → HasUnits seen' marks' shape' now → now ≡ false → was ≡ false
  units_before shape shape' false now before later few = refl
  units_before shape shape' true now before later few =
      let fit = units_few seen' marks' shape' now few later in
      let many : 2 ^ 32 - 1 ≤ length (shape_of false seen' marks').units = many_still shape before in
      absurd (omega (arith, many, fit.1, ap (λ (s : Shape). length s.units) fit.0))

  -- ---- an object more, of all that is linked

  module _ (it it' : Unmerged) (so_far : IsUnmerged seen marks it) (left : it'.drafts.left ≡ it.drafts.left ++ object ∷ []) (entries : it'.entries ≡ it.entries + length object.entries)
      (live : it'.live ≡ it.live + length (filter (λ b. b) row)) (frames : it'.frames ≡ it.frames ++ object.frames) (dropped : it'.drafts.dropped ≡ it.drafts.dropped) (outs : it'.drafts.outs.items ≡ it.drafts.outs.items) where
    pub unmerged_more : HasUnits seen' marks' it'.shape it'.many → IsUnmerged seen' marks' it'
    unmerged_more units = record {
      objects = omega (arith, ap length left, length-append it.drafts.left (object ∷ []), length-append seen (object ∷ []), so_far.objects);
      entries = entries ∙ ap (λ (n : ℕ). n + length object.entries) so_far.entries ∙ sym (sum_by_push (λ (a : Analysis). length a.entries) seen object);
      live = live ∙ ap (λ (n : ℕ). n + length (filter (λ b. b) row)) so_far.live ∙ sym (sum_by_push (λ (r : List Bool). length (filter (λ b. b) r)) marks row);
      frames = frames ∙ ap (λ (fs : List OutFrame). fs ++ object.frames) so_far.frames
          ∙ sym (flat_map-append (λ (a : Analysis). a.frames) seen (object ∷ []) ∙ ap (λ (fs : List OutFrame). flat_map (λ (a : Analysis). a.frames) seen ++ fs) (append-nil object.frames));
      units = units;
      drafting = λ few.
          let now = units_few seen' marks' it'.shape it'.many few units in
          let was = units_before it.shape it'.shape it.many it'.many so_far.units units few in
          drafting_more it.shape it'.shape it.drafts it'.drafts (units_few seen marks it.shape it.many was so_far.units).0 now.0 left dropped outs (so_far.drafting was);
    }

-- ---- the end

module _ (seen : List Analysis) (marks : List (List Bool)) (sound : All IsSound seen) (marked : AreMarked seen marks) where
  none_named : length (linked_names false seen marks) ≡ 0
  none_named = ap length (names_none seen marks)

  pub few_named : length (linked_names false seen marks) < 2 ^ 25
  few_named = omega (arith, none_named)

  pub many_limit : 2 ^ 32 - 1 ≤ length (shape_of false seen marks).units → drafts_limit false seen marks ≡ Some (refusals.Limit limits.Section (2 ^ 32 - 1))
  many_limit le = shape_long false seen marks (linked_names false seen marks) (shape_of false seen marks) refl refl (shape_is_of seen marks sound marked) few_named le

  pub may_draft_all : (shape : Shape) → shape ≡ shape_of false seen marks → length shape.units < 2 ^ 32 - 1 → MayDraftAll seen shape
  may_draft_all shape is few = record { is_shape = subst (IsShape seen) (sym is) (shape_is_of seen marks sound marked); sound = sound; few = few }

-- ---- objects as they are read

module _ (target : Target) (start : ℕ) (sources : List Source) (i : ℕ) (it : Unmerged) (so_far : SoFar target start sources i it) (lt : i < length sources) where
  module _ (few : length sources < start + 2 ^ 16) (object : ReadObject) (reads : ReadsAt target sources i (Ok object)) where
    pub may_add : MayAdd so_far.seen so_far.marks it object
    may_add =
        let there = there_is sources i lt in
        let read = reads there.0 there.1 in
        record {
          so_far = so_far.linked;
          few = omega (arith, few, lt, so_far.going.size);
          behind = record { sound = so_far.going.sound; marked = so_far.going.live.marked; its_sound = read.sound; its_marks = read.size };
        }

    pub added_one : (it' : Unmerged) → IsUnmerged (so_far.seen ++ object.analysis ∷ []) (so_far.marks ++ object.live ∷ []) it' → SoFar target start sources (i + 1) it'
    added_one it' linked = record {
      seen = so_far.seen ++ object.analysis ∷ [];
      marks = so_far.marks ++ object.live ∷ [];
      going = going_more target start sources i so_far.seen so_far.marks so_far.going lt object (so_far.seen ++ object.analysis ∷ []) (so_far.marks ++ object.live ∷ []) reads refl refl;
      linked = linked;
    }

  pub stops : (r : Refusal) → ReadsAt target sources i (Err r) → Reads target start sources (Err r)
  stops r refused = going_stops target start sources i so_far.seen so_far.marks so_far.going lt r refused

-- ---- from batch to batch

-- what is drafted at the end of a batch
module _ (seen : List Analysis) (marks : List (List Bool)) (it : Unmerged) (are : AreLinked seen marks it) where
  -- units are drafted
  pub drafting_of : it.many ≡ false → MayDraftAll seen it.shape × AreDrafting seen it.shape it.drafts
  drafting_of few =
      let units = units_few seen marks it.shape it.many few are.linked.units in
      (may_draft_all seen marks are.sound are.marked it.shape units.0 units.1, are.linked.drafting few)

  pub whole_many : it.many ≡ true → IsWhole seen marks it
  whole_many many = record { are = are; all = λ few. absurd (let clash = sym many ∙ few in cc) }

  pub whole_drafted : (it' : Unmerged) → it.many ≡ false → it'.many ≡ it.many → it'.shape ≡ it.shape → it'.frames ≡ it.frames → it'.entries ≡ it.entries → it'.live ≡ it.live → AreDrafting seen it.shape it'.drafts → length it'.drafts.outs.items ≡ length it.shape.units → IsWhole seen marks it'
  whole_drafted it' few many shape frames entries live drafting all = record {
    are = record {
      linked = record {
        objects = drafting.long;
        entries = entries ∙ are.linked.entries;
        live = live ∙ are.linked.live;
        frames = frames ∙ are.linked.frames;
        units = subst (λ (m : Bool). HasUnits seen marks it'.shape m) (sym many) (subst (λ (s : Shape). HasUnits seen marks s it.many) (sym shape) are.linked.units);
        drafting = λ still. subst (λ (s : Shape). AreDrafting seen s it'.drafts) (sym shape) drafting;
      };
      sound = are.sound;
      marked = are.marked;
    };
    all = λ still. all ∙ ap (λ (s : Shape). length s.units) (sym shape);
  }

-- ---- the bundle

module _ (program : Image) (front : List ℕ) (seen : List Analysis) (marks : List (List Bool)) (it : Unmerged) (whole : IsWhole seen marks it) where
  pub links_many : it.many ≡ true → Links false program front seen marks (Err (refusals.Limit limits.Section (2 ^ 32 - 1)))
  links_many many = drafts_limited false program seen marks (refusals.Limit limits.Section (2 ^ 32 - 1)) (many_limit seen marks whole.are.sound whole.are.marked (units_many seen marks it.shape it.many many whole.are.linked.units))

  module _ (few : it.many ≡ false) where
    units : (it.shape ≡ shape_of false seen marks) × (length it.shape.units < 2 ^ 32 - 1)
    units = units_few seen marks it.shape it.many few whole.are.linked.units

    graph_is : graph_in seen it.shape ≡ graph_of false seen marks
    graph_is = ap (graph_in seen) units.0

    is_shape : IsShape seen it.shape
    is_shape = subst (IsShape seen) (sym units.0) (shape_is_of seen marks whole.are.sound whole.are.marked)

    -- all units of the graph are drafted
    pub given_all : GivesAll (DraftsUnit (graph_of false seen marks)) (length (graph_of false seen marks).units) it.drafts.outs.items
    given_all = subst (λ (g : Graph). GivesAll (DraftsUnit g) (length g.units) it.drafts.outs.items) graph_is
        (given_whole seen it.shape (length it.drafts.outs.items) it.drafts.outs.items is_shape (whole.all few) (whole.are.linked.drafting few).given)

    pub few_units : length (graph_of false seen marks).units < 2 ^ 32 - 1
    few_units = subst (λ (g : Graph). length g.units < 2 ^ 32 - 1) graph_is (shape_few seen it.shape is_shape units.1)

    pub drafted_all : (made : Drafted) → DraftsUnits (graph_of false seen marks) (Ok made.drafts) → made.frames ≡ it.frames → made.counted.objects ≡ length it.drafts.left → made.counted.entries ≡ it.entries → made.counted.live ≡ it.live → made.counted.pooled ≡ 0
        → made.counted.names ≡ 0 → IsClosed [] made.closed → IsDrafted false seen marks made
    drafted_all made are framed o e l p n it_closed = record {
      few_names = few_named seen marks whole.are.sound whole.are.marked;
      few = few_units;
      drafts_are = are;
      frames_are = sym (ap (λ (g : Graph). g.frames) graph_is) ∙ sym (framed ∙ whole.are.linked.frames ∙ frames_same seen (marks_in it.shape) is_shape.marked.each);
      counted_are = record {
        objects = o ∙ whole.are.linked.objects;
        entries = e ∙ whole.are.linked.entries;
        live = l ∙ whole.are.linked.live;
        pooled = p ∙ sym (ap length (names_none seen marks));
        names = n ∙ sym (pool_none (linked_names false seen marks) (ap length (names_none seen marks)));
      };
      closed_is = subst (λ (ns : List Named). IsClosed ns made.closed) (sym (names_none seen marks)) it_closed;
    }

    pub refused_unit : (r : Refusal) → DraftsUnits (graph_of false seen marks) (Err r) → Links false program front seen marks (Err r)
    refused_unit (refusals.Faulty file why) d = absurd d
    refused_unit (refusals.Limit which n) d = drafts_limited false program seen marks (refusals.Limit which n) (limit_is false seen marks (few_named seen marks whole.are.sound whole.are.marked) ∙ d)
    refused_unit refusals.NoMemory d = tt

-- ---- the beginning

pub unmerged_none : (it : Unmerged) → it.shape ≡ shape_of false [] [] → it.frames ≡ [] → it.entries ≡ 0 → it.live ≡ 0 → it.many ≡ false → AreDrafting [] it.shape it.drafts → IsUnmerged [] [] it
unmerged_none it shape frames entries live many drafting = record {
  objects = drafting.long;
  entries = entries;
  live = live;
  frames = frames;
  units = subst (HasUnits [] [] it.shape) (sym many) (shape, omega (arith, ap (λ (s : Shape). length s.units) shape, no_units));
  drafting = λ few. drafting;
}
  where
    no_units : length (shape_of false [] []).units ≡ 0
    no_units = refl

-- ---- what is counted fits

module _ (seen : List Analysis) (marks : List (List Bool)) (it : Unmerged) (object : ReadObject) (may : MayAdd seen marks it object) where
  more_sound : All IsSound (seen ++ object.analysis ∷ [])
  more_sound = All-push IsSound seen object.analysis may.behind.sound may.behind.its_sound

  all_fit : it.entries + length object.analysis.entries < 2 ^ 40
  all_fit =
      let few = entries_few (seen ++ object.analysis ∷ []) more_sound (omega (arith, may.few, length-append seen (object.analysis ∷ []))) in
      omega (arith, few, may.so_far.entries, sum_by_push (λ (a : Analysis). length a.entries) seen object.analysis)

  pub entries_fit : it.entries + length object.analysis.entries < 2 ^ 64
  entries_fit = omega (arith, all_fit)

  pub live_fit : it.live + length (filter (λ b. b) object.live) < 2 ^ 64
  live_fit =
      let here = filter_few object.live in
      let before = live_few seen marks may.behind.marked.each may.behind.marked.whole in
      omega (arith, all_fit, here, before, may.so_far.live, may.so_far.entries, may.behind.its_marks)

-- ---- a batch that is read

module _ (target : Target) (start : ℕ) (sources : List Source) (first : ℕ) (batch : ReadBatch) (it : Unmerged) where
  pub may_add_batch : length sources < start + 2 ^ 16 → ReadsBatch target sources first batch → SoFar target start sources first it → MayAddBatch target start sources first (batch.end - first) it batch.outs.items
  may_add_batch few reads so_far = record { so_far = so_far; given = reads.given; within = omega (arith, reads.some, reads.within); few = few }

  pub added_batch : ReadsBatch target sources first batch → SoFar target start sources (first + (batch.end - first)) it → SoFar target start sources batch.end it
  added_batch reads so_far = subst (λ (n : ℕ). SoFar target start sources n it) (let same : first + (batch.end - first) ≡ batch.end = omega (arith, reads.some) in same) so_far

pub linked_so_far : (target : Target) (start : ℕ) (sources : List Source) (i : ℕ) (it : Unmerged) (so_far : SoFar target start sources i it) → AreLinked so_far.seen so_far.marks it
linked_so_far target start sources i it so_far = record { linked = so_far.linked; sound = so_far.going.sound; marked = so_far.going.live.marked }

pub so_far_on : (target : Target) (start : ℕ) (sources : List Source) (i : ℕ) (it it' : Unmerged) (so_far : SoFar target start sources i it) → IsWhole so_far.seen so_far.marks it' → SoFar target start sources i it'
so_far_on target start sources i it it' so_far whole = record { seen = so_far.seen; marks = so_far.marks; going = so_far.going; linked = whole.are.linked }

pub so_far_none : (target : Target) (start : ℕ) (sources : List Source) (it : Unmerged) → IsUnmerged [] [] it → SoFar target start sources start it
so_far_none target start sources it linked = record { seen = []; marks = []; going = going_none target start sources; linked = linked }

pub none_left : (it : Unmerged) → IsUnmerged [] [] it → it.many ≡ false → length it.drafts.outs.items ≡ length it.shape.units
none_left it linked few =
    let units = units_few [] [] it.shape it.many few linked.units in
    let within = (linked.drafting few).within in
    let none : length (shape_of false [] []).units ≡ 0 = refl in
    omega (arith, within, none, ap (λ (s : Shape). length s.units) units.0)
