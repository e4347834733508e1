-- The node of an entry that is written: what stands where references to the entry lead.
use Rattle.std.proofs.Common.{◌≡◌, ℕ, ◌+◌, true, List, ◌++◌, length, slice_get, Option, Some, None, inl, inr, refl, sym, ap, subst, ◌∙◌, arith}
use Rattle.std.specs.List.{All, Contains, filter_map, position}
use Rattle.std.specs.Option.{is_some, option_and_then, option_map}
use Rattle.std.proofs.lemmas.List.Elements.{All-weaker}
use Rattle.std.proofs.lemmas.Option.{none-some, same_Some, slice_get_cases, slice_get-map, slice_get_within}
use Rattle.dwarf_types.specs.declared.entry.Entry.{Entry}
use Rattle.dwarf_types.specs.declared.entry.InUnit.{InUnit}
use Rattle.dwarf_types.specs.declared.graph.OutUnit.{OutUnit}
use Rattle.dwarf_types.specs.declared.graph.Target.{Target}
use Rattle.dwarf_types.specs.declared.shape.ShapeUnit.{ShapeUnit}
use Rattle.dwarf_types.specs.LinkedGraph.{node_of}
use Rattle.dwarf_types.specs.LinkedShape.{origin_of, shape_in, unit_shape}
use Rattle.dwarf_types.specs.LinkedUnits.{Object, Source, kept_entries, node_number, plain_target, same_source, sources}
use Rattle.dwarf_types.specs.Live.{Stands, bases_of}
use Rattle.dwarf_types.specs.Sound.{IsIn, IsParent, IsSound}
use Rattle.link_graph.proofs.Units.{unit_of}
use Rattle.linked_laws.specs.Kept.{IsWhole}
use Rattle.linked_laws.specs.Nodes.{HasNode, HasOrigin, IsKeptEntry}
use Rattle.linked_laws.proofs.Images.{IsSource, Lies, all_sources, entry_placed, goes, lies, slice_get_behind, source_by, target_by}
use Rattle.linked_laws.proofs.Lists.{kept_at}

-- ---- parents

parent_lies : (unit : InUnit) (k p : ℕ) → IsIn unit k → IsParent unit k (Some p) → IsIn unit p
parent_lies unit k p lies h = record { from_first = omega (arith, h.0); before_end = omega (arith, h.1, lies.before_end) }

-- the parent of an entry is one of its unit
parent_there : (o : Object) (k p : ℕ) (e : Entry) → IsSound o.seen → Stands o.seen.entries k e → e.parent ≡ Some p → (x : Entry) × Stands o.seen.entries p x × (x.unit ≡ e.unit)
parent_there o k p e sound at parent =
    let s = sound.entries k e at in
    let its = subst (IsParent s.unit k) parent s.parent in
    elim (slice_get_cases o.seen.entries p).1 [
      | inl w ↦ (w.0, w.2, unit_of o.seen e.unit s.unit p w.0 sound s.its_unit w.2 (parent_lies s.unit k p s.lies its))
      | inr w ↦ absurd (omega (arith, w.0, its.1, slice_get_within o.seen.entries k e at))
    ]

-- ---- in two units of one number

module _ (objects : List Object) where
  -- entries of one unit have nodes in one unit
  pub one_unit : (first i : ℕ) (o : Object) (k j : ℕ) (e x : Entry) → x.unit ≡ e.unit → (a : Lies objects first i o k e) → (b : Lies objects first i o j x) → b.target.unit ≡ a.target.unit
  one_unit first i o k j e x same a b =
      let found = ap (λ (u : ℕ). position (same_source (source_by i u)) (sources objects)) (sym same) ∙ b.found in
      let place : b.place ≡ a.place = same_Some b.place a.place (sym found ∙ a.found) in
      b.unit ∙ ap (λ (n : ℕ). first + n) place ∙ sym a.unit

  pub one_unit_each : (first i : ℕ) (o : Object) (k j : ℕ) (e x : Entry) (t s : Target) → IsSound o.seen → IsKeptEntry objects i k o e → IsKeptEntry objects i j o x → x.unit ≡ e.unit
      → plain_target first objects i k ≡ Some t → plain_target first objects i j ≡ Some s → s.unit ≡ t.unit
  one_unit_each first i o k j e x t s sound it other same goes_t goes_s =
      let a = lies objects first i o k e (sound.entries k e it.stands).unit it.object sound it.stands (sound.entries k e it.stands).its_unit it.kept in
      let b = lies objects first i o j x (sound.entries j x other.stands).unit other.object sound other.stands (sound.entries j x other.stands).its_unit other.kept in
      ap (λ (y : Target). y.unit) (same_Some s b.target (sym goes_s ∙ b.is)) ∙ one_unit first i o k j e x same a b ∙ ap (λ (y : Target). y.unit) (same_Some a.target t (sym a.is ∙ goes_t))

  -- ---- in the graph

  pub has_node : (units : List OutUnit) (image : ℕ → ℕ → Option Target) (i k : ℕ) (o : Object) (e : Entry) → IsSound o.seen → IsKeptEntry objects i k o e → HasNode objects i k units image o e
  has_node units image i k o e sound it =
      let own = sound.entries k e it.stands in
      let g = goes objects units image i o k e own.unit it.object sound it.stands own.its_unit it.kept in
      record {
        target = g.target;
        leads = g.is;
        node = node_of (image i) o e.unit (k, e);
        stands = ap (option_and_then (λ (unit : OutUnit). slice_get unit.nodes g.target.node)) g.in_graph
            ∙ slice_get-map (node_of (image i) o e.unit) (kept_entries o e.unit) g.target.node ∙ ap (option_map (node_of (image i) o e.unit)) g.node;
        says = refl;
        below = λ p parent kept. (
            let x = parent_there o k p e sound it.stands parent in
            let up = sound.entries p x.0 x.1 in
            let above = lies objects (length units) i o p x.0 up.unit it.object sound x.1 up.its_unit kept in
            let unit = one_unit_each (length units) i o k p e x.0 g.target above.target sound it (record { object = it.object; stands = x.1; kept = kept }) x.2 g.is above.is in (
              above.target.node,
              ap (option_and_then (node_number o e.unit)) parent ∙ ap (λ (u : ℕ). node_number o u p) (sym x.2) ∙ above.number,
              above.is ∙ ap (λ (u : ℕ). Some (record { unit = u; node = above.target.node })) unit,
            ));
      }

  -- ---- in a shape

  pub shaped : (s : Source) (o : Object) (unit : InUnit) → slice_get objects s.object ≡ Some o → slice_get o.seen.units s.unit ≡ Some unit → shape_in objects s ≡ Some (unit_shape s o unit)
  shaped s o unit at is = ap (option_and_then (λ (x : Object). option_map (unit_shape s x) (slice_get x.seen.units s.unit))) at ∙ ap (option_map (unit_shape s o)) is

  pub all_shaped : All (λ s. is_some (shape_in objects s) ≡ true) (sources objects)
  all_shaped = All-weaker (IsSource objects) (λ s. is_some (shape_in objects s) ≡ true) (λ s h. ap is_some (shaped s h.object h.unit h.at h.is)) (sources objects) (all_sources objects)

  pub has_origin : (before : List ShapeUnit) (i k : ℕ) (o : Object) (e : Entry) → IsSound o.seen → IsKeptEntry objects i k o e → HasOrigin objects i k before
  has_origin before i k o e sound it =
      let own = sound.entries k e it.stands in
      let l = lies objects (length before) i o k e own.unit it.object sound it.stands own.its_unit it.kept in
      let source = source_by i e.unit in
      let behind = filter_map (shape_in objects) (sources objects) in
      let unit : slice_get (before ++ behind) l.target.unit ≡ Some (unit_shape source o own.unit) =
      ap (slice_get (before ++ behind)) l.unit ∙ slice_get_behind before behind l.place
      ∙ kept_at (shape_in objects) (sources objects) l.place all_shaped ∙ ap (option_and_then (shape_in objects)) l.source ∙ shaped source o own.unit it.object own.its_unit in
      record {
        target = l.target;
        leads = l.is;
        origin = origin_of i o e.unit (k, e);
        stands = ap (option_and_then (λ (unit : ShapeUnit). slice_get unit.nodes l.target.node)) unit
            ∙ slice_get-map (origin_of i o e.unit) (kept_entries o e.unit) l.target.node ∙ ap (option_map (origin_of i o e.unit)) l.node;
        object = refl;
        entry = refl;
      }

  -- ---- base types

  -- the node of a base type that an expression of the entry names stands in the entry's unit
  pub base_beside : (first i k j : ℕ) (o : Object) (e : Entry) → IsWhole o → IsKeptEntry objects i k o e → Contains (bases_of e) j
      → (target : Target) × (base : Target) × (plain_target first objects i k ≡ Some target) × (plain_target first objects i j ≡ Some base) × (base.unit ≡ target.unit)
  base_beside first i k j o e whole it there =
      let own = whole.sound.entries k e it.stands in
      let base = own.bases j there in
      let its = whole.sound.entries j base.entry base.stands in
      let a = lies objects first i o k e own.unit it.object whole.sound it.stands own.its_unit it.kept in
      let b = lies objects first i o j base.entry its.unit it.object whole.sound base.stands its.its_unit (whole.bases k j e it.kept it.stands there) in
      (a.target, b.target, a.is, b.is, one_unit first i o k j e base.entry base.unit a b)

  -- ---- no others have one

  pub only_kept : (first i k : ℕ) (target : Target) → plain_target first objects i k ≡ Some target → (o : Object) × (e : Entry) × IsKeptEntry objects i k o e
  only_kept first i k target is = by (slice_get objects i) refl
    where
      in_object : Object → Option Target
      in_object o = option_and_then (λ (e : Entry). option_and_then (λ n. option_map (target_by objects (first + n)) (node_number o e.unit k)) (position (same_source (source_by i e.unit)) (sources objects))) (slice_get o.seen.entries k)

      by : (found : Option Object) → slice_get objects i ≡ found → (o : Object) × (e : Entry) × IsKeptEntry objects i k o e
      by None none = absurd (none-some target (sym (ap (option_and_then in_object) none) ∙ is))
      by (Some o) at = let placed = entry_placed objects first i o k target at is in (o, placed.entry, record { object = at; stands = placed.stands; kept = placed.kept })
