-- The graph with merged entries is well.
use Rattle.std.proofs.Common.{◌≡◌, ℕ, ◌+◌, ◌-◌, ◌^◌, ◌<◌, ◌==◌, ◌&&◌, Bool, true, false, cond, List, [], ◌∷◌, length, slice_get, get_or, Option, Some, None, IfSome, refl, sym, ap, subst, ◌∙◌, arith}
use Rattle.std.specs.List.{All, Contains, filter_map, position}
use Rattle.std.specs.Option.{option_and_then, option_map}
use Rattle.std.proofs.lemmas.Bool.{eqb-true}
use Rattle.std.proofs.lemmas.List.{length-map}
use Rattle.std.proofs.lemmas.List.Quantifiers.{position-Some}
use Rattle.std.proofs.lemmas.Option.{get_or_from_slice_get, none-some, same_Some, slice_get-map, slice_get_within}
use Rattle.ds_base.specs.DwarfNumbers.{DW_TAG_base_type}
use Rattle.dwarf_types.specs.declared.analysis.Analysis.{Analysis}
use Rattle.dwarf_types.specs.declared.entry.Entry.{Entry}
use Rattle.dwarf_types.specs.declared.graph.Graph.{Graph}
use Rattle.dwarf_types.specs.declared.graph.OutUnit.{OutUnit}
use Rattle.dwarf_types.specs.declared.graph.Target.{Target}
use Rattle.dwarf_types.specs.declared.shape.Shape.{Shape}
use Rattle.dwarf_types.specs.declared.shape.ShapeUnit.{ShapeUnit}
use Rattle.dwarf_types.specs.LinkedGraph.{linked_behind, node_of, unit_written, written}
use Rattle.dwarf_types.specs.LinkedShape.{objects_in}
use Rattle.dwarf_types.specs.LinkedUnits.{Object, is_kept, kept_entries, node_number, plain_target, same_source, sources}
use Rattle.dwarf_types.specs.Live.{Stands}
use Rattle.dwarf_types.specs.Sound.{IsSound}
use Rattle.dwarf_types.specs.Well.{IsWell, IsWellUnit}
use Rattle.dwarf_types.specs.WellValues.{IsTarget}
use Rattle.link_graph.specs.Graph.{files_of, graph_in, image_of, pool_unit, pool_version}
use Rattle.link_graph.specs.Merged.{image_in, kept_object, kept_objects, linked_names, object_units, pool_count, shape_of}
use Rattle.link_graph.specs.Pool.{node_of_path, pool_names, same_path}
use Rattle.linked_laws.specs.Spellable.{IsSpellable, version_of}
use Rattle.linked_laws.specs.Kept.{IsWhole, Leads}
use Rattle.linked_laws.proofs.Attributes.{Allows, mapped_some}
use Rattle.linked_laws.proofs.Images.{goes}
use Rattle.linked_laws.proofs.Whole.{behind_well}
use Rattle.linked_laws.proofs.Written.{all_written}
use Rattle.odr_names.specs.Numbered.{objects_of, merged}
use Rattle.odr_names.specs.Making.{AreLiveRows}
use Rattle.odr_names.proofs.Counting.{entry_at}
use Rattle.odr_names.proofs.ObjectLists.{object_parts}
use Rattle.type_names.specs.Heads.{entries_of, is_pooled}
use Rattle.type_names.specs.Heads as heads
use Rattle.type_names.specs.Names.{Named, named_of}
use Rattle.type_names.specs.Paths.{Piece, path_of}
use Rattle.type_names.proofs.Pooling.{sound_parents}
use Rattle.merged_laws.specs.Files.{FilesFit}
use Rattle.merged_laws.proofs.Members.{none_in}
use Rattle.merged_laws.proofs.Names.{IsNameOf, name_there}
use Rattle.merged_laws.proofs.Nodes.{IsGood, bids_apart, objects_good}
use Rattle.merged_laws.proofs.Plain.{and_parts, base_alone, kept_whole}
use Rattle.merged_laws.proofs.PoolUnit.{IsOne, pool_long, pool_well}
use Rattle.merged_laws.proofs.Versions.{pool_allows, version_known}
use Rattle.merged_laws.proofs.Told.{as_many_pools, image_read, in_object, objects_back, origins_of, pool_all, pool_by, pool_first, pool_made, pool_some}

-- ---- nodes of their own

abbrev target_by : ℕ → ℕ → Target
target_by unit node = record { unit = unit; node = node }

abbrev from_entry : List Object → ℕ → ℕ → ℕ → Object → Entry → Option Target
from_entry objects first i k o e = option_and_then (λ unit. option_map (target_by (first + unit)) (node_number o e.unit k)) (position (same_source (record { object = i; unit = e.unit })) (sources objects))

-- an entry that has a node of its own is kept
record IsPlaced (o : Object) (k : ℕ) : Type 0 where
  entry : Entry
  stands : Stands o.seen.entries k entry
  kept : is_kept o k ≡ true

placed : (objects : List Object) (first i : ℕ) (o : Object) (k : ℕ) (target : Target) → slice_get objects i ≡ Some o → plain_target first objects i k ≡ Some target → IsPlaced o k
placed objects first i o k target at is = by (slice_get o.seen.entries k) refl (sym (ap (option_and_then (λ (x : Object). option_and_then (from_entry objects first i k x) (slice_get x.seen.entries k))) at) ∙ is)
  where
    of_node : (e : Entry) → slice_get o.seen.entries k ≡ Some e → (n : ℕ) → node_number o e.unit k ≡ Some n → IsPlaced o k
    of_node e stands n number =
        let found = position-Some (λ x. x.0 == k) (kept_entries o e.unit) n (k, e) number in
        let x = get_or (kept_entries o e.unit) n (k, e) in
        record { entry = e; stands = stands; kept = subst (λ (m : ℕ). is_kept o m ≡ true) (eqb-true x.0 k found.1) (all_written o e.unit n (k, e) found.0).kept }

    of_unit : (e : Entry) → slice_get o.seen.entries k ≡ Some e → (found : Option ℕ) → node_number o e.unit k ≡ found → (unit : Option ℕ) → option_and_then (λ unit. option_map (target_by (first + unit)) found) unit ≡ Some target → IsPlaced o k
    of_unit e stands found number None t = absurd (none-some target t)
    of_unit e stands None number (Some n) t = absurd (none-some target t)
    of_unit e stands (Some m) number (Some n) t = of_node e stands m number

    by : (found : Option Entry) → slice_get o.seen.entries k ≡ found → option_and_then (from_entry objects first i k o) found ≡ Some target → IsPlaced o k
    by None none t = absurd (none-some target t)
    by (Some e) some t = of_unit e some (node_number o e.unit k) refl (position (same_source (record { object = i; unit = e.unit })) (sources objects)) t

-- ---- nodes of paths

node_small : (ns : List Named) (path : List Piece) (m : ℕ) → node_of_path ns path ≡ Some m → m < length (pool_names ns) + 1
node_small ns [] m is = omega (arith, same_Some 0 m is)
node_small ns (p ∷ path) m is = go (position (λ w. same_path w.path (p ∷ path)) (pool_names ns)) refl is
  where
    go : (found : Option ℕ) → position (λ w. same_path w.path (p ∷ path)) (pool_names ns) ≡ found → option_map (λ n. n + 1) found ≡ Some m → m < length (pool_names ns) + 1
    go None none e = absurd (none-some m e)
    go (Some n) some e =
        let d : Named = record { object = 0; entry = 0; parent = None; path = []; bid = 0 } in
        omega (arith, (position-Some (λ w. same_path w.path (p ∷ path)) (pool_names ns) n d some).0, same_Some (n + 1) m e)

module _ (odr : Bool) (seen : List Analysis) (live : List (List Bool)) (sound : All IsSound seen) (given : All IsSpellable seen) (rows : AreLiveRows seen live) (few : length seen < 2 ^ 16) (fit : FilesFit seen (shape_of odr seen live)) where
  abbrev shape : Shape
  shape = shape_of odr seen live

  abbrev image : ℕ → ℕ → Option Target
  image = image_of shape

  abbrev ns : List Named
  ns = linked_names odr seen live

  -- the version of the unit of merged entries
  abbrev version : ℕ
  version = pool_version (object_units odr seen live)

  abbrev units : List OutUnit
  units = pool_made image seen version ns

  abbrev objects : List Object
  objects = kept_objects odr seen live

  abbrev graph : Graph
  graph = linked_behind units image objects

  -- ---- the objects

  record Comes (i : ℕ) (o : Object) : Type 0 where
    of : heads.Object
    at : slice_get (objects_of seen live) i ≡ Some of
    is : o ≡ kept_object odr of
    good : IsGood of
    fine : IsSpellable of.seen

  given_at : (i : ℕ) (o : heads.Object) → slice_get (objects_of seen live) i ≡ Some o → IsSpellable o.seen
  given_at i o at =
      let part = (object_parts seen live i o at).0 in
      subst IsSpellable (get_or_from_slice_get seen i o.seen o.seen part) (given i o.seen (slice_get_within seen i o.seen part))

  comes : (i : ℕ) (o : Object) → slice_get objects i ≡ Some o → Comes i o
  comes i o at =
      let w = mapped_some (kept_object odr) (slice_get (objects_of seen live) i) o (sym (slice_get-map (kept_object odr) (objects_of seen live) i) ∙ at) in
      record { of = w.0; at = w.1; is = w.2; good = objects_good seen live sound rows i w.0 w.1; fine = given_at i w.0 w.1 }

  each : (i : ℕ) (o : Object) → slice_get objects i ≡ Some o → IsWhole o
  each i o at = let c = comes i o at in subst IsWhole (sym c.is) (kept_whole odr c.of c.good.sound c.fine c.good.row c.good.lives)

  -- ---- where references lead

  one_of : (i : ℕ) (o : heads.Object) → slice_get (merged odr seen live) i ≡ Some o → slice_get (objects_of seen live) i ≡ Some o
  one_of i o = by odr
    where
      by : (b : Bool) → slice_get (merged b seen live) i ≡ Some o → slice_get (objects_of seen live) i ≡ Some o
      by true at = at
      by false at = absurd (none-some o at)

  there_of : (i : ℕ) (o : heads.Object) → odr ≡ true → slice_get (objects_of seen live) i ≡ Some o → slice_get (merged odr seen live) i ≡ Some o
  there_of i o is at = ap (λ (b : Bool). slice_get (merged b seen live) i) is ∙ at

  ones : (i : ℕ) (o : heads.Object) → slice_get (merged odr seen live) i ≡ Some o → IsOne seen i o
  ones i o at = let at = one_of i o at in record { at = (object_parts seen live i o at).0; sound = (objects_good seen live sound rows i o at).sound; given = given_at i o at }

  abbrev own_unit : OutUnit
  own_unit = pool_unit image seen version (origins_of ns)

  -- it may say what the units of the merged entries say
  allows : (w : Named) (is : IsNameOf (merged odr seen live) w) → Allows (version_of is.object.seen.units is.entry.unit) version
  allows w is =
      let i = w.object - 1 in
      let at = one_of i is.object is.its in
      let good = objects_good seen live sound rows i is.object at in
      pool_allows odr seen live i is.object at good.sound (given_at i is.object at) good.row good.lives w.entry is.entry is.stands is.pooled

  some_name : (i k : ℕ) (o : heads.Object) → slice_get (objects_of seen live) i ≡ Some o → (odr && is_pooled o k) ≡ true → k < length (entries_of o) → ns ≡ [] → ⊥
  some_name i k o at merges lt none =
      let parts = and_parts odr (is_pooled o k) merges in
      let e = entry_at (entries_of o) k lt in
      none_in (named_of (i + 1) o k e.0) (subst (λ (xs : List Named). Contains xs (named_of (i + 1) o k e.0)) none (name_there (merged odr seen live) i o k e.0 (there_of i o parts.0 at) e.1 parts.1))

  merged_target : (i k : ℕ) (o : heads.Object) (target : Target) → slice_get (objects_of seen live) i ≡ Some o → k < length (entries_of o) → (odr && is_pooled o k) ≡ true → (found : Option ℕ) → node_of_path ns (path_of (i + 1) o k) ≡ found
      → option_map (target_by 0) found ≡ Some target → IsTarget graph target
  merged_target i k o target at lt merges None none is = absurd (none-some target is)
  merged_target i k o target at lt merges (Some m) some is =
      let first = pool_first image seen version ns (filter_map (written image objects) (sources objects)) (some_name i k o at merges lt) in
      let long = pool_long seen (merged odr seen live) ones image version allows in
      subst (IsTarget graph) (same_Some (target_by 0 m) target is) (record { unit = own_unit; stands = first; inside = omega (arith, long, node_small ns (path_of (i + 1) o k) m some) })

  plain_node : (i k : ℕ) (o : Object) (target : Target) → slice_get objects i ≡ Some o → plain_target (pool_count ns) objects i k ≡ Some target → IsTarget graph target
  plain_node i k o target at is =
      let whole = each i o at in
      let it = placed objects (pool_count ns) i o k target at is in
      let own = whole.sound.entries k it.entry it.stands in
      let g = goes objects units image i o k it.entry own.unit at whole.sound it.stands own.its_unit it.kept in
      let there : plain_target (length units) objects i k ≡ Some target = ap (λ (first : ℕ). plain_target first objects i k) (as_many_pools image seen version ns) ∙ is in
      let same : g.target ≡ target = same_Some g.target target (sym g.is ∙ there) in
      subst (IsTarget graph) same (record {
        unit = unit_written (image i) o it.entry.unit own.unit;
        stands = g.in_graph;
        inside = omega (arith, slice_get_within (kept_entries o it.entry.unit) g.target.node (k, it.entry) g.node, length-map (kept_entries o it.entry.unit) (node_of (image i) o it.entry.unit));
      })

  -- a reference leads to a node
  targets : (i k : ℕ) (target : Target) → image i k ≡ Some target → IsTarget graph target
  targets i k target is = of_object (slice_get (objects_of seen live) i) refl (sym (image_read odr seen live i k) ∙ is)
    where
      decide : (o : heads.Object) → slice_get (objects_of seen live) i ≡ Some o → k < length (entries_of o) → (b : Bool) → (odr && is_pooled o k) ≡ b
          → cond b (option_map (target_by 0) (node_of_path ns (path_of (i + 1) o k))) (plain_target (pool_count ns) objects i k) ≡ Some target → IsTarget graph target
      decide o at lt true merges t = merged_target i k o target at lt merges (node_of_path ns (path_of (i + 1) o k)) refl t
      decide o at lt false own t = plain_node i k (kept_object odr o) target (slice_get-map (kept_object odr) (objects_of seen live) i ∙ ap (option_map (kept_object odr)) at) t

      of_entry : (o : heads.Object) → slice_get (objects_of seen live) i ≡ Some o → (found : Option Entry) → slice_get (entries_of o) k ≡ found → option_and_then (λ (e : Entry). image_in odr seen live (i, o) k) found ≡ Some target → IsTarget graph target
      of_entry o at None none t = absurd (none-some target t)
      of_entry o at (Some e) some t = decide o at (slice_get_within (entries_of o) k e some) (odr && is_pooled o k) refl t

      of_object : (found : Option heads.Object) → slice_get (objects_of seen live) i ≡ found → option_and_then (in_object odr seen live i k) found ≡ Some target → IsTarget graph target
      of_object None none t = absurd (none-some target t)
      of_object (Some o) some t = of_entry o some (slice_get (entries_of o) k) refl t

  -- one to a base type leads to its own node
  own_base : (i : ℕ) (o : Object) → slice_get objects i ≡ Some o → (j : ℕ) (e : Entry) → Stands o.seen.entries j e → e.tag ≡ DW_TAG_base_type → image i j ≡ plain_target (length units) objects i j
  own_base i o at j e stands base =
      let c = comes i o at in
      let its : slice_get (entries_of c.of) j ≡ Some e = ap (λ (x : Object). slice_get x.seen.entries j) (sym c.is) ∙ stands in
      let alone = base_alone odr c.of j e (sound_parents c.of.seen c.good.sound) its base in
      image_read odr seen live i j ∙ ap (option_and_then (in_object odr seen live i j)) c.at ∙ ap (option_and_then (λ (e : Entry). image_in odr seen live (i, c.of) j)) its
      ∙ ap (λ (b : Bool). cond b (option_map (target_by 0) (node_of_path ns (path_of (i + 1) c.of j))) (plain_target (pool_count ns) objects i j)) alone
      ∙ ap (λ (first : ℕ). plain_target first objects i j) (sym (as_many_pools image seen version ns))

  leads : (i : ℕ) (o : Object) → slice_get objects i ≡ Some o → Leads units image objects i o
  leads i o at = record { targets = λ k target is. targets i k target is; bases = λ j e kept stands base. own_base i o at j e stands base }

  -- ---- the graph

  files_few : (ns ≡ [] → ⊥) → length (files_of seen (origins_of ns)) < 2 ^ 64
  files_few some = subst (λ (found : Option ShapeUnit). IfSome found (λ unit. length (files_of seen unit.nodes) < 2 ^ 64)) (pool_some objects version ns shape refl some) fit

  behind : IsWell graph
  behind = behind_well units image objects each leads
      (pool_all (IsWellUnit (IsTarget graph)) image seen version ns
      (λ some. pool_well seen (merged odr seen live) ones image version allows (bids_apart odr seen live few sound rows) graph targets (files_few some) (version_known (object_units odr seen live))))

  pub merged_well : IsWell (graph_in seen (shape_of odr seen live))
  merged_well = subst IsWell (sym (ap (λ (us : List OutUnit). linked_behind us image (objects_in seen shape)) (pool_by seen objects version ns shape refl) ∙ ap (λ (os : List Object). linked_behind units image os) (objects_back odr seen live))) behind
