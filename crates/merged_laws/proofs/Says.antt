-- What the nodes of a linked graph say, by the nodes of its shape.
use Rattle.std.proofs.Common.{◌≡◌, inl, inr, ℕ, zero, suc, ◌+◌, ◌-◌, ◌<◌, ◌==◌, Bool, true, false, cond, List, [], ◌∷◌, ◌++◌, length, map, slice_get, Option, Some, None, append-nil, refl, sym, ap, subst, ◌∙◌, arith}
use Rattle.std.specs.List.{All, Contains, filter_map, flat_map}
use Rattle.std.specs.Option.{is_some, option_and_then, option_map}
use Rattle.std.proofs.lemmas.Bool.{cases_lt, ne_eqb}
use Rattle.std.proofs.lemmas.List.Elements.{All-contains, All-map, All-weaker}
use Rattle.std.proofs.lemmas.Option.{get_or_from_slice_get, none-some, same_Some, slice_get-map, slice_get_within}
use Rattle.dwarf_types.specs.declared.analysis.Analysis.{Analysis}
use Rattle.dwarf_types.specs.declared.entry.Entry.{Entry}
use Rattle.dwarf_types.specs.declared.graph.Graph.{Graph}
use Rattle.dwarf_types.specs.declared.graph.Node.{Node}
use Rattle.dwarf_types.specs.declared.graph.OutUnit.{OutUnit}
use Rattle.dwarf_types.specs.declared.graph.Target.{Target}
use Rattle.dwarf_types.specs.declared.shape.Origin.{Origin}
use Rattle.dwarf_types.specs.declared.shape.Shape.{Shape}
use Rattle.dwarf_types.specs.declared.shape.ShapeUnit.{ShapeUnit}
use Rattle.dwarf_types.specs.LinkedGraph.{closing, code_of_unit, linked_behind, node_of, unit_written, written}
use Rattle.dwarf_types.specs.LinkedShape.{objects_in, origin_of, shape_in}
use Rattle.dwarf_types.specs.LinkedUnits.{Object, Source, kept_entries, sources}
use Rattle.dwarf_types.specs.LinkedValues.{attrs_written}
use Rattle.dwarf_types.specs.WellRoots.{closing_pair}
use Rattle.link_graph.specs.Graph.{files_of, graph_in, image_of, pool_node, pool_unit, pool_version, source_of}
use Rattle.link_graph.specs.Graph as graph_of
use Rattle.link_graph.specs.Merged.{kept_object, kept_objects, linked_names, object_units, pool_origin, pool_root, pool_units, shape_of}
use Rattle.link_graph.specs.Pool.{pool_names, winners}
use Rattle.link_graph.specs.PoolFiles.{SourceFile, files_named, number_among, same_file}
use Rattle.linked_laws.specs.Nodes.{node_at, origin_at}
use Rattle.linked_laws.proofs.Attributes.{mapped_some}
use Rattle.linked_laws.proofs.Images.{IsSource, all_sources, all_there, slice_get_behind, source_written}
use Rattle.linked_laws.proofs.Lists.{kept_at}
use Rattle.linked_laws.proofs.Nodes.{all_shaped, shaped}
use Rattle.linked_laws.proofs.Written.{written_at}
use Rattle.odr_names.specs.Numbered.{merged}
use Rattle.odr_names.specs.Numbered as numbered
use Rattle.odr_names.proofs.ObjectLists.{object_parts}
use Rattle.type_names.specs.Names.{Named}
use Rattle.merged_laws.specs.Says.{Says}
use Rattle.merged_laws.proofs.Leads.{as_many}
use Rattle.merged_laws.proofs.Members.{in_at, in_filter_map, in_flat_map, later_in}
use Rattle.merged_laws.proofs.Names.{IsNameOf, all_names, winner_named}
use Rattle.merged_laws.proofs.PathTree.{all_win}
use Rattle.merged_laws.proofs.SourceFiles.{becomes, file_of_entry, files_tell, once_has}
use Rattle.merged_laws.proofs.Told.{as_many_pools, objects_back, origins_of, pool_by, pool_made, pool_shape}

module _ (odr : Bool) (seen : List Analysis) (live : List (List Bool)) where
  abbrev shape : Shape
  shape = shape_of odr seen live

  abbrev image : ℕ → ℕ → Option Target
  image = image_of shape

  abbrev ns : List Named
  ns = linked_names odr seen live

  abbrev version : ℕ
  version = pool_version (object_units odr seen live)

  abbrev objects : List Object
  objects = kept_objects odr seen live

  abbrev own : List OutUnit
  own = filter_map (written image objects) (sources objects)

  abbrev own_shapes : List ShapeUnit
  own_shapes = filter_map (shape_in objects) (sources objects)

  abbrev pools : List OutUnit
  pools = pool_made image seen version ns

  graph_is : graph_in seen shape ≡ linked_behind pools image objects
  graph_is = ap (λ (us : List OutUnit). linked_behind us image (objects_in seen shape)) (pool_by seen objects version ns shape refl) ∙ ap (λ (os : List Object). linked_behind pools image os) (objects_back odr seen live)

  as_many_units : length pools ≡ length (pool_units version ns)
  as_many_units = as_many_pools image seen version ns ∙ sym (as_many version ns)

  abbrev source_by : ℕ → Analysis → Entry → graph_of.Source
  source_by object a e = record { object = object; seen = a; entry = e }

  -- ---- units of objects

  seen_at : (i : ℕ) (o : Object) → slice_get objects i ≡ Some o → slice_get seen i ≡ Some o.seen
  seen_at i o at =
      let w = mapped_some (kept_object odr) (slice_get (numbered.objects_of seen live) i) o (sym (slice_get-map (kept_object odr) (numbered.objects_of seen live) i) ∙ at) in
      (object_parts seen live i w.0 w.1).0 ∙ ap (λ (x : Object). Some x.seen) (sym w.2)

  entry_source : (i k : ℕ) (a : Analysis) (e : Entry) (parent : Option ℕ) → slice_get seen i ≡ Some a → slice_get a.entries k ≡ Some e → source_of seen (record { object = i + 1; entry = k; parent = parent }) ≡ Some (source_by i a e)
  entry_source i k a e parent at stands =
      let there : ℕ → Option graph_of.Source = λ n. option_and_then (λ (a : Analysis). option_map (λ (e : Entry). source_by n a e) (slice_get a.entries k)) (slice_get seen n) in
      let back : i + 1 - 1 ≡ i = omega arith in
      ap (λ (b : Bool). cond b None (there (i + 1 - 1))) (ne_eqb (i + 1) 0 (λ none. omega (arith, none)))
      ∙ ap there back
      ∙ ap (option_and_then (λ (a : Analysis). option_map (λ (e : Entry). source_by i a e) (slice_get a.entries k))) at
      ∙ ap (option_map (λ (e : Entry). source_by i a e)) stands

  says_of_object : (target : Target) (origin : Origin) (n : ℕ) → target.unit ≡ length (pool_units version ns) + n → origin_at shape.units target ≡ Some origin → Says seen shape target origin
  says_of_object target origin n place is = of_source (slice_get (sources objects) n) refl (sym read ∙ is)
    where
      read : origin_at shape.units target ≡ option_and_then (λ (unit : ShapeUnit). slice_get unit.nodes target.node) (option_and_then (shape_in objects) (slice_get (sources objects) n))
      read = ap (option_and_then (λ (unit : ShapeUnit). slice_get unit.nodes target.node))
          (ap (slice_get shape.units) place ∙ slice_get_behind (pool_units version ns) own_shapes n ∙ kept_at (shape_in objects) (sources objects) n (all_shaped objects))

      of_node : (s : Source) → slice_get (sources objects) n ≡ Some s → (h : IsSource objects s) → slice_get (map (origin_of s.object h.object s.unit) (kept_entries h.object s.unit)) target.node ≡ Some origin → Says seen shape target origin
      of_node s at h there =
          let f = node_of (image s.object) h.object s.unit in
          let g = origin_of s.object h.object s.unit in
          let w = mapped_some g (slice_get (kept_entries h.object s.unit) target.node) origin (sym (slice_get-map g (kept_entries h.object s.unit) target.node) ∙ there) in
          let x = w.0 in
          let spans = code_of_unit h.object s.unit in
          let it = written_at h.object s.unit target.node x w.1 in
          let unit : slice_get (pools ++ own) target.unit ≡ Some (unit_written (image s.object) h.object s.unit h.unit) =
          ap (slice_get (pools ++ own)) (place ∙ ap (λ (m : ℕ). m + n) (sym as_many_units)) ∙ slice_get_behind pools own n
          ∙ kept_at (written image objects) (sources objects) n (all_there objects pools image) ∙ ap (option_and_then (written image objects)) at ∙ source_written objects pools image s h.object h.unit h.at h.is in
          subst (Says seen shape target) (sym w.2) (record {
            source = source_by s.object h.object.seen x.1;
            its_source = entry_source s.object x.0 h.object.seen x.1 (g x).parent (seen_at s.object h.object h.at) it.stands;
            node = f x;
            stands = ap (λ (graph : Graph). node_at graph.units target) graph_is ∙ ap (option_and_then (λ (unit : OutUnit). slice_get unit.nodes target.node)) unit
                ∙ slice_get-map f (kept_entries h.object s.unit) target.node ∙ ap (option_map f) w.1;
            tag = refl;
            parent = refl;
            unit = unit_written (image s.object) h.object s.unit h.unit;
            its_unit = ap (λ (graph : Graph). slice_get graph.units target.unit) graph_is ∙ unit;
            files = None;
            keeps_files = (h.unit, ap (slice_get h.object.seen.units) it.unit ∙ h.is, refl, refl);
            more = closing x.1 spans;
            attrs = refl;
            no_more = λ below. ap (λ (b : Bool). cond b (cond (length spans == 0) [] (closing_pair spans)) []) below;
          })

      of_source : (found : Option Source) → slice_get (sources objects) n ≡ found → option_and_then (λ (unit : ShapeUnit). slice_get unit.nodes target.node) (option_and_then (shape_in objects) found) ≡ Some origin → Says seen shape target origin
      of_source None none t = absurd (none-some origin t)
      of_source (Some s) at t =
          let h = subst (IsSource objects) (get_or_from_slice_get (sources objects) n s s at) (all_sources objects n s (slice_get_within (sources objects) n s at)) in
          of_node s at h (sym (ap (option_and_then (λ (unit : ShapeUnit). slice_get unit.nodes target.node)) (shaped objects s h.object h.unit h.at h.is)) ∙ t)

  -- ---- the unit of merged entries

  name_seen : (w : Named) (is : IsNameOf (merged odr seen live) w) → slice_get seen (w.object - 1) ≡ Some is.object.seen
  name_seen w is = by odr is.its
    where
      by : (b : Bool) → slice_get (merged b seen live) (w.object - 1) ≡ Some is.object → slice_get seen (w.object - 1) ≡ Some is.object.seen
      by true at = (object_parts seen live (w.object - 1) is.object at).0
      by false at = absurd (none-some is.object at)

  abbrev files : List SourceFile
  files = files_of seen (origins_of ns)

  abbrev made : Origin → graph_of.Source → Node
  made origin source = record {
    parent = origin.parent;
    tag = source.entry.tag;
    attrs = attrs_written (image source.object) (Some (number_among files source.seen source.entry.unit)) source.entry;
  }

  name_source : (w : Named) (is : IsNameOf (merged odr seen live) w) → source_of seen (pool_origin ns w) ≡ Some (source_by (w.object - 1) is.object.seen is.entry)
  name_source w is =
      let back : w.object - 1 + 1 ≡ w.object = omega (arith, is.counted) in
      ap (λ (n : ℕ). source_of seen (record { object = n; entry = w.entry; parent = (pool_origin ns w).parent })) (sym back)
      ∙ entry_source (w.object - 1) w.entry is.object.seen is.entry (pool_origin ns w).parent (name_seen w is) is.stands

  pub all_are_names : All (IsNameOf (merged odr seen live)) (pool_names ns)
  all_are_names = All-weaker (Contains (winners ns)) (IsNameOf (merged odr seen live)) (λ w wins. All-contains (IsNameOf (merged odr seen live)) ns w (all_names (merged odr seen live)) (winner_named ns w wins)) (pool_names ns) (all_win ns (length ns) [])

  all_made : All (λ origin. is_some (pool_node image seen files origin) ≡ true) (map (pool_origin ns) (pool_names ns))
  all_made = All-map (λ (origin : Origin). is_some (pool_node image seen files origin) ≡ true) (pool_origin ns) (pool_names ns)
      (All-weaker (IsNameOf (merged odr seen live)) (λ w. is_some (pool_node image seen files (pool_origin ns w)) ≡ true) (λ w is. ap (λ (found : Option graph_of.Source). is_some (option_map (made (pool_origin ns w)) found)) (name_source w is)) (pool_names ns) all_are_names)

  -- the files of an entry that is merged are among those of the unit
  file_there : (n : ℕ) (w : Named) (is : IsNameOf (merged odr seen live) w) → slice_get (pool_names ns) n ≡ Some w → (file : SourceFile) → Contains (files_named is.object.seen is.entry) file → Contains files file
  file_there n w is at file has =
      let source = source_by (w.object - 1) is.object.seen is.entry in
      let origin : Contains (origins_of ns) (pool_origin ns w) = later_in pool_root (map (pool_origin ns) (pool_names ns)) (pool_origin ns w)
      (in_at (map (pool_origin ns) (pool_names ns)) n (pool_origin ns w) (slice_get-map (pool_origin ns) (pool_names ns) n ∙ ap (option_map (pool_origin ns)) at)) in
      once_has same_file files_tell (flat_map (λ source. files_named source.seen source.entry) (filter_map (source_of seen) (origins_of ns))) file
      (in_flat_map (λ (source : graph_of.Source). files_named source.seen source.entry) (filter_map (source_of seen) (origins_of ns)) source file
      (in_filter_map (source_of seen) (origins_of ns) (pool_origin ns w) source origin (name_source w is)) has)

  says_of_name : (target : Target) (origin : Origin) (n : ℕ) → slice_get (pools ++ own) target.unit ≡ Some (pool_unit image seen version (origins_of ns)) → target.node ≡ suc n → slice_get (map (pool_origin ns) (pool_names ns)) n ≡ Some origin → Says seen shape target origin
  says_of_name target origin n unit place there =
      let v = mapped_some (pool_origin ns) (slice_get (pool_names ns) n) origin (sym (slice_get-map (pool_origin ns) (pool_names ns) n) ∙ there) in
      let w = v.0 in
      let is = subst (IsNameOf (merged odr seen live)) (get_or_from_slice_get (pool_names ns) n w w v.1) (all_are_names n w (slice_get_within (pool_names ns) n w v.1)) in
      let source = source_by (w.object - 1) is.object.seen is.entry in
      subst (Says seen shape target) (sym v.2) (record {
        source = source;
        its_source = name_source w is;
        node = made (pool_origin ns w) source;
        stands = ap (λ (graph : Graph). node_at graph.units target) graph_is ∙ ap (option_and_then (λ (unit : OutUnit). slice_get unit.nodes target.node)) unit
            ∙ ap (slice_get (pool_unit image seen version (origins_of ns)).nodes) place
            ∙ kept_at (pool_node image seen files) (map (pool_origin ns) (pool_names ns)) n all_made
            ∙ ap (option_and_then (pool_node image seen files)) (slice_get-map (pool_origin ns) (pool_names ns) n ∙ ap (option_map (pool_origin ns)) v.1)
            ∙ ap (option_map (made (pool_origin ns w))) (name_source w is);
        tag = refl;
        parent = refl;
        unit = pool_unit image seen version (origins_of ns);
        its_unit = ap (λ (graph : Graph). slice_get graph.units target.unit) graph_is ∙ unit;
        files = Some (number_among files is.object.seen is.entry.unit);
        keeps_files = λ a form m has name value. becomes files (pool_unit image seen version (origins_of ns)) refl is.object.seen is.entry.unit m (λ file named. file_there n w is v.1 file (file_of_entry is.object.seen is.entry a form m file has name value named));
        more = [];
        attrs = sym (append-nil (attrs_written (image (w.object - 1)) (Some (number_among files is.object.seen is.entry.unit)) is.entry));
        no_more = λ below. refl;
      })

  -- the root stands for no entry
  says_of_pool : (target : Target) (origin : Origin) → slice_get (pools ++ own) target.unit ≡ Some (pool_unit image seen version (origins_of ns)) → (origin.object ≡ 0 → ⊥) → (node : ℕ) → target.node ≡ node → slice_get (origins_of ns) node ≡ Some origin → Says seen shape target origin
  says_of_pool target origin unit entry zero place there = absurd (entry (ap (λ (x : Origin). x.object) (sym (same_Some _ origin there))))
  says_of_pool target origin unit entry (suc n) place there = says_of_name target origin n unit place there

  -- ---- all units

  first_of : (ns : List Named) (target : Target) (others : List ShapeUnit) (more : List OutUnit) → target.unit < length (pool_units version ns)
      → (slice_get (pool_units version ns ++ others) target.unit ≡ Some (pool_shape version ns)) × (slice_get (pool_made image seen version ns ++ more) target.unit ≡ Some (pool_unit image seen version (origins_of ns)))
  first_of [] target others more lt = absurd (omega (arith, lt))
  first_of (n ∷ ns) target others more lt =
      let first : target.unit ≡ 0 = omega (arith, lt) in
      (ap (slice_get (pool_units version (n ∷ ns) ++ others)) first, ap (slice_get (pool_made image seen version (n ∷ ns) ++ more)) first)

  pub nodes_say : (target : Target) (origin : Origin) → origin_at shape.units target ≡ Some origin → (origin.object ≡ 0 → ⊥) → Says seen shape target origin
  nodes_say target origin is entry = elim (cases_lt target.unit (length (pool_units version ns))) [
    | inl lt ↦ (
        let first = first_of ns target own_shapes own lt in
        says_of_pool target origin first.1 entry target.node refl (sym (ap (option_and_then (λ (unit : ShapeUnit). slice_get unit.nodes target.node)) first.0) ∙ is))
    | inr le ↦ says_of_object target origin (target.unit - length (pool_units version ns)) (omega (arith, le)) is
  ]
