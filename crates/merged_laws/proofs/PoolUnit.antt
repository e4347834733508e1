-- The unit of merged entries is well.
use Rattle.std.proofs.Common.{◌≡◌, ◌⊎◌, ℕ, ◌+◌, ◌-◌, ◌^◌, ◌<◌, ◌&&◌, Bool, true, false, cond, List, [], ◌∷◌, length, map, slice_get, Option, Some, None, refl, sym, ap, subst, ◌∙◌, arith}
use Rattle.std.specs.Prelude.{nat_lt, codes}
use Rattle.std.specs.List.{All, AllPairs, Contains, cons_option, filter_map, flat_map, list_all}
use Rattle.std.specs.Option.{option_and_then, option_map, unwrap_or}
use Rattle.std.proofs.lemmas.Bool.{ltb-true, ne_eqb}
use Rattle.std.proofs.lemmas.List.{length-map}
use Rattle.std.proofs.lemmas.List.Elements.{All-cons, All-contains, All-head, All-map, All-nil, All-tail, All-weaker}
use Rattle.std.proofs.lemmas.Option.{get_or_from_slice_get, same_Some, slice_get_within}
use Rattle.ds_base.specs.DwarfNumbers.{DW_AT_language, DW_AT_name, DW_AT_stmt_list, DW_FORM_data2, DW_LANG_C_plus_plus}
use Rattle.dwarf_types.specs.declared.analysis.Analysis.{Analysis}
use Rattle.dwarf_types.specs.declared.entry.Attr.{Attr}
use Rattle.dwarf_types.specs.declared.entry.Entry.{Entry}
use Rattle.dwarf_types.specs.declared.graph.Graph.{Graph}
use Rattle.dwarf_types.specs.declared.graph.Node.{Node}
use Rattle.dwarf_types.specs.declared.graph.OutAttr.{OutAttr}
use Rattle.dwarf_types.specs.declared.graph.OutUnit.{OutUnit}
use Rattle.dwarf_types.specs.declared.graph.OutValue.TheVariants as out
use Rattle.dwarf_types.specs.declared.graph.Target.{Target}
use Rattle.dwarf_types.specs.declared.shape.Origin.{Origin}
use Rattle.dwarf_types.specs.LinkedValues.{attrs_written}
use Rattle.dwarf_types.specs.Live.{op_bases, operations_of}
use Rattle.dwarf_types.specs.Sound.{IsSound}
use Rattle.dwarf_types.specs.Spelled.{AreTextBytes}
use Rattle.dwarf_types.specs.Well.{IsWellUnit}
use Rattle.dwarf_types.specs.WellNodes.{IsAttribute, IsNode, IsPreorderParent, has_lines}
use Rattle.dwarf_types.specs.WellRoots.{without_ranges}
use Rattle.dwarf_types.specs.WellValues.{IsSpan, IsTarget, in_data2}
use Rattle.link_graph.specs.Graph.{Source, files_of, pool_node, pool_root_node, pool_unit, source_of}
use Rattle.link_graph.specs.Merged.{pool_origin}
use Rattle.link_graph.specs.Pool.{node_above, pool_names, winners}
use Rattle.link_graph.specs.PoolFiles.{SourceFile, files_named, number_among, same_file}
use Rattle.link_graph.proofs.Gathered.{All-filter_map, All-flat_map}
use Rattle.linked_laws.specs.Spellable.{IsSpellable, IsSpellableEntry, version_of}
use Rattle.linked_laws.proofs.Attributes.{Allows, BaseGoes, attributes_hold}
use Rattle.type_names.specs.Entries.{is_field}
use Rattle.type_names.specs.Heads.{Object, entries_of}
use Rattle.type_names.specs.Names.{Named, names}
use Rattle.type_names.proofs.Pooling.{sound_parents}
use Rattle.merged_laws.proofs.Files.{IsSourceFile, named_files, number_fits, once_all, table_holds}
use Rattle.merged_laws.proofs.Names.{IsNameOf, all_names, winner_named}
use Rattle.merged_laws.proofs.OpenAbove.{no_field}
use Rattle.merged_laws.proofs.PathTree.{all_win}
use Rattle.merged_laws.proofs.Plain.{and_parts}
use Rattle.merged_laws.proofs.PoolOrder.{pool_preorder}
use Rattle.merged_laws.proofs.Told.{origins_of}
use Rattle.merged_laws.proofs.Untied.{no_bases, no_lines, none_pass}

-- ---- the root

text_by : (bytes : List ℕ) → list_all (λ b. nat_lt 0 b && nat_lt b 256) bytes ≡ true → AreTextBytes bytes
text_by [] is = tt
text_by (b ∷ bytes) is =
    let parts = and_parts (nat_lt 0 b && nat_lt b 256) (list_all (λ b. nat_lt 0 b && nat_lt b 256) bytes) is in
    let own = and_parts (nat_lt 0 b) (nat_lt b 256) parts.0 in
    ((ltb-true 0 b own.0, ltb-true b 256 own.1), text_by bytes parts.1)

root_node : (graph : Graph) (version : ℕ) (nodes : List Node) → IsNode (IsTarget graph) version nodes pool_root_node
root_node graph version nodes =
    let P : OutAttr → Type 0 = IsAttribute (IsTarget graph) version nodes in
    let name : OutAttr = record { name = DW_AT_name; value = out.Text (codes "__artificial_type_unit") } in
    let language : OutAttr = record { name = DW_AT_language; value = out.Number DW_FORM_data2 DW_LANG_C_plus_plus } in
    let lines : OutAttr = record { name = DW_AT_stmt_list; value = out.Lines } in
    record {
      some = omega arith;
      fits = omega arith;
      attrs = All-cons P name (language ∷ lines ∷ []) (record { some = omega arith; fits = omega arith; kept = refl; value = text_by (codes "__artificial_type_unit") refl; stands = tt })
          (All-cons P language (lines ∷ []) (record { some = omega arith; fits = omega arith; kept = refl; value = in_data2 refl (omega arith); stands = tt })
          (All-cons P lines [] (record { some = omega arith; fits = omega arith; kept = refl; value = tt; stands = tt }) (All-nil P)));
    }

mapped_all : {A B C : Type 0} (g : B → Option C) (h : A → B) (f : A → C) (xs : List A) → All (λ x. g (h x) ≡ Some (f x)) xs → filter_map g (map h xs) ≡ map f xs
mapped_all g h f [] each = refl
mapped_all {C = C} g h f (x ∷ xs) each =
    ap (λ (o : Option C). cons_option o (filter_map g (map h xs))) (All-head (λ x. g (h x) ≡ Some (f x)) x xs each)
    ∙ ap (λ (ys : List C). f x ∷ ys) (mapped_all g h f xs (All-tail (λ x. g (h x) ≡ Some (f x)) x xs each))

-- an object of a link, which is one of its analyses
pub record IsOne (seen : List Analysis) (i : ℕ) (o : Object) : Type 0 where
  pub at : slice_get seen i ≡ Some o.seen
  pub sound : IsSound o.seen
  pub given : IsSpellable o.seen

module _ (seen : List Analysis) (objects : List Object) (each : (i : ℕ) (o : Object) → slice_get objects i ≡ Some o → IsOne seen i o) (image : ℕ → ℕ → Option Target) (version : ℕ)
    (allows : (w : Named) (is : IsNameOf objects w) → Allows (version_of is.object.seen.units is.entry.unit) version)
  where
    abbrev ns : List Named
    ns = names objects

    abbrev all : List Named
    all = pool_names ns

    abbrev files : List SourceFile
    files = files_of seen (origins_of ns)

    -- ---- nodes

    abbrev made : Origin → Source → Node
    made origin source = record {
      parent = origin.parent;
      tag = source.entry.tag;
      attrs = attrs_written (image source.object) (Some (number_among files source.seen source.entry.unit)) source.entry;
    }

    abbrev f : Named → Node
    f w = unwrap_or (pool_node image seen files (pool_origin ns w)) (record { parent = node_above ns w.path; tag = 0; attrs = [] })

    parent_is : (w : Named) → (f w).parent ≡ node_above ns w.path
    parent_is w = go (source_of seen (pool_origin ns w))
      where
        go : (found : Option Source) → (unwrap_or (option_map (made (pool_origin ns w)) found) (record { parent = node_above ns w.path; tag = 0; attrs = [] })).parent ≡ node_above ns w.path
        go None = refl
        go (Some source) = refl

    abbrev its_source : (w : Named) → IsNameOf objects w → Source
    its_source w is = record { object = w.object - 1; seen = is.object.seen; entry = is.entry }

    -- the entry of a name
    source_is : (w : Named) (is : IsNameOf objects w) → source_of seen (pool_origin ns w) ≡ Some (its_source w is)
    source_is w is =
        let there : Analysis → Option Source = λ seen. option_map (λ e. record { object = w.object - 1; seen = seen; entry = e }) (slice_get seen.entries w.entry) in
        ap (λ (b : Bool). cond b None (option_and_then there (slice_get seen (w.object - 1)))) (ne_eqb w.object 0 (λ none. omega (arith, none, is.counted)))
        ∙ ap (option_and_then there) (each (w.object - 1) is.object is.its).at
        ∙ ap (option_map (λ (e : Entry). record { object = w.object - 1; seen = is.object.seen; entry = e })) is.stands

    node_is : (w : Named) (is : IsNameOf objects w) → pool_node image seen files (pool_origin ns w) ≡ Some (made (pool_origin ns w) (its_source w is))
    node_is w is = ap (option_map (made (pool_origin ns w))) (source_is w is)

    f_is : (w : Named) (is : IsNameOf objects w) → f w ≡ made (pool_origin ns w) (its_source w is)
    f_is w is = ap (λ (o : Option Node). unwrap_or o (record { parent = node_above ns w.path; tag = 0; attrs = [] })) (node_is w is)

    all_are_names : All (IsNameOf objects) all
    all_are_names = All-weaker (Contains (winners ns)) (IsNameOf objects) (λ w wins. All-contains (IsNameOf objects) ns w (all_names objects) (winner_named ns w wins)) all (all_win ns (length ns) [])

    abbrev nodes : List Node
    nodes = pool_root_node ∷ map f all

    nodes_are : (pool_unit image seen version (origins_of ns)).nodes ≡ nodes
    nodes_are = ap (λ (below : List Node). pool_root_node ∷ below) (mapped_all (pool_node image seen files) (pool_origin ns) f all (All-weaker (IsNameOf objects) (λ w. pool_node image seen files (pool_origin ns w) ≡ Some (f w)) (λ w is. node_is w is ∙ ap (λ (n : Node). Some n) (sym (f_is w is))) all all_are_names))

    -- ---- what they say

    fields : (w : Named) (is : IsNameOf objects w) → All (λ a. is_field a.value ≡ false) is.entry.attrs
    fields w is =
        let o = is.object in
        none_pass (λ (a : Attr). is_field a.value) is.entry.attrs (no_field o w.entry is.entry (sound_parents o.seen (each (w.object - 1) o is.its).sound) is.stands is.pooled)

    given_of : (w : Named) (is : IsNameOf objects w) → IsSpellableEntry (version_of is.object.seen.units is.entry.unit) is.entry
    given_of w is = subst (λ (e : Entry). IsSpellableEntry (version_of is.object.seen.units e.unit) e) (get_or_from_slice_get (entries_of is.object) w.entry is.entry is.entry is.stands) ((each (w.object - 1) is.object is.its).given.entries w.entry is.entry (slice_get_within (entries_of is.object) w.entry is.entry is.stands))

    -- ---- the line table

    abbrev HasFiles : Source → Type 0
    HasFiles source = All (IsSourceFile version) (files_named source.seen source.entry)

    sources_hold : All HasFiles (filter_map (source_of seen) (map (pool_origin ns) all))
    sources_hold = All-filter_map HasFiles (source_of seen) (map (pool_origin ns) all)
        (All-map (λ (origin : Origin). (y : Source) → source_of seen origin ≡ Some y → HasFiles y) (pool_origin ns) all
        (All-weaker (IsNameOf objects) (λ w. (y : Source) → source_of seen (pool_origin ns w) ≡ Some y → HasFiles y)
        (λ w is y found. subst HasFiles (same_Some (its_source w is) y (sym (source_is w is) ∙ found)) (named_files is.object.seen (each (w.object - 1) is.object is.its).given version is.entry (allows w is))) all all_are_names))

    files_hold : All (IsSourceFile version) files
    files_hold = once_all (IsSourceFile version) same_file (flat_map (λ (source : Source). files_named source.seen source.entry) (filter_map (source_of seen) (map (pool_origin ns) all)))
        (All-flat_map (IsSourceFile version) (λ (source : Source). files_named source.seen source.entry) (filter_map (source_of seen) (map (pool_origin ns) all)) sources_hold)

    -- ---- the unit

    abbrev unit : OutUnit
    unit = pool_unit image seen version (origins_of ns)

    -- it has as many nodes
    pub pool_long : length unit.nodes ≡ length all + 1
    pool_long = ap length nodes_are ∙ (let long = length-map all f in omega (arith, long))

    module _ (bids : AllPairs (λ a b. a.bid ≡ b.bid → ⊥) ns) (graph : Graph) (targets : (i k : ℕ) (target : Target) → image i k ≡ Some target → IsTarget graph target) (few : length files < 2 ^ 64) (known : (version ≡ 4) ⊎ (version ≡ 5)) where
      name_node : (w : Named) → IsNameOf objects w → IsNode (IsTarget graph) version nodes (f w)
      name_node w is =
          let given = given_of w is in
          let at = image (w.object - 1) in
          let number = number_among files is.object.seen is.entry.unit in
          let goes : All (λ a. All (BaseGoes at graph nodes) (flat_map op_bases (operations_of a.value))) is.entry.attrs = All-weaker (λ (a : Attr). is_field a.value ≡ false) (λ a. All (BaseGoes at graph nodes) (flat_map op_bases (operations_of a.value)))
          (λ a none. subst (All (BaseGoes at graph nodes)) (sym (no_bases a.value none)) (All-nil (BaseGoes at graph nodes))) is.entry.attrs (fields w is) in
          subst (IsNode (IsTarget graph) version nodes) (sym (f_is w is)) (record {
            some = given.some;
            fits = given.fits;
            attrs = attributes_hold at graph nodes (version_of is.object.seen.units is.entry.unit) version (allows w is) (Some number) (number_fits files few is.object.seen is.entry.unit) is.entry given.attrs (λ k d lt j target sibling found gone. targets (w.object - 1) j target gone) goes;
          })

      name_lines : (w : Named) → IsNameOf objects w → has_lines (f w) ≡ false
      name_lines w is =
          let o = is.object in
          ap has_lines (f_is w is) ∙ no_lines (image (w.object - 1)) is.entry (number_among files o.seen is.entry.unit) (no_field o w.entry is.entry (sound_parents o.seen (each (w.object - 1) o is.its).sound) is.stands is.pooled)

      pub pool_well : IsWellUnit (IsTarget graph) unit
      pool_well = record {
        version = known;
        root = pool_root_node;
        below = map f all;
        nodes = nodes_are;
        is_root = record { parent = refl; tag = refl; whole = refl; ends = without_ranges refl refl; stmt_list = refl; lines = refl };
        preorder = λ k node at. subst (λ (ns : List Node). IsPreorderParent ns k node.parent) (sym nodes_are) (pool_preorder ns bids pool_root_node f parent_is k node at);
        no_lines = All-map (λ (node : Node). has_lines node ≡ false) f all (All-weaker (IsNameOf objects) (λ w. has_lines (f w) ≡ false) name_lines all all_are_names);
        each = subst (λ (ns : List Node). All (IsNode (IsTarget graph) version ns) ns) (sym nodes_are)
            (All-cons (IsNode (IsTarget graph) version nodes) pool_root_node (map f all) (root_node graph version nodes) (All-map (IsNode (IsTarget graph) version nodes) f all (All-weaker (IsNameOf objects) (λ w. IsNode (IsTarget graph) version nodes (f w)) name_node all all_are_names)));
        lines = table_holds version files few files_hold;
        ranges = All-nil IsSpan;
      }
