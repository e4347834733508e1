-- Each node of a link stands for a live entry, and no two to which references lead for one.
use Rattle.std.proofs.Common.{◌≡◌, ◌⊎◌, inl, inr, ℕ, zero, suc, ◌+◌, ◌-◌, ◌^◌, ◌<◌, ◌≤◌, ◌&&◌, Bool, true, false, cond, List, [], ◌∷◌, ◌++◌, length, map, get_or, slice_get, Option, Some, refl, sym, ap, subst, ◌∙◌, arith}
use Rattle.std.specs.List.{All, AllPairs, position}
use Rattle.std.specs.Option.{option_and_then, option_map}
use Rattle.std.proofs.lemmas.Bool.{cases_lt, cases_order}
use Rattle.std.proofs.lemmas.List.Quantifiers.{position-Some}
use Rattle.std.proofs.lemmas.Option.{get_or_from_slice_get, none-some, same_Some, slice_get-get_or, slice_get-map, slice_get_within}
use Rattle.dwarf_types.specs.declared.analysis.Analysis.{Analysis}
use Rattle.dwarf_types.specs.declared.entry.Entry.{Entry}
use Rattle.dwarf_types.specs.declared.graph.Target.{Target}
use Rattle.dwarf_types.specs.declared.shape.Origin.{Origin}
use Rattle.dwarf_types.specs.declared.shape.Shape.{Shape}
use Rattle.dwarf_types.specs.declared.shape.ShapeUnit.{ShapeUnit}
use Rattle.dwarf_types.specs.LinkedUnits.{plain_target}
use Rattle.dwarf_types.specs.LinkedUnits as linked_units
use Rattle.dwarf_types.specs.Sound.{IsSound}
use Rattle.dwarf_types.specs.Tree.{ParentsStandBefore}
use Rattle.link_graph.specs.Graph.{image_of, pool_version}
use Rattle.link_graph.specs.Merged.{kept_object, kept_objects, linked_names, object_units, pool_count, pool_origin, pool_units, shape_of}
use Rattle.link_graph.specs.Pool.{node_of_path, pool_names, same_path}
use Rattle.linked_laws.specs.Nodes.{origin_at}
use Rattle.linked_laws.proofs.Attributes.{mapped_some}
use Rattle.linked_laws.proofs.Places.{node_of_one}
use Rattle.odr_names.specs.Numbered.{merged, objects_of}
use Rattle.odr_names.specs.Making.{AreLiveRows}
use Rattle.type_names.specs.Heads.{Object, entries_of, is_pooled}
use Rattle.type_names.specs.Names.{Named}
use Rattle.type_names.specs.Paths.{Piece, path_of}
use Rattle.type_names.proofs.Pooling.{sound_parents}
use Rattle.merged_laws.specs.Leads.{IsLiveEntry}
use Rattle.merged_laws.specs.Stands.{IsLedTo, IsOfLiveEntry, IsParted}
use Rattle.merged_laws.proofs.Leads.{as_many, image_is, own_image, some_path, target_by}
use Rattle.merged_laws.proofs.Names.{IsNameOf, paths_same}
use Rattle.merged_laws.proofs.Nodes.{IsGood, merged_good, node_there, objects_good, one_node}
use Rattle.merged_laws.proofs.Members.{in_at}
use Rattle.merged_laws.proofs.PathTree.{Differs}
use Rattle.merged_laws.proofs.Plain.{and_made, kept_holds, kept_live, kept_namespace}
use Rattle.merged_laws.proofs.Says.{all_are_names}
use Rattle.merged_laws.proofs.Told.{origins_of}
use Rattle.merged_laws.proofs.Versions.{pooled_live}

-- ---- the first place of a path

-- of names with different paths each is the first of its path
first_of_path : (ws : List Named) (w : Named) (p : Piece) (path : List Piece) (n m : ℕ) → AllPairs Differs ws → slice_get ws n ≡ Some w → w.path ≡ p ∷ path → position (λ v. same_path v.path (p ∷ path)) ws ≡ Some m → m ≡ n
first_of_path ws w p path n m apart at is found =
    let first = position-Some (λ v. same_path v.path (p ∷ path)) ws m w found in
    let here : (get_or ws m w).path ≡ p ∷ path = paths_same (get_or ws m w).path (p ∷ path) first.1 in
    let there : (get_or ws n w).path ≡ p ∷ path = ap (λ (v : Named). v.path) (get_or_from_slice_get ws n w w at) ∙ is in
    elim (cases_order m n) [
      | inl same ↦ same
      | inr x ↦ elim x [
        | inl before ↦ absurd (apart m n w before (slice_get_within ws n w at) (here ∙ sym there))
        | inr behind ↦ absurd (apart n m w behind first.0 (there ∙ sym here))
      ]
    ]

node_by : (ns : List Named) (w : Named) (path : List Piece) (n m : ℕ) → AllPairs Differs (pool_names ns) → slice_get (pool_names ns) n ≡ Some w → w.path ≡ path → (path ≡ [] → ⊥) → node_of_path ns path ≡ Some m → m ≡ suc n
node_by ns w [] n m apart at is some found = absurd (some refl)
node_by ns w (p ∷ path) n m apart at is some found =
    let x = mapped_some (λ (i : ℕ). i + 1) (position (λ v. same_path v.path (p ∷ path)) (pool_names ns)) m found in
    let first = first_of_path (pool_names ns) w p path n x.0 apart at is x.1 in
    omega (arith, first, x.2)

-- ---- the units of merged entries

-- a node of theirs is the root, or stands for a name
record IsOfName (ns : List Named) (target : Target) (origin : Origin) : Type 0 where
  number : ℕ
  name : Named
  there : slice_get (pool_names ns) number ≡ Some name
  is : origin ≡ pool_origin ns name
  place : target ≡ target_by 0 (suc number)

-- the root of their unit
record IsRoot (target : Target) (origin : Origin) : Type 0 where
  none : origin.object ≡ 0
  first : target ≡ target_by 0 0

same_target : (target : Target) (unit node : ℕ) → target.unit ≡ unit → target.node ≡ node → target ≡ target_by unit node
same_target target unit node u n = ap (λ (m : ℕ). target_by m target.node) u ∙ ap (λ (m : ℕ). target_by unit m) n

module _ (version : ℕ) (others : List ShapeUnit) (target : Target) (origin : Origin) where
  pool_node : (ns : List Named) → target.unit < length (pool_units version ns) → origin_at (pool_units version ns ++ others) target ≡ Some origin → IsRoot target origin ⊎ IsOfName ns target origin
  pool_node [] lt is = absurd (omega (arith, lt))
  pool_node (w ∷ ws) lt is = at_node target.node refl (sym (ap (λ (us : Option ShapeUnit). option_and_then (λ (unit : ShapeUnit). slice_get unit.nodes target.node) us) (ap (slice_get (pool_units version (w ∷ ws) ++ others)) first)) ∙ is)
    where
      first : target.unit ≡ 0
      first = omega (arith, lt)

      at_node : (node : ℕ) → target.node ≡ node → slice_get (origins_of (w ∷ ws)) target.node ≡ Some origin → IsRoot target origin ⊎ IsOfName (w ∷ ws) target origin
      at_node zero place at = inl (record { none = ap (λ (x : Origin). x.object) (sym (same_Some _ origin (sym (ap (slice_get (origins_of (w ∷ ws))) place) ∙ at))); first = same_target target 0 0 first place })
      at_node (suc n) place at =
          let behind : slice_get (map (pool_origin (w ∷ ws)) (pool_names (w ∷ ws))) n ≡ Some origin = sym (ap (slice_get (origins_of (w ∷ ws))) place) ∙ at in
          let v = mapped_some (pool_origin (w ∷ ws)) (slice_get (pool_names (w ∷ ws)) n) origin (sym (slice_get-map (pool_origin (w ∷ ws)) (pool_names (w ∷ ws)) n) ∙ behind) in
          inr (record { number = n; name = v.0; there = v.1; is = v.2; place = same_target target 0 (suc n) first place })

-- ---- a link

module _ (odr : Bool) (seen : List Analysis) (live : List (List Bool)) (few : length seen < 2 ^ 16) (sound : All IsSound seen) (rows : AreLiveRows seen live) where
  abbrev shape : Shape
  shape = shape_of odr seen live

  abbrev ns : List Named
  ns = linked_names odr seen live

  abbrev objects : List linked_units.Object
  objects = kept_objects odr seen live

  abbrev version : ℕ
  version = pool_version (object_units odr seen live)

  -- what is known of a node: references to its entry lead to it, or it is the entry's own, which is a merged namespace
  record IsOf (target : Target) (origin : Origin) : Type 0 where
    object : ℕ
    counted : origin.object ≡ object + 1
    o : Object
    e : Entry
    is : IsLiveEntry seen live object origin.entry o e
    why : IsLedTo odr seen live target origin object ⊎ (IsParted odr seen live origin.entry o e × (plain_target (pool_count ns) objects object origin.entry ≡ Some target))

  -- ---- nodes of names

  in_link : (i : ℕ) (o : Object) → slice_get (merged odr seen live) i ≡ Some o → (odr ≡ true) × (slice_get (objects_of seen live) i ≡ Some o)
  in_link i o at = by odr at
    where
      by : (b : Bool) → slice_get (merged b seen live) i ≡ Some o → (b ≡ true) × (slice_get (objects_of seen live) i ≡ Some o)
      by true at = (refl, at)
      by false at = absurd (none-some o at)

  of_name : (target : Target) (origin : Origin) → IsOfName ns target origin → IsOf target origin
  of_name target origin it =
      let w = it.name in
      let name = subst (IsNameOf (merged odr seen live)) (get_or_from_slice_get (pool_names ns) it.number w w it.there) (all_are_names odr seen live it.number w (slice_get_within (pool_names ns) it.number w it.there)) in
      let i = w.object - 1 in
      let counted : w.object ≡ i + 1 = omega (arith, name.counted) in
      let link = in_link i name.object name.its in
      let good = objects_good seen live sound rows i name.object link.1 in
      let lives = pooled_live name.object w.entry (sound_parents name.object.seen good.sound) good.lives name.pooled in
      let entry : IsLiveEntry seen live i w.entry name.object name.entry = record { object = link.1; stands = name.stands; lives = (good.row.exact w.entry).0 lives } in
      let merges : (odr && is_pooled name.object w.entry) ≡ true = and_made odr (is_pooled name.object w.entry) link.0 name.pooled in
      let path : w.path ≡ path_of (i + 1) name.object w.entry = ap (λ (v : Named). v.path) name.is ∙ ap (λ (n : ℕ). path_of n name.object w.entry) counted in
      let some = some_path odr seen live sound rows i w.entry name.object name.entry entry name.pooled in
      let node = node_there (merged odr seen live) (merged_good odr seen live sound rows) (path_of (i + 1) name.object w.entry) w (in_at (pool_names ns) it.number w it.there) path in
      let number = node_by ns w (path_of (i + 1) name.object w.entry) it.number node.0 (one_node odr seen live few sound rows) it.there path some node.1 in
      let image : image_of shape i w.entry ≡ Some target =
      image_is odr seen live sound rows i w.entry name.object name.entry entry
      ∙ ap (λ (b : Bool). cond b (option_map (target_by 0) (node_of_path ns (path_of (i + 1) name.object w.entry))) (plain_target (pool_count ns) objects i w.entry)) merges
      ∙ ap (option_map (target_by 0)) node.1 ∙ ap (λ (m : ℕ). Some (target_by 0 m)) number ∙ ap (λ (t : Target). Some t) (sym it.place) in
      record {
        object = i;
        counted = ap (λ (x : Origin). x.object) it.is ∙ counted;
        o = name.object;
        e = name.entry;
        is = subst (λ (n : ℕ). IsLiveEntry seen live i n name.object name.entry) (sym (ap (λ (x : Origin). x.entry) it.is)) entry;
        why = inl (ap (λ (x : Origin). image_of shape i x.entry) it.is ∙ image);
      }

  -- ---- nodes of units of objects

  all_sound : All (λ o. IsSound o.seen) objects
  all_sound i d lt =
      let at : slice_get objects i ≡ Some (get_or objects i d) = slice_get-get_or objects i d lt in
      let w = mapped_some (kept_object odr) (slice_get (objects_of seen live) i) (get_or objects i d) (sym (slice_get-map (kept_object odr) (objects_of seen live) i) ∙ at) in
      subst (λ (o : linked_units.Object). IsSound o.seen) (sym w.2) (objects_good seen live sound rows i w.0 w.1).sound

  of_object : (target : Target) (origin : Origin) → length (pool_units version ns) ≤ target.unit → origin_at shape.units target ≡ Some origin → IsOf target origin
  of_object target origin behind is =
      let it = node_of_one objects (pool_units version ns) all_sound (target.unit - length (pool_units version ns)) target origin (omega (arith, behind)) is in
      let i = it.object in
      let k = origin.entry in
      let w = mapped_some (kept_object odr) (slice_get (objects_of seen live) i) it.o (sym (slice_get-map (kept_object odr) (objects_of seen live) i) ∙ it.is.object) in
      let good = objects_good seen live sound rows i w.0 w.1 in
      let before = sound_parents w.0.seen good.sound in
      let stands : slice_get (entries_of w.0) k ≡ Some it.e = ap (λ (o : linked_units.Object). slice_get o.seen.entries k) (sym w.2) ∙ it.is.stands in
      let kept : linked_units.is_kept (kept_object odr w.0) k ≡ true = ap (λ (o : linked_units.Object). linked_units.is_kept o k) (sym w.2) ∙ it.is.kept in
      let entry : IsLiveEntry seen live i k w.0 it.e = record { object = w.1; stands = stands; lives = (good.row.exact k).0 (kept_live odr w.0 k it.e before good.lives stands kept) } in
      let plain : plain_target (pool_count ns) objects i k ≡ Some target = ap (λ (first : ℕ). plain_target first objects i k) (sym (as_many version ns)) ∙ it.leads in
      record { object = i; counted = it.counted; o = w.0; e = it.e; is = entry; why = decide w.0 it.e i good before entry kept plain (odr && is_pooled w.0 k) refl }
    where
      decide : (o : Object) (e : Entry) (i : ℕ) → IsGood o → ParentsStandBefore (entries_of o) → IsLiveEntry seen live i origin.entry o e → linked_units.is_kept (kept_object odr o) origin.entry ≡ true → plain_target (pool_count ns) objects i origin.entry ≡ Some target
          → (b : Bool) → (odr && is_pooled o origin.entry) ≡ b → IsLedTo odr seen live target origin i ⊎ (IsParted odr seen live origin.entry o e × (plain_target (pool_count ns) objects i origin.entry ≡ Some target))
      decide o e i good before entry kept plain false own = inl (own_image odr seen live sound rows i origin.entry o e entry own ∙ plain)
      decide o e i good before entry kept plain true merges =
          let h = kept_holds odr o origin.entry e before entry.stands kept in
          inr (
            record {
              merged = merges;
              namespace = kept_namespace odr o origin.entry e entry.stands kept merges;
              below = h.number;
              inside = h.inside;
              lives = (good.row.exact h.number).0 h.lives;
              alone = h.own;
            },
            plain,
          )

  -- ---- all nodes

  of_any : (target : Target) (origin : Origin) → origin_at shape.units target ≡ Some origin → IsRoot target origin ⊎ IsOf target origin
  of_any target origin is = elim (cases_lt target.unit (length (pool_units version ns))) [
    | inl lt ↦ elim (pool_node version (object_units odr seen live) target origin ns lt is) [ inl root ↦ inl root | inr name ↦ inr (of_name target origin name) ]
    | inr le ↦ inr (of_object target origin le is)
  ]

  pub stands_for : (target : Target) (origin : Origin) → origin_at shape.units target ≡ Some origin → (origin.object ≡ 0 → ⊥) → IsOfLiveEntry odr seen live target origin
  stands_for target origin is some = elim (of_any target origin is) [
    | inl root ↦ absurd (some root.none)
    | inr it ↦ record { object = it.object; counted = it.counted; o = it.o; e = it.e; is = it.is; why = reason it.o it.e it.object it.why }
  ]
    where
      reason : (o : Object) (e : Entry) (i : ℕ) → IsLedTo odr seen live target origin i ⊎ (IsParted odr seen live origin.entry o e × (plain_target (pool_count ns) objects i origin.entry ≡ Some target)) → IsLedTo odr seen live target origin i ⊎ IsParted odr seen live origin.entry o e
      reason o e i why = elim why [ inl led ↦ inl led | inr own ↦ inr own.0 ]

  pub root_first : (target : Target) (origin : Origin) → origin_at shape.units target ≡ Some origin → origin.object ≡ 0 → target ≡ target_by 0 0
  root_first target origin is none = elim (of_any target origin is) [
    | inl root ↦ root.first
    | inr it ↦ absurd (omega (arith, none, it.counted))
  ]

  -- ---- one node

  abbrev leads : ℕ → ℕ → Target → Type 0
  leads i k t = image_of shape i k ≡ Some t

  -- where references lead to both or to none, there is one node
  one_of_two : (i k : ℕ) (a b : Target) → leads i k a ⊎ (plain_target (pool_count ns) objects i k ≡ Some a) → leads i k b ⊎ (plain_target (pool_count ns) objects i k ≡ Some b) → (leads i k a → leads i k b) → (leads i k b → leads i k a) → a ≡ b
  one_of_two i k a b at_a at_b to from = elim at_a [
    | inl led ↦ same_Some a b (sym led ∙ to led)
    | inr own_a ↦ elim at_b [
      | inl led ↦ same_Some a b (sym (from led) ∙ led)
      | inr own_b ↦ same_Some a b (sym own_a ∙ own_b)
    ]
  ]

  pub one_of_entry : (i k : ℕ) (a b : Target) (x y : Origin) → origin_at shape.units a ≡ Some x → origin_at shape.units b ≡ Some y → x.object ≡ i + 1 → y.object ≡ i + 1 → x.entry ≡ k → y.entry ≡ k → (leads i k a → leads i k b) → (leads i k b → leads i k a) → a ≡ b
  one_of_entry i k a b x y at_a at_b of_a of_b is_a is_b to from = one_of_two i k a b (known a x at_a of_a is_a) (known b y at_b of_b is_b) to from
    where
      known : (t : Target) (z : Origin) → origin_at shape.units t ≡ Some z → z.object ≡ i + 1 → z.entry ≡ k → leads i k t ⊎ (plain_target (pool_count ns) objects i k ≡ Some t)
      known t z at object entry = elim (of_any t z at) [
        | inl root ↦ absurd (omega (arith, root.none, object))
        | inr it ↦ (
            let same : it.object ≡ i = omega (arith, it.counted, object) in
            elim it.why [
              | inl led ↦ inl (subst (λ (n : ℕ). leads i n t) entry (subst (λ (m : ℕ). leads m z.entry t) same led))
              | inr own ↦ inr (subst (λ (n : ℕ). plain_target (pool_count ns) objects i n ≡ Some t) entry (subst (λ (m : ℕ). plain_target (pool_count ns) objects m z.entry ≡ Some t) same own.1))
            ])
      ]
