-- The unit of merged entries is of version 5 where one of these stands in a unit of version 5, since that unit is written too.
use Rattle.std.proofs.Common.{◌≡◌, ◌⊎◌, inl, inr, ℕ, zero, suc, ◌+◌, ◌≤◌, ◌==◌, ◌&&◌, not, Bool, true, false, cond, List, length, slice_get, Option, Some, None, is_some, refl, sym, ap, subst, ◌∙◌, arith}
use Rattle.std.specs.List.{Contains, enumerate_from, filter_map, list_any}
use Rattle.std.specs.Option.{option_and_then, option_map, option_map_or}
use Rattle.std.proofs.lemmas.Bool.{both_ways, eq-eqb, ne_eqb}
use Rattle.std.proofs.lemmas.Option.{get_or_from_slice_get, same_Some, slice_get-map, slice_get_within}
use Rattle.dwarf_types.specs.declared.analysis.Analysis.{Analysis}
use Rattle.dwarf_types.specs.declared.entry.Entry.{Entry}
use Rattle.dwarf_types.specs.declared.entry.InUnit.{InUnit}
use Rattle.dwarf_types.specs.declared.shape.ShapeUnit.{ShapeUnit}
use Rattle.dwarf_types.specs.LinkedShape.{shape_in, unit_shape}
use Rattle.dwarf_types.specs.LinkedUnits.{Object, Source, is_kept, kept_entries, sources, sources_in}
use Rattle.dwarf_types.specs.Live.{Stands}
use Rattle.dwarf_types.specs.Sound.{IsParent, IsSound}
use Rattle.dwarf_types.specs.Tree.{ParentsStandBefore}
use Rattle.link_graph.specs.Graph.{pool_version}
use Rattle.link_graph.specs.Merged.{kept_object, kept_objects, object_units}
use Rattle.linked_laws.specs.Spellable.{IsSpellable, IsSpellableUnit, version_of}
use Rattle.linked_laws.specs.Kept.{IsWhole}
use Rattle.linked_laws.proofs.Attributes.{Allows}
use Rattle.linked_laws.proofs.Chains.{entry_of_unit, parent_in_unit}
use Rattle.linked_laws.proofs.Written.{node_of_entry}
use Rattle.odr_names.specs.Numbered.{objects_of}
use Rattle.odr_names.specs.Entering.{AreLiveParents}
use Rattle.odr_names.specs.Making.{IsLiveRow}
use Rattle.odr_names.proofs.Closed.{unit_is_plain}
use Rattle.type_names.specs.Heads.{derived_name, derived_name_entry, entries_of, is_above_head, is_head, is_in_head, is_live, is_named_head, is_named_head_entry, is_pooled, may_be_derived, takes_part}
use Rattle.type_names.specs.Heads as heads
use Rattle.type_names.specs.Tree.{is_below, is_in, parent_of}
use Rattle.type_names.proofs.Pooling.{any_numbers, sound_parents}
use Rattle.type_names.proofs.Subtrees.{in_itself}
use Rattle.merged_laws.proofs.Members.{any_from, in_filter_map, in_flat_map, in_numbered}
use Rattle.merged_laws.proofs.Plain.{Holds, and_parts, holds_kept, kept_whole, live_above, or_cases}

-- ---- merged entries are live

module _ (o : heads.Object) where
  named_live : (h : ℕ) → is_named_head o h ≡ true → is_live o h ≡ true
  unfolding is_named_head
  named_live h is = go (slice_get (entries_of o) h) is
    where
      go : (x : Option Entry) → option_map_or (is_named_head_entry o h) x false ≡ true → is_live o h ≡ true
      go None t = absurd (both_ways _ refl t)
      go (Some e) t = (and_parts (is_live o h) _ (and_parts (takes_part o h e) _ t).0).0

  derived_live : (h : ℕ) → is_some (derived_name o h) ≡ true → is_live o h ≡ true
  unfolding derived_name
  derived_live h is = go (slice_get (entries_of o) h) is
    where
      decide : (e : Entry) (b : Bool) (text : Option (List ℕ)) → may_be_derived o h e ≡ b → is_some (cond b text None) ≡ true → is_live o h ≡ true
      decide e true text may t = (and_parts (is_live o h) _ (and_parts (takes_part o h e) _ may).0).0
      decide e false text may t = absurd (both_ways _ refl t)

      go : (x : Option Entry) → is_some (option_and_then (derived_name_entry o h) x) ≡ true → is_live o h ≡ true
      go None t = absurd (both_ways _ refl t)
      go (Some e) t = decide e (may_be_derived o h e) _ refl t

  head_live : (h : ℕ) → is_head o h ≡ true → is_live o h ≡ true
  head_live h is = elim (or_cases (is_named_head o h) _ is) [ inl named ↦ named_live h named | inr derived ↦ derived_live h derived ]

  above_live : (a : ℕ) → ParentsStandBefore (entries_of o) → AreLiveParents o → is_above_head o a ≡ true → is_live o a ≡ true
  above_live a before lives is =
      let each = any_numbers (λ (k : ℕ). is_head o k && is_below (entries_of o) a k) (entries_of o) 0 in
      let w = each.0 (and_parts (is_some (parent_of (entries_of o) a)) _ is).1 in
      let here : 0 + w.0 ≡ w.0 = omega arith in
      let found = and_parts (is_head o w.0) (is_below (entries_of o) a w.0) (ap (λ (k : ℕ). is_head o k && is_below (entries_of o) a k) (sym here) ∙ w.2) in
      live_above o a w.0 before lives (and_parts (not (w.0 == a)) (is_in (entries_of o) a w.0) found.1).1 (head_live w.0 found.0)

  pub pooled_live : (k : ℕ) → ParentsStandBefore (entries_of o) → AreLiveParents o → is_pooled o k ≡ true → is_live o k ≡ true
  pooled_live k before lives is = elim (or_cases (is_live o k && is_in_head o k) (is_above_head o k) is) [
    | inl inside ↦ (and_parts (is_live o k) (is_in_head o k) inside).0
    | inr above ↦ above_live k before lives above
  ]

-- ---- the unit of a live entry is written

-- its root is live
record HasRoot (o : heads.Object) (unit : InUnit) : Type 0 where
  root : Entry
  stands : Stands (entries_of o) unit.first root
  top : parent_of (entries_of o) unit.first ≡ None
  lives : is_live o unit.first ≡ true

module _ (odr : Bool) (o : heads.Object) (whole : IsWhole (kept_object odr o)) (lives : AreLiveParents o) where
  live_root : (fuel u : ℕ) (unit : InUnit) (k : ℕ) (e : Entry) (parent : Option ℕ) → e.parent ≡ parent → slice_get o.seen.units u ≡ Some unit → Stands (entries_of o) k e → e.unit ≡ u → is_live o k ≡ true → k ≤ unit.first + fuel → HasRoot o unit
  live_root fuel u unit k e None none is at same live le =
      let own = whole.sound.entries k e at in
      let unit_is : own.unit ≡ unit = same_Some own.unit unit (sym own.its_unit ∙ ap (slice_get o.seen.units) same ∙ is) in
      let first : k ≡ unit.first = subst (λ (x : Option ℕ). IsParent unit k x) none (subst (λ (x : InUnit). IsParent x k e.parent) unit_is own.parent) in
      record {
        root = e;
        stands = subst (λ (n : ℕ). Stands (entries_of o) n e) first at;
        top = ap (parent_of (entries_of o)) (sym first) ∙ ap (option_and_then (λ (e : Entry). e.parent)) at ∙ none;
        lives = ap (is_live o) (sym first) ∙ live;
      }
  live_root zero u unit k e (Some p) up is at same live le =
      let lies = parent_in_unit (kept_object odr o) whole.sound whole.parents u unit k p e is at same up in
      absurd (omega (arith, lies.0.from_first, lies.1, le))
  live_root (suc fuel) u unit k e (Some p) up is at same live le =
      let lies = parent_in_unit (kept_object odr o) whole.sound whole.parents u unit k p e is at same up in
      let it = entry_of_unit (kept_object odr o) whole.sound whole.parents u unit p is lies.0 in
      live_root fuel u unit p it.0 it.0.parent refl is it.1 it.2 (lives k p live (ap (option_and_then (λ (e : Entry). e.parent)) at ∙ up)) (omega (arith, lies.1, le))

  -- so the root has a node in its own unit
  root_kept : (unit : InUnit) → ParentsStandBefore (entries_of o) → HasRoot o unit → is_kept (kept_object odr o) unit.first ≡ true
  root_kept unit before r =
      let holds : Holds odr o unit.first = record {
        number = unit.first;
        within = slice_get_within (entries_of o) unit.first r.root r.stands;
        lives = r.lives;
        own = unmerged odr;
        inside = in_itself (entries_of o) unit.first before;
      } in
      holds_kept odr o unit.first r.root before lives r.stands holds
    where
      unmerged : (b : Bool) → (b && is_pooled o unit.first) ≡ false
      unmerged true = unit_is_plain o unit.first r.top
      unmerged false = refl

-- ---- the versions of the units of objects

shape_there : (objects : List Object) (i u : ℕ) (o : Object) (unit : InUnit) → slice_get objects i ≡ Some o → slice_get o.seen.units u ≡ Some unit → (length (kept_entries o u) == 0) ≡ false
    → Contains (filter_map (shape_in objects) (sources objects)) (unit_shape (record { object = i; unit = u }) o unit)
shape_there objects i u o unit at is some =
    let source : Source = record { object = i; unit = u } in
    let zero_i : 0 + i ≡ i = omega arith in
    let zero_u : 0 + u ≡ u = omega arith in
    let in_objects : Contains (enumerate_from 0 objects) (i, o) = subst (λ (n : ℕ). Contains (enumerate_from 0 objects) (n, o)) zero_i (in_numbered 0 objects i o at) in
    let in_units : Contains (enumerate_from 0 o.seen.units) (u, unit) = subst (λ (n : ℕ). Contains (enumerate_from 0 o.seen.units) (n, unit)) zero_u (in_numbered 0 o.seen.units u unit is) in
    let in_own : Contains (sources_in (i, o)) source =
    in_filter_map (λ (x : ℕ × InUnit). by_count i x.0 (length (kept_entries o x.0) == 0)) (enumerate_from 0 o.seen.units) (u, unit) source in_units (ap (by_count i u) some) in
    let in_sources : Contains (sources objects) source = in_flat_map sources_in (enumerate_from 0 objects) (i, o) source in_objects in_own in
    in_filter_map (shape_in objects) (sources objects) source (unit_shape source o unit) in_sources
    (ap (option_and_then (λ (x : Object). option_map (unit_shape source x) (slice_get x.seen.units u))) at ∙ ap (option_map (unit_shape source o)) is)
  where
    by_count : ℕ → ℕ → Bool → Option Source
    by_count object unit none = cond none None (Some (record { object = object; unit = unit }))

version_of_five : (units : List ShapeUnit) (unit : ShapeUnit) → Contains units unit → unit.version ≡ 5 → pool_version units ≡ 5
version_of_five units unit there five =
    ap later (any_from (λ (unit : ShapeUnit). unit.version == 5) units unit there (eq-eqb unit.version 5 five))
  where
    later : Bool → ℕ
    later some = cond some 5 4

pub version_known : (units : List ShapeUnit) → (pool_version units ≡ 4) ⊎ (pool_version units ≡ 5)
version_known units = by (list_any (λ (unit : ShapeUnit). unit.version == 5) units)
  where
    version : Bool → ℕ
    version five = cond five 5 4

    by : (five : Bool) → (version five ≡ 4) ⊎ (version five ≡ 5)
    by true = inr refl
    by false = inl refl

-- what a version says of another one, where the first is 4 or 5
allowed : (from to : ℕ) → (from ≡ 4) ⊎ (from ≡ 5) → (from ≡ 5 → to ≡ 5) → Allows from to
allowed from to known five = record {
  five = five;
  four = λ is. elim known [ inl four ↦ four | inr other ↦ absurd (let later = five other in omega (arith, is, later)) ];
}

module _ (odr : Bool) (seen : List Analysis) (live : List (List Bool)) where
  -- the unit of merged entries may say what the unit of each of them says
  pub pool_allows : (i : ℕ) (o : heads.Object) → slice_get (objects_of seen live) i ≡ Some o → IsSound o.seen → IsSpellable o.seen → IsLiveRow (entries_of o) o.live → AreLiveParents o → (k : ℕ) (e : Entry) → Stands (entries_of o) k e → is_pooled o k ≡ true
      → Allows (version_of o.seen.units e.unit) (pool_version (object_units odr seen live))
  pool_allows i o at sound given row lives k e stands pooled =
      let own = sound.entries k e stands in
      let unit = own.unit in
      let version : version_of o.seen.units e.unit ≡ unit.version = ap (λ (found : Option InUnit). option_map_or (λ (u : InUnit). u.version) found 0) own.its_unit in
      let known = (subst (IsSpellableUnit o.seen.entries) (get_or_from_slice_get o.seen.units e.unit unit unit own.its_unit) (given.units e.unit unit (slice_get_within o.seen.units e.unit unit own.its_unit))).version in
      let before = sound_parents o.seen sound in
      let whole = kept_whole odr o sound given row lives in
      let r = live_root odr o whole lives k e.unit unit k e e.parent refl own.its_unit stands refl (pooled_live o k before lives pooled) (omega arith) in
      let kept = root_kept odr o whole lives unit before r in
      let its = entry_of_unit (kept_object odr o) whole.sound whole.parents e.unit unit unit.first own.its_unit (record { from_first = omega arith; before_end = omega (arith, own.lies.from_first, own.lies.before_end) }) in
      let node = node_of_entry (kept_object odr o) e.unit unit unit.first its.0 sound own.its_unit its.1 its.2 kept in
      let some = ne_eqb (length (kept_entries (kept_object odr o) e.unit)) 0 (λ none. omega (arith, none, slice_get_within (kept_entries (kept_object odr o) e.unit) node.number (unit.first, its.0) node.at)) in
      let there : slice_get (kept_objects odr seen live) i ≡ Some (kept_object odr o) = slice_get-map (kept_object odr) (objects_of seen live) i ∙ ap (option_map (kept_object odr)) at in
      let shaped = shape_there (kept_objects odr seen live) i e.unit (kept_object odr o) unit there own.its_unit some in
      subst (λ (v : ℕ). Allows v (pool_version (object_units odr seen live))) (sym version)
      (allowed unit.version (pool_version (object_units odr seen live)) known (λ five. version_of_five (object_units odr seen live) (unit_shape (record { object = i; unit = e.unit }) (kept_object odr o) unit) shaped five))
