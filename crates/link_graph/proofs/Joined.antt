-- The whole shape: the pool's unit and the objects, one by one.
use Rattle.std.proofs.Common.{◌≡◌, ◌⊎◌, inl, inr, ℕ, zero, suc, ◌+◌, ◌-◌, ◌<◌, ◌≤◌, ◌^◌, ◌&&◌, not, Bool, true, false, cond, List, [], ◌∷◌, ◌++◌, length, map, take, drop, get_or, slice_get, Option, Some, None, is_some, refl, sym, ap, subst, ◌∙◌, arith, append_assoc, append-nil, length-append}
use Rattle.std.specs.List.{All, enumerate_from, filter, filter_map, flat_map, zip}
use Rattle.std.specs.Option.{option_and_then, option_map}
use Rattle.std.proofs.lemmas.Bool.{cases_lt, ne_eqb}
use Rattle.std.specs.Prelude.{nat_lt, IfOk, Result, Ok, Err}
use Rattle.ds_base.specs.declared.fault.NoMemory.{NoMemory}
use Rattle.std.proofs.lemmas.List.{get_or-map, length-map, same_lists, take_all}
use Rattle.std.proofs.lemmas.List.Elements.{All-cons, All-filter, All-head, All-map, All-nil, All-tail, All-weaker}
use Rattle.std.proofs.lemmas.List.Folds.{length-flat_map-take}
use Rattle.std.proofs.lemmas.List.FromFn.{length-enumerate_from}
use Rattle.std.proofs.lemmas.Option.{get_or_from_slice_get, same_Some, slice_get_cases, slice_get-get_or, slice_get-map, slice_get_within}
use Rattle.std.proofs.lemmas.Simd.{map-map}
use Rattle.dwarf_types.specs.declared.analysis.Analysis.{Analysis}
use Rattle.dwarf_types.specs.declared.entry.Entry.{Entry}
use Rattle.dwarf_types.specs.declared.graph.Target.{Target}
use Rattle.dwarf_types.specs.declared.shape.Origin.{Origin}
use Rattle.dwarf_types.specs.declared.shape.Shape.{Shape}
use Rattle.dwarf_types.specs.declared.shape.ShapeUnit.{ShapeUnit}
use Rattle.dwarf_types.specs.LinkedShape.{AreMarked, marks_in, objects_in, plain_in, shape_in}
use Rattle.dwarf_types.specs.LinkedShape as shapes
use Rattle.dwarf_types.specs.LinkedUnits.{Object, numbered, plain_target, sources}
use Rattle.dwarf_types.specs.Sound.{IsSound}
use Rattle.odr_names.specs.Numbered.{objects_of}
use Rattle.odr_names.specs.Stretches.{IsFirstOf}
use Rattle.odr_names.proofs.BookPaths.{get_before}
use Rattle.odr_names.proofs.MakingBooks.{length_objects}
use Rattle.odr_names.proofs.ObjectLists.{object_parts}
use Rattle.type_names.specs.Heads.{entries_of, is_pooled}
use Rattle.type_names.specs.Heads as heads
use Rattle.type_names.specs.Names.{Named, named_of}
use Rattle.type_names.specs.Objects.{object_of}
use Rattle.type_names.specs.Paths.{Piece, path_of}
use Rattle.link_graph.specs.Graph.{IsPool, IsShape, Source, pool_version, source_of, units_in}
use Rattle.link_graph.specs.declared.placing.Place.{Place}
use Rattle.link_graph.specs.Joining.{Became, EachPair, HavePlaces, IsUnplaced, MayPlace, place_at, placed}
use Rattle.link_graph.specs.Merged.{image_in, images_in, kept_object, kept_objects, linked_names, object_units, pool_count, pool_origin, pool_root, pool_units, shape_of}
use Rattle.link_graph.specs.declared.object.ObjectShape.{ObjectShape}
use Rattle.link_graph.specs.OwnShapes.{AreOwnShapes, IsOwnShape, IsOwnShapeAt, target_behind}
use Rattle.link_graph.specs.Passes.{image_behind, images_of, kept_with, names_between, path_target, plain_before, put_each, units_before, units_of}
use Rattle.link_graph.specs.Pool.{by_bids, children_of, is_child, is_outbid, node_of_path, pool_names, preorder, winners, with_bid}
use Rattle.link_graph.specs.PoolOrder.{AreNodes}
use Rattle.link_graph.proofs.Gathered.{All-flat_map, enumerate_at, lent_all, map_same}
use Rattle.link_graph.proofs.KeptRows.{kept_is, kept_length}
use Rattle.link_graph.proofs.Merging.{AreBetween, IsNameOf, are_names_of, named_in, names_begin, one_on, own_entries, own_names, put_length, put_named}
use Rattle.link_graph.proofs.Objects.{images_length}
use Rattle.link_graph.proofs.Pairs.{no_pairs, pairs_more, slice_get_behind}
use Rattle.link_graph.proofs.Placed.{images_placed, own_few}
use Rattle.link_graph.proofs.Shapes.{image_is, marks_of, plain_before_more, units_before_more, units_shaped}
use Rattle.link_graph.proofs.Stretches.{numbered_at, numbered_length}

-- ---- objects

pub object_sound : (seen : List Analysis) (live : List (List Bool)) (i : ℕ) (o : heads.Object) → All IsSound seen → slice_get (objects_of seen live) i ≡ Some o → IsSound o.seen
object_sound seen live i o sound at =
    let there = (object_parts seen live i o at).0 in
    subst IsSound (get_or_from_slice_get seen i o.seen o.seen there) (sound i o.seen (slice_get_within seen i o.seen there))

pub kept_there : (odr : Bool) (seen : List Analysis) (live : List (List Bool)) (i : ℕ) (o : heads.Object) → slice_get (objects_of seen live) i ≡ Some o → slice_get (kept_objects odr seen live) i ≡ Some (kept_object odr o)
kept_there odr seen live i o at = slice_get-map (kept_object odr) (objects_of seen live) i ∙ ap (option_map (kept_object odr)) at

-- what the object at a place gives, where its kept entries are told by its names
pub own_at : (odr : Bool) (seen : List Analysis) (live : List (List Bool)) (i : ℕ) (o : heads.Object) (ws : List Named) (one : ObjectShape) → slice_get (objects_of seen live) i ≡ Some o → ws ≡ named_in odr (i + 1) o
    → IsOwnShape i (kept_with o.seen o.live ws) one → IsOwnShapeAt (kept_objects odr seen live) i one
own_at odr seen live i o ws one at own is = λ p its.
    let kept : kept_with o.seen o.live ws ≡ kept_object odr o = ap (kept_with o.seen o.live) own ∙ kept_is odr (i + 1) o in
    subst (λ (x : Object). IsOwnShape i x one) (kept ∙ same_Some (kept_object odr o) p (sym (kept_there odr seen live i o at) ∙ its)) is

-- one more is given
pub own_more : (objects : List Object) (own : List ObjectShape) (i : ℕ) (one : ObjectShape) → length own ≡ i → ((k : ℕ) (x : ObjectShape) → slice_get own k ≡ Some x → IsOwnShapeAt objects k x) → IsOwnShapeAt objects i one
    → (k : ℕ) (x : ObjectShape) → slice_get (own ++ one ∷ []) k ≡ Some x → IsOwnShapeAt objects k x
own_more objects own i one long so_far here k x at = elim (cases_lt k (length own)) [
  | inl lt ↦ so_far k x (sym (get_before own (one ∷ []) k lt) ∙ at)
  | inr le ↦ (
      let place : i ≡ k = omega (arith, le, long, slice_get_within (own ++ one ∷ []) k x at, length-append own (one ∷ [])) in
      let same : one ≡ x = same_Some one x (sym (slice_get_behind own one []) ∙ ap (slice_get (own ++ one ∷ [])) (long ∙ place) ∙ at) in
      subst (λ (n : ℕ). IsOwnShapeAt objects n x) place (subst (IsOwnShapeAt objects i) same here))
]

-- where it is given
pub given : {P Q : ObjectShape → Type 0} (r : Result ObjectShape NoMemory) → IfOk r P → ((one : ObjectShape) → P one → Q one) → IfOk r Q
given (Ok one) is h = h one is
given (Err e) is h = tt

-- ---- images

image_cases : (b : Bool) (f g : Option Target) (x y : Option Target) → f ≡ g → x ≡ y → cond b f x ≡ cond b g y
image_cases true f g x y e h = e
image_cases false f g x y e h = h

-- where references to the entries of an object lead, behind the pool's unit and the units of the objects before
pub images_are : (odr : Bool) (seen : List Analysis) (live : List (List Bool)) (i before : ℕ) (o : heads.Object) → slice_get (objects_of seen live) i ≡ Some o → IsSound o.seen
    → before ≡ pool_count (linked_names odr seen live) + length (units_before (kept_objects odr seen live) i)
    → put_each (path_target (linked_names odr seen live)) (named_in odr (i + 1) o) (images_of before i (kept_object odr o)) ≡ images_in odr seen live (i, o)
images_are odr seen live i before o at sound place =
    same_lists (put_each f ws own) (images_in odr seen live (i, o)) (put_length f ws own ∙ own_long ∙ sym all_long)
    (λ k d lt. elim (slice_get_cases (entries_of o) k).1 [
      | inl w ↦ here k d w.0 w.2 w.1
      | inr w ↦ absurd (omega (arith, w.0, lt, put_length f ws own, own_long))
    ])
  where
    names : List Named
    names = linked_names odr seen live

    f : Named → Option Target
    f = path_target names

    ws : List Named
    ws = named_in odr (i + 1) o

    own : List (Option Target)
    own = images_of before i (kept_object odr o)

    own_long : length own ≡ length (entries_of o)
    own_long = length-map (numbered (kept_object odr o)) (image_behind before i (kept_object odr o)) ∙ numbered_length (kept_object odr o)

    image : ℕ × Entry → Option Target
    image e = image_in odr seen live (i, o) e.0

    all_long : length (images_in odr seen live (i, o)) ≡ length (entries_of o)
    all_long = length-map (enumerate_from 0 (entries_of o)) image ∙ length-enumerate_from 0 (entries_of o)

    here : (k : ℕ) (d : Option Target) (e : Entry) → slice_get (entries_of o) k ≡ Some e → k < length (entries_of o) → get_or (put_each f ws own) k d ≡ get_or (images_in odr seen live (i, o)) k d
    here k d e stands within =
        let own_there : get_or own k d ≡ plain_target (pool_count names) (kept_objects odr seen live) i k =
        get_or-map (image_behind before i (kept_object odr o)) (numbered (kept_object odr o)) k (k, e) d (omega (arith, within, numbered_length (kept_object odr o)))
        ∙ ap (image_behind before i (kept_object odr o)) (numbered_at (kept_object odr o) k (k, e) within ∙ ap (λ (x : Entry). (k, x)) (get_or_from_slice_get (entries_of o) k e e stands))
        ∙ ap (λ (n : ℕ). image_behind n i (kept_object odr o) (k, e)) place
        ∙ sym (image_is (pool_count names) (kept_objects odr seen live) i (kept_object odr o) k e (kept_there odr seen live i o at) stands sound) in
        put_named f odr (i + 1) o own k e d stands (omega (arith, within, own_long))
        ∙ image_cases (odr && is_pooled o k) (f (named_of (i + 1) o k e)) (option_map (λ node. record { unit = 0; node = node }) (node_of_path names (path_of (i + 1) o k))) (get_or own k d) _ refl own_there
        ∙ sym (get_or-map image (enumerate_from 0 (entries_of o)) k (k, e) d (omega (arith, within, length-enumerate_from 0 (entries_of o)))
        ∙ ap image (enumerate_at (entries_of o) k (k, e) within ∙ ap (λ (x : Entry). (k, x)) (get_or_from_slice_get (entries_of o) k e e stands)))

-- ---- the shape so far

-- the pool's unit is one, of whichever version
pub pools_counted : (version : ℕ) (names : List Named) → length (pool_units version names) ≡ pool_count names
pools_counted version [] = refl
pools_counted version (n ∷ names) = refl

-- the pool has one unit at most
pub pool_count_few : (names : List Named) → pool_count names < 2
pool_count_few [] = omega arith
pool_count_few (n ∷ ns) = omega arith

-- the row of object k leads where the shape tells, once it is placed
abbrev pub IsRowOf : Bool → List Analysis → List (List Bool) → List Named → ℕ → Place → List (Option Target) → Type 0
IsRowOf odr seen live names k place row = (o : heads.Object) → slice_get (objects_of seen live) k ≡ Some o → placed names place row ≡ images_in odr seen live (k, o)

-- the units and rows of the objects below i
pub record IsShapedTo (odr : Bool) (seen : List Analysis) (live : List (List Bool)) (names : List Named) (units : List ShapeUnit) (plain : List (List (Option ℕ))) (images : List (List (Option Target))) (places : List Place) (i : ℕ) : Type 0 where
  pub are_units : units ≡ pool_units 4 (linked_names odr seen live) ++ units_before (kept_objects odr seen live) i
  pub are_plain : plain ≡ plain_before (kept_objects odr seen live) i
  pub are_placed : EachPair (IsRowOf odr seen live names) places images

pub shaped_begin : (odr : Bool) (seen : List Analysis) (live : List (List Bool)) (names : List Named) (units : List ShapeUnit) → names ≡ linked_names odr seen live → units ≡ pool_units 4 names → IsShapedTo odr seen live names units [] [] [] 0
shaped_begin odr seen live names units same is = record {
  are_units = is ∙ ap (pool_units 4) same ∙ sym (append-nil (pool_units 4 (linked_names odr seen live)));
  are_plain = refl;
  are_placed = no_pairs (IsRowOf odr seen live names) [];
}

-- an object of a link, and what it gives
pub record IsPart (odr : Bool) (seen : List Analysis) (live : List (List Bool)) (i : ℕ) (one : ObjectShape) : Type 0 where
  pub its : heads.Object
  pub at : slice_get (objects_of seen live) i ≡ Some its
  pub sound : IsSound its.seen
  pub own : IsOwnShape i (kept_object odr its) one

pub part_at : (odr : Bool) (seen : List Analysis) (live : List (List Bool)) (names : List Named) (own so_far rest : List ObjectShape) (i : ℕ) (one : ObjectShape) → AreOwnShapes odr seen live names own
    → so_far ++ one ∷ rest ≡ own → i ≡ length so_far → IsPart odr seen live i one
part_at odr seen live names own so_far rest i one are whole place = elim (slice_get_cases (objects_of seen live) i).1 [
  | inl w ↦ record { its = w.0; at = w.2; sound = object_sound seen live i w.0 are.sound w.2; own = are.each i one here (kept_object odr w.0) (kept_there odr seen live i w.0 w.2) }
  | inr w ↦ absurd (omega (arith, w.0, length_objects seen live are.marked.each, are.len, ap length whole, length-append so_far (one ∷ rest), place))
]
  where
    here : slice_get own i ≡ Some one
    here = ap (λ (xs : List ObjectShape). slice_get xs i) (sym whole) ∙ ap (slice_get (so_far ++ one ∷ rest)) place ∙ slice_get_behind so_far one rest

pub part_few : (odr : Bool) (seen : List Analysis) (live : List (List Bool)) (names : List Named) (own so_far rest : List ObjectShape) (i : ℕ) (one : ObjectShape) → AreOwnShapes odr seen live names own
    → so_far ++ one ∷ rest ≡ own → i ≡ length so_far → i < 2 ^ 16
part_few odr seen live names own so_far rest i one are whole place = omega (arith, are.few, are.len, ap length whole, length-append so_far (one ∷ rest), place)

module _ (odr : Bool) (seen : List Analysis) (live : List (List Bool)) (names : List Named) (i : ℕ) (one : ObjectShape) (named : names ≡ linked_names odr seen live) (part : IsPart odr seen live i one) where
  -- the names of its merged entries
  pub part_names : (from end : ℕ) → IsFirstOf names (i + 1) from → IsFirstOf names (i + 2) end → AreBetween names from end (named_in odr (i + 1) part.its)
  part_names from end is_from is_end = own_names odr (objects_of seen live) names i from end part.its part.at (named ∙ names_begin odr seen live) is_from is_end

  pub part_entries : (from end : ℕ) → IsFirstOf names (i + 1) from → IsFirstOf names (i + 2) end → All (λ w. w.entry < length one.images) (names_between names from end)
  part_entries from end is_from is_end =
      subst (λ (n : ℕ). All (λ (w : Named). w.entry < n) (names_between names from end)) (sym (ap length part.own.images ∙ images_length 0 i (kept_object odr part.its)))
      (own_entries odr names i from end part.its (part_names from end is_from is_end))

  -- its place: behind so many units, which leaves its own numbers of 32 bits
  pub part_may : (place : Place) (before : ℕ) → IsFirstOf names (i + 1) place.from → IsFirstOf names (i + 2) place.end → place.before ≡ before → before + length one.units.items < 2 ^ 32 → MayPlace names place one.images
  part_may place before is_from is_end same few =
      let its = part_names place.from place.end is_from is_end in
      record {
        numbered = own_few i (kept_object odr part.its) one place.before one.images part.sound part.own refl (omega (arith, few, same));
        order = its.order;
        within = its.within;
        entries = part_entries place.from place.end is_from is_end;
      }

  pub shaped_more : (place : Place) (units later : List ShapeUnit) (plain : List (List (Option ℕ))) (images : List (List (Option Target))) (places : List Place)
      → IsFirstOf names (i + 1) place.from → IsFirstOf names (i + 2) place.end → place.before ≡ length units → length images ≡ i → length places ≡ i
      → later ≡ units ++ one.units.items → IsShapedTo odr seen live names units plain images places i
      → IsShapedTo odr seen live names later (plain ++ one.plain ∷ []) (images ++ one.images ∷ []) (places ++ place ∷ []) (i + 1)
  shaped_more place units later plain images places is_from is_end before long wide later_are so_far = record {
    are_units = later_are ∙ ap (λ (us : List ShapeUnit). units ++ us) part.own.units ∙ ap (λ (us : List ShapeUnit). us ++ units_of i (kept_object odr o)) so_far.are_units
        ∙ append_assoc (pool_units 4 (linked_names odr seen live)) (units_before objects i) (units_of i (kept_object odr o))
        ∙ ap (λ (us : List ShapeUnit). pool_units 4 (linked_names odr seen live) ++ us) (sym (units_before_more objects i (kept_object odr o) there));
    are_plain = ap (λ (row : List (Option ℕ)). plain ++ row ∷ []) part.own.plain ∙ ap (λ (rows : List (List (Option ℕ))). rows ++ plain_in (kept_object odr o) ∷ []) so_far.are_plain
        ∙ sym (plain_before_more objects i (kept_object odr o) there);
    are_placed = pairs_more (IsRowOf odr seen live names) places images i place one.images wide long so_far.are_placed (λ other at. led ∙ ap (λ (x : heads.Object). images_in odr seen live (i, x)) (same_Some o other (sym part.at ∙ at)));
  }
    where
      o : heads.Object
      o = part.its

      objects : List Object
      objects = kept_objects odr seen live

      there : slice_get objects i ≡ Some (kept_object odr o)
      there = kept_there odr seen live i o part.at

      moved : map (target_behind place.before) one.images ≡ images_of place.before i (kept_object odr o)
      moved = ap (map (target_behind place.before)) part.own.images ∙ images_placed place.before i (kept_object odr o)

      led : placed names place one.images ≡ images_in odr seen live (i, o)
      led = ap (λ (ns : List Named). put_each (path_target ns) (names_between names place.from place.end) (map (target_behind place.before) one.images)) named
          ∙ ap (put_each (path_target (linked_names odr seen live)) (names_between names place.from place.end)) moved
          ∙ ap (λ (vs : List Named). put_each (path_target (linked_names odr seen live)) vs (images_of place.before i (kept_object odr o))) (part_names place.from place.end is_from is_end).own
          ∙ images_are odr seen live i place.before o part.at part.sound (before ∙ ap length so_far.are_units ∙ length-append (pool_units 4 (linked_names odr seen live)) (units_before objects i)
          ∙ ap (λ (n : ℕ). n + length (units_before objects i)) (pools_counted 4 (linked_names odr seen live)))

  -- the shape has no fewer units than those so far and the object's
  pub units_long : (units : List ShapeUnit) (plain : List (List (Option ℕ))) (images : List (List (Option Target))) (places : List Place) → IsShapedTo odr seen live names units plain images places i
      → length units + length one.units.items ≤ length (shape_of odr seen live).units
  units_long units plain images places so_far =
      let each : ℕ × Object → List ShapeUnit = λ o. units_of o.0 o.1 in
      let own : ℕ × Object = (i, kept_object odr part.its) in
      let there = kept_there odr seen live i part.its part.at in
      let within = slice_get_within objects i (kept_object odr part.its) there in
      let here : get_or (enumerate_from 0 objects) i own ≡ own = enumerate_at objects i own within ∙ ap (λ (o : Object). (i, o)) (get_or_from_slice_get objects i (kept_object odr part.its) (kept_object odr part.its) there) in
      let most = length-flat_map-take each (enumerate_from 0 objects) i own (omega (arith, within, length-enumerate_from 0 objects)) in
      let all : length (object_units odr seen live) ≡ length (flat_map each (enumerate_from 0 objects)) =
      ap length (units_shaped objects ∙ ap (flat_map each) (take_all (length objects) (enumerate_from 0 objects) (omega (arith, length-enumerate_from 0 objects)))) in
      omega (
        arith,
        most,
        all,
        ap length so_far.are_units,
        length-append (pool_units 4 (linked_names odr seen live)) (units_before objects i),
        pools_counted 4 (linked_names odr seen live),
        length-append (pool_units (pool_version (object_units odr seen live)) (linked_names odr seen live)) (object_units odr seen live),
        pools_counted (pool_version (object_units odr seen live)) (linked_names odr seen live),
        ap length part.own.units,
        ap (λ (o : ℕ × Object). length (each o)) here,
      )
    where
      objects : List Object
      objects = kept_objects odr seen live

-- the units of all objects stand behind the pool's
pub units_by : (odr : Bool) (seen : List Analysis) (live : List (List Bool)) (names : List Named) (i : ℕ) (units : List ShapeUnit) (plain : List (List (Option ℕ))) (images : List (List (Option Target))) (places : List Place) → names ≡ linked_names odr seen live
    → length live ≡ length seen → length seen ≤ i → IsShapedTo odr seen live names units plain images places i → units ≡ pool_units 4 names ++ object_units odr seen live
units_by odr seen live names i units plain images places same each le is =
    let objects = kept_objects odr seen live in
    let long : length objects ≡ length seen = length-map (objects_of seen live) (kept_object odr) ∙ length_objects seen live each in
    is.are_units ∙ ap (λ (us : List ShapeUnit). pool_units 4 (linked_names odr seen live) ++ us) (units_all objects i (omega (arith, le, long)) ∙ sym (units_shaped objects))
    ∙ ap (λ (ns : List Named). pool_units 4 ns ++ object_units odr seen live) (sym same)
  where
    units_all : (objects : List Object) (i : ℕ) → length objects ≤ i → units_before objects i ≡ units_before objects (length objects)
    units_all objects i le =
        let long = length-enumerate_from 0 objects in
        ap (flat_map (λ (o : ℕ × Object). units_of o.0 o.1)) (take_all i (enumerate_from 0 objects) (omega (arith, le, long)) ∙ sym (take_all (length objects) (enumerate_from 0 objects) (omega (arith, long))))

-- all objects make the shape, once the pool's unit has its version and each row is placed
pub shape_whole : (odr : Bool) (seen : List Analysis) (live : List (List Bool)) (names : List Named) (i : ℕ) (units settled : List ShapeUnit) (plain : List (List (Option ℕ))) (images : List (List (Option Target))) (places : List Place)
    → length live ≡ length seen → length seen ≡ i → length images ≡ i → length places ≡ i
    → settled ≡ pool_units (pool_version (object_units odr seen live)) (linked_names odr seen live) ++ object_units odr seen live
    → IsShapedTo odr seen live names units plain images places i → IsUnplaced odr seen live names (record { units = settled; plain = plain; images = images }) places
shape_whole odr seen live names i units settled plain images places each whole long wide a is later became =
    let kept_long : length kept ≡ length seen = length-map objects (kept_object odr) ∙ objects_long in
    let all = pool_units (pool_version (object_units odr seen live)) (linked_names odr seen live) ++ object_units odr seen live in
    let b : plain ≡ map plain_in kept = is.are_plain ∙ ap (map plain_in) (take_all i kept (omega (arith, whole, kept_long))) in
    ap (λ (us : List ShapeUnit). made us plain later) a ∙ ap (λ (rows : List (List (Option ℕ))). made all rows later) b ∙ ap (made all (map plain_in kept)) rows
  where
    objects : List heads.Object
    objects = objects_of seen live

    kept : List Object
    kept = kept_objects odr seen live

    objects_long : length objects ≡ length seen
    objects_long = length_objects seen live each

    made : List ShapeUnit → List (List (Option ℕ)) → List (List (Option Target)) → Shape
    made us rows ims = record { units = us; plain = rows; images = ims }

    row : ℕ × heads.Object → List (Option Target)
    row = images_in odr seen live

    rows_long : length (map row (enumerate_from 0 objects)) ≡ length objects
    rows_long = length-map (enumerate_from 0 objects) row ∙ length-enumerate_from 0 objects

    here : (k : ℕ) (d : List (Option Target)) (o : heads.Object) → slice_get objects k ≡ Some o → k < i → get_or later k d ≡ get_or (map row (enumerate_from 0 objects)) k d
    here k d o at lt =
        let within : k < length objects = slice_get_within objects k o at in
        became.each k d (omega (arith, lt, long))
        ∙ is.are_placed k (place_at places k) (get_or images k d) (slice_get-get_or places k _ (omega (arith, lt, wide))) (slice_get-get_or images k d (omega (arith, lt, long))) o at
        ∙ sym (get_or-map row (enumerate_from 0 objects) k (k, o) d (omega (arith, within, length-enumerate_from 0 objects))
        ∙ ap row (enumerate_at objects k (k, o) within ∙ ap (λ (x : heads.Object). (k, x)) (get_or_from_slice_get objects k o o at)))

    rows : later ≡ map row (enumerate_from 0 objects)
    rows = same_lists later (map row (enumerate_from 0 objects)) (became.len ∙ long ∙ sym whole ∙ sym objects_long ∙ sym rows_long)
        (λ k d lt. elim (slice_get_cases objects k).1 [
          | inl w ↦ here k d w.0 w.2 (omega (arith, lt, became.len, long))
          | inr w ↦ absurd (omega (arith, w.0, lt, became.len, long, whole, objects_long))
        ])

-- who places rows may be given each of these, where it has the nodes and the places of all
pub all_may : (names : List Named) (winners : List ℕ) (nodes lent_nodes : List (Option ℕ)) (places lent : List Place) (images rows : List (List (Option Target))) → AreNodes names winners nodes → HavePlaces names places images → lent_nodes ≡ nodes → lent ≡ places → rows ≡ images
    → (i : ℕ) (row : List (Option Target)) → slice_get rows i ≡ Some row → (i < length lent) × AreNodes names winners lent_nodes × MayPlace names (place_at lent i) row
all_may names winners nodes lent_nodes places lent images rows are have nodes_are places_are rows_are i row at =
    let here : slice_get images i ≡ Some row = ap (λ (xs : List (List (Option Target))). slice_get xs i) (sym rows_are) ∙ at in
    let within : i < length places = omega (arith, slice_get_within images i row here, have.len) in (
      omega (arith, within, ap length places_are),
      subst (AreNodes names winners) (sym nodes_are) are,
      subst (λ (ps : List Place). MayPlace names (place_at ps i) row) (sym places_are) (have.each i (place_at places i) row (slice_get-get_or places i _ within) here),
    )

-- rows that were lent, and placed, make the shape
pub joined_is : (odr : Bool) (seen : List Analysis) (live : List (List Bool)) (names : List Named) (shape : Shape) (places lent : List Place) (rows became : List (List (Option Target))) → IsUnplaced odr seen live names shape places → lent ≡ places → rows ≡ shape.images
    → Became (λ i row. placed names (place_at lent i) row) rows became
    → record { units = shape.units; plain = shape.plain; images = take (length shape.images) (became ++ drop (length became) shape.images) } ≡ shape_of odr seen live
joined_is odr seen live names shape places lent rows became is places_are rows_are all =
    let here : Became (λ i row. placed names (place_at places i) row) shape.images became =
    subst (λ (ps : List Place). Became (λ i row. placed names (place_at ps i) row) shape.images became) places_are
    (subst (λ (old : List (List (Option Target))). Became (λ i row. placed names (place_at lent i) row) old became) rows_are all) in
    ap made (lent_all became shape.images here.len) ∙ is became here
  where
    made : List (List (Option Target)) → Shape
    made images = record { units = shape.units; plain = shape.plain; images = images }

-- ---- the objects of the shape

all_sound : (seen : List Analysis) (live : List (List Bool)) → All IsSound seen → All (λ (o : heads.Object). IsSound o.seen) (objects_of seen live)
all_sound seen live sound i o lt = object_sound seen live i (get_or (objects_of seen live) i o) sound (slice_get-get_or (objects_of seen live) i o lt)

rows_again : (odr : Bool) (seen : List Analysis) (live : List (List Bool)) → All IsSound seen → marks_in (shape_of odr seen live) ≡ map (λ (o : Object). o.kept) (kept_objects odr seen live)
rows_again odr seen live sound =
    map-map (map is_some) plain_in (kept_objects odr seen live)
    ∙ map_same (λ (o : Object). map is_some (plain_in o)) (λ (o : Object). o.kept) (kept_objects odr seen live)
    (All-map (λ (o : Object). map is_some (plain_in o) ≡ o.kept) (kept_object odr) (objects_of seen live)
    (All-weaker (λ (o : heads.Object). IsSound o.seen) (λ o. map is_some (plain_in (kept_object odr o)) ≡ (kept_object odr o).kept)
    (λ o is. marks_of (kept_object odr o) is (kept_length (entries_of o) o.live _)) (objects_of seen live) (all_sound seen live sound)))

objects_again : (odr : Bool) (seen : List Analysis) (live : List (List Bool)) → shapes.objects_of seen (map (λ (o : Object). o.kept) (kept_objects odr seen live)) ≡ kept_objects odr seen live
objects_again odr [] live = refl
objects_again odr (s ∷ seen) [] = refl
objects_again odr (s ∷ seen) (l ∷ live) = ap (λ (os : List Object). kept_object odr (object_of s l) ∷ os) (objects_again odr seen live)

-- rows of objects are as long as these have entries
rows_long : {A : Type 0} (f : heads.Object → List A) (seen : List Analysis) (live : List (List Bool)) → ((o : heads.Object) → length (f o) ≡ length (entries_of o)) → All (λ row. length row.1 ≡ length row.0.entries) (zip seen (map f (objects_of seen live)))
rows_long f [] live long = All-nil (λ row. length row.1 ≡ length row.0.entries)
rows_long f (s ∷ seen) [] long = All-nil (λ row. length row.1 ≡ length row.0.entries)
rows_long {A} f (s ∷ seen) (l ∷ live) long =
    let first : Analysis × List A = (s, f (object_of s l)) in
    All-cons (λ (row : Analysis × List A). length row.1 ≡ length row.0.entries) first (zip seen (map f (objects_of seen live))) (long (object_of s l)) (rows_long f seen live long)

images_long : (f : ℕ × heads.Object → List (Option Target)) (n : ℕ) (seen : List Analysis) (live : List (List Bool)) → ((o : ℕ × heads.Object) → length (f o) ≡ length (entries_of o.1)) → All (λ row. length row.1 ≡ length row.0.entries) (zip seen (map f (enumerate_from n (objects_of seen live))))
images_long f n [] live long = All-nil (λ row. length row.1 ≡ length row.0.entries)
images_long f n (s ∷ seen) [] long = All-nil (λ row. length row.1 ≡ length row.0.entries)
images_long f n (s ∷ seen) (l ∷ live) long =
    let first : Analysis × List (Option Target) = (s, f (n, object_of s l)) in
    All-cons (λ (row : Analysis × List (Option Target)). length row.1 ≡ length row.0.entries) first (zip seen (map f (enumerate_from (n + 1) (objects_of seen live)))) (long (n, object_of s l)) (images_long f (n + 1) seen live long)

-- ---- the pool's unit

with_bid_all : (P : Named → Type 0) (w : Named) (vs : List Named) → P w → All P vs → All P (with_bid w vs)
with_bid_all P w [] here rest = All-cons P w [] here rest
with_bid_all P w (v ∷ vs) here rest = both (nat_lt v.bid w.bid) (with_bid_all P w vs here (All-tail P v vs rest))
  where
    both : (b : Bool) → All P (with_bid w vs) → All P (cond b (v ∷ with_bid w vs) (w ∷ v ∷ vs))
    both true later = All-cons P v (with_bid w vs) (All-head P v vs rest) later
    both false later = All-cons P w (v ∷ vs) here rest

by_bids_all : (P : Named → Type 0) (ws : List Named) → All P ws → All P (by_bids ws)
by_bids_all P [] all = All-nil P
by_bids_all P (w ∷ ws) all = with_bid_all P w (by_bids ws) (All-head P w ws all) (by_bids_all P ws (All-tail P w ws all))

preorder_all : (P : Named → Type 0) (levels : ℕ) (names : List Named) (path : List Piece) → All P names → All P (preorder levels names path)
unfolding preorder
preorder_all P zero names path all = All-nil P
preorder_all P (suc levels) names path all =
    All-flat_map P (λ w. w ∷ preorder levels names w.path) (children_of names path)
    (All-weaker P (λ w. All P (w ∷ preorder levels names w.path)) (λ w is. All-cons P w (preorder levels names w.path) is (preorder_all P levels names w.path all))
    (children_of names path) (by_bids_all P (filter (is_child path) (winners names)) (All-filter (is_child path) P (winners names) (All-filter (λ w. not (is_outbid names w)) P names all))))

-- the entry of a name is there
abbrev IsSourced : List Analysis → Named → Type 0
IsSourced all w = (source : Source) × (source_of all (record { object = w.object; entry = w.entry; parent = None }) ≡ Some source)

sourced : (seen : List Analysis) (live : List (List Bool)) (n : ℕ) (o : heads.Object) (w : Named) → 1 ≤ n → slice_get (objects_of seen live) (n - 1) ≡ Some o → IsNameOf n o w → IsSourced seen w
sourced seen live n o w counted at is = (
  record { object = w.object - 1; seen = o.seen; entry = is.entry },
  ap (λ (b : Bool). cond b None (option_and_then found (slice_get seen (w.object - 1)))) (ne_eqb w.object 0 (λ zero_is. omega (arith, counted, is.of_object, zero_is)))
      ∙ ap (λ (n : ℕ). option_and_then found (slice_get seen (n - 1))) is.of_object
      ∙ ap (option_and_then found) (object_parts seen live (n - 1) o at).0
      ∙ ap (option_map (λ (e : Entry). made o.seen e)) is.stands,
)
  where
    made : Analysis → Entry → Source
    made a e = record { object = w.object - 1; seen = a; entry = e }

    found : Analysis → Option Source
    found a = option_map (λ e. made a e) (slice_get a.entries w.entry)

names_sourced : (odr : Bool) (seen : List Analysis) (live : List (List Bool)) → All (IsSourced seen) (linked_names odr seen live)
names_sourced odr seen live =
    subst (All (IsSourced seen)) (sym (names_begin odr seen live))
    (All-flat_map (IsSourced seen) (λ o. named_in odr o.0 o.1) (enumerate_from 1 (objects_of seen live))
    (All-weaker (λ (x : ℕ × heads.Object). (1 ≤ x.0) × (slice_get (objects_of seen live) (x.0 - 1) ≡ Some x.1)) (λ x. All (IsSourced seen) (named_in odr x.0 x.1))
    (λ x at. All-weaker (IsNameOf x.0 x.1) (IsSourced seen) (λ w is. sourced seen live x.0 x.1 w at.0 at.1 is) (named_in odr x.0 x.1) (are_names_of odr x.0 x.1))
    (enumerate_from 1 (objects_of seen live)) (one_on (objects_of seen live))))

pool_is : (all : List Analysis) (shape : Shape) (version : ℕ) (names : List Named) → version ≡ pool_version (units_in all shape) → All (IsSourced all) names
    → (pool_units version names ≡ []) ⊎ ((unit : ShapeUnit) × (pool_units version names ≡ unit ∷ []) × IsPool all shape unit)
pool_is all shape version [] same are = inl refl
pool_is all shape version (n ∷ names) same are =
    let unit : ShapeUnit = record { version = version; nodes = pool_root ∷ map (pool_origin (n ∷ names)) (pool_names (n ∷ names)) } in
    inr (
      unit,
      refl,
      record {
        root = pool_root;
        below = map (pool_origin (n ∷ names)) (pool_names (n ∷ names));
        nodes = refl;
        is_root = refl;
        version = same;
        each = All-map (λ (origin : Origin). (source : Source) × (source_of all origin ≡ Some source)) (pool_origin (n ∷ names)) (pool_names (n ∷ names)) (preorder_all (IsSourced all) (length (n ∷ names)) (n ∷ names) [] are);
      },
    )

-- ---- the shape

shape_marks : (odr : Bool) (seen : List Analysis) (live : List (List Bool)) (shape : Shape) → All IsSound seen → shape ≡ shape_of odr seen live → marks_in shape ≡ map (λ (o : Object). o.kept) (kept_objects odr seen live)
shape_marks odr seen live shape sound is = ap marks_in is ∙ rows_again odr seen live sound

-- the objects that it tells are those with their kept entries
pub shape_objects : (odr : Bool) (seen : List Analysis) (live : List (List Bool)) (shape : Shape) → All IsSound seen → shape ≡ shape_of odr seen live → objects_in seen shape ≡ kept_objects odr seen live
shape_objects odr seen live shape sound is = ap (shapes.objects_of seen) (shape_marks odr seen live shape sound is) ∙ objects_again odr seen live

pub shape_is : (odr : Bool) (seen : List Analysis) (live : List (List Bool)) (shape : Shape) → All IsSound seen → length live ≡ length seen → shape ≡ shape_of odr seen live → IsShape seen shape
shape_is odr seen live shape sound each is = record {
  marked = subst (AreMarked seen) (sym (shape_marks odr seen live shape sound is)) (record {
    each = length-map objects (λ (o : Object). o.kept) ∙ length-map (objects_of seen live) (kept_object odr) ∙ length_objects seen live each;
    whole = subst (λ (ms : List (List Bool)). All (λ object. length object.1 ≡ length object.0.entries) (zip seen ms)) (sym (map-map (λ (o : Object). o.kept) (kept_object odr) (objects_of seen live)))
        (rows_long (λ (o : heads.Object). (kept_object odr o).kept) seen live (λ o. kept_length (entries_of o) o.live _));
  });
  plain = ap (λ (s : Shape). s.plain) is ∙ ap (map plain_in) (sym same);
  images = subst (λ (ims : List (List (Option Target))). All (λ row. length row.1 ≡ length row.0.entries) (zip seen ims)) (sym (ap (λ (s : Shape). s.images) is))
      (images_long (images_in odr seen live) 0 seen live (λ o. length-map (enumerate_from 0 (entries_of o.1)) _ ∙ length-enumerate_from 0 (entries_of o.1)));
  rows = ap (λ (s : Shape). length s.images) is ∙ length-map (enumerate_from 0 (objects_of seen live)) (images_in odr seen live) ∙ length-enumerate_from 0 (objects_of seen live) ∙ length_objects seen live each;
  pool = pool_units (pool_version (object_units odr seen live)) (linked_names odr seen live);
  is_pool = pool_is seen shape (pool_version (object_units odr seen live)) (linked_names odr seen live) (ap pool_version (sym own)) (names_sourced odr seen live);
  units = ap (λ (s : Shape). s.units) is ∙ ap (λ (us : List ShapeUnit). pool_units (pool_version (object_units odr seen live)) (linked_names odr seen live) ++ us) (sym own);
}
  where
    objects : List Object
    objects = kept_objects odr seen live

    same : objects_in seen shape ≡ objects
    same = shape_objects odr seen live shape sound is

    own : units_in seen shape ≡ object_units odr seen live
    own = ap (λ (os : List Object). filter_map (shape_in os) (sources os)) same
