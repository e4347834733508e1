-- Where nothing is merged, the shape of some objects begins that of these and one more, and so does their graph.
use Rattle.std.proofs.Common.{◌≡◌, ℕ, ◌+◌, ◌<◌, ◌≤◌, Bool, false, cond, eqb, List, [], ◌∷◌, ◌++◌, length, map, take, get_or, slice_get, Option, Some, None, refl, sym, ap, ◌∙◌, arith, append-nil, length-append}
use Rattle.std.specs.List.{All, enumerate_from, filter_map, flat_map, zip}
use Rattle.std.specs.Option.{option_and_then, option_map, option_map_or}
use Rattle.std.proofs.lemmas.Bool.{ne_eqb}
use Rattle.std.proofs.lemmas.Grind.{flat_map-append}
use Rattle.std.proofs.lemmas.List.{length-map, map-append, take-append-le, take_all}
use Rattle.std.proofs.lemmas.List.Elements.{All-append, All-cons, All-head, All-nil, All-tail, All-weaker, filter_map-append}
use Rattle.std.proofs.lemmas.List.FromFn.{length-enumerate_from}
use Rattle.std.proofs.lemmas.Option.{slice_get_within}
use Rattle.dwarf_types.specs.declared.analysis.Analysis.{Analysis}
use Rattle.dwarf_types.specs.declared.entry.Entry.{Entry}
use Rattle.dwarf_types.specs.declared.entry.InUnit.{InUnit}
use Rattle.dwarf_types.specs.declared.graph.OutUnit.{OutUnit}
use Rattle.dwarf_types.specs.declared.graph.Target.{Target}
use Rattle.dwarf_types.specs.declared.shape.Origin.{Origin}
use Rattle.dwarf_types.specs.declared.shape.Shape.{Shape}
use Rattle.dwarf_types.specs.declared.shape.ShapeUnit.{ShapeUnit}
use Rattle.dwarf_types.specs.LinkedGraph.{unit_written, written}
use Rattle.dwarf_types.specs.LinkedShape.{AreMarked, objects_in, origin_of, plain_in, shape_in}
use Rattle.dwarf_types.specs.LinkedUnits.{Object, Source, kept_entries, sources, sources_in}
use Rattle.dwarf_types.specs.Sound.{IsSound}
use Rattle.dwarf_types.proofs.Marks.{nothing_merged}
use Rattle.odr_names.specs.Numbered.{objects_of}
use Rattle.odr_names.proofs.BookPaths.{get_before}
use Rattle.odr_names.proofs.MakingBooks.{length_objects}
use Rattle.type_names.specs.Heads as heads
use Rattle.type_names.specs.Objects.{object_of}
use Rattle.type_names.proofs.HeadTests.{enumerated_more}
use Rattle.link_graph.specs.Graph.{graph_in, image_of, pool_in, pool_of, pool_unit}
use Rattle.link_graph.specs.Merged.{images_in, kept_object, kept_objects, linked_names, shape_of}
use Rattle.link_graph.specs.declared.object.ObjectShape.{ObjectShape}
use Rattle.link_graph.specs.OwnShapes.{IsOwnShape, StandsBehind, target_behind}
use Rattle.link_graph.specs.Passes.{images_of, marked, unit_in, units_before, units_of}
use Rattle.link_graph.proofs.Gathered.{All-enumerate, All-filter_map, All-flat_map, filter_map_same, map_same}
use Rattle.link_graph.proofs.Joined.{images_are, object_sound, shape_objects}
use Rattle.link_graph.proofs.Pairs.{slice_get_behind}
use Rattle.link_graph.proofs.Placed.{images_placed}
use Rattle.link_graph.proofs.Shapes.{units_shaped, unless_some}

-- nothing is merged
pub names_none : (seen : List Analysis) (live : List (List Bool)) → linked_names false seen live ≡ []
names_none seen live = refl

-- ---- objects

objects_more : (seen : List Analysis) (live : List (List Bool)) (object : Analysis) (row : List Bool) → length live ≡ length seen → objects_of (seen ++ object ∷ []) (live ++ row ∷ []) ≡ objects_of seen live ++ object_of object row ∷ []
objects_more [] [] object row each = refl
objects_more [] (l ∷ live) object row each = absurd (omega (arith, each))
objects_more (s ∷ seen) [] object row each = absurd (omega (arith, each))
objects_more (s ∷ seen) (l ∷ live) object row each = ap (λ (os : List heads.Object). object_of s l ∷ os) (objects_more seen live object row (omega (arith, each)))

-- all its live entries are kept
kept_as_marked : (object : Analysis) (row : List Bool) → length row ≡ length object.entries → kept_object false (object_of object row) ≡ marked object row
kept_as_marked object row whole = ap (marked object) (nothing_merged object.entries row whole)

pairs_more : {A B : Type 0} (P : A × B → Type 0) (xs : List A) (ys : List B) (x : A) (y : B) → length ys ≡ length xs → All P (zip xs ys) → P (x, y) → All P (zip (xs ++ x ∷ []) (ys ++ y ∷ []))
pairs_more {A} {B} P [] [] x y same all here = let last : A × B = (x, y) in All-cons P last [] here (All-nil P)
pairs_more P [] (b ∷ ys) x y same all here = absurd (omega (arith, same))
pairs_more P (a ∷ xs) [] x y same all here = absurd (omega (arith, same))
pairs_more {A} {B} P (a ∷ xs) (b ∷ ys) x y same all here =
    let first : A × B = (a, b) in
    All-cons P first (zip (xs ++ x ∷ []) (ys ++ y ∷ [])) (All-head P first (zip xs ys) all) (pairs_more P xs ys x y (omega (arith, same)) (All-tail P first (zip xs ys) all) here)

-- ---- units

units_all : (objects : List Object) → filter_map (shape_in objects) (sources objects) ≡ flat_map (λ o. units_of o.0 o.1) (enumerate_from 0 objects)
units_all objects = units_shaped objects ∙ ap (flat_map (λ (o : ℕ × Object). units_of o.0 o.1)) (take_all (length objects) (enumerate_from 0 objects) (omega (arith, length-enumerate_from 0 objects)))

-- the units of one object more stand behind
units_one_more : (objects : List Object) (o : Object) → filter_map (shape_in (objects ++ o ∷ [])) (sources (objects ++ o ∷ [])) ≡ filter_map (shape_in objects) (sources objects) ++ units_of (length objects) o
units_one_more objects o =
    units_all (objects ++ o ∷ []) ∙ ap (flat_map each) (enumerated_more 0 objects o) ∙ flat_map-append each (enumerate_from 0 objects) ((0 + length objects, o) ∷ [])
    ∙ ap (λ (us : List ShapeUnit). flat_map each (enumerate_from 0 objects) ++ us) (append-nil (units_of (0 + length objects) o))
    ∙ ap (λ (n : ℕ). flat_map each (enumerate_from 0 objects) ++ units_of n o) number
    ∙ ap (λ (us : List ShapeUnit). us ++ units_of (length objects) o) (sym (units_all objects))
  where
    each : ℕ × Object → List ShapeUnit
    each o = units_of o.0 o.1

    number : 0 + length objects ≡ length objects
    number = omega arith

-- those of the objects before stay
units_before_same : (objects : List Object) (o : Object) (i : ℕ) → i ≤ length objects → units_before (objects ++ o ∷ []) i ≡ units_before objects i
units_before_same objects o i le =
    ap (flat_map (λ (o : ℕ × Object). units_of o.0 o.1))
    (ap (take i) (enumerated_more 0 objects o) ∙ take-append-le i (enumerate_from 0 objects) ((0 + length objects, o) ∷ []) (omega (arith, le, length-enumerate_from 0 objects)))

units_before_all : (objects : List Object) (o : Object) → units_before (objects ++ o ∷ []) (length objects) ≡ filter_map (shape_in objects) (sources objects)
units_before_all objects o = units_before_same objects o (length objects) (omega arith) ∙ sym (units_shaped objects)

-- ---- no pool's unit

no_root : (unit : ShapeUnit) (i : ℕ) (o : Object) (u : ℕ) (kept : List (ℕ × Entry)) → option_and_then (λ (root : Origin). cond (eqb root.object 0) (Some unit) None) (slice_get (map (origin_of i o u) kept) 0) ≡ None
no_root unit i o u [] = refl
no_root unit i o u (e ∷ kept) = ap (λ (b : Bool). cond b (Some unit) None) (ne_eqb (i + 1) 0 (omega arith))

-- a unit of an object names it at its root
own_unit : (i : ℕ) (o : Object) (u : ℕ × InUnit) (unit : ShapeUnit) → unit_in i o u ≡ Some unit → pool_in unit ≡ None
own_unit i o u unit is =
    let made : ShapeUnit = record { version = u.1.version; nodes = map (origin_of i o u.0) (kept_entries o u.0) } in
    ap pool_in (sym (unless_some (eqb (length (kept_entries o u.0)) 0) made unit is)) ∙ no_root made i o u.0 (kept_entries o u.0)

first_plain : (units : List ShapeUnit) → All (λ unit. pool_in unit ≡ None) units → option_and_then pool_in (slice_get units 0) ≡ None
first_plain [] all = refl
first_plain (unit ∷ units) all = All-head (λ (unit : ShapeUnit). pool_in unit ≡ None) unit units all

pub no_pool : (objects : List Object) (shape : Shape) → shape.units ≡ filter_map (shape_in objects) (sources objects) → pool_of shape ≡ None
no_pool objects shape are =
    ap (λ (units : List ShapeUnit). option_and_then pool_in (slice_get units 0)) (are ∙ units_all objects)
    ∙ first_plain (flat_map (λ (o : ℕ × Object). units_of o.0 o.1) (enumerate_from 0 objects))
    (All-flat_map (λ (unit : ShapeUnit). pool_in unit ≡ None) (λ (o : ℕ × Object). units_of o.0 o.1) (enumerate_from 0 objects)
    (λ k d lt. (let o : ℕ × Object = get_or (enumerate_from 0 objects) k d in
    All-filter_map (λ (unit : ShapeUnit). pool_in unit ≡ None) (unit_in o.0 o.1) (enumerate_from 0 o.1.seen.units) (λ j e within unit is. own_unit o.0 o.1 (get_or (enumerate_from 0 o.1.seen.units) j e) unit is))))

-- ---- the units of a graph

sources_more : (objects : List Object) (o : Object) → sources (objects ++ o ∷ []) ≡ sources objects ++ sources_in (length objects, o)
sources_more objects o =
    ap (flat_map sources_in) (enumerated_more 0 objects o) ∙ flat_map-append sources_in (enumerate_from 0 objects) ((0 + length objects, o) ∷ [])
    ∙ ap (λ (ss : List Source). sources objects ++ ss) (append-nil (sources_in (0 + length objects, o)) ∙ ap (λ (n : ℕ). sources_in (n, o)) number)
  where
    number : 0 + length objects ≡ length objects
    number = omega arith

sources_within : (objects : List Object) → All (λ source. source.object < length objects) (sources objects)
sources_within objects =
    All-flat_map (λ (source : Source). source.object < length objects) sources_in (enumerate_from 0 objects)
    (All-weaker (λ (x : ℕ × Object). slice_get objects x.0 ≡ Some x.1) (λ x. All (λ source. source.object < length objects) (sources_in x))
    (λ x at. All-filter_map (λ (source : Source). source.object < length objects) (own x) (enumerate_from 0 x.1.seen.units)
    (λ k d lt source is. below x at (get_or (enumerate_from 0 x.1.seen.units) k d) source is))
    (enumerate_from 0 objects) (All-enumerate objects))
  where
    own : ℕ × Object → ℕ × InUnit → Option Source
    own x u = cond (eqb (length (kept_entries x.1 u.0)) 0) None (Some (record { object = x.0; unit = u.0 }))

    below : (x : ℕ × Object) → slice_get objects x.0 ≡ Some x.1 → (u : ℕ × InUnit) (source : Source) → own x u ≡ Some source → source.object < length objects
    below x at u source is =
        let made : Source = record { object = x.0; unit = u.0 } in
        let same : x.0 ≡ source.object = ap (λ (s : Source). s.object) (unless_some (eqb (length (kept_entries x.1 u.0)) 0) made source is) in
        omega (arith, same, slice_get_within objects x.0 x.1 at)

-- what is written of the objects before is the same, where references to their entries lead as before
written_more : (objects : List Object) (o : Object) (image before : ℕ → ℕ → Option Target) → ((i : ℕ) → i < length objects → image i ≡ before i)
    → filter_map (written image (objects ++ o ∷ [])) (sources (objects ++ o ∷ [])) ≡ filter_map (written before objects) (sources objects) ++ filter_map (written image (objects ++ o ∷ [])) (sources_in (length objects, o))
written_more objects o image before same =
    ap (filter_map f) (sources_more objects o) ∙ filter_map-append f (sources objects) (sources_in (length objects, o))
    ∙ ap (λ (us : List OutUnit). us ++ filter_map f (sources_in (length objects, o)))
    (filter_map_same f (written before objects) (sources objects) (All-weaker (λ (source : Source). source.object < length objects) (λ source. f source ≡ written before objects source) each (sources objects) (sources_within objects)))
  where
    f : Source → Option OutUnit
    f = written image (objects ++ o ∷ [])

    by : (ℕ → Option Target) → Source → Option Object → Option OutUnit
    by leads source found = option_and_then (λ o. option_map (unit_written leads o source.unit) (slice_get o.seen.units source.unit)) found

    each : (source : Source) → source.object < length objects → f source ≡ written before objects source
    each source lt =
        ap (λ (leads : ℕ → Option Target). by leads source (slice_get (objects ++ o ∷ []) source.object)) (same source.object lt)
        ∙ ap (by (before source.object) source) (get_before objects (o ∷ []) source.object lt)

-- the graph has the units of the objects alone
graph_units : (seen : List Analysis) (live : List (List Bool)) → All IsSound seen
    → (graph_in seen (shape_of false seen live)).units ≡ filter_map (written (image_of (shape_of false seen live)) (kept_objects false seen live)) (sources (kept_objects false seen live))
graph_units seen live sound =
    ap (λ (pool : Option ShapeUnit). option_map_or (λ unit. pool_unit (image_of shape) seen unit.version unit.nodes ∷ []) pool [] ++ filter_map (written (image_of shape) (objects_in seen shape)) (sources (objects_in seen shape)))
    (no_pool (kept_objects false seen live) shape refl)
    ∙ ap (λ (os : List Object). filter_map (written (image_of shape) os) (sources os)) (shape_objects false seen live shape sound refl)
  where
    shape : Shape
    shape = shape_of false seen live

-- ---- one object more

abbrev made : List ShapeUnit → List (List (Option ℕ)) → List (List (Option Target)) → Shape
made units plain images = record { units = units; plain = plain; images = images }

module _ (seen : List Analysis) (live : List (List Bool)) (object : Analysis) (row : List Bool) (behind : StandsBehind seen live object row) where
  abbrev first : Shape
  first = shape_of false seen live

  abbrev later : Shape
  later = shape_of false (seen ++ object ∷ []) (live ++ row ∷ [])

  -- what one object more gives
  abbrev grown : Shape
  grown = made (first.units ++ units_of (length seen) (marked object row)) (first.plain ++ plain_in (marked object row) ∷ []) (first.images ++ images_of (length first.units) (length seen) (marked object row) ∷ [])

  pub sound_more : All IsSound (seen ++ object ∷ [])
  sound_more = All-append IsSound seen (object ∷ []) behind.sound (All-cons IsSound object [] behind.its_sound (All-nil IsSound))

  pub marked_more : AreMarked (seen ++ object ∷ []) (live ++ row ∷ [])
  marked_more = record {
    each = omega (arith, behind.marked.each, length-append live (row ∷ []), length-append seen (object ∷ []));
    whole = pairs_more (λ (o : Analysis × List Bool). length o.1 ≡ length o.0.entries) seen live object row behind.marked.each behind.marked.whole behind.its_marks;
  }

  abbrev objects : List heads.Object
  objects = objects_of seen live

  abbrev kept : List Object
  kept = kept_objects false seen live

  all_objects : objects_of (seen ++ object ∷ []) (live ++ row ∷ []) ≡ objects ++ object_of object row ∷ []
  all_objects = objects_more seen live object row behind.marked.each

  long : length objects ≡ length seen
  long = length_objects seen live behind.marked.each

  kept_long : length kept ≡ length seen
  kept_long = length-map objects (kept_object false) ∙ long

  all_kept : kept_objects false (seen ++ object ∷ []) (live ++ row ∷ []) ≡ kept ++ marked object row ∷ []
  all_kept = ap (map (kept_object false)) all_objects ∙ map-append (kept_object false) objects (object_of object row ∷ []) ∙ ap (λ (o : Object). kept ++ o ∷ []) (kept_as_marked object row behind.its_marks)

  units_grown : later.units ≡ grown.units
  units_grown =
      ap (λ (os : List Object). filter_map (shape_in os) (sources os)) all_kept ∙ units_one_more kept (marked object row)
      ∙ ap (λ (n : ℕ). first.units ++ units_of n (marked object row)) kept_long

  plain_grown : later.plain ≡ grown.plain
  plain_grown = ap (map plain_in) all_kept ∙ map-append plain_in kept (marked object row ∷ [])

  -- where references to the entries of an object lead, by the units before it
  leads : (seen' : List Analysis) (live' : List (List Bool)) (i n : ℕ) (o : heads.Object) → slice_get (objects_of seen' live') i ≡ Some o → IsSound o.seen → n ≡ length (units_before (kept_objects false seen' live') i)
      → images_in false seen' live' (i, o) ≡ images_of n i (kept_object false o)
  leads seen' live' i n o at sound is = sym (images_are false seen' live' i n o at sound (omega (arith, is)))

  all_at : (i : ℕ) (o : heads.Object) → slice_get (objects ++ object_of object row ∷ []) i ≡ Some o → slice_get (objects_of (seen ++ object ∷ []) (live ++ row ∷ [])) i ≡ Some o
  all_at i o at = ap (λ (os : List heads.Object). slice_get os i) all_objects ∙ at

  same_before : (i : ℕ) → i ≤ length kept → length (units_before (kept_objects false (seen ++ object ∷ []) (live ++ row ∷ [])) i) ≡ length (units_before kept i)
  same_before i le = ap (λ (os : List Object). length (units_before os i)) all_kept ∙ ap length (units_before_same kept (marked object row) i le)

  -- the images of an object before stay
  images_stay : (x : ℕ × heads.Object) → slice_get objects x.0 ≡ Some x.1 → images_in false (seen ++ object ∷ []) (live ++ row ∷ []) x ≡ images_in false seen live x
  images_stay x at =
      let within : x.0 < length objects = slice_get_within objects x.0 x.1 at in
      let sound : IsSound x.1.seen = object_sound seen live x.0 x.1 behind.sound at in
      let n = length (units_before kept x.0) in
      leads (seen ++ object ∷ []) (live ++ row ∷ []) x.0 n x.1 (all_at x.0 x.1 (get_before objects (object_of object row ∷ []) x.0 within ∙ at)) sound (sym (same_before x.0 (omega (arith, within, long, kept_long))))
      ∙ sym (leads seen live x.0 n x.1 at sound refl)

  -- the units of all objects before
  all_before : length first.units ≡ length (units_before (kept_objects false (seen ++ object ∷ []) (live ++ row ∷ [])) (length seen))
  all_before =
      ap length (units_shaped kept) ∙ ap (λ (n : ℕ). length (units_before kept n)) kept_long ∙ sym (same_before (length seen) (omega (arith, kept_long)))

  last_at : slice_get (objects_of (seen ++ object ∷ []) (live ++ row ∷ [])) (length seen) ≡ Some (object_of object row)
  last_at = all_at (length seen) (object_of object row) (ap (slice_get (objects ++ object_of object row ∷ [])) (sym long) ∙ slice_get_behind objects (object_of object row) [])

  last_images : images_in false (seen ++ object ∷ []) (live ++ row ∷ []) (length seen, object_of object row) ≡ images_of (length first.units) (length seen) (marked object row)
  last_images =
      leads (seen ++ object ∷ []) (live ++ row ∷ []) (length seen) (length first.units) (object_of object row) last_at behind.its_sound all_before
      ∙ ap (images_of (length first.units) (length seen)) (kept_as_marked object row behind.its_marks)

  images_grown : later.images ≡ grown.images
  images_grown =
      ap (λ (os : List heads.Object). map images (enumerate_from 0 os)) all_objects
      ∙ ap (map images) (enumerated_more 0 objects (object_of object row))
      ∙ map-append images (enumerate_from 0 objects) ((0 + length objects, object_of object row) ∷ [])
      ∙ ap (λ (rows : List (List (Option Target))). rows ++ images (0 + length objects, object_of object row) ∷ [])
      (map_same images (images_in false seen live) (enumerate_from 0 objects)
      (All-weaker (λ (x : ℕ × heads.Object). slice_get objects x.0 ≡ Some x.1) (λ x. images x ≡ images_in false seen live x) images_stay (enumerate_from 0 objects) (All-enumerate objects)))
      ∙ ap (λ (ims : List (Option Target)). first.images ++ ims ∷ []) (ap (λ (n : ℕ). images (n, object_of object row)) number ∙ last_images)
    where
      images : ℕ × heads.Object → List (Option Target)
      images = images_in false (seen ++ object ∷ []) (live ++ row ∷ [])

      number : 0 + length objects ≡ length seen
      number = omega (arith, long)

  pub shape_grown : later ≡ grown
  shape_grown =
      ap (λ (units : List ShapeUnit). made units later.plain later.images) units_grown ∙ ap (λ (plain : List (List (Option ℕ))). made grown.units plain later.images) plain_grown
      ∙ ap (made grown.units grown.plain) images_grown

  -- the units of the objects before stand first
  pub units_begin : (others : List ShapeUnit) × (later.units ≡ first.units ++ others)
  units_begin = (units_of (length seen) (marked object row), units_grown)

  -- ---- what the object gives, put behind

  module _ (old : Shape) (own : ObjectShape) (is : old ≡ first) (gives : IsOwnShape (length seen) (marked object row) own) where
    pub units_added : length later.units ≡ length old.units + length own.units.items
    units_added =
        ap length units_grown ∙ length-append first.units (units_of (length seen) (marked object row))
        ∙ ap (λ (n : ℕ). n + length (units_of (length seen) (marked object row))) (ap (λ (shape : Shape). length shape.units) (sym is))
        ∙ ap (λ (us : List ShapeUnit). length old.units + length us) (sym gives.units)

    pub object_added : (before : ℕ) (units : List ShapeUnit) (plain : List (List (Option ℕ))) (images : List (List (Option Target))) → before ≡ length old.units → units ≡ old.units ++ own.units.items
        → plain ≡ old.plain ++ own.plain ∷ [] → images ≡ old.images ++ map (target_behind before) own.images ∷ [] → made units plain images ≡ later
    object_added before units plain images place are_units are_plain are_images =
        ap (λ (us : List ShapeUnit). made us plain images) (are_units ∙ ap (λ (us : List ShapeUnit). old.units ++ us) gives.units)
        ∙ ap (λ (rows : List (List (Option ℕ))). made (old.units ++ units_of n o) rows images) (are_plain ∙ ap (λ (row : List (Option ℕ)). old.plain ++ row ∷ []) gives.plain)
        ∙ ap (made (old.units ++ units_of n o) (old.plain ++ plain_in o ∷ [])) (are_images ∙ ap (λ (ims : List (Option Target)). old.images ++ ims ∷ []) placed)
        ∙ ap behind_shape is ∙ sym shape_grown
      where
        n : ℕ
        n = length seen

        o : Object
        o = marked object row

        behind_shape : Shape → Shape
        behind_shape shape = made (shape.units ++ units_of n o) (shape.plain ++ plain_in o ∷ []) (shape.images ++ images_of (length shape.units) n o ∷ [])

        placed : map (target_behind before) own.images ≡ images_of (length old.units) n o
        placed = ap (map (target_behind before)) gives.images ∙ images_placed before n o ∙ ap (λ (b : ℕ). images_of b n o) place

  -- ---- the graph

  images_same : (i : ℕ) → i < length kept → image_of later i ≡ image_of first i
  images_same i lt = ap look_up (ap (λ (rows : List (List (Option Target))). slice_get rows i) images_grown
      ∙ get_before first.images (images_of (length first.units) (length seen) (marked object row) ∷ []) i (omega (arith, lt, kept_long, images_long)))
    where
      images_long : length first.images ≡ length seen
      images_long = length-map (enumerate_from 0 objects) (images_in false seen live) ∙ length-enumerate_from 0 objects ∙ long

      look_up : Option (List (Option Target)) → ℕ → Option Target
      look_up found k = option_and_then (λ images. option_and_then (λ image. image) (slice_get images k)) found

  -- the units of the graph of the objects before stand first in that of all
  pub graph_begins : (others : List OutUnit) × ((graph_in (seen ++ object ∷ []) later).units ≡ (graph_in seen first).units ++ others)
  graph_begins = (
    others,
    graph_units (seen ++ object ∷ []) (live ++ row ∷ []) sound_more
        ∙ ap (λ (os : List Object). filter_map (written (image_of later) os) (sources os)) all_kept
        ∙ written_more kept (marked object row) (image_of later) (image_of first) images_same
        ∙ ap (λ (units : List OutUnit). units ++ others) (sym (graph_units seen live behind.sound)),
  )
    where
      others : List OutUnit
      others = filter_map (written (image_of later) (kept ++ marked object row ∷ [])) (sources_in (length kept, marked object row))
