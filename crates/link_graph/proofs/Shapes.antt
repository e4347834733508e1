-- The shape of all objects, object by object.
use Rattle.std.proofs.Common.{◌≡◌, ℕ, ◌+◌, ◌<◌, ◌-◌, Bool, true, false, cond, eqb, List, [], ◌∷◌, ◌++◌, length, map, take, drop, get_or, slice_get, Option, Some, None, is_some, inl, inr, refl, sym, ap, subst, ◌∙◌, arith, append_assoc, append-nil, length-append}
use Rattle.std.specs.List.{All, cons_option, enumerate_from, filter_map, flat_map, position, zip}
use Rattle.std.specs.Option.{option_and_then, option_map}
use Rattle.std.proofs.lemmas.Bool.{and_from, and_left, and_right, eq-eqb, ne_eqb}
use Rattle.std.proofs.lemmas.Grind.{flat_map-append}
use Rattle.std.proofs.lemmas.List.{get_or_default, map-append, length-map, take_all, take_more, same_lists, get_or-map}
use Rattle.std.proofs.lemmas.List.Elements.{All-append, All-weaker, filter_map-append}
use Rattle.std.proofs.lemmas.List.FromFn.{length-enumerate_from}
use Rattle.std.proofs.lemmas.Simd.{map-map}
use Rattle.std.proofs.lemmas.Option.{get_or_from_slice_get, same_Some, slice_get_cases, slice_get-get_or, slice_get-map, slice_get_within}
use Rattle.std.proofs.lemmas.Slice.Zip.{get_or-zip, length-zip}
use Rattle.dwarf_types.specs.declared.analysis.Analysis.{Analysis}
use Rattle.dwarf_types.specs.declared.entry.Entry.{Entry}
use Rattle.dwarf_types.specs.declared.entry.InUnit.{InUnit}
use Rattle.dwarf_types.specs.declared.graph.Target.{Target}
use Rattle.dwarf_types.specs.declared.shape.ShapeUnit.{ShapeUnit}
use Rattle.dwarf_types.specs.Live.{Stands}
use Rattle.dwarf_types.specs.LinkedShape.{AreMarked, objects_of, plain_in, shape_in, unit_shape}
use Rattle.dwarf_types.specs.LinkedUnits.{Object, Source, plain_target, is_kept, kept_entries, node_number, numbered, same_source, sources, sources_in}
use Rattle.dwarf_types.specs.Sound.{IsSound}
use Rattle.link_graph.specs.Passes.{image_behind, images_of, node_in, plain_before, unit_in, units_before, units_below, units_of}
use Rattle.link_graph.proofs.Gathered.{All-enumerate, All-filter_map, All-flat_map, as_many, as_many_in_all, enumerate_more, filter_map_same, filter_map_then, flat_map_gives, map_same, numbers_below, parts_at}
use Rattle.link_graph.proofs.Nodes.{kept_read, number_of_entry}
use Rattle.link_graph.proofs.Positions.{position_found}
use Rattle.link_graph.proofs.Rows.{node_back}
use Rattle.link_graph.proofs.Stretches.{numbered_at, numbered_length}

-- ---- units as sources

-- a unit by its number, as a source
abbrev source_of : ℕ → Object → ℕ × InUnit → Option Source
source_of object o u = cond (eqb (length (kept_entries o u.0)) 0) None (Some (record { object = object; unit = u.0 }))

both_some : {A B : Type 0} (b : Bool) (x : A) (y : B) → is_some (cond b None (Some x)) ≡ is_some (cond b None (Some y))
both_some true x y = refl
both_some false x y = refl

unless_then : {A B : Type 0} (g : A → Option B) (b : Bool) (x : A) (y : B) → g x ≡ Some y → option_and_then g (cond b None (Some x)) ≡ cond b None (Some y)
unless_then g true x y e = refl
unless_then g false x y e = e

pub unless_some : {A : Type 0} (b : Bool) (x y : A) → cond b None (Some x) ≡ Some y → x ≡ y
unless_some true x y e = absurd cc
unless_some false x y e = same_Some x y e

-- as many sources as units
sources_below : (object : ℕ) (o : Object) (us : List (ℕ × InUnit)) → length (filter_map (source_of object o) us) ≡ length (filter_map (unit_in object o) us)
sources_below object o us = as_many (source_of object o) (unit_in object o) us (λ u. both_some (eqb (length (kept_entries o u.0)) 0) _ _)

sources_before : (objects : List (ℕ × Object)) → length (flat_map sources_in objects) ≡ length (flat_map (λ o. units_of o.0 o.1) objects)
sources_before objects = as_many_in_all sources_in (λ o. units_of o.0 o.1) objects (λ o. sources_below o.0 o.1 (enumerate_from 0 o.1.seen.units))

unit_shaped : (objects : List Object) (object : ℕ) (o : Object) → slice_get objects object ≡ Some o → (u : ℕ × InUnit) → slice_get o.seen.units u.0 ≡ Some u.1 → option_and_then (shape_in objects) (source_of object o u) ≡ unit_in object o u
unit_shaped objects object o at u is =
    let source : Source = record { object = object; unit = u.0 } in
    let shape : shape_in objects source ≡ Some (unit_shape source o u.1) =
    ap (option_and_then (λ (x : Object). option_map (unit_shape source x) (slice_get x.seen.units u.0))) at ∙ ap (option_map (unit_shape source o)) is in
    unless_then (shape_in objects) (eqb (length (kept_entries o u.0)) 0) source (unit_shape source o u.1) shape

-- the units of the shape are those of the objects
pub units_shaped : (objects : List Object) → filter_map (shape_in objects) (sources objects) ≡ units_before objects (length objects)
units_shaped objects =
    flat_map_gives sources_in (shape_in objects) (λ o. units_of o.0 o.1) (enumerate_from 0 objects)
    (All-weaker (λ (x : ℕ × Object). slice_get objects x.0 ≡ Some x.1) (λ x. filter_map (shape_in objects) (sources_in x) ≡ units_of x.0 x.1)
    (λ x at. filter_map_then (source_of x.0 x.1) (shape_in objects) (enumerate_from 0 x.1.seen.units)
    ∙ filter_map_same (λ u. option_and_then (shape_in objects) (source_of x.0 x.1 u)) (unit_in x.0 x.1) (enumerate_from 0 x.1.seen.units)
    (All-weaker (λ (u : ℕ × InUnit). slice_get x.1.seen.units u.0 ≡ Some u.1) (λ u. option_and_then (shape_in objects) (source_of x.0 x.1 u) ≡ unit_in x.0 x.1 u)
    (λ u is. unit_shaped objects x.0 x.1 at u is) (enumerate_from 0 x.1.seen.units) (All-enumerate x.1.seen.units)))
    (enumerate_from 0 objects) (All-enumerate objects))
    ∙ ap (flat_map (λ (o : ℕ × Object). units_of o.0 o.1)) (sym (take_all (length objects) (enumerate_from 0 objects) (omega (arith, length-enumerate_from 0 objects))))

-- ---- the number of a unit

-- a unit that is written stands behind the units before it
pub source_position : (objects : List Object) (i : ℕ) (o : Object) (u : ℕ) (unit : InUnit) → slice_get objects i ≡ Some o → slice_get o.seen.units u ≡ Some unit → eqb (length (kept_entries o u)) 0 ≡ false
    → position (same_source (record { object = i; unit = u })) (sources objects) ≡ Some (length (units_before objects i) + length (units_below i o u))
source_position objects i o u unit at is written =
    ap (position p) whole ∙ position_found p (before ++ below) source (above ++ behind) (All-append (λ y. p y ≡ false) before below none_before none_below) here
    ∙ ap (λ (n : ℕ). Some n) (length-append before below ∙ ap (λ (n : ℕ). n + length below) (sources_before (take i (enumerate_from 0 objects))) ∙ ap (λ (n : ℕ). length (units_before objects i) + n) (sources_below i o (take u (enumerate_from 0 o.seen.units))))
  where
    source : Source
    source = record { object = i; unit = u }

    p : Source → Bool
    p = same_source source

    before : List Source
    before = flat_map sources_in (take i (enumerate_from 0 objects))

    behind : List Source
    behind = flat_map sources_in (drop (i + 1) (enumerate_from 0 objects))

    below : List Source
    below = filter_map (source_of i o) (take u (enumerate_from 0 o.seen.units))

    above : List Source
    above = filter_map (source_of i o) (drop (u + 1) (enumerate_from 0 o.seen.units))

    own : sources_in (i, o) ≡ below ++ source ∷ above
    own = ap (filter_map (source_of i o)) (parts_at o.seen.units u unit is) ∙ filter_map-append (source_of i o) (take u (enumerate_from 0 o.seen.units)) ((u, unit) ∷ drop (u + 1) (enumerate_from 0 o.seen.units))
        ∙ ap (λ (b : Bool). below ++ cons_option (cond b None (Some source)) above) written

    whole : sources objects ≡ (before ++ below) ++ source ∷ (above ++ behind)
    whole = ap (flat_map sources_in) (parts_at objects i o at) ∙ flat_map-append sources_in (take i (enumerate_from 0 objects)) ((i, o) ∷ drop (i + 1) (enumerate_from 0 objects))
        ∙ ap (λ (ys : List Source). before ++ (ys ++ behind)) own ∙ ap (λ (ys : List Source). before ++ ys) (append_assoc below (source ∷ above) behind) ∙ sym (append_assoc before below (source ∷ (above ++ behind)))

    here : p source ≡ true
    here = and_from (eqb i i) (eqb u u) (eq-eqb i i refl) (eq-eqb u u refl)

    none_before : All (λ y. p y ≡ false) before
    none_before = All-flat_map (λ y. p y ≡ false) sources_in (take i (enumerate_from 0 objects))
        (All-weaker (λ (x : ℕ × Object). x.0 < i) (λ x. All (λ y. p y ≡ false) (sources_in x))
        (λ x lt. All-filter_map (λ y. p y ≡ false) (source_of x.0 x.1) (enumerate_from 0 x.1.seen.units)
        (λ k d within y e. subst (λ (s : Source). p s ≡ false) (unless_some _ (record { object = x.0; unit = (get_or (enumerate_from 0 x.1.seen.units) k d).0 }) y e) (and_left (eqb i x.0) _ (ne_eqb i x.0 (λ same. omega (arith, lt, same))))))
        (take i (enumerate_from 0 objects)) (numbers_below objects i))

    none_below : All (λ y. p y ≡ false) below
    none_below = All-filter_map (λ y. p y ≡ false) (source_of i o) (take u (enumerate_from 0 o.seen.units))
        (All-weaker (λ (x : ℕ × InUnit). x.0 < u) (λ x. (y : Source) → source_of i o x ≡ Some y → p y ≡ false)
        (λ x lt y e. subst (λ (s : Source). p s ≡ false) (unless_some _ (record { object = i; unit = x.0 }) y e) (and_right (eqb i i) (eqb u x.0) (ne_eqb u x.0 (λ same. omega (arith, lt, same)))))
        (take u (enumerate_from 0 o.seen.units)) (numbers_below o.seen.units u))

-- ---- images

pub some_there : {A : Type 0} (p : A → Bool) (xs : List A) (n : ℕ) → position p xs ≡ Some n → eqb (length xs) 0 ≡ false
some_there p [] n e = absurd cc
some_there p (x ∷ xs) n e = ne_eqb (length (x ∷ xs)) 0 (λ same. omega (arith, same))

abbrev images_of_nodes : Option ℕ → ℕ → Option Target
images_of_nodes node unit = option_map (λ n. record { unit = unit; node = n }) node

image_found : (node unit : Option ℕ) (first number : ℕ) → ((n : ℕ) → node ≡ Some n → unit ≡ Some number) → option_and_then (λ u. images_of_nodes node (first + u)) unit ≡ images_of_nodes node (first + number)
image_found None None first number h = refl
image_found None (Some u) first number h = refl
image_found (Some n) unit first number h = ap (option_and_then (λ u. images_of_nodes (Some n) (first + u))) (h n refl)

-- the image of an entry's own node, where the units of the objects stand behind so many others
pub image_is : (first : ℕ) (objects : List Object) (i : ℕ) (o : Object) (k : ℕ) (e : Entry) → slice_get objects i ≡ Some o → Stands o.seen.entries k e → IsSound o.seen
    → plain_target first objects i k ≡ image_behind (first + length (units_before objects i)) i o (k, e)
image_is first objects i o k e at stands sound =
    let place : first + (length (units_before objects i) + length (units_below i o e.unit)) ≡ first + length (units_before objects i) + length (units_below i o e.unit) = omega arith in
    ap (option_and_then (λ (o : Object). option_and_then (λ (e : Entry). option_and_then (λ unit. option_map (λ node. record { unit = first + unit; node = node }) (node_number o e.unit k))
    (position (same_source (record { object = i; unit = e.unit })) (sources objects))) (slice_get o.seen.entries k))) at
    ∙ ap (option_and_then (λ (e : Entry). option_and_then (λ unit. option_map (λ node. record { unit = first + unit; node = node }) (node_number o e.unit k))
    (position (same_source (record { object = i; unit = e.unit })) (sources objects)))) stands
    ∙ image_found (node_number o e.unit k) (position (same_source (record { object = i; unit = e.unit })) (sources objects)) first (length (units_before objects i) + length (units_below i o e.unit))
    (λ n is. source_position objects i o e.unit (sound.entries k e stands).unit at (sound.entries k e stands).its_unit (some_there (λ x. eqb x.0 k) (kept_entries o e.unit) n is))
    ∙ ap (images_of_nodes (node_number o e.unit k)) place

-- ---- one object more

pub units_before_more : (objects : List Object) (i : ℕ) (o : Object) → slice_get objects i ≡ Some o → units_before objects (i + 1) ≡ units_before objects i ++ units_of i o
units_before_more objects i o at =
    ap (flat_map (λ (o : ℕ × Object). units_of o.0 o.1)) (enumerate_more objects i o at) ∙ flat_map-append (λ (o : ℕ × Object). units_of o.0 o.1) (take i (enumerate_from 0 objects)) ((i, o) ∷ [])
    ∙ ap (λ (us : List ShapeUnit). units_before objects i ++ us) (append-nil (units_of i o))

-- ---- which entries have a node

some_if : (b : Bool) (n : ℕ) → is_some (cond b (Some n) None) ≡ b
some_if true n = refl
some_if false n = refl

-- an entry has a node where it is kept
plain_where_kept : (o : Object) (k : ℕ) (e : Entry) → Stands o.seen.entries k e → IsSound o.seen → is_some (node_number o e.unit k) ≡ is_kept o k
plain_where_kept o k e at sound =
    let s = sound.entries k e at in
    let place : s.unit.first + (k - s.unit.first) ≡ k = omega (arith, s.lies.from_first) in
    let node = number_of_entry o e.unit s.unit (k - s.unit.first) sound s.its_unit (omega (arith, s.lies.from_first, s.lies.before_end)) in
    ap (λ (n : ℕ). is_some (node_number o e.unit n)) (sym place) ∙ ap is_some node ∙ some_if (is_kept o (s.unit.first + (k - s.unit.first))) _ ∙ ap (is_kept o) place

pub marks_of : (o : Object) → IsSound o.seen → length o.kept ≡ length o.seen.entries → map is_some (plain_in o) ≡ o.kept
marks_of o sound whole =
    let f : ℕ × Entry → Option ℕ = λ e. node_number o e.1.unit e.0 in
    let long : length (plain_in o) ≡ length o.seen.entries = length-map (numbered o) f ∙ numbered_length o in
    same_lists (map is_some (plain_in o)) o.kept (length-map (plain_in o) is_some ∙ long ∙ sym whole) (λ k d lt.
    let within : k < length o.seen.entries = omega (arith, lt, length-map (plain_in o) is_some, long) in
    let here : (e : Entry) → Stands o.seen.entries k e → get_or (map is_some (plain_in o)) k d ≡ get_or o.kept k d = λ e at.
    get_or-map is_some (plain_in o) k None d (omega (arith, long))
    ∙ ap is_some (get_or-map f (numbered o) k (k, e) None (omega (arith, numbered_length o)) ∙ ap f (numbered_at o k (k, e) within ∙ ap (λ (x : Entry). (k, x)) (get_or_from_slice_get o.seen.entries k e e at)))
    ∙ plain_where_kept o k e at sound ∙ kept_read o k (omega (arith, whole)) ∙ get_or_default o.kept k false d (omega (arith, whole)) in
    elim (slice_get_cases o.seen.entries k).1 [ inl w ↦ here w.0 w.2 | inr w ↦ absurd (omega (arith, w.0)) ])

pub plain_from_images : (before object : ℕ) (o : Object) → map node_in (images_of before object o) ≡ plain_in o
plain_from_images before object o =
    map-map node_in (image_behind before object o) (numbered o)
    ∙ map_same (λ (e : ℕ × Entry). node_in (image_behind before object o e)) (λ (e : ℕ × Entry). node_number o e.1.unit e.0) (numbered o)
    (λ k d lt. node_back _ _)

-- ---- analyses and their marks

object_at : (seen : List Analysis) (marks : List (List Bool)) (k : ℕ) (s : Analysis) (m : List Bool) → slice_get seen k ≡ Some s → slice_get marks k ≡ Some m
    → slice_get (objects_of seen marks) k ≡ Some (record { seen = s; kept = m })
object_at seen marks k s m at is =
    let in_seen = slice_get_within seen k s at in
    let in_marks = slice_get_within marks k m is in
    slice_get-map _ (zip seen marks) k
    ∙ ap (option_map (λ (x : Analysis × List Bool). record { seen = x.0; kept = x.1 }))
    (slice_get-get_or (zip seen marks) k (s, m) (omega (arith, length-zip seen marks))
    ∙ ap (λ (x : Analysis × List Bool). Some x) (get_or-zip seen marks k (s, m) in_seen in_marks ∙ cc (get_or_from_slice_get seen k s s at, get_or_from_slice_get marks k m m is)))

-- each object is one of the analyses with its marks
pub record Parts (seen : List Analysis) (marks : List (List Bool)) (k : ℕ) (o : Object) : Type 0 where
  pub analysis : slice_get seen k ≡ Some o.seen
  pub marked : slice_get marks k ≡ Some o.kept

objects_long : (seen : List Analysis) (marks : List (List Bool)) → length marks ≡ length seen → length (objects_of seen marks) ≡ length seen
objects_long seen marks each = length-map (zip seen marks) _ ∙ omega (arith, length-zip seen marks, each)

pub object_parts : (seen : List Analysis) (marks : List (List Bool)) (k : ℕ) (o : Object) → length marks ≡ length seen → slice_get (objects_of seen marks) k ≡ Some o → Parts seen marks k o
object_parts seen marks k o each at =
    let within : k < length seen = omega (arith, slice_get_within (objects_of seen marks) k o at, objects_long seen marks each) in
    let made = object_at seen marks k (get_or seen k o.seen) (get_or marks k o.kept) (slice_get-get_or seen k o.seen within) (slice_get-get_or marks k o.kept (omega (arith, within, each))) in
    let same = same_Some _ o (sym made ∙ at) in
    record {
      analysis = slice_get-get_or seen k o.seen within ∙ ap (λ (x : Object). Some x.seen) same;
      marked = slice_get-get_or marks k o.kept (omega (arith, within, each)) ∙ ap (λ (x : Object). Some x.kept) same;
    }

pub objects_sound : (seen : List Analysis) (marks : List (List Bool)) → length marks ≡ length seen → All IsSound seen → (i : ℕ) (o : Object) → slice_get (objects_of seen marks) i ≡ Some o → IsSound o.seen
objects_sound seen marks each sound i o at =
    let part = (object_parts seen marks i o each at).analysis in
    subst IsSound (get_or_from_slice_get seen i o.seen o.seen part) (sound i o.seen (slice_get_within seen i o.seen part))

pub marks_whole : (seen : List Analysis) (marks : List (List Bool)) (i : ℕ) (s : Analysis) (m : List Bool) → AreMarked seen marks → i < length seen → s ≡ get_or seen i s → m ≡ get_or marks i m → length m ≡ length s.entries
marks_whole seen marks i s m marked lt is is' =
    let both : get_or (zip seen marks) i (s, m) ≡ (s, m) = get_or-zip seen marks i (s, m) lt (omega (arith, marked.each)) ∙ cc (is, is') in
    subst (λ (x : Analysis × List Bool). length x.1 ≡ length x.0.entries) both (marked.whole i (s, m) (omega (arith, length-zip seen marks, marked.each)))

pub plain_before_more : (objects : List Object) (i : ℕ) (o : Object) → slice_get objects i ≡ Some o → plain_before objects (i + 1) ≡ plain_before objects i ++ plain_in o ∷ []
plain_before_more objects i o at =
    let within : i < length objects = slice_get_within objects i o at in
    ap (map plain_in) (take_more objects i o within ∙ ap (λ (x : Object). take i objects ++ x ∷ []) (get_or_from_slice_get objects i o o at)) ∙ map-append plain_in (take i objects) (o ∷ [])
