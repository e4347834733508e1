-- Where references lead once the units of an object stand behind others.
use Rattle.std.proofs.Common.{◌≡◌, ℕ, ◌+◌, ◌^◌, ◌<◌, ◌≤◌, Bool, false, cond, eqb, List, [], ◌∷◌, ◌++◌, length, map, take, drop, set, get_or, slice_get, Option, Some, None, refl, sym, ap, subst, ◌∙◌, arith, length-append}
use Rattle.std.specs.List.{All, cons_option, enumerate_from, filter_map}
use Rattle.std.specs.Option.{IfSome}
use Rattle.std.proofs.lemmas.List.{drop-drop, drop-set-lt, get_or-drop, length-set, map-append, take_all, take_more, take_more_set}
use Rattle.std.proofs.lemmas.List.Elements.{All-map, All-weaker, filter_map-append}
use Rattle.std.proofs.lemmas.Simd.{map-map}
use Rattle.dwarf_types.specs.declared.entry.Entry.{Entry}
use Rattle.dwarf_types.specs.declared.entry.InUnit.{InUnit}
use Rattle.dwarf_types.specs.declared.graph.Target.{Target}
use Rattle.dwarf_types.specs.declared.shape.ShapeUnit.{ShapeUnit}
use Rattle.dwarf_types.specs.LinkedShape.{origin_of}
use Rattle.dwarf_types.specs.LinkedUnits.{Object, kept_entries, node_number, numbered}
use Rattle.dwarf_types.specs.Sound.{IsSound}
use Rattle.link_graph.specs.declared.object.ObjectShape.{ObjectShape}
use Rattle.link_graph.specs.OwnShapes.{IsOwnShape, target_behind}
use Rattle.link_graph.specs.Passes.{image_behind, images_of, target_in, unit_in, units_below, units_of}
use Rattle.link_graph.proofs.Gathered.{All-enumerate, map_same, parts_at}
use Rattle.link_graph.proofs.Shapes.{some_there}

-- ---- behind other units

target_placed : (before n place : ℕ) (node : Option ℕ) → before + n ≡ place → target_behind before (target_in n node) ≡ target_in place node
target_placed before n place None is = refl
target_placed before n place (Some k) is = ap (λ (u : ℕ). target_in u (Some k)) is

-- images that are counted from the object's first unit are those behind the units before it, once they are moved
pub images_placed : (before object : ℕ) (o : Object) → map (target_behind before) (images_of 0 object o) ≡ images_of before object o
images_placed before object o =
    map-map (target_behind before) (image_behind 0 object o) (numbered o)
    ∙ map_same (λ (e : ℕ × Entry). target_behind before (image_behind 0 object o e)) (image_behind before object o) (numbered o)
    (λ k d lt. target_placed before _ _ _ (omega arith))

-- ---- one by one

-- the first i images are moved
pub record AreMovedTo (before : ℕ) (old now : List (Option Target)) (i : ℕ) : Type 0 where
  pub len : length now ≡ length old
  pub front : take i now ≡ map (target_behind before) (take i old)
  pub left : drop i now ≡ drop i old

pub moved_none : (before : ℕ) (old : List (Option Target)) → AreMovedTo before old old 0
moved_none before old = record { len = refl; front = refl; left = refl }

-- the next one is as it was
pub next_image : (before : ℕ) (old now : List (Option Target)) (i : ℕ) (x d : Option Target) → AreMovedTo before old now i → x ≡ get_or now i d → x ≡ get_or old i d
next_image before old now i x d so_far is =
    let place : i + 0 ≡ i = omega arith in
    is ∙ sym (get_or-drop i now 0 d ∙ ap (λ (n : ℕ). get_or now n d) place) ∙ ap (λ (xs : List (Option Target)). get_or xs 0 d) so_far.left ∙ get_or-drop i old 0 d ∙ ap (λ (n : ℕ). get_or old n d) place

pub moved_more : (before : ℕ) (old now : List (Option Target)) (i : ℕ) (x y d : Option Target) → AreMovedTo before old now i → i < length old → x ≡ get_or now i d → y ≡ target_behind before x → AreMovedTo before old (set now i y) (i + 1)
moved_more before old now i x y d so_far lt is moved =
    let within : i < length now = omega (arith, lt, so_far.len) in
    let here : x ≡ get_or old i d = next_image before old now i x d so_far is in
    record {
      len = length-set now i y ∙ so_far.len;
      front = take_more_set now i y within ∙ ap (λ (xs : List (Option Target)). xs ++ y ∷ []) so_far.front ∙ ap (λ (t : Option Target). map (target_behind before) (take i old) ++ t ∷ []) (moved ∙ ap (target_behind before) here)
          ∙ sym (ap (map (target_behind before)) (take_more old i d lt) ∙ map-append (target_behind before) (take i old) (get_or old i d ∷ []));
      left = drop-set-lt (i + 1) now i y (omega arith) ∙ one_less now ∙ ap (drop 1) so_far.left ∙ sym (one_less old);
    }
  where
    one_less : (xs : List (Option Target)) → drop (i + 1) xs ≡ drop 1 (drop i xs)
    one_less xs = sym (drop-drop 1 i xs)

pub moved_all : (before : ℕ) (old now : List (Option Target)) (i : ℕ) → AreMovedTo before old now i → length old ≤ i → now ≡ map (target_behind before) old
moved_all before old now i so_far le = sym (take_all i now (omega (arith, le, so_far.len))) ∙ so_far.front ∙ ap (map (target_behind before)) (take_all i old le)

-- ---- inside the object's units

unit_within : (object : ℕ) (o : Object) (u : ℕ) (unit : InUnit) → slice_get o.seen.units u ≡ Some unit → eqb (length (kept_entries o u)) 0 ≡ false → length (units_below object o u) < length (units_of object o)
unit_within object o u unit is written =
    omega (arith, ap length whole, length-append (units_below object o u) (made ∷ behind))
  where
    made : ShapeUnit
    made = record { version = unit.version; nodes = map (origin_of object o u) (kept_entries o u) }

    behind : List ShapeUnit
    behind = filter_map (unit_in object o) (drop (u + 1) (enumerate_from 0 o.seen.units))

    whole : units_of object o ≡ units_below object o u ++ made ∷ behind
    whole = ap (filter_map (unit_in object o)) (parts_at o.seen.units u unit is)
        ∙ filter_map-append (unit_in object o) (take u (enumerate_from 0 o.seen.units)) ((u, unit) ∷ drop (u + 1) (enumerate_from 0 o.seen.units))
        ∙ ap (λ (b : Bool). units_below object o u ++ cons_option (cond b None (Some made)) behind) written

target_within : (n count : ℕ) (node : Option ℕ) → ((k : ℕ) → node ≡ Some k → n < count) → IfSome (target_in n node) (λ target. target.unit < count)
target_within n count None h = tt
target_within n count (Some k) h = h k refl

pub images_within : (object : ℕ) (o : Object) → IsSound o.seen → All (λ image. IfSome image (λ target. target.unit < length (units_of object o))) (images_of 0 object o)
images_within object o sound =
    All-map (λ (image : Option Target). IfSome image (λ target. target.unit < length (units_of object o))) (image_behind 0 object o) (numbered o)
    (All-weaker (λ (e : ℕ × Entry). slice_get o.seen.entries e.0 ≡ Some e.1) (λ e. IfSome (image_behind 0 object o e) (λ target. target.unit < length (units_of object o))) (λ e at. (
    let is = sound.entries e.0 e.1 at in
    target_within (0 + length (units_below object o e.1.unit)) (length (units_of object o)) (node_number o e.1.unit e.0) (λ k found. (
    let lt = unit_within object o e.1.unit is.unit is.its_unit (some_there (λ x. eqb x.0 e.0) (kept_entries o e.1.unit) k found) in
    omega (arith, lt))))) (numbered o) (All-enumerate o.seen.entries))

target_few : (before count : ℕ) (image : Option Target) → before + count < 2 ^ 32 → IfSome image (λ target. target.unit < count) → IfSome image (λ target. before + target.unit < 2 ^ 32)
target_few before count None few h = tt
target_few before count (Some target) few h = omega (arith, few, h)

-- so many units and those of the object have numbers of 32 bits
pub images_few : (before count : ℕ) (images : List (Option Target)) → before + count < 2 ^ 32 → All (λ image. IfSome image (λ target. target.unit < count)) images → All (λ image. IfSome image (λ target. before + target.unit < 2 ^ 32)) images
images_few before count images few are =
    All-weaker (λ (image : Option Target). IfSome image (λ target. target.unit < count)) (λ image. IfSome image (λ target. before + target.unit < 2 ^ 32)) (λ image h. target_few before count image few h) images are

-- what an object gives, behind so many units
pub own_few : (i : ℕ) (o : Object) (own : ObjectShape) (before : ℕ) (images : List (Option Target)) → IsSound o.seen → IsOwnShape i o own → images ≡ own.images → before + length own.units.items < 2 ^ 32
    → All (λ image. IfSome image (λ target. before + target.unit < 2 ^ 32)) images
own_few i o own before images sound gives are few =
    let unit_count : length own.units.items ≡ length (units_of i o) = ap length gives.units in
    images_few before (length (units_of i o)) images (omega (arith, few, unit_count))
    (subst (All (λ (image : Option Target). IfSome image (λ target. target.unit < length (units_of i o)))) (sym (are ∙ gives.images)) (images_within i o sound))
