-- The units of an object and the images of its entries, unit by unit.
use Rattle.std.proofs.Common.{◌≡◌, ℕ, ◌+◌, ◌<◌, ◌≤◌, List, [], ◌∷◌, ◌++◌, length, map, take, drop, get_or, slice_get, Option, Some, refl, sym, ap, subst, ◌∙◌, arith, length-append, inl, inr, None}
use Rattle.std.specs.List.{All, cons_option, enumerate_from, filter_map}
use Rattle.std.specs.Option.{IfSome, option_and_then, option_map, option_to_list}
use Rattle.std.proofs.lemmas.List.{drop_all, length-map, length-take, map-append, take_all, take_more}
use Rattle.std.proofs.lemmas.List.Elements.{filter_map-append}
use Rattle.std.proofs.lemmas.List.FromFn.{get_or-enumerate_from, length-enumerate_from}
use Rattle.std.proofs.lemmas.Option.{get_or_from_slice_get, slice_get-get_or, slice_get_cases, slice_get_within}
use Rattle.ds_base.proofs.Walking.{drop_one}
use Rattle.dwarf_types.specs.declared.entry.Entry.{Entry}
use Rattle.dwarf_types.specs.declared.entry.InUnit.{InUnit}
use Rattle.dwarf_types.specs.declared.graph.Target.{Target}
use Rattle.dwarf_types.specs.declared.shape.ShapeUnit.{ShapeUnit}
use Rattle.dwarf_types.specs.Live.{Stands}
use Rattle.dwarf_types.specs.LinkedUnits.{Object, node_number, numbered}
use Rattle.dwarf_types.specs.Sound.{AreUnits, IsSound}
use Rattle.link_graph.specs.Passes.{entries_of, image_behind, images_in_unit, images_of, stretch, unit_at, unit_in, units_below, units_of}
use Rattle.link_graph.proofs.Gathered.{map_same, one_or_none, take_on}
use Rattle.link_graph.proofs.Stretches.{entries_are, numbered_length, stretch_at, stretch_length}
use Rattle.link_graph.proofs.Units.{unit_of, unit_spans}

-- one unit more
pub units_more : (object : ℕ) (o : Object) (u : ℕ) (unit : InUnit) → slice_get o.seen.units u ≡ Some unit → units_below object o (u + 1) ≡ units_below object o u ++ option_to_list (unit_at object o u)
units_more object o u unit is =
    let within : u < length o.seen.units = slice_get_within o.seen.units u unit is in
    let same : 0 + u ≡ u = omega arith in
    let here : get_or (enumerate_from 0 o.seen.units) u (0, unit) ≡ (u, unit) =
    get_or-enumerate_from 0 o.seen.units u (0, unit) within ∙ ap (λ (n : ℕ). (n, get_or o.seen.units u unit)) same ∙ ap (λ (x : InUnit). (u, x)) (get_or_from_slice_get o.seen.units u unit unit is) in
    ap (filter_map (unit_in object o)) (take_more (enumerate_from 0 o.seen.units) u (0, unit) (omega (arith, length-enumerate_from 0 o.seen.units)) ∙ ap (λ (x : ℕ × InUnit). take u (enumerate_from 0 o.seen.units) ++ x ∷ []) here)
    ∙ filter_map-append (unit_in object o) (take u (enumerate_from 0 o.seen.units)) ((u, unit) ∷ [])
    ∙ ap (λ (xs : List ShapeUnit). units_below object o u ++ xs) (one_or_none (unit_in object o) (u, unit) ∙ ap option_to_list (sym (ap (option_and_then (λ (unit : InUnit). unit_in object o (u, unit))) is)))

pub units_all : (object : ℕ) (o : Object) (u : ℕ) → length o.seen.units ≤ u → units_below object o u ≡ units_of object o
units_all object o u le = ap (filter_map (unit_in object o)) (take_all u (enumerate_from 0 o.seen.units) (omega (arith, length-enumerate_from 0 o.seen.units)))

-- an object has no more units than entries
pub units_few : (at end : ℕ) (units : List InUnit) → AreUnits at units end → at + length units ≤ end
units_few at end [] h = omega (arith, h)
units_few at end (u ∷ units) h = let rest = units_few (at + u.count) end units h.2 in omega (arith, h.1, rest)

gathered_few : {A B : Type 0} (f : A → Option B) (xs : List A) → length (filter_map f xs) ≤ length xs
gathered_few f [] = omega arith
gathered_few {A} {B} f (x ∷ xs) = both (f x) (gathered_few f xs)
  where
    both : (y : Option B) → length (filter_map f xs) ≤ length xs → length (cons_option y (filter_map f xs)) ≤ length (x ∷ xs)
    both None h = omega (arith, h)
    both (Some y) h = omega (arith, h)

pub below_few : (object : ℕ) (o : Object) (u : ℕ) → length (units_below object o u) ≤ length o.seen.units
below_few object o u =
    let few = gathered_few (unit_in object o) (take u (enumerate_from 0 o.seen.units)) in
    omega (arith, few, length-take u (enumerate_from 0 o.seen.units), length-enumerate_from 0 o.seen.units)

-- the images of a unit's entries, by the number that the unit has in the output
pub images_same : (before number object : ℕ) (o : Object) (u : ℕ) (unit : InUnit) → IsSound o.seen → slice_get o.seen.units u ≡ Some unit → number ≡ before + length (units_below object o u)
    → images_in_unit number o u (stretch o unit.first unit.count) ≡ map (image_behind before object o) (stretch o unit.first unit.count)
images_same before number object o u unit sound is number_is =
    map_same f (image_behind before object o) (stretch o unit.first unit.count) each
  where
    f : ℕ × Entry → Option Target
    f e = option_map (λ node. record { unit = number; node = node }) (node_number o u e.0)

    ends : unit.first + unit.count ≤ length o.seen.entries
    ends = (unit_spans 0 o.seen.units (length o.seen.entries) u unit sound.units is).ends

    each : All (λ e. f e ≡ image_behind before object o e) (stretch o unit.first unit.count)
    each j d lt =
        let below : j < unit.count = omega (arith, lt, stretch_length o unit.first unit.count ends) in
        let k = unit.first + j in
        let e = get_or o.seen.entries k d.1 in
        let at : Stands o.seen.entries k e = slice_get-get_or o.seen.entries k d.1 (omega (arith, ends)) in
        let same : e.unit ≡ u = unit_of o.seen u unit k e sound is at (record { from_first = omega arith; before_end = omega arith }) in
        let here : f (k, e) ≡ image_behind before object o (k, e) =
        ap (λ (n : ℕ). option_map (λ node. record { unit = n; node = node }) (node_number o u k)) number_is
        ∙ ap (λ (v : ℕ). option_map (λ node. record { unit = before + length (units_below object o v); node = node }) (node_number o v k)) (sym same) in
        subst (λ (x : ℕ × Entry). f x ≡ image_behind before object o x) (sym (stretch_at o unit.first unit.count j d below ends)) here

-- the images of the entries so far
pub record HasImages (before object : ℕ) (o : Object) (u : ℕ) (images : List (Option Target)) : Type 0 where
  pub are : images ≡ map (image_behind before object o) (take (length images) (numbered o))
  pub left : AreUnits (length images) (drop u o.seen.units) (length o.seen.entries)

pub images_none : (before object : ℕ) (o : Object) → IsSound o.seen → HasImages before object o 0 []
images_none before object o sound = record { are = refl; left = sound.units }

left_first : (at u end : ℕ) (units : List InUnit) (unit : InUnit) → slice_get units u ≡ Some unit → AreUnits at (drop u units) end → (unit.first ≡ at) × AreUnits (at + unit.count) (drop (u + 1) units) end
left_first at u end units unit is left =
    let within : u < length units = slice_get_within units u unit is in
    let h = subst (λ (us : List InUnit). AreUnits at us end) (drop_one units u unit within (sym (get_or_from_slice_get units u unit unit is))) left in
    (h.0, h.2)

pub unit_begins : (before object : ℕ) (o : Object) (u : ℕ) (unit : InUnit) (images : List (Option Target)) → slice_get o.seen.units u ≡ Some unit → HasImages before object o u images → length images ≡ unit.first
unit_begins before object o u unit images is so_far = sym (left_first (length images) u (length o.seen.entries) o.seen.units unit is so_far.left).0

pub images_more : (before number object : ℕ) (o : Object) (u : ℕ) (unit : InUnit) (images : List (Option Target)) → IsSound o.seen → slice_get o.seen.units u ≡ Some unit → number ≡ before + length (units_below object o u)
    → HasImages before object o u images → HasImages before object o (u + 1) (images ++ images_in_unit number o u (stretch o unit.first unit.count))
images_more before number object o u unit images sound is number_is so_far =
    record {
      are = ap (λ (xs : List (Option Target)). xs ++ images_in_unit number o u middle) so_far.are
          ∙ ap (λ (xs : List (Option Target)). map f (take (length images) (numbered o)) ++ xs) (images_same before number object o u unit sound is number_is)
          ∙ sym (map-append f (take (length images) (numbered o)) middle)
          ∙ ap (λ (n : ℕ). map f (take (length images) (numbered o) ++ take unit.count (drop n (numbered o)))) (sym begins)
          ∙ ap (map f) (sym (take_on (length images) unit.count (numbered o)))
          ∙ ap (λ (n : ℕ). map f (take n (numbered o))) (sym long);
      left = subst (λ (n : ℕ). AreUnits n (drop (u + 1) o.seen.units) (length o.seen.entries)) (sym long) (left_first (length images) u (length o.seen.entries) o.seen.units unit is so_far.left).1;
    }
  where
    f : ℕ × Entry → Option Target
    f = image_behind before object o

    middle : List (ℕ × Entry)
    middle = stretch o unit.first unit.count

    begins : length images ≡ unit.first
    begins = unit_begins before object o u unit images is so_far

    long : length (images ++ images_in_unit number o u middle) ≡ length images + unit.count
    long = length-append images (images_in_unit number o u middle) ∙ ap (λ (n : ℕ). length images + n) (length-map middle _ ∙ stretch_length o unit.first unit.count (unit_spans 0 o.seen.units (length o.seen.entries) u unit sound.units is).ends)

pub images_all : (before object : ℕ) (o : Object) (u : ℕ) (images : List (Option Target)) → length o.seen.units ≤ u → HasImages before object o u images → images ≡ images_of before object o
images_all before object o u images le so_far =
    let all : length images ≡ length o.seen.entries = subst (λ (us : List InUnit). AreUnits (length images) us (length o.seen.entries)) (drop_all u o.seen.units le) so_far.left in
    so_far.are ∙ ap (map (image_behind before object o)) (take_all (length images) (numbered o) (omega (arith, numbered_length o)))

pub images_length : (before object : ℕ) (o : Object) → length (images_of before object o) ≡ length o.seen.entries
images_length before object o = length-map (numbered o) (image_behind before object o) ∙ numbered_length o

-- ---- as the loop has them

pub units_next : (object : ℕ) (o : Object) (u : ℕ) → u < length o.seen.units → units_below object o (u + 1) ≡ units_below object o u ++ option_to_list (unit_at object o u)
units_next object o u lt = elim (slice_get_cases o.seen.units u).1 [ inl w ↦ units_more object o u w.0 w.2 | inr w ↦ absurd (omega (arith, w.0)) ]

pub images_next : (before number object : ℕ) (o : Object) (u : ℕ) (images : List (Option Target)) → IsSound o.seen → u < length o.seen.units → number ≡ before + length (units_below object o u)
    → HasImages before object o u images → HasImages before object o (u + 1) (images ++ images_in_unit number o u (entries_of o u))
images_next before number object o u images sound lt number_is so_far = elim (slice_get_cases o.seen.units u).1 [
  | inl w ↦ subst (λ (es : List (ℕ × Entry)). HasImages before object o (u + 1) (images ++ images_in_unit number o u es)) (sym (entries_are o u w.0 w.2)) (images_more before number object o u w.0 images sound w.2 number_is so_far)
  | inr w ↦ absurd (omega (arith, w.0))
]

pub unit_begun : (before object : ℕ) (o : Object) (u : ℕ) (images : List (Option Target)) → HasImages before object o u images → IfSome (slice_get o.seen.units u) (λ unit. length images ≡ unit.first)
unit_begun before object o u images so_far = by (slice_get o.seen.units u) (λ unit is. unit_begins before object o u unit images is so_far)
  where
    by : (found : Option InUnit) → ((unit : InUnit) → found ≡ Some unit → length images ≡ unit.first) → IfSome found (λ unit. length images ≡ unit.first)
    by None h = tt
    by (Some unit) h = h unit refl
