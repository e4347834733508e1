-- The nodes of a unit and their numbers, entry by entry.
use Rattle.std.proofs.Common.{◌≡◌, ℕ, ◌+◌, ◌<◌, ◌≤◌, ◌-◌, Bool, true, false, cond, eqb, List, [], ◌∷◌, ◌++◌, length, map, drop, get_or, slice_get, Option, Some, None, inl, inr, refl, sym, ap, subst, ◌∙◌, arith, append_assoc, length-append}
use Rattle.std.specs.List.{filter, position}
use Rattle.std.specs.Option.{option_and_then, option_map_or}
use Rattle.std.proofs.lemmas.List.{take-take, map-append, length-map, get_or-append-add, get_or-map}
use Rattle.std.proofs.lemmas.List.Elements.{filter-append}
use Rattle.std.proofs.lemmas.List.Sums.{count_by-le-length, length-filter}
use Rattle.std.proofs.lemmas.Option.{get_or_from_slice_get, same_Some, slice_get-get_or, slice_get_cases}
use Rattle.dwarf_types.specs.declared.entry.Entry.{Entry}
use Rattle.dwarf_types.specs.declared.entry.InUnit.{InUnit}
use Rattle.dwarf_types.specs.declared.shape.Origin.{Origin}
use Rattle.dwarf_types.specs.declared.shape.ShapeUnit.{ShapeUnit}
use Rattle.dwarf_types.specs.Live.{Stands}
use Rattle.dwarf_types.specs.LinkedShape.{origin_of}
use Rattle.dwarf_types.specs.LinkedUnits.{Object, is_kept, kept_entries, node_number, numbered, parent_node}
use Rattle.dwarf_types.specs.Sound.{IsParent, IsSound}
use Rattle.link_graph.specs.Passes.{entries_of, is_kept_one, nodes_in, nodes_with, parent_in, plain_in_unit, plain_with, stretch, unit_in, unit_at}
use Rattle.link_graph.proofs.Positions.{position_kept}
use Rattle.link_graph.proofs.Stretches.{entries_are, kept_stretch, stretch_at, stretch_length, stretch_more, stretch_numbered}
use Rattle.link_graph.proofs.Units.{unit_of, unit_spans}

-- an entry has one node at most
pub nodes_few : (object : ℕ) (o : Object) (u : ℕ) (es : List (ℕ × Entry)) → length (nodes_in object o u es) ≤ length es
nodes_few object o u es = rw (length-map (filter (is_kept_one o) es) (origin_of object o u), length-filter (is_kept_one o) es) (count_by-le-length (is_kept_one o) es)

-- the marks as they are read
pub kept_read : (o : Object) (k : ℕ) → k < length o.kept → is_kept o k ≡ get_or o.kept k false
kept_read o k lt = ap (λ (b : Option Bool). option_map_or (λ b. b) b false) (slice_get-get_or o.kept k false lt)

-- how many entries of the unit that are kept stand before an entry is the number of its node
pub number_of_entry : (o : Object) (u : ℕ) (unit : InUnit) (n : ℕ) → IsSound o.seen → slice_get o.seen.units u ≡ Some unit → n < unit.count
    → node_number o u (unit.first + n) ≡ cond (is_kept o (unit.first + n)) (Some (length (filter (is_kept_one o) (stretch o unit.first n)))) None
number_of_entry o u unit n sound is lt = elim (slice_get_cases o.seen.entries (unit.first + n)).1 [
  | inl w ↦ here w.0 w.2
  | inr w ↦ absurd (omega (arith, w.0, ends))
]
  where
    ends : unit.first + unit.count ≤ length o.seen.entries
    ends = (unit_spans 0 o.seen.units (length o.seen.entries) u unit sound.units is).ends

    here : (e : Entry) → Stands o.seen.entries (unit.first + n) e → node_number o u (unit.first + n) ≡ cond (is_kept o (unit.first + n)) (Some (length (filter (is_kept_one o) (stretch o unit.first n)))) None
    here e at =
        let all = stretch o unit.first unit.count in
        let read : (unit.first + n, e) ≡ get_or all n (unit.first + n, e) =
        sym (stretch_at o unit.first unit.count n (unit.first + n, e) lt ends ∙ ap (λ (x : Entry). (unit.first + n, x)) (get_or_from_slice_get o.seen.entries (unit.first + n) e e at)) in
        ap (position (λ x. eqb x.0 (unit.first + n))) (kept_stretch o u unit sound is)
        ∙ position_kept (is_kept_one o) unit.first all n (unit.first + n, e) (stretch_numbered o unit.first unit.count ends) (omega (arith, stretch_length o unit.first unit.count ends)) read
        ∙ ap (λ (xs : List (ℕ × Entry)). cond (is_kept o (unit.first + n)) (Some (length (filter (is_kept_one o) xs))) None) (take-take n unit.count (drop unit.first (numbered o)) (omega arith))

-- the node of an entry's parent, which stands before it in the unit
pub parent_known : (o : Object) (u : ℕ) (unit : InUnit) (n : ℕ) (e : Entry) (old : List (Option ℕ)) → IsSound o.seen → slice_get o.seen.units u ≡ Some unit → n < unit.count
    → Stands o.seen.entries (unit.first + n) e → length old ≡ unit.first → parent_in (old ++ plain_in_unit o u (stretch o unit.first n)) e.parent ≡ parent_node o u e
parent_known o u unit n e old sound is lt at len = by e.parent (subst (λ (v : InUnit). IsParent v (unit.first + n) e.parent) its (sound.entries (unit.first + n) e at).parent)
  where
    ends : unit.first + unit.count ≤ length o.seen.entries
    ends = (unit_spans 0 o.seen.units (length o.seen.entries) u unit sound.units is).ends

    its : (sound.entries (unit.first + n) e at).unit ≡ unit
    its =
        let s = sound.entries (unit.first + n) e at in
        let same : e.unit ≡ u = unit_of o.seen u unit (unit.first + n) e sound is at (record { from_first = omega arith; before_end = omega arith }) in
        same_Some s.unit unit (sym s.its_unit ∙ ap (slice_get o.seen.units) same ∙ is)

    by : (parent : Option ℕ) → IsParent unit (unit.first + n) parent → parent_in (old ++ plain_in_unit o u (stretch o unit.first n)) parent ≡ option_and_then (node_number o u) parent
    by None w = refl
    by (Some p) w =
        let plain = old ++ plain_in_unit o u (stretch o unit.first n) in
        let f : ℕ × Entry → Option ℕ = λ e. node_number o u e.0 in
        let j = p - unit.first in
        let place : length old + j ≡ p = omega (arith, w.0) in
        let below : j < n = omega (arith, w.0, w.1) in
        let within : p < length plain = omega (arith, length-append old (plain_in_unit o u (stretch o unit.first n)), length-map (stretch o unit.first n) f, stretch_length o unit.first n (omega (arith, ends))) in
        let there : get_or plain p None ≡ f (p, get_or o.seen.entries (unit.first + j) e) =
        ap (λ (k : ℕ). get_or plain k None) (sym place) ∙ get_or-append-add old (plain_in_unit o u (stretch o unit.first n)) j None
        ∙ get_or-map f (stretch o unit.first n) j (p, e) None (omega (arith, stretch_length o unit.first n (omega (arith, ends))))
        ∙ ap f (stretch_at o unit.first n j (p, e) below (omega (arith, ends)) ∙ ap (λ (k : ℕ). (k, get_or o.seen.entries (unit.first + j) e)) (omega (arith, w.0))) in
        let found : slice_get plain p ≡ Some (f (p, e)) = slice_get-get_or plain p None within ∙ ap (λ (t : Option ℕ). Some t) there in
        ap (λ (t : Option (Option ℕ)). option_and_then (λ node. node) t) found

pub nodes_more : (o : Object) (object u : ℕ) (unit : InUnit) (n : ℕ) (e : Entry) (old : List (Option ℕ)) → IsSound o.seen → slice_get o.seen.units u ≡ Some unit → n < unit.count
    → Stands o.seen.entries (unit.first + n) e → length old ≡ unit.first
    → nodes_in object o u (stretch o unit.first (n + 1))
    ≡ nodes_in object o u (stretch o unit.first n) ++ nodes_with (is_kept o (unit.first + n)) (object + 1) (unit.first + n) e (old ++ plain_in_unit o u (stretch o unit.first n))
nodes_more o object u unit n e old sound is lt at len =
    ap (λ (xs : List (ℕ × Entry)). map (origin_of object o u) (filter (is_kept_one o) xs)) (stretch_more o unit.first n e at)
    ∙ ap (map (origin_of object o u)) (filter-append (is_kept_one o) (stretch o unit.first n) ((unit.first + n, e) ∷ []))
    ∙ map-append (origin_of object o u) (filter (is_kept_one o) (stretch o unit.first n)) (filter (is_kept_one o) ((unit.first + n, e) ∷ []))
    ∙ ap (λ (xs : List Origin). nodes_in object o u (stretch o unit.first n) ++ xs) (last (is_kept o (unit.first + n)))
  where
    last : (b : Bool) → map (origin_of object o u) (cond b ((unit.first + n, e) ∷ []) []) ≡ nodes_with b (object + 1) (unit.first + n) e (old ++ plain_in_unit o u (stretch o unit.first n))
    last true = ap (λ (parent : Option ℕ). record { object = object + 1; entry = unit.first + n; parent = parent } ∷ []) (sym (parent_known o u unit n e old sound is lt at len))
    last false = refl

pub plain_more : (o : Object) (object u : ℕ) (unit : InUnit) (n : ℕ) (e : Entry) → IsSound o.seen → slice_get o.seen.units u ≡ Some unit → n < unit.count → Stands o.seen.entries (unit.first + n) e
    → plain_in_unit o u (stretch o unit.first (n + 1))
    ≡ plain_in_unit o u (stretch o unit.first n) ++ plain_with (is_kept o (unit.first + n)) (length (nodes_in object o u (stretch o unit.first n))) ∷ []
plain_more o object u unit n e sound is lt at =
    ap (plain_in_unit o u) (stretch_more o unit.first n e at)
    ∙ map-append f (stretch o unit.first n) ((unit.first + n, e) ∷ [])
    ∙ ap (λ (t : Option ℕ). plain_in_unit o u (stretch o unit.first n) ++ t ∷ []) (number_of_entry o u unit n sound is lt ∙ last (is_kept o (unit.first + n)))
  where
    f : ℕ × Entry → Option ℕ
    f e = node_number o u e.0

    so_far : List (ℕ × Entry)
    so_far = filter (is_kept_one o) (stretch o unit.first n)

    last : (b : Bool) → cond b (Some (length so_far)) None ≡ plain_with b (length (map (origin_of object o u) so_far))
    last true = ap (λ (node : ℕ). Some node) (sym (length-map so_far (origin_of object o u)))
    last false = refl

-- ---- as the loop has them

pub nodes_step : (o : Object) (object u : ℕ) (unit : InUnit) (n : ℕ) (e : Entry) (old plain : List (Option ℕ)) (nodes : List Origin) (kept : Bool) → IsSound o.seen
    → slice_get o.seen.units u ≡ Some unit → n < unit.count → Stands o.seen.entries (unit.first + n) e → length old ≡ unit.first → kept ≡ is_kept o (unit.first + n)
    → nodes ≡ nodes_in object o u (stretch o unit.first n) → plain ≡ old ++ plain_in_unit o u (stretch o unit.first n)
    → nodes ++ nodes_with kept (object + 1) (unit.first + n) e plain ≡ nodes_in object o u (stretch o unit.first (n + 1))
nodes_step o object u unit n e old plain nodes kept sound is lt at len k these those = rw (these, those, k) (sym (nodes_more o object u unit n e old sound is lt at len))

pub plain_step : (o : Object) (object u : ℕ) (unit : InUnit) (n : ℕ) (e : Entry) (old plain : List (Option ℕ)) (nodes : List Origin) (kept : Bool) → IsSound o.seen
    → slice_get o.seen.units u ≡ Some unit → n < unit.count → Stands o.seen.entries (unit.first + n) e → kept ≡ is_kept o (unit.first + n)
    → nodes ≡ nodes_in object o u (stretch o unit.first n) → plain ≡ old ++ plain_in_unit o u (stretch o unit.first n)
    → plain ++ plain_with kept (length nodes) ∷ [] ≡ old ++ plain_in_unit o u (stretch o unit.first (n + 1))
plain_step o object u unit n e old plain nodes kept sound is lt at k these those =
    rw (those, these, k) (append_assoc old _ _ ∙ ap (λ (xs : List (Option ℕ)). old ++ xs) (sym (plain_more o object u unit n e sound is lt at)))

-- ---- a unit whose nodes are known

nodes_whole : (o : Object) (object u : ℕ) (unit : InUnit) (nodes : List Origin) → IsSound o.seen → slice_get o.seen.units u ≡ Some unit → nodes ≡ nodes_in object o u (stretch o unit.first unit.count)
    → nodes ≡ map (origin_of object o u) (kept_entries o u)
nodes_whole o object u unit nodes sound is these = these ∙ ap (map (origin_of object o u)) (sym (kept_stretch o u unit sound is))

if_same : {A : Type 0} (b c : Bool) (x y z : A) → b ≡ c → x ≡ y → cond b z x ≡ cond c z y
if_same b c x y z e f = rw (e, f) refl

-- it is written as they are, unless there is none
unit_known : (o : Object) (object u : ℕ) (unit : InUnit) (nodes : List Origin) → IsSound o.seen → slice_get o.seen.units u ≡ Some unit → nodes ≡ nodes_in object o u (entries_of o u)
    → cond (eqb (length nodes) 0) None (Some (record { version = unit.version; nodes = nodes })) ≡ unit_at object o u
unit_known o object u unit nodes sound is these =
    let same = nodes_whole o object u unit nodes sound is (these ∙ ap (nodes_in object o u) (entries_are o u unit is)) in
    if_same (eqb (length nodes) 0) (eqb (length (kept_entries o u)) 0) (Some (record { version = unit.version; nodes = nodes })) (Some (record { version = unit.version; nodes = map (origin_of object o u) (kept_entries o u) })) None
    (ap (λ (n : ℕ). eqb n 0) (ap length same ∙ length-map (kept_entries o u) (origin_of object o u)))
    (ap (λ (ns : List Origin). Some (record { version = unit.version; nodes = ns })) same)
    ∙ sym (ap (option_and_then (λ (unit : InUnit). unit_in object o (u, unit))) is)

pub unit_some : (o : Object) (object u version : ℕ) (unit : InUnit) (nodes : List Origin) → IsSound o.seen → slice_get o.seen.units u ≡ Some unit → nodes ≡ nodes_in object o u (entries_of o u)
    → version ≡ unit.version → eqb (length nodes) 0 ≡ false → Some (record { version = version; nodes = nodes }) ≡ unit_at object o u
unit_some o object u version unit nodes sound is these same some =
    ap (λ (v : ℕ). made v) same ∙ sym (ap (λ (b : Bool). cond b None (made unit.version)) some) ∙ unit_known o object u unit nodes sound is these
  where
    made : ℕ → Option ShapeUnit
    made v = Some (record { version = v; nodes = nodes })

pub unit_none : (o : Object) (object u : ℕ) (nodes : List Origin) → IsSound o.seen → u < length o.seen.units → nodes ≡ nodes_in object o u (entries_of o u) → eqb (length nodes) 0 ≡ true → None ≡ unit_at object o u
unit_none o object u nodes sound lt these none = elim (slice_get_cases o.seen.units u).1 [
  | inl w ↦ (let made : Option ShapeUnit = Some (record { version = w.0.version; nodes = nodes }) in sym (ap (λ (b : Bool). cond b None made) none) ∙ unit_known o object u w.0 nodes sound w.2 these)
  | inr w ↦ absurd (omega (arith, w.0))
]
