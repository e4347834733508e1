-- Which entries have a node of their own, as a shape tells it back.
use Rattle.std.proofs.Common.{◌≡◌, ℕ, ◌+◌, ◌<◌, ◌==◌, ◌&&◌, Bool, true, false, cond, eqb, length, map, get_or, slice_get, Option, Some, None, is_some, inl, inr, refl, sym, ap, ◌∙◌, arith}
use Rattle.std.specs.List.{filter, position}
use Rattle.std.proofs.lemmas.Bool.{eq-eqb}
use Rattle.std.proofs.lemmas.List.{get_or_default, get_or-map, length-map, same_lists}
use Rattle.std.proofs.lemmas.Option.{get_or_from_slice_get, slice_get_cases}
use Rattle.dwarf_types.specs.declared.entry.Entry.{Entry}
use Rattle.dwarf_types.specs.LinkedShape.{plain_in}
use Rattle.dwarf_types.specs.LinkedUnits.{Object, is_kept, node_number, numbered}
use Rattle.link_graph.proofs.Nodes.{kept_read}
use Rattle.link_graph.proofs.Positions.{AreNumbered, position_kept}
use Rattle.link_graph.proofs.Stretches.{numbered_at, numbered_length}

-- ---- nodes and marks

are_numbered : (o : Object) → AreNumbered 0 (numbered o)
are_numbered o j d lt =
    let within : j < length o.seen.entries = omega (arith, lt, numbered_length o) in
    let same : j ≡ 0 + j = omega arith in
    ap (λ (e : ℕ × Entry). e.0) (numbered_at o j d within) ∙ same

some_if : (b : Bool) (n : ℕ) → is_some (cond b (Some n) None) ≡ b
some_if true n = refl
some_if false n = refl

own_unit : (n : ℕ) (b : Bool) → (n == n && b) ≡ b
own_unit n b = ap (λ (c : Bool). c && b) (eq-eqb n n refl)

-- an entry has a node of its own where it is kept
node_where_kept : (o : Object) (k : ℕ) (e : Entry) → slice_get o.seen.entries k ≡ Some e → k < length o.seen.entries → is_some (node_number o e.unit k) ≡ is_kept o k
node_where_kept o k e at lt =
    let q : ℕ × Entry → Bool = λ x. x.1.unit == e.unit && is_kept o x.0 in
    let here : (k, e) ≡ get_or (numbered o) k (k, e) = sym (numbered_at o k (k, e) lt ∙ ap (λ (x : Entry). (k, x)) (get_or_from_slice_get o.seen.entries k e e at)) in
    let zeroth : k ≡ 0 + k = omega arith in
    ap (λ (n : ℕ). is_some (position (λ x. eqb x.0 n) (filter q (numbered o)))) zeroth
    ∙ ap (λ (x : Option ℕ). is_some x) (position_kept q 0 (numbered o) k (k, e) (are_numbered o) (omega (arith, lt, numbered_length o)) here)
    ∙ some_if (e.unit == e.unit && is_kept o k) _ ∙ own_unit e.unit (is_kept o k)

pub marks_back : (o : Object) → length o.kept ≡ length o.seen.entries → map is_some (plain_in o) ≡ o.kept
marks_back o whole =
    let f : ℕ × Entry → Option ℕ = λ e. node_number o e.1.unit e.0 in
    let long : length (plain_in o) ≡ length o.seen.entries = length-map (numbered o) f ∙ numbered_length o in
    same_lists (map is_some (plain_in o)) o.kept (length-map (plain_in o) is_some ∙ long ∙ sym whole) (λ k d lt.
    let within : k < length o.seen.entries = omega (arith, lt, length-map (plain_in o) is_some, long) in
    let here : (e : Entry) → slice_get o.seen.entries k ≡ Some e → get_or (map is_some (plain_in o)) k d ≡ get_or o.kept k d = λ e at.
    get_or-map is_some (plain_in o) k None d (omega (arith, within, long))
    ∙ ap is_some (get_or-map f (numbered o) k (k, e) None (omega (arith, within, numbered_length o)) ∙ ap f (numbered_at o k (k, e) within ∙ ap (λ (x : Entry). (k, x)) (get_or_from_slice_get o.seen.entries k e e at)))
    ∙ node_where_kept o k e at within ∙ kept_read o k (omega (arith, within, whole)) ∙ get_or_default o.kept k false d (omega (arith, within, whole)) in
    elim (slice_get_cases o.seen.entries k).1 [ inl w ↦ here w.0 w.2 | inr w ↦ absurd (omega (arith, w.0, within)) ])
