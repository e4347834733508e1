-- Each unit that is written stands at one place, and each entry of a unit has one node.
use Rattle.std.proofs.Common.{◌≡◌, ◌⊎◌, inl, inr, ℕ, ◌+◌, ◌<◌, ◌≤◌, ◌==◌, Bool, true, false, cond, List, [], ◌∷◌, ◌++◌, length, get_or, slice_get, Option, Some, None, refl, sym, ap, subst, ◌∙◌, arith}
use Rattle.std.specs.List.{All, AllPairs, cons_option, enumerate_from, filter_map, flat_map}
use Rattle.std.specs.Option.{option_and_then, option_map}
use Rattle.std.proofs.lemmas.Bool.{cases_order}
use Rattle.std.proofs.lemmas.List.Elements.{All-append, All-cons, All-head, All-nil, All-tail, All-weaker}
use Rattle.std.proofs.lemmas.List.Kept.{AllPairs-cons}
use Rattle.std.proofs.lemmas.Option.{get_or_from_slice_get, none-some, slice_get-map, slice_get_within}
use Rattle.dwarf_types.specs.declared.entry.Entry.{Entry}
use Rattle.dwarf_types.specs.declared.entry.InUnit.{InUnit}
use Rattle.dwarf_types.specs.declared.graph.Target.{Target}
use Rattle.dwarf_types.specs.declared.shape.Origin.{Origin}
use Rattle.dwarf_types.specs.declared.shape.ShapeUnit.{ShapeUnit}
use Rattle.dwarf_types.specs.LinkedShape.{origin_of, shape_in}
use Rattle.dwarf_types.specs.LinkedUnits.{Object, Source, kept_entries, plain_target, sources, sources_in}
use Rattle.dwarf_types.specs.LinkedUnits as linked_units
use Rattle.dwarf_types.specs.Sound.{IsSound}
use Rattle.linked_laws.specs.Nodes.{IsNodeOfEntry, origin_at}
use Rattle.linked_laws.proofs.Attributes.{mapped_some}
use Rattle.linked_laws.proofs.Images.{IsSource, all_sources, lies, slice_get_behind, source_by}
use Rattle.linked_laws.proofs.Lists.{kept_at}
use Rattle.linked_laws.proofs.Nodes.{all_shaped, shaped}
use Rattle.linked_laws.proofs.Written.{written_at, written_rise}

-- ---- lists without an element twice

-- an element that differs from all others has one place
pub one_place : {A : Type 0} (R : A → A → Type 0) (xs : List A) (x : A) (n m : ℕ) → AllPairs R xs → (R x x → ⊥) → slice_get xs n ≡ Some x → slice_get xs m ≡ Some x → n ≡ m
one_place R xs x n m pairs other at_n at_m =
    let here : (i : ℕ) → slice_get xs i ≡ Some x → get_or xs i x ≡ x = λ i at. get_or_from_slice_get xs i x x at in
    let apart : (i j : ℕ) → slice_get xs i ≡ Some x → slice_get xs j ≡ Some x → i < j → ⊥ = λ i j at_i at_j lt.
    other (subst (λ a. R a x) (here i at_i) (subst (λ b. R (get_or xs i x) b) (here j at_j) (pairs i j x lt (slice_get_within xs j x at_j)))) in
    elim (cases_order n m) [
      | inl same ↦ same
      | inr w ↦ elim w [
        | inl before ↦ absurd (apart n m at_n at_m before)
        | inr behind ↦ absurd (apart m n at_m at_n behind)
      ]
    ]

-- ---- units

abbrev Before : Source → Source → Type 0
Before a b = (a.object < b.object) ⊎ ((a.object ≡ b.object) × (a.unit < b.unit))

abbrev Rise : List Source → Type 0
Rise [] = Unit {0}
Rise (s ∷ ss) = All (Before s) ss × Rise ss

pairs_rise : (ss : List Source) → Rise ss → AllPairs Before ss
pairs_rise [] h = λ i j d lt within. absurd (omega (arith, within))
pairs_rise (s ∷ ss) h = AllPairs-cons Before s ss h.0 (pairs_rise ss h.1)

rise_append : (ss ts : List Source) → Rise ss → Rise ts → All (λ s. All (Before s) ts) ss → Rise (ss ++ ts)
rise_append [] ts h k between = k
rise_append (s ∷ ss) ts h k between = (All-append (Before s) ss ts h.0 (All-head (λ s. All (Before s) ts) s ss between), rise_append ss ts h.1 k (All-tail (λ s. All (Before s) ts) s ss between))

-- a unit of object i, from number m on
record IsFrom (i m : ℕ) (s : Source) : Type 0 where
  object : s.object ≡ i
  from : m ≤ s.unit

-- a unit of an object from number i on
abbrev IsBehind : ℕ → Source → Type 0
IsBehind i s = i ≤ s.object

module _ (i : ℕ) (o : Object) where
  abbrev made : ℕ × InUnit → Option Source
  made u = cond (length (kept_entries o u.0) == 0) None (Some (source_by i u.0))

  own : (m : ℕ) → IsFrom i m (source_by i m)
  own m = record { object = refl; from = omega arith }

  later : (m : ℕ) (s : Source) → IsFrom i (m + 1) s → IsFrom i m s
  later m s h = record { object = h.object; from = omega (arith, h.from) }

  from_by : (m : ℕ) (b : Bool) (ss : List Source) → All (IsFrom i (m + 1)) ss → All (IsFrom i m) (cons_option (cond b None (Some (source_by i m))) ss)
  from_by m true ss h = All-weaker (IsFrom i (m + 1)) (IsFrom i m) (later m) ss h
  from_by m false ss h = All-cons (IsFrom i m) (source_by i m) ss (own m) (All-weaker (IsFrom i (m + 1)) (IsFrom i m) (later m) ss h)

  all_from : (m : ℕ) (us : List InUnit) → All (IsFrom i m) (filter_map made (enumerate_from m us))
  all_from m [] = All-nil (IsFrom i m)
  all_from m (u ∷ us) = from_by m (length (kept_entries o m) == 0) (filter_map made (enumerate_from (m + 1) us)) (all_from (m + 1) us)

  rise_by : (m : ℕ) (b : Bool) (ss : List Source) → All (IsFrom i (m + 1)) ss → Rise ss → Rise (cons_option (cond b None (Some (source_by i m))) ss)
  rise_by m true ss h rise = rise
  rise_by m false ss h rise = (All-weaker (IsFrom i (m + 1)) (Before (source_by i m)) (λ s h. inr (sym h.object, omega (arith, h.from))) ss h, rise)

  units_rise : (m : ℕ) (us : List InUnit) → Rise (filter_map made (enumerate_from m us))
  units_rise m [] = tt
  units_rise m (u ∷ us) = rise_by m (length (kept_entries o m) == 0) (filter_map made (enumerate_from (m + 1) us)) (all_from (m + 1) us) (units_rise (m + 1) us)

  own_units : All (IsFrom i 0) (sources_in (i, o))
  own_units = all_from 0 o.seen.units

all_behind : (i : ℕ) (objects : List Object) → All (IsBehind i) (flat_map sources_in (enumerate_from i objects))
all_behind i [] = All-nil (IsBehind i)
all_behind i (o ∷ objects) =
    All-append (IsBehind i) (sources_in (i, o)) (flat_map sources_in (enumerate_from (i + 1) objects))
    (All-weaker (IsFrom i 0) (IsBehind i) (λ s h. omega (arith, h.object)) (sources_in (i, o)) (own_units i o))
    (All-weaker (IsBehind (i + 1)) (IsBehind i) (λ s h. omega (arith, h)) (flat_map sources_in (enumerate_from (i + 1) objects)) (all_behind (i + 1) objects))

all_rise : (i : ℕ) (objects : List Object) → Rise (flat_map sources_in (enumerate_from i objects))
all_rise i [] = tt
all_rise i (o ∷ objects) =
    let rest = flat_map sources_in (enumerate_from (i + 1) objects) in
    let behind = all_behind (i + 1) objects in
    rise_append (sources_in (i, o)) rest (units_rise i o 0 o.seen.units) (all_rise (i + 1) objects)
    (All-weaker (IsFrom i 0) (λ s. All (Before s) rest) (λ s h. All-weaker (IsBehind (i + 1)) (Before s) (λ t k. inl (omega (arith, h.object, k))) rest behind) (sources_in (i, o)) (own_units i o))

not_before : (s : Source) → Before s s → ⊥
not_before s w = elim w [ inl lt ↦ omega (arith, lt) | inr both ↦ omega (arith, both.1) ]

one_source : (objects : List Object) (s : Source) (n m : ℕ) → slice_get (sources objects) n ≡ Some s → slice_get (sources objects) m ≡ Some s → n ≡ m
one_source objects s n m at_n at_m = one_place Before (sources objects) s n m (pairs_rise (sources objects) (all_rise 0 objects)) (not_before s) at_n at_m

one_node : (o : Object) (u : ℕ) (x : ℕ × Entry) (n m : ℕ) → slice_get (kept_entries o u) n ≡ Some x → slice_get (kept_entries o u) m ≡ Some x → n ≡ m
one_node o u x n m at_n at_m = one_place (λ (a b : ℕ × Entry). a.0 < b.0) (kept_entries o u) x n m (written_rise o u) (λ lt. omega (arith, lt)) at_n at_m

-- ---- nodes

abbrev target_by : ℕ → ℕ → Target
target_by unit node = record { unit = unit; node = node }

same_targets : (a b : Target) → a.unit ≡ b.unit → a.node ≡ b.node → a ≡ b
same_targets a b unit node = ap (λ (u : ℕ). target_by u a.node) unit ∙ ap (λ (n : ℕ). target_by b.unit n) node

module _ (objects : List Object) (before : List ShapeUnit) (sound : All (λ o. IsSound o.seen) objects) where
  abbrev shapes : List ShapeUnit
  shapes = filter_map (shape_in objects) (sources objects)

  pub node_of_one : (n : ℕ) (target : Target) (origin : Origin) → target.unit ≡ length before + n → origin_at (before ++ shapes) target ≡ Some origin → IsNodeOfEntry objects (length before) target origin
  node_of_one n target origin place is = of_source (slice_get (sources objects) n) refl (sym read ∙ is)
    where
      read : origin_at (before ++ shapes) target ≡ option_and_then (λ (unit : ShapeUnit). slice_get unit.nodes target.node) (option_and_then (shape_in objects) (slice_get (sources objects) n))
      read = ap (option_and_then (λ (unit : ShapeUnit). slice_get unit.nodes target.node))
          (ap (slice_get (before ++ shapes)) place ∙ slice_get_behind before shapes n ∙ kept_at (shape_in objects) (sources objects) n (all_shaped objects))

      of_node : (s : Source) → slice_get (sources objects) n ≡ Some s → (h : IsSource objects s) → option_map (origin_of s.object h.object s.unit) (slice_get (kept_entries h.object s.unit) target.node) ≡ Some origin → IsNodeOfEntry objects (length before) target origin
      of_node s at h there =
          let g = origin_of s.object h.object s.unit in
          let w = mapped_some g (slice_get (kept_entries h.object s.unit) target.node) origin there in
          let x = w.0 in
          let it = written_at h.object s.unit target.node x w.1 in
          let its : IsSound h.object.seen = subst (λ (o : Object). IsSound o.seen) (get_or_from_slice_get objects s.object h.object h.object h.at) (sound s.object h.object (slice_get_within objects s.object h.object h.at)) in
          let l = lies objects (length before) s.object h.object x.0 x.1 h.unit h.at its it.stands (ap (slice_get h.object.seen.units) it.unit ∙ h.is) it.kept in
          let unit : l.place ≡ n = one_source objects s l.place n (l.source ∙ ap (λ (u : ℕ). Some (source_by s.object u)) it.unit) at in
          let node : l.target.node ≡ target.node = one_node h.object s.unit x l.target.node target.node (ap (λ (u : ℕ). slice_get (kept_entries h.object u) l.target.node) (sym it.unit) ∙ l.node) w.1 in
          let same : l.target ≡ target = same_targets l.target target (l.unit ∙ ap (λ (m : ℕ). length before + m) unit ∙ sym place) node in
          record {
            object = s.object;
            counted = ap (λ (y : Origin). y.object) w.2;
            o = h.object;
            e = x.1;
            is = record {
              object = h.at;
              stands = ap (λ (y : Origin). slice_get h.object.seen.entries y.entry) w.2 ∙ it.stands;
              kept = ap (λ (y : Origin). linked_units.is_kept h.object y.entry) w.2 ∙ it.kept;
            };
            leads = ap (λ (y : Origin). plain_target (length before) objects s.object y.entry) w.2 ∙ l.is ∙ ap (λ (t : Target). Some t) same;
          }

      of_source : (found : Option Source) → slice_get (sources objects) n ≡ found → option_and_then (λ (unit : ShapeUnit). slice_get unit.nodes target.node) (option_and_then (shape_in objects) found) ≡ Some origin → IsNodeOfEntry objects (length before) target origin
      of_source None none t = absurd (none-some origin t)
      of_source (Some s) at t =
          let h = subst (IsSource objects) (get_or_from_slice_get (sources objects) n s s at) (all_sources objects n s (slice_get_within (sources objects) n s at)) in
          of_node s at h (sym (slice_get-map (origin_of s.object h.object s.unit) (kept_entries h.object s.unit) target.node) ∙ sym (ap (option_and_then (λ (unit : ShapeUnit). slice_get unit.nodes target.node)) (shaped objects s h.object h.unit h.at h.is)) ∙ t)
