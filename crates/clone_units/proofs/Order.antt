-- The units of a shape stand in the order of their objects.
use Rattle.std.proofs.Common.{◌≡◌, ◌⊎◌, ℕ, zero, suc, cond, eqb, ◌+◌, ◌-◌, ◌<◌, ◌≤◌, inl, inr, List, [], ◌∷◌, ◌++◌, length, slice_get, Option, Some, None, refl, sym, ap, subst, ◌∙◌, arith}
use Rattle.std.specs.List.{All, enumerate_from, flat_map}
use Rattle.std.specs.Option.{option_and_then}
use Rattle.std.proofs.lemmas.List.Elements.{All-head, All-tail}
use Rattle.std.proofs.lemmas.Option.{same_Some, slice_get_cases}
use Rattle.dwarf_types.specs.declared.analysis.Analysis.{Analysis}
use Rattle.dwarf_types.specs.declared.shape.Origin.{Origin}
use Rattle.dwarf_types.specs.declared.shape.Shape.{Shape}
use Rattle.dwarf_types.specs.declared.shape.ShapeUnit.{ShapeUnit}
use Rattle.dwarf_types.specs.LinkedShape.{objects_in}
use Rattle.dwarf_types.specs.LinkedUnits.{Object, Source, kept_entries, sources, sources_in}
use Rattle.link_graph.specs.Graph.{IsPool, IsShape, image_of}
use Rattle.clone_units.specs.Nodes.{number_of_object}
use Rattle.clone_units.specs.Units.{Names, object_of}
use Rattle.clone_units.proofs.Cloned.{counted_by, its_object, kept_stand, kept_units, names_one, object_within, root_of}
use Rattle.clone_units.proofs.Placed.{IsBehind, IsFirst, placed}
use Rattle.clone_units.proofs.Rooted.{HasRoot, behind_of}
use Rattle.clone_units.proofs.Sources.{all_same, unit_from}

-- ---- sources

-- from one object on, none before another that stands before it
abbrev Rises : ℕ → List Source → Type 0
Rises from [] = Unit {0}
Rises from (s ∷ xs) = (from ≤ s.object) × Rises s.object xs

rises_before : (a b : ℕ) (xs : List Source) → a ≤ b → Rises b xs → Rises a xs
rises_before a b [] le h = tt
rises_before a b (s ∷ xs) le h = (omega (arith, le, h.0), h.1)

rises_behind : (n : ℕ) (xs ys : List Source) → All (λ s. s.object ≡ n) xs → Rises (n + 1) ys → Rises n (xs ++ ys)
rises_behind n [] ys same h = rises_before n (n + 1) ys (omega arith) h
rises_behind n (s ∷ xs) ys same h =
    let here : s.object ≡ n = All-head (λ (x : Source). x.object ≡ n) s xs same in
    (omega (arith, here), subst (λ (m : ℕ). Rises m (xs ++ ys)) (sym here) (rises_behind n xs ys (All-tail (λ (x : Source). x.object ≡ n) s xs same) h))

sources_rise : (n : ℕ) (objects : List Object) → Rises n (flat_map sources_in (enumerate_from n objects))
sources_rise n [] = tt
sources_rise n (o ∷ objects) = rises_behind n (sources_in (n, o)) (flat_map sources_in (enumerate_from (n + 1) objects)) (all_same n o) (sources_rise (n + 1) objects)

rises_on : (from n m : ℕ) (xs : List Source) (a b : Source) → m ≡ n + 1 → Rises from xs → slice_get xs n ≡ Some a → slice_get xs m ≡ Some b → a.object ≤ b.object
rises_on from n m [] a b e h at next = absurd cc
rises_on from zero zero (s ∷ xs) a b e h at next = absurd (omega (arith, e))
rises_on from zero (suc zero) (s ∷ []) a b e h at next = absurd cc
rises_on from zero (suc zero) (s ∷ t ∷ xs) a b e h at next =
    omega (arith, h.1.0, ap (λ (x : Source). x.object) (same_Some s a at), ap (λ (x : Source). x.object) (same_Some t b next))
rises_on from zero (suc (suc m)) (s ∷ xs) a b e h at next = absurd (omega (arith, e))
rises_on from (suc n) zero (s ∷ xs) a b e h at next = absurd (omega (arith, e))
rises_on from (suc n) (suc m) (s ∷ xs) a b e h at next = rises_on s.object n m xs a b (omega (arith, e)) h.1 at next

-- ---- units

some_of : {A B : Type 0} (f : A → Option B) (o : Option A) (x : B) → option_and_then f o ≡ Some x → (y : A) × (o ≡ Some y) × (f y ≡ Some x)
some_of f None x e = absurd cc
some_of f (Some y) x e = (y, refl, e)

-- a unit of an object
record IsPlain (seen : List Analysis) (shape : Shape) (u a : ℕ) : Type 0 where
  pub unit : ShapeUnit
  pub at : slice_get shape.units u ≡ Some unit
  pub behind : IsBehind seen shape u unit
  pub root : HasRoot unit.nodes a

plain_at : (seen : List Analysis) (shape : Shape) (u a : ℕ) → IsShape seen shape → object_of shape u ≡ Some a → IsPlain seen shape u a
plain_at seen shape u a is e =
    let unit = some_of (λ (it : ShapeUnit). option_and_then number_of_object (slice_get it.nodes 0)) (slice_get shape.units u) a e in
    let root = some_of number_of_object (slice_get unit.0.nodes 0) a unit.2 in
    let rooted : HasRoot unit.0.nodes a = record { root = root.0; first = root.1; number = root.2 } in
    record { unit = unit.0; at = unit.1; behind = behind_of seen shape u unit.0 a rooted (placed seen shape is u unit.0 unit.1); root = rooted }

source_at : (seen : List Analysis) (shape : Shape) (u a : ℕ) (h : IsPlain seen shape u a) → (s : Source) × (slice_get (sources (objects_in seen shape)) h.behind.place ≡ Some s) × (s.object ≡ a)
source_at seen shape u a h =
    let from = unit_from (image_of shape) (objects_in seen shape) h.behind.place h.unit h.behind.at in
    let s = from.source in
    let o = from.is.object in
    let root_is = root_of s.object o s.unit h.root.root (kept_entries o s.unit) (kept_stand o s.unit) (kept_units o s.unit) (sym (ap (λ (it : ShapeUnit). slice_get it.nodes 0) from.shape_is) ∙ h.root.first) in
    (s, from.at, omega (arith, root_is.object, counted_by h.root.root.object a (eqb h.root.root.object 0) refl h.root.number))

-- a unit's object is not before that of the unit before it
pub objects_rise : (seen : List Analysis) (shape : Shape) (u a b : ℕ) → IsShape seen shape → object_of shape u ≡ Some a → object_of shape (u + 1) ≡ Some b → a ≤ b
objects_rise seen shape u a b is e f =
    let h = plain_at seen shape u a is e in
    let k = plain_at seen shape (u + 1) b is f in
    let s = source_at seen shape u a h in
    let t = source_at seen shape (u + 1) b k in
    omega (
      arith,
      rises_on 0 h.behind.place k.behind.place (sources (objects_in seen shape)) s.0 t.0 (omega (arith, h.behind.behind, k.behind.behind)) (sources_rise 0 (objects_in seen shape)) s.1 t.1,
      s.2,
      t.2,
    )

-- all nodes of a unit of an object stand for entries of one object, which its root names
pub one_object : (seen : List Analysis) (shape : Shape) (u a b : ℕ) → IsShape seen shape → object_of shape u ≡ Some a → Names shape u b → b ≡ a
one_object seen shape u a b is e names =
    let h = plain_at seen shape u a is e in
    let first : Names shape u a = record { unit = h.unit; its = h.at; node = 0; origin = h.root.root; stands = h.root.first; number = h.root.number } in
    names_one seen shape u h.unit is h.at h.behind b names ∙ sym (names_one seen shape u h.unit is h.at h.behind a first)

-- ---- which object a unit has

first_of_none : (all : List Analysis) (shape : Shape) (u : ℕ) (unit : ShapeUnit) → slice_get shape.units u ≡ Some unit → IsPool all shape unit → object_of shape u ≡ None
first_of_none all shape u unit at pool =
    ap (option_and_then (λ (it : ShapeUnit). option_and_then number_of_object (slice_get it.nodes 0))) at
    ∙ ap (λ (os : List Origin). option_and_then number_of_object (slice_get os 0)) pool.nodes ∙ ap (λ (k : ℕ). cond (eqb k 0) None (Some (k - 1))) pool.is_root

-- the first unit may be that of merged entries, and each other is one of an object that is there
pub its_object_is : (seen : List Analysis) (shape : Shape) (u : ℕ) → IsShape seen shape → u < length shape.units
    → ((u ≡ 0) × (object_of shape u ≡ None)) ⊎ ((a : ℕ) × (object_of shape u ≡ Some a) × (a < length seen))
its_object_is seen shape u is lt = elim (slice_get_cases shape.units u).1 [ inl w ↦ placed_there w.0 w.2 (placed seen shape is u w.0 w.2) | inr w ↦ absurd (omega (arith, w.0)) ]
  where
    placed_there : (unit : ShapeUnit) → slice_get shape.units u ≡ Some unit → IsBehind seen shape u unit ⊎ IsFirst seen shape u unit
        → ((u ≡ 0) × (object_of shape u ≡ None)) ⊎ ((a : ℕ) × (object_of shape u ≡ Some a) × (a < length seen))
    placed_there unit at (inl behind) = inr (_, its_object seen shape u unit is at behind, object_within seen shape u unit is at behind)
    placed_there unit at (inr first) = inl (first.is_first, first_of_none seen shape u unit at first.pooled)
