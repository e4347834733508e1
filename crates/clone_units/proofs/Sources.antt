-- The units of objects in a shape and those in the graph have the same sources.
use Rattle.std.proofs.Common.{◌≡◌, ℕ, Bool, true, false, cond, eqb, List, length, get_or, slice_get, Option, Some, None, is_some, inl, inr, refl, sym, ap, subst, ◌∙◌}
use Rattle.std.specs.List.{All, enumerate_from, filter_map}
use Rattle.std.specs.Option.{option_and_then, option_map}
use Rattle.std.proofs.lemmas.List.Elements.{All-weaker}
use Rattle.std.proofs.lemmas.Option.{same_Some, slice_get_cases}
use Rattle.dwarf_types.specs.declared.entry.InUnit.{InUnit}
use Rattle.dwarf_types.specs.declared.graph.Target.{Target}
use Rattle.dwarf_types.specs.declared.shape.ShapeUnit.{ShapeUnit}
use Rattle.dwarf_types.specs.LinkedGraph.{unit_written, written}
use Rattle.dwarf_types.specs.LinkedShape.{shape_in, unit_shape}
use Rattle.dwarf_types.specs.LinkedUnits.{Object, Source, kept_entries, sources, sources_in}
use Rattle.link_graph.proofs.Gathered.{All-enumerate, All-filter_map, All-flat_map}
use Rattle.clone_units.proofs.Each.{filter_map_at}

-- ---- sources

-- a unit that is written
pub record IsSource (objects : List Object) (s : Source) : Type 0 where
  pub object : Object
  pub at : slice_get objects s.object ≡ Some object
  pub unit : InUnit
  pub is : slice_get object.seen.units s.unit ≡ Some unit
  pub some : eqb (length (kept_entries object s.unit)) 0 ≡ false

unless_none : {A : Type 0} (b : Bool) (x y : A) → cond b None (Some x) ≡ Some y → b ≡ false
unless_none true x y e = absurd cc
unless_none false x y e = refl

unless_some : {A : Type 0} (b : Bool) (x y : A) → cond b None (Some x) ≡ Some y → x ≡ y
unless_some true x y e = absurd cc
unless_some false x y e = same_Some x y e

abbrev source_of : ℕ → Object → ℕ × InUnit → Option Source
source_of object o u = cond (eqb (length (kept_entries o u.0)) 0) None (Some (record { object = object; unit = u.0 }))

all_sources : (objects : List Object) → All (IsSource objects) (sources objects)
all_sources objects = All-flat_map (IsSource objects) sources_in (enumerate_from 0 objects)
    (All-weaker (λ (x : ℕ × Object). slice_get objects x.0 ≡ Some x.1) (λ x. All (IsSource objects) (sources_in x))
    (λ x at. All-filter_map (IsSource objects) (source_of x.0 x.1) (enumerate_from 0 x.1.seen.units)
    (All-weaker (λ (u : ℕ × InUnit). slice_get x.1.seen.units u.0 ≡ Some u.1) (λ (u : ℕ × InUnit). (y : Source) → source_of x.0 x.1 u ≡ Some y → IsSource objects y)
    (λ u is y e. subst (IsSource objects) (unless_some _ (record { object = x.0; unit = u.0 }) y e) (record { object = x.1; at = at; unit = u.1; is = is; some = unless_none _ (record { object = x.0; unit = u.0 }) y e })) (enumerate_from 0 x.1.seen.units) (All-enumerate x.1.seen.units)))
    (enumerate_from 0 objects) (All-enumerate objects))

-- those of an object name it
pub all_same : (n : ℕ) (o : Object) → All (λ s. s.object ≡ n) (sources_in (n, o))
all_same n o =
    All-filter_map (λ (s : Source). s.object ≡ n) (source_of n o) (enumerate_from 0 o.seen.units)
    (λ k d lt y e. ap (λ (s : Source). s.object) (sym (unless_some _ (record { object = n; unit = (get_or (enumerate_from 0 o.seen.units) k d).0 }) y e)))

shape_of_source : (objects : List Object) (s : Source) (h : IsSource objects s) → shape_in objects s ≡ Some (unit_shape s h.object h.unit)
shape_of_source objects s h = ap (option_and_then (λ (x : Object). option_map (unit_shape s x) (slice_get x.seen.units s.unit))) h.at ∙ ap (option_map (unit_shape s h.object)) h.is

written_of_source : (image : ℕ → ℕ → Option Target) (objects : List Object) (s : Source) (h : IsSource objects s) → written image objects s ≡ Some (unit_written (image s.object) h.object s.unit h.unit)
written_of_source image objects s h = ap (option_and_then (λ (x : Object). option_map (unit_written (image s.object) x s.unit) (slice_get x.seen.units s.unit))) h.at ∙ ap (option_map (unit_written (image s.object) h.object s.unit)) h.is

-- ---- one unit

-- the source of a unit of the shape, and the unit of the graph, by where references lead
pub record IsFrom (image : ℕ → ℕ → Option Target) (objects : List Object) (n : ℕ) (shape : ShapeUnit) : Type 0 where
  pub source : Source
  pub at : slice_get (sources objects) n ≡ Some source
  pub is : IsSource objects source
  pub shape_is : shape ≡ unit_shape source is.object is.unit
  pub linked_is : slice_get (filter_map (written image objects) (sources objects)) n ≡ Some (unit_written (image source.object) is.object source.unit is.unit)

pub unit_from : (image : ℕ → ℕ → Option Target) (objects : List Object) (n : ℕ) (shape : ShapeUnit) → slice_get (filter_map (shape_in objects) (sources objects)) n ≡ Some shape → IsFrom image objects n shape
unit_from image objects n shape at = elim (slice_get_cases (sources objects) n).1 [
  | inl w ↦ (let s = w.0 in
      let h : IsSource objects s = subst (IsSource objects) w.3 (all_sources objects n s w.1) in
      let found : Some shape ≡ Some (unit_shape s h.object h.unit) = sym at ∙ shapes ∙ ap (option_and_then (shape_in objects)) w.2 ∙ shape_of_source objects s h in
      record {
        source = s;
        at = w.2;
        is = h;
        shape_is = same_Some shape (unit_shape s h.object h.unit) found;
        linked_is = units ∙ ap (option_and_then (written image objects)) w.2 ∙ written_of_source image objects s h;
      })
  | inr w ↦ absurd (let none : None ≡ Some shape = sym (shapes ∙ ap (option_and_then (shape_in objects)) w.1) ∙ at in cc)
]
  where
    shapes : slice_get (filter_map (shape_in objects) (sources objects)) n ≡ option_and_then (shape_in objects) (slice_get (sources objects) n)
    shapes = filter_map_at (shape_in objects) (sources objects) (All-weaker (IsSource objects) (λ s. is_some (shape_in objects s) ≡ true) (λ s h. ap is_some (shape_of_source objects s h)) (sources objects) (all_sources objects)) n

    units : slice_get (filter_map (written image objects) (sources objects)) n ≡ option_and_then (written image objects) (slice_get (sources objects) n)
    units = filter_map_at (written image objects) (sources objects) (All-weaker (IsSource objects) (λ s. is_some (written image objects s) ≡ true) (λ s h. ap is_some (written_of_source image objects s h)) (sources objects) (all_sources objects)) n
