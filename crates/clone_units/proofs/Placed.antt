-- Where a unit of a shape stands: the unit of merged entries first, if there is one, and the units of objects behind it.
use Rattle.std.proofs.Common.{◌≡◌, ◌⊎◌, ℕ, zero, suc, ◌+◌, Bool, cond, eqb, List, [], ◌∷◌, ◌++◌, length, map, slice_get, Option, Some, None, is_some, inl, inr, refl, sym, ap, subst, ◌∙◌, arith, length-append}
use Rattle.std.specs.List.{filter_map}
use Rattle.std.specs.Option.{option_and_then, option_map, option_map_or}
use Rattle.std.proofs.lemmas.Bool.{ne_eqb}
use Rattle.std.proofs.lemmas.Option.{same_Some}
use Rattle.dwarf_types.specs.declared.analysis.Analysis.{Analysis}
use Rattle.dwarf_types.specs.declared.entry.Entry.{Entry}
use Rattle.dwarf_types.specs.declared.graph.OutUnit.{OutUnit}
use Rattle.dwarf_types.specs.declared.graph.Target.{Target}
use Rattle.dwarf_types.specs.declared.shape.Origin.{Origin}
use Rattle.dwarf_types.specs.declared.shape.Shape.{Shape}
use Rattle.dwarf_types.specs.declared.shape.ShapeUnit.{ShapeUnit}
use Rattle.dwarf_types.specs.LinkedGraph.{unit_written, written}
use Rattle.dwarf_types.specs.LinkedShape.{objects_in, origin_of, shape_in, unit_shape}
use Rattle.dwarf_types.specs.LinkedUnits.{Object, Source, kept_entries, sources}
use Rattle.link_graph.specs.Graph.{IsPool, IsShape, graph_in, image_of, pool_in, pool_of, pool_unit, pools, units_in}
use Rattle.link_graph.proofs.Gathered.{as_many}
use Rattle.clone_units.proofs.Sources.{unit_from}

-- ---- units of objects

-- in the graph
module _ (all : List Analysis) (shape : Shape) where
  abbrev pub written_units : List OutUnit
  written_units = filter_map (written (image_of shape) (objects_in all shape)) (sources (objects_in all shape))

-- a unit of an object, by its place behind the unit of merged entries
pub record IsBehind (all : List Analysis) (shape : Shape) (n : ℕ) (unit : ShapeUnit) : Type 0 where
  pub place : ℕ
  pub behind : n ≡ length (pools all shape) + place
  pub at : slice_get (units_in all shape) place ≡ Some unit
  pub in_graph : slice_get (graph_in all shape).units n ≡ slice_get (written_units all shape) place

-- the unit of merged entries
pub record IsFirst (all : List Analysis) (shape : Shape) (n : ℕ) (unit : ShapeUnit) : Type 0 where
  pub is_first : n ≡ 0
  pub pooled : IsPool all shape unit
  pub in_graph : slice_get (graph_in all shape).units n ≡ Some (pool_unit (image_of shape) all unit.version unit.nodes)

-- ---- the nodes of a unit of an object name it

none_pooled : (unit : ShapeUnit) (i : ℕ) (o : Object) (u : ℕ) (kept : List (ℕ × Entry)) → option_and_then (λ (root : Origin). cond (eqb root.object 0) (Some unit) None) (slice_get (map (origin_of i o u) kept) 0) ≡ None
none_pooled unit i o u [] = refl
none_pooled unit i o u (e ∷ kept) = ap (λ (b : Bool). cond b (Some unit) None) (ne_eqb (i + 1) 0 (omega arith))

no_pool : (all : List Analysis) (shape : Shape) (m : ℕ) (unit : ShapeUnit) → slice_get (units_in all shape) m ≡ Some unit → pool_in unit ≡ None
no_pool all shape m unit at =
    let from = unit_from (image_of shape) (objects_in all shape) m unit at in
    let i = from.source.object in
    let o = from.is.object in
    let u = from.source.unit in
    ap (λ (os : List Origin). option_and_then (λ (root : Origin). cond (eqb root.object 0) (Some unit) None) (slice_get os 0)) (ap (λ (x : ShapeUnit). x.nodes) from.shape_is)
    ∙ none_pooled unit i o u (kept_entries o u)

no_pool_first : (all : List Analysis) (shape : Shape) (found : Option ShapeUnit) → slice_get (units_in all shape) 0 ≡ found → option_and_then pool_in found ≡ None
no_pool_first all shape None e = refl
no_pool_first all shape (Some unit) e = no_pool all shape 0 unit e

mapped_some : {A B C : Type 0} (f : A → B) (g : A → C) (o : Option A) → is_some (option_map f o) ≡ is_some (option_map g o)
mapped_some f g None = refl
mapped_some f g (Some x) = refl

written_some : (image : ℕ → Option Target) (o : Option Object) (s : Source)
    → is_some (option_and_then (λ o. option_map (unit_written image o s.unit) (slice_get o.seen.units s.unit)) o) ≡ is_some (option_and_then (λ o. option_map (unit_shape s o) (slice_get o.seen.units s.unit)) o)
written_some image None s = refl
written_some image (Some o) s = mapped_some (unit_written image o s.unit) (unit_shape s o) (slice_get o.seen.units s.unit)

-- ---- where a unit stands

pool_there : (unit : ShapeUnit) (root : Origin) (below : List Origin) → unit.nodes ≡ root ∷ below → root.object ≡ 0 → pool_in unit ≡ Some unit
pool_there unit root below nodes is =
    ap (λ (os : List Origin). option_and_then (λ (root : Origin). cond (eqb root.object 0) (Some unit) None) (slice_get os 0)) nodes
    ∙ ap (λ (k : ℕ). cond (eqb k 0) (Some unit) None) is

module _ (all : List Analysis) (shape : Shape) (is : IsShape all shape) where
  abbrev pools_by : Option ShapeUnit → List OutUnit
  pools_by pool = option_map_or (λ unit. pool_unit (image_of shape) all unit.version unit.nodes ∷ []) pool []

  abbrev graph_by : Option ShapeUnit → List OutUnit
  graph_by pool = pools_by pool ++ written_units all shape

  units_are : (pool : List ShapeUnit) → is.pool ≡ pool → shape.units ≡ pool ++ units_in all shape
  units_are pool e = is.units ∙ ap (λ (us : List ShapeUnit). us ++ units_in all shape) e

  no_pool_there : is.pool ≡ [] → pool_of shape ≡ None
  no_pool_there none = ap (λ (us : List ShapeUnit). option_and_then pool_in (slice_get us 0)) (units_are [] none) ∙ no_pool_first all shape (slice_get (units_in all shape) 0) refl

  behind_none : is.pool ≡ [] → (n : ℕ) (unit : ShapeUnit) → slice_get shape.units n ≡ Some unit → IsBehind all shape n unit
  behind_none none n unit at =
      let no = no_pool_there none in
      record {
        place = n;
        behind = omega (arith, ap (λ (pool : Option ShapeUnit). length (pools_by pool)) no);
        at = ap (λ (us : List ShapeUnit). slice_get us n) (sym (units_are [] none)) ∙ at;
        in_graph = ap (λ (pool : Option ShapeUnit). slice_get (graph_by pool) n) no;
      }

  module _ (first : ShapeUnit) (one : is.pool ≡ first ∷ []) (pooled : IsPool all shape first) where
    the_pool : pool_of shape ≡ Some first
    the_pool = ap (λ (us : List ShapeUnit). option_and_then pool_in (slice_get us 0)) (units_are (first ∷ []) one) ∙ pool_there first pooled.root pooled.below pooled.nodes pooled.is_root

    behind_one : (n : ℕ) (unit : ShapeUnit) → slice_get shape.units n ≡ Some unit → IsBehind all shape n unit ⊎ IsFirst all shape n unit
    behind_one zero unit at =
        let same : first ≡ unit = same_Some first unit (ap (λ (us : List ShapeUnit). slice_get us 0) (sym (units_are (first ∷ []) one)) ∙ at) in
        inr (subst (IsFirst all shape 0) same (record { is_first = refl; pooled = pooled; in_graph = ap (λ (pool : Option ShapeUnit). slice_get (graph_by pool) 0) the_pool }))
    behind_one (suc m) unit at = inl (record {
      place = m;
      behind = omega (arith, ap (λ (pool : Option ShapeUnit). length (pools_by pool)) the_pool);
      at = ap (λ (us : List ShapeUnit). slice_get us (suc m)) (sym (units_are (first ∷ []) one)) ∙ at;
      in_graph = ap (λ (pool : Option ShapeUnit). slice_get (graph_by pool) (suc m)) the_pool;
    })

  pub placed : (n : ℕ) (unit : ShapeUnit) → slice_get shape.units n ≡ Some unit → IsBehind all shape n unit ⊎ IsFirst all shape n unit
  placed n unit at = elim is.is_pool [ inl none ↦ inl (behind_none none n unit at) | inr one ↦ behind_one one.0 one.1 one.2 n unit at ]

  pools_many : length (pools all shape) ≡ length is.pool
  pools_many = elim is.is_pool [
    | inl none ↦ ap (λ (pool : Option ShapeUnit). length (pools_by pool)) (no_pool_there none) ∙ sym (ap length none)
    | inr one ↦ ap (λ (pool : Option ShapeUnit). length (pools_by pool)) (the_pool one.0 one.1 one.2) ∙ sym (ap length one.1)
  ]

  -- each unit of a shape is one of its graph
  pub units_many : length (graph_in all shape).units ≡ length shape.units
  units_many =
      let objects = objects_in all shape in
      let many = as_many (written (image_of shape) objects) (shape_in objects) (sources objects) (λ s. written_some (image_of shape s.object) (slice_get objects s.object) s) in
      omega (arith, length-append (pools all shape) (written_units all shape), pools_many, many, ap length is.units, length-append is.pool (units_in all shape))
