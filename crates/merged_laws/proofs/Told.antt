-- What a shape with merged entries tells: its objects, its unit of merged entries, and where references lead.
use Rattle.std.proofs.Common.{◌≡◌, ℕ, zero, suc, ◌+◌, ◌==◌, Bool, cond, List, [], ◌∷◌, ◌++◌, length, map, slice_get, get_or, Option, Some, None, is_some, refl, sym, ap, ◌∙◌, arith}
use Rattle.std.specs.List.{All, enumerate_from, filter_map}
use Rattle.std.specs.Option.{option_and_then, option_map, option_map_or}
use Rattle.std.proofs.lemmas.Bool.{ne_eqb}
use Rattle.std.proofs.lemmas.List.{length-map}
use Rattle.std.proofs.lemmas.List.Elements.{All-cons, All-nil}
use Rattle.std.proofs.lemmas.List.FromFn.{length-enumerate_from}
use Rattle.std.proofs.lemmas.Option.{none-some, same_Some, slice_get-map}
use Rattle.dwarf_types.specs.declared.analysis.Analysis.{Analysis}
use Rattle.dwarf_types.specs.declared.entry.Entry.{Entry}
use Rattle.dwarf_types.specs.declared.entry.InUnit.{InUnit}
use Rattle.dwarf_types.specs.declared.graph.OutUnit.{OutUnit}
use Rattle.dwarf_types.specs.declared.graph.Target.{Target}
use Rattle.dwarf_types.specs.declared.shape.Origin.{Origin}
use Rattle.dwarf_types.specs.declared.shape.Shape.{Shape}
use Rattle.dwarf_types.specs.declared.shape.ShapeUnit.{ShapeUnit}
use Rattle.dwarf_types.specs.LinkedShape.{objects_in, origin_of, plain_in, shape_in, unit_shape}
use Rattle.dwarf_types.specs.LinkedShape as linked_shape
use Rattle.dwarf_types.specs.LinkedUnits.{Object, Source, kept_entries, sources}
use Rattle.link_graph.specs.Graph.{image_of, pool_in, pool_of, pool_unit, pools}
use Rattle.link_graph.specs.Merged.{image_in, images_in, kept_object, kept_objects, pool_count, pool_origin, pool_root, pool_units, shape_of}
use Rattle.link_graph.specs.Pool.{pool_names}
use Rattle.link_graph.proofs.Gathered.{All-filter_map}
use Rattle.odr_names.specs.Numbered.{objects_of}
use Rattle.type_names.specs.Heads.{entries_of}
use Rattle.type_names.specs.Heads as heads
use Rattle.type_names.specs.Names.{Named}
use Rattle.type_names.specs.Objects.{object_of}
use Rattle.merged_laws.proofs.Marks.{marks_back}

-- ---- objects

pub kept_long : (odr : Bool) (o : heads.Object) → length (kept_object odr o).kept ≡ length (entries_of o)
kept_long odr o = length-map (enumerate_from 0 (entries_of o)) _ ∙ length-enumerate_from 0 (entries_of o)

abbrev made : Analysis → List Bool → Object
made seen kept = record { seen = seen; kept = kept }

back_by : (odr : Bool) (seen : List Analysis) (live : List (List Bool)) → linked_shape.objects_of seen (map (map is_some) (map plain_in (map (kept_object odr) (objects_of seen live)))) ≡ map (kept_object odr) (objects_of seen live)
back_by odr [] live = refl
back_by odr (a ∷ seen) [] = refl
back_by odr (a ∷ seen) (row ∷ live) =
    let it = kept_object odr (object_of a row) in
    ap (λ (kept : List Bool). made a kept ∷ linked_shape.objects_of seen (map (map is_some) (map plain_in (map (kept_object odr) (objects_of seen live))))) (marks_back it (kept_long odr (object_of a row)))
    ∙ ap (λ (os : List Object). it ∷ os) (back_by odr seen live)

-- the objects of the shape are those of which it was made
pub objects_back : (odr : Bool) (seen : List Analysis) (live : List (List Bool)) → objects_in seen (shape_of odr seen live) ≡ kept_objects odr seen live
objects_back odr seen live = back_by odr seen live

-- ---- the unit of merged entries

abbrev pub origins_of : List Named → List Origin
origins_of ns = pool_root ∷ map (pool_origin ns) (pool_names ns)

-- the units of merged entries, of which there is one where there are names
abbrev pub pool_made : (ℕ → ℕ → Option Target) → List Analysis → ℕ → List Named → List OutUnit
pool_made image all version [] = []
pool_made image all version (n ∷ ns) = pool_unit image all version (origins_of (n ∷ ns)) ∷ []

no_root : (s : Source) (o : Object) (es : List (ℕ × Entry)) (unit : ShapeUnit) → option_and_then (λ (root : Origin). cond (root.object == 0) (Some unit) None) (slice_get (map (origin_of s.object o s.unit) es) 0) ≡ None
no_root s o [] unit = refl
no_root s o (e ∷ es) unit = ap (λ (b : Bool). cond b (Some unit) None) (ne_eqb (s.object + 1) 0 (λ same. omega (arith, same)))

plain_unit : (s : Source) (o : Object) (unit : InUnit) → pool_in (unit_shape s o unit) ≡ None
plain_unit s o unit = no_root s o (kept_entries o s.unit) (unit_shape s o unit)

-- a unit of an object is none of merged entries
plain_shape : (objects : List Object) (s : Source) (y : ShapeUnit) → shape_in objects s ≡ Some y → pool_in y ≡ None
plain_shape objects s y is = by (slice_get objects s.object) is
  where
    of_unit : (o : Object) (found : Option InUnit) → option_map (unit_shape s o) found ≡ Some y → pool_in y ≡ None
    of_unit o None e = absurd (none-some y e)
    of_unit o (Some unit) e = ap pool_in (sym (same_Some (unit_shape s o unit) y e)) ∙ plain_unit s o unit

    by : (found : Option Object) → option_and_then (λ (o : Object). option_map (unit_shape s o) (slice_get o.seen.units s.unit)) found ≡ Some y → pool_in y ≡ None
    by None e = absurd (none-some y e)
    by (Some o) e = of_unit o (slice_get o.seen.units s.unit) e

first_plain : (units : List ShapeUnit) → All (λ unit. pool_in unit ≡ None) units → option_and_then pool_in (slice_get units 0) ≡ None
first_plain [] h = refl
first_plain (unit ∷ units) h = h 0 unit (omega arith)

abbrev some_units : (ℕ → ℕ → Option Target) → List Analysis → Option ShapeUnit → List OutUnit
some_units image all found = option_map_or (λ unit. pool_unit image all unit.version unit.nodes ∷ []) found []

abbrev pub pool_shape : ℕ → List Named → ShapeUnit
pool_shape version ns = record { version = version; nodes = origins_of ns }

pub pool_by : (all : List Analysis) (objects : List Object) (version : ℕ) (ns : List Named) (shape : Shape) → shape.units ≡ pool_units version ns ++ filter_map (shape_in objects) (sources objects)
    → pools all shape ≡ pool_made (image_of shape) all version ns
pool_by all objects version [] shape units =
    let none : pool_of shape ≡ None = ap (λ (us : List ShapeUnit). option_and_then pool_in (slice_get us 0)) units
    ∙ first_plain (filter_map (shape_in objects) (sources objects)) (All-filter_map (λ unit. pool_in unit ≡ None) (shape_in objects) (sources objects) (λ k d lt y e. plain_shape objects (get_or (sources objects) k d) y e)) in
    ap (some_units (image_of shape) all) none
pool_by all objects version (n ∷ ns) shape units =
    let some : pool_of shape ≡ Some (pool_shape version (n ∷ ns)) = ap (λ (us : List ShapeUnit). option_and_then pool_in (slice_get us 0)) units in
    ap (some_units (image_of shape) all) some

pub pool_some : (objects : List Object) (version : ℕ) (ns : List Named) (shape : Shape) → shape.units ≡ pool_units version ns ++ filter_map (shape_in objects) (sources objects) → (ns ≡ [] → ⊥)
    → pool_of shape ≡ Some (pool_shape version ns)
pool_some objects version [] shape units some = absurd (some refl)
pool_some objects version (n ∷ ns) shape units some = ap (λ (us : List ShapeUnit). option_and_then pool_in (slice_get us 0)) units

-- what holds of the unit of merged entries, if there is one
pub pool_all : (P : OutUnit → Type 0) (image : ℕ → ℕ → Option Target) (all : List Analysis) (version : ℕ) (ns : List Named) → ((ns ≡ [] → ⊥) → P (pool_unit image all version (origins_of ns))) → All P (pool_made image all version ns)
pool_all P image all version [] h = All-nil P
pool_all P image all version (n ∷ ns) h = All-cons P (pool_unit image all version (origins_of (n ∷ ns))) [] (h (λ none. (let long = ap length none in omega (arith, long)))) (All-nil P)

pub pool_first : (image : ℕ → ℕ → Option Target) (all : List Analysis) (version : ℕ) (ns : List Named) (others : List OutUnit) → (ns ≡ [] → ⊥)
    → slice_get (pool_made image all version ns ++ others) 0 ≡ Some (pool_unit image all version (origins_of ns))
pool_first image all version [] others some = absurd (some refl)
pool_first image all version (n ∷ ns) others some = refl

pub as_many_pools : (image : ℕ → ℕ → Option Target) (all : List Analysis) (version : ℕ) (ns : List Named) → length (pool_made image all version ns) ≡ pool_count ns
as_many_pools image all version [] = refl
as_many_pools image all version (n ∷ ns) = refl

-- ---- where references lead

pub numbered_get : {A : Type 0} (n : ℕ) (xs : List A) (i : ℕ) → slice_get (enumerate_from n xs) i ≡ option_map (λ x. (n + i, x)) (slice_get xs i)
numbered_get n [] i = refl
numbered_get n (x ∷ xs) zero = let same : n ≡ n + 0 = omega arith in ap (λ (m : ℕ). Some (m, x)) same
numbered_get n (x ∷ xs) (suc i) = let same : n + 1 + i ≡ n + suc i = omega arith in numbered_get (n + 1) xs i ∙ ap (λ (m : ℕ). option_map (λ x. (m, x)) (slice_get xs i)) same

module _ (odr : Bool) (seen : List Analysis) (live : List (List Bool)) where
  abbrev pub shape : Shape
  shape = shape_of odr seen live

  found_image : (i k : ℕ) (o : heads.Object) → ℕ → option_and_then (λ (image : Option Target). image) (slice_get (images_in odr seen live (i, o)) k) ≡ option_and_then (λ (e : Entry). image_in odr seen live (i, o) k) (slice_get (entries_of o) k)
  found_image i k o n =
      let same : 0 + k ≡ k = omega arith in
      ap (option_and_then (λ (image : Option Target). image)) (slice_get-map (λ (e : ℕ × Entry). image_in odr seen live (i, o) e.0) (enumerate_from 0 (entries_of o)) k
      ∙ ap (option_map (λ (e : ℕ × Entry). image_in odr seen live (i, o) e.0)) (numbered_get 0 (entries_of o) k)) ∙ by (slice_get (entries_of o) k)
      ∙ ap (λ (m : ℕ). option_and_then (λ (e : Entry). image_in odr seen live (i, o) m) (slice_get (entries_of o) k)) same
    where
      by : (found : Option Entry) → option_and_then (λ (image : Option Target). image) (option_map (λ (e : ℕ × Entry). image_in odr seen live (i, o) e.0) (option_map (λ (x : Entry). (0 + k, x)) found))
          ≡ option_and_then (λ (e : Entry). image_in odr seen live (i, o) (0 + k)) found
      by None = refl
      by (Some e) = refl

  abbrev pub in_object : ℕ → ℕ → heads.Object → Option Target
  in_object i k o = option_and_then (λ (e : Entry). image_in odr seen live (i, o) k) (slice_get (entries_of o) k)

  -- where a reference leads is told of each entry of each object
  pub image_read : (i k : ℕ) → image_of shape i k ≡ option_and_then (in_object i k) (slice_get (objects_of seen live) i)
  image_read i k =
      let all = objects_of seen live in
      let look : Option (List (Option Target)) → Option Target = option_and_then (λ (images : List (Option Target)). option_and_then (λ (image : Option Target). image) (slice_get images k)) in
      let same : 0 + i ≡ i = omega arith in
      ap look (slice_get-map (images_in odr seen live) (enumerate_from 0 all) i ∙ ap (option_map (images_in odr seen live)) (numbered_get 0 all i ∙ ap (λ (m : ℕ). option_map (λ (o : heads.Object). (m, o)) (slice_get all i)) same))
      ∙ by (slice_get all i)
    where
      by : (found : Option heads.Object) → option_and_then (λ (images : List (Option Target)). option_and_then (λ (image : Option Target). image) (slice_get images k)) (option_map (images_in odr seen live) (option_map (λ (o : heads.Object). (i, o)) found))
          ≡ option_and_then (in_object i k) found
      by None = refl
      by (Some o) = found_image i k o k
