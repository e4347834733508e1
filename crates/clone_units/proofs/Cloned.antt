-- What is cloned by the root of a unit's nodes is the unit of the linked graph.
use Rattle.std.proofs.Common.{◌≡◌, ℕ, ◌+◌, ◌-◌, ◌<◌, Bool, true, false, cond, eqb, List, [], ◌∷◌, ◌++◌, length, map, get_or, slice_get, Option, Some, None, is_some, inl, inr, refl, sym, ap, subst, ◌∙◌, arith}
use Rattle.std.proofs.Math.Path.{fun_ext}
use Rattle.std.specs.List.{All, cons_option, filter_map, zip}
use Rattle.std.specs.Option.{option_and_then, option_map}
use Rattle.std.proofs.lemmas.Bool.{and_parts, eqb-false, eqb-true, ne_eqb}
use Rattle.std.proofs.lemmas.List.Elements.{All-filter, All-head, All-tail, filter_passes}
use Rattle.std.proofs.lemmas.Option.{get_or_from_slice_get, same_Some, slice_get-get_or, slice_get-map, slice_get_cases, slice_get_within}
use Rattle.std.proofs.lemmas.List.{length-map}
use Rattle.std.proofs.lemmas.List.FromFn.{length-enumerate_from}
use Rattle.std.proofs.lemmas.Slice.Zip.{get_or-zip, length-zip}
use Rattle.clone_values.specs.Images.{image_at}
use Rattle.dwarf_types.specs.declared.address.Span.{Span}
use Rattle.dwarf_types.specs.declared.analysis.Analysis.{Analysis}
use Rattle.dwarf_types.specs.declared.entry.Entry.{Entry}
use Rattle.dwarf_types.specs.declared.entry.InUnit.{InUnit}
use Rattle.dwarf_types.specs.declared.graph.Node.{Node}
use Rattle.dwarf_types.specs.declared.graph.OutUnit.{OutUnit}
use Rattle.dwarf_types.specs.declared.graph.Target.{Target}
use Rattle.dwarf_types.specs.declared.shape.Origin.{Origin}
use Rattle.dwarf_types.specs.declared.shape.Shape.{Shape}
use Rattle.dwarf_types.specs.declared.shape.ShapeUnit.{ShapeUnit}
use Rattle.dwarf_types.specs.LinkedGraph.{closing, code_of_unit, node_of, unit_written}
use Rattle.dwarf_types.specs.LinkedShape.{marks_in, objects_in, origin_of, plain_in}
use Rattle.dwarf_types.specs.LinkedUnits.{Object, Source, kept_entries, node_number, numbered, parent_node}
use Rattle.dwarf_types.specs.LinkedValues.{attrs_written}
use Rattle.link_graph.specs.Graph.{IsShape, graph_in, image_of}
use Rattle.link_graph.proofs.Gathered.{All-enumerate}
use Rattle.link_graph.proofs.Shapes.{Parts, object_parts}
use Rattle.clone_units.specs.Nodes.{IsEntryOf, node_at, node_with, number_of_object}
use Rattle.clone_units.specs.Pieces.{object_in}
use Rattle.clone_units.specs.Units.{AreThere, IsUnitOf, Names, object_of, unit_with}
use Rattle.clone_units.proofs.Placed.{IsBehind}
use Rattle.clone_units.proofs.Sources.{IsFrom, unit_from}

-- ---- where the entries went

-- the row of an object tells where its entries went
images_tell : (shape : Shape) (i : ℕ) (row : List (Option Target)) → slice_get shape.images i ≡ Some row → image_at row ≡ image_of shape i
images_tell shape i row at = sym (fun_ext (λ k. ap (option_and_then (λ (images : List (Option Target)). option_and_then (λ (image : Option Target). image) (slice_get images k))) at))

-- ---- nodes

-- an origin tells its object again
pub number_back : (i : ℕ) → cond (eqb (i + 1) 0) None (Some (i + 1 - 1)) ≡ Some i
number_back i = rw (ne_eqb (i + 1) 0 (omega arith)) (ap (λ (n : ℕ). Some n) (omega arith))

pub kept_stand : (o : Object) (u : ℕ) → All (λ e. slice_get o.seen.entries e.0 ≡ Some e.1) (kept_entries o u)
kept_stand o u = All-filter _ (λ (e : ℕ × Entry). slice_get o.seen.entries e.0 ≡ Some e.1) (numbered o) (All-enumerate o.seen.entries)

gather_each : {A B C : Type 0} (f : B → Option C) (origin : A → B) (made : A → C) (xs : List A) → All (λ x. f (origin x) ≡ Some (made x)) xs → filter_map f (map origin xs) ≡ map made xs
gather_each f origin made [] each = refl
gather_each f origin made (x ∷ xs) each =
    let here : f (origin x) ≡ Some (made x) = All-head (λ y. f (origin y) ≡ Some (made y)) x xs each in
    ap (λ o. cons_option o (filter_map f (map origin xs))) here ∙ ap (λ ys. made x ∷ ys) (gather_each f origin made xs (All-tail (λ y. f (origin y) ≡ Some (made y)) x xs each))

nodes_are : (image : ℕ → Option Target) (i : ℕ) (o : Object) (u : ℕ) (row : List (Option Target)) → image_at row ≡ image
    → filter_map (node_at o.seen row (code_of_unit o u)) (map (origin_of i o u) (kept_entries o u)) ≡ map (node_of image o u) (kept_entries o u)
nodes_are image i o u row tell = gather_each (node_at o.seen row spans) (origin_of i o u) (node_of image o u) (kept_entries o u) (λ k d lt. each (get_or (kept_entries o u) k d) (kept_stand o u k d lt))
  where
    spans : List Span
    spans = code_of_unit o u

    made : ℕ × Entry → (ℕ → Option Target) → Node
    made e image = record { parent = parent_node o u e.1; tag = e.1.tag; attrs = attrs_written image None e.1 ++ closing e.1 spans }

    each : (e : ℕ × Entry) → slice_get o.seen.entries e.0 ≡ Some e.1 → node_at o.seen row spans (origin_of i o u e) ≡ Some (node_of image o u e)
    each e at = ap (option_map (node_with row spans (origin_of i o u e))) at ∙ ap (λ (image : ℕ → Option Target). Some (made e image)) tell

-- ---- the unit

-- the root is the first of the kept entries
pub record IsRootOf (i : ℕ) (o : Object) (u : ℕ) (root : Origin) : Type 0 where
  pub entry : Entry
  pub object : root.object ≡ i + 1
  pub stands : slice_get o.seen.entries root.entry ≡ Some entry
  pub unit : entry.unit ≡ u

pub root_of : (i : ℕ) (o : Object) (u : ℕ) (root : Origin) (kept : List (ℕ × Entry)) → All (λ e. slice_get o.seen.entries e.0 ≡ Some e.1) kept → All (λ e. e.1.unit ≡ u) kept
    → slice_get (map (origin_of i o u) kept) 0 ≡ Some root → IsRootOf i o u root
root_of i o u root [] stand units is = absurd cc
root_of i o u root (e ∷ kept) stand units is =
    subst (IsRootOf i o u) (same_Some (origin_of i o u e) root is) (record { entry = e.1; object = refl; stands = stand 0 e (omega arith); unit = units 0 e (omega arith) })

pub kept_units : (o : Object) (u : ℕ) → All (λ e. e.1.unit ≡ u) (kept_entries o u)
kept_units o u k d lt = eqb-true _ _ (and_parts _ _ (filter_passes _ (numbered o) k d lt)).0

-- an object is told by the nodes of its entries
object_is : (o : Object) (seen : Analysis) (plain : List (Option ℕ)) → o.seen ≡ seen → o.kept ≡ map is_some plain → o ≡ object_in seen plain
object_is o seen plain a b = ap (λ (s : Analysis). made s o.kept) a ∙ ap (made seen) b
  where
    made : Analysis → List Bool → Object
    made s m = record { seen = s; kept = m }

unit_is : (image : ℕ → ℕ → Option Target) (s : Source) (o : Object) (unit : InUnit) (plain : List (Option ℕ)) (row : List (Option Target)) (entry : Entry) (unit' : InUnit) (origins : List Origin)
    → o ≡ object_in o.seen plain → image_at row ≡ image s.object → entry.unit ≡ s.unit → unit' ≡ unit → origins ≡ map (origin_of s.object o s.unit) (kept_entries o s.unit)
    → unit_with o.seen row unit' (code_of_unit (object_in o.seen plain) entry.unit) origins ≡ unit_written (image s.object) o s.unit unit
unit_is image s o unit plain row entry unit' origins same tell u units are =
    ap (λ (v : ℕ). unit_with o.seen row unit' (code_of_unit (object_in o.seen plain) v) origins) u
    ∙ ap (λ (w : InUnit). unit_with o.seen row w (code_of_unit (object_in o.seen plain) s.unit) origins) units
    ∙ ap (unit_with o.seen row unit (code_of_unit (object_in o.seen plain) s.unit)) are
    ∙ ap (λ (x : Object). unit_with o.seen row unit (code_of_unit x s.unit) (map (origin_of s.object o s.unit) (kept_entries o s.unit))) (sym same)
    ∙ ap (λ (ns : List Node). made ns (code_of_unit o s.unit)) (nodes_are (image s.object) s.object o s.unit row tell)
  where
    made : List Node → List Span → OutUnit
    made nodes spans = record { version = unit.version; nodes = nodes; lines = unit.lines; ranges = spans }

-- ---- the object of a unit of a shape

pub counted_by : (k object : ℕ) (b : Bool) → eqb k 0 ≡ b → cond b None (Some (k - 1)) ≡ Some object → k ≡ object + 1
counted_by k object true t e = absurd cc
counted_by k object false t e = omega (arith, same_Some (k - 1) object e, eqb-false k 0 t)

-- the unit of a shape is one of an object, for whose entries all its nodes stand
module _ (all : List Analysis) (shape : Shape) (n : ℕ) (unit : ShapeUnit) (is : IsShape all shape) (at : slice_get shape.units n ≡ Some unit) (behind : IsBehind all shape n unit) where
  abbrev objects : List Object
  objects = objects_in all shape

  pub from : IsFrom (image_of shape) objects behind.place unit
  from = unit_from (image_of shape) objects behind.place unit behind.at

  abbrev i : ℕ
  i = from.source.object

  abbrev u : ℕ
  u = from.source.unit

  abbrev pub o : Object
  o = from.is.object

  pub origins : unit.nodes ≡ map (origin_of i o u) (kept_entries o u)
  origins = ap (λ (x : ShapeUnit). x.nodes) from.shape_is

  pub parts : Parts all (marks_in shape) i o
  parts = object_parts all (marks_in shape) i o is.marked.each from.is.at

  pub images_there : (row : List (Option Target)) × (slice_get shape.images i ≡ Some row)
  images_there = elim (slice_get_cases shape.images i).1 [ inl w ↦ (w.0, w.2) | inr w ↦ absurd (omega (arith, w.0, is.rows, slice_get_within all i o.seen parts.analysis)) ]

  pub plain_there : slice_get shape.plain i ≡ Some (plain_in o)
  plain_there = ap (λ (rows : List (List (Option ℕ))). slice_get rows i) is.plain ∙ slice_get-map plain_in objects i ∙ ap (option_map plain_in) from.is.at

  pub object_within : i < length all
  object_within = slice_get_within all i o.seen parts.analysis

  -- each entry has a place in both rows of its object
  pub plain_long : length (plain_in o) ≡ length o.seen.entries
  plain_long = omega (arith, length-map (numbered o) (λ (e : ℕ × Entry). node_number o e.1.unit e.0), length-enumerate_from 0 o.seen.entries)

  pub images_long : length images_there.0 ≡ length o.seen.entries
  images_long =
      let row = images_there.0 in
      let both : get_or (zip all shape.images) i (o.seen, row) ≡ (o.seen, row) =
      get_or-zip all shape.images i (o.seen, row) object_within (omega (arith, object_within, is.rows)) ∙ cc (get_or_from_slice_get all i o.seen o.seen parts.analysis, get_or_from_slice_get shape.images i row row images_there.1) in
      subst (λ (x : Analysis × List (Option Target)). length x.1 ≡ length x.0.entries) both (is.images i (o.seen, row) (omega (arith, object_within, length-zip all shape.images, is.rows)))

  kept_is : o.kept ≡ map is_some (plain_in o)
  kept_is = same_Some o.kept (map is_some (plain_in o)) (sym parts.marked ∙ slice_get-map (map is_some) shape.plain i ∙ ap (option_map (map is_some)) plain_there)

  -- each node
  node_from : (k : ℕ) (origin : Origin) → slice_get unit.nodes k ≡ Some origin → (e : ℕ × Entry) × (slice_get (kept_entries o u) k ≡ Some e) × (origin ≡ origin_of i o u e)
  node_from k origin there =
      let found = sym (slice_get-map (origin_of i o u) (kept_entries o u) k) ∙ sym (ap (λ (os : List Origin). slice_get os k) origins) ∙ there in
      mapped (slice_get (kept_entries o u) k) origin refl found
    where
      mapped : (x : Option (ℕ × Entry)) (origin : Origin) → slice_get (kept_entries o u) k ≡ x → option_map (origin_of i o u) x ≡ Some origin → (e : ℕ × Entry) × (slice_get (kept_entries o u) k ≡ Some e) × (origin ≡ origin_of i o u e)
      mapped None origin is found = absurd cc
      mapped (Some e) origin is found = (e, is, sym (same_Some _ origin found))

  pub names_one : (object : ℕ) → Names shape n object → object ≡ i
  names_one object names =
      let same = same_Some names.unit unit (sym names.its ∙ at) in
      let from_entry = node_from names.node names.origin (ap (λ (x : ShapeUnit). slice_get x.nodes names.node) (sym same) ∙ names.stands) in
      same_Some object i (sym names.number ∙ ap number_of_object from_entry.2 ∙ number_back i)

  -- a node names it
  pub names_it : (k : ℕ) (origin : Origin) → slice_get unit.nodes k ≡ Some origin → Names shape n i
  names_it k origin there =
      let from_entry = node_from k origin there in
      record { unit = unit; its = at; node = k; origin = origin; stands = there; number = ap number_of_object from_entry.2 ∙ number_back i }

  has_root : 0 < length unit.nodes
  has_root = omega (arith, ap length origins, length-map (kept_entries o u) (origin_of i o u), eqb-false (length (kept_entries o u)) 0 from.is.some)

  pub its_object : object_of shape n ≡ Some i
  its_object =
      let root = slice_get-get_or unit.nodes 0 (record { object = 0; entry = 0; parent = None }) has_root in
      let from_entry = node_from 0 (get_or unit.nodes 0 (record { object = 0; entry = 0; parent = None })) root in
      ap (option_and_then (λ (x : ShapeUnit). option_and_then number_of_object (slice_get x.nodes 0))) at ∙ ap (option_and_then number_of_object) root ∙ ap number_of_object from_entry.2 ∙ number_back i

  entry_at : (k : ℕ) (origin : Origin) → slice_get unit.nodes k ≡ Some origin → IsEntryOf o.seen origin
  entry_at k origin stands =
      let e = node_from k origin stands in
      let entry = kept_stand o u k e.0 (slice_get_within (kept_entries o u) k e.0 e.1) in
      let entry_is = subst (λ (x : ℕ × Entry). slice_get o.seen.entries x.0 ≡ Some x.1) (get_or_from_slice_get (kept_entries o u) k e.0 e.0 e.1) entry in
      subst (IsEntryOf o.seen) (sym e.2) (slice_get_within o.seen.entries e.0.0 e.0.1 entry_is)

  pub all_entries : All (IsEntryOf o.seen) unit.nodes
  all_entries k d lt = entry_at k (get_or unit.nodes k d) (slice_get-get_or unit.nodes k d lt)

  module _ (seen : List Analysis) (there : AreThere shape n all seen) where
    its_seen : (k : ℕ) (origin : Origin) → slice_get unit.nodes k ≡ Some origin → slice_get seen i ≡ Some o.seen
    its_seen k origin stands = there i (names_it k origin stands) ∙ parts.analysis

    -- the root's object, and what it has
    pub record IsRooted (root : Origin) (object : ℕ) : Type 0 where
      pub own : slice_get seen object ≡ Some o.seen
      pub own_of_all : slice_get all object ≡ Some o.seen
      pub inside : root.entry < length o.seen.entries
      pub plain : slice_get shape.plain object ≡ Some (plain_in o)
      pub images : slice_get shape.images object ≡ Some images_there.0

    pub rooted : (root : Origin) (object : ℕ) → slice_get unit.nodes 0 ≡ Some root → number_of_object root ≡ Some object → IsRooted root object
    rooted root object first number =
        let e = node_from 0 root first in
        let same : i ≡ object = same_Some i object (sym (ap number_of_object e.2 ∙ number_back i) ∙ number) in
        record {
          own = ap (slice_get seen) (sym same) ∙ its_seen 0 root first;
          own_of_all = ap (slice_get all) (sym same) ∙ parts.analysis;
          inside = entry_at 0 root first;
          plain = ap (slice_get shape.plain) (sym same) ∙ plain_there;
          images = ap (slice_get shape.images) (sym same) ∙ images_there.1;
        }

    pub cloned : (root : Origin) (it : OutUnit) → slice_get unit.nodes 0 ≡ Some root → IsUnitOf o.seen images_there.0 (plain_in o) root.entry unit.nodes it → slice_get (graph_in all shape).units n ≡ Some it
    cloned root it first of = behind.in_graph ∙ from.linked_is ∙ ap (λ (made : OutUnit). Some made) (sym whole)
      where
        root_is : IsRootOf i o u root
        root_is = root_of i o u root (kept_entries o u) (kept_stand o u) (kept_units o u) (sym (ap (λ (os : List Origin). slice_get os 0) origins) ∙ first)

        entry_is : of.entry ≡ root_is.entry
        entry_is = same_Some of.entry root_is.entry (sym of.stands ∙ root_is.stands)

        its_number : of.entry.unit ≡ u
        its_number = ap (λ (e : Entry). e.unit) entry_is ∙ root_is.unit

        its_unit : of.unit ≡ from.is.unit
        its_unit = same_Some of.unit from.is.unit (sym of.its_unit ∙ ap (slice_get o.seen.units) its_number ∙ from.is.is)

        whole : it ≡ unit_written (image_of shape i) o u from.is.unit
        whole = of.is
            ∙ unit_is (image_of shape) from.source o from.is.unit (plain_in o) images_there.0 of.entry of.unit unit.nodes (object_is o o.seen (plain_in o) refl kept_is)
            (images_tell shape i images_there.0 images_there.1) its_number its_unit origins
