-- Where nothing is merged, a shape stands for the graph of the live entries.
use Rattle.std.proofs.Common.{◌≡◌, ℕ, ◌+◌, Bool, false, List, [], ◌∷◌, length, slice_get, Option, Some, None, refl, sym, ap, ◌∙◌, arith}
use Rattle.std.specs.List.{All, position, zip}
use Rattle.std.specs.Option.{option_and_then, option_map}
use Rattle.std.proofs.Math.Path.{fun_ext}
use Rattle.std.proofs.lemmas.List.Elements.{All-head, All-tail}
use Rattle.std.proofs.lemmas.Option.{slice_get-map}
use Rattle.dwarf_types.specs.declared.analysis.Analysis.{Analysis}
use Rattle.dwarf_types.specs.declared.entry.Entry.{Entry}
use Rattle.dwarf_types.specs.declared.graph.OutUnit.{OutUnit}
use Rattle.dwarf_types.specs.declared.graph.Target.{Target}
use Rattle.dwarf_types.specs.LinkedGraph.{linked, linked_behind}
use Rattle.dwarf_types.specs.LinkedShape.{AreMarked, objects_in}
use Rattle.dwarf_types.specs.LinkedShape as linked_shape
use Rattle.dwarf_types.specs.LinkedUnits.{Object, node_number, plain_target, same_source, sources}
use Rattle.dwarf_types.proofs.Marks.{nothing_merged}
use Rattle.link_graph.specs.Graph.{graph_in, image_of, pool_version, pools}
use Rattle.link_graph.specs.Merged.{kept_object, kept_objects, object_units, shape_of}
use Rattle.odr_names.specs.Numbered.{objects_of}
use Rattle.type_names.specs.Heads.{entries_of}
use Rattle.type_names.specs.Heads as heads
use Rattle.merged_laws.proofs.Told.{image_read, in_object, objects_back, pool_by}

-- ---- objects

abbrev made : Analysis → List Bool → Object
made seen kept = record { seen = seen; kept = kept }

live_kept : (seen : List Analysis) (live : List (List Bool)) → length live ≡ length seen → All (λ object. length object.1 ≡ length object.0.entries) (zip seen live) → kept_objects false seen live ≡ linked_shape.objects_of seen live
live_kept [] live each whole = refl
live_kept (a ∷ seen) [] each whole = absurd (omega (arith, each))
live_kept (a ∷ seen) (row ∷ live) each whole =
    let here : length row ≡ length a.entries = All-head (λ (o : Analysis × List Bool). length o.1 ≡ length o.0.entries) (a, row) (zip seen live) whole in
    let rest = live_kept seen live (omega (arith, each)) (All-tail (λ (o : Analysis × List Bool). length o.1 ≡ length o.0.entries) (a, row) (zip seen live) whole) in
    ap (λ (kept : List Bool). made a kept ∷ kept_objects false seen live) (nothing_merged a.entries row here) ∙ ap (λ (os : List Object). made a row ∷ os) rest

-- ---- where references lead

abbrev target_by : ℕ → ℕ → Target
target_by unit node = record { unit = unit; node = node }

abbrev from_entry : List Object → ℕ → ℕ → Object → Entry → Option Target
from_entry objects i k o e = option_and_then (λ unit. option_map (target_by (0 + unit)) (node_number o e.unit k)) (position (same_source (record { object = i; unit = e.unit })) (sources objects))

module _ (seen : List Analysis) (live : List (List Bool)) where
  abbrev objects : List Object
  objects = kept_objects false seen live

  own_images : (i k : ℕ) → image_of (shape_of false seen live) i k ≡ plain_target 0 objects i k
  own_images i k = image_read false seen live i k ∙ by (slice_get (objects_of seen live) i) refl
    where
      known : (found : Option heads.Object) → slice_get (objects_of seen live) i ≡ found → slice_get objects i ≡ option_map (kept_object false) found
      known found at = slice_get-map (kept_object false) (objects_of seen live) i ∙ ap (option_map (kept_object false)) at

      of_entry : (o : heads.Object) → slice_get (objects_of seen live) i ≡ Some o → (found : Option Entry) → slice_get (entries_of o) k ≡ found
          → option_and_then (λ (e : Entry). plain_target 0 objects i k) found ≡ plain_target 0 objects i k
      of_entry o at None none = sym (ap (option_and_then (λ (o : Object). option_and_then (from_entry objects i k o) (slice_get o.seen.entries k))) (known (Some o) at) ∙ ap (option_and_then (from_entry objects i k (kept_object false o))) none)
      of_entry o at (Some e) some = refl

      by : (found : Option heads.Object) → slice_get (objects_of seen live) i ≡ found → option_and_then (in_object false seen live i k) found ≡ plain_target 0 objects i k
      by None none = sym (ap (option_and_then (λ (o : Object). option_and_then (from_entry objects i k o) (slice_get o.seen.entries k))) (known None none))
      by (Some o) some = of_entry o some (slice_get (entries_of o) k) refl

  -- ---- the graph

  pub plain_graph : AreMarked seen live → graph_in seen (shape_of false seen live) ≡ linked (linked_shape.objects_of seen live)
  plain_graph marked =
      let shape = shape_of false seen live in
      let none : pools seen shape ≡ [] = pool_by seen objects (pool_version (object_units false seen live)) [] shape refl in
      let image : image_of shape ≡ plain_target 0 objects = fun_ext (λ i. fun_ext (λ k. own_images i k)) in
      ap (λ (units : List OutUnit). linked_behind units (image_of shape) (objects_in seen shape)) none
      ∙ ap (λ (image : ℕ → ℕ → Option Target). linked_behind [] image (objects_in seen shape)) image
      ∙ ap (λ (os : List Object). linked_behind [] (plain_target 0 objects) os) (objects_back false seen live)
      ∙ ap (λ (os : List Object). linked os) (live_kept seen live marked.each marked.whole)
