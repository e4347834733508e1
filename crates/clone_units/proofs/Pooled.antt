-- The node of a merged entry, as it is made.
use Rattle.std.proofs.Common.{◌≡◌, ◌<◌, ℕ, List, [], ◌∷◌, ◌++◌, length, drop, slice_get, Option, Some, None, inl, inr, refl, sym, ap, subst, ◌∙◌, arith}
use Rattle.std.proofs.Math.Path.{fun_ext}
use Rattle.std.specs.List.{cons_option, filter_map, flat_map}
use Rattle.std.specs.Option.{IsSome, option_and_then, option_map, option_map_or}
use Rattle.std.proofs.lemmas.Cmp.{and_equiv, nat_list_eq_equiv, on_equiv}
use Rattle.std.proofs.lemmas.Option.{same_Some, slice_get_cases}
use Rattle.std.specs.Cmp.{IsEquivalence}
use Rattle.ds_base.specs.FirstUse.{once}
use Rattle.clone_values.specs.Files.{number_in}
use Rattle.clone_values.specs.Images.{NamesAmong, image_at}
use Rattle.dwarf_types.specs.declared.analysis.Analysis.{Analysis}
use Rattle.dwarf_types.specs.declared.entry.InUnit.{InUnit}
use Rattle.dwarf_types.specs.declared.graph.Node.{Node}
use Rattle.dwarf_types.specs.declared.graph.OutAttr.{OutAttr}
use Rattle.dwarf_types.specs.declared.graph.Target.{Target}
use Rattle.dwarf_types.specs.declared.shape.Origin.{Origin}
use Rattle.dwarf_types.specs.LinkedValues.{attrs_written}
use Rattle.link_graph.specs.Graph.{Source, files_of, pool_node, source_of}
use Rattle.link_graph.specs.PoolFiles.{SourceFile, files_named, number_among, same_file}
use Rattle.clone_units.specs.Sourced.{ArePooled, IsPooled, IsSourced, image_in, numbers_of_all, numbers_of_unit, uses_of}
use Rattle.clone_units.proofs.Merged.{source_is}
use Rattle.clone_units.proofs.Numbered.{number_is, numbers_found, row_leads}

-- ---- files

-- names of directories and of files are compared alike
pub same_file_laws : IsEquivalence same_file
same_file_laws = and_equiv (on_equiv (λ (f : SourceFile). f.dir) nat_list_eq_equiv) (on_equiv (λ (f : SourceFile). f.name) nat_list_eq_equiv)

-- node by node, and of all entries
pub uses_are : (all : List Analysis) (origins : List Origin) → flat_map (uses_of all) origins ≡ flat_map (λ source. files_named source.seen source.entry) (filter_map (source_of all) origins)
uses_are all [] = refl
uses_are all (o ∷ origins) = ap (λ files. uses_of all o ++ files) (uses_are all origins) ∙ by (source_of all o) (filter_map (source_of all) origins)
  where
    by : (found : Option Source) (sources : List Source)
        → option_map_or (λ source. files_named source.seen source.entry) found [] ++ flat_map (λ source. files_named source.seen source.entry) sources ≡ flat_map (λ source. files_named source.seen source.entry) (cons_option found sources)
    by None sources = refl
    by (Some source) sources = refl

-- ---- the nodes below the root

pub pooled_sourced : (all : List Analysis) (images : List (List (Option Target))) (origin : Origin) → IsPooled all images origin → IsSourced all origin
pooled_sourced all images origin pooled = record { source = pooled.source; stands = pooled.stands; unit = pooled.unit }

module _ (all : List Analysis) (images : List (List (Option Target))) (origins : List Origin) (pooled : ArePooled all images origins) where
  -- the root names no file
  pub files_below : files_of all (drop 1 origins) ≡ files_of all origins
  files_below =
      ap (λ (sources : List Source). once same_file (flat_map (λ source. files_named source.seen source.entry) sources))
      (ap (λ (os : List Origin). filter_map (source_of all) (drop 1 os)) pooled.nodes
      ∙ sym (ap (λ (found : Option Source). cons_option found (filter_map (source_of all) pooled.below)) pooled.no_entry)
      ∙ sym (ap (filter_map (source_of all)) pooled.nodes))

-- ---- a node

module _ (all : List Analysis) (images : List (List (Option Target))) (origin : Origin) (source : Source) (pooled : IsPooled all images origin) (at : source_of all origin ≡ Some source) where
  its_source : pooled.source ≡ source
  its_source = same_Some pooled.source source (sym pooled.stands ∙ at)

  pub has_row : source.object < length images
  has_row = subst (λ (s : Source). s.object < length images) its_source pooled.row

  pub has_names : (row : List (Option Target)) → slice_get images source.object ≡ Some row → NamesAmong (length row) source.entry
  has_names row there =
      subst (λ (s : Source). NamesAmong (length row) s.entry) its_source (pooled.among row (ap (λ (s : Source). slice_get images s.object) its_source ∙ there))

  unit_there : (unit : InUnit) × (slice_get source.seen.units source.entry.unit ≡ Some unit)
  unit_there = elim (slice_get_cases source.seen.units source.entry.unit).1 [
    | inl w ↦ (w.0, w.2)
    | inr w ↦ absurd (omega (arith, w.0, subst (λ (s : Source). s.entry.unit < length s.seen.units) its_source pooled.unit))
  ]

  row_there : (files : List SourceFile) → option_and_then (λ (row : List (List (Option ℕ))). slice_get row source.entry.unit) (slice_get (numbers_of_all files all) source.object) ≡ Some (numbers_of_unit files source.seen unit_there.0)
  row_there files = numbers_found files all source.object source.entry.unit source.seen unit_there.0 (source_is all origin source at).own unit_there.1

  module _ (rows : List (List (List (Option ℕ)))) (files : List SourceFile) (are : rows ≡ numbers_of_all files all) (unit : ℕ) (its : unit ≡ source.entry.unit) where
    row_is : option_and_then (λ (row : List (List (Option ℕ))). slice_get row unit) (slice_get rows source.object) ≡ Some (numbers_of_unit files source.seen unit_there.0)
    row_is = ap (λ (rs : List (List (List (Option ℕ)))). option_and_then (λ (row : List (List (Option ℕ))). slice_get row unit) (slice_get rs source.object)) are
        ∙ ap (λ (u : ℕ). option_and_then (λ (row : List (List (Option ℕ))). slice_get row u) (slice_get (numbers_of_all files all) source.object)) its ∙ row_there files

    pub has_numbers : IsSome (option_and_then (λ (row : List (List (Option ℕ))). slice_get row unit) (slice_get rows source.object))
    has_numbers = subst IsSome (sym row_is) refl

    pub node_is : (row : List (Option Target)) (numbers : List (Option ℕ)) (tag : ℕ) (attrs : List OutAttr) → slice_get images source.object ≡ Some row
        → option_and_then (λ (row : List (List (Option ℕ))). slice_get row unit) (slice_get rows source.object) ≡ Some numbers → tag ≡ source.entry.tag
        → attrs ≡ attrs_written (image_at row) (Some (number_in numbers)) source.entry
        → pool_node (image_in images) all files origin ≡ Some (record { parent = origin.parent; tag = tag; attrs = attrs })
    node_is row numbers tag attrs leads found same_tag written =
        sym (
        ap (λ (t : ℕ). Some (made t attrs)) same_tag
        ∙ ap (λ (xs : List OutAttr). Some (made source.entry.tag xs)) (
        written ∙ ap (λ (image : ℕ → Option Target). attrs_written image (Some (number_in numbers)) source.entry) (row_leads images source.object row leads)
        ∙ ap (λ (number : ℕ → Option ℕ). attrs_written (image_in images source.object) (Some number) source.entry) same_numbers
        )
        ∙ sym (ap (option_map node_by) at)
        )
      where
        made : ℕ → List OutAttr → Node
        made tag attrs = record { parent = origin.parent; tag = tag; attrs = attrs }

        node_by : Source → Node
        node_by source = record {
          parent = origin.parent;
          tag = source.entry.tag;
          attrs = attrs_written (image_in images source.object) (Some (number_among files source.seen source.entry.unit)) source.entry;
        }

        same_numbers : number_in numbers ≡ number_among files source.seen source.entry.unit
        same_numbers = fun_ext (λ n.
            ap (λ (ns : List (Option ℕ)). number_in ns n) (same_Some numbers (numbers_of_unit files source.seen unit_there.0) (sym found ∙ row_is)) ∙ number_is files source.seen source.entry.unit unit_there.0 n unit_there.1)
