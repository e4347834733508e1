-- The unit of merged entries, as it is read of a shape.
use Rattle.std.proofs.Common.{◌≡◌, ◌⊎◌, ℕ, ◌-◌, Bool, true, false, cond, eqb, List, [], ◌∷◌, length, get_or, slice_get, Option, Some, None, inl, inr, refl, sym, ap, subst, ◌∙◌, arith}
use Rattle.std.specs.List.{All, cons_option, filter_map, flat_map, zip}
use Rattle.std.specs.Option.{option_and_then, option_map}
use Rattle.std.proofs.lemmas.List.Elements.{All-head, All-tail}
use Rattle.std.proofs.lemmas.Option.{get_or_from_slice_get, same_Some, slice_get-get_or, slice_get_within}
use Rattle.std.proofs.lemmas.Slice.Zip.{get_or-zip, length-zip}
use Rattle.clone_values.specs.Images.{NamesAmong}
use Rattle.ds_base.specs.FirstUse.{once}
use Rattle.dwarf_types.specs.declared.analysis.Analysis.{Analysis}
use Rattle.dwarf_types.specs.declared.entry.Entry.{Entry}
use Rattle.dwarf_types.specs.declared.graph.Node.{Node}
use Rattle.dwarf_types.specs.declared.graph.OutUnit.{OutUnit}
use Rattle.dwarf_types.specs.declared.graph.Target.{Target}
use Rattle.dwarf_types.specs.declared.shape.Origin.{Origin}
use Rattle.dwarf_types.specs.declared.shape.Shape.{Shape}
use Rattle.dwarf_types.specs.LinkedValues.{attrs_written}
use Rattle.dwarf_types.specs.Sound.{IsSound}
use Rattle.link_graph.specs.Graph.{IsShape, Source, files_of, image_of, pool_node, pool_root_node, pool_unit, source_of}
use Rattle.link_graph.specs.PoolFiles.{SourceFile, files_named, number_among, same_file, table_of}
use Rattle.clone_units.specs.Nodes.{number_of_object}
use Rattle.clone_units.specs.Sourced.{ArePooled, IsPooled, image_in}
use Rattle.clone_units.specs.Units.{AreThere, Holds, IsUnitIn, object_of}
use Rattle.clone_units.proofs.Cloned.{its_object}
use Rattle.clone_units.proofs.Named.{names_among}
use Rattle.clone_units.proofs.Placed.{IsBehind, IsFirst, placed}
use Rattle.clone_units.proofs.Rooted.{Reads}

-- ---- the entry of a node

abbrev made : ℕ → Analysis → Entry → Source
made object seen e = record { object = object; seen = seen; entry = e }

-- what it is
pub record IsSourceOf (all : List Analysis) (origin : Origin) (source : Source) : Type 0 where
  pub own : slice_get all source.object ≡ Some source.seen
  pub stands : slice_get source.seen.entries origin.entry ≡ Some source.entry

pub source_is : (all : List Analysis) (origin : Origin) (source : Source) → source_of all origin ≡ Some source → IsSourceOf all origin source
source_is all origin source at = by (eqb origin.object 0) (slice_get all (origin.object - 1)) refl at
  where
    in_entries : (seen : Analysis) → slice_get all (origin.object - 1) ≡ Some seen → (found : Option Entry) → slice_get seen.entries origin.entry ≡ found → option_map (made (origin.object - 1) seen) found ≡ Some source
        → IsSourceOf all origin source
    in_entries seen own None is at = absurd cc
    in_entries seen own (Some e) is at = subst (IsSourceOf all origin) (same_Some (made (origin.object - 1) seen e) source at) (record { own = own; stands = is })

    by : (none : Bool) (own : Option Analysis) → slice_get all (origin.object - 1) ≡ own
        → cond none None (option_and_then (λ (seen : Analysis). option_map (made (origin.object - 1) seen) (slice_get seen.entries origin.entry)) own) ≡ Some source → IsSourceOf all origin source
    by true own is at = absurd cc
    by false None is at = absurd cc
    by false (Some seen) is at = in_entries seen is (slice_get seen.entries origin.entry) refl at

-- an entry is told by its object alone
pub same_source_of : (seen all : List Analysis) (origin : Origin) → ((object : ℕ) → number_of_object origin ≡ Some object → slice_get seen object ≡ slice_get all object) → source_of seen origin ≡ source_of all origin
same_source_of seen all origin there = by (eqb origin.object 0) refl
  where
    in_own : Option Analysis → Option Source
    in_own = option_and_then (λ (seen : Analysis). option_map (made (origin.object - 1) seen) (slice_get seen.entries origin.entry))

    by : (none : Bool) → eqb origin.object 0 ≡ none → cond none None (in_own (slice_get seen (origin.object - 1))) ≡ cond none None (in_own (slice_get all (origin.object - 1)))
    by true e = refl
    by false e = ap in_own (there (origin.object - 1) (ap (λ (b : Bool). cond b None (Some (origin.object - 1))) e))

-- objects are counted from 1
no_source : (all : List Analysis) (origin : Origin) → origin.object ≡ 0 → source_of all origin ≡ None
no_source all origin none =
    ap (λ (b : Bool). cond b None (option_and_then (λ (seen : Analysis). option_map (made (origin.object - 1) seen) (slice_get seen.entries origin.entry)) (slice_get all (origin.object - 1)))) (ap (λ (k : ℕ). eqb k 0) none)

-- ---- the unit by the entries of its nodes

filter_map_alike : {A B : Type 0} (f g : A → Option B) (xs : List A) → All (λ x. f x ≡ g x) xs → filter_map f xs ≡ filter_map g xs
filter_map_alike f g [] each = refl
filter_map_alike f g (x ∷ xs) each =
    ap (λ o. cons_option o (filter_map f xs)) (All-head (λ x. f x ≡ g x) x xs each) ∙ ap (cons_option (g x)) (filter_map_alike f g xs (All-tail (λ x. f x ≡ g x) x xs each))

same_files : (seen all : List Analysis) (origins : List Origin) → All (λ origin. source_of seen origin ≡ source_of all origin) origins → files_of seen origins ≡ files_of all origins
same_files seen all origins same = ap (λ (sources : List Source). once same_file (flat_map (λ source. files_named source.seen source.entry) sources)) (filter_map_alike (source_of seen) (source_of all) origins same)

same_node : (image : ℕ → ℕ → Option Target) (seen all : List Analysis) (files : List SourceFile) (origin : Origin) → source_of seen origin ≡ source_of all origin → pool_node image seen files origin ≡ pool_node image all files origin
same_node image seen all files origin same = ap (option_map (node_by origin)) same
  where
    node_by : Origin → Source → Node
    node_by origin source = record {
      parent = origin.parent;
      tag = source.entry.tag;
      attrs = attrs_written (image source.object) (Some (number_among files source.seen source.entry.unit)) source.entry;
    }

pub same_unit : (image : ℕ → ℕ → Option Target) (seen all : List Analysis) (version : ℕ) (origins : List Origin) → All (λ origin. source_of seen origin ≡ source_of all origin) origins → pool_unit image seen version origins ≡ pool_unit image all version origins
same_unit image seen all version origins same =
    ap (λ (files : List SourceFile). unit_by (filter_map (pool_node image seen files) origins) files) (same_files seen all origins same)
    ∙ ap (λ (nodes : List Node). unit_by nodes (files_of all origins))
    (filter_map_alike (pool_node image seen (files_of all origins)) (pool_node image all (files_of all origins)) origins
    (λ k d lt. same_node image seen all (files_of all origins) (get_or origins k d) (same k d lt)))
  where
    unit_by : List Node → List SourceFile → OutUnit
    unit_by nodes files = record { version = version; nodes = pool_root_node ∷ nodes; lines = Some (table_of version files); ranges = [] }

-- ---- the unit as it is read

module _ (seen : List Analysis) (shape : Shape) (n : ℕ) (nodes : List Origin) (holds : Holds seen shape n) (r : Reads shape n nodes) (none : object_of shape n ≡ None) where
  -- a unit of an object would name it
  first_of : (all : List Analysis) → IsShape all shape → IsBehind all shape n r.unit ⊎ IsFirst all shape n r.unit → IsFirst all shape n r.unit
  first_of all is (inl behind) = absurd (let e : None ≡ Some _ = sym none ∙ its_object all shape n r.unit is r.at behind in cc)
  first_of all is (inr first) = first

  first : (all : List Analysis) → IsShape all shape → IsFirst all shape n r.unit
  first all is = first_of all is (placed all shape is n r.unit r.at)

  -- all that its nodes name is there
  sources_there : (all : List Analysis) → AreThere shape n all seen → All (λ origin. source_of seen origin ≡ source_of all origin) nodes
  sources_there all there k d lt =
      same_source_of seen all (get_or nodes k d)
      (λ object number. there object (record {
        unit = r.unit;
        its = r.at;
        node = k;
        origin = get_or nodes k d;
        stands = ap (λ (os : List Origin). slice_get os k) (sym r.same) ∙ slice_get-get_or nodes k d lt;
        number = number;
      }))

  -- each entry has a place in the row of its object
  row_long : (object : ℕ) (own : Analysis) (row : List (Option Target)) → slice_get holds.all object ≡ Some own → slice_get shape.images object ≡ Some row → length row ≡ length own.entries
  row_long object own row at there =
      let rows = shape.images in
      let within = slice_get_within holds.all object own at in
      let both : get_or (zip holds.all rows) object (own, row) ≡ (own, row) =
      get_or-zip holds.all rows object (own, row) within (omega (arith, within, holds.is_shape.rows)) ∙ cc (get_or_from_slice_get holds.all object own own at, get_or_from_slice_get rows object row row there) in
      subst (λ (x : Analysis × List (Option Target)). length x.1 ≡ length x.0.entries) both (holds.is_shape.images object (own, row) (omega (arith, within, length-zip holds.all rows, holds.is_shape.rows)))

  pooled_at : (origin : Origin) → source_of seen origin ≡ source_of holds.all origin → (source : Source) → source_of holds.all origin ≡ Some source → IsPooled seen shape.images origin
  pooled_at origin same source at =
      let is = source_is holds.all origin source at in
      let within = slice_get_within holds.all source.object source.seen is.own in
      let sound = subst IsSound (get_or_from_slice_get holds.all source.object source.seen source.seen is.own) (holds.sound source.object source.seen within) in
      let entry = sound.entries origin.entry source.entry is.stands in
      record {
        source = source;
        stands = same ∙ at;
        row = omega (arith, within, holds.is_shape.rows);
        among = λ row there. subst (λ (count : ℕ). NamesAmong count source.entry) (sym (row_long source.object source.seen row is.own there)) (names_among source.seen sound origin.entry source.entry is.stands);
        unit = slice_get_within source.seen.units source.entry.unit entry.unit entry.its_unit;
      }

  pub are_pooled : ArePooled seen shape.images nodes
  are_pooled =
      let pooled = (first holds.all holds.is_shape).pooled in
      let nodes_are : nodes ≡ pooled.root ∷ pooled.below = r.same ∙ pooled.nodes in
      let same = subst (All (λ origin. source_of seen origin ≡ source_of holds.all origin)) nodes_are (sources_there holds.all holds.there) in
      let same_below = All-tail (λ origin. source_of seen origin ≡ source_of holds.all origin) pooled.root pooled.below same in
      record {
        root = pooled.root;
        below = pooled.below;
        nodes = nodes_are;
        no_entry = no_source seen pooled.root pooled.is_root;
        each = λ k d lt. (let found = pooled.each k d lt in pooled_at (get_or pooled.below k d) (same_below k d lt) found.0 found.1);
      }

  pub done : (images : List (List (Option Target))) (it : OutUnit) → images ≡ shape.images → it ≡ pool_unit (image_in images) seen r.unit.version nodes → IsUnitIn seen shape n it
  done images it rows made all is there =
      (first all is).in_graph
      ∙ ap (λ (unit : OutUnit). Some unit) (ap (pool_unit (image_of shape) all r.unit.version) (sym r.same) ∙ sym (same_unit (image_of shape) seen all r.unit.version nodes (sources_there all there))
      ∙ ap (λ (rows : List (List (Option Target))). pool_unit (image_in rows) seen r.unit.version nodes) (sym rows) ∙ sym made)
