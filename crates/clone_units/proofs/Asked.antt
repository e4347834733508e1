-- The node of a number, as it is asked for.
use Rattle.std.proofs.Common.{◌≡◌, ℕ, zero, suc, true, List, ◌∷◌, length, slice_get, Option, Some, None, is_some, inl, inr, refl, sym, ap, subst, ◌∙◌, arith}
use Rattle.std.specs.List.{All, cons_option, filter_map}
use Rattle.std.specs.Option.{option_and_then, option_map}
use Rattle.std.proofs.lemmas.List.Elements.{All-weaker}
use Rattle.std.proofs.lemmas.Option.{get_or_from_slice_get, same_Some, slice_get_cases, slice_get_within}
use Rattle.dwarf_types.specs.declared.address.Span.{Span}
use Rattle.dwarf_types.specs.declared.analysis.Analysis.{Analysis}
use Rattle.dwarf_types.specs.declared.entry.Entry.{Entry}
use Rattle.dwarf_types.specs.declared.graph.Node.{Node}
use Rattle.dwarf_types.specs.declared.graph.Target.{Target}
use Rattle.dwarf_types.specs.declared.shape.Origin.{Origin}
use Rattle.dwarf_types.specs.LinkedValues.{attrs_written}
use Rattle.link_graph.specs.Graph.{Source, pool_node, pool_root_node, source_of}
use Rattle.link_graph.specs.PoolFiles.{SourceFile, number_among}
use Rattle.clone_units.specs.Nodes.{IsEntryOf, node_at, node_with}
use Rattle.clone_units.specs.Sourced.{ArePooled, IsPooled}
use Rattle.clone_units.proofs.Each.{filter_map_at, filter_map_long}

-- a node that is made of something has the parent that all such nodes have
made_of : {A : Type 0} (made : A → Node) (parent : Option ℕ) (found : Option A) (n : Node) → ((x : A) → (made x).parent ≡ parent) → option_map made found ≡ Some n → parent ≡ n.parent
made_of made parent None n are is = absurd cc
made_of made parent (Some x) n are is = sym (are x) ∙ ap (λ (n : Node). n.parent) (same_Some (made x) n is)

-- ---- a unit of an object

module _ (own : Analysis) (row : List (Option Target)) (spans : List Span) (origins : List Origin) (entries : All (IsEntryOf own) origins) where
  there : (origin : Origin) → IsEntryOf own origin → is_some (node_at own row spans origin) ≡ true
  there origin lt = elim (slice_get_cases own.entries origin.entry).1 [
    | inl w ↦ ap (λ (found : Option Entry). is_some (option_map (node_with row spans origin) found)) w.2
    | inr w ↦ absurd (omega (arith, w.0, lt))
  ]

  all_there : All (λ origin. is_some (node_at own row spans origin) ≡ true) origins
  all_there = All-weaker (IsEntryOf own) (λ origin. is_some (node_at own row spans origin) ≡ true) there origins entries

  pub nodes_many : length (filter_map (node_at own row spans) origins) ≡ length origins
  nodes_many = filter_map_long (node_at own row spans) origins all_there

  module _ (k : ℕ) (origin : Origin) (is : slice_get origins k ≡ Some origin) where
    pub entry_there : IsEntryOf own origin
    entry_there = subst (IsEntryOf own) (get_or_from_slice_get origins k origin origin is) (entries k origin (slice_get_within origins k origin is))

    pub node_there : slice_get (filter_map (node_at own row spans) origins) k ≡ node_at own row spans origin
    node_there = filter_map_at (node_at own row spans) origins all_there k ∙ ap (option_and_then (node_at own row spans)) is

    pub parent_there : (n : Node) → slice_get (filter_map (node_at own row spans) origins) k ≡ Some n → origin.parent ≡ n.parent
    parent_there n at = made_of (node_with row spans origin) origin.parent (slice_get own.entries origin.entry) n (λ e. refl) (sym node_there ∙ at)

-- ---- the unit of merged entries

module _ (image : ℕ → ℕ → Option Target) (all : List Analysis) (images : List (List (Option Target))) (files : List SourceFile) (origins : List Origin) (pooled : ArePooled all images origins) where
  abbrev node_by : Origin → Source → Node
  node_by origin source = record { parent = origin.parent; tag = source.entry.tag; attrs = attrs_written (image source.object) (Some (number_among files source.seen source.entry.unit)) source.entry }

  behind_root : filter_map (pool_node image all files) origins ≡ filter_map (pool_node image all files) pooled.below
  behind_root =
      ap (filter_map (pool_node image all files)) pooled.nodes
      ∙ ap (λ (found : Option Source). cons_option (option_map (node_by pooled.root) found) (filter_map (pool_node image all files) pooled.below)) pooled.no_entry

  all_pooled : All (λ origin. is_some (pool_node image all files origin) ≡ true) pooled.below
  all_pooled =
      All-weaker (IsPooled all images) (λ origin. is_some (pool_node image all files origin) ≡ true) (λ origin its. ap (λ (found : Option Source). is_some (option_map (node_by origin) found)) its.stands) pooled.below
      pooled.each

  pub pool_many : length (pool_root_node ∷ filter_map (pool_node image all files) origins) ≡ length origins
  pool_many = omega (arith, ap length behind_root, filter_map_long (pool_node image all files) pooled.below all_pooled, ap length pooled.nodes)

  behind_at : (k : ℕ) (origin : Origin) → slice_get origins (suc k) ≡ Some origin → slice_get pooled.below k ≡ Some origin
  behind_at k origin is = ap (λ (os : List Origin). slice_get os (suc k)) (sym pooled.nodes) ∙ is

  pub pooled_at : (k : ℕ) (origin : Origin) → (k ≡ 0 → ⊥) → slice_get origins k ≡ Some origin → IsPooled all images origin
  pooled_at zero origin behind is = absurd (behind refl)
  pooled_at (suc k) origin behind is =
      let at = behind_at k origin is in
      subst (IsPooled all images) (get_or_from_slice_get pooled.below k origin origin at) (pooled.each k origin (slice_get_within pooled.below k origin at))

  pub pool_at : (k : ℕ) (origin : Origin) → (k ≡ 0 → ⊥) → slice_get origins k ≡ Some origin → slice_get (pool_root_node ∷ filter_map (pool_node image all files) origins) k ≡ pool_node image all files origin
  pool_at zero origin behind is = absurd (behind refl)
  pool_at (suc k) origin behind is =
      ap (λ (ns : List Node). slice_get ns k) behind_root ∙ filter_map_at (pool_node image all files) pooled.below all_pooled k
      ∙ ap (option_and_then (pool_node image all files)) (behind_at k origin is)

  pub pool_parent : (k : ℕ) (origin : Origin) (n : Node) → (k ≡ 0 → ⊥) → slice_get origins k ≡ Some origin → slice_get (pool_root_node ∷ filter_map (pool_node image all files) origins) k ≡ Some n → origin.parent ≡ n.parent
  pool_parent k origin n behind is at = made_of (node_by origin) origin.parent (source_of all origin) n (λ source. refl) (sym (pool_at k origin behind is) ∙ at)

  pub root_parent : (k : ℕ) (n : Node) → k ≡ 0 → slice_get (pool_root_node ∷ filter_map (pool_node image all files) origins) k ≡ Some n → None ≡ n.parent
  root_parent k n first at =
      ap (λ (n : Node). n.parent) (same_Some pool_root_node n (ap (slice_get (pool_root_node ∷ filter_map (pool_node image all files) origins)) (sym first) ∙ at))

  pub root_at : (k : ℕ) (n : Node) → k ≡ 0 → n ≡ pool_root_node → slice_get (pool_root_node ∷ filter_map (pool_node image all files) origins) k ≡ Some n
  root_at k n first is = ap (slice_get (pool_root_node ∷ filter_map (pool_node image all files) origins)) first ∙ ap (λ (n : Node). Some n) (sym is)
