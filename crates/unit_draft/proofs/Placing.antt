-- Where the nodes of a unit stand.
use Rattle.std.proofs.Common.{◌≡◌, ℕ, ◌+◌, ◌^◌, ◌<◌, ◌≤◌, List, [], ◌∷◌, length, map, get_or, slice_index_or, None, inl, inr, sym, ap, ◌∙◌, arith, All}
use Rattle.std.specs.List.{enumerate_from, sum_by}
use Rattle.std.proofs.lemmas.Bool.{cases_lt}
use Rattle.std.proofs.lemmas.List.{get_or-map, get_or_past, length-map, take_all}
use Rattle.std.proofs.lemmas.List.FromFn.{get_or-enumerate_from, length-enumerate_from}
use Rattle.std.proofs.lemmas.List.Sums.{sum_by-cons, sum_by-take-le}
use Rattle.ds_base.proofs.LebLengths.{some_digits}
use Rattle.dwarf_types.specs.declared.graph.Node.{Node}
use Rattle.dwarf_types.specs.declared.graph.OutUnit.{OutUnit}
use Rattle.dwarf_types.specs.Entries.{OutEntry, entries_of, entry_len, entry_of, header_len, node_place, unit_len}
use Rattle.unit_draft.specs.Drafted.{node_places}

pub length_made : {X Y : Type 0} (xs : List X) (f : ℕ × X → Y) → length (map f (enumerate_from 0 xs)) ≡ length xs
length_made xs f = length-map (enumerate_from 0 xs) f ∙ length-enumerate_from 0 xs

entries_within : (es : List OutEntry) → length es ≤ sum_by entry_len es
entries_within [] = omega arith
entries_within (e ∷ es) = let h = entries_within es in omega (arith, h, sum_by-cons entry_len e es, some_digits e.code)

module _ (u : ℕ) (unit : OutUnit) where
  pub length_entries : length (entries_of u unit) ≡ length unit.nodes
  length_entries = length_made unit.nodes (λ n. entry_of u unit.nodes n.0 n.1)

  pub get_node_place : (k d : ℕ) → k < length unit.nodes → get_or (node_places u unit) k d ≡ node_place u unit k
  get_node_place k d lt =
      let blank : ℕ × Node = (0, record { parent = None; tag = 0; attrs = [] }) in
      let index : 0 + k ≡ k = omega arith in
      get_or-map (λ (n : ℕ × Node). node_place u unit n.0) (enumerate_from 0 unit.nodes) k blank d (omega (arith, lt, length-enumerate_from 0 unit.nodes))
      ∙ ap (λ (n : ℕ × Node). node_place u unit n.0) (get_or-enumerate_from 0 unit.nodes k blank lt) ∙ ap (node_place u unit) index

  -- a node behind the last stands at the end
  pub own_is : (k : ℕ) → slice_index_or (node_places u unit) k (unit_len u unit) ≡ node_place u unit k
  own_is k = elim (cases_lt k (length unit.nodes)) [
    | inl lt ↦ get_node_place k (unit_len u unit) lt
    | inr le ↦ get_or_past (node_places u unit) k (unit_len u unit) (omega (arith, le, length_made unit.nodes (λ n. node_place u unit n.0)))
        ∙ ap (λ (es : List OutEntry). header_len unit.version + sum_by entry_len es) (sym (take_all k (entries_of u unit) (omega (arith, le, length_entries))))
  ]

  pub places_small : unit_len u unit < 2 ^ 28 → All (λ place. place < 2 ^ 28) (node_places u unit)
  places_small short = λ k d lt.
      let within : k < length unit.nodes = omega (arith, lt, length_made unit.nodes (λ n. node_place u unit n.0)) in
      omega (arith, short, get_node_place k d within, sum_by-take-le entry_len (entries_of u unit) k)

  -- each node has a byte at least
  pub nodes_within : length unit.nodes ≤ unit_len u unit
  nodes_within = omega (arith, length_entries, entries_within (entries_of u unit))
