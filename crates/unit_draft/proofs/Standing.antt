-- A unit stands in its graph.
use Rattle.std.proofs.Common.{◌≡◌, ◌≤◌, ℕ, zero, suc, ◌+◌, List, [], ◌∷◌, length, map, slice_get, slice_index_or, Option, Some, None, inl, inr, refl, sym, ap, ◌∙◌, arith}
use Rattle.std.specs.List.{sum_by}
use Rattle.std.specs.Option.{option_map_or}
use Rattle.std.proofs.lemmas.Bool.{cases_lt}
use Rattle.std.proofs.lemmas.List.{get_or-map, get_or_past, length-map, take_all}
use Rattle.std.proofs.lemmas.List.FromFn.{get_or-enumerate_from, length-enumerate_from}
use Rattle.std.proofs.lemmas.Option.{slice_get_within}
use Rattle.dwarf_types.specs.declared.graph.Graph.{Graph}
use Rattle.dwarf_types.specs.declared.graph.OutUnit.{OutUnit}
use Rattle.dwarf_types.specs.declared.graph.Target.{Target}
use Rattle.dwarf_types.specs.Entries.{node_place, unit_len}
use Rattle.dwarf_types.specs.Layout.{lists_place, numbered_units, places_of, table_place, target_place, unit_start}
use Rattle.unit_draft.specs.declared.outside.Outside.{Outside}
use Rattle.unit_draft.specs.declared.unit.Draft.{Draft}
use Rattle.unit_draft.specs.Drafted.{AreDrafts, IsDraft, node_places}
use Rattle.unit_draft.specs.Outside.{IsOutside, entry_number, outer_number}
use Rattle.unit_draft.specs.World.{Stands, World}
use Rattle.unit_draft.proofs.Placing.{own_is}

blank : OutUnit
blank = record { version = 0; nodes = []; lines = None; ranges = [] }

-- nothing stands behind the last item
past : {X : Type 0} (xs : List X) (t : ℕ) → slice_get xs t ≡ None → length xs ≤ t
past [] t none = omega arith
past (x ∷ xs) zero none = absurd cc
past (x ∷ xs) (suc t) none = let behind = past xs t none in omega (arith, behind)

module _ (graph : Graph) where
  -- behind the last unit stands the end
  start_past : (t : ℕ) → length graph.units ≤ t → unit_start graph (length graph.units) ≡ unit_start graph t
  start_past t past =
      let len = length-enumerate_from 0 graph.units in
      ap (sum_by (λ (n : ℕ × OutUnit). unit_len n.0 n.1)) (take_all (length graph.units) (numbered_units graph) (omega (arith, len)) ∙ sym (take_all t (numbered_units graph) (omega (arith, past, len))))

  abbrev starts : List ℕ
  starts = map (λ (n : ℕ × OutUnit). unit_start graph n.0) (numbered_units graph)

  start_is : (t : ℕ) → slice_index_or starts t (unit_start graph (length graph.units)) ≡ unit_start graph t
  start_is t =
      let end = unit_start graph (length graph.units) in
      let len = length-enumerate_from 0 graph.units in
      let many = length-map (numbered_units graph) (λ (n : ℕ × OutUnit). unit_start graph n.0) in
      let index : 0 + t ≡ t = omega arith in
      elim (cases_lt t (length graph.units)) [
        | inl lt ↦ get_or-map (λ (n : ℕ × OutUnit). unit_start graph n.0) (numbered_units graph) t (0, blank) end (omega (arith, lt, len))
            ∙ ap (λ (n : ℕ × OutUnit). unit_start graph n.0) (get_or-enumerate_from 0 graph.units t (0, blank) lt) ∙ ap (unit_start graph) index
        | inr le ↦ get_or_past starts t end (omega (arith, le, len, many)) ∙ start_past t le
      ]

  -- a node of a unit stands where its draft has it
  node_is : (drafts : List Draft) → AreDrafts graph drafts → (t k : ℕ) (a : Option Draft) (b : Option OutUnit) → slice_get drafts t ≡ a → slice_get graph.units t ≡ b
      → option_map_or (λ (d : Draft). slice_index_or d.places k d.len) a 0 ≡ option_map_or (λ (v : OutUnit). node_place t v k) b 0
  node_is drafts are t k (Some d) (Some v) there here =
      let is : IsDraft t v d = are.each t v d here there in
      ap (λ (ps : List ℕ). slice_index_or ps k d.len) is.places ∙ ap (slice_index_or (node_places t v) k) is.len ∙ own_is t v k
  node_is drafts are t k (Some d) None there here = absurd (omega (arith, slice_get_within drafts t d there, past graph.units t here, are.count))
  node_is drafts are t k None (Some v) there here = absurd (omega (arith, slice_get_within graph.units t v here, past drafts t there, are.count))
  node_is drafts are t k None None there here = refl

  entry_is : (o : Outside) (target : Target) → o.starts.now ≡ starts → AreDrafts graph o.drafts.now → o.end ≡ unit_start graph (length graph.units)
      → entry_number o target ≡ unit_start graph target.unit + target_place graph target
  entry_is o target starts_are are end =
      let t = target.unit in
      let node = option_map_or (λ (d : Draft). slice_index_or d.places target.node d.len) (slice_get o.drafts.now t) 0 in
      ap (λ (ss : List ℕ). slice_index_or ss t o.end + node) starts_are ∙ ap (λ (n : ℕ). slice_index_or starts t n + node) end ∙ ap (λ (n : ℕ). n + node) (start_is t)
      ∙ ap (λ (n : ℕ). unit_start graph t + n) (node_is o.drafts.now are t target.node (slice_get o.drafts.now t) (slice_get graph.units t) refl refl)

  abbrev pub world_of : ℕ → OutUnit → Outside → World
  world_of u clone o = record {
    filling = record { own = λ _. 0; outer = outer_number o };
    places = places_of graph u clone;
    lists = lists_place graph u clone;
    table = table_place graph u;
  }

  pub stands : (u : ℕ) (clone : OutUnit) (names line_names : List (List ℕ)) (o : Outside) → slice_get graph.units u ≡ Some clone → IsOutside graph u clone names line_names o → Stands u clone names line_names (world_of u clone o)
  stands u clone names line_names o at is = record {
    unit = refl;
    version = refl;
    own = λ k. ap (λ (unit : Option OutUnit). option_map_or (λ (v : OutUnit). node_place u v k) unit 0) at;
    table = is.table;
    text = is.texts;
    entry = λ target far. entry_is o target is.starts is.drafts is.end;
    ranges = λ n. ap (λ (m : ℕ). m + n) is.ranges;
    locations = λ n. ap (λ (m : ℕ). m + n) is.locations;
    lines = is.lines;
    line_text = is.line_texts;
  }
