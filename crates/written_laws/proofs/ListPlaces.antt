-- Where the lists of a unit stand: within the section of their version.
use Rattle.std.proofs.Common.{◌≡◌, ◌≤◌, ◌+◌, ◌==◌, ◌++◌, ℕ, Bool, true, false, List, [], length, slice_get, if◌then◌else◌, Some, refl, ap, ◌∙◌, length-append, arith}
use mathlib.Core.Path.{fun_ext}
use Rattle.std.specs.List.{enumerate_from, flat_map, sum_by}
use Rattle.std.proofs.lemmas.Bool.{ne_eqb}
use Rattle.std.proofs.lemmas.List.Concat.{length-flat_map}
use Rattle.dwarf_types.specs.declared.graph.Graph.{Graph}
use Rattle.dwarf_types.specs.declared.graph.Node.{Node}
use Rattle.dwarf_types.specs.declared.graph.OutAttr.{OutAttr}
use Rattle.dwarf_types.specs.declared.graph.OutUnit.{OutUnit}
use Rattle.dwarf_types.specs.declared.graph.OutValue.{OutValue}
use Rattle.dwarf_types.specs.declared.graph.OutValue.TheVariants as outs
use Rattle.dwarf_types.specs.Abbreviations.{same_flag}
use Rattle.dwarf_types.specs.Encode.{all_locations, all_ranges, over_values, unit_locations, unit_ranges}
use Rattle.dwarf_types.specs.Entries.{node_locations_len, node_ranges_len}
use Rattle.dwarf_types.specs.Layout.{lists_place, lists_start, locations_before, places_of, ranges_before, stands_in, unit_locations_len, unit_ranges_len}
use Rattle.dwarf_types.specs.Lists.{behind_header, lists_header, locations_bytes, locations_len, ranges_bytes, ranges_len}
use Rattle.dwarf_types.specs.Places.{own_node}
use Rattle.dwarf_types.specs.SectionBytes.{location_bytes, range_bytes}
use Rattle.dwarf_types.proofs.Lengths.{length-location_list, length-range_list}
use Rattle.written_laws.specs.ReadUnits.{sections_of}
use Rattle.written_laws.proofs.Cuts.{ends_within, numbered_first, without_numbers}
use Rattle.written_laws.proofs.OwnValues.{Fits}

-- ---- how long the lists of a unit are

pub ranges_each : (version : ℕ) (value : OutValue) → length (ranges_bytes version value) ≡ ranges_len version value
ranges_each version (outs.Ranges spans) = length-range_list version spans
ranges_each version value = refl

pub locations_each : (version : ℕ) (place : ℕ → ℕ) (value : OutValue) → length (locations_bytes version place value) ≡ locations_len version value
locations_each version place (outs.Locations items) = length-location_list version place items
locations_each version place value = refl

pub over : {X : Type 0} (f : X → List ℕ) (len : X → ℕ) → ((x : X) → length (f x) ≡ len x) → (xs : List X) → length (flat_map f xs) ≡ sum_by len xs
over {X} f len each xs = length-flat_map f xs ∙ ap (λ (g : X → ℕ). sum_by g xs) (fun_ext each)

over_nodes : (part : OutValue → List ℕ) (len : OutValue → ℕ) → ((value : OutValue) → length (part value) ≡ len value) → (unit : OutUnit)
    → length (over_values part unit) ≡ sum_by (λ node. sum_by (λ a. len a.value) node.attrs) unit.nodes
over_nodes part len each unit =
    over (λ (node : Node). flat_map (λ (a : OutAttr). part a.value) node.attrs) (λ (node : Node). sum_by (λ (a : OutAttr). len a.value) node.attrs)
    (λ (node : Node). over (λ (a : OutAttr). part a.value) (λ (a : OutAttr). len a.value) (λ (a : OutAttr). each a.value) node.attrs) unit.nodes

pub ranges_size : (unit : OutUnit) → length (unit_ranges unit) ≡ sum_by (node_ranges_len unit.version) unit.nodes
ranges_size unit = over_nodes (ranges_bytes unit.version) (ranges_len unit.version) (ranges_each unit.version) unit

pub locations_size : (place : ℕ → ℕ) (unit : OutUnit) → length (unit_locations place unit) ≡ sum_by (node_locations_len unit.version) unit.nodes
locations_size place unit = over_nodes (locations_bytes unit.version place) (locations_len unit.version) (locations_each unit.version place) unit

pub chosen : (b : Bool) (lists : List ℕ) (n : ℕ) → length lists ≡ n → length (if b then lists else []) ≡ (if b then n else 0)
chosen true lists n e = e
chosen false lists n e = refl

-- ---- where they stand

-- behind the header, where there is one
placed : (lists : List ℕ) (before own : ℕ) → before + own ≤ length lists → Fits (12 + before) own (length (behind_header lists))
placed lists before own le = λ some. by (length lists == 0) (ne_eqb (length lists) 0 (λ e. absurd (omega (arith, e, some, le)))) (omega (arith, le))
  where
    by : (none : Bool) → none ≡ false → 12 + before + own ≤ 12 + length lists → 12 + before + own ≤ length (if none then [] else lists_header (length lists) ++ lists)
    by true e le = absurd cc
    by false e le = omega (arith, le, length-append (lists_header (length lists)) lists)

module _ (graph : Graph) (u : ℕ) (unit : OutUnit) (at : slice_get graph.units u ≡ Some unit) where
  abbrev ranges_of : Bool → ℕ × OutUnit → List ℕ
  ranges_of five n = if stands_in five n.1 then unit_ranges n.1 else []

  abbrev locations_of : Bool → ℕ × OutUnit → List ℕ
  locations_of five n = if stands_in five n.1 then unit_locations (own_node (places_of graph n.0 n.1)) n.1 else []

  ranges_within : (five : Bool) → stands_in five unit ≡ true → ranges_before five graph u + sum_by (node_ranges_len unit.version) unit.nodes ≤ length (all_ranges five graph)
  ranges_within five own =
      let ends = ends_within (ranges_of five) (λ (n : ℕ × OutUnit). unit_ranges_len five n.1) (λ (n : ℕ × OutUnit). chosen (stands_in five n.1) (unit_ranges n.1) (sum_by (node_ranges_len n.1.version) n.1.nodes) (ranges_size n.1))
      (enumerate_from 0 graph.units) u (u, unit) (numbered_first graph.units u unit at) in
      let len : unit_ranges_len five unit ≡ sum_by (node_ranges_len unit.version) unit.nodes = ap (λ (b : Bool). if b then sum_by (node_ranges_len unit.version) unit.nodes else 0) own in
      let all = ap length (without_numbers (λ (x : OutUnit). if stands_in five x then unit_ranges x else []) 0 graph.units) in
      omega (arith, ends, len, all)

  locations_within : (five : Bool) → stands_in five unit ≡ true → locations_before five graph u + sum_by (node_locations_len unit.version) unit.nodes ≤ length (all_locations five graph)
  locations_within five own =
      let ends = ends_within (locations_of five) (λ (n : ℕ × OutUnit). unit_locations_len five n.1)
      (λ (n : ℕ × OutUnit). chosen (stands_in five n.1) (unit_locations (own_node (places_of graph n.0 n.1)) n.1) (sum_by (node_locations_len n.1.version) n.1.nodes) (locations_size (own_node (places_of graph n.0 n.1)) n.1))
      (enumerate_from 0 graph.units) u (u, unit) (numbered_first graph.units u unit at) in
      let len : unit_locations_len five unit ≡ sum_by (node_locations_len unit.version) unit.nodes = ap (λ (b : Bool). if b then sum_by (node_locations_len unit.version) unit.nodes else 0) own in
      omega (arith, ends, len)

  pub ranges_fit : Fits (lists_place graph u unit).ranges (sum_by (node_ranges_len unit.version) unit.nodes) (length (range_bytes (sections_of graph) unit.version))
  ranges_fit = by (unit.version == 5) refl
    where
      by : (b : Bool) → (unit.version == 5) ≡ b → Fits (lists_start b + ranges_before b graph u) (sum_by (node_ranges_len unit.version) unit.nodes) (length (if b then behind_header (all_ranges true graph) else all_ranges false graph))
      by true e = placed (all_ranges true graph) (ranges_before true graph u) (sum_by (node_ranges_len unit.version) unit.nodes) (ranges_within true (ap (λ (c : Bool). same_flag c true) e))
      by false e = λ some. omega (arith, ranges_within false (ap (λ (c : Bool). same_flag c false) e))

  pub locations_fit : Fits (lists_place graph u unit).locations (sum_by (node_locations_len unit.version) unit.nodes) (length (location_bytes (sections_of graph) unit.version))
  locations_fit = by (unit.version == 5) refl
    where
      by : (b : Bool) → (unit.version == 5) ≡ b → Fits (lists_start b + locations_before b graph u) (sum_by (node_locations_len unit.version) unit.nodes) (length (if b then behind_header (all_locations true graph) else all_locations false graph))
      by true e = placed (all_locations true graph) (locations_before true graph u) (sum_by (node_locations_len unit.version) unit.nodes) (locations_within true (ap (λ (c : Bool). same_flag c true) e))
      by false e = λ some. omega (arith, locations_within false (ap (λ (c : Bool). same_flag c false) e))
