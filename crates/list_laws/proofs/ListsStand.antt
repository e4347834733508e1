-- The lists of a graph stand at their places.
use Rattle.std.proofs.Common.{◌≡◌, ◌<◌, ◌+◌, ◌==◌, ◌++◌, ℕ, Bool, true, false, List, [], length, take, if◌then◌else◌, refl, sym, ap, subst, ◌∙◌, append_assoc, length-append, arith}
use Rattle.std.specs.List.{enumerate_from, flat_map, sum_by}
use Rattle.std.proofs.lemmas.Bool.{ne_eqb}
use Rattle.dwarf_types.specs.declared.graph.Graph.{Graph}
use Rattle.dwarf_types.specs.declared.graph.Node.{Node}
use Rattle.dwarf_types.specs.declared.graph.OutAttr.{OutAttr}
use Rattle.dwarf_types.specs.declared.graph.OutUnit.{OutUnit}
use Rattle.dwarf_types.specs.declared.graph.OutValue.{OutValue}
use Rattle.dwarf_types.specs.Abbreviations.{same_flag}
use Rattle.dwarf_types.specs.Encode.{all_locations, all_ranges, unit_locations, unit_ranges}
use Rattle.dwarf_types.specs.Entries.{node_locations_len, node_ranges_len}
use Rattle.dwarf_types.specs.Layout.{lists_start, locations_before, ranges_before, stands_in, unit_locations_len, unit_ranges_len}
use Rattle.dwarf_types.specs.Lists.{behind_header, lists_header, locations_bytes, locations_len, ranges_bytes, ranges_len}
use Rattle.dwarf_types.specs.SectionBytes.{location_bytes, range_bytes}
use Rattle.written_laws.specs.ReadUnits.{sections_of}
use Rattle.written_laws.proofs.Cuts.{Cut, cut, numbered_first, without_numbers}
use Rattle.written_laws.proofs.ListPlaces.{chosen, locations_each, locations_size, over, ranges_each, ranges_size}
use Rattle.list_laws.specs.Again.{Holds, locations_place, node_at, ranges_place}

-- some bytes at a place of others
pub record IsAt (all : List ℕ) (place : ℕ) (bytes : List ℕ) : Type 0 where
  pub front : List ℕ
  pub more : List ℕ
  pub is : all ≡ front ++ (bytes ++ more)
  pub there : length front ≡ place

-- and others in these
within : (all : List ℕ) (p : ℕ) (middle : List ℕ) (q : ℕ) (bytes : List ℕ) → IsAt all p middle → IsAt middle q bytes → IsAt all (p + q) bytes
within all p middle q bytes a b = record {
  front = a.front ++ b.front;
  more = b.more ++ a.more;
  is = a.is ∙ ap (λ (xs : List ℕ). a.front ++ (xs ++ a.more)) b.is ∙ ap (λ (xs : List ℕ). a.front ++ xs) (append_assoc b.front (bytes ++ b.more) a.more ∙ ap (λ (xs : List ℕ). b.front ++ xs) (append_assoc bytes b.more a.more))
      ∙ sym (append_assoc a.front b.front (bytes ++ (b.more ++ a.more)));
  there = omega (arith, length-append a.front b.front, a.there, b.there);
}

one_of : {X : Type 0} (part : X → List ℕ) (len : X → ℕ) (each : (x : X) → length (part x) ≡ len x) (xs : List X) (i : ℕ) (x : X) → Cut part len each xs i x → (place : ℕ) → place ≡ sum_by len (take i xs) → IsAt (flat_map part xs) place (part x)
one_of part len each xs i x c place is = record { front = c.front; more = c.more; is = c.is; there = c.there ∙ sym is }

-- behind a header, where there is one
behind : (five : Bool) (all : List ℕ) (place : ℕ) (bytes : List ℕ) → 0 < length bytes → IsAt all place bytes → IsAt (if five then behind_header all else all) (lists_start five + place) bytes
behind false all place bytes some at = record { front = at.front; more = at.more; is = at.is; there = omega (arith, at.there) }
behind true all place bytes some at = by (length all == 0) (ne_eqb (length all) 0 (λ e. absurd (omega (arith, e, some, ap length at.is, length-append at.front (bytes ++ at.more), length-append bytes at.more))))
  where
    by : (none : Bool) → none ≡ false → IsAt (if none then [] else lists_header (length all) ++ all) (12 + place) bytes
    by true e = absurd cc
    by false e = record {
      front = lists_header (length all) ++ at.front;
      more = at.more;
      is = ap (λ (xs : List ℕ). lists_header (length all) ++ xs) at.is ∙ sym (append_assoc (lists_header (length all)) at.front (bytes ++ at.more));
      there = omega (arith, length-append (lists_header (length all)) at.front, at.there);
    }

module _ (graph : Graph) (u : ℕ) (unit : OutUnit) (k : ℕ) (node : Node) (i : ℕ) (value : OutValue) (holds : Holds graph u unit k node i value) where
  abbrev version : ℕ
  version = unit.version

  -- ---- range lists

  abbrev ranges_of : Bool → ℕ × OutUnit → List ℕ
  ranges_of five n = if stands_in five n.1 then unit_ranges n.1 else []

  ranges_in_node : IsAt (flat_map (λ (a : OutAttr). ranges_bytes version a.value) node.attrs) (sum_by (λ (a : OutAttr). ranges_len version a.value) (take i node.attrs)) (ranges_bytes version value)
  ranges_in_node =
      let part : OutAttr → List ℕ = λ a. ranges_bytes version a.value in
      let len : OutAttr → ℕ = λ a. ranges_len version a.value in
      subst (λ (v : OutValue). IsAt (flat_map part node.attrs) (sum_by len (take i node.attrs)) (ranges_bytes version v)) holds.is
      (one_of part len (λ (a : OutAttr). ranges_each version a.value) node.attrs i holds.attr (cut part len (λ (a : OutAttr). ranges_each version a.value) node.attrs i holds.attr holds.in_node) (sum_by len (take i node.attrs)) refl)

  ranges_in_unit : IsAt (unit_ranges unit) (sum_by (node_ranges_len version) (take k unit.nodes) + sum_by (λ (a : OutAttr). ranges_len version a.value) (take i node.attrs)) (ranges_bytes version value)
  ranges_in_unit =
      let part : Node → List ℕ = λ n. flat_map (λ (a : OutAttr). ranges_bytes version a.value) n.attrs in
      let each : (n : Node) → length (part n) ≡ node_ranges_len version n = λ n. over (λ (a : OutAttr). ranges_bytes version a.value) (λ (a : OutAttr). ranges_len version a.value) (λ (a : OutAttr). ranges_each version a.value) n.attrs in
      within (unit_ranges unit) (sum_by (node_ranges_len version) (take k unit.nodes)) (part node) (sum_by (λ (a : OutAttr). ranges_len version a.value) (take i node.attrs)) (ranges_bytes version value)
      (one_of part (node_ranges_len version) each unit.nodes k node (cut part (node_ranges_len version) each unit.nodes k node holds.in_unit) (sum_by (node_ranges_len version) (take k unit.nodes)) refl) ranges_in_node

  ranges_in_all : (five : Bool) → stands_in five unit ≡ true → IsAt (all_ranges five graph) (ranges_before five graph u) (unit_ranges unit)
  ranges_in_all five own =
      let len : ℕ × OutUnit → ℕ = λ n. unit_ranges_len five n.1 in
      let each : (n : ℕ × OutUnit) → length (ranges_of five n) ≡ len n = λ n. chosen (stands_in five n.1) (unit_ranges n.1) (sum_by (node_ranges_len n.1.version) n.1.nodes) (ranges_size n.1) in
      let at = one_of (ranges_of five) len each (enumerate_from 0 graph.units) u (u, unit) (cut (ranges_of five) len each (enumerate_from 0 graph.units) u (u, unit) (numbered_first graph.units u unit holds.in_graph)) (ranges_before five graph u) refl in
      subst (λ (b : List ℕ). IsAt b (ranges_before five graph u) (unit_ranges unit)) (sym (without_numbers (λ (x : OutUnit). if stands_in five x then unit_ranges x else []) 0 graph.units))
      (subst (λ (b : Bool). IsAt (flat_map (ranges_of five) (enumerate_from 0 graph.units)) (ranges_before five graph u) (if b then unit_ranges unit else [])) own at)

  pub ranges_stand : 0 < length (ranges_bytes version value) → IsAt (range_bytes (sections_of graph) version) (ranges_place graph u unit k node i) (ranges_bytes version value)
  ranges_stand some = by (version == 5) refl
    where
      by : (b : Bool) → (version == 5) ≡ b → IsAt (if b then behind_header (all_ranges true graph) else all_ranges false graph)
          (lists_start b + ranges_before b graph u + (sum_by (node_ranges_len version) (take k unit.nodes) + sum_by (λ (a : OutAttr). ranges_len version a.value) (take i node.attrs))) (ranges_bytes version value)
      by b e =
          let inner = sum_by (node_ranges_len version) (take k unit.nodes) + sum_by (λ (a : OutAttr). ranges_len version a.value) (take i node.attrs) in
          let own = all_own b e in
          let at = within (all_ranges b graph) (ranges_before b graph u) (unit_ranges unit) inner (ranges_bytes version value) own ranges_in_unit in
          let place : lists_start b + (ranges_before b graph u + inner) ≡ lists_start b + ranges_before b graph u + inner = omega arith in
          subst (λ (p : ℕ). IsAt (if b then behind_header (all_ranges true graph) else all_ranges false graph) p (ranges_bytes version value)) place (chosen_all b at)
        where
          all_own : (b : Bool) → (version == 5) ≡ b → IsAt (all_ranges b graph) (ranges_before b graph u) (unit_ranges unit)
          all_own true e = ranges_in_all true (ap (λ (c : Bool). same_flag c true) e)
          all_own false e = ranges_in_all false (ap (λ (c : Bool). same_flag c false) e)

          chosen_all : (b : Bool) {place : ℕ} → IsAt (all_ranges b graph) place (ranges_bytes version value) → IsAt (if b then behind_header (all_ranges true graph) else all_ranges false graph) (lists_start b + place) (ranges_bytes version value)
          chosen_all true at = behind true (all_ranges true graph) _ (ranges_bytes version value) some at
          chosen_all false at = behind false (all_ranges false graph) _ (ranges_bytes version value) some at

  -- ---- location lists

  abbrev locations_of : Bool → ℕ × OutUnit → List ℕ
  locations_of five n = if stands_in five n.1 then unit_locations (node_at graph n.0 n.1) n.1 else []

  locations_in_node : IsAt (flat_map (λ (a : OutAttr). locations_bytes version (node_at graph u unit) a.value) node.attrs) (sum_by (λ (a : OutAttr). locations_len version a.value) (take i node.attrs)) (locations_bytes version (node_at graph u unit) value)
  locations_in_node =
      let part : OutAttr → List ℕ = λ a. locations_bytes version (node_at graph u unit) a.value in
      let len : OutAttr → ℕ = λ a. locations_len version a.value in
      subst (λ (v : OutValue). IsAt (flat_map part node.attrs) (sum_by len (take i node.attrs)) (locations_bytes version (node_at graph u unit) v)) holds.is
      (one_of part len (λ (a : OutAttr). locations_each version (node_at graph u unit) a.value) node.attrs i holds.attr (cut part len (λ (a : OutAttr). locations_each version (node_at graph u unit) a.value) node.attrs i holds.attr holds.in_node) (sum_by len (take i node.attrs)) refl)

  locations_in_unit : IsAt (unit_locations (node_at graph u unit) unit) (sum_by (node_locations_len version) (take k unit.nodes) + sum_by (λ (a : OutAttr). locations_len version a.value) (take i node.attrs)) (locations_bytes version (node_at graph u unit) value)
  locations_in_unit =
      let part : Node → List ℕ = λ n. flat_map (λ (a : OutAttr). locations_bytes version (node_at graph u unit) a.value) n.attrs in
      let each : (n : Node) → length (part n) ≡ node_locations_len version n = λ n. over (λ (a : OutAttr). locations_bytes version (node_at graph u unit) a.value) (λ (a : OutAttr). locations_len version a.value) (λ (a : OutAttr). locations_each version (node_at graph u unit) a.value) n.attrs in
      within (unit_locations (node_at graph u unit) unit) (sum_by (node_locations_len version) (take k unit.nodes)) (part node) (sum_by (λ (a : OutAttr). locations_len version a.value) (take i node.attrs)) (locations_bytes version (node_at graph u unit) value)
      (one_of part (node_locations_len version) each unit.nodes k node (cut part (node_locations_len version) each unit.nodes k node holds.in_unit) (sum_by (node_locations_len version) (take k unit.nodes)) refl) locations_in_node

  locations_in_all : (five : Bool) → stands_in five unit ≡ true → IsAt (all_locations five graph) (locations_before five graph u) (unit_locations (node_at graph u unit) unit)
  locations_in_all five own =
      let len : ℕ × OutUnit → ℕ = λ n. unit_locations_len five n.1 in
      let each : (n : ℕ × OutUnit) → length (locations_of five n) ≡ len n = λ n. chosen (stands_in five n.1) (unit_locations (node_at graph n.0 n.1) n.1) (sum_by (node_locations_len n.1.version) n.1.nodes) (locations_size (node_at graph n.0 n.1) n.1) in
      let at = one_of (locations_of five) len each (enumerate_from 0 graph.units) u (u, unit) (cut (locations_of five) len each (enumerate_from 0 graph.units) u (u, unit) (numbered_first graph.units u unit holds.in_graph)) (locations_before five graph u) refl in
      subst (λ (b : Bool). IsAt (flat_map (locations_of five) (enumerate_from 0 graph.units)) (locations_before five graph u) (if b then unit_locations (node_at graph u unit) unit else [])) own at

  pub locations_stand : 0 < length (locations_bytes version (node_at graph u unit) value) → IsAt (location_bytes (sections_of graph) version) (locations_place graph u unit k node i) (locations_bytes version (node_at graph u unit) value)
  locations_stand some = by (version == 5) refl
    where
      by : (b : Bool) → (version == 5) ≡ b → IsAt (if b then behind_header (all_locations true graph) else all_locations false graph)
          (lists_start b + locations_before b graph u + (sum_by (node_locations_len version) (take k unit.nodes) + sum_by (λ (a : OutAttr). locations_len version a.value) (take i node.attrs))) (locations_bytes version (node_at graph u unit) value)
      by b e =
          let inner = sum_by (node_locations_len version) (take k unit.nodes) + sum_by (λ (a : OutAttr). locations_len version a.value) (take i node.attrs) in
          let own = all_own b e in
          let at = within (all_locations b graph) (locations_before b graph u) (unit_locations (node_at graph u unit) unit) inner (locations_bytes version (node_at graph u unit) value) own locations_in_unit in
          let place : lists_start b + (locations_before b graph u + inner) ≡ lists_start b + locations_before b graph u + inner = omega arith in
          subst (λ (p : ℕ). IsAt (if b then behind_header (all_locations true graph) else all_locations false graph) p (locations_bytes version (node_at graph u unit) value)) place (chosen_all b at)
        where
          all_own : (b : Bool) → (version == 5) ≡ b → IsAt (all_locations b graph) (locations_before b graph u) (unit_locations (node_at graph u unit) unit)
          all_own true e = locations_in_all true (ap (λ (c : Bool). same_flag c true) e)
          all_own false e = locations_in_all false (ap (λ (c : Bool). same_flag c false) e)

          chosen_all : (b : Bool) {place : ℕ} → IsAt (all_locations b graph) place (locations_bytes version (node_at graph u unit) value) → IsAt (if b then behind_header (all_locations true graph) else all_locations false graph) (lists_start b + place) (locations_bytes version (node_at graph u unit) value)
          chosen_all true at = behind true (all_locations true graph) _ (locations_bytes version (node_at graph u unit) value) some at
          chosen_all false at = behind false (all_locations false graph) _ (locations_bytes version (node_at graph u unit) value) some at
