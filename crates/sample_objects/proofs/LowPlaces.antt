-- Where the addresses of the generated functions stand in their unit.
use Rattle.std.proofs.Common.{◌≡◌, ◌<◌, ◌+◌, ◌*◌, ◌-◌, ℕ, zero, suc, List, [], ◌∷◌, ◌++◌, codes, length, map, take, get_or, Option, Some, arith, refl, sym, ap, ◌∙◌}
use Rattle.std.specs.List.{enumerate_from, flat_map, range_with_len, sum_by}
use Rattle.std.specs.Option.{option_and_then, option_map_or}
use Rattle.std.proofs.lemmas.List.{get_or-append_right, get_or_append_left, length-map, take_more}
use Rattle.std.proofs.lemmas.List.FromFn.{length-enumerate_from, length-map-range_with_len}
use Rattle.std.proofs.lemmas.List.Sums.{sum_by-append, sum_by-cons}
use Rattle.std.proofs.lemmas.Option.{slice_get_read}
use Rattle.ds_base.specs.Leb.{uleb_len_of}
use Rattle.dwarf_types.specs.declared.graph.Node.{Node}
use Rattle.dwarf_types.specs.declared.graph.OutUnit.{OutUnit}
use Rattle.dwarf_types.specs.Entries.{OutEntry, entries_of, entry_len, entry_of, lists_ended, node_place, parent_of}
use Rattle.dwarf_types.specs.Values.{number_len, values_len}
use Rattle.dwarf_types.proofs.Ancestors.{ancestors_of_child}
use Rattle.unit_draft.specs.Drafted.{node_places}
use Rattle.unit_draft.proofs.Entering.{made_here}
use Rattle.sample_objects.specs.GeneratedProgram.{code_len, low_pc_place}
use Rattle.sample_objects.specs.GeneratedUnit.{all_numbers, function, function_node, function_tree, int_type, namespace, pointer, structure_tree, unit_nodes, unit_of, unit_root, variable}
use Rattle.sample_objects.proofs.SmallNodes.{nodes_len, structures_len}

pub function_within : (j : ℕ) → j < 100 → function_node j + 1 < 1803
function_within j number = omega (arith, number)

pub places_len : (i : ℕ) → length (node_places 0 (unit_of i)) ≡ 1803
places_len i = omega (arith, length-map (enumerate_from 0 (unit_nodes i)) (λ (n : ℕ × Node). node_place 0 (unit_of i) n.0), length-enumerate_from 0 (unit_nodes i), nodes_len i)

-- ---- a node and the one behind it

module _ (unit : OutUnit) (k : ℕ) (node : Node) (lt : k < length unit.nodes) (is : node ≡ get_or unit.nodes k node) where
  pub place_here : get_or (node_places 0 unit) k 0 ≡ node_place 0 unit k
  place_here = made_here unit.nodes (λ n. node_place 0 unit n.0) k node lt is 0

  abbrev entry : OutEntry
  entry = entry_of 0 unit.nodes k node

  within : k < length (entries_of 0 unit)
  within = omega (arith, lt, length-map (enumerate_from 0 unit.nodes) (λ (n : ℕ × Node). entry_of 0 unit.nodes n.0 n.1), length-enumerate_from 0 unit.nodes)

  entry_is : get_or (entries_of 0 unit) k entry ≡ entry
  entry_is = made_here unit.nodes (λ n. entry_of 0 unit.nodes n.0 n.1) k node lt is entry

  -- its code
  code_is : code_len unit k ≡ uleb_len_of entry.code
  code_is = ap (λ (o : Option OutEntry). option_map_or (λ e. uleb_len_of e.code) o 0) (slice_get_read (entries_of 0 unit) (length (entries_of 0 unit)) k entry refl within (sym entry_is))

  -- behind it stands the next one
  next_place : node_place 0 unit (k + 1) ≡ node_place 0 unit k + entry_len entry
  next_place =
      let es = entries_of 0 unit in
      omega (
        arith,
        ap (sum_by entry_len) (take_more es k entry within),
        sum_by-append entry_len (take k es) (get_or es k entry ∷ []),
        sum_by-cons entry_len (get_or es k entry) [],
        ap entry_len entry_is,
      )

  -- no list ends between a node and its child
  none_ended : parent_of unit.nodes (k + 1) ≡ Some k → lists_ended unit.nodes k ≡ 0
  none_ended child = omega (arith, ap length (ancestors_of_child unit.nodes (k + 1) k child (omega arith)))

  pub child_place : parent_of unit.nodes (k + 1) ≡ Some k → node_place 0 unit (k + 1) ≡ node_place 0 unit k + (code_len unit k + values_len node.attrs)
  child_place child = omega (arith, next_place, code_is, none_ended child)

-- ---- the nodes of functions

tree_at : (i n a j r : ℕ) (d : Node) → j < n → r < 4 → get_or (flat_map (function_tree i) (range_with_len a n)) (4 * j + r) d ≡ get_or (function_tree i (a + j)) r d
tree_at i zero a j r d lt small = absurd (omega (arith, lt))
tree_at i (suc n) a zero r d lt small =
    let first : 4 * 0 + r ≡ r = omega arith in
    let same : a ≡ a + 0 = omega arith in
    let trees = function_tree i a ++ flat_map (function_tree i) (range_with_len (a + 1) n) in
    ap (λ (m : ℕ). get_or trees m d) first ∙ get_or_append_left (function_tree i a) (flat_map (function_tree i) (range_with_len (a + 1) n)) d r small ∙ ap (λ (b : ℕ). get_or (function_tree i b) r d) same
tree_at i (suc n) a (suc j) r d lt small =
    let others = flat_map (function_tree i) (range_with_len (a + 1) n) in
    let left : 4 * suc j + r - 4 ≡ 4 * j + r = omega arith in
    let same : (a + 1) + j ≡ a + suc j = omega arith in
    get_or-append_right (function_tree i a) others 4 (4 * suc j + r) d refl (omega arith)
    ∙ ap (λ (m : ℕ). get_or others m d) left
    ∙ tree_at i n (a + 1) j r d (omega (arith, lt)) small
    ∙ ap (λ (b : ℕ). get_or (function_tree i b) r d) same

module _ (i j : ℕ) (number : j < 100) where
  node_at : (r : ℕ) (d : Node) → r < 4 → get_or (unit_nodes i) (function_node j + r) d ≡ get_or (function_tree i j) r d
  unfolding all_numbers
  node_at r d small =
      let head = unit_root i ∷ int_type ∷ namespace ∷ [] in
      let structures = flat_map (structure_tree i) all_numbers in
      let pointers = map pointer all_numbers in
      let functions = flat_map (function_tree i) all_numbers in
      let left : function_node j + r - 3 - 1300 - 100 ≡ 4 * j + r = omega arith in
      let same : 0 + j ≡ j = omega arith in
      get_or-append_right head (structures ++ (pointers ++ functions)) 3 (function_node j + r) d refl (omega arith)
      ∙ get_or-append_right structures (pointers ++ functions) 1300 (function_node j + r - 3) d (structures_len i 100 0) (omega arith)
      ∙ get_or-append_right pointers functions 100 (function_node j + r - 3 - 1300) d (length-map-range_with_len pointer 0 100) (omega arith)
      ∙ ap (λ (m : ℕ). get_or functions m d) left
      ∙ tree_at i 100 0 j r d number small
      ∙ ap (λ (b : ℕ). get_or (function_tree i b) r d) same

  abbrev first : Node
  first = variable j (codes "a") 8

  function_here : function i j ≡ get_or (unit_nodes i) (function_node j) (function i j)
  function_here =
      let none : function_node j + 0 ≡ function_node j = omega arith in
      sym (ap (λ (m : ℕ). get_or (unit_nodes i) m (function i j)) (sym none) ∙ node_at 0 (function i j) (omega arith))

  variable_within : function_node j + 1 < length (unit_nodes i)
  variable_within = omega (arith, function_within j number, nodes_len i)

  variable_here : first ≡ get_or (unit_nodes i) (function_node j + 1) first
  variable_here = sym (node_at 1 first (omega arith))

  child_is : parent_of (unit_nodes i) (function_node j + 1) ≡ Some (function_node j)
  child_is = ap (option_and_then (λ (n : Node). n.parent)) (slice_get_read (unit_nodes i) (length (unit_nodes i)) (function_node j + 1) first refl variable_within variable_here)

  values_are : values_len (function i j).attrs ≡ 16
  unfolding number_len
  values_are = refl

  -- the low_pc and the high_pc stand before the first variable
  end_is : get_or (node_places 0 (unit_of i)) (function_node j + 1) 0 ≡ low_pc_place i j + 12
  unfolding low_pc_place
  end_is =
      omega (
        arith,
        place_here (unit_of i) (function_node j + 1) first variable_within variable_here,
        child_place (unit_of i) (function_node j) (function i j) (omega (arith, variable_within)) function_here child_is,
        values_are,
      )

  pub end_told : (places : List ℕ) (k : ℕ) → places ≡ node_places 0 (unit_of i) → k ≡ function_node j → get_or places (k + 1) 0 ≡ low_pc_place i j + 12
  end_told places k are is = ap (λ (ps : List ℕ). get_or ps (k + 1) 0) are ∙ ap (λ (n : ℕ). get_or (node_places 0 (unit_of i)) (n + 1) 0) is ∙ end_is
