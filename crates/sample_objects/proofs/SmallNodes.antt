-- The nodes of a generated unit are small, and how many there are.
use Rattle.std.proofs.Common.{◌≡◌, ◌≤◌, ◌<◌, ◌+◌, ◌*◌, ℕ, zero, suc, List, [], ◌∷◌, ◌++◌, codes, length, map, arith, refl, length-append}
use Rattle.std.specs.Fmt.{decimal}
use Rattle.std.specs.List.{flat_map, range_with_len}
use Rattle.std.proofs.lemmas.List.FromFn.{length-map-range_with_len}
use Rattle.std.proofs.lemmas.Nat.{mod_below}
use Rattle.ds_base.specs.DwarfNumbers.{DW_FORM_data1, DW_FORM_data2, DW_FORM_data4, DW_FORM_flag_present, DW_LANG_C_plus_plus_14}
use Rattle.dwarf_types.specs.declared.graph.Node.{Node}
use Rattle.sample_objects.specs.GeneratedUnit.{all_numbers, f_declaration, f_node, function, function_name, function_tree, g_declaration, g_node, int_type, linkage_name, member, member_name, namespace, pointer, structure, structure_name, structure_tree, this_parameter, type_number, unit_name, unit_nodes, unit_root, variable}
use Rattle.sample_objects.proofs.Modest.{AreModest, IsModest, short_number}
use Rattle.sample_objects.proofs.ShortNames.{short_decimal}

-- ---- texts

small_number : (i j : ℕ) → type_number i j < 10000
small_number i j = let h = mod_below (37 * i + 11 * j) 1000 (omega arith) in omega (arith, h)

-- ---- nodes

module _ (i : ℕ) (object : i ≤ 1000) where
  root_small : IsModest (unit_root i)
  root_small =
      record {
        attrs = omega arith;
        values = omega (arith, short_number DW_FORM_data2 DW_LANG_C_plus_plus_14);
        texts = omega (arith, length-append (unit_name i) (0 ∷ []), length-append (decimal i) (codes ".cc"), short_decimal i (omega (arith, object)));
        ranges = λ version. refl;
        locations = λ version place. refl;
      }

  structure_small : (j : ℕ) → IsModest (structure i j)
  structure_small j =
      record {
        attrs = omega arith;
        values = omega (arith, short_number DW_FORM_data1 32);
        texts = omega (arith, length-append (structure_name i j) (0 ∷ []), short_decimal (type_number i j) (small_number i j));
        ranges = λ version. refl;
        locations = λ version place. refl;
      }

  g_small : (j : ℕ) → IsModest (g_declaration i j)
  g_small j =
      record {
        attrs = omega arith;
        values = omega (arith, short_number DW_FORM_flag_present 1);
        texts = omega (arith, length-append (linkage_name i j) (0 ∷ []), short_decimal (type_number i j) (small_number i j));
        ranges = λ version. refl;
        locations = λ version place. refl;
      }

  function_small : (j : ℕ) → j < 100 → IsModest (function i j)
  function_small j number =
      record {
        attrs = omega arith;
        values = omega (arith, short_number DW_FORM_data4 16);
        texts = omega (
          arith,
          length-append (function_name i j) (0 ∷ []),
          length-append (decimal i) (codes "_" ++ decimal j),
          short_decimal i (omega (arith, object)),
          short_decimal j (omega (arith, number)),
        );
        ranges = λ version. refl;
        locations = λ version place. refl;
      }

int_small : IsModest int_type
int_small = record { attrs = omega arith; values = omega (arith, short_number DW_FORM_data1 4, short_number DW_FORM_data1 5); texts = omega arith; ranges = λ version. refl; locations = λ version place. refl }

namespace_small : IsModest namespace
namespace_small = record { attrs = omega arith; values = omega arith; texts = omega arith; ranges = λ version. refl; locations = λ version place. refl }

member_small : (j k : ℕ) → k < 8 → IsModest (member j k)
member_small j k number =
    record {
      attrs = omega arith;
      values = omega (arith, short_number DW_FORM_data1 (4 * k));
      texts = omega (arith, length-append (member_name k) (0 ∷ []), short_decimal k (omega (arith, number)));
      ranges = λ version. refl;
      locations = λ version place. refl;
    }

f_small : (j : ℕ) → IsModest (f_declaration j)
f_small j = record { attrs = omega arith; values = omega (arith, short_number DW_FORM_flag_present 1); texts = omega arith; ranges = λ version. refl; locations = λ version place. refl }

parameter_small : (parent j : ℕ) → IsModest (this_parameter parent j)
parameter_small parent j = record { attrs = omega arith; values = omega (arith, short_number DW_FORM_flag_present 1); texts = omega arith; ranges = λ version. refl; locations = λ version place. refl }

pointer_small : (j : ℕ) → IsModest (pointer j)
pointer_small j = record { attrs = omega arith; values = omega arith; texts = omega arith; ranges = λ version. refl; locations = λ version place. refl }

variable_small : (j : ℕ) (name : List ℕ) (offset : ℕ) → length name ≤ 1 → IsModest (variable j name offset)
variable_small j name offset short = record { attrs = omega arith; values = omega arith; texts = omega (arith, length-append name (0 ∷ []), short); ranges = λ version. refl; locations = λ version place. refl }

-- ---- lists of nodes

joined : (xs ys : List Node) → AreModest xs → AreModest ys → AreModest (xs ++ ys)
joined [] ys h k = k
joined (x ∷ xs) ys h k = (h.0, joined xs ys h.1 k)

module _ (most : ℕ) where
  each_tree : (f : ℕ → List Node) → ((j : ℕ) → j < most → AreModest (f j)) → (n a : ℕ) → a + n ≤ most → AreModest (flat_map f (range_with_len a n))
  each_tree f h zero a fits = tt
  each_tree f h (suc n) a fits = joined (f a) (flat_map f (range_with_len (a + 1) n)) (h a (omega (arith, fits))) (each_tree f h n (a + 1) (omega (arith, fits)))

  each_node : (f : ℕ → Node) → ((j : ℕ) → j < most → IsModest (f j)) → (n a : ℕ) → a + n ≤ most → AreModest (map f (range_with_len a n))
  each_node f h zero a fits = tt
  each_node f h (suc n) a fits = (h a (omega (arith, fits)), each_node f h n (a + 1) (omega (arith, fits)))

pub structures_len : (i n a : ℕ) → length (flat_map (structure_tree i) (range_with_len a n)) ≡ n * 13
structures_len i zero a = refl
structures_len i (suc n) a = omega (arith, length-append (structure_tree i a) (flat_map (structure_tree i) (range_with_len (a + 1) n)), structures_len i n (a + 1))

functions_len : (i n a : ℕ) → length (flat_map (function_tree i) (range_with_len a n)) ≡ n * 4
functions_len i zero a = refl
functions_len i (suc n) a = omega (arith, length-append (function_tree i a) (flat_map (function_tree i) (range_with_len (a + 1) n)), functions_len i n (a + 1))

-- ---- the unit

module _ (i : ℕ) where
  pub nodes_len : length (unit_nodes i) ≡ 1803
  unfolding all_numbers
  nodes_len =
      let structures = flat_map (structure_tree i) all_numbers in
      let pointers = map pointer all_numbers in
      let functions = flat_map (function_tree i) all_numbers in
      omega (
        arith,
        length-append structures (pointers ++ functions),
        length-append pointers functions,
        structures_len i 100 0,
        length-map-range_with_len pointer 0 100,
        functions_len i 100 0,
      )

  pub nodes_few : length (unit_nodes i) ≤ 2000
  nodes_few = omega (arith, nodes_len)

  pub nodes_small : i ≤ 1000 → AreModest (unit_nodes i)
  unfolding all_numbers
  nodes_small object =
      let tree : (j : ℕ) → j < 100 → AreModest (structure_tree i j) =
      λ j number. (
        structure_small i object j,
        joined (map (member j) (range_with_len 0 8)) (f_declaration j ∷ this_parameter (f_node j) j ∷ g_declaration i j ∷ this_parameter (g_node j) j ∷ [])
            (each_node 8 (member j) (member_small j) 8 0 (omega arith))
            (f_small j, (parameter_small (f_node j) j, (g_small i object j, (parameter_small (g_node j) j, tt)))),
      ) in
      let functions : (j : ℕ) → j < 100 → AreModest (function_tree i j) =
      λ j number. (function_small i object j number, (variable_small j (codes "a") 8 (omega arith), (variable_small j (codes "b") 16 (omega arith), (variable_small j (codes "c") 24 (omega arith), tt)))) in (
        root_small i object,
        (
          int_small,
          (
            namespace_small,
            joined (flat_map (structure_tree i) all_numbers) (map pointer all_numbers ++ flat_map (function_tree i) all_numbers) (each_tree 100 (structure_tree i) tree 100 0 (omega arith))
                (joined (map pointer all_numbers) (flat_map (function_tree i) all_numbers) (each_node 100 pointer (λ j number. pointer_small j) 100 0 (omega arith)) (each_tree 100 (function_tree i) functions 100 0 (omega arith))),
          ),
        ),
      )
