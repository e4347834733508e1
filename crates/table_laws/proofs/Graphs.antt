-- What is found in the tables of a graph.
use Rattle.std.proofs.Common.{◌≡◌, ℕ, ◌+◌, ◌-◌, ◌<◌, ◌≤◌, ◌^◌, ◌==◌, Bool, true, false, cond, not, List, [], ◌∷◌, length, take, get_or, slice_get, Option, Some, None, Ok, if◌then◌else◌, refl, ap, ◌∙◌, subst, arith}
use Rattle.std.specs.List.{filter_map, flat_map, sum_by, All, AllByRecursion, cons_option}
use Rattle.std.specs.Option.{option_map, option_map_or, unwrap_or}
use Rattle.std.specs.Str.{bytes_eq}
use Rattle.std.proofs.Math.Path.{fun_ext}
use Rattle.std.proofs.lemmas.Bool.{eqb-false, ne_eqb}
use Rattle.std.proofs.lemmas.List.Concat.{length-flat_map}
use Rattle.std.proofs.lemmas.List.Elements.{All-append, All-cons, All-filter, All-from_recursion, All-head, All-nil, All-tail}
use Rattle.std.proofs.lemmas.List.FromFn.{get_or-enumerate_from, length-enumerate_from}
use Rattle.std.proofs.lemmas.List.Sums.{sum_by-take-le, sum_by_more_le}
use Rattle.std.proofs.lemmas.Option.{get_or_from_slice_get, slice_get_within}
use Rattle.std.proofs.lemmas.Slice.Eq.{bytes_eq-Decides}
use Rattle.ds_base.specs.FirstUse.{once}
use Rattle.ds_base.specs.Reading.{text_of}
use Rattle.ds_base.specs.Texts.{place_of}
use Rattle.ds_base.proofs.TextPlaces.{place_within, text_found}
use Rattle.dwarf_types.specs.declared.graph.Graph.{Graph}
use Rattle.dwarf_types.specs.declared.graph.OutAttr.{OutAttr}
use Rattle.dwarf_types.specs.declared.graph.OutUnit.{OutUnit}
use Rattle.dwarf_types.specs.declared.graph.OutValue.{OutValue}
use Rattle.dwarf_types.specs.declared.graph.OutValue.TheVariants as values
use Rattle.dwarf_types.specs.declared.graph.Node.{Node}
use Rattle.dwarf_types.specs.declared.graph.Target.{Target}
use Rattle.dwarf_types.specs.Encode.{info_section, str_section}
use Rattle.dwarf_types.specs.Entries.{entries_of, entry_len, node_place, unit_bytes, unit_len}
use Rattle.dwarf_types.specs.Layout.{lists_place, numbered_units, places_of, table_place, text_of as text_in, text_place, texts_of, texts_of_node, unit_start}
use Rattle.dwarf_types.specs.Spelled.{AreTextBytes}
use Rattle.dwarf_types.specs.Well.{IsWell, IsWellUnit}
use Rattle.dwarf_types.specs.WellNodes.{IsAttribute, IsNode}
use Rattle.dwarf_types.specs.WellValues.{IsTarget, IsValue}
use Rattle.dwarf_types.proofs.Lengths.{length-unit}
use Rattle.accel_tables.specs.declared.which.Which.{Which}
use Rattle.accel_tables.specs.EnteredNames.{collected, entered, entry_place, rows_entered, table_in}
use Rattle.accel_tables.specs.Found.{found}
use Rattle.accel_tables.specs.Table.{table_of}
use Rattle.table_laws.specs.Entries.{IsPair, places_under}
use Rattle.table_laws.proofs.Whole.{pairs_found}

-- ---- texts

all_flat : {A B : Type 0} (P : A → Type 0) (Q : B → Type 0) (f : A → List B) → ((a : A) → P a → All Q (f a)) → (xs : List A) → All P xs → All Q (flat_map f xs)
all_flat P Q f are [] all = All-nil Q
all_flat P Q f are (x ∷ xs) all = All-append Q (f x) (flat_map f xs) (are x (All-head P x xs all)) (all_flat P Q f are xs (All-tail P x xs all))

all_once : {A : Type 0} (P : A → Type 0) (same : A → A → Bool) (xs : List A) → All P xs → All P (once same xs)
all_once P same [] all = All-nil P
all_once P same (x ∷ xs) all = All-cons P x _ (All-head P x xs all) (All-filter (λ y. not (same x y)) P (once same xs) (all_once P same xs (All-tail P x xs all)))

module _ (MayLead : Target → Type 0) where
  node_texts : (version : ℕ) (nodes : List Node) (attrs : List OutAttr) → All (IsAttribute MayLead version nodes) attrs → All AreTextBytes (filter_map (λ a. text_in a.value) attrs)
  node_texts version nodes [] all = All-nil AreTextBytes
  node_texts version nodes (a ∷ attrs) all = by a.value (All-head (IsAttribute MayLead version nodes) a attrs all).value (node_texts version nodes attrs (All-tail (IsAttribute MayLead version nodes) a attrs all))
    where
      by : (value : OutValue) → IsValue MayLead version nodes value → All AreTextBytes (filter_map (λ a. text_in a.value) attrs) → All AreTextBytes (cons_option (text_in value) (filter_map (λ a. text_in a.value) attrs))
      by (values.Text text) is rest = All-cons AreTextBytes text _ is rest
      by value is rest = rest

  unit_texts : (unit : OutUnit) → IsWellUnit MayLead unit → All AreTextBytes (flat_map texts_of_node unit.nodes)
  unit_texts unit is = all_flat (IsNode MayLead unit.version unit.nodes) AreTextBytes texts_of_node (λ node well. node_texts unit.version unit.nodes node.attrs well.attrs) unit.nodes is.each

graph_texts : (graph : Graph) → IsWell graph → All AreTextBytes (texts_of graph)
graph_texts graph well = all_once AreTextBytes bytes_eq _ (all_flat (IsWellUnit (IsTarget graph)) AreTextBytes (λ unit. flat_map texts_of_node unit.nodes) (unit_texts (IsTarget graph)) graph.units well.units)

-- what holds of all texts holds of one that has a place
one_of : (P : List ℕ → Type 0) (texts : List (List ℕ)) (t : List ℕ) (n : ℕ) → All P texts → place_of texts t ≡ Some n → P t
one_of P [] t n all at = cc
one_of P (x ∷ texts) t n all at = by (bytes_eq x t) refl (place_of texts t) (λ m there. one_of P texts t m (All-tail P x texts all) there) at
  where
    by : (first : Bool) → bytes_eq x t ≡ first → (rest : Option ℕ) → ((m : ℕ) → rest ≡ Some m → P t) → cond first (Some 0) (option_map (λ place. length x + 1 + place) rest) ≡ Some n → P t
    by true e rest on is = subst P ((bytes_eq-Decides x t).0 e) (All-head P x texts all)
    by false e None on is = cc
    by false e (Some m) on is = on m refl

without_zero : (bytes : List ℕ) → AreTextBytes bytes → AllByRecursion (λ b. 0 < b) bytes
without_zero [] are = tt
without_zero (b ∷ bytes) are = (are.0.0, without_zero bytes are.1)

-- ---- places of entries

info_long : (graph : Graph) → length (info_section graph) ≡ sum_by (λ n. unit_len n.0 n.1) (numbered_units graph)
info_long graph =
    length-flat_map (λ n. unit_bytes (places_of graph n.0 n.1) (lists_place graph n.0 n.1) (table_place graph n.0) n.1) (numbered_units graph)
    ∙ ap (λ (f : ℕ × OutUnit → ℕ). sum_by f (numbered_units graph)) (fun_ext (λ (n : ℕ × OutUnit). length-unit (places_of graph n.0 n.1) (lists_place graph n.0 n.1) (table_place graph n.0) n.1))

inside_unit : (u : ℕ) (unit : OutUnit) (k : ℕ) → node_place u unit k ≤ unit_len u unit
inside_unit u unit k = let le : sum_by entry_len (take k (entries_of u unit)) ≤ sum_by entry_len (entries_of u unit) = sum_by-take-le entry_len (entries_of u unit) k in omega (arith, le)

-- an entry stands in the information section, or at its end
entry_within : (graph : Graph) (t : Target) → entry_place graph t ≤ length (info_section graph)
entry_within graph t = by (slice_get graph.units t.unit) refl
  where
    by : (found : Option OutUnit) → slice_get graph.units t.unit ≡ found → unit_start graph t.unit + option_map_or (λ unit. node_place t.unit unit t.node) found 0 ≤ length (info_section graph)
    by None at =
        let le : unit_start graph t.unit ≤ sum_by (λ (n : ℕ × OutUnit). unit_len n.0 n.1) (numbered_units graph) = sum_by-take-le (λ (n : ℕ × OutUnit). unit_len n.0 n.1) (numbered_units graph) t.unit in
        omega (arith, le, info_long graph)
    by (Some unit) at =
        let lt : t.unit < length graph.units = slice_get_within graph.units t.unit unit at in
        let is : get_or (numbered_units graph) t.unit (0, unit) ≡ (t.unit, unit) =
        get_or-enumerate_from 0 graph.units t.unit (0, unit) lt ∙ ap (λ (n : ℕ). (n, get_or graph.units t.unit unit)) (omega arith) ∙ ap (λ (x : OutUnit). (t.unit, x)) (get_or_from_slice_get graph.units t.unit unit unit at) in
        let le : unit_start graph t.unit + unit_len (get_or (numbered_units graph) t.unit (0, unit)).0 (get_or (numbered_units graph) t.unit (0, unit)).1 ≤ sum_by (λ (n : ℕ × OutUnit). unit_len n.0 n.1) (numbered_units graph) =
        sum_by_more_le (λ (n : ℕ × OutUnit). unit_len n.0 n.1) (numbered_units graph) t.unit (0, unit) (omega (arith, lt, length-enumerate_from 0 graph.units)) in
        let own : unit_len (get_or (numbered_units graph) t.unit (0, unit)).0 (get_or (numbered_units graph) t.unit (0, unit)).1 ≡ unit_len t.unit unit = ap (λ (n : ℕ × OutUnit). unit_len n.0 n.1) is in
        omega (arith, le, own, inside_unit t.unit unit t.node, info_long graph)

-- ---- names

-- a name with a place other than 0, and an entry
pair_is : (graph : Graph) → IsWell graph → length (str_section graph) < 2 ^ 32 → length (info_section graph) < 2 ^ 32 → (name : List ℕ) (t : Target) → (text_place graph name == 0) ≡ false → IsPair (text_place graph) (str_section graph) (name, entry_place graph t)
pair_is graph well small small2 name t elsewhere = by (place_of (texts_of graph) name) refl (eqb-false (text_place graph name) 0 elsewhere)
  where
    entry : entry_place graph t < 2 ^ 32
    entry = omega (arith, entry_within graph t, small2)

    by : (o : Option ℕ) → place_of (texts_of graph) name ≡ o → (text_place graph name ≡ 0 → ⊥) → IsPair (text_place graph) (str_section graph) (name, entry_place graph t)
    by None at other = absurd (other (ap (λ (o : Option ℕ). unwrap_or o 0) at))
    by (Some n) at other =
        let place : text_place graph name ≡ n = ap (λ (o : Option ℕ). unwrap_or o 0) at in
        let bytes : All (λ (b : ℕ). 0 < b) name = All-from_recursion (λ (b : ℕ). 0 < b) name (without_zero name (one_of AreTextBytes (texts_of graph) name n (graph_texts graph well) at)) in
        record {
          spelled = ap (text_of (str_section graph)) place ∙ text_found (texts_of graph) name n bytes at;
          some = omega (arith, other);
          text_fits = omega (arith, place, small, place_within (texts_of graph) name n at);
          entry_fits = entry;
        }

pairs_are : (graph : Graph) → IsWell graph → length (str_section graph) < 2 ^ 32 → length (info_section graph) < 2 ^ 32 → (pairs : List (List ℕ × Target))
    → AllByRecursion (IsPair (text_place graph) (str_section graph)) (filter_map (λ pair. if text_place graph pair.0 == 0 then None else Some (pair.0, entry_place graph pair.1)) pairs)
pairs_are graph well small small2 [] = tt
pairs_are graph well small small2 (p ∷ pairs) = by (text_place graph p.0 == 0) refl (pairs_are graph well small small2 pairs)
  where
    by : (b : Bool) → (text_place graph p.0 == 0) ≡ b → AllByRecursion (IsPair (text_place graph) (str_section graph)) (filter_map (λ pair. if text_place graph pair.0 == 0 then None else Some (pair.0, entry_place graph pair.1)) pairs)
        → AllByRecursion (IsPair (text_place graph) (str_section graph)) (cons_option (if b then None else Some (p.0, entry_place graph p.1)) (filter_map (λ pair. if text_place graph pair.0 == 0 then None else Some (pair.0, entry_place graph pair.1)) pairs))
    by true e rest = rest
    by false e rest = (pair_is graph well small small2 p.0 p.1 e, rest)

-- ---- the law

pub graph_found : (graph : Graph) (which : Which) (name : List ℕ) → IsWell graph → 0 < length (entered graph which) → length (str_section graph) < 2 ^ 32 → length (info_section graph) < 2 ^ 32 → length (table_in graph which) < 2 ^ 32 - 1
    → found (table_in graph which) (str_section graph) name ≡ Ok (places_under name (entered graph which))
graph_found graph which name well some small small2 short =
    let written : table_in graph which ≡ table_of (rows_entered graph which) = ap (λ (b : Bool). cond b [] (table_of (rows_entered graph which))) (ne_eqb (length (entered graph which)) 0 (λ e. omega (arith, e, some))) in
    ap (λ (table : List ℕ). found table (str_section graph) name) written
    ∙ pairs_found (entered graph which) (text_place graph) (str_section graph) name some
    (All-from_recursion (IsPair (text_place graph) (str_section graph)) (entered graph which) (pairs_are graph well small small2 (collected graph which)))
    (subst (λ (table : List ℕ). length table < 2 ^ 32 - 1) written short)
