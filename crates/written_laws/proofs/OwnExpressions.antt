-- The expressions of a well graph: the base types that they name are led back, and the codes of their operations are bytes.
use Rattle.std.proofs.Common.{◌≡◌, ◌<◌, ◌+◌, ◌==◌, ◌^◌, ℕ, Bool, true, false, cond, List, [], ◌∷◌, length, map, take, slice_get, Option, Some, sym, ap, subst, ◌∙◌, append-nil, arith}
use Rattle.std.specs.List.{All, sum_by}
use Rattle.std.specs.Option.{option_map_or}
use Rattle.std.proofs.lemmas.Iterator.Adapters.{position_from-zero}
use Rattle.std.proofs.lemmas.List.Elements.{All-head, All-tail}
use Rattle.std.proofs.lemmas.List.Sums.{sum_by-take-le}
use Rattle.std.proofs.lemmas.Option.{slice_get_within}
use Rattle.dwarf_types.specs.declared.graph.Graph.{Graph}
use Rattle.dwarf_types.specs.declared.graph.Node.{Node}
use Rattle.dwarf_types.specs.declared.graph.OutUnit.{OutUnit}
use Rattle.dwarf_types.specs.declared.operands.Operands.TheVariants as operands
use Rattle.dwarf_types.specs.declared.parts.ExprPart.{ExprPart}
use Rattle.dwarf_types.specs.declared.parts.ExprPart.TheVariants as parts
use Rattle.dwarf_types.specs.declared.parts.PlainPart.{PlainPart}
use Rattle.dwarf_types.specs.declared.parts.PlainPart.TheVariants as plain
use Rattle.dwarf_types.specs.Entries.{entries_of, entry_len, header_len, node_place}
use Rattle.dwarf_types.specs.Expressions.{expression_len}
use Rattle.dwarf_types.specs.Layout.{lists_place, places_of, unit_start}
use Rattle.dwarf_types.specs.Places.{own_node}
use Rattle.dwarf_types.specs.WholeParts.{IsWhole, IsWholePart, IsWholePlainPart}
use Rattle.unit_tree.specs.Spelling.{Node as TreeNode}
use Rattle.written_laws.specs.ReadParts.{AreCodes, AreCodesOf, IsSaidAgain, LeadBack, node_in}
use Rattle.written_laws.specs.ReadUnits.{IsReadable, made_of}
use Rattle.written_laws.proofs.ExprBytes.{whole_bytes}
use Rattle.written_laws.proofs.Expressions.{said_again}
use Rattle.written_laws.proofs.OperationCodes.{code_small}
use Rattle.written_laws.proofs.Rising.{Rise, found_at, made_at, made_rise, position_mapped}

-- ---- codes

inner_codes : (nodes : List Node) (inner : List PlainPart) → All (IsWholePlainPart nodes) inner → AreCodes inner
inner_codes nodes [] all = tt
inner_codes nodes (plain.Plain bytes ∷ inner) all = (tt, inner_codes nodes inner (All-tail (IsWholePlainPart nodes) (plain.Plain bytes) inner all))
inner_codes nodes (plain.Typed code before base after ∷ inner) all =
    let w = All-head (IsWholePlainPart nodes) (plain.Typed code before base after) inner all in
    (code_small code w.row w.known, inner_codes nodes inner (All-tail (IsWholePlainPart nodes) (plain.Typed code before base after) inner all))

pub all_codes : (nodes : List Node) (expression : List ExprPart) → All (IsWholePart nodes) expression → AreCodesOf expression
all_codes nodes [] all = tt
all_codes nodes (parts.Plain bytes ∷ expression) all = (tt, all_codes nodes expression (All-tail (IsWholePart nodes) (parts.Plain bytes) expression all))
all_codes nodes (parts.Typed code before base after ∷ expression) all =
    let w = All-head (IsWholePart nodes) (parts.Typed code before base after) expression all in
    (code_small code w.row w.known, all_codes nodes expression (All-tail (IsWholePart nodes) (parts.Typed code before base after) expression all))
all_codes nodes (parts.Nested code inner ∷ expression) all =
    let w = All-head (IsWholePart nodes) (parts.Nested code inner) expression all in
    ((code_small code operands.Expression w.0, inner_codes nodes inner w.1.each), all_codes nodes expression (All-tail (IsWholePart nodes) (parts.Nested code inner) expression all))

-- ---- base types

module _ (graph : Graph) (readable : IsReadable graph) (u : ℕ) (unit : OutUnit) (at : slice_get graph.units u ≡ Some unit) where
  place_is : (k : ℕ) → own_node (places_of graph u unit) k ≡ node_place u unit k
  place_is k = ap (λ (o : Option OutUnit). option_map_or (λ unit. node_place u unit k) o 0) at

  abbrev first : ℕ
  first = unit_start graph u + header_len unit.version

  abbrev places : List ℕ
  places = map (λ e. e.1.place) (made_of graph u unit)

  found : (k : ℕ) → k < length unit.nodes → node_in graph u unit (node_place u unit k) ≡ Some k
  found k lt =
      let rise : Rise first places = subst (Rise first) (append-nil places) (made_rise (places_of graph u unit) unit.nodes unit.nodes (lists_place graph u unit) first 0 [] tt) in
      let there : slice_get places k ≡ Some (first + sum_by entry_len (take k (entries_of u unit))) =
      ap (λ (ps : List ℕ). slice_get ps k) (sym (append-nil places)) ∙ made_at (places_of graph u unit) unit.nodes unit.nodes (lists_place graph u unit) first 0 k [] lt in
      let same : first + sum_by entry_len (take k (entries_of u unit)) ≡ unit_start graph u + node_place u unit k = omega arith in
      let number : 0 + k ≡ k = omega arith in
      position_from-zero (λ (e : Option ℕ × TreeNode). e.1.place == unit_start graph u + node_place u unit k) (made_of graph u unit)
      ∙ position_mapped (λ (e : Option ℕ × TreeNode). e.1.place) (unit_start graph u + node_place u unit k) 0 (made_of graph u unit)
      ∙ found_at 0 first places k (unit_start graph u + node_place u unit k) rise (there ∙ ap (λ (p : ℕ). Some p) same) ∙ ap (λ (n : ℕ). Some n) number

  some_header : (version : ℕ) → 0 < header_len version
  some_header version = by (version == 5)
    where
      by : (b : Bool) → 0 < cond b 12 11
      by true = omega arith
      by false = omega arith

  pub lead : LeadBack unit.nodes (own_node (places_of graph u unit)) (node_in graph u unit)
  lead k w =
      let lt = slice_get_within unit.nodes k w.node w.stands in
      record {
        some = omega (arith, place_is k, some_header unit.version);
        fits = omega (arith, place_is k, sum_by-take-le entry_len (entries_of u unit) k, (readable.units u unit at).short);
        back = ap (node_in graph u unit) (place_is k) ∙ found k lt;
      }

  pub own_again : (expression : List ExprPart) → IsWhole unit.nodes expression → expression_len expression < 2 ^ 64 → IsSaidAgain (own_node (places_of graph u unit)) (node_in graph u unit) unit.version expression
  own_again expression whole short =
      said_again unit.nodes (own_node (places_of graph u unit)) (node_in graph u unit) unit.version lead expression whole (all_codes unit.nodes expression whole.each) short (whole_bytes unit.nodes (own_node (places_of graph u unit)) expression whole)
