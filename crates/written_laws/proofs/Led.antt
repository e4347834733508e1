-- The section offsets of a graph's units lead to tables and lists.
use Rattle.std.proofs.Common.{◌≡◌, ◌+◌, ◌==◌, ◌&&◌, ◌||◌, ◌++◌, not, ℕ, suc, Bool, true, false, List, [], ◌∷◌, length, slice_get, IsTrue, All, Option, Some, None, Ok, if◌then◌else◌, refl, sym, ap, subst, ◌∙◌, arith}
use Rattle.std.specs.List.{list_any}
use Rattle.std.specs.Option.{option_map}
use Rattle.std.specs.Prelude.{is_none}
use Rattle.std.proofs.lemmas.Bool.{eqb-true, or_parts}
use Rattle.std.proofs.lemmas.List.Elements.{All-cons, All-head, All-nil, All-tail}
use Rattle.std.proofs.lemmas.List.Folds.{list_any-append}
use Rattle.ds_base.specs.DwarfNumbers.{DW_AT_ranges, DW_AT_stmt_list}
use Rattle.dwarf_types.specs.declared.entry.RawAttr.{RawAttr}
use Rattle.dwarf_types.specs.declared.entry.RawEntry.{RawEntry}
use Rattle.dwarf_types.specs.declared.graph.Graph.{Graph}
use Rattle.dwarf_types.specs.declared.graph.Node.{Node}
use Rattle.dwarf_types.specs.declared.graph.OutAttr.{OutAttr}
use Rattle.dwarf_types.specs.declared.graph.OutUnit.{OutUnit}
use Rattle.dwarf_types.specs.declared.graph.OutValue.{OutValue}
use Rattle.dwarf_types.specs.declared.graph.OutValue.TheVariants as outs
use Rattle.dwarf_types.specs.Entries.{behind_node, header_len, lists_ended}
use Rattle.dwarf_types.specs.Forms.{form_of}
use Rattle.dwarf_types.specs.Layout.{lists_place, places_of, unit_start}
use Rattle.dwarf_types.specs.Places.{ListPlaces, Places, behind_value}
use Rattle.dwarf_types.specs.Values.{value_bytes}
use Rattle.dwarf_types.specs.Well.{IsWell, IsWellUnit}
use Rattle.dwarf_types.specs.WellNodes.{IsAttribute, IsNode, IsPreorderParent, has_lines, is_lines}
use Rattle.dwarf_types.specs.WellRoots.{names_lines_first}
use Rattle.dwarf_types.specs.WellValues.{IsTarget, MayStand, has_locations}
use Rattle.dwarf_types.proofs.WellBytes.{abbrev_bytes, info_bytes}
use Rattle.unit_tree.specs.declared.meaning.Meaning.TheVariants as meanings
use Rattle.unit_tree.specs.Attribute.{has_attr, names_lines}
use Rattle.unit_tree.specs.Led.{AreEntriesLed, AreLed, IsValueLed, leads_somewhere}
use Rattle.unit_tree.specs.Meaning.{meaning_of, table_of}
use Rattle.unit_tree.specs.Unit.{written_units_of}
use Rattle.unit_tree.proofs.Written.{is_written}
use Rattle.written_laws.specs.ReadEntries.{head_bytes, made, made_from}
use Rattle.written_laws.specs.ReadUnits.{IsReadable, entries_read, made_of, numbered_from, read_units, sections_of}
use Rattle.written_laws.specs.ReadValues.{raw_attr, raw_attrs, raw_value}
use Rattle.written_laws.proofs.ReadAgain.{units_again}

-- ---- a value

lists_lead : (lines : Bool) (name : ℕ) → IsTrue (has_locations name) → leads_somewhere lines (table_of name) ≡ true
unfolding table_of
lists_lead lines name has = by (name == DW_AT_stmt_list) refl (name == DW_AT_ranges) (has_locations name) has
  where
    by : (first : Bool) → (name == DW_AT_stmt_list) ≡ first → (ranges lists : Bool) → lists ≡ true
        → leads_somewhere lines (if first then meanings.LineTable else if ranges then meanings.RangeList else if lists then meanings.LocationList else meanings.Other) ≡ true
    by true is ranges lists e = absurd (none (subst (λ (n : ℕ). has_locations n ≡ true) (eqb-true name DW_AT_stmt_list is) has))
      where
        none : has_locations DW_AT_stmt_list ≡ true → ⊥
        none e = absurd cc
    by false is true lists e = refl
    by false is false true e = refl
    by false is false false e = absurd cc

value_led : (places : Places) (next : ListPlaces) (lines : Bool) (name : ℕ) (value : OutValue) → MayStand name value → (is_lines value ≡ true → (lines ≡ true) × (name ≡ DW_AT_stmt_list))
    → IsValueLed lines (meaning_of (form_of places.unit value) name) (raw_value places next value)
unfolding meaning_of table_of
value_led places next lines name (outs.Address n) may named = tt
value_led places next lines name (outs.Text text) may named = tt
value_led places next lines name (outs.Number form bits) may named = tt
value_led places next lines name (outs.Wide bytes) may named = tt
value_led places next lines name (outs.Block form bytes) may named = tt
value_led places next lines name (outs.Expr parts) may named = tt
value_led places next lines name (outs.Ref target) may named = tt
value_led places next lines name (outs.Ranges spans) may named = rw may refl
value_led places next lines name (outs.Locations items) may named = lists_lead lines name may
value_led places next lines name outs.Lines may named = let n = named refl in rw n.1 n.0

-- ---- attributes

abbrev AllStand : List OutAttr → Type 0
AllStand = All (λ a. MayStand a.name a.value)

-- none of them names a line table
plain_led : (places : Places) (next : ListPlaces) (place : ℕ) (root : Bool) (before : List RawAttr) (attrs : List OutAttr) → AllStand attrs → list_any (λ a. is_lines a.value) attrs ≡ false → AreLed root before (raw_attrs places next place attrs)
plain_led places next place root before [] stand none = tt
plain_led places next place root before (a ∷ attrs) stand none =
    let P : OutAttr → Type 0 = λ b. MayStand b.name b.value in
    let p = or_parts (is_lines a.value) (list_any (λ b. is_lines b.value) attrs) none in (
      value_led places next (names_lines root before) a.name a.value (All-head P a attrs stand) (λ is. absurd (differ (sym is ∙ p.0))),
      plain_led places (behind_value places.version next a.value) (place + length (value_bytes places next a.value)) root (before ++ raw_attr places next place a ∷ []) attrs (All-tail P a attrs stand) p.1,
    )
  where
    differ : true ≡ false → ⊥
    differ e = absurd cc

-- the first of its name does
root_led : (places : Places) (next : ListPlaces) (place : ℕ) (before : List RawAttr) (attrs : List OutAttr) → AllStand attrs → names_lines_first attrs ≡ true → has_attr DW_AT_stmt_list before ≡ false → AreLed true before (raw_attrs places next place attrs)
root_led places next place before [] stand first none = tt
root_led places next place before (a ∷ attrs) stand first none =
    by (a.name == DW_AT_stmt_list) refl first (root_led places (behind_value places.version next a.value) (place + length (value_bytes places next a.value)) (before ++ raw_attr places next place a ∷ []) attrs rest)
  where
    own : MayStand a.name a.value
    own = All-head (λ (b : OutAttr). MayStand b.name b.value) a attrs stand

    rest : AllStand attrs
    rest = All-tail (λ (b : OutAttr). MayStand b.name b.value) a attrs stand

    not_true : (b : Bool) → not b ≡ true → b ≡ false
    not_true true e = sym e
    not_true false e = refl

    both : (b c : Bool) → (b && c) ≡ true → (b ≡ true) × (c ≡ true)
    both true c e = (refl, e)
    both false c e = absurd cc

    differ : true ≡ false → ⊥
    differ e = absurd cc

    by : (b : Bool) → (a.name == DW_AT_stmt_list) ≡ b → (if b then not (list_any (λ x. is_lines x.value) attrs) else (not (is_lines a.value) && names_lines_first attrs)) ≡ true
        → (names_lines_first attrs ≡ true → has_attr DW_AT_stmt_list (before ++ raw_attr places next place a ∷ []) ≡ false
        → AreLed true (before ++ raw_attr places next place a ∷ []) (raw_attrs places (behind_value places.version next a.value) (place + length (value_bytes places next a.value)) attrs))
        → AreLed true before (raw_attrs places next place (a ∷ attrs))
    by true name e more = (
      value_led places next (names_lines true before) a.name a.value own (λ is. (ap not none, eqb-true a.name DW_AT_stmt_list name)),
      plain_led places (behind_value places.version next a.value) (place + length (value_bytes places next a.value)) true (before ++ raw_attr places next place a ∷ []) attrs rest (not_true (list_any (λ x. is_lines x.value) attrs) e),
    )
    by false name e more =
        let p = both (not (is_lines a.value)) (names_lines_first attrs) e in
        let still : has_attr DW_AT_stmt_list (before ++ raw_attr places next place a ∷ []) ≡ false =
        list_any-append (λ (x : RawAttr). x.name == DW_AT_stmt_list) before (raw_attr places next place a ∷ [])
        ∙ ap (λ (b : Bool). b || (a.name == DW_AT_stmt_list || false)) none ∙ ap (λ (b : Bool). b || false) name in (
          value_led places next (names_lines true before) a.name a.value own (λ is. absurd (differ (sym is ∙ not_true (is_lines a.value) p.0))),
          more p.1 still,
        )

-- ---- nodes and units

-- what a node without a parent keeps to, and what one with a parent
abbrev IsLedNode : Node → Option ℕ → Type 0
IsLedNode node None = AllStand node.attrs × (names_lines_first node.attrs ≡ true)
IsLedNode node (Some p) = AllStand node.attrs × (has_lines node ≡ false)

abbrev AreLedNodes : List Node → Type 0
AreLedNodes [] = Unit {0}
AreLedNodes (n ∷ ns) = IsLedNode n n.parent × AreLedNodes ns

both_led : (xs ys : List RawEntry) → AreEntriesLed xs → AreEntriesLed ys → AreEntriesLed (xs ++ ys)
both_led [] ys a b = b
both_led (x ∷ xs) ys a b = (a.0, both_led xs ys a.1 b)

nodes_led : (places : Places) (nodes : List Node) (next : ListPlaces) (place k u first : ℕ) (ns : List Node) → AreLedNodes ns → AreEntriesLed (numbered_from u first (made_from places nodes next place k ns))
nodes_led places nodes next place k u first [] led = tt
nodes_led places nodes next place k u first (n ∷ ns) led =
    (one n.parent led.0, nodes_led places nodes (behind_node places.version next n) (place + length (head_bytes places nodes next k n) + lists_ended nodes k) (k + 1) u first ns led.1)
  where
    one : (parent : Option ℕ) → IsLedNode n parent → AreLed (is_none (option_map (λ p. first + p) parent)) [] (made places nodes next place k n).attrs
    one None is = root_led places next _ [] n.attrs is.0 is.1 refl
    one (Some p) is = plain_led places next _ false [] n.attrs is.0 is.1

module _ (graph : Graph) (well : IsWell graph) where
  stand : (unit : OutUnit) (node : Node) → IsNode (IsTarget graph) unit.version unit.nodes node → AllStand node.attrs
  stand unit node is = all node.attrs is.attrs
    where
      all : (attrs : List OutAttr) → All (IsAttribute (IsTarget graph) unit.version unit.nodes) attrs → AllStand attrs
      all [] is = All-nil (λ (b : OutAttr). MayStand b.name b.value)
      all (a ∷ attrs) is =
          let w = All-head (IsAttribute (IsTarget graph) unit.version unit.nodes) a attrs is in
          All-cons (λ (b : OutAttr). MayStand b.name b.value) a attrs w.stands (all attrs (All-tail (IsAttribute (IsTarget graph) unit.version unit.nodes) a attrs is))

  -- those below the root have parents
  below_led : (unit : OutUnit) (k : ℕ) (ns : List Node) → ((i : ℕ) (node : Node) → slice_get ns i ≡ Some node → IsPreorderParent unit.nodes (k + i) node.parent) → All (λ node. has_lines node ≡ false) ns
      → All (IsNode (IsTarget graph) unit.version unit.nodes) ns → AreLedNodes ns
  below_led unit k [] parents none each = tt
  below_led unit k (n ∷ ns) parents none each =
      let p = parents 0 n refl in
      let own : AllStand n.attrs × (has_lines n ≡ false) = (stand unit n (All-head (IsNode (IsTarget graph) unit.version unit.nodes) n ns each), All-head (λ (m : Node). has_lines m ≡ false) n ns none) in (
        subst (IsLedNode n) (sym p.is) own,
        below_led unit (k + 1) ns (λ i node at. let next : k + suc i ≡ k + 1 + i = omega arith in subst (λ (j : ℕ). IsPreorderParent unit.nodes j node.parent) next (parents (suc i) node at)) (All-tail (λ (m : Node). has_lines m ≡ false) n ns none)
            (All-tail (IsNode (IsTarget graph) unit.version unit.nodes) n ns each),
      )

  unit_led : (unit : OutUnit) → IsWellUnit (IsTarget graph) unit → AreLedNodes unit.nodes
  unit_led unit w =
      let is_root = w.is_root in
      let each = subst (All (IsNode (IsTarget graph) unit.version unit.nodes)) w.nodes w.each in
      let root : AllStand w.root.attrs × (names_lines_first w.root.attrs ≡ true) = (stand unit w.root (All-head (IsNode (IsTarget graph) unit.version unit.nodes) w.root w.below each), is_root.stmt_list) in
      subst AreLedNodes (sym w.nodes) (
        subst (IsLedNode w.root) (sym is_root.parent) root,
        below_led unit 0 w.below (λ i node at. let same : i ≡ 0 + i = omega arith in subst (λ (j : ℕ). IsPreorderParent unit.nodes j node.parent) same (w.preorder i node at)) w.no_lines (All-tail (IsNode (IsTarget graph) unit.version unit.nodes) w.root w.below each),
      )

  entries_led : (u first : ℕ) (units : List OutUnit) → All (IsWellUnit (IsTarget graph)) units → AreEntriesLed (entries_read graph u first units)
  entries_led u first [] all = tt
  entries_led u first (unit ∷ units) all =
      both_led (numbered_from u first (made_of graph u unit)) (entries_read graph (u + 1) (first + length unit.nodes) units)
      (nodes_led (places_of graph u unit) unit.nodes (lists_place graph u unit) (unit_start graph u + header_len unit.version) 0 u first unit.nodes (unit_led unit (All-head (IsWellUnit (IsTarget graph)) unit units all)))
      (entries_led (u + 1) (first + length unit.nodes) units (All-tail (IsWellUnit (IsTarget graph)) unit units all))

  pub written_again : IsReadable graph → written_units_of (sections_of graph) ≡ Ok (read_units graph)
  written_again readable = is_written (sections_of graph) (read_units graph) (units_again graph well readable (info_bytes graph well) (abbrev_bytes graph well)) (entries_led 0 0 graph.units well.units)
