-- The values of a unit are told.
use Rattle.std.proofs.Common.{◌≡◌, ◌<◌, ◌+◌, ◌++◌, ◌^◌, ℕ, zero, suc, true, false, List, [], ◌∷◌, length, take, slice_get, All, Option, Some, None, refl, sym, ap, subst, ◌∙◌, append_assoc, arith}
use Rattle.std.specs.List.{enumerate_from, sum_by}
use Rattle.std.specs.Prelude.{is_some}
use Rattle.std.proofs.lemmas.List.{take_at}
use Rattle.std.proofs.lemmas.List.Elements.{All-head, All-tail}
use Rattle.std.proofs.lemmas.List.Sums.{sum_by_push}
use Rattle.std.proofs.lemmas.Option.{same_Some}
use Rattle.dwarf_types.specs.declared.address.Addr.{Addr}
use Rattle.dwarf_types.specs.declared.address.Addr.TheVariants as addrs
use Rattle.dwarf_types.specs.declared.graph.Graph.{Graph}
use Rattle.dwarf_types.specs.declared.graph.Node.{Node}
use Rattle.dwarf_types.specs.declared.graph.OutAttr.{OutAttr}
use Rattle.dwarf_types.specs.declared.graph.OutLocation.{OutLocation}
use Rattle.dwarf_types.specs.declared.graph.OutUnit.{OutUnit}
use Rattle.dwarf_types.specs.declared.graph.OutValue.{OutValue}
use Rattle.dwarf_types.specs.declared.graph.OutValue.TheVariants as outs
use Rattle.dwarf_types.specs.declared.lines.OutLines.{OutLines}
use Rattle.dwarf_types.specs.declared.parts.ExprPart.{ExprPart}
use Rattle.dwarf_types.specs.Entries.{entries_of, entry_len, entry_of, node_locations_len, node_ranges_len}
use Rattle.dwarf_types.specs.Expressions.{expression_bytes, expression_len}
use Rattle.dwarf_types.specs.Layout.{lists_place, places_of, unit_start}
use Rattle.dwarf_types.specs.Lists.{location_len, locations_len, ranges_len}
use Rattle.dwarf_types.specs.Places.{ListPlaces, behind_value, own_node}
use Rattle.dwarf_types.specs.Values.{value_bytes, value_len}
use Rattle.dwarf_types.specs.Well.{IsWell, IsWellUnit}
use Rattle.dwarf_types.specs.WellNodes.{IsAttribute, IsNode, has_lines, is_lines}
use Rattle.dwarf_types.specs.WellValues.{IsLocation, IsTarget, IsValue}
use Rattle.dwarf_types.specs.WholeParts.{IsWhole}
use Rattle.list_laws.specs.Again.{Holds, IsShort, locations_place, node_at, ranges_place, read_items, read_spans}
use Rattle.list_laws.proofs.Whole.{items_found, items_placed, location_bytes_are, range_bytes_are, ranges_found, ranges_placed, short}
use Rattle.macho_read.specs.declared.image.Image.{Image}
use Rattle.range_lists.specs.Reading.{ranges_of}
use Rattle.loc_lists.specs.Reading.{location_items_of}
use Rattle.reloc_table.specs.declared.relocation.Relocs.{Relocs}
use Rattle.written_laws.specs.ReadUnits.{IsReadable, sections_of}
use Rattle.written_laws.specs.ReadValues.{raw_attrs, raw_value}
use Rattle.written_laws.proofs.Cuts.{any_at, map_at, numbered_first}
use Rattle.written_laws.proofs.ExprBytes.{whole_bytes}
use Rattle.written_laws.proofs.Expressions.{said_again}
use Rattle.written_laws.proofs.OwnExpressions.{all_codes}
use Rattle.written_laws.proofs.OwnLines.{lines_again}
use Rattle.written_laws.proofs.OwnUnit.{all_at, part_of_sum}
use Rattle.graph_laws.specs.Telling.{Around, TellsAttrs, TellsExpression, TellsList, TellsLines, TellsLocations, TellsRanges, TellsValue, around_of, base_of}
use Rattle.graph_laws.proofs.Rows.{leads, named_back, read, row}

-- an item behind others
pub item_behind : {X : Type 0} (front : List X) (x : X) (more : List X) → slice_get (front ++ x ∷ more) (length front) ≡ Some x
item_behind [] x more = refl
item_behind (y ∷ front) x more = item_behind front x more

module _ (graph : Graph) (well : IsWell graph) (readable : IsReadable graph) (image : Image) (relocs : Relocs) (none : relocs.list ≡ []) (u : ℕ) (unit : OutUnit) (at : slice_get graph.units u ≡ Some unit) (root : Node) (base : base_of root.attrs ≡ addrs.Fixed 0) where
  abbrev pub around : Around
  around = around_of (read graph readable image relocs) (row graph readable image relocs u unit at) (unit_start graph u) unit root

  well_unit : IsWellUnit (IsTarget graph) unit
  well_unit = all_at (IsWellUnit (IsTarget graph)) graph.units u unit well.units at

  -- ---- expressions

  expression : (parts : List ExprPart) → IsWhole unit.nodes parts → expression_len parts < 2 ^ 64 → TellsExpression around.node unit.version (expression_bytes (own_node (places_of graph u unit)) parts) parts
  expression parts whole fits =
      let said = said_again unit.nodes (own_node (places_of graph u unit)) around.node unit.version (named_back graph readable image relocs u unit at) parts whole (all_codes unit.nodes parts whole.each) fits (whole_bytes unit.nodes (own_node (places_of graph u unit)) parts whole) in
      record { ops = said.ops; spells = said.spells; says = said.back }

  locations : (place : ℕ) (items : List OutLocation) → All (IsLocation unit.version unit.nodes) items → All (IsShort unit.version) items → TellsLocations around (read_items unit.version (node_at graph u unit) place items) items
  locations place [] wells shorts = tt
  locations place (item ∷ items) wells shorts =
      let w = All-head (IsLocation unit.version unit.nodes) item items wells in
      let s = All-head (IsShort unit.version) item items shorts in (
        record { span = refl; expression = expression item.parts w.whole s.fits },
        locations (place + location_len unit.version item) items (All-tail (IsLocation unit.version unit.nodes) item items wells) (All-tail (IsShort unit.version) item items shorts),
      )

  -- ---- line tables

  lines_there : is_some unit.lines ≡ true → TellsLines (read graph readable image relocs) around (places_of graph u unit).lines
  lines_there some = by unit.lines refl some
    where
      by : (o : Option OutLines) → unit.lines ≡ o → is_some o ≡ true → TellsLines (read graph readable image relocs) around (places_of graph u unit).lines
      by None is some = absurd cc
      by (Some lines) is some = record { lines = lines; has = is; is = lines_again graph well readable u unit at lines is image relocs none }

  -- only the root names one
  root_lines : (k : ℕ) (node : Node) → slice_get unit.nodes k ≡ Some node → has_lines node ≡ true → is_some unit.lines ≡ true
  root_lines zero node inside has =
      let w = well_unit in
      let is_root = w.is_root in
      let here : node ≡ w.root = some_is node w.root (sym inside ∙ ap (λ (ns : List Node). slice_get ns 0) w.nodes) in
      is_root.lines ∙ sym (ap has_lines here) ∙ has
    where
      some_is : (a b : Node) → Some a ≡ Some b → a ≡ b
      some_is a b e = same_Some a b e
  root_lines (suc k) node inside has =
      let w = well_unit in
      let below : slice_get w.below k ≡ Some node = sym (ap (λ (ns : List Node). slice_get ns (suc k)) w.nodes) ∙ inside in
      absurd (differ (sym has ∙ all_at (λ (n : Node). has_lines n ≡ false) w.below k node w.no_lines below))
    where
      differ : true ≡ false → ⊥
      differ e = absurd cc

  -- ---- a value

  module _ (k : ℕ) (node : Node) (inside : slice_get unit.nodes k ≡ Some node) where
    short_value : (i : ℕ) (a : OutAttr) → slice_get node.attrs i ≡ Some a → value_len a.value < 2 ^ 28
    short_value i a there =
        let unit_short = readable.units u unit at in
        let fits = unit_short.short in
        let own = part_of_sum entry_len (entries_of u unit) k (entry_of u unit.nodes k node) (map_at (λ (n : ℕ × Node). entry_of u unit.nodes n.0 n.1) (enumerate_from 0 unit.nodes) k (k, node) (numbered_first unit.nodes k node inside)) in
        let value = part_of_sum (λ (b : OutAttr). value_len b.value) node.attrs i a there in
        omega (arith, fits, own, value)

    attribute : (i : ℕ) (a : OutAttr) → slice_get node.attrs i ≡ Some a → IsAttribute (IsTarget graph) unit.version unit.nodes a
    attribute i a there =
        let n = all_at (IsNode (IsTarget graph) unit.version unit.nodes) unit.nodes k node well_unit.each inside in
        all_at (IsAttribute (IsTarget graph) unit.version unit.nodes) node.attrs i a n.attrs there

    module _ (i : ℕ) (a : OutAttr) (there : slice_get node.attrs i ≡ Some a) where
      holds : (value : OutValue) → a.value ≡ value → Holds graph u unit k node i value
      holds value is = record { in_graph = at; in_unit = inside; attr = a; in_node = there; is = is }

      value_told : (value : OutValue) → a.value ≡ value → (next : ListPlaces) → next.ranges ≡ ranges_place graph u unit k node i → next.locations ≡ locations_place graph u unit k node i
          → TellsValue (read graph readable image relocs) around (raw_value (places_of graph u unit) next value) value
      value_told (outs.Address n) is next ranges locs = refl
      value_told (outs.Text text) is next ranges locs = refl
      value_told (outs.Number form bits) is next ranges locs = refl
      value_told (outs.Wide bytes) is next ranges locs = refl
      value_told (outs.Block form bytes) is next ranges locs = refl
      value_told (outs.Expr parts) is next ranges locs =
          let w = attribute i a there in
          let whole : IsWhole unit.nodes parts = subst (IsValue (IsTarget graph) unit.version unit.nodes) is w.value in
          let small : value_len (outs.Expr parts) < 2 ^ 28 = subst (λ (v : OutValue). value_len v < 2 ^ 28) is (short_value i a there) in
          (expression_bytes (own_node (places_of graph u unit)) parts, refl, expression parts whole (omega (arith, small)))
      value_told (outs.Ref target) is next ranges locs =
          let w = attribute i a there in
          ((places_of graph u unit).start target.unit + (places_of graph u unit).node target, refl, leads graph readable image relocs target (subst (IsValue (IsTarget graph) unit.version unit.nodes) is w.value))
      value_told (outs.Ranges spans) is next ranges locs =
          let place = ranges_place graph u unit k node i in
          let stands : TellsRanges (read graph readable image relocs) around place spans = λ addr_base.
          ranges_found (sections_of graph) relocs image place unit.version around.base relocs addr_base none (read_spans spans) (range_bytes_are graph well u unit k node i image relocs relocs addr_base none)
          (ap (λ (b : Addr). ranges_of (sections_of graph) relocs image place unit.version b relocs addr_base) base ∙ ranges_placed graph well u unit k node i image relocs relocs addr_base none spans (holds (outs.Ranges spans) is)) in
          (next.ranges, refl, subst (λ (p : ℕ). TellsRanges (read graph readable image relocs) around p spans) (sym ranges) stands)
      value_told (outs.Locations items) is next ranges locs =
          let place = locations_place graph u unit k node i in
          let w = attribute i a there in
          let told : (addr_base : ℕ) → TellsList (read graph readable image relocs) around place addr_base items = λ addr_base. record {
            items = read_items unit.version (node_at graph u unit) place items;
            stands = items_found (sections_of graph) relocs image place unit.version around.base relocs addr_base none (read_items unit.version (node_at graph u unit) place items) (location_bytes_are graph well u unit k node i image relocs relocs addr_base none)
                (ap (λ (b : Addr). location_items_of (sections_of graph) relocs image place unit.version b relocs addr_base) base
                ∙ items_placed graph well u unit k node i image relocs relocs addr_base none readable items (holds (outs.Locations items) is));
            each = locations place items (subst (IsValue (IsTarget graph) unit.version unit.nodes) is w.value) (short graph well u unit k node i image relocs relocs addr_base none readable items (holds (outs.Locations items) is));
          } in
          (next.locations, refl, subst (λ (p : ℕ). (addr_base : ℕ) → TellsList (read graph readable image relocs) around p addr_base items) (sym locs) told)
      value_told outs.Lines is next ranges locs = (
        (places_of graph u unit).lines,
        refl,
        lines_there (root_lines k node inside (any_at (λ (b : OutAttr). is_lines b.value) node.attrs i a there (ap is_lines is))),
      )

    -- ---- the attributes of a node

    pub attrs_told : (front attrs : List OutAttr) → node.attrs ≡ front ++ attrs → (next : ListPlaces) (place : ℕ)
        → next.ranges ≡ (lists_place graph u unit).ranges + (sum_by (node_ranges_len unit.version) (take k unit.nodes) + sum_by (λ a. ranges_len unit.version a.value) front)
        → next.locations ≡ (lists_place graph u unit).locations + (sum_by (node_locations_len unit.version) (take k unit.nodes) + sum_by (λ a. locations_len unit.version a.value) front)
        → TellsAttrs (read graph readable image relocs) around (raw_attrs (places_of graph u unit) next place attrs) attrs
    attrs_told front [] is next place ranges locs = tt
    attrs_told front (a ∷ attrs) is next place ranges locs =
        let there : slice_get node.attrs (length front) ≡ Some a = ap (λ (xs : List OutAttr). slice_get xs (length front)) is ∙ item_behind front a attrs in
        let cut : take (length front) node.attrs ≡ front = ap (take (length front)) is ∙ take_at front (a ∷ attrs) (length front) refl in
        let spans = ap (sum_by (λ (b : OutAttr). ranges_len unit.version b.value)) cut in
        let items = ap (sum_by (λ (b : OutAttr). locations_len unit.version b.value)) cut in
        let more_spans = sum_by_push (λ (b : OutAttr). ranges_len unit.version b.value) front a in
        let more_items = sum_by_push (λ (b : OutAttr). locations_len unit.version b.value) front a in (
          refl,
          value_told (length front) a there a.value refl next (omega (arith, ranges, spans)) (omega (arith, locs, items)),
          attrs_told (front ++ a ∷ []) attrs (is ∙ sym (append_assoc front (a ∷ []) attrs)) (behind_value unit.version next a.value) (place + length (value_bytes (places_of graph u unit) next a.value)) (omega (arith, ranges, more_spans)) (omega (arith, locs, more_items)),
        )
