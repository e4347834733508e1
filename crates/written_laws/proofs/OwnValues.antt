-- What the values of a unit name is there.
use Rattle.std.proofs.Common.{◌≡◌, ◌<◌, ◌≤◌, ◌+◌, ◌*◌, ◌==◌, ◌||◌, ◌^◌, ℕ, Bool, true, false, List, [], ◌∷◌, length, cond, filter_map, if◌then◌else◌, Option, Some, refl, sym, ap, subst, arith}
use Rattle.std.specs.List.{All, flat_map, list_any, sum_by}
use Rattle.std.specs.Option.{unwrap_or}
use Rattle.std.specs.Str.{bytes_eq}
use Rattle.std.proofs.lemmas.List.Elements.{All-cons, All-head, All-nil, All-tail}
use Rattle.std.proofs.lemmas.List.Sums.{sum_by-cons}
use Rattle.std.proofs.lemmas.Slice.Eq.{bytes_eq-Decides}
use Rattle.ds_base.specs.DwarfNumbers.{DW_AT_stmt_list}
use Rattle.ds_base.specs.Reading.{text_of as text_at}
use Rattle.ds_base.specs.Texts.{place_of, section_of}
use Rattle.ds_base.proofs.TextPlaces.{place_within, text_found}
use Rattle.dwarf_types.specs.declared.graph.Graph.{Graph}
use Rattle.dwarf_types.specs.declared.graph.Node.{Node}
use Rattle.dwarf_types.specs.declared.graph.OutAttr.{OutAttr}
use Rattle.dwarf_types.specs.declared.graph.OutUnit.{OutUnit}
use Rattle.dwarf_types.specs.declared.graph.OutValue.{OutValue}
use Rattle.dwarf_types.specs.declared.graph.OutValue.TheVariants as outs
use Rattle.dwarf_types.specs.declared.graph.Target.{Target}
use Rattle.dwarf_types.specs.Entries.{behind_node, node_locations_len, node_ranges_len}
use Rattle.dwarf_types.specs.Layout.{places_of, text_of, text_place, texts_of, texts_of_node}
use Rattle.dwarf_types.specs.Lists.{end_len, kind_len, location_len, locations_len, ranges_len}
use Rattle.dwarf_types.specs.Places.{ListPlaces, Places, behind_value, own_node, ref_place}
use Rattle.dwarf_types.specs.SectionBytes.{SectionBytes, location_bytes, range_bytes}
use Rattle.dwarf_types.specs.Spelled.{AreTextBytes}
use Rattle.dwarf_types.specs.Values.{value_len, values_len}
use Rattle.dwarf_types.specs.WellNodes.{IsAttribute, IsNode, is_lines}
use Rattle.dwarf_types.specs.WellValues.{IsTarget, IsValue, MayStand}
use Rattle.written_laws.proofs.ExprBytes.{whole_bytes}
use Rattle.dwarf_types.proofs.Lengths.{length-expression}
use Rattle.written_laws.specs.ReadEntries.{AllThere}
use Rattle.written_laws.specs.ReadUnits.{sections_of}
use Rattle.written_laws.specs.ReadValues.{AreThere, IsThere}
use Rattle.written_laws.proofs.Cuts.{any_back, any_front, any_rest}

-- ---- small facts

some_end : (version : ℕ) → 0 < end_len version
some_end version = by (version == 5)
  where
    by : (b : Bool) → 0 < cond b 1 16
    by true = omega arith
    by false = omega arith

some_more : (a b : ℕ) → 0 < b → 0 < a + b
some_more a b lt = omega (arith, lt)

all_some : (text : List ℕ) → AreTextBytes text → All (λ b. 0 < b) text
all_some [] are = All-nil (λ (b : ℕ). 0 < b)
all_some (b ∷ text) are = All-cons (λ (c : ℕ). 0 < c) b text are.0.0 (all_some text are.1)

pub itself : (text : List ℕ) → bytes_eq text text ≡ true
itself text = (bytes_eq-Decides text text).1 refl

-- a list, if there is one, stands within its section
abbrev pub Fits : ℕ → ℕ → ℕ → Type 0
Fits place len size = 0 < len → place + len ≤ size

fits_first : (place a b len size : ℕ) → len ≡ a + b → Fits place len size → 0 < a → place < size
fits_first place a b len size is fits some = omega (arith, fits (omega (arith, is, some)), is, some)

fits_rest : (place a b len size : ℕ) → len ≡ a + b → Fits place len size → Fits (place + a) b size
fits_rest place a b len size is fits = λ some. omega (arith, fits (omega (arith, is, some)), is)

fits_part : (place a b len size : ℕ) → len ≡ a + b → Fits place len size → Fits place a size
fits_part place a b len size is fits = λ some. omega (arith, fits (omega (arith, is, some)), is)

module _ (graph : Graph) (u : ℕ) (unit : OutUnit) where
  abbrev places : Places
  places = places_of graph u unit

  abbrev sections : SectionBytes
  sections = sections_of graph

  -- a text has a place
  abbrev pub IsPlaced : List ℕ → Type 0
  IsPlaced text = (n : ℕ) × (place_of (texts_of graph) text ≡ Some n)

  -- what is needed of the sections
  pub record IsRoomy : Type 0 where
    pub texts : length (section_of (texts_of graph)) < 2 ^ 32
    pub ranges : length (range_bytes (sections_of graph) unit.version) < 2 ^ 32
    pub locations : length (location_bytes (sections_of graph) unit.version) < 2 ^ 32
    pub targets : (target : Target) → IsTarget graph target → (places_of graph u unit).start target.unit + (places_of graph u unit).node target < 2 ^ 32

  -- the line table of an attribute that names one is there
  abbrev pub NamesLines : ℕ → OutValue → Type 0
  NamesLines name value = is_lines value ≡ true → (name ≡ DW_AT_stmt_list) × ((places_of graph u unit).lines < 2 ^ 32) × ((places_of graph u unit).lines < length (sections_of graph).line)

  abbrev pub LinesNamed : List OutAttr → Type 0
  LinesNamed [] = Unit {0}
  LinesNamed (a ∷ attrs) = NamesLines a.name a.value × LinesNamed attrs

  abbrev texts_in : List OutAttr → List (List ℕ)
  texts_in attrs = filter_map (λ a. text_of a.value) attrs

  abbrev pub AreKnown : List (List ℕ) → Type 0
  AreKnown texts = (text : List ℕ) → list_any (λ x. bytes_eq x text) texts ≡ true → IsPlaced text

  abbrev pub AllNamed : List Node → Type 0
  AllNamed [] = Unit {0}
  AllNamed (n ∷ ns) = LinesNamed n.attrs × AllNamed ns

  abbrev pub AllShort : List Node → Type 0
  AllShort [] = Unit {0}
  AllShort (n ∷ ns) = (values_len n.attrs < 2 ^ 28) × AllShort ns

  module _ (roomy : IsRoomy) where
    ref_small : (target : Target) → IsTarget graph target → ref_place places target < 2 ^ 32
    ref_small target is = by (target.unit == u)
      where
        by : (b : Bool) → (if b then places.node target else places.start target.unit + places.node target) < 2 ^ 32
        by true = omega (arith, roomy.targets target is)
        by false = roomy.targets target is

    text_there : (text : List ℕ) → AreTextBytes text → IsPlaced text → (places.text text < 2 ^ 32) × (text_at sections.strings (places.text text) ≡ Some text)
    text_there text are p =
        let is : p.0 ≡ text_place graph text = sym (ap (λ (o : Option ℕ). unwrap_or o 0) p.1) in
        let within = place_within (texts_of graph) text p.0 p.1 in
        (omega (arith, within, roomy.texts, is), subst (λ (n : ℕ). text_at (section_of (texts_of graph)) n ≡ Some text) is (text_found (texts_of graph) text p.0 (all_some text are) p.1))

    there_by : (next : ListPlaces) (name : ℕ) (value : OutValue) → IsValue (IsTarget graph) unit.version unit.nodes value → MayStand name value
        → ((text : List ℕ) → value ≡ outs.Text text → IsPlaced text) → (0 < ranges_len unit.version value → next.ranges < length (range_bytes sections unit.version))
        → (0 < locations_len unit.version value → next.locations < length (location_bytes sections unit.version)) → value_len value < 2 ^ 28 → NamesLines name value → IsThere places sections next name value
    there_by next name (outs.Address n) is may known ranges locations short lines = is
    there_by next name (outs.Text text) is may known ranges locations short lines = text_there text is (known text refl)
    there_by next name (outs.Number form bits) is may known ranges locations short lines = is
    there_by next name (outs.Wide b) is may known ranges locations short lines = is
    there_by next name (outs.Block form b) is may known ranges locations short lines = is
    there_by next name (outs.Expr parts) is may known ranges locations short lines =
        (omega (arith, short), length-expression (own_node places) parts, whole_bytes unit.nodes (own_node places) parts is)
    there_by next name (outs.Ref target) is may known ranges locations short lines = ref_small target is
    there_by next name (outs.Ranges spans) is may known ranges locations short lines =
        let within = ranges (some_more ((kind_len unit.version + 16) * length spans) (end_len unit.version) (some_end unit.version)) in
        (omega (arith, within, roomy.ranges), may, within)
    there_by next name (outs.Locations items) is may known ranges locations short lines =
        let within = locations (some_more (sum_by (location_len unit.version) items) (end_len unit.version) (some_end unit.version)) in
        (omega (arith, within, roomy.locations), may, within)
    there_by next name outs.Lines is may known ranges locations short lines =
        let l = lines refl in
        (l.1, l.0, l.2)

    -- ---- the attributes of a node

    more_texts : (a : OutAttr) (attrs : List OutAttr) (text : List ℕ) → list_any (λ x. bytes_eq x text) (texts_in attrs) ≡ true → list_any (λ x. bytes_eq x text) (texts_in (a ∷ attrs)) ≡ true
    more_texts a attrs text e = by a.value
      where
        by : (value : OutValue) → list_any (λ x. bytes_eq x text) (filter_map (λ b. text_of b.value) (record { name = a.name; value = value } ∷ attrs)) ≡ true
        by (outs.Text t) = any_rest (λ (x : List ℕ). bytes_eq x text) t (texts_in attrs) e
        by value = e

    first_text : (a : OutAttr) (attrs : List OutAttr) (text : List ℕ) → a.value ≡ outs.Text text → list_any (λ x. bytes_eq x text) (texts_in (a ∷ attrs)) ≡ true
    first_text a attrs text is =
        let here : list_any (λ x. bytes_eq x text) (filter_map (λ b. text_of b.value) (record { name = a.name; value = outs.Text text } ∷ attrs)) ≡ true = ap (λ (b : Bool). b || list_any (λ (x : List ℕ). bytes_eq x text) (texts_in attrs)) (itself text) in
        subst (λ (v : OutValue). list_any (λ x. bytes_eq x text) (filter_map (λ b. text_of b.value) (record { name = a.name; value = v } ∷ attrs)) ≡ true) (sym is) here

    pub attrs_there : (next : ListPlaces) (attrs : List OutAttr) → All (IsAttribute (IsTarget graph) unit.version unit.nodes) attrs → AreKnown (texts_in attrs)
        → Fits next.ranges (sum_by (λ a. ranges_len unit.version a.value) attrs) (length (range_bytes sections unit.version))
        → Fits next.locations (sum_by (λ a. locations_len unit.version a.value) attrs) (length (location_bytes sections unit.version))
        → values_len attrs < 2 ^ 28 → LinesNamed attrs → AreThere places sections next attrs
    attrs_there next [] all known ranges locations short lines = tt
    attrs_there next (a ∷ attrs) all known ranges locations short lines =
        let w = All-head (IsAttribute (IsTarget graph) unit.version unit.nodes) a attrs all in
        let spans = sum_by-cons (λ (b : OutAttr). ranges_len unit.version b.value) a attrs in
        let items = sum_by-cons (λ (b : OutAttr). locations_len unit.version b.value) a attrs in
        let len = sum_by-cons (λ (b : OutAttr). value_len b.value) a attrs in (
          there_by next a.name a.value w.value w.stands (λ text is. known text (first_text a attrs text is))
              (fits_first next.ranges (ranges_len unit.version a.value) (sum_by (λ (b : OutAttr). ranges_len unit.version b.value) attrs) (sum_by (λ (b : OutAttr). ranges_len unit.version b.value) (a ∷ attrs)) (length (range_bytes (sections_of graph) unit.version)) spans ranges)
              (fits_first next.locations (locations_len unit.version a.value) (sum_by (λ (b : OutAttr). locations_len unit.version b.value) attrs) (sum_by (λ (b : OutAttr). locations_len unit.version b.value) (a ∷ attrs)) (length (location_bytes (sections_of graph) unit.version)) items locations)
              (omega (arith, short, len)) lines.0,
          attrs_there (behind_value unit.version next a.value) attrs (All-tail (IsAttribute (IsTarget graph) unit.version unit.nodes) a attrs all) (λ text e. known text (more_texts a attrs text e))
              (fits_rest next.ranges (ranges_len unit.version a.value) (sum_by (λ (b : OutAttr). ranges_len unit.version b.value) attrs) (sum_by (λ (b : OutAttr). ranges_len unit.version b.value) (a ∷ attrs)) (length (range_bytes (sections_of graph) unit.version)) spans ranges)
              (fits_rest next.locations (locations_len unit.version a.value) (sum_by (λ (b : OutAttr). locations_len unit.version b.value) attrs) (sum_by (λ (b : OutAttr). locations_len unit.version b.value) (a ∷ attrs)) (length (location_bytes (sections_of graph) unit.version)) items locations)
              (omega (arith, short, len)) lines.1,
        )

    -- ---- the nodes of the unit

    pub nodes_there : (next : ListPlaces) (ns : List Node) → All (IsNode (IsTarget graph) unit.version unit.nodes) ns → AreKnown (flat_map texts_of_node ns)
        → Fits next.ranges (sum_by (node_ranges_len unit.version) ns) (length (range_bytes sections unit.version))
        → Fits next.locations (sum_by (node_locations_len unit.version) ns) (length (location_bytes sections unit.version))
        → AllShort ns → AllNamed ns → AllThere places sections next ns
    nodes_there next [] all known ranges locations short lines = tt
    nodes_there next (n ∷ ns) all known ranges locations short lines =
        let w = All-head (IsNode (IsTarget graph) unit.version unit.nodes) n ns all in
        let spans = sum_by-cons (node_ranges_len unit.version) n ns in
        let items = sum_by-cons (node_locations_len unit.version) n ns in (
          attrs_there next n.attrs w.attrs (λ text e. known text (any_front (λ (x : List ℕ). bytes_eq x text) (texts_of_node n) (flat_map texts_of_node ns) e))
              (fits_part next.ranges (node_ranges_len unit.version n) (sum_by (node_ranges_len unit.version) ns) (sum_by (node_ranges_len unit.version) (n ∷ ns)) (length (range_bytes (sections_of graph) unit.version)) spans ranges)
              (fits_part next.locations (node_locations_len unit.version n) (sum_by (node_locations_len unit.version) ns) (sum_by (node_locations_len unit.version) (n ∷ ns)) (length (location_bytes (sections_of graph) unit.version)) items locations)
              short.0 lines.0,
          nodes_there (behind_node unit.version next n) ns (All-tail (IsNode (IsTarget graph) unit.version unit.nodes) n ns all) (λ text e. known text (any_back (λ (x : List ℕ). bytes_eq x text) (texts_of_node n) (flat_map texts_of_node ns) e))
              (fits_rest next.ranges (node_ranges_len unit.version n) (sum_by (node_ranges_len unit.version) ns) (sum_by (node_ranges_len unit.version) (n ∷ ns)) (length (range_bytes (sections_of graph) unit.version)) spans ranges)
              (fits_rest next.locations (node_locations_len unit.version n) (sum_by (node_locations_len unit.version) ns) (sum_by (node_locations_len unit.version) (n ∷ ns)) (length (location_bytes (sections_of graph) unit.version)) items locations)
              short.1 lines.1,
        )
