-- The units of a well graph, one after the other, as the units of an object.
use Rattle.std.proofs.Common.{◌≡◌, ◌<◌, ◌+◌, ◌-◌, ◌^◌, ◌++◌, ℕ, suc, true, List, [], ◌∷◌, length, slice_get, Option, Some, None, refl, sym, ap, ap₂, subst, ◌∙◌, append_assoc, append-nil, length-append, arith}
use Rattle.std.specs.List.{enumerate_from, flat_map, sum_by}
use Rattle.std.specs.Option.{option_and_then, option_map, option_map_or}
use Rattle.std.proofs.lemmas.List.{length-map, map-append}
use Rattle.std.proofs.lemmas.List.Sums.{sum_by-cons, sum_by_more}
use Rattle.std.proofs.lemmas.Option.{get_or_from_slice_get, slice_get_within}
use Rattle.byteorder.specs.Endian.{little_bytes}
use Rattle.dwarf_types.specs.declared.entry.InUnit.{InUnit}
use Rattle.dwarf_types.specs.declared.entry.RawEntry.{RawEntry}
use Rattle.dwarf_types.specs.declared.graph.Graph.{Graph}
use Rattle.dwarf_types.specs.declared.graph.Node.{Node}
use Rattle.dwarf_types.specs.declared.graph.OutUnit.{OutUnit}
use Rattle.dwarf_types.specs.declared.graph.Target.{Target}
use Rattle.dwarf_types.specs.Abbreviations.{declaration_bytes, table_bytes, table_of}
use Rattle.dwarf_types.specs.Encode.{abbrev_section}
use Rattle.dwarf_types.specs.Entries.{depth_of, entries_bytes, entries_of, header_fields, header_len, unit_bytes, unit_len}
use Rattle.dwarf_types.specs.Layout.{lists_place, places_of, table_place, target_place, unit_start}
use Rattle.dwarf_types.specs.Places.{ListPlaces, Places}
use Rattle.dwarf_types.specs.Well.{IsWell, IsWellUnit}
use Rattle.dwarf_types.specs.WellValues.{IsTarget}
use Rattle.dwarf_types.proofs.Lengths.{length-header, length-unit}
use Rattle.abbrev_read.specs.Spelling.{StandsAt}
use Rattle.index_tables.specs.Bases.{bases_in}
use Rattle.unit_tree.specs.Entry.{is_split}
use Rattle.unit_tree.specs.Reference.{reaches}
use Rattle.unit_tree.specs.Spelling.{AreSoundUnits, Forest, IsSoundUnit, Node as TreeNode, Origin, SpellsBody, SpellsTree, SpellsUnit, SpellsUnits, UnitTree, begins_at, entry_of, in_unit, in_units, origin_in, preorder, size, unit_entries}
use Rattle.unit_tree.specs.Spelling.{entries_of as tree_entries}
use Rattle.unit_tree.specs.Unit.{language_of}
use Rattle.unit_tree.specs.Spelling.Forest.{no_more, tree}
use Rattle.written_laws.specs.ReadDeclarations.{abbrevs_from}
use Rattle.written_laws.specs.ReadEntries.{IsPreorder, IsSpelledTree, listed, made, made_from}
use Rattle.written_laws.specs.ReadUnits.{IsReadable, IsSpelledGraph, entries_read, made_of, numbered_from, sections_of, row_read, rows_read}
use Rattle.written_laws.proofs.Ancestors.{no_ancestors}
use Rattle.written_laws.proofs.Cuts.{Cut, cut, numbered_first}
use Rattle.written_laws.proofs.DeclarationTables.{table_stands}
use Rattle.written_laws.proofs.Headers.{header_spelled, old_enough}
use Rattle.written_laws.proofs.Leads.{AllLead, made_lead, target_begins, trees_lead}
use Rattle.written_laws.proofs.OwnCodes.{are_coded, are_small, few_declared}
use Rattle.written_laws.proofs.OwnPlaces.{length-made}
use Rattle.written_laws.proofs.OwnUnit.{all_there, few_nodes, is_preorder, is_well}
use Rattle.written_laws.proofs.Roots.{not_split}
use Rattle.written_laws.proofs.Shallow.{AreOf, are_shallow, length-listed, made_are}
use Rattle.written_laws.proofs.UnitTree.{tree_spelled}

-- ---- trees as entries

-- the entries of trees, whose numbers count from a first one
preorder_listed : (u first n : ℕ) (parent : Option ℕ) (f : Forest) → preorder u (option_map (λ p. first + p) parent) (first + n) f ≡ numbered_from u first (listed parent n f)
preorder_listed u first n parent no_more = refl
preorder_listed u first n parent (tree node kids others) =
    let next : first + n + 1 ≡ first + (n + 1) = omega arith in
    let behind : first + n + 1 + size kids ≡ first + (n + 1 + size kids) = omega arith in
    let below : preorder u (Some (first + n)) (first + n + 1) kids ≡ numbered_from u first (listed (Some n) (n + 1) kids) =
    ap (λ (m : ℕ). preorder u (Some (first + n)) m kids) next ∙ preorder_listed u first (n + 1) (Some n) kids in
    let more : preorder u (option_map (λ p. first + p) parent) (first + n + 1 + size kids) others ≡ numbered_from u first (listed parent (n + 1 + size kids) others) =
    ap (λ (m : ℕ). preorder u (option_map (λ p. first + p) parent) m others) behind ∙ preorder_listed u first (n + 1 + size kids) parent others in
    ap (λ (es : List RawEntry). entry_of u (option_map (λ p. first + p) parent) node ∷ es) (ap₂ (λ (xs ys : List RawEntry). xs ++ ys) below more
    ∙ sym (map-append (λ (e : Option ℕ × TreeNode). entry_of u (option_map (λ p. first + p) e.0) e.1) (listed (Some n) (n + 1) kids) (listed parent (n + 1 + size kids) others)))

abbrev first_of : TreeNode → List (Option ℕ × TreeNode) → TreeNode
first_of d [] = d
first_of d (e ∷ es) = e.1

module _ (graph : Graph) (well : IsWell graph) (readable : IsReadable graph) where
  -- ---- one unit

  module _ (u : ℕ) (unit : OutUnit) (at : slice_get graph.units u ≡ Some unit) where
    abbrev w : IsWellUnit (IsTarget graph) unit
    w = is_well graph well readable u unit at

    abbrev order : IsPreorder unit.nodes
    order = is_preorder graph well readable u unit at

    abbrev places : Places
    places = places_of graph u unit

    abbrev next : ListPlaces
    next = lists_place graph u unit

    abbrev first_place : ℕ
    first_place = unit_start graph u + header_len unit.version

    abbrev root_made : TreeNode
    root_made = made (places_of graph u unit) unit.nodes (lists_place graph u unit) (unit_start graph u + header_len unit.version) 0 (is_preorder graph well readable u unit at).root

    abbrev origin_by : TreeNode → Origin
    origin_by r = record { place = unit_start graph u; version = unit.version; bases = Some (bases_in r.attrs) }

    abbrev origin : Origin
    origin = origin_by root_made

    few : length unit.nodes < 2 ^ 32
    few = omega (arith, few_nodes graph well readable u unit at)

    pub spelled : IsSpelledTree places (sections_of graph) origin (abbrevs_from 1 (table_of u unit.nodes)) unit next first_place
    spelled =
        tree_spelled (places_of graph u unit) (sections_of graph) origin (abbrevs_from 1 (table_of u unit.nodes)) unit (lists_place graph u unit) (unit_start graph u + header_len unit.version) order
        (record { place = refl; version = refl; old = old_enough unit.version w.version }) (are_coded u unit.nodes few) (all_there graph well readable u unit at)

    abbrev pub tree_of : UnitTree
    tree_of = record { version = unit.version; offset = table_place graph u; table = abbrevs_from 1 (table_of u unit.nodes); root = spelled.root; kids = spelled.kids }

    root_is : spelled.root ≡ root_made
    root_is = ap (first_of root_made) spelled.are ∙ ap (λ (ns : List Node). first_of root_made (made_from (places_of graph u unit) unit.nodes (lists_place graph u unit) (unit_start graph u + header_len unit.version) 0 ns)) order.nodes_are

    -- ---- bytes

    abbrev head : List ℕ
    head = little_bytes 2 unit.version ++ header_fields unit.version (table_place graph u)

    abbrev entries : List ℕ
    entries = entries_bytes (places_of graph u unit) (lists_place graph u unit) (entries_of u unit)

    abbrev all_bytes : List ℕ
    all_bytes = unit_bytes (places_of graph u unit) (lists_place graph u unit) (table_place graph u) unit

    abbrev count : List ℕ
    count = little_bytes 4 (unit_len u unit - 4)

    bytes_are : all_bytes ≡ count ++ (head ++ entries)
    bytes_are = append_assoc count head entries

    head_size : 4 + length head ≡ header_len unit.version
    head_size = omega (arith, length-header u (table_place graph u) unit)

    body_size : length (head ++ entries) ≡ unit_len u unit - 4
    body_size =
        let all = length-unit (places_of graph u unit) (lists_place graph u unit) (table_place graph u) unit in
        let four : length count ≡ 4 = refl in
        omega (arith, all, ap length bytes_are, length-append count (head ++ entries), four)

    -- ---- the table

    table_cut : Cut (λ (n : ℕ × OutUnit). table_bytes n.0 n.1) (λ (n : ℕ × OutUnit). length (table_bytes n.0 n.1)) (λ n. refl) (enumerate_from 0 graph.units) u (u, unit)
    table_cut = cut (λ (n : ℕ × OutUnit). table_bytes n.0 n.1) (λ (n : ℕ × OutUnit). length (table_bytes n.0 n.1)) (λ n. refl) (enumerate_from 0 graph.units) u (u, unit) (numbered_first graph.units u unit at)

    table_small : table_place graph u < length (abbrev_section graph)
    table_small =
        let all = ap length table_cut.is in
        let some : 0 < length (table_bytes u unit) = omega (arith, length-append (flat_map (λ d. declaration_bytes d.0 d.1) (enumerate_from 1 (table_of u unit.nodes))) (0 ∷ [])) in
        omega (arith, all, length-append table_cut.front (table_bytes u unit ++ table_cut.more), length-append (table_bytes u unit) table_cut.more, table_cut.there, some)

    table_there : StandsAt (abbrev_section graph) (table_place graph u) (abbrevs_from 1 (table_of u unit.nodes))
    table_there =
        let stands = table_stands (table_of u unit.nodes) table_cut.front table_cut.more (are_small u unit.nodes (IsTarget graph) unit.version w.each (readable.units u unit at).narrow) (omega (arith, few, few_declared u unit.nodes)) in
        subst (λ (bytes : List ℕ). StandsAt bytes (table_place graph u) (abbrevs_from 1 (table_of u unit.nodes))) (sym table_cut.is)
        (subst (λ (p : ℕ). StandsAt (table_cut.front ++ (table_bytes u unit ++ table_cut.more)) p (abbrevs_from 1 (table_of u unit.nodes))) table_cut.there stands)

    -- ---- the whole

    tree_there : SpellsTree (sections_of graph) (origin_in (unit_start graph u) tree_of) tree_of (unit_start graph u + 4 + length head) entries
    tree_there =
        let same : origin ≡ origin_in (unit_start graph u) tree_of = ap origin_by (sym root_is) in
        let place : unit_start graph u + header_len unit.version ≡ unit_start graph u + 4 + length head = omega (arith, head_size) in
        subst (λ (o : Origin). SpellsTree (sections_of graph) o tree_of (unit_start graph u + 4 + length head) entries) same
        (subst (λ (p : ℕ). SpellsTree (sections_of graph) origin tree_of p entries) place spelled.spells)

    body_there : SpellsBody (sections_of graph) (origin_in (unit_start graph u) tree_of) tree_of (unit_start graph u + 4) (head ++ entries)
    body_there = record {
      front = head;
      back = entries;
      is = refl;
      first = header_spelled unit.version (table_place graph u) w.version (omega (arith, table_small, readable.tables));
      second = record { front = entries; back = []; is = sym (append-nil entries); first = tree_there; second = refl };
    }

    pub unit_there : SpellsUnit (sections_of graph) tree_of (unit_start graph u) all_bytes
    unit_there = record {
      count = count;
      body = head ++ entries;
      is = bytes_are;
      counts = record { is = ap (little_bytes 4) (sym body_size); fits = omega (arith, body_size, (readable.units u unit at).short) };
      short = omega (arith, body_size, (readable.units u unit at).short);
      spells = body_there;
      inside = table_small;
      table = table_there;
      is_unit = ap (λ (r : TreeNode). r.declared.tag) root_is ∙ w.is_root.tag;
      whole = ap (λ (r : TreeNode). is_split r.declared) root_is ∙ not_split u w.root.attrs w.is_root.whole;
    }

    -- ---- what holds besides

    pub all_size : 1 + size spelled.kids ≡ length unit.nodes
    all_size =
        omega (arith, length-listed (Some 0) 1 spelled.kids, ap length spelled.are, length-made (places_of graph u unit) unit.nodes unit.nodes (lists_place graph u unit) (unit_start graph u + header_len unit.version) 0)

    pub unit_is : (first : ℕ) → unit_entries u first tree_of ≡ numbered_from u first (made_of graph u unit)
    unit_is first =
        let here : first ≡ first + 0 = omega arith in
        ap (λ (es : List RawEntry). entry_of u None spelled.root ∷ es) (ap (λ (m : ℕ). preorder u (Some m) (first + 1) spelled.kids) here ∙ preorder_listed u first 1 (Some 0) spelled.kids)
        ∙ ap (numbered_from u first) spelled.are

    abbrev row_by : ℕ → ℕ → ℕ → InUnit
    row_by first n l = record { first = first; count = n; version = unit.version; language = l; lines = None }

    pub row_is : (first : ℕ) → in_unit first tree_of ≡ row_read graph u first unit
    row_is first =
        let language : language_of spelled.root.attrs ≡ option_map_or (λ e. language_of e.1.attrs) (slice_get (made_of graph u unit) 0) 0 =
        ap (λ (es : List (Option ℕ × TreeNode)). option_map_or (λ e. language_of e.1.attrs) (slice_get es 0) 0) spelled.are in
        ap₂ (row_by first) all_size language

    root_alone : depth_of unit.nodes 0 + 1 ≡ 1
    root_alone =
        let root_at : slice_get unit.nodes 0 ≡ Some w.root = ap (λ (ns : List Node). slice_get ns 0) w.nodes in
        omega (arith, ap length (no_ancestors unit.nodes 0 (ap (option_and_then (λ (n : Node). n.parent)) root_at ∙ w.is_root.parent)))

    pub unit_sound : (all : List RawEntry) → ((own : Option ℕ) (target : Target) → IsTarget graph target → reaches own target.unit ≡ true → begins_at all own (unit_start graph target.unit + target_place graph target) ≡ true)
        → IsSoundUnit all u tree_of
    unit_sound all begin =
        let are = subst (AreOf unit.nodes order 0) (sym spelled.are) (made_are unit.nodes order (places_of graph u unit) unit.nodes (lists_place graph u unit) (unit_start graph u + header_len unit.version) 0 (λ i. let same : i ≡ 0 + i = omega arith in ap (slice_get unit.nodes) same)) in
        let lead = subst (AllLead graph u unit all begin) (sym spelled.are) (made_lead graph u unit all begin unit.nodes unit.nodes (lists_place graph u unit) (unit_start graph u + header_len unit.version) 0 w.each) in
        record {
          shallow = are_shallow unit.nodes order (readable.units u unit at).flat 0 1 spelled.kids 1 root_alone are.1;
          root_leads = lead.0;
          kids_lead = trees_lead graph u unit all begin (Some 0) 1 spelled.kids lead.1;
        }

  -- ---- all units

  abbrev Begin : List RawEntry → Type 0
  Begin all = (own : Option ℕ) (target : Target) → IsTarget graph target → reaches own target.unit ≡ true → begins_at all own (unit_start graph target.unit + target_place graph target) ≡ true

  abbrev bytes_from : ℕ → List OutUnit → List ℕ
  bytes_from u units = flat_map (λ n. unit_bytes (places_of graph n.0 n.1) (lists_place graph n.0 n.1) (table_place graph n.0) n.1) (enumerate_from u units)

  -- units from a number on
  record FromHere (u first place : ℕ) (units : List OutUnit) : Type 0 where
    trees : List UnitTree
    spells : SpellsUnits (sections_of graph) trees place (bytes_from u units)
    rows : in_units first trees ≡ rows_read graph u first units
    entries : tree_entries u first trees ≡ entries_read graph u first units
    sound : (all : List RawEntry) → Begin all → AreSoundUnits all u trees

  behind : (u : ℕ) (unit : OutUnit) → slice_get graph.units u ≡ Some unit → unit_start graph (u + 1) ≡ unit_start graph u + unit_len u unit
  behind u unit at =
      let lt = slice_get_within (enumerate_from 0 graph.units) u (u, unit) (numbered_first graph.units u unit at) in
      sum_by_more (λ (n : ℕ × OutUnit). unit_len n.0 n.1) (enumerate_from 0 graph.units) u (u, unit) lt
      ∙ ap (λ (n : ℕ × OutUnit). unit_start graph u + unit_len n.0 n.1) (get_or_from_slice_get (enumerate_from 0 graph.units) u (u, unit) (u, unit) (numbered_first graph.units u unit at))

  from_here : (u first place : ℕ) (units : List OutUnit) → ((i : ℕ) → slice_get units i ≡ slice_get graph.units (u + i)) → place ≡ unit_start graph u → FromHere u first place units
  from_here u first place [] same is = record { trees = []; spells = refl; rows = refl; entries = refl; sound = λ all begin. tt }
  from_here u first place (unit ∷ units) same is =
      let here : u + 0 ≡ u = omega arith in
      let at : slice_get graph.units u ≡ Some unit = ap (slice_get graph.units) (sym here) ∙ sym (same 0) in
      let size_is : first + 1 + size (tree_of u unit at).kids ≡ first + length unit.nodes = omega (arith, all_size u unit at) in
      let len = length-unit (places_of graph u unit) (lists_place graph u unit) (table_place graph u) unit in
      let next_place : place + length (unit_bytes (places_of graph u unit) (lists_place graph u unit) (table_place graph u) unit) ≡ unit_start graph (u + 1) = omega (arith, is, len, behind u unit at) in
      let r = from_here (u + 1) (first + length unit.nodes) (place + length (unit_bytes (places_of graph u unit) (lists_place graph u unit) (table_place graph u) unit)) units
      (λ i. let step : u + suc i ≡ u + 1 + i = omega arith in same (suc i) ∙ ap (slice_get graph.units) step) next_place in
      let one : u + 1 ≡ suc u = omega arith in
      let others : tree_entries (suc u) (first + 1 + size (tree_of u unit at).kids) r.trees ≡ entries_read graph (u + 1) (first + length unit.nodes) units =
      ap₂ (λ (v m : ℕ). tree_entries v m r.trees) (sym one) size_is ∙ r.entries in
      record {
        trees = tree_of u unit at ∷ r.trees;
        spells = record {
          front = unit_bytes (places_of graph u unit) (lists_place graph u unit) (table_place graph u) unit;
          back = bytes_from (u + 1) units;
          is = refl;
          first = subst (λ (p : ℕ). SpellsUnit (sections_of graph) (tree_of u unit at) p (unit_bytes (places_of graph u unit) (lists_place graph u unit) (table_place graph u) unit)) (sym is) (unit_there u unit at);
          second = r.spells;
        };
        rows = ap₂ (λ (x : InUnit) (xs : List InUnit). x ∷ xs) (row_is u unit at first) (ap (λ (m : ℕ). in_units m r.trees) size_is ∙ r.rows);
        entries = ap₂ (λ (xs ys : List RawEntry). xs ++ ys) (unit_is u unit at first) others;
        sound = λ all begin. (unit_sound u unit at all begin, subst (λ (v : ℕ). AreSoundUnits all v r.trees) one (r.sound all begin));
      }

  -- how many entries there are
  count_read : (u first : ℕ) (units : List OutUnit) → length (entries_read graph u first units) ≡ sum_by (λ unit. length unit.nodes) units
  count_read u first [] = refl
  count_read u first (unit ∷ units) =
      omega (
        arith,
        length-append (numbered_from u first (made_of graph u unit)) (entries_read graph (u + 1) (first + length unit.nodes) units),
        length-map (made_of graph u unit) (λ (e : Option ℕ × TreeNode). entry_of u (option_map (λ p. first + p) e.0) e.1),
        length-made (places_of graph u unit) unit.nodes unit.nodes (lists_place graph u unit) (unit_start graph u + header_len unit.version) 0,
        count_read (u + 1) (first + length unit.nodes) units,
        sum_by-cons (λ (x : OutUnit). length x.nodes) unit units,
      )

  pub graph_spelled : IsSpelledGraph graph
  graph_spelled =
      let all = from_here 0 0 0 graph.units (λ i. let same : i ≡ 0 + i = omega arith in ap (slice_get graph.units) same) refl in
      let begin : Begin (tree_entries 0 0 all.trees) = subst Begin (sym all.entries) (target_begins graph) in
      record {
        trees = all.trees;
        spells = record { spells = all.spells; few = omega (arith, ap length all.entries, count_read 0 0 graph.units, readable.few); sound = all.sound (tree_entries 0 0 all.trees) begin };
        units = all.rows;
        entries = all.entries;
      }
