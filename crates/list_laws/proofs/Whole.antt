-- Range and location lists, whole: as they are spelled, as they are written, and at their places.
use Rattle.std.proofs.Common.{◌≡◌, ◌⊎◌, ◌<◌, ◌≤◌, ◌+◌, ◌==◌, ◌++◌, ◌^◌, ◌∷◌, ℕ, Bool, true, false, List, [], length, drop, map, if◌then◌else◌, All, Ok, inl, inr, refl, sym, ap, subst, ◌∙◌, length-append, arith}
use Rattle.std.specs.List.{sum_by}
use Rattle.std.proofs.lemmas.List.{drop_at}
use Rattle.std.proofs.lemmas.List.Elements.{All-cons, All-head, All-nil, All-tail}
use Rattle.std.proofs.lemmas.List.Sums.{sum_by-cons}
use Rattle.dwarf_types.specs.declared.address.Addr.{Addr}
use Rattle.dwarf_types.specs.declared.address.Addr.TheVariants as addrs
use Rattle.dwarf_types.specs.declared.address.Span.{Span}
use Rattle.dwarf_types.specs.declared.graph.Graph.{Graph}
use Rattle.dwarf_types.specs.declared.graph.Node.{Node}
use Rattle.dwarf_types.specs.declared.graph.OutLocation.{OutLocation}
use Rattle.dwarf_types.specs.declared.graph.OutUnit.{OutUnit}
use Rattle.dwarf_types.specs.declared.graph.OutValue.{OutValue}
use Rattle.dwarf_types.specs.declared.graph.OutValue.TheVariants as outs
use Rattle.dwarf_types.specs.declared.lists.RawLocation.{RawLocation}
use Rattle.dwarf_types.specs.declared.lists.RawSpan.{RawSpan}
use Rattle.dwarf_types.specs.Lists.{end_len, location_len, location_list_bytes, range_list_bytes}
use Rattle.dwarf_types.specs.SectionBytes.{SectionBytes, location_bytes, range_bytes}
use Rattle.dwarf_types.specs.Spelled.{AreBytes}
use Rattle.dwarf_types.specs.Well.{IsWell, IsWellUnit}
use Rattle.dwarf_types.specs.WellNodes.{IsAttribute, IsNode}
use Rattle.dwarf_types.specs.WellValues.{IsLocation, IsSpan, IsTarget, IsValue}
use Rattle.dwarf_types.proofs.Lengths.{length-location_list, length-range_list}
use Rattle.dwarf_types.proofs.WellBytes.{loc_bytes, loclists_bytes, ranges_section_bytes, rnglists_bytes}
use Rattle.macho_read.specs.declared.image.Image.{Image}
use Rattle.reloc_table.specs.declared.relocation.Relocs.{Relocs}
use Rattle.list_items.specs.Context.{Context}
use Rattle.list_items.specs.Ends.{is_empty}
use Rattle.loc_lists.specs.declared.locations.LocationItem.{LocationItem}
use Rattle.loc_lists.specs.Reading.{item_behind, location_at, location_context, location_items_of, location_part, locations_of}
use Rattle.range_lists.specs.Reading.{range_at, range_context, range_part, ranges_of}
use Rattle.written_laws.specs.ReadUnits.{IsReadable, sections_of}
use Rattle.written_laws.proofs.OwnUnit.{all_at}
use Rattle.list_laws.specs.Again.{Holds, IsShort, locations_place, node_at, ranges_place, read_items, read_locations, read_spans}
use Rattle.list_laws.specs.Spelling.{FollowsItem, FollowsLocation, FollowsRange, SpellsList, StandsAt, as_location, at_base, at_default, at_end, at_span}
use Rattle.list_laws.proofs.Behind.{item_reader, location_reader, range_reader}
use Rattle.list_laws.proofs.Lists.{list_again, list_found}
use Rattle.list_laws.proofs.ListsStand.{IsAt, locations_stand, ranges_stand}
use Rattle.list_laws.proofs.Written.{items_spelled, ranges_spelled}

-- ---- as they are spelled

module _ (sections : SectionBytes) (relocs : Relocs) (image : Image) (offset version : ℕ) (base : Addr) (addresses : Relocs) (addr_base : ℕ) (none : relocs.list ≡ []) where
  pub ranges_found : (given : List RawSpan) → AreBytes (range_bytes sections version) → ranges_of sections relocs image offset version base addresses addr_base ≡ Ok given
      → StandsAt (range_context sections relocs image version addresses addr_base) FollowsRange base (range_bytes sections version) offset given
  unfolding ranges_of
  ranges_found given are e = list_found (range_context sections relocs image version addresses addr_base) none range_at FollowsRange range_reader (range_part version) (range_bytes sections version) offset base given are e

  pub ranges_again : (given : List RawSpan) → AreBytes (range_bytes sections version) → StandsAt (range_context sections relocs image version addresses addr_base) FollowsRange base (range_bytes sections version) offset given
      → ranges_of sections relocs image offset version base addresses addr_base ≡ Ok given
  unfolding ranges_of
  ranges_again given are stands = list_again (range_context sections relocs image version addresses addr_base) none range_at FollowsRange range_reader (range_part version) (range_bytes sections version) offset base given are stands

  pub locations_found : (given : List RawLocation) → AreBytes (location_bytes sections version) → locations_of sections relocs image offset version base addresses addr_base ≡ Ok given
      → StandsAt (location_context sections relocs image version addresses addr_base) (FollowsLocation version) base (location_bytes sections version) offset given
  unfolding locations_of
  locations_found given are e =
      list_found (location_context sections relocs image version addresses addr_base) none (location_at version) (FollowsLocation version) (location_reader version) (location_part version) (location_bytes sections version) offset base given are e

  pub locations_again : (given : List RawLocation) → AreBytes (location_bytes sections version)
      → StandsAt (location_context sections relocs image version addresses addr_base) (FollowsLocation version) base (location_bytes sections version) offset given
      → locations_of sections relocs image offset version base addresses addr_base ≡ Ok given
  unfolding locations_of
  locations_again given are stands =
      list_again (location_context sections relocs image version addresses addr_base) none (location_at version) (FollowsLocation version) (location_reader version) (location_part version) (location_bytes sections version) offset base given are stands

  pub items_found : (given : List LocationItem) → AreBytes (location_bytes sections version) → location_items_of sections relocs image offset version base addresses addr_base ≡ Ok given
      → StandsAt (location_context sections relocs image version addresses addr_base) (FollowsItem version) base (location_bytes sections version) offset given
  unfolding location_items_of
  items_found given are e =
      list_found (location_context sections relocs image version addresses addr_base) none (item_behind version) (FollowsItem version) (item_reader version) (location_part version) (location_bytes sections version) offset base given are e

  pub items_again : (given : List LocationItem) → AreBytes (location_bytes sections version)
      → StandsAt (location_context sections relocs image version addresses addr_base) (FollowsItem version) base (location_bytes sections version) offset given
      → location_items_of sections relocs image offset version base addresses addr_base ≡ Ok given
  unfolding location_items_of
  items_again given are stands =
      list_again (location_context sections relocs image version addresses addr_base) none (item_behind version) (FollowsItem version) (item_reader version) (location_part version) (location_bytes sections version) offset base given are stands

-- ---- as they are written

-- the same items, where a default covers all numbers
as_locations : (c : Context) (version : ℕ) (base : Addr) (place : ℕ) (bytes : List ℕ) (given : List LocationItem) → SpellsList c (FollowsItem version) base place bytes given → SpellsList c (FollowsLocation version) base place bytes (map as_location given)
as_locations c version _ _ _ _ (at_end base place bytes is) = at_end base place bytes is
as_locations c version _ _ _ _ (at_base base selected place bytes more given is later) = at_base base selected place bytes more (map as_location given) is (as_locations c version selected (place + length bytes) more given later)
as_locations c version _ _ _ _ (at_default base place bytes behind more x given is follows later) =
    at_default base place bytes behind more (as_location x) (map as_location given) is (record { of = x; spells = follows; is = refl }) (as_locations c version base (place + length bytes + length behind) more given later)
as_locations c version _ _ _ _ (at_span base place span bytes behind more x given is follows later) =
    subst (SpellsList c (FollowsLocation version) base place (bytes ++ (behind ++ more))) (sym (mapped (is_empty span)))
    (at_span base place span bytes behind more (as_location x) (map as_location given) is (record { of = x; spells = follows; is = refl }) (as_locations c version base (place + length bytes + length behind) more given later))
  where
    mapped : (b : Bool) → map as_location (if b then given else x ∷ given) ≡ (if b then map as_location given else as_location x ∷ map as_location given)
    mapped true = refl
    mapped false = refl

module _ (sections : SectionBytes) (relocs : Relocs) (image : Image) (version : ℕ) (addresses : Relocs) (addr_base : ℕ) (none : relocs.list ≡ []) (place : ℕ) where
  behind_front : (section bytes : List ℕ) → (at : IsAt section place bytes) → drop place section ≡ bytes ++ at.more
  behind_front section bytes at = ap (drop place) at.is ∙ drop_at at.front (bytes ++ at.more) place at.there

  pub ranges_written : (spans : List Span) → All IsSpan spans → AreBytes (range_bytes sections version) → IsAt (range_bytes sections version) place (range_list_bytes version spans)
      → ranges_of sections relocs image place version (addrs.Fixed 0) addresses addr_base ≡ Ok (read_spans spans)
  ranges_written spans all are at =
      ranges_again sections relocs image place version (addrs.Fixed 0) addresses addr_base none (read_spans spans) are (record {
        bytes = range_list_bytes version spans;
        more = at.more;
        is = behind_front (range_bytes sections version) (range_list_bytes version spans) at;
        spells = ranges_spelled (range_context sections relocs image version addresses addr_base) version refl place spans all;
      })

  old : (version ≡ 4) ⊎ (version ≡ 5) → (version == 5) ≡ false → version ≡ 4
  old (inl four) e = four
  old (inr five) e = absurd (differ (subst (λ (v : ℕ). (v == 5) ≡ false) five e))
    where
      differ : true ≡ false → ⊥
      differ e = absurd cc

  module _ (node : ℕ → ℕ) (list : List OutLocation) (all : All (IsShort version) list) (which : (version ≡ 4) ⊎ (version ≡ 5)) (are : AreBytes (location_bytes sections version)) (at : IsAt (location_bytes sections version) place (location_list_bytes version node list)) where
    list_spelled : SpellsList (location_context sections relocs image version addresses addr_base) (FollowsItem version) (addrs.Fixed 0) place (location_list_bytes version node list) (read_items version node place list)
    list_spelled = items_spelled (location_context sections relocs image version addresses addr_base) version node refl (old which) place list all

    pub items_written : location_items_of sections relocs image place version (addrs.Fixed 0) addresses addr_base ≡ Ok (read_items version node place list)
    items_written =
        items_again sections relocs image place version (addrs.Fixed 0) addresses addr_base none (read_items version node place list) are
        (record { bytes = location_list_bytes version node list; more = at.more; is = behind_front (location_bytes sections version) (location_list_bytes version node list) at; spells = list_spelled })

    pub locations_written : locations_of sections relocs image place version (addrs.Fixed 0) addresses addr_base ≡ Ok (read_locations version node place list)
    locations_written =
        locations_again sections relocs image place version (addrs.Fixed 0) addresses addr_base none (read_locations version node place list) are (record {
          bytes = location_list_bytes version node list;
          more = at.more;
          is = behind_front (location_bytes sections version) (location_list_bytes version node list) at;
          spells = as_locations (location_context sections relocs image version addresses addr_base) version (addrs.Fixed 0) place (location_list_bytes version node list) (read_items version node place list) list_spelled;
        })

-- ---- at their places

some_len : (version : ℕ) → 0 < end_len version
some_len version = by (version == 5)
  where
    by : (b : Bool) → 0 < (if b then 1 else 16)
    by true = omega arith
    by false = omega arith

-- items that are well, in a list that isn't too long
pub all_short : (version : ℕ) (nodes : List Node) (list : List OutLocation) → All (IsLocation version nodes) list → sum_by (location_len version) list < 2 ^ 64 → All (IsShort version) list
all_short version nodes [] all fits = All-nil (IsShort version)
all_short version nodes (item ∷ list) all fits =
    let is = All-head (IsLocation version nodes) item list all in
    let len = sum_by-cons (location_len version) item list in
    All-cons (IsShort version) item list (record { span = is.span; fits = omega (arith, len, fits); short = is.short }) (all_short version nodes list (All-tail (IsLocation version nodes) item list all) (omega (arith, len, fits)))

module _ (graph : Graph) (well : IsWell graph) (u : ℕ) (unit : OutUnit) (k : ℕ) (node : Node) (i : ℕ) (image : Image) (relocs addresses : Relocs) (addr_base : ℕ) (none : relocs.list ≡ []) where
  abbrev ranges_there : ℕ
  ranges_there = ranges_place graph u unit k node i

  abbrev locations_there : ℕ
  locations_there = locations_place graph u unit k node i

  module _ (value : OutValue) (holds : Holds graph u unit k node i value) where
    is_unit : IsWellUnit (IsTarget graph) unit
    is_unit = all_at (IsWellUnit (IsTarget graph)) graph.units u unit well.units holds.in_graph

    is_value : IsValue (IsTarget graph) unit.version unit.nodes value
    is_value =
        let n = all_at (IsNode (IsTarget graph) unit.version unit.nodes) unit.nodes k node is_unit.each holds.in_unit in
        let a = all_at (IsAttribute (IsTarget graph) unit.version unit.nodes) node.attrs i holds.attr n.attrs holds.in_node in
        subst (IsValue (IsTarget graph) unit.version unit.nodes) holds.is a.value

  pub range_bytes_are : AreBytes (range_bytes (sections_of graph) unit.version)
  range_bytes_are = by (unit.version == 5)
    where
      by : (b : Bool) → AreBytes (if b then (sections_of graph).rnglists else (sections_of graph).ranges)
      by true = rnglists_bytes graph well
      by false = ranges_section_bytes graph well

  pub location_bytes_are : AreBytes (location_bytes (sections_of graph) unit.version)
  location_bytes_are = by (unit.version == 5)
    where
      by : (b : Bool) → AreBytes (if b then (sections_of graph).loclists else (sections_of graph).loc)
      by true = loclists_bytes graph well
      by false = loc_bytes graph well

  pub ranges_placed : (spans : List Span) → Holds graph u unit k node i (outs.Ranges spans) → ranges_of (sections_of graph) relocs image ranges_there unit.version (addrs.Fixed 0) addresses addr_base ≡ Ok (read_spans spans)
  ranges_placed spans holds =
      let some = some_len unit.version in
      ranges_written (sections_of graph) relocs image unit.version addresses addr_base none ranges_there spans (is_value (outs.Ranges spans) holds) range_bytes_are
      (ranges_stand graph u unit k node i (outs.Ranges spans) holds (omega (arith, length-range_list unit.version spans, some)))

  module _ (readable : IsReadable graph) (list : List OutLocation) (holds : Holds graph u unit k node i (outs.Locations list)) where
    small : length (location_bytes (sections_of graph) unit.version) < 2 ^ 32
    small = by (unit.version == 5)
      where
        by : (b : Bool) → length (if b then (sections_of graph).loclists else (sections_of graph).loc) < 2 ^ 32
        by true = readable.loclists
        by false = readable.loc

    at : IsAt (location_bytes (sections_of graph) unit.version) locations_there (location_list_bytes unit.version (node_at graph u unit) list)
    at = let some = some_len unit.version in locations_stand graph u unit k node i (outs.Locations list) holds (omega (arith, length-location_list unit.version (node_at graph u unit) list, some))

    pub short : All (IsShort unit.version) list
    short =
        let len = length-location_list unit.version (node_at graph u unit) list in
        let inside = fits_inside (location_bytes (sections_of graph) unit.version) (location_list_bytes unit.version (node_at graph u unit) list) locations_there at in
        all_short unit.version unit.nodes list (is_value (outs.Locations list) holds) (omega (arith, len, inside, small))
      where
        fits_inside : (all bytes : List ℕ) (place : ℕ) → IsAt all place bytes → length bytes ≤ length all
        fits_inside all bytes place at = omega (arith, ap length at.is, length-append at.front (bytes ++ at.more), length-append bytes at.more)

    pub items_placed : location_items_of (sections_of graph) relocs image locations_there unit.version (addrs.Fixed 0) addresses addr_base ≡ Ok (read_items unit.version (node_at graph u unit) locations_there list)
    items_placed = items_written (sections_of graph) relocs image unit.version addresses addr_base none locations_there (node_at graph u unit) list short (is_unit (outs.Locations list) holds).version location_bytes_are at

    pub locations_placed : locations_of (sections_of graph) relocs image locations_there unit.version (addrs.Fixed 0) addresses addr_base ≡ Ok (read_locations unit.version (node_at graph u unit) locations_there list)
    locations_placed = locations_written (sections_of graph) relocs image unit.version addresses addr_base none locations_there (node_at graph u unit) list short (is_unit (outs.Locations list) holds).version location_bytes_are at
