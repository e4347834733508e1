-- Each section of a well graph is bytes.
use Rattle.std.proofs.Common.{◌==◌, ◌++◌, ◌∷◌, not, ℕ, Bool, true, false, List, [], All, Option, Some, None, map, flat_map, length, ◌+◌, if◌then◌else◌}
use Rattle.std.specs.Prelude.{IfSome}
use Rattle.std.specs.List.{filter_map}
use Rattle.std.specs.Option.{option_map_or}
use Rattle.std.specs.Str.{bytes_eq}
use Rattle.std.proofs.lemmas.List.Elements.{All-append, All-cons, All-filter, All-from_recursion, All-head, All-nil, All-tail}
use Rattle.ds_base.specs.DwarfNumbers.{DW_CIE_ID}
use Rattle.ds_base.specs.FirstUse.{once}
use Rattle.dwarf_types.specs.declared.frames.OutFrame.{OutFrame}
use Rattle.dwarf_types.specs.declared.graph.Graph.{Graph}
use Rattle.dwarf_types.specs.declared.graph.Node.{Node}
use Rattle.dwarf_types.specs.declared.graph.OutAttr.{OutAttr}
use Rattle.dwarf_types.specs.declared.graph.OutUnit.{OutUnit}
use Rattle.dwarf_types.specs.declared.graph.OutValue.{OutValue}
use Rattle.dwarf_types.specs.declared.graph.OutValue.TheVariants as values
use Rattle.dwarf_types.specs.declared.graph.Target.{Target}
use Rattle.dwarf_types.specs.declared.lines.FileName.{FileName}
use Rattle.dwarf_types.specs.declared.lines.OutLines.{OutLines}
use Rattle.dwarf_types.specs.Abbreviations.{table_bytes}
use Rattle.dwarf_types.specs.Aranges.{aranges_bytes}
use Rattle.dwarf_types.specs.Encode.{abbrev_section, all_locations, all_ranges, all_sections, aranges_section, frame_section, info_section, line_section, line_str_section, loc_section, loclists_section, ranges_section, rnglists_section, str_section, unit_locations, unit_ranges}
use Rattle.dwarf_types.specs.Entries.{unit_bytes}
use Rattle.dwarf_types.specs.Frames.{Common, Description, FrameEntry, cie_place, frame_entries, frame_entry_bytes, same_entry}
use Rattle.dwarf_types.specs.Layout.{line_text_place, line_texts_of, line_texts_of_unit, lists_place, places_of, stands_in, table_place, text_of, texts_of, texts_of_node, unit_start}
use Rattle.dwarf_types.specs.LineTable.{lines_bytes}
use Rattle.dwarf_types.specs.Lists.{locations_bytes, ranges_bytes}
use Rattle.dwarf_types.specs.Places.{own_node}
use Rattle.dwarf_types.specs.Spelled.{AreBytes, AreTextBytes}
use Rattle.dwarf_types.specs.Well.{IsWell, IsWellUnit}
use Rattle.dwarf_types.specs.WellLines.{IsFile, IsFrame, IsLineTable, IsPath}
use Rattle.dwarf_types.specs.WellNodes.{IsAttribute, IsNode}
use Rattle.dwarf_types.specs.WellValues.{IsTarget, IsValue}
use Rattle.dwarf_types.proofs.Bytes.{Bytes, all_have, both, either, given, none, number, numbered_have, texts}
use Rattle.dwarf_types.proofs.LineBytes.{lines_are}
use Rattle.dwarf_types.proofs.UnitBytes.{aranges_are, behind_header_is, locations_are, over_values_are, ranges_are, table_is, unit_is}

-- ---- items of which each is of a kind

all_flat : {A B : Type 0} (P : A → Type 0) (Q : B → Type 0) (f : A → List B) → ((a : A) → P a → All Q (f a)) → (xs : List A) → All P xs → All Q (flat_map f xs)
all_flat P Q f are [] all = All-nil Q
all_flat P Q f are (x ∷ xs) all = All-append Q (f x) (flat_map f xs) (are x (All-head P x xs all)) (all_flat P Q f are xs (All-tail P x xs all))

all_once : {A : Type 0} (P : A → Type 0) (same : A → A → Bool) (xs : List A) → All P xs → All P (once same xs)
all_once P same [] all = All-nil P
all_once P same (x ∷ xs) all = All-cons P x _ (All-head P x xs all) (All-filter (λ y. not (same x y)) P (once same xs) (all_once P same xs (All-tail P x xs all)))

-- ---- texts

module _ (MayLead : Target → Type 0) where
  texts_are : (version : ℕ) (nodes : List Node) (attrs : List OutAttr) → All (IsAttribute MayLead version nodes) attrs → All AreTextBytes (filter_map (λ a. text_of a.value) attrs)
  texts_are version nodes [] all = All-nil AreTextBytes
  texts_are version nodes (a ∷ attrs) all = by a.value (All-head (IsAttribute MayLead version nodes) a attrs all).value (texts_are version nodes attrs (All-tail (IsAttribute MayLead version nodes) a attrs all))
    where
      by : (value : OutValue) → IsValue MayLead version nodes value → All AreTextBytes (filter_map (λ a. text_of a.value) attrs) → All AreTextBytes (filter_map (λ a. text_of a.value) (record { name = a.name; value = value } ∷ attrs))
      by (values.Text text) is rest = All-cons AreTextBytes text _ is rest
      by value is rest = rest

  unit_texts_are : (unit : OutUnit) → IsWellUnit MayLead unit → All AreTextBytes (flat_map texts_of_node unit.nodes)
  unit_texts_are unit is = all_flat (IsNode MayLead unit.version unit.nodes) AreTextBytes texts_of_node (λ node well. texts_are unit.version unit.nodes node.attrs well.attrs) unit.nodes is.each

table_texts_are : (version : ℕ) (lines : Option OutLines) → IfSome lines (IsLineTable version) → All AreTextBytes (option_map_or (λ lines. lines.dirs ++ map (λ file. file.name) lines.files) lines [])
table_texts_are version None is = All-nil AreTextBytes
table_texts_are version (Some lines) is =
    All-append AreTextBytes lines.dirs (map (λ file. file.name) lines.files) (dirs lines.dirs is.dirs) (files lines.files is.files)
  where
    dirs : (names : List (List ℕ)) → All (IsPath version) names → All AreTextBytes names
    dirs [] all = All-nil AreTextBytes
    dirs (name ∷ names) all = All-cons AreTextBytes name names (All-head (IsPath version) name names all).text (dirs names (All-tail (IsPath version) name names all))

    files : (rows : List FileName) → All (IsFile version) rows → All AreTextBytes (map (λ file. file.name) rows)
    files [] all = All-nil AreTextBytes
    files (row ∷ rows) all = All-cons AreTextBytes row.name _ (All-head (IsFile version) row rows all).name.text (files rows (All-tail (IsFile version) row rows all))

line_texts_are : (MayLead : Target → Type 0) (unit : OutUnit) → IsWellUnit MayLead unit → All AreTextBytes (line_texts_of_unit unit)
line_texts_are MayLead unit is = by (unit.version == 5)
  where
    by : (b : Bool) → All AreTextBytes (if b then option_map_or (λ lines. lines.dirs ++ map (λ file. file.name) lines.files) unit.lines [] else [])
    by true = table_texts_are unit.version unit.lines is.lines
    by false = All-nil AreTextBytes

-- ---- frames

frame_parts : (frame : OutFrame) → IsFrame frame → (all : List FrameEntry) → All (λ e. Bytes (frame_entry_bytes all e)) (Common frame.cie ∷ Description frame ∷ [])
frame_parts frame is all =
    let P : FrameEntry → Type 0 = λ e. Bytes (frame_entry_bytes all e) in
    All-cons P (Common frame.cie) (Description frame ∷ []) (both (number 4 (4 + length frame.cie)) (both (number 4 DW_CIE_ID) (given frame.cie is.cie)))
    (All-cons P (Description frame) [] (both (number 4 (20 + length frame.code)) (both (number 4 (cie_place all frame.cie)) (both (number 8 frame.address) (both (number 8 frame.length) (given frame.code is.code))))) (All-nil P))

-- ---- the sections

module _ (graph : Graph) (well : IsWell graph) where
  abbrev IsUnit : OutUnit → Type 0
  IsUnit = IsWellUnit (IsTarget graph)

  pub abbrev_bytes : AreBytes (abbrev_section graph)
  abbrev_bytes = (numbered_have IsUnit table_bytes (λ u unit is. table_is u unit) 0 graph.units well.units).are

  pub info_bytes : AreBytes (info_section graph)
  info_bytes =
      (numbered_have IsUnit (λ u unit. unit_bytes (places_of graph u unit) (lists_place graph u unit) (table_place graph u) unit)
      (λ u unit is. unit_is (IsTarget graph) (places_of graph u unit) (lists_place graph u unit) (table_place graph u) unit is.each) 0 graph.units well.units).are

  pub str_bytes : AreBytes (str_section graph)
  str_bytes = (texts (texts_of graph) (all_once AreTextBytes bytes_eq _ (all_flat IsUnit AreTextBytes (λ unit. flat_map texts_of_node unit.nodes) (unit_texts_are (IsTarget graph)) graph.units well.units))).are

  pub line_bytes : AreBytes (line_section graph)
  line_bytes = (all_have IsUnit (lines_bytes (line_text_place graph)) (λ unit is. lines_are unit.version (line_text_place graph) unit.lines is.lines) graph.units well.units).are

  pub line_str_bytes : AreBytes (line_str_section graph)
  line_str_bytes = (texts (line_texts_of graph) (all_once AreTextBytes bytes_eq _ (all_flat IsUnit AreTextBytes line_texts_of_unit (line_texts_are (IsTarget graph)) graph.units well.units))).are

  all_ranges_are : (five : Bool) → Bytes (all_ranges five graph)
  all_ranges_are five =
      all_have IsUnit (λ unit. if stands_in five unit then unit_ranges unit else [])
      (λ unit is. either (stands_in five unit) (over_values_are (IsTarget graph) (ranges_bytes unit.version) unit (λ value v. ranges_are unit.version value) is.each) none) graph.units well.units

  all_locations_are : (five : Bool) → Bytes (all_locations five graph)
  all_locations_are five =
      numbered_have IsUnit (λ u unit. if stands_in five unit then unit_locations (own_node (places_of graph u unit)) unit else [])
      (λ u unit is. either (stands_in five unit)
      (over_values_are (IsTarget graph) (locations_bytes unit.version (own_node (places_of graph u unit))) unit (locations_are (IsTarget graph) unit.version unit.nodes (own_node (places_of graph u unit))) is.each) none) 0 graph.units well.units

  pub ranges_section_bytes : AreBytes (ranges_section graph)
  ranges_section_bytes = (all_ranges_are false).are

  pub rnglists_bytes : AreBytes (rnglists_section graph)
  rnglists_bytes = (behind_header_is (all_ranges true graph) (all_ranges_are true)).are

  pub loc_bytes : AreBytes (loc_section graph)
  loc_bytes = (all_locations_are false).are

  pub loclists_bytes : AreBytes (loclists_section graph)
  loclists_bytes = (behind_header_is (all_locations true graph) (all_locations_are true)).are

  pub aranges_section_bytes : AreBytes (aranges_section graph)
  aranges_section_bytes = (numbered_have IsUnit (λ u unit. aranges_bytes (unit_start graph u) unit.ranges) (λ u unit is. aranges_are (unit_start graph u) unit.ranges) 0 graph.units well.units).are

  pub frame_bytes : AreBytes (frame_section graph)
  frame_bytes =
      let all : List FrameEntry = frame_entries graph.frames in
      let P : FrameEntry → Type 0 = λ e. Bytes (frame_entry_bytes all e) in
      (all_have P (frame_entry_bytes all) (λ e is. is) all (all_once P same_entry _ (all_flat IsFrame P (λ f. Common f.cie ∷ Description f ∷ []) (λ f is. frame_parts f is all) graph.frames well.frames))).are

  -- all of them
  pub sections_are_bytes : All (λ section. AreBytes section.bytes) (all_sections graph)
  sections_are_bytes =
      All-from_recursion (λ section. AreBytes section.bytes) (all_sections graph)
      (abbrev_bytes, (info_bytes, (str_bytes, (line_bytes, (line_str_bytes, (ranges_section_bytes, (rnglists_bytes, (loc_bytes, (loclists_bytes, (aranges_section_bytes, (frame_bytes, tt)))))))))))
