-- The line tables of a graph are read at their places.
use Rattle.std.proofs.Common.{◌≡◌, ◌⊎◌, ◌<◌, ◌≤◌, ◌+◌, ◌==◌, ◌++◌, ◌^◌, ℕ, true, List, [], length, map, take, drop, get_or, slice_get, if◌then◌else◌, Option, Some, Ok, inl, inr, refl, sym, ap, subst, ◌∙◌, length-append, arith}
use Rattle.std.specs.Prelude.{IfSome}
use Rattle.std.specs.List.{enumerate_from, flat_map, list_any}
use Rattle.std.specs.Option.{option_map_or, unwrap_or}
use Rattle.std.specs.Str.{bytes_eq}
use Rattle.std.proofs.lemmas.List.{length-take, take-append-drop}
use Rattle.std.proofs.lemmas.List.Folds.{list_any_at}
use Rattle.std.proofs.lemmas.Slice.Eq.{bytes_eq-Decides}
use Rattle.ds_base.specs.DwarfNumbers.{LENGTH_RESERVED}
use Rattle.ds_base.specs.Texts.{ended, place_of, section_of}
use Rattle.ds_base.proofs.TextPlaces.{place_within, text_at_place}
use Rattle.dwarf_types.specs.declared.graph.Graph.{Graph}
use Rattle.dwarf_types.specs.declared.graph.OutUnit.{OutUnit}
use Rattle.dwarf_types.specs.declared.lines.FileName.{FileName}
use Rattle.dwarf_types.specs.declared.lines.OutLines.{OutLines}
use Rattle.dwarf_types.specs.Encode.{line_section, line_str_section}
use Rattle.dwarf_types.specs.Layout.{line_text_place, line_texts_of, line_texts_of_unit, lines_place}
use Rattle.dwarf_types.specs.LineTable.{line_table_bytes, lines_bytes}
use Rattle.dwarf_types.specs.Well.{IsWell}
use Rattle.dwarf_types.specs.WellLines.{IsLineTable}
use Rattle.macho_read.specs.declared.image.Image.{Image}
use Rattle.reloc_table.specs.declared.relocation.Relocs.{Relocs}
use Rattle.line_read.specs.Header.{line_at}
use Rattle.line_read.specs.Program.{lines_of}
use Rattle.line_laws.specs.Again.{AreThere, StandsAt, read_again}
use Rattle.line_laws.proofs.Items.{At}
use Rattle.line_laws.proofs.Whole.{stands_behind}
use Rattle.line_laws.proofs.Whole.{table_again as again_4}
use Rattle.line_laws.proofs.WithEntries.{table_again as again_5}
use Rattle.written_laws.specs.ReadUnits.{IsReadable, sections_of}
use Rattle.written_laws.proofs.Cuts.{Cut, any_back, any_flat, any_front, cut, numbered_first, without_numbers}
use Rattle.written_laws.proofs.Firsts.{once_any}
use Rattle.written_laws.proofs.Leads.{any_mapped}
use Rattle.written_laws.proofs.OwnUnit.{is_well, placed_in}
use Rattle.written_laws.proofs.OwnValues.{itself}

-- a text that has a place stands there
stands_there : (texts : List (List ℕ)) (text : List ℕ) (n : ℕ) → place_of texts text ≡ Some n → length (section_of texts) < 2 ^ 32 → StandsAt (section_of texts) text (unwrap_or (place_of texts text) 0)
stands_there texts text n at small =
    let within = place_within texts text n at in
    let place : unwrap_or (place_of texts text) 0 ≡ n = ap (λ (o : Option ℕ). unwrap_or o 0) at in
    let behind : drop n (section_of texts) ≡ ended text ++ drop (length text + 1) (drop n (section_of texts)) =
    sym (take-append-drop (length text + 1) (drop n (section_of texts))) ∙ ap (λ (front : List ℕ). front ++ drop (length text + 1) (drop n (section_of texts))) (text_at_place texts text n at) in
    record {
      front = take n (section_of texts);
      more = drop (length text + 1) (drop n (section_of texts));
      is = sym (take-append-drop n (section_of texts)) ∙ ap (λ (b : List ℕ). take n (section_of texts) ++ b) behind;
      there = omega (arith, place, within, length-take n (section_of texts));
      fits = omega (arith, place, within, small);
    }

module _ (graph : Graph) (well : IsWell graph) (readable : IsReadable graph) (u : ℕ) (unit : OutUnit) (at : slice_get graph.units u ≡ Some unit) (lines : OutLines) (lines_are : unit.lines ≡ Some lines) where
  abbrev text : List ℕ → ℕ
  text = line_text_place graph

  sound : IsLineTable unit.version lines
  sound = subst (λ (o : Option OutLines). IfSome o (IsLineTable unit.version)) lines_are (is_well graph well readable u unit at).lines

  table_cut : Cut (λ (n : ℕ × OutUnit). lines_bytes (line_text_place graph) n.1) (λ (n : ℕ × OutUnit). length (lines_bytes (line_text_place graph) n.1)) (λ n. refl) (enumerate_from 0 graph.units) u (u, unit)
  table_cut = cut (λ (n : ℕ × OutUnit). lines_bytes (line_text_place graph) n.1) (λ (n : ℕ × OutUnit). length (lines_bytes (line_text_place graph) n.1)) (λ n. refl) (enumerate_from 0 graph.units) u (u, unit) (numbered_first graph.units u unit at)

  -- the table among all
  module _ (version : ℕ) (is : unit.version ≡ version) where
    whole : line_section graph ≡ table_cut.front ++ (line_table_bytes version text lines ++ table_cut.more)
    whole =
        let table : lines_bytes (line_text_place graph) unit ≡ line_table_bytes version text lines =
        ap (λ (o : Option OutLines). option_map_or (line_table_bytes unit.version (line_text_place graph)) o []) lines_are ∙ ap (λ (v : ℕ). line_table_bytes v (line_text_place graph) lines) is in
        without_numbers (lines_bytes (line_text_place graph)) 0 graph.units ∙ table_cut.is ∙ ap (λ (b : List ℕ). table_cut.front ++ (b ++ table_cut.more)) table

    stands : At (line_at (line_section graph) (lines_place graph u)) (line_table_bytes version text lines ++ table_cut.more)
    stands =
        subst (λ (p : ℕ). At (line_at (line_section graph) p) (line_table_bytes version text lines ++ table_cut.more)) table_cut.there
        (subst (λ (b : List ℕ). At (line_at b (length table_cut.front)) (line_table_bytes version text lines ++ table_cut.more)) (sym whole) (stands_behind table_cut.front (line_table_bytes version text lines ++ table_cut.more)))

    small : length (line_table_bytes version text lines) < LENGTH_RESERVED + 4
    small =
        let all = ap length whole in
        let parts : length (line_table_bytes version text lines) ≤ length (table_cut.front ++ (line_table_bytes version text lines ++ table_cut.more)) = inside table_cut.front (line_table_bytes version text lines) table_cut.more in
        omega (arith, all, parts, readable.line)
      where
        inside : (a b c : List ℕ) → length b ≤ length (a ++ (b ++ c))
        inside a b c = omega (arith, length-append a (b ++ c), length-append b c)

  -- ---- the names of tables of version 5

  named : (five : unit.version ≡ 5) (name : List ℕ) → list_any (λ x. bytes_eq x name) (lines.dirs ++ map (λ file. file.name) lines.files) ≡ true → StandsAt (line_str_section graph) name (text name)
  named five name e =
      let own : line_texts_of_unit unit ≡ lines.dirs ++ map (λ file. file.name) lines.files =
      ap (λ (v : ℕ). if v == 5 then option_map_or (λ lines. lines.dirs ++ map (λ (file : FileName). file.name) lines.files) unit.lines [] else []) five
      ∙ ap (λ (o : Option OutLines). option_map_or (λ lines. lines.dirs ++ map (λ (file : FileName). file.name) lines.files) o []) lines_are in
      let here : list_any (λ x. bytes_eq x name) (line_texts_of_unit unit) ≡ true = ap (list_any (λ (x : List ℕ). bytes_eq x name)) own ∙ e in
      let all = any_flat (λ (x : List ℕ). bytes_eq x name) line_texts_of_unit graph.units u unit at here in
      let p = placed_in (line_texts_of graph) name (once_any bytes_eq (λ (a b : List ℕ) e. (bytes_eq-Decides a b).0 e) name (flat_map line_texts_of_unit graph.units) all) in
      stands_there (line_texts_of graph) name p.0 p.1 readable.line_texts

  there : unit.version ≡ 5 → AreThere (line_str_section graph) text lines
  there five = record {
    dirs = λ i d lt. named five (get_or lines.dirs i d) (any_front (λ (x : List ℕ). bytes_eq x (get_or lines.dirs i d)) lines.dirs (map (λ (file : FileName). file.name) lines.files) (list_any_at (λ (x : List ℕ). bytes_eq x (get_or lines.dirs i d)) lines.dirs i d lt (itself (get_or lines.dirs i d))));
    files = λ i d lt. named five (get_or lines.files i d).name (any_back (λ (x : List ℕ). bytes_eq x (get_or lines.files i d).name) lines.dirs (map (λ (file : FileName). file.name) lines.files)
        (any_mapped (λ (x : List ℕ). bytes_eq x (get_or lines.files i d).name) (λ (file : FileName). file.name) lines.files (list_any_at (λ (file : FileName). bytes_eq file.name (get_or lines.files i d).name) lines.files i d lt (itself (get_or lines.files i d).name))));
  }

  -- ---- both versions

  module _ (image : Image) (relocs : Relocs) (none : relocs.list ≡ []) where
    by_version : (unit.version ≡ 4) ⊎ (unit.version ≡ 5) → lines_of image relocs (sections_of graph) unit.version (lines_place graph u) ≡ Ok (read_again lines)
    by_version (inl four) = again_4 image relocs none text lines (subst (λ (v : ℕ). IsLineTable v lines) four sound) (sections_of graph) unit.version (line_at (line_section graph) (lines_place graph u)) table_cut.more (small 4 four) (stands 4 four)
    by_version (inr five) =
        ap (λ (v : ℕ). lines_of image relocs (sections_of graph) v (lines_place graph u)) five
        ∙ again_5 image relocs none text lines (subst (λ (v : ℕ). IsLineTable v lines) five sound) (sections_of graph) (there five) (line_at (line_section graph) (lines_place graph u)) table_cut.more (small 5 five) (stands 5 five)

    pub lines_again : lines_of image relocs (sections_of graph) unit.version (lines_place graph u) ≡ Ok (read_again lines)
    lines_again = by_version (is_well graph well readable u unit at).version
