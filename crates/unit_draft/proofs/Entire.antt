-- A unit that was drafted.
use Rattle.std.proofs.Common.{◌≡◌, ◌==◌, ℕ, Bool, true, false, if◌then◌else◌, zero, suc, ◌+◌, ◌-◌, ◌^◌, ◌<◌, ◌≤◌, List, [], ◌∷◌, ◌++◌, fold, length, map, take, get_or, Err, refl, sym, ap, subst, ◌∙◌, arith, length-append}
use Rattle.std.specs.List.{cons_option, enumerate_from, filter_map, flat_map, sum_by}
use mathlib.Core.Path.{fun_ext}
use Rattle.std.specs.Str.{bytes_eq}
use Rattle.std.proofs.lemmas.List.{same_lists}
use Rattle.std.proofs.lemmas.List.Concat.{flat_map-append}
use Rattle.std.proofs.lemmas.List.Sums.{sum_by-cons}
use Rattle.byteorder.specs.Endian.{little_bytes}
use Rattle.ds_base.specs.DwarfNumbers.{DW_UT_compile}
use Rattle.ds_base.specs.FirstUse.{once}
use Rattle.ds_base.specs.Texts.{with_text}
use Rattle.text_pool.proofs.FirstUses.{once-append}
use Rattle.dwarf_types.specs.declared.graph.Node.{Node}
use Rattle.dwarf_types.specs.declared.graph.OutAttr.{OutAttr}
use Rattle.dwarf_types.specs.declared.graph.OutUnit.{OutUnit}
use Rattle.dwarf_types.specs.declared.graph.OutValue.{OutValue}
use Rattle.dwarf_types.specs.declared.graph.OutValue.TheVariants as values
use Rattle.dwarf_types.specs.Encode.{unit_locations, unit_ranges}
use Rattle.dwarf_types.specs.Entries.{OutEntry, entries_bytes, entries_of, entry_len, entry_of, header_fields, header_len, node_place, unit_bytes, unit_len}
use Rattle.dwarf_types.specs.Layout.{text_of, texts_of_node}
use Rattle.dwarf_types.specs.Lists.{ranges_bytes, locations_bytes}
use Rattle.dwarf_types.specs.Places.{ListPlaces}
use Rattle.dwarf_types.proofs.Lengths.{length-entries}
use Rattle.patches.specs.Filling.{Filling, filled}
use Rattle.unit_draft.specs.declared.drafting.Drafting.{Drafting}
use Rattle.unit_draft.specs.declared.error.DraftError.{DraftError}
use Rattle.unit_draft.specs.declared.error.DraftError.TheVariants as errors
use Rattle.unit_draft.specs.Long.{RefusesLong}
use Rattle.unit_draft.specs.World.{Stands, World}
use Rattle.unit_draft.specs.Whole.{header_by, told}
use Rattle.unit_draft.specs.Appends.{AppendsEntries, Fits, all_locations, all_ranges, all_texts, attrs_of, len_of, next_lists, nowhere, places_from, texts_in}
use Rattle.unit_draft.specs.Drafted.{node_places}
use Rattle.unit_draft.proofs.Appending.{same_next}
use Rattle.unit_draft.proofs.Entering.{plain, plain_fits}
use Rattle.unit_draft.proofs.Placing.{get_node_place, length_entries, length_made, own_is}

-- ---- places

length_places : (es : List OutEntry) (p : ℕ) → length (places_from p es) ≡ length es
length_places [] p = refl
length_places (e ∷ es) p = ap suc (length_places es (p + entry_len e))

get_place : (es : List OutEntry) (p k d : ℕ) → k < length es → get_or (places_from p es) k d ≡ p + sum_by entry_len (take k es)
get_place [] p k d lt = absurd (omega (arith, lt))
get_place (e ∷ es) p zero d lt = omega arith
get_place (e ∷ es) p (suc k) d lt = get_place es (p + entry_len e) k d (omega (arith, lt)) ∙ omega (arith, sum_by-cons entry_len e (take k es))

module _ (u : ℕ) (unit : OutUnit) where
  pub places_are : places_from (header_len unit.version) (entries_of u unit) ≡ node_places u unit
  places_are =
      let here = length_places (entries_of u unit) (header_len unit.version) ∙ length_entries u unit in
      same_lists (places_from (header_len unit.version) (entries_of u unit)) (node_places u unit) (here ∙ sym (length_made unit.nodes (λ n. node_place u unit n.0)))
      (λ k d lt. get_place (entries_of u unit) (header_len unit.version) k d (omega (arith, lt, here, length_entries u unit)) ∙ sym (get_node_place u unit k d (omega (arith, lt, here))))

-- ---- the values of all entries

module _ {X : Type 0} (g : OutAttr → List X) (u : ℕ) (all : List Node) where
  by_number : (a : ℕ) (ns : List Node) → flat_map g (attrs_of (map (λ n. entry_of u all n.0 n.1) (enumerate_from a ns))) ≡ flat_map (λ node. flat_map g node.attrs) ns
  by_number a [] = refl
  by_number a (n ∷ ns) =
      flat_map-append g n.attrs (attrs_of (map (λ (m : ℕ × Node). entry_of u all m.0 m.1) (enumerate_from (a + 1) ns)))
      ∙ ap (λ (rest : List X). flat_map g n.attrs ++ rest) (by_number (a + 1) ns)

text_step : (v : OutValue) (rest : List (List ℕ)) → texts_in v ++ rest ≡ cons_option (text_of v) rest
text_step (values.Address n) rest = refl
text_step (values.Text t) rest = refl
text_step (values.Number f n) rest = refl
text_step (values.Wide b) rest = refl
text_step (values.Block f b) rest = refl
text_step (values.Expr p) rest = refl
text_step (values.Ref t) rest = refl
text_step (values.Ranges s) rest = refl
text_step (values.Locations i) rest = refl
text_step values.Lines rest = refl

texts_of_attrs : (attrs : List OutAttr) → all_texts attrs ≡ filter_map (λ a. text_of a.value) attrs
texts_of_attrs [] = refl
texts_of_attrs (a ∷ attrs) = text_step a.value (all_texts attrs) ∙ ap (cons_option (text_of a.value)) (texts_of_attrs attrs)

-- ---- the draft

-- the header, from the version on
length_behind : (five : Bool) (version table : ℕ) → length (little_bytes 2 version ++ (if five then DW_UT_compile ∷ 8 ∷ little_bytes 4 table else little_bytes 4 table ++ (8 ∷ []))) ≡ (if five then 8 else 7)
length_behind true version table = refl
length_behind false version table = refl

four_more : (five : Bool) → 4 + (if five then 8 else 7) ≡ (if five then 12 else 11)
four_more true = refl
four_more false = refl

length_header : (size version table : ℕ) → length (little_bytes 4 size ++ (little_bytes 2 version ++ header_fields version table)) ≡ header_len version
length_header size version table =
    length-append (little_bytes 4 size) (little_bytes 2 version ++ header_fields version table) ∙ ap (λ (n : ℕ). 4 + n) (length_behind (version == 5) version table) ∙ four_more (version == 5)

header_is : (number : ℕ) (unit : OutUnit) (start : Drafting) → ((f : Filling) → filled start.info f ≡ header_by unit.version f) → len_of start ≡ header_len unit.version
header_is number unit start header = ap length (header nowhere) ∙ length_header 0 unit.version 0

-- the header and all entries
pub all_len : (number : ℕ) (unit : OutUnit) (start : Drafting) → ((f : Filling) → filled start.info f ≡ header_by unit.version f) → len_of start + sum_by entry_len (entries_of number unit) ≡ unit_len number unit
all_len number unit start header = ap (λ (n : ℕ). n + sum_by entry_len (entries_of number unit)) (header_is number unit start header)

-- a refusal is handed on
pub refuses_on : (X Y : Type 0) (e : DraftError) (m n : ℕ) → m ≡ n → RefusesLong {X = X} (Err e) m → RefusesLong {X = Y} (Err e) n
refuses_on X Y errors.Unit m n same long = subst (λ (k : ℕ). 2 ^ 28 ≤ k) same long
refuses_on X Y errors.NoMemory m n same long = tt

module _ (number : ℕ) (unit : OutUnit) (start final : Drafting) (header : (f : Filling) → filled start.info f ≡ header_by unit.version f) (no_ranges : start.ranges ≡ [])
    (no_locations : (f : Filling) → filled start.locations f ≡ []) (no_names : start.names ≡ []) (h : AppendsEntries number unit.version start final (entries_of number unit)) where
  pub start_len : len_of start ≡ header_len unit.version
  start_len = header_is number unit start header

  pub final_len : len_of final ≡ unit_len number unit
  final_len =
      let w = plain number unit.version in
      let bytes = entries_bytes w.places (next_lists w start) (entries_of number unit) in
      ap length (h.info w (plain_fits number unit.version final.names)) ∙ length-append (filled start.info nowhere) bytes ∙ ap (λ (n : ℕ). n + length bytes) start_len
      ∙ ap (λ (n : ℕ). header_len unit.version + n) (length-entries w.places (next_lists w start) (entries_of number unit))

  pub final_ranges : final.ranges ≡ unit_ranges unit
  final_ranges =
      h.ranges ∙ ap (λ (front : List ℕ). front ++ all_ranges unit.version (attrs_of (entries_of number unit))) no_ranges ∙ by_number (λ a. ranges_bytes unit.version a.value) number unit.nodes 0 unit.nodes

  pub final_names : final.names ≡ once bytes_eq (flat_map texts_of_node unit.nodes)
  final_names =
      let uses = all_texts (attrs_of (entries_of number unit)) in
      h.texts ∙ ap (λ (names : List (List ℕ)). fold with_text names uses) no_names ∙ once-append [] uses
      ∙ ap (once bytes_eq) (by_number (λ a. texts_in a.value) number unit.nodes 0 unit.nodes ∙ ap (λ (f : Node → List (List ℕ)). flat_map f unit.nodes) (fun_ext (λ n. texts_of_attrs n.attrs)))

  abbrev settled_world : World → World
  settled_world w = record { filling = told number unit w.filling; places = w.places; lists = w.lists; table = w.table }

  settled_fits : (w : World) (line_texts : List (List ℕ)) → Stands number unit final.names line_texts w → Fits number unit.version final.names (settled_world w)
  settled_fits w line_texts st = record {
    unit = st.unit;
    of_version = st.version;
    node = λ k. own_is number unit k ∙ sym (st.own k);
    base = λ k. own_is number unit k ∙ sym (st.own k);
    text = st.text;
    entry = st.entry;
    ranges = st.ranges;
    locations = st.locations;
    lines = st.lines;
  }

  next_start : (w : World) → next_lists w start ≡ w.lists
  next_start w = same_next _ _ w.lists.ranges w.lists.locations (omega (arith, ap length no_ranges)) (omega (arith, ap length (no_locations w.filling)))

  pub final_info : (w : World) (line_texts : List (List ℕ)) → Stands number unit final.names line_texts w → filled final.info (told number unit w.filling) ≡ unit_bytes w.places w.lists w.table unit
  final_info w line_texts st =
      let v = settled_world w in
      let len = unit_len number unit - 4 in
      let entries = λ (next : ListPlaces). entries_bytes w.places next (entries_of number unit) in
      h.info v (settled_fits w line_texts st) ∙ ap (λ (front : List ℕ). front ++ entries (next_lists v start)) (header v.filling)
      ∙ ap (λ (table : ℕ). (little_bytes 4 len ++ (little_bytes 2 unit.version ++ header_fields unit.version table)) ++ entries (next_lists v start)) st.table
      ∙ ap (λ (next : ListPlaces). (little_bytes 4 len ++ (little_bytes 2 unit.version ++ header_fields unit.version w.table)) ++ entries next) (next_start v)
      ∙ ap (λ (u : ℕ). (little_bytes 4 (unit_len u unit - 4) ++ (little_bytes 2 unit.version ++ header_fields unit.version w.table)) ++ entries_bytes w.places w.lists (entries_of u unit)) (sym st.unit)

  pub final_locations : (f : Filling) → filled final.locations (told number unit f) ≡ unit_locations (node_place number unit) unit
  final_locations f =
      let place = node_place number unit in
      h.locations (told number unit f) place (own_is number unit) ∙ ap (λ (front : List ℕ). front ++ all_locations unit.version place (attrs_of (entries_of number unit))) (no_locations (told number unit f))
      ∙ by_number (λ a. locations_bytes unit.version place a.value) number unit.nodes 0 unit.nodes
