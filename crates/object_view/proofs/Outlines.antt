-- An analysis has the entries, attributes and references that its object's sections spell.
use Rattle.std.proofs.Common.{◌≡◌, ℕ, suc, ◌==◌, Bool, true, false, List, [], ◌∷◌, map, get_or, slice_get, Option, Some, None, Result, Ok, refl, sym, ap, subst, ◌∙◌, arith}
use Rattle.std.specs.Prelude.{IsSome, is_none, is_some, if◌then◌else◌}
use Rattle.std.specs.List.{All}
use Rattle.std.specs.Option.{option_and_then, option_map}
use Rattle.std.proofs.lemmas.Bool.{eqb-true}
use Rattle.std.proofs.lemmas.List.Quantifiers.{position-Some}
use Rattle.std.proofs.lemmas.Option.{slice_get-map}
use Rattle.ds_base.specs.DwarfNumbers.{DW_AT_stmt_list, DW_FORM_exprloc, DW_FORM_sec_offset}
use Rattle.ds_base.specs.declared.fault.Fault.{Fault}
use Rattle.ds_base.specs.Reading.{◌>>=◌, or_fault}
use Rattle.ds_base.proofs.Passing.{bind_ok, found_ok, ok_is}
use Rattle.dwarf_types.specs.declared.address.Addr.{Addr}
use Rattle.dwarf_types.specs.declared.analysis.Analysis.{Analysis}
use Rattle.dwarf_types.specs.declared.entry.Attr.{Attr}
use Rattle.dwarf_types.specs.declared.entry.Entry.{Entry}
use Rattle.dwarf_types.specs.declared.entry.InUnit.{InUnit}
use Rattle.dwarf_types.specs.declared.entry.RawAttr.{RawAttr}
use Rattle.dwarf_types.specs.declared.entry.RawEntry.{RawEntry}
use Rattle.dwarf_types.specs.declared.entry.RawUnits.{RawUnits}
use Rattle.dwarf_types.specs.declared.lines.OutLines.{OutLines}
use Rattle.dwarf_types.specs.declared.lists.RawLocation.{RawLocation}
use Rattle.dwarf_types.specs.declared.lists.RawSpan.{RawSpan}
use Rattle.dwarf_types.specs.declared.value.Value.{Value}
use Rattle.dwarf_types.specs.declared.value.Value.TheVariants as values
use Rattle.dwarf_types.specs.Live.{Stands, target_in}
use Rattle.dwarf_types.specs.Raw.{places_of}
use Rattle.dwarf_types.specs.SectionBytes.{SectionBytes}
use Rattle.addr_map.specs.declared.map.AddrMap.{AddrMap}
use Rattle.frame_table.specs.Frames.{frames_of}
use Rattle.moved_parts.specs.Frames.{frames_moved}
use Rattle.moved_parts.specs.Spans.{spans_moved}
use Rattle.expr_resolve.specs.Context.{Context}
use Rattle.expr_resolve.specs.Expressions.{expression_of}
use Rattle.unit_tree.specs.declared.meaning.Meaning.{Meaning}
use Rattle.unit_tree.specs.declared.meaning.Meaning.TheVariants as meanings
use Rattle.unit_tree.specs.Inside.{AreInside}
use Rattle.unit_tree.specs.Meaning.{is_address_index, table_of}
use Rattle.object_view.specs.Analysis.{units_analysed}
use Rattle.object_view.specs.declared.units.UnitContext.{UnitContext}
use Rattle.object_view.specs.Attributes.{address_named, all_marked, attr_by, attrs_by, dangling, each_of, entries_by, entries_meant, entry_by, info_context, info_step, item_meant, item_moved, lines_marked, lines_meant, lines_value, locations_by_role, locations_context, locations_meant, locations_read, locations_step, number_at, offset_in, ranges_by_role, ranges_meant, ranges_read, ranges_step, unit_base, unit_with_lines, unit_with_table, units_meant, unnamed, value_meant, with_value}
use Rattle.object_view.specs.Code.{code_of}
use Rattle.object_read.specs.Opened.{Opened}
use Rattle.object_view.specs.Ready.{IsReadAttr, IsReadValue, context_among}
use Rattle.object_view.specs.Spelled.{ByItem, IsAttr, IsEntry, IsUnit, LeadsAs}
use Rattle.object_view.specs.Units.{base_types, contexts_of, unit_context}
use Rattle.object_view.proofs.Fitting.{all_read}
use Rattle.object_view.proofs.InPlace.{got}
use Rattle.object_view.proofs.Kept.{bare, each_seen, raw_bare}
use Rattle.object_view.proofs.Understood.{as_attr, as_entry, attr_given, entries_given, entry_given, given_is}
use Rattle.std.specs.List.{flat_map}

-- ---- what is seen of attributes and entries

abbrev Seen : Type 0
Seen = ℕ × ℕ × Option ℕ

-- an attribute's name, its form, and the entry to which it leads
abbrev seen : Attr → Seen
seen a = (a.name, a.form, target_in a.value)

-- the same of one that was read, with the places of all entries
abbrev led : List ℕ → RawAttr → Seen
led places a = (a.name, a.form, option_and_then (number_at places) (target_in a.value))

abbrev Outline : Type 0
Outline = Entry × List Seen

abbrev outline : Entry → Outline
outline e = (bare e, map seen e.attrs)

abbrev outline_led : List ℕ → RawEntry → Outline
outline_led places e = (raw_bare e, map (led places) e.attrs)

-- ---- steps

-- a step over understood entries leaves the targets of values
module _ (meant : ℕ → Attr → Result Value Fault) (targets : (unit : ℕ) (a : Attr) (now : Value) → meant unit a ≡ Ok now → target_in now ≡ target_in a.value) where
  attr_seen : (unit : ℕ) (a b : Attr) → attr_by (meant unit) a ≡ Ok b → seen b ≡ seen a
  attr_seen unit a b e =
      let value = bind_ok (meant unit a) (λ value. Ok (with_value a value)) b e in
      ap seen (sym (ok_is (with_value a value.0) b value.2)) ∙ ap (λ (t : Option ℕ). (a.name, a.form, t)) (targets unit a value.0 value.1)

  entry_seen : (e now : Entry) → entry_by (meant e.unit) e ≡ Ok now → outline now ≡ outline e
  entry_seen e now is =
      let attrs = bind_ok (attrs_by (meant e.unit) e.attrs) (λ attrs. Ok (record e { attrs = attrs })) now is in
      ap outline (sym (ok_is (record e { attrs = attrs.0 }) now attrs.2))
      ∙ ap (λ (s : List Seen). (bare e, s)) (each_seen seen seen (attr_by (meant e.unit)) (λ x y i. attr_seen e.unit x y i) e.attrs attrs.0 attrs.1)

  entries_seen : (entries now : List Entry) → entries_by meant entries ≡ Ok now → map outline now ≡ map outline entries
  entries_seen entries now e = each_seen outline outline (λ (x : Entry). entry_by (meant x.unit) x) (λ x y i. entry_seen x y i) entries now e

-- what is understood leads to the numbers of entries
module _ (places : List ℕ) (meant : ℕ → RawAttr → Result Value Fault) (targets : (unit : ℕ) (a : RawAttr) (now : Value) → meant unit a ≡ Ok now → target_in now ≡ option_and_then (number_at places) (target_in a.value)) where
  attr_led : (unit : ℕ) (a : RawAttr) (b : Attr) → attr_given (meant unit) a ≡ Ok b → seen b ≡ led places a
  attr_led unit a b e =
      let value = bind_ok (meant unit a) (λ value. Ok (as_attr a value)) b e in
      ap seen (sym (ok_is (as_attr a value.0) b value.2)) ∙ ap (λ (t : Option ℕ). (a.name, a.form, t)) (targets unit a value.0 value.1)

  entry_led : (e : RawEntry) (now : Entry) → entry_given (meant e.unit) e ≡ Ok now → outline now ≡ outline_led places e
  entry_led e now is =
      let attrs = bind_ok (each_of (attr_given (meant e.unit)) e.attrs) (λ attrs. Ok (as_entry e attrs)) now is in
      ap outline (sym (ok_is (as_entry e attrs.0) now attrs.2))
      ∙ ap (λ (s : List Seen). (raw_bare e, s)) (each_seen seen (led places) (attr_given (meant e.unit)) (λ x y i. attr_led e.unit x y i) e.attrs attrs.0 attrs.1)

  entries_led : (raw : List RawEntry) (now : List Entry) → entries_given meant raw ≡ Ok now → map outline now ≡ map (outline_led places) raw
  entries_led raw now e = each_seen outline (outline_led places) (λ (x : RawEntry). entry_given (meant x.unit) x) (λ x y i. entry_led x y i) raw now e

-- ---- values

module _ (s : Context) (places : List ℕ) where
  block_target : (b : Bool) (form : ℕ) (bytes : List ℕ) (first : ℕ) (now : Value) → (if b then (expression_of s bytes first >>= λ ops. Ok (values.Expr ops)) else Ok (values.Block form bytes)) ≡ Ok now → target_in now ≡ None
  block_target true form bytes first now e =
      let ops = bind_ok (expression_of s bytes first) (λ ops. Ok (values.Expr ops)) now e in
      ap target_in (sym (ok_is (values.Expr ops.0) now ops.2))
  block_target false form bytes first now e = ap target_in (sym (ok_is (values.Block form bytes) now e))

  index_target : (b : Bool) (a : RawAttr) (n : ℕ) (now : Value) → (if b then (or_fault (address_named s n) (unnamed a) >>= λ place. Ok (values.Address place)) else Ok (values.Offset n)) ≡ Ok now → target_in now ≡ None
  index_target true a n now e =
      let place = bind_ok (or_fault (address_named s n) (unnamed a)) (λ place. Ok (values.Address place)) now e in
      ap target_in (sym (ok_is (values.Address place.0) now place.2))
  index_target false a n now e = ap target_in (sym (ok_is (values.Offset n) now e))

  value_target : (a : RawAttr) (value now : Value) → value_meant s places a value ≡ Ok now → target_in now ≡ option_and_then (number_at places) (target_in value)
  value_target a (values.Address place) now e = ap target_in (sym (ok_is _ now e))
  value_target a (values.Ref place) now e =
      let k = bind_ok (or_fault (number_at places place) (dangling a)) (λ k. Ok (values.Ref k)) now e in
      ap target_in (sym (ok_is (values.Ref k.0) now k.2)) ∙ sym (found_ok (number_at places place) (dangling a) k.0 k.1)
  value_target a (values.Block form bytes) now e = block_target (form == DW_FORM_exprloc) form bytes _ now e
  value_target a (values.Text text) now e = ap target_in (sym (ok_is (values.Text text) now e))
  value_target a (values.Number form bits) now e = ap target_in (sym (ok_is (values.Number form bits) now e))
  value_target a (values.Wide bytes) now e = ap target_in (sym (ok_is (values.Wide bytes) now e))
  value_target a (values.Expr ops) now e = ap target_in (sym (ok_is (values.Expr ops) now e))
  value_target a (values.Ranges spans) now e = ap target_in (sym (ok_is (values.Ranges spans) now e))
  value_target a (values.Locations items) now e = ap target_in (sym (ok_is (values.Locations items) now e))
  value_target a values.Lines now e = ap target_in (sym (ok_is values.Lines now e))
  value_target a (values.Offset n) now e = index_target (is_address_index a.form) a n now e

-- a section offset is no reference
offset_target : (b : Bool) (value : Value) → target_in (if is_some (if b then offset_in value else None) then values.Lines else value) ≡ target_in value
offset_target true (values.Offset n) = refl
offset_target true value = refl
offset_target false value = refl

lines_target : (a : Attr) → target_in (lines_value a) ≡ target_in a.value
lines_target a = offset_target (a.form == DW_FORM_sec_offset) a.value

module _ (o : Opened) (m : AddrMap) (u : UnitContext) (base : Addr) where
  range_role_target : (role : Meaning) (place : ℕ) (now : Value) → ranges_by_role o m u base role place ≡ Ok now → target_in now ≡ None
  range_role_target meanings.RangeList place now e =
      let spans = bind_ok (ranges_read o u base place) (λ (spans : List RawSpan). Ok (values.Ranges (spans_moved m spans))) now e in
      ap target_in (sym (ok_is (values.Ranges (spans_moved m spans.0)) now spans.2))
  range_role_target role place now e = ap target_in (sym (ok_is (values.Offset place) now e))

  range_target : (a : Attr) (value now : Value) → ranges_meant o m u base a value ≡ Ok now → target_in now ≡ target_in value
  range_target a (values.Offset place) now e = range_role_target (table_of a.name) place now e
  range_target a value now e = ap target_in (sym (ok_is value now e))

module _ (s : Context) (base : Addr) where
  location_role_target : (role : Meaning) (place : ℕ) (now : Value) → locations_by_role s base role place ≡ Ok now → target_in now ≡ None
  location_role_target meanings.LocationList place now e =
      let items = bind_ok (locations_read s base place) (λ (items : List RawLocation). each_of (item_meant s) items >>= λ meant. Ok (values.Locations (flat_map (item_moved s.map) meant))) now e in
      let meant = bind_ok (each_of (item_meant s) items.0) (λ meant. Ok (values.Locations (flat_map (item_moved s.map) meant))) now items.2 in
      ap target_in (sym (ok_is (values.Locations (flat_map (item_moved s.map) meant.0)) now meant.2))
  location_role_target role place now e = ap target_in (sym (ok_is (values.Offset place) now e))

  location_target : (a : Attr) (value now : Value) → locations_meant s base a value ≡ Ok now → target_in now ≡ target_in value
  location_target a (values.Offset place) now e = location_role_target (table_of a.name) place now e
  location_target a value now e = ap target_in (sym (ok_is value now e))

-- ---- line tables

first_seen : (b : Bool) (a : Attr) (attrs others : List Attr) → map seen others ≡ map seen attrs → map seen (if b then with_value a (lines_value a) ∷ attrs else a ∷ others) ≡ seen a ∷ map seen attrs
first_seen true a attrs others e = ap (λ (t : Option ℕ). (a.name, a.form, t) ∷ map seen attrs) (lines_target a)
first_seen false a attrs others e = ap (λ (s : List Seen). seen a ∷ s) e

marked_seen : (attrs : List Attr) → map seen (lines_marked attrs) ≡ map seen attrs
marked_seen [] = refl
marked_seen (a ∷ attrs) = first_seen (a.name == DW_AT_stmt_list) a attrs (lines_marked attrs) (marked_seen attrs)

entry_marked_seen : (b : Bool) (e : Entry) → outline (if b then record e { attrs = lines_marked e.attrs } else e) ≡ outline e
entry_marked_seen true e = ap (λ (s : List Seen). (bare e, s)) (marked_seen e.attrs)
entry_marked_seen false e = refl

all_marked_seen : (entries : List Entry) → map outline (all_marked entries) ≡ map outline entries
all_marked_seen [] = refl
all_marked_seen (e ∷ entries) = rw (entry_marked_seen (is_none e.parent) e, all_marked_seen entries) refl

-- ---- units

abbrev UnitSeen : Type 0
UnitSeen = (ℕ × ℕ) × (ℕ × ℕ)

abbrev unit_seen : InUnit → UnitSeen
unit_seen u = ((u.first, u.count), (u.version, u.language))

lines_seen : (o : Opened) (m : AddrMap) (u now : InUnit) (dir : List ℕ) (place : Option ℕ) → unit_with_table o m u dir place ≡ Ok now → unit_seen now ≡ unit_seen u
lines_seen o m u now dir None e = ap unit_seen (sym (ok_is u now e))
lines_seen o m u now dir (Some place) e =
    let lines = bind_ok (lines_meant o m u.version dir place) (λ (lines : OutLines). Ok (record u { lines = Some lines })) now e in
    ap unit_seen (sym (ok_is (record u { lines = Some lines.0 }) now lines.2))

units_seen : (o : Opened) (m : AddrMap) (entries : List Entry) (units now : List InUnit) → units_meant o m entries units ≡ Ok now → map unit_seen now ≡ map unit_seen units
units_seen o m entries units now e = each_seen unit_seen unit_seen (unit_with_lines o m entries) (λ x y i. lines_seen o m x y _ _ i) units now e

-- ---- item by item

by_item : {X Y V : Type 0} (P : Y → Type 0) (Alike : Y → X → Type 0) (view : X → V) (was : Y → V) → ((y : Y) (x : X) → P y → view x ≡ was y → Alike y x) → (xs : List X) (ys : List Y) → All P ys → map view xs ≡ map was ys → ByItem Alike ys xs
by_item P Alike view was alike [] [] h e = tt
by_item P Alike view was alike [] (y ∷ ys) h e = absurd cc
by_item P Alike view was alike (x ∷ xs) [] h e = absurd cc
by_item P Alike view was alike (x ∷ xs) (y ∷ ys) h e =
    let heads : view x ≡ was y = cc in
    let tails : map view xs ≡ map was ys = cc in
    (alike y x (h 0 y (omega arith)) heads, by_item P Alike view was alike xs ys (λ k d lt. h (suc k) d (omega arith)) tails)

ref_of : (value : Value) (k : ℕ) → target_in value ≡ Some k → value ≡ values.Ref k
ref_of (values.Ref j) k e = let number : j ≡ k = cc in ap (λ (n : ℕ). values.Ref n) number
ref_of value k e = absurd cc

some_of : (o : Option ℕ) → IsSome o → (k : ℕ) × (o ≡ Some k)
some_of None h = absurd cc
some_of (Some k) h = (k, refl)

mapped_some : {X V : Type 0} (f : X → V) (o : Option X) (v : V) → option_map f o ≡ Some v → (x : X) × (o ≡ Some x) × (f x ≡ v)
mapped_some f None v e = absurd cc
mapped_some f (Some x) v e = (x, refl, cc)

-- the places of entries of an analysis
abbrev places_now : List Entry → List ℕ
places_now entries = map (λ e. e.place) entries

module _ (places : List ℕ) (all : List Entry) (are : places_now all ≡ places) where
  -- the entry that stands at a place
  target_there : (place k : ℕ) → number_at places place ≡ Some k → (target : Entry) × Stands all k target × (target.place ≡ place)
  target_there place k e =
      let found = position-Some (λ (p : ℕ). p == place) places k 0 e in
      let number : get_or places k 0 ≡ place = eqb-true (get_or places k 0) place found.1 in
      let there : slice_get places k ≡ Some (get_or places k 0) = got places k 0 found.0 in
      let mapped : option_map (λ (x : Entry). x.place) (slice_get all k) ≡ Some place = sym (slice_get-map (λ (x : Entry). x.place) all k) ∙ ap (λ (ps : List ℕ). slice_get ps k) are ∙ there ∙ ap Some number in
      let target = mapped_some (λ (x : Entry). x.place) (slice_get all k) place mapped in
      (target.0, target.1, target.2)

  module _ (sections : SectionBytes) (addr_base : ℕ) where
    abbrev IsRead : RawAttr → Value → Type 0
    IsRead a value = IsReadValue sections addr_base places a value

    value_leads : (a : RawAttr) (spelled now : Value) → IsRead a spelled → target_in now ≡ option_and_then (number_at places) (target_in spelled) → LeadsAs all spelled now
    value_leads a (values.Ref place) now h e =
        let k = some_of (number_at places place) h in
        let target = target_there place k.0 k.1 in
        (k.0, target.0, ref_of now k.0 (e ∙ k.1), target.1, target.2)
    value_leads a (values.Address place) now h e = e
    value_leads a (values.Block form bytes) now h e = e
    value_leads a (values.Text text) now h e = e
    value_leads a (values.Number form bits) now h e = e
    value_leads a (values.Wide bytes) now h e = e
    value_leads a (values.Expr ops) now h e = e
    value_leads a (values.Ranges spans) now h e = e
    value_leads a (values.Locations items) now h e = e
    value_leads a values.Lines now h e = e
    value_leads a (values.Offset n) now h e = e

    attr_is : (spelled : RawAttr) (now : Attr) → IsRead spelled spelled.value → seen now ≡ led places spelled → IsAttr all spelled now
    attr_is spelled now h e = record {
      name = ap (λ (s : Seen). s.0) e;
      form = ap (λ (s : Seen). s.1) e;
      leads = value_leads spelled spelled.value now.value h (ap (λ (s : Seen). s.2) e);
    }

    entry_is : (spelled : RawEntry) (now : Entry) → All (λ (a : RawAttr). IsRead a a.value) spelled.attrs → outline now ≡ outline_led places spelled → IsEntry all spelled now
    entry_is spelled now h e =
        let bare_is : bare now ≡ raw_bare spelled = ap (λ (o : Outline). o.0) e in
        record {
          parent = ap (λ (x : Entry). x.parent) bare_is;
          unit = ap (λ (x : Entry). x.unit) bare_is;
          place = ap (λ (x : Entry). x.place) bare_is;
          tag = ap (λ (x : Entry). x.tag) bare_is;
          attrs = by_item (λ (a : RawAttr). IsRead a a.value) (IsAttr all) seen (led places) (λ y x r i. attr_is y x r i) now.attrs spelled.attrs h (ap (λ (o : Outline). o.1) e);
        }

unit_is : (spelled now : InUnit) → unit_seen now ≡ unit_seen spelled → IsUnit spelled now
unit_is spelled now e = record {
  first = ap (λ (s : UnitSeen). s.0.0) e;
  count = ap (λ (s : UnitSeen). s.0.1) e;
  version = ap (λ (s : UnitSeen). s.1.0) e;
  language = ap (λ (s : UnitSeen). s.1.1) e;
}

-- ---- the analysis

outline_places : (now : List Entry) → places_now now ≡ map (λ (o : Outline). o.0.place) (map outline now)
outline_places [] = refl
outline_places (e ∷ now) = ap (λ (ps : List ℕ). e.place ∷ ps) (outline_places now)

led_places : (places : List ℕ) (old : List RawEntry) → places_of old ≡ map (λ (o : Outline). o.0.place) (map (outline_led places) old)
led_places places [] = refl
led_places places (e ∷ old) = ap (λ (ps : List ℕ). e.place ∷ ps) (led_places places old)

places_from : (places : List ℕ) (now : List Entry) (old : List RawEntry) → map outline now ≡ map (outline_led places) old → places_now now ≡ places_of old
places_from places now old e = outline_places now ∙ ap (map (λ (o : Outline). o.0.place)) e ∙ sym (led_places places old)

-- what was read, and what it is in an analysis
pub record IsOfRaw (raw : RawUnits) (a : Analysis) : Type 0 where
  pub units : ByItem IsUnit raw.units a.units
  pub entries : ByItem (IsEntry a.entries) raw.entries a.entries

pub analysis_of_raw : (o : Opened) (m : AddrMap) (raw : RawUnits) (a : Analysis) → AreInside o.sections raw → units_analysed o m raw ≡ Ok a → IsOfRaw raw a
unfolding units_analysed
analysis_of_raw o m raw a inside e =
    let places : List ℕ = places_of raw.entries in
    let last : List InUnit → List Entry → Result Analysis Fault = λ units entries. (frames_of o.image o.relocs.frame o.sections.frame >>= λ frames. Ok (record { units = units; entries = entries; code = code_of m entries; frames = frames_moved m frames })) in
    let locate : List Entry → List Entry → Result (List Entry) Fault = λ meant ranged. entries_by (locations_step o m raw meant) ranged in
    let range : List Entry → Result (List Entry) Fault = λ meant. entries_by (ranges_step o m raw meant) (all_marked meant) in
    let meant = bind_ok (entries_meant o m raw) (λ meant. units_meant o m meant raw.units >>= λ units. range meant >>= λ ranged. locate meant ranged >>= λ entries. last units entries) a e in
    let units = bind_ok (units_meant o m meant.0 raw.units) (λ units. range meant.0 >>= λ ranged. locate meant.0 ranged >>= λ entries. last units entries) a meant.2 in
    let ranged = bind_ok (range meant.0) (λ ranged. locate meant.0 ranged >>= λ entries. last units.0 entries) a units.2 in
    let entries = bind_ok (locate meant.0 ranged.0) (λ entries. last units.0 entries) a ranged.2 in
    let frames = bind_ok (frames_of o.image o.relocs.frame o.sections.frame) (λ frames. Ok (record { units = units.0; entries = entries.0; code = code_of m entries.0; frames = frames_moved m frames })) a entries.2 in
    let done : Analysis = record { units = units.0; entries = entries.0; code = code_of m entries.0; frames = frames_moved m frames.0 } in
    let seen_meant : map outline meant.0 ≡ map (outline_led places) raw.entries =
    entries_led places (info_step o m raw) (λ unit x now i. value_target (info_context o m (base_types raw.entries) unit (unit_context raw.units raw.entries unit)) places x x.value now i) raw.entries meant.0
    (given_is (info_step o m raw) raw.entries meant.0 meant.1) in
    let seen_ranged : map outline ranged.0 ≡ map outline (all_marked meant.0) =
    entries_seen (ranges_step o m raw meant.0) (λ unit x now i. range_target o m (unit_context raw.units raw.entries unit) (unit_base raw.units meant.0 unit) x x.value now i) (all_marked meant.0) ranged.0 ranged.1 in
    let seen_located : map outline entries.0 ≡ map outline ranged.0 =
    entries_seen (locations_step o m raw meant.0)
    (λ unit x now i. location_target (locations_context o m (base_types raw.entries) unit (unit_context raw.units raw.entries unit)) (unit_base raw.units meant.0 unit) x x.value now i) ranged.0 entries.0 entries.1 in
    let whole : map outline entries.0 ≡ map (outline_led places) raw.entries = seen_located ∙ seen_ranged ∙ all_marked_seen meant.0 ∙ seen_meant in
    let are : places_now entries.0 ≡ places = places_from places entries.0 raw.entries whole in
    let u : ByItem IsUnit raw.units units.0 = by_item (λ (x : InUnit). Unit {0}) IsUnit unit_seen unit_seen (λ y x t i. unit_is y x i) units.0 raw.units (λ k d lt. tt) (units_seen o m meant.0 raw.units units.0 units.1) in
    let contexts : List UnitContext = contexts_of raw.entries raw.units in
    let es : ByItem (IsEntry entries.0) raw.entries entries.0 =
    by_item (λ (x : RawEntry). All (λ (b : RawAttr). IsReadAttr o.sections contexts places x.unit b) x.attrs) (IsEntry entries.0) outline (outline_led places)
    (λ y x r i. entry_is places entries.0 are o.sections (context_among contexts y.unit).addr_base y x (λ k d lt. (r k d lt).1) i) entries.0 raw.entries (all_read o.sections raw.units raw.entries inside) whole in
    subst (IsOfRaw raw) (ok_is done a frames.2) (record { units = u; entries = es })
