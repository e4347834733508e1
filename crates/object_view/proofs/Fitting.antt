-- What was read keeps to what each step of an analysis asks of an attribute.
use Rattle.std.proofs.Common.{◌≡◌, ℕ, zero, suc, ◌<◌, ◌==◌, ◌&&◌, ◌||◌, Bool, true, false, cond, List, [], ◌∷◌, Option, Some, None, length, map, get_or, slice_get, Result, Ok, refl, sym, ap, subst, ◌∙◌, arith}
use Rattle.std.specs.Prelude.{IsSome, IfSome, is_none, is_some, if◌then◌else◌}
use Rattle.std.specs.List.{All, find, position_or_len}
use Rattle.std.specs.Option.{option_and_then, option_map_or}
use Rattle.std.proofs.lemmas.Bool.{eqb-true, lt-ltb}
use Rattle.std.proofs.lemmas.List.{length-map}
use Rattle.std.proofs.lemmas.List.Elements.{All-cons, All-map}
use Rattle.std.proofs.lemmas.Option.{get_or_from_slice_get, slice_get-get_or, slice_get_within}
use Rattle.ds_base.specs.DwarfNumbers.{DW_AT_stmt_list, DW_FORM_exprloc, DW_FORM_sec_offset}
use Rattle.ds_base.specs.declared.fault.Fault.{Fault}
use Rattle.ds_base.specs.Reading.{◌>>=◌, or_fault}
use Rattle.ds_base.proofs.Passing.{bind_ok, ok_is}
use Rattle.dwarf_types.specs.declared.address.Addr.{Addr}
use Rattle.dwarf_types.specs.declared.entry.Attr.{Attr}
use Rattle.dwarf_types.specs.declared.entry.Entry.{Entry}
use Rattle.dwarf_types.specs.declared.entry.InUnit.{InUnit}
use Rattle.dwarf_types.specs.declared.entry.RawAttr.{RawAttr}
use Rattle.dwarf_types.specs.declared.entry.RawEntry.{RawEntry}
use Rattle.dwarf_types.specs.declared.entry.RawUnits.{RawUnits}
use Rattle.dwarf_types.specs.declared.lists.RawSpan.{RawSpan}
use Rattle.dwarf_types.specs.declared.value.Value.{Value}
use Rattle.dwarf_types.specs.declared.value.Value.TheVariants as values
use Rattle.dwarf_types.specs.Raw.{attr_of, places_of}
use Rattle.dwarf_types.specs.SectionBytes.{SectionBytes}
use Rattle.addr_map.specs.declared.map.AddrMap.{AddrMap}
use Rattle.index_tables.specs.declared.bases.Bases.{Bases}
use Rattle.index_tables.specs.Bases.{bases_in}
use Rattle.index_tables.specs.Tables.{address_place}
use Rattle.moved_parts.specs.Spans.{spans_moved}
use Rattle.expr_resolve.specs.Context.{Context}
use Rattle.expr_resolve.specs.Expressions.{expression_of}
use Rattle.unit_tree.specs.declared.meaning.Meaning.{Meaning}
use Rattle.unit_tree.specs.declared.meaning.Meaning.TheVariants as meanings
use Rattle.unit_tree.specs.Inside.{AreInside, IsListInside, IsOffsetInside, IsRootInside, IsValueInside, LiesInside}
use Rattle.unit_tree.specs.Meaning.{is_address_index, table_of}
use Rattle.unit_tree.specs.Spelling.{begins_at}
use Rattle.object_view.specs.declared.units.UnitContext.{UnitContext}
use Rattle.object_view.specs.Attributes.{address_named, all_marked, attr_by, attrs_by, dangling, each_of, entries_by, entry_by, entry_marked, line_place, lines_marked, lines_value, number_at, offset_in, ranges_by_role, ranges_meant, ranges_read, section_offset, unnamed, value_meant, with_value}
use Rattle.object_read.specs.Opened.{Opened}
use Rattle.object_view.specs.Ready.{AllAttrs, AllRawAttrs, AreOfUnits, IsLinesInside, IsListAttr, IsReadAttr, IsReadValue, IsRooted, context_among}
use Rattle.object_view.specs.Stages.{MadeOnce, lists_meant, location_meant, range_meant}
use Rattle.object_view.specs.Units.{addr_base_of, context_of, contexts_of, no_unit}
use Rattle.object_view.proofs.Definitions.{context_same}
use Rattle.object_view.proofs.Kept.{Kept, all_kept, bare, entries_kept, given_kept, kept_length, raw_bare, stood}
use Rattle.object_view.proofs.Names.{each_all}
use Rattle.object_view.proofs.Understood.{as_attr, as_entry, attr_given, entries_given, entry_given, given_all}

-- ---- as it was read

place_behind : (p : ℕ → Bool) (x : ℕ) (xs : List ℕ) (b : Bool) → p x ≡ b → (b ≡ false → position_or_len p xs < length xs) → position_or_len p (x ∷ xs) < suc (length xs)
place_behind p x xs true e h = rw e (omega arith)
place_behind p x xs false e h = let behind = h refl in rw e (omega (arith, behind))

either : (b c : Bool) → ((b && true) || c) ≡ true → b ≡ false → c ≡ true
either true c e f = absurd cc
either false c e f = e

-- an entry begins at a place, so that is one of the places
found_before : (entries : List RawEntry) (place : ℕ) → begins_at entries None place ≡ true → position_or_len (λ (p : ℕ). p == place) (places_of entries) < length (places_of entries)
found_before [] place e = absurd cc
found_before (x ∷ entries) place e =
    place_behind (λ (p : ℕ). p == place) x.place (places_of entries) (x.place == place) refl (λ is. found_before entries place (either (x.place == place) (begins_at entries None place) e is))

found_place : (entries : List RawEntry) (place : ℕ) → begins_at entries None place ≡ true → IsSome (number_at (places_of entries) place)
found_place entries place e = rw (lt-ltb _ _ (found_before entries place e)) refl

-- an offset, or the index of an address
abbrev IsNamed : SectionBytes → ℕ → Bool → ℕ → Type 0
IsNamed sections addr_base b n = b ≡ true → IsSome (address_place sections addr_base n)

index_read : (sections : SectionBytes) (version : ℕ) (bases : Bases) (b : Bool) (meaning : Meaning) (n : ℕ) → IsOffsetInside sections version bases b meaning n → IsNamed sections bases.addresses b n
index_read sections version bases true meaning n h is = h
index_read sections version bases false meaning n h is = absurd cc

value_read : (sections : SectionBytes) (version : ℕ) (bases : Bases) (all : List RawEntry) (a : RawAttr) (value : Value) → IsValueInside sections version bases all a value → IsReadValue sections bases.addresses (places_of all) a value
value_read sections version bases all a (values.Address place) h = h
value_read sections version bases all a (values.Ref place) h = found_place all place h
value_read sections version bases all a (values.Block form bytes) h = h
value_read sections version bases all a (values.Offset n) h = index_read sections version bases (is_address_index a.form) (table_of a.name) n h
value_read sections version bases all a value h = tt

offset_listed : (sections : SectionBytes) (version : ℕ) (bases : Bases) (b : Bool) (meaning : Meaning) (n : ℕ) → IsOffsetInside sections version bases b meaning n → b ≡ false → IsListInside sections version meaning n
offset_listed sections version bases true meaning n h is = absurd cc
offset_listed sections version bases false meaning n h is = h

value_listed : (sections : SectionBytes) (version : ℕ) (bases : Bases) (all : List RawEntry) (a : RawAttr) (value : Value) (n : ℕ) → IsValueInside sections version bases all a value → is_address_index a.form ≡ false
    → value ≡ values.Offset n → IsListInside sections version (table_of a.name) n
value_listed sections version bases all a value n h no_index is =
    offset_listed sections version bases (is_address_index a.form) (table_of a.name) n (subst (IsValueInside sections version bases all a) is h) no_index

-- ---- what is known of a unit

found : (units : List InUnit) (entries : List RawEntry) (unit : ℕ) (u : InUnit) → slice_get units unit ≡ Some u → context_among (contexts_of entries units) unit ≡ context_of entries u
found units entries unit u is = context_same units entries unit ∙ ap (λ (o : Option InUnit). option_map_or (context_of entries) o no_unit) is

base_found : (entries : List RawEntry) (u : InUnit) (root : RawEntry) → slice_get entries u.first ≡ Some root → addr_base_of entries u ≡ (bases_in root.attrs).addresses
base_found entries u root is = ap (λ (o : Option RawEntry). option_map_or (λ (root : RawEntry). (bases_in root.attrs).addresses) o 0) is

module _ (sections : SectionBytes) (units : List InUnit) (entries : List RawEntry) where
  abbrev all : RawUnits
  all = record { units = units; entries = entries }

  abbrev known : ℕ → UnitContext
  known unit = context_among (contexts_of entries units) unit

  base_is : (e : RawEntry) (h : LiesInside sections all e) → (bases_in h.root.attrs).addresses ≡ (known e.unit).addr_base
  base_is e h = sym (ap (λ (u : UnitContext). u.addr_base) (found units entries e.unit h.unit h.its_unit) ∙ base_found entries h.unit h.root h.its_root)

  version_is : (e : RawEntry) (h : LiesInside sections all e) → h.unit.version ≡ (known e.unit).version
  version_is e h = sym (ap (λ (u : UnitContext). u.version) (found units entries e.unit h.unit h.its_unit))

  unit_there : (e : RawEntry) → LiesInside sections all e → e.unit < length units
  unit_there e h = slice_get_within units e.unit h.unit h.its_unit

  -- every entry is of a unit that is there
  pub raw_units : AreInside sections all → All (λ (e : RawEntry). e.unit < length units) entries
  raw_units h k d lt = unit_there (get_or entries k d) (h.values k d lt)

  pub all_read : AreInside sections all → AllRawAttrs (IsReadAttr sections (contexts_of entries units) (places_of entries)) entries
  all_read h k d lt i x within =
      let e = get_or entries k d in
      let a = get_or e.attrs i x in
      let lies = h.values k d lt in
      let there = unit_there e lies in (
        omega (arith, there, length-map units (context_of entries)),
        subst (λ (base : ℕ). IsReadValue sections base (places_of entries) a a.value) (base_is e lies) (value_read sections lies.unit.version (bases_in lies.root.attrs) entries a a.value (lies.values i x within)),
      )

  pub all_listed : AreInside sections all → AllRawAttrs (λ unit a. is_address_index a.form ≡ false → IsListAttr sections (known unit).version (attr_of a)) entries
  all_listed h k d lt i x within no_index n is =
      let e = get_or entries k d in
      let a = get_or e.attrs i x in
      let lies = h.values k d lt in
      subst (λ (version : ℕ). IsListInside sections version (table_of a.name) n) (version_is e lies)
      (value_listed sections lies.unit.version (bases_in lies.root.attrs) entries a a.value n (lies.values i x within) no_index is)

-- ---- offsets are what they were before a step

-- a step makes no offset of another value, nor another offset
abbrev KeepsOffsets : (ℕ → Attr → Result Value Fault) → Type 0
KeepsOffsets meant = (unit : ℕ) (a : Attr) (now : Value) (n : ℕ) → meant unit a ≡ Ok now → now ≡ values.Offset n → a.value ≡ values.Offset n

module _ (sections : SectionBytes) (version : ℕ → ℕ) where
  abbrev IsListed : ℕ → Attr → Type 0
  IsListed unit a = IsListAttr sections (version unit) a

  attr_kept : (meant : ℕ → Attr → Result Value Fault) → KeepsOffsets meant → (unit : ℕ) (a b : Attr) → IsListed unit a → attr_by (meant unit) a ≡ Ok b → IsListed unit b
  attr_kept meant keeps unit a b h e =
      let value = bind_ok (meant unit a) (λ value. Ok (with_value a value)) b e in
      subst (IsListed unit) (ok_is (with_value a value.0) b value.2) (λ n is. h n (keeps unit a value.0 n value.1 is))

  entry_kept : (meant : ℕ → Attr → Result Value Fault) → KeepsOffsets meant → (e now : Entry) → All (IsListed e.unit) e.attrs → entry_by (meant e.unit) e ≡ Ok now → All (IsListed now.unit) now.attrs
  entry_kept meant keeps e now h is =
      let attrs = bind_ok (attrs_by (meant e.unit) e.attrs) (λ attrs. Ok (record e { attrs = attrs })) now is in
      subst (λ (x : Entry). All (IsListed x.unit) x.attrs) (ok_is (record e { attrs = attrs.0 }) now attrs.2)
      (each_all (attr_by (meant e.unit)) (IsListed e.unit) (IsListed e.unit) (λ a b r i. attr_kept meant keeps e.unit a b r i) e.attrs attrs.0 attrs.1 h)

  listed_after : (meant : ℕ → Attr → Result Value Fault) → KeepsOffsets meant → (entries now : List Entry) → entries_by meant entries ≡ Ok now → AllAttrs IsListed entries → AllAttrs IsListed now
  listed_after meant keeps entries now e h =
      each_all (λ (x : Entry). entry_by (meant x.unit) x) (λ (x : Entry). All (IsListed x.unit) x.attrs) (λ (x : Entry). All (IsListed x.unit) x.attrs)
      (λ x y r i. entry_kept meant keeps x y r i) entries now e h

-- ---- the step of `__debug_info`

module _ (s : Context) (places : List ℕ) where
  no_block : (b : Bool) (form : ℕ) (bytes : List ℕ) (first : ℕ) (now : Value) (n : ℕ) → (if b then (expression_of s bytes first >>= λ ops. Ok (values.Expr ops)) else Ok (values.Block form bytes)) ≡ Ok now → now ≡ values.Offset n → values.Block form bytes ≡ values.Offset n
  no_block true form bytes first now n e is =
      let ops = bind_ok (expression_of s bytes first) (λ ops. Ok (values.Expr ops)) now e in
      absurd (let no : values.Expr ops.0 ≡ values.Offset n = ok_is (values.Expr ops.0) now ops.2 ∙ is in cc)
  no_block false form bytes first now n e is = ok_is (values.Block form bytes) now e ∙ is

  -- an index of an address is one no more
  no_index : (b : Bool) (a : RawAttr) (m : ℕ) (now : Value) (n : ℕ) → (if b then (or_fault (address_named s m) (unnamed a) >>= λ place. Ok (values.Address place)) else Ok (values.Offset m)) ≡ Ok now → now ≡ values.Offset n
      → (values.Offset m ≡ values.Offset n) × (b ≡ false)
  no_index true a m now n e is =
      let place = bind_ok (or_fault (address_named s m) (unnamed a)) (λ place. Ok (values.Address place)) now e in
      absurd (let no : values.Address place.0 ≡ values.Offset n = ok_is (values.Address place.0) now place.2 ∙ is in cc)
  no_index false a m now n e is = (ok_is (values.Offset m) now e ∙ is, refl)

  pub offset_was : (a : RawAttr) (value now : Value) (n : ℕ) → value_meant s places a value ≡ Ok now → now ≡ values.Offset n → value ≡ values.Offset n
  offset_was a (values.Address place) now n e is = absurd (let other = ok_is _ now e ∙ is in cc)
  offset_was a (values.Ref place) now n e is =
      let k = bind_ok (or_fault (number_at places place) (dangling a)) (λ k. Ok (values.Ref k)) now e in
      absurd (let other : values.Ref k.0 ≡ values.Offset n = ok_is (values.Ref k.0) now k.2 ∙ is in cc)
  offset_was a (values.Block form bytes) now n e is = no_block (form == DW_FORM_exprloc) form bytes _ now n e is
  offset_was a (values.Text text) now n e is = ok_is (values.Text text) now e ∙ is
  offset_was a (values.Number form bits) now n e is = ok_is (values.Number form bits) now e ∙ is
  offset_was a (values.Wide bytes) now n e is = ok_is (values.Wide bytes) now e ∙ is
  offset_was a (values.Expr ops) now n e is = ok_is (values.Expr ops) now e ∙ is
  offset_was a (values.Ranges spans) now n e is = ok_is (values.Ranges spans) now e ∙ is
  offset_was a (values.Locations items) now n e is = ok_is (values.Locations items) now e ∙ is
  offset_was a values.Lines now n e is = ok_is values.Lines now e ∙ is
  offset_was a (values.Offset m) now n e is = (no_index (is_address_index a.form) a m now n e is).0

  -- an offset that is left is no index of an address
  offset_meant_is : (a : RawAttr) (m : ℕ) (now : Value) (n : ℕ) → value_meant s places a (values.Offset m) ≡ Ok now → now ≡ values.Offset n → is_address_index a.form ≡ false
  offset_meant_is a m now n e is = (no_index (is_address_index a.form) a m now n e is).1

  pub no_index_left : (a : RawAttr) (value now : Value) (n : ℕ) → value_meant s places a value ≡ Ok now → now ≡ values.Offset n → is_address_index a.form ≡ false
  no_index_left a value now n e is =
      let was = offset_was a value now n e is in
      offset_meant_is a n now n (subst (λ (v : Value). value_meant s places a v ≡ Ok now) was e) is

pub info_listed : (sections : SectionBytes) (version : ℕ → ℕ) (context : ℕ → Context) (places : List ℕ) (raw : List RawEntry) (now : List Entry) → entries_given (λ unit a. value_meant (context unit) places a a.value) raw ≡ Ok now
    → AllRawAttrs (λ unit a. is_address_index a.form ≡ false → IsListAttr sections (version unit) (attr_of a)) raw → AllAttrs (λ unit a. IsListAttr sections (version unit) a) now
info_listed sections version context places raw now e h =
    given_all (λ unit a. value_meant (context unit) places a a.value) (λ unit a. is_address_index a.form ≡ false → IsListAttr sections (version unit) (attr_of a)) (λ unit a. IsListAttr sections (version unit) a)
    (λ unit a value r made n is. r (no_index_left (context unit) places a a.value value n made is) n (offset_was (context unit) places a a.value value n made is)) raw now e h

-- ---- line tables are marked, and range lists read

lines_was : (b : Bool) (value : Value) (n : ℕ) → (if b then values.Lines else value) ≡ values.Offset n → value ≡ values.Offset n
lines_was true value n e = absurd cc
lines_was false value n e = e

module _ (sections : SectionBytes) (version : ℕ) where
  abbrev IsListedHere : Attr → Type 0
  IsListedHere a = IsListAttr sections version a

  first_listed : (b : Bool) (a : Attr) (attrs others : List Attr) → IsListedHere a → All IsListedHere attrs → All IsListedHere others → All IsListedHere (if b then with_value a (lines_value a) ∷ attrs else a ∷ others)
  first_listed true a attrs others h behind marked = All-cons IsListedHere (with_value a (lines_value a)) attrs (λ n is. h n (lines_was (is_some (section_offset a)) a.value n is)) behind
  first_listed false a attrs others h behind marked = All-cons IsListedHere a others h marked

  marked_listed : (attrs : List Attr) → All IsListedHere attrs → All IsListedHere (lines_marked attrs)
  marked_listed [] h = h
  marked_listed (a ∷ attrs) h =
      let behind : All IsListedHere attrs = λ k d lt. h (suc k) d (omega arith) in
      first_listed (a.name == DW_AT_stmt_list) a attrs (lines_marked attrs) (h 0 a (omega arith)) behind (marked_listed attrs behind)

entry_listed : (sections : SectionBytes) (version : ℕ → ℕ) (b : Bool) (e : Entry) → All (IsListed sections version e.unit) e.attrs → let now = (if b then record e { attrs = lines_marked e.attrs } else e) in All (IsListed sections version now.unit) now.attrs
entry_listed sections version true e h = marked_listed sections (version e.unit) e.attrs h
entry_listed sections version false e h = h

pub all_marked_listed : (sections : SectionBytes) (version : ℕ → ℕ) (entries : List Entry) → AllAttrs (λ unit a. IsListAttr sections (version unit) a) entries → AllAttrs (λ unit a. IsListAttr sections (version unit) a) (all_marked entries)
all_marked_listed sections version entries h =
    All-map (λ (e : Entry). All (IsListed sections version e.unit) e.attrs) entry_marked entries (λ k d lt. entry_listed sections version (is_none (get_or entries k d).parent) (get_or entries k d) (h k d lt))

module _ (o : Opened) (m : AddrMap) (u : UnitContext) (base : Addr) where
  role_was : (role : Meaning) (place : ℕ) (now : Value) (n : ℕ) → ranges_by_role o m u base role place ≡ Ok now → now ≡ values.Offset n → values.Offset place ≡ values.Offset n
  role_was meanings.RangeList place now n e is =
      let spans = bind_ok (ranges_read o u base place) (λ (spans : List RawSpan). Ok (values.Ranges (spans_moved m spans))) now e in
      absurd (let other : values.Ranges (spans_moved m spans.0) ≡ values.Offset n = ok_is (values.Ranges (spans_moved m spans.0)) now spans.2 ∙ is in cc)
  role_was role place now n e is = ok_is (values.Offset place) now e ∙ is

  range_was : (a : Attr) (value now : Value) (n : ℕ) → ranges_meant o m u base a value ≡ Ok now → now ≡ values.Offset n → value ≡ values.Offset n
  range_was a (values.Offset place) now n e is = role_was (table_of a.name) place now n e is
  range_was a value now n e is = ok_is value now e ∙ is

pub ranges_listed : (sections : SectionBytes) (version : ℕ → ℕ) (o : Opened) (m : AddrMap) (unit_of : ℕ → UnitContext) (base : ℕ → Addr) (entries now : List Entry) → entries_by (λ unit a. ranges_meant o m (unit_of unit) (base unit) a a.value) entries ≡ Ok now
    → AllAttrs (λ unit a. IsListAttr sections (version unit) a) entries → AllAttrs (λ unit a. IsListAttr sections (version unit) a) now
ranges_listed sections version o m unit_of base entries now e h =
    listed_after sections version (λ unit a. ranges_meant o m (unit_of unit) (base unit) a a.value) (λ unit a value n made is. range_was o m (unit_of unit) (base unit) a a.value value n made is) entries now e h

-- ---- the line tables that roots name

-- an item that is made comes of one at the same place
pub each_got : {X Y : Type 0} (f : X → Result Y Fault) (xs : List X) (ys : List Y) → each_of f xs ≡ Ok ys → (k : ℕ) (y : Y) → slice_get ys k ≡ Some y → (x : X) × (slice_get xs k ≡ Some x) × (f x ≡ Ok y)
each_got f [] ys e k y is = absurd (let none : slice_get [] k ≡ Some y = ap (λ (zs : List _). slice_get zs k) (ok_is [] ys e) ∙ is in cc)
each_got f (x ∷ xs) ys e zero y is =
    let first = bind_ok (f x) (λ here. each_of f xs >>= λ others. Ok (here ∷ others)) ys e in
    let others = bind_ok (each_of f xs) (λ others. Ok (first.0 ∷ others)) ys first.2 in
    let same : Some first.0 ≡ Some y = ap (λ (zs : List _). slice_get zs 0) (ok_is (first.0 ∷ others.0) ys others.2) ∙ is in
    (x, refl, first.1 ∙ ap Ok cc)
each_got f (x ∷ xs) ys e (suc k) y is =
    let first = bind_ok (f x) (λ here. each_of f xs >>= λ others. Ok (here ∷ others)) ys e in
    let others = bind_ok (each_of f xs) (λ others. Ok (first.0 ∷ others)) ys first.2 in
    each_got f xs others.0 others.1 k y (ap (λ (zs : List _). slice_get zs (suc k)) (ok_is (first.0 ∷ others.0) ys others.2) ∙ is)

abbrev first_lines : List Attr → Option Attr
first_lines attrs = find (λ a. a.name == DW_AT_stmt_list) attrs

abbrev first_raw_lines : List RawAttr → Option RawAttr
first_raw_lines attrs = find (λ a. a.name == DW_AT_stmt_list) attrs

-- the first stmt_list is made of the first that was read
module _ (meant : RawAttr → Result Value Fault) where
  abbrev WasFirst : Option RawAttr → Attr → Type 0
  WasFirst o a = (was : RawAttr) × (o ≡ Some was) × ((value : Value) × (meant was ≡ Ok value) × (a ≡ as_attr was value))

  lines_step : (b : Bool) (x : RawAttr) (value : Value) (attrs : List RawAttr) (others : List Attr) (a : Attr) → meant x ≡ Ok value → (first_lines others ≡ Some a → WasFirst (first_raw_lines attrs) a)
      → cond b (Some (as_attr x value)) (first_lines others) ≡ Some a → WasFirst (cond b (Some x) (first_raw_lines attrs)) a
  lines_step true x value attrs others a made behind e = let same : as_attr x value ≡ a = cc in (x, refl, (value, made, sym same))
  lines_step false x value attrs others a made behind e = behind e

  lines_were : (attrs : List RawAttr) (now : List Attr) → each_of (attr_given meant) attrs ≡ Ok now → (a : Attr) → first_lines now ≡ Some a → WasFirst (first_raw_lines attrs) a
  lines_were [] now e a is = absurd (let none : None ≡ Some a = ap first_lines (ok_is [] now e) ∙ is in cc)
  lines_were (x ∷ attrs) now e a is =
      let first = bind_ok (attr_given meant x) (λ here. each_of (attr_given meant) attrs >>= λ others. Ok (here ∷ others)) now e in
      let others = bind_ok (each_of (attr_given meant) attrs) (λ others. Ok (first.0 ∷ others)) now first.2 in
      let value = bind_ok (meant x) (λ value. Ok (as_attr x value)) first.0 first.1 in
      let now_is : (as_attr x value.0 ∷ others.0) ≡ now = ap (λ (y : Attr). y ∷ others.0) (ok_is (as_attr x value.0) first.0 value.2) ∙ ok_is (first.0 ∷ others.0) now others.2 in
      lines_step (x.name == DW_AT_stmt_list) x value.0 attrs others.0 a value.1 (λ later. lines_were attrs others.0 others.1 a later) (ap first_lines now_is ∙ is)

offset_of : (value : Value) (n : ℕ) → offset_in value ≡ Some n → value ≡ values.Offset n
offset_of (values.Offset m) n e = let same : m ≡ n = cc in ap (λ (k : ℕ). values.Offset k) same
offset_of value n e = absurd cc

section_offset_of : (b : Bool) (value : Value) (n : ℕ) → (if b then offset_in value else None) ≡ Some n → (b ≡ true) × (value ≡ values.Offset n)
section_offset_of true value n e = (refl, offset_of value n e)
section_offset_of false value n e = absurd cc

some_if : (o : Option ℕ) (P : ℕ → Type 0) → ((n : ℕ) → o ≡ Some n → P n) → IfSome o P
some_if None P h = tt
some_if (Some n) P h = h n refl

lines_if : (o : Option Attr) (P : ℕ → Type 0) → ((a : Attr) (n : ℕ) → o ≡ Some a → section_offset a ≡ Some n → P n) → IfSome (option_and_then section_offset o) P
lines_if None P h = tt
lines_if (Some a) P h = some_if (section_offset a) P (λ n is. h a n refl is)

root_if : (o : Option Entry) (P : ℕ → Type 0) → ((e : Entry) → o ≡ Some e → IfSome (line_place e) P) → IfSome (option_and_then line_place o) P
root_if None P h = tt
root_if (Some e) P h = h e refl

pub one_of : {X : Type 0} (P : X → Type 0) (xs : List X) (k : ℕ) (x : X) → All P xs → slice_get xs k ≡ Some x → P x
one_of P xs k x h is = subst P (get_or_from_slice_get xs k x x is) (h k x (slice_get_within xs k x is))

unit_lines : (sections : SectionBytes) (context : ℕ → Context) (places : List ℕ) (raw : List RawEntry) (now : List Entry) → entries_given (λ unit a. value_meant (context unit) places a a.value) raw ≡ Ok now → All (IsRootInside sections) raw
    → (unit : InUnit) → IsRooted raw unit → IsLinesInside sections now unit
unit_lines sections context places raw now made inside unit rooted =
    let meant : ℕ → RawAttr → Result Value Fault = λ unit a. value_meant (context unit) places a a.value in
    let P : ℕ → Type 0 = λ n. n < length sections.line in
    root_if (slice_get now unit.first) P (λ e is.
    let was = each_got (λ (x : RawEntry). entry_given (meant x.unit) x) raw now made unit.first e is in
    let root : was.0.parent ≡ None = subst (λ (o : Option RawEntry). IfSome o (λ x. x.parent ≡ None)) was.1 rooted in
    let attrs = bind_ok (each_of (attr_given (meant was.0.unit)) was.0.attrs) (λ attrs. Ok (as_entry was.0 attrs)) e was.2 in
    let attrs_are : attrs.0 ≡ e.attrs = ap (λ (x : Entry). x.attrs) (ok_is (as_entry was.0 attrs.0) e attrs.2) in
    lines_if (first_lines e.attrs) P (λ a n named offset.
    let first = lines_were (meant was.0.unit) was.0.attrs attrs.0 attrs.1 a (ap first_lines attrs_are ∙ named) in
    let made_of : section_offset (as_attr first.0 first.2.0) ≡ Some n = ap section_offset (sym first.2.2) ∙ offset in
    let number = section_offset_of (first.0.form == DW_FORM_sec_offset) first.2.0 n made_of in
    let value = offset_was (context was.0.unit) places first.0 first.0.value first.2.0 n first.2.1 number.1 in
    one_of (IsRootInside sections) raw unit.first was.0 inside was.1 first.0 n root first.1 (eqb-true first.0.form DW_FORM_sec_offset number.0) value))

pub units_lines : (sections : SectionBytes) (context : ℕ → Context) (places : List ℕ) (raw : List RawEntry) (now : List Entry) (units : List InUnit) → entries_given (λ unit a. value_meant (context unit) places a a.value) raw ≡ Ok now → All (IsRootInside sections) raw
    → All (IsRooted raw) units → All (IsLinesInside sections now) units
units_lines sections context places raw now units made inside rooted k d lt = unit_lines sections context places raw now made inside (get_or units k d) (rooted k d lt)

-- ---- no entry comes or goes, or into another unit

-- an attribute of an entry whose unit is there
pub all_listed_there : (count : ℕ) (P : ℕ → Attr → Type 0) (entries : List Entry) → AreOfUnits count entries → AllAttrs P entries → AllAttrs (λ unit a. (unit < count) × P unit a) entries
all_listed_there count P entries units h k d lt i x within = (units k d lt, h k d lt i x within)

units_kept : {X : Type 0} (was : X → Entry) (count : ℕ) (now : List Entry) (old : List X) → map bare now ≡ map was old → All (λ (x : X). (was x).unit < count) old → AreOfUnits count now
units_kept {X} was count now old kept h k d lt =
    let s = stood bare was now old kept k (get_or now k d) (slice_get-get_or now k d lt) in
    let there = one_of (λ (x : X). (was x).unit < count) old k s.0 h s.1 in
    subst (λ (n : ℕ). n < count) (sym (ap (λ (e : Entry). e.unit) s.2)) there

pub marked_units : (count : ℕ) (entries : List Entry) → AreOfUnits count entries → AreOfUnits count (all_marked entries)
marked_units count entries h = units_kept bare count (all_marked entries) entries (all_kept entries) h

pub step_units : (meant : ℕ → Attr → Result Value Fault) (count : ℕ) (entries now : List Entry) → entries_by meant entries ≡ Ok now → AreOfUnits count entries → AreOfUnits count now
step_units meant count entries now e h = units_kept bare count now entries (entries_kept meant entries now e) h

pub info_units : (context : ℕ → Context) (places : List ℕ) (count : ℕ) (raw : List RawEntry) (now : List Entry) → entries_given (λ unit a. value_meant (context unit) places a a.value) raw ≡ Ok now
    → All (λ (e : RawEntry). e.unit < count) raw → AreOfUnits count now
info_units context places count raw now e h = units_kept raw_bare count now raw (given_kept (λ unit a. value_meant (context unit) places a a.value) raw now e) h

same_count : (now old : List Entry) → Kept now old → length now ≡ length old
same_count now old kept = sym (length-map now bare) ∙ ap (λ (es : List Entry). length es) kept ∙ length-map old bare

pub lists_count : (o : Opened) (m : AddrMap) (t : MadeOnce) (bases : List Addr) (entries now : List Entry) → lists_meant o m t bases entries ≡ Ok now → length now ≡ length entries
lists_count o m t bases entries now e =
    let range = range_meant o m t bases in
    let locate = location_meant o m t bases in
    let ranged = bind_ok (entries_by range (all_marked entries)) (λ ranged. entries_by locate ranged) now e in
    same_count now entries (entries_kept locate ranged.0 now ranged.2 ∙ entries_kept range (all_marked entries) ranged.0 ranged.1 ∙ all_kept entries)

pub info_count : (context : ℕ → Context) (places : List ℕ) (raw : List RawEntry) (now : List Entry) → entries_given (λ unit a. value_meant (context unit) places a a.value) raw ≡ Ok now → length now ≡ length raw
info_count context places raw now e = kept_length now raw (given_kept (λ unit a. value_meant (context unit) places a a.value) raw now e)
