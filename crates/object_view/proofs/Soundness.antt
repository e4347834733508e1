-- Every analysis is sound: steps lead references to entries, and expressions name base types of their units.
use Rattle.std.proofs.Common.{◌≡◌, ℕ, suc, ◌<◌, ◌==◌, Bool, true, false, List, [], ◌∷◌, Option, Some, None, length, get_or, Result, Ok, refl, sym, subst, ◌∙◌, arith}
use Rattle.std.specs.Prelude.{if◌then◌else◌, is_none, is_some}
use Rattle.std.specs.List.{All, flat_map}
use Rattle.std.proofs.lemmas.List.Quantifiers.{position-Some}
use Rattle.std.proofs.lemmas.List.Elements.{All-nil, All-cons, All-map}
use Rattle.ds_base.specs.DwarfNumbers.{DW_AT_stmt_list, DW_FORM_exprloc}
use Rattle.ds_base.specs.declared.fault.Fault.{Fault}
use Rattle.ds_base.specs.declared.fault.Kind.TheVariants as kinds
use Rattle.ds_base.specs.Reading.{◌>>=◌, or_fault, refuse_if}
use Rattle.dwarf_types.specs.declared.address.Addr.{Addr}
use Rattle.dwarf_types.specs.declared.address.Span.{Span}
use Rattle.dwarf_types.specs.declared.entry.Attr.{Attr}
use Rattle.dwarf_types.specs.declared.entry.Entry.{Entry}
use Rattle.dwarf_types.specs.declared.entry.RawAttr.{RawAttr}
use Rattle.dwarf_types.specs.declared.expr.Op.{Op}
use Rattle.dwarf_types.specs.declared.lists.Location.{Location}
use Rattle.dwarf_types.specs.declared.lists.RawLocation.{RawLocation}
use Rattle.dwarf_types.specs.declared.lists.RawSpan.{RawSpan}
use Rattle.dwarf_types.specs.declared.value.Value.{Value}
use Rattle.dwarf_types.specs.declared.value.Value.TheVariants as values
use Rattle.dwarf_types.specs.Live.{operations_of, target_in}
use Rattle.ds_base.proofs.Passing.{bind_ok, found_ok, ok_is, passed}
use Rattle.addr_map.specs.declared.map.AddrMap.{AddrMap}
use Rattle.moved_parts.specs.Spans.{span_moved, spans_moved}
use Rattle.expr_resolve.specs.declared.context.BaseType.{BaseType}
use Rattle.expr_resolve.specs.Context.{Context}
use Rattle.expr_resolve.specs.Expressions.{expression_of}
use Rattle.unit_tree.specs.declared.meaning.Meaning.{Meaning}
use Rattle.unit_tree.specs.declared.meaning.Meaning.TheVariants as meanings
use Rattle.unit_tree.specs.Meaning.{is_address_index, table_of}
use Rattle.object_view.specs.declared.units.UnitContext.{UnitContext}
use Rattle.object_view.specs.Attributes.{address_named, all_marked, attr_by, attrs_by, dangling, each_of, entries_by, entry_by, entry_marked, is_too_long, item_meant, item_moved, lines_marked, lines_value, locations_by_role, locations_meant, locations_read, number_at, ranges_by_role, ranges_meant, ranges_read, section_offset, unnamed, value_meant, with_value}
use Rattle.object_read.specs.Opened.{Opened}
use Rattle.object_view.proofs.KnownTypes.{IsKnownOp, ops_known}
use Rattle.object_view.proofs.Names.{all_flat, all_map, each_all}
use Rattle.object_view.proofs.RawValues.{IsPlain}

-- a reference leads to one of so many entries, and operations name base types of the unit
pub record IsGood (types : List BaseType) (count unit : ℕ) (value : Value) : Type 0 where
  pub target : (j : ℕ) → target_in value ≡ Some j → j < count
  pub known : All (IsKnownOp types unit) (operations_of value)

abbrev pub AreGood : List BaseType → ℕ → List Entry → Type 0
AreGood types count entries = All (λ (e : Entry). All (λ (a : Attr). IsGood types count e.unit a.value) e.attrs) entries

-- ---- values that have neither

-- it is no reference
abbrev IsNone : Option ℕ → Type 0
IsNone o = o ≡ None

no_target : (o : Option ℕ) (count : ℕ) → o ≡ None → (j : ℕ) → o ≡ Some j → j < count
no_target o count none j some = absurd (let e : None ≡ Some j = sym none ∙ some in cc)

plain_good : (types : List BaseType) (count unit : ℕ) (value : Value) → target_in value ≡ None → IsPlain value → IsGood types count unit value
plain_good types count unit value none plain = record {
  target = no_target (target_in value) count none;
  known = subst (All (IsKnownOp types unit)) (sym plain) (All-nil (IsKnownOp types unit));
}

-- ---- attributes of `__debug_info`

abbrev as_it_is : Value → Result Value Fault
as_it_is value = Ok value

module _ (s : Context) (places : List ℕ) (count : ℕ) (long : length places ≡ count) where
  ref_good : (place k : ℕ) → number_at places place ≡ Some k → IsGood s.bases count s.unit (values.Ref k)
  ref_good place k found = record {
    target = λ j e. let same : k ≡ j = cc in let h = position-Some (λ (p : ℕ). p == place) places k 0 found in omega (arith, h.0, same, long);
    known = All-nil (IsKnownOp s.bases s.unit);
  }

  block_good : (b : Bool) (form : ℕ) (bytes : List ℕ) (first : ℕ) (value : Value) → (if b then (expression_of s bytes first >>= λ ops. Ok (values.Expr ops)) else Ok (values.Block form bytes)) ≡ Ok value → IsGood s.bases count s.unit value
  block_good true form bytes first value e =
      let ops = bind_ok (expression_of s bytes first) (λ ops. Ok (values.Expr ops)) value e in
      subst (IsGood s.bases count s.unit) (ok_is (values.Expr ops.0) value ops.2) (record { target = no_target None count refl; known = ops_known s bytes first ops.0 ops.1 })
  block_good false form bytes first value e = subst (IsGood s.bases count s.unit) (ok_is (values.Block form bytes) value e) (plain_good s.bases count s.unit (values.Block form bytes) refl refl)

  kept_good : (value now : Value) → target_in value ≡ None → IsPlain value → as_it_is value ≡ Ok now → IsGood s.bases count s.unit now
  kept_good value now none plain e = subst (IsGood s.bases count s.unit) (ok_is value now e) (plain_good s.bases count s.unit value none plain)

  index_good : (b : Bool) (a : RawAttr) (n : ℕ) (now : Value) → (if b then (or_fault (address_named s n) (unnamed a) >>= λ place. Ok (values.Address place)) else Ok (values.Offset n)) ≡ Ok now → IsGood s.bases count s.unit now
  index_good true a n now e =
      let place = bind_ok (or_fault (address_named s n) (unnamed a)) (λ place. Ok (values.Address place)) now e in
      kept_good (values.Address place.0) now refl refl place.2
  index_good false a n now e = kept_good (values.Offset n) now refl refl e

  pub value_good : (a : RawAttr) (value now : Value) → IsPlain value → value_meant s places a value ≡ Ok now → IsGood s.bases count s.unit now
  value_good a (values.Address place) now plain e = kept_good _ now refl refl e
  value_good a (values.Ref place) now plain e =
      let k = bind_ok (or_fault (number_at places place) (dangling a)) (λ k. Ok (values.Ref k)) now e in
      subst (IsGood s.bases count s.unit) (ok_is (values.Ref k.0) now k.2) (ref_good place k.0 (found_ok (number_at places place) (dangling a) k.0 k.1))
  value_good a (values.Block form bytes) now plain e = block_good (form == DW_FORM_exprloc) form bytes _ now e
  value_good a (values.Text text) now plain e = kept_good (values.Text text) now refl refl e
  value_good a (values.Number form bits) now plain e = kept_good (values.Number form bits) now refl refl e
  value_good a (values.Wide bytes) now plain e = kept_good (values.Wide bytes) now refl refl e
  value_good a (values.Expr ops) now plain e = kept_good (values.Expr ops) now refl plain e
  value_good a (values.Ranges spans) now plain e = kept_good (values.Ranges spans) now refl refl e
  value_good a (values.Locations items) now plain e = kept_good (values.Locations items) now refl plain e
  value_good a values.Lines now plain e = kept_good values.Lines now refl refl e
  value_good a (values.Offset n) now plain e = index_good (is_address_index a.form) a n now e

-- ---- line tables

lines_good : (types : List BaseType) (count unit : ℕ) (b : Bool) (value : Value) → IsGood types count unit value → IsGood types count unit (if b then values.Lines else value)
lines_good types count unit true value h = plain_good types count unit values.Lines refl refl
lines_good types count unit false value h = h

module _ (types : List BaseType) (count unit : ℕ) where
  abbrev IsGoodAttr : Attr → Type 0
  IsGoodAttr a = IsGood types count unit a.value

  first_good : (b : Bool) (a : Attr) (attrs others : List Attr) → IsGoodAttr a → All IsGoodAttr attrs → All IsGoodAttr others → All IsGoodAttr (if b then with_value a (lines_value a) ∷ attrs else a ∷ others)
  first_good true a attrs others h behind marked = All-cons IsGoodAttr (with_value a (lines_value a)) attrs (lines_good types count unit (is_some (section_offset a)) a.value h) behind
  first_good false a attrs others h behind marked = All-cons IsGoodAttr a others h marked

  marked_good : (attrs : List Attr) → All IsGoodAttr attrs → All IsGoodAttr (lines_marked attrs)
  marked_good [] h = h
  marked_good (a ∷ attrs) h =
      let behind : All IsGoodAttr attrs = λ k d lt. h (suc k) d (omega arith) in
      first_good (a.name == DW_AT_stmt_list) a attrs (lines_marked attrs) (h 0 a (omega arith)) behind (marked_good attrs behind)

abbrev IsGoodEntry : List BaseType → ℕ → Entry → Type 0
IsGoodEntry types count e = All (λ (a : Attr). IsGood types count e.unit a.value) e.attrs

entry_good : (types : List BaseType) (count : ℕ) (b : Bool) (e : Entry) → IsGoodEntry types count e → IsGoodEntry types count (if b then record e { attrs = lines_marked e.attrs } else e)
entry_good types count true e h = marked_good types count e.unit e.attrs h
entry_good types count false e h = h

pub all_marked_good : (types : List BaseType) (count : ℕ) (entries : List Entry) → AreGood types count entries → AreGood types count (all_marked entries)
all_marked_good types count entries h = All-map (IsGoodEntry types count) entry_marked entries (λ k d lt. entry_good types count (is_none (get_or entries k d).parent) (get_or entries k d) (h k d lt))

-- ---- lists

module _ (o : Opened) (m : AddrMap) (types : List BaseType) (count unit : ℕ) where
  abbrev IsGoodHere : Value → Type 0
  IsGoodHere value = IsGood types count unit value

  ranges_role_good : (u : UnitContext) (base : Addr) (role : Meaning) (place : ℕ) (now : Value) → ranges_by_role o m u base role place ≡ Ok now → IsGoodHere now
  ranges_role_good u base meanings.RangeList place now e =
      let spans = bind_ok (ranges_read o u base place) (λ (spans : List RawSpan). Ok (values.Ranges (spans_moved m spans))) now e in
      subst IsGoodHere (ok_is (values.Ranges (spans_moved m spans.0)) now spans.2) (plain_good types count unit (values.Ranges (spans_moved m spans.0)) refl refl)
  ranges_role_good u base role place now e = subst IsGoodHere (ok_is (values.Offset place) now e) (plain_good types count unit (values.Offset place) refl refl)

  pub ranges_good : (u : UnitContext) (base : Addr) (a : Attr) (value now : Value) → IsGoodHere value → ranges_meant o m u base a value ≡ Ok now → IsGoodHere now
  ranges_good u base a (values.Offset place) now h e = ranges_role_good u base (table_of a.name) place now e
  ranges_good u base a value now h e = subst IsGoodHere (ok_is value now e) h

module _ (s : Context) (count : ℕ) where
  abbrev IsGoodThere : Value → Type 0
  IsGoodThere value = IsGood s.bases count s.unit value

  abbrev IsGoodPair : RawLocation × List Op → Type 0
  IsGoodPair p = All (IsKnownOp s.bases s.unit) p.1

  item_good : (item : RawLocation) (now : RawLocation × List Op) → item_meant s item ≡ Ok now → IsGoodPair now
  item_good item now e =
      let ops = bind_ok (expression_of s item.bytes item.first) (λ ops. refuse_if (is_too_long s.version ops) (record { kind = kinds.LongExpression; section = s.part; place = item.place }) >>= λ u. Ok (item, ops)) now e in
      let short = passed (is_too_long s.version ops.0) (record { kind = kinds.LongExpression; section = s.part; place = item.place }) (Ok (item, ops.0)) now ops.2 in
      subst IsGoodPair (ok_is (item, ops.0) now short.1) (ops_known s item.bytes item.first ops.0 ops.1)

  moved_good : (p : RawLocation × List Op) → IsGoodPair p → All (λ (l : Location). All (IsKnownOp s.bases s.unit) l.ops) (item_moved s.map p)
  moved_good p h = all_map (λ (l : Location). All (IsKnownOp s.bases s.unit) l.ops) (λ (span : Span). record { span = span; ops = p.1 }) (span_moved s.map p.0.span) (λ span. h)

  locations_role_good : (base : Addr) (role : Meaning) (place : ℕ) (now : Value) → locations_by_role s base role place ≡ Ok now → IsGoodThere now
  locations_role_good base meanings.LocationList place now e =
      let items = bind_ok (locations_read s base place) (λ (items : List RawLocation). each_of (item_meant s) items >>= λ meant. Ok (values.Locations (flat_map (item_moved s.map) meant))) now e in
      let meant = bind_ok (each_of (item_meant s) items.0) (λ meant. Ok (values.Locations (flat_map (item_moved s.map) meant))) now items.2 in
      let pairs : All IsGoodPair meant.0 = each_all (item_meant s) (λ (item : RawLocation). Unit {0}) IsGoodPair (λ x y u is. item_good x y is) items.0 meant.0 meant.1 (λ k d lt. tt) in
      let locations : All (λ (l : Location). All (IsKnownOp s.bases s.unit) l.ops) (flat_map (item_moved s.map) meant.0) =
      all_flat (λ (l : Location). All (IsKnownOp s.bases s.unit) l.ops) (item_moved s.map) meant.0 (λ k d lt. moved_good (get_or meant.0 k d) (pairs k d lt)) in
      subst IsGoodThere (ok_is (values.Locations (flat_map (item_moved s.map) meant.0)) now meant.2)
      (record { target = no_target None count refl; known = all_flat (IsKnownOp s.bases s.unit) (λ (l : Location). l.ops) (flat_map (item_moved s.map) meant.0) locations })
  locations_role_good base role place now e = subst IsGoodThere (ok_is (values.Offset place) now e) (plain_good s.bases count s.unit (values.Offset place) refl refl)

  pub locations_good : (base : Addr) (a : Attr) (value now : Value) → IsGoodThere value → locations_meant s base a value ≡ Ok now → IsGoodThere now
  locations_good base a (values.Offset place) now h e = locations_role_good base (table_of a.name) place now e
  locations_good base a value now h e = subst IsGoodThere (ok_is value now e) h

-- ---- a step over all entries

-- what it makes of each attribute, by what that was
pub step_all : (meant : ℕ → Attr → Result Value Fault) (R P : ℕ → Value → Type 0) → ((unit : ℕ) (a : Attr) (now : Value) → R unit a.value → meant unit a ≡ Ok now → P unit now) → (entries now : List Entry) → entries_by meant entries ≡ Ok now
    → All (λ (e : Entry). All (λ (a : Attr). R e.unit a.value) e.attrs) entries → All (λ (e : Entry). All (λ (a : Attr). P e.unit a.value) e.attrs) now
step_all meant R P keeps entries now e h =
    let attr : (unit : ℕ) (a b : Attr) → R unit a.value → attr_by (meant unit) a ≡ Ok b → P unit b.value = λ unit a b r is.
    (let value = bind_ok (meant unit a) (λ value. Ok (with_value a value)) b is in
    subst (λ (x : Attr). P unit x.value) (ok_is (with_value a value.0) b value.2) (keeps unit a value.0 r value.1)) in
    each_all (λ (x : Entry). entry_by (meant x.unit) x) (λ (x : Entry). All (λ (a : Attr). R x.unit a.value) x.attrs) (λ (x : Entry). All (λ (a : Attr). P x.unit a.value) x.attrs)
    (λ x y r is.
    let attrs = bind_ok (attrs_by (meant x.unit) x.attrs) (λ attrs. Ok (record x { attrs = attrs })) y is in
    subst (λ (z : Entry). All (λ (a : Attr). P z.unit a.value) z.attrs) (ok_is (record x { attrs = attrs.0 }) y attrs.2)
    (each_all (attr_by (meant x.unit)) (λ (a : Attr). R x.unit a.value) (λ (a : Attr). P x.unit a.value) (λ a b ra ib. attr x.unit a b ra ib) x.attrs attrs.0 attrs.1 r))
    entries now e h
