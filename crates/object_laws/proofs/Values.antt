-- What the values of attributes come to mean is given: addresses, expressions, and lists.
use Rattle.std.proofs.Common.{◌≡◌, ◌<◌, ◌^◌, ◌-◌, ◌==◌, ◌&&◌, not, ℕ, Bool, true, false, List, [], ◌∷◌, length, map, suc, Option, None, Some, Ok, get_or, inl, inr, ◌⊎◌, refl, sym, subst, arith}
use Rattle.std.specs.Prelude.{IsTrue, is_some, nat_lt, if◌then◌else◌}
use Rattle.std.specs.Option.{option_map}
use Rattle.std.specs.List.{All, flat_map}
use Rattle.std.proofs.lemmas.Bool.{eq-eqb, eqb-true, ltb-true, not-false}
use Rattle.std.proofs.lemmas.List.Elements.{All-nil, All-cons}
use Rattle.dwarf_types.specs.Expressions.{expression_len}
use Rattle.dwarf_types.specs.LinkedExpressions.{parts_of}
use Rattle.dwarf_types.specs.WellValues.{IsSpan}
use Rattle.moved_parts.specs.Spans.{span_moved}
use Rattle.object_laws.proofs.Locations.{locations_are}
use Rattle.ds_base.specs.DwarfNumbers.{DW_AT_ranges, DW_AT_stmt_list, DW_FORM_exprloc}
use Rattle.ds_base.specs.declared.fault.Fault.{Fault}
use Rattle.ds_base.specs.declared.fault.Kind.TheVariants as kinds
use Rattle.ds_base.specs.Reading.{◌>>=◌, or_fault, refuse_if}
use Rattle.ds_base.proofs.Passing.{bind_ok, found_ok, ok_is, passed}
use Rattle.dwarf_types.specs.declared.address.Addr.{Addr}
use Rattle.dwarf_types.specs.declared.entry.Attr.{Attr}
use Rattle.dwarf_types.specs.declared.entry.RawAttr.{RawAttr}
use Rattle.dwarf_types.specs.declared.expr.Op.{Op}
use Rattle.dwarf_types.specs.declared.lists.RawLocation.{RawLocation}
use Rattle.dwarf_types.specs.declared.value.Value.{Value}
use Rattle.dwarf_types.specs.declared.value.Value.TheVariants as values
use Rattle.dwarf_types.specs.Spelled.{AreBytes}
use Rattle.dwarf_types.specs.WellValues.{FitsBlock, has_locations}
use Rattle.addr_map.specs.declared.map.AddrMap.{AddrMap}
use Rattle.addr_map.specs.Sound.{IsSound as IsSoundMap}
use Rattle.index_tables.specs.Tables.{address_place, stored}
use Rattle.reloc_table.specs.Address.{address_of}
use Rattle.expr_walk.specs.Length.{ops_len}
use Rattle.expr_resolve.specs.Context.{Context}
use Rattle.expr_resolve.specs.Expressions.{expression_of}
use Rattle.dwarf_types.specs.SectionBytes.{location_bytes}
use Rattle.moved_parts.specs.Places.{place_of}
use Rattle.moved_parts.specs.Spans.{spans_moved}
use Rattle.unit_tree.specs.declared.meaning.Meaning.{Meaning}
use Rattle.unit_tree.specs.declared.meaning.Meaning.TheVariants as meanings
use Rattle.unit_tree.specs.Meaning.{is_address_index, table_of}
use Rattle.linked_laws.specs.Spellable.{IsSpellableLocation, IsSpellableOp, IsSpellablePlace, IsSpellableValue, is_lines}
use Rattle.object_view.specs.Attributes.{address_named, dangling, each_of, field_address, is_too_long, item_meant, item_moved, lines_value, locations_by_role, locations_meant, locations_read, number_at, ranges_by_role, ranges_meant, ranges_read, section_offset, unnamed, value_meant}
use Rattle.object_read.specs.Opened.{Opened}
use Rattle.object_view.proofs.Names.{all_flat, each_all}
use Rattle.object_laws.proofs.Expressions.{expressions_are_given, lengths_agree}
use Rattle.object_laws.proofs.LinesOps.{Second}
use Rattle.object_laws.proofs.SpansMap.{place_is_given}
use Rattle.object_laws.proofs.Spans.{span_is, spans_are}
use Rattle.object_laws.proofs.Stored.{IsStored}

-- a value of a unit of a version that is given and no line table
abbrev pub IsPlainly : ℕ → ℕ → Value → Type 0
IsPlainly version name value = IsSpellableValue version name value × (is_lines value ≡ false)

never : (b : Bool) → b ≡ true → b ≡ false → ⊥
never b is other = absurd cc

-- ---- as units are read

mapped : {X Y : Type 0} (f : X → Y) (o : Option X) (y : Y) → option_map f o ≡ Some y → (x : X) × (f x ≡ y)
mapped f None y e = absurd cc
mapped f (Some x) y e = (x, cc)

module _ (s : Context) (places : List ℕ) (sound : IsSoundMap s.map) (version : ℕ) where
  block_given : (b : Bool) (name form : ℕ) (bytes : List ℕ) (at : ℕ) (now : Value) → (form == DW_FORM_exprloc) ≡ b → ((form ≡ DW_FORM_exprloc) ⊎ FitsBlock form (length bytes)) → AreBytes bytes → AreBytes s.sections.addr
      → (if b then (expression_of s bytes at >>= λ ops. Ok (values.Expr ops)) else Ok (values.Block form bytes)) ≡ Ok now → IsPlainly version name now
  block_given true name form bytes at now is fits are table e =
      let ops = bind_ok (expression_of s bytes at) (λ ops. Ok (values.Expr ops)) now e in
      subst (IsPlainly version name) (ok_is (values.Expr ops.0) now ops.2) (expressions_are_given s bytes at ops.0 are table sound ops.1, refl)
  block_given false name form bytes at now is fits are table e =
      subst (IsPlainly version name) (ok_is (values.Block form bytes) now e) (
        (
          elim fits [
            | inl expr ↦ absurd (never (form == DW_FORM_exprloc) (eq-eqb form DW_FORM_exprloc expr) is)
            | inr block ↦ block
          ],
          are,
        ),
        refl,
      )

  index_given : (b : Bool) (a : RawAttr) (n : ℕ) (now : Value) → (if b then (or_fault (address_named s n) (unnamed a) >>= λ place. Ok (values.Address place)) else Ok (values.Offset n)) ≡ Ok now → IsPlainly version a.name now
  index_given true a n now e =
      let place = bind_ok (or_fault (address_named s n) (unnamed a)) (λ place. Ok (values.Address place)) now e in
      let found = mapped (λ at. place_of s.map (address_of s.image s.addresses at (stored 8 s.sections.addr at))) (address_place s.sections s.addr_base n) place.0 (found_ok (address_named s n) (unnamed a) place.0 place.1) in
      subst (IsPlainly version a.name) (ok_is (values.Address place.0) now place.2) (subst IsSpellablePlace found.1 (place_is_given s.map _ sound), refl)
  index_given false a n now e = subst (IsPlainly version a.name) (ok_is (values.Offset n) now e) (tt, refl)

  pub value_given : AreBytes s.sections.addr → (a : RawAttr) (value now : Value) → IsStored version value → value_meant s places a value ≡ Ok now → IsPlainly version a.name now
  value_given table a (values.Address place) now h e = subst (IsPlainly version a.name) (ok_is _ now e) (place_is_given s.map (field_address s a.end place.at) sound, refl)
  value_given table a (values.Ref place) now h e =
      let k = bind_ok (or_fault (number_at places place) (dangling a)) (λ k. Ok (values.Ref k)) now e in
      subst (IsPlainly version a.name) (ok_is (values.Ref k.0) now k.2) (tt, refl)
  value_given table a (values.Block form bytes) now h e = block_given (form == DW_FORM_exprloc) a.name form bytes (a.end - length bytes) now refl h.0 h.1 table e
  value_given table a (values.Text text) now h e = subst (IsPlainly version a.name) (ok_is (values.Text text) now e) (h, refl)
  value_given table a (values.Number form bits) now h e = subst (IsPlainly version a.name) (ok_is (values.Number form bits) now e) (h, refl)
  value_given table a (values.Wide bytes) now h e = subst (IsPlainly version a.name) (ok_is (values.Wide bytes) now e) (h, refl)
  value_given table a (values.Expr ops) now h e = absurd h
  value_given table a (values.Ranges spans) now h e = absurd h
  value_given table a (values.Locations items) now h e = absurd h
  value_given table a values.Lines now h e = absurd h
  value_given table a (values.Offset n) now h e = index_given (is_address_index a.form) a n now e

lines_if : (version name : ℕ) (b : Bool) (value : Value) → IsSpellableValue version name value → IsSpellableValue version name (if b then values.Lines else value)
lines_if version name true value h = tt
lines_if version name false value h = h

pub lines_given : (version : ℕ) (a : Attr) → IsSpellableValue version a.name a.value → IsSpellableValue version a.name (lines_value a)
lines_given version a h = lines_if version a.name (is_some (section_offset a)) a.value h

-- ---- range lists

-- a value of a unit of a version that is given, and a line table exactly where the other one is
abbrev pub IsSpellableAs : ℕ → ℕ → Value → Value → Type 0
IsSpellableAs version name old now = IsSpellableValue version name now × (is_lines now ≡ is_lines old)

if_is : (b : Bool) (x y z : Meaning) → (if b then x else y) ≡ z → ((b ≡ true) × (x ≡ z)) ⊎ ((b ≡ false) × (y ≡ z))
if_is true x y z e = inl (refl, e)
if_is false x y z e = inr (refl, e)

-- only DW_AT_ranges leads to a range list
ranges_name : (name : ℕ) → table_of name ≡ meanings.RangeList → name ≡ DW_AT_ranges
unfolding table_of
ranges_name name e = elim (if_is (name == DW_AT_stmt_list) meanings.LineTable (if name == DW_AT_ranges then meanings.RangeList else if has_locations name then meanings.LocationList else meanings.Other) meanings.RangeList e) [
  | inl line ↦ absurd cc
  | inr w ↦ elim (if_is (name == DW_AT_ranges) meanings.RangeList (if has_locations name then meanings.LocationList else meanings.Other) meanings.RangeList w.1) [
    | inl range ↦ eqb-true name DW_AT_ranges range.0
    | inr v ↦ elim (if_is (has_locations name) meanings.LocationList meanings.Other meanings.RangeList v.1) [
      | inl list ↦ absurd cc
      | inr other ↦ absurd cc
    ]
  ]
]

-- only some attributes lead to a location list
locations_name : (name : ℕ) → table_of name ≡ meanings.LocationList → IsTrue (has_locations name)
unfolding table_of
locations_name name e = elim (if_is (name == DW_AT_stmt_list) meanings.LineTable (if name == DW_AT_ranges then meanings.RangeList else if has_locations name then meanings.LocationList else meanings.Other) meanings.LocationList e) [
  | inl line ↦ absurd cc
  | inr w ↦ elim (if_is (name == DW_AT_ranges) meanings.RangeList (if has_locations name then meanings.LocationList else meanings.Other) meanings.LocationList w.1) [
    | inl range ↦ absurd cc
    | inr v ↦ elim (if_is (has_locations name) meanings.LocationList meanings.Other meanings.LocationList v.1) [
      | inl list ↦ list.0
      | inr other ↦ absurd cc
    ]
  ]
]

-- what is known of a unit
abbrev Known : Type 0
Known = Second ranges_read

module _ (o : Opened) (m : AddrMap) (sound : IsSoundMap m) (u : Known) (base : Addr) (version : ℕ) where
  ranges_role : (name : ℕ) (role : Meaning) (place : ℕ) (now : Value) → (role ≡ meanings.RangeList → name ≡ DW_AT_ranges) → ranges_by_role o m u base role place ≡ Ok now → IsSpellableAs version name (values.Offset place) now
  ranges_role name meanings.RangeList place now known e =
      let spans = bind_ok (ranges_read o u base place) (λ spans. Ok (values.Ranges (spans_moved m spans))) now e in
      subst (IsSpellableAs version name (values.Offset place)) (ok_is (values.Ranges (spans_moved m spans.0)) now spans.2) ((known refl, spans_are m spans.0 sound), refl)
  ranges_role name role place now known e = subst (IsSpellableAs version name (values.Offset place)) (ok_is (values.Offset place) now e) (tt, refl)

  pub ranges_given : (a : Attr) (value now : Value) → IsSpellableValue version a.name value → ranges_meant o m u base a value ≡ Ok now → IsSpellableAs version a.name value now
  ranges_given a (values.Offset place) now h e = ranges_role a.name (table_of a.name) place now (ranges_name a.name) e
  ranges_given a value now h e = subst (IsSpellableAs version a.name value) (ok_is value now e) (h, refl)

-- ---- location lists

all_mapped : {X Y : Type 0} (P : X → Type 0) (Q : Y → Type 0) (f : X → Y) → ((x : X) → P x → Q (f x)) → (xs : List X) → All P xs → All Q (map f xs)
all_mapped P Q f step [] h = All-nil Q
all_mapped P Q f step (x ∷ xs) h = All-cons Q (f x) (map f xs) (step x (h 0 x (omega arith))) (all_mapped P Q f step xs (λ k d lt. h (suc k) d (omega arith)))

-- an item with its operations, whose length two bytes hold in version 4
abbrev IsSpellableItem : ℕ → RawLocation × List Op → Type 0
IsSpellableItem version p = All IsSpellableOp p.1 × (version ≡ 4 → expression_len (parts_of (λ k. None) p.1) < 2 ^ 16)

-- in version 4 the length counts
counts : (version : ℕ) (b : Bool) → version ≡ 4 → (not (version == 5) && b) ≡ false → b ≡ false
counts version b four e = subst (λ (n : ℕ). (not (n == 5) && b) ≡ false) four e

module _ (s : Context) (sound : IsSoundMap s.map) (are : AreBytes (location_bytes s.sections s.version)) (table : AreBytes s.sections.addr) (base : Addr) where
  item_given : (item : RawLocation) (now : RawLocation × List Op) → AreBytes item.bytes → item_meant s item ≡ Ok now → IsSpellableItem s.version now
  item_given item now h e =
      let long : Fault = record { kind = kinds.LongExpression; section = s.part; place = item.place } in
      let ops = bind_ok (expression_of s item.bytes item.first) (λ ops. refuse_if (is_too_long s.version ops) long >>= λ u. Ok (item, ops)) now e in
      let short = passed (is_too_long s.version ops.0) long (Ok (item, ops.0)) now ops.2 in
      let lt : s.version ≡ 4 → ops_len ops.0 < 2 ^ 16 = λ four. ltb-true (ops_len ops.0) (2 ^ 16) (not-false (nat_lt (ops_len ops.0) (2 ^ 16)) (counts s.version (not (nat_lt (ops_len ops.0) (2 ^ 16))) four short.0)) in
      subst (IsSpellableItem s.version) (ok_is (item, ops.0) now short.1)
      (expressions_are_given s item.bytes item.first ops.0 h table sound ops.1, λ four. subst (λ (n : ℕ). n < 2 ^ 16) (sym (lengths_agree s item.bytes item.first ops.0 h table sound ops.1)) (lt four))

  moved_given : (p : RawLocation × List Op) → IsSpellableItem s.version p → All (IsSpellableLocation s.version) (item_moved s.map p)
  moved_given p h =
      all_mapped IsSpan (IsSpellableLocation s.version) (λ span. record { span = span; ops = p.1 }) (λ span is. record { span = is; ops = h.0; short = h.1 }) (span_moved s.map p.0.span) (span_is s.map p.0.span sound)

  locations_role : (name : ℕ) (role : Meaning) (place : ℕ) (now : Value) → (role ≡ meanings.LocationList → IsTrue (has_locations name)) → locations_by_role s base role place ≡ Ok now
      → IsSpellableAs s.version name (values.Offset place) now
  locations_role name meanings.LocationList place now known e =
      let items = bind_ok (locations_read s base place) (λ items. each_of (item_meant s) items >>= λ meant. Ok (values.Locations (flat_map (item_moved s.map) meant))) now e in
      let meant = bind_ok (each_of (item_meant s) items.0) (λ meant. Ok (values.Locations (flat_map (item_moved s.map) meant))) now items.2 in
      let read = locations_are s.sections s.relocs s.image place s.version base s.addresses s.addr_base items.0 are items.1 in
      let each : All (IsSpellableItem s.version) meant.0 = each_all (item_meant s) (λ (item : RawLocation). AreBytes item.bytes) (IsSpellableItem s.version) (λ x y u is. item_given x y u is) items.0 meant.0 meant.1 read in
      subst (IsSpellableAs s.version name (values.Offset place)) (ok_is (values.Locations (flat_map (item_moved s.map) meant.0)) now meant.2)
      ((known refl, all_flat (IsSpellableLocation s.version) (item_moved s.map) meant.0 (λ k d lt. moved_given (get_or meant.0 k d) (each k d lt))), refl)
  locations_role name role place now known e = subst (IsSpellableAs s.version name (values.Offset place)) (ok_is (values.Offset place) now e) (tt, refl)

  pub locations_given : (a : Attr) (value now : Value) → IsSpellableValue s.version a.name value → locations_meant s base a value ≡ Ok now → IsSpellableAs s.version a.name value now
  locations_given a (values.Offset place) now h e = locations_role a.name (table_of a.name) place now (locations_name a.name) e
  locations_given a value now h e = subst (IsSpellableAs s.version a.name value) (ok_is value now e) (h, refl)
