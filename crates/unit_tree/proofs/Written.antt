-- The units of an image that was written are units of an object, each offset of which leads to a table or a list.
use Rattle.std.proofs.Common.{◌≡◌, ℕ, zero, suc, ◌-◌, ◌==◌, ◌&&◌, Bool, true, false, not, List, [], ◌∷◌, ◌++◌, length, Option, Some, None, Result, Ok, Err, refl, sym, ap, subst, ◌∙◌, append_assoc, inl, inr}
use Rattle.std.specs.Prelude.{is_none, if◌then◌else◌}
use Rattle.std.specs.List.{find, list_all}
use Rattle.std.specs.Option.{option_map_or, option_to_list}
use Rattle.std.proofs.lemmas.List.{append-nil}
use Rattle.ds_base.specs.declared.fault.Fault.{Fault}
use Rattle.ds_base.specs.declared.fault.Kind.TheVariants.{BadReference, UnclosedSiblings}
use Rattle.ds_base.specs.declared.fault.Part.TheVariants.{Info}
use Rattle.ds_base.specs.Spot.{Spot, fault_at}
use Rattle.ds_base.specs.Reading.{◌>>=◌, bytes_at}
use Rattle.ds_base.proofs.Passing.{bind_ok, ok_is}
use Rattle.dwarf_types.specs.declared.abbrev.Abbrev.{Abbrev}
use Rattle.dwarf_types.specs.declared.abbrev.Field.{Field}
use Rattle.dwarf_types.specs.declared.entry.InUnit.{InUnit}
use Rattle.dwarf_types.specs.declared.entry.RawAttr.{RawAttr}
use Rattle.dwarf_types.specs.declared.entry.RawEntry.{RawEntry}
use Rattle.dwarf_types.specs.declared.entry.RawUnits.{RawUnits}
use Rattle.dwarf_types.specs.SectionBytes.{SectionBytes}
use Rattle.dwarf_types.specs.declared.value.Value.{Value}
use Rattle.dwarf_types.specs.declared.value.Value.TheVariants as values
use Rattle.form_value.specs.Reading.{value_at}
use Rattle.index_tables.specs.declared.bases.Bases.{Bases}
use Rattle.index_tables.specs.Bases.{bases_in}
use Rattle.unit_tree.specs.declared.attribute.UnitContext.{UnitContext}
use Rattle.unit_tree.specs.declared.meaning.Meaning.{Meaning}
use Rattle.unit_tree.specs.declared.meaning.Meaning.TheVariants.{InUnit as InTheUnit, InObject, LineTable, RangeList, LocationList, TextIndex, AddressIndex, RangeListIndex, LocationListIndex, Other}
use Rattle.unit_tree.specs.declared.profile.Profile.{Profile}
use Rattle.unit_tree.specs.declared.profile.Profile.TheVariants.{Input, Output}
use Rattle.unit_tree.specs.declared.reference.Reference.{Reference}
use Rattle.unit_tree.specs.Attribute.{Described, attr_at, attrs_at, meant_at, names_lines, offset_in, offset_nowhere, value_meant_at}
use Rattle.unit_tree.specs.Entry.{Parsed, Walk, bases_at, child_at, children_at, entry_at, first_at, innermost, listed_at, opened, root_at, tree_at, with_entry}
use Rattle.unit_tree.specs.Header.{info_at}
use Rattle.unit_tree.specs.Led.{AreEntriesLed, AreLed, IsLed, IsValueLed, leads_somewhere}
use Rattle.unit_tree.specs.Meaning.{meaning_of}
use Rattle.unit_tree.specs.Reference.{leads, resolved}
use Rattle.unit_tree.specs.Unit.{context_in, is_zero, nothing, parsed_by, unit_at, units_at, units_of, written_units_of, zeros_at}
use Rattle.unit_tree.proofs.RootBases.{attrs_alike, alike_bases, unbased}
use Rattle.unit_tree.proofs.Steps.{entry_steps, root_steps, bases_steps, listed_steps, child_steps, children_end, children_steps, tree_steps, unit_steps, some_left, units_steps}

-- the same unit in bytes of a profile
abbrev pub by : Profile → UnitContext → UnitContext
by profile context = record context { profile = profile }

-- ---- values

led_if : (lines : Bool) (meaning : Meaning) (value : Value) → leads_somewhere lines meaning ≡ true → IsValueLed lines meaning value
led_if lines meaning (values.Offset n) h = h
led_if lines meaning value h = tt

no_lines : {A : Type 0} → false ≡ true → A
no_lines e = absurd cc

lines_down : (lines : Bool) (section : List ℕ) (n : ℕ) (s : Spot) (y : Value × Option Reference) → (if lines then offset_in section n s else offset_nowhere Output n s) ≡ Ok y
    → ((if lines then offset_in section n s else offset_nowhere Input n s) ≡ Ok y) × IsValueLed lines LineTable y.0
lines_down true section n s y e = (e, led_if true LineTable y.0 refl)
lines_down false section n s y e = absurd cc

lines_up : (lines : Bool) (section : List ℕ) (n : ℕ) (s : Spot) (y : Value × Option Reference) → (if lines then offset_in section n s else offset_nowhere Input n s) ≡ Ok y → IsValueLed lines LineTable y.0
    → (if lines then offset_in section n s else offset_nowhere Output n s) ≡ Ok y
lines_up true section n s y e led = e
lines_up false section n s y e led = no_lines (subst (λ (p : Value × Option Reference). IsValueLed false LineTable p.0) (sym (ok_is (values.Offset n, None) y e)) led)

meant_down : (sections : SectionBytes) (context : UnitContext) (lines : Bool) (meaning : Meaning) (n : ℕ) (s : Spot) (y : Value × Option Reference) → meant_at sections (by Output context) lines meaning n s ≡ Ok y
    → (meant_at sections (by Input context) lines meaning n s ≡ Ok y) × IsValueLed lines meaning y.0
unfolding meant_at
meant_down sections context lines InTheUnit n s y e = (e, led_if lines InTheUnit y.0 refl)
meant_down sections context lines InObject n s y e = (e, led_if lines InObject y.0 refl)
meant_down sections context lines LineTable n s y e = lines_down lines sections.line n s y e
meant_down sections context lines RangeList n s y e = (e, led_if lines RangeList y.0 refl)
meant_down sections context lines LocationList n s y e = (e, led_if lines LocationList y.0 refl)
meant_down sections context lines TextIndex n s y e = (e, led_if lines TextIndex y.0 refl)
meant_down sections context lines AddressIndex n s y e = (e, led_if lines AddressIndex y.0 refl)
meant_down sections context lines RangeListIndex n s y e = (e, led_if lines RangeListIndex y.0 refl)
meant_down sections context lines LocationListIndex n s y e = (e, led_if lines LocationListIndex y.0 refl)
meant_down sections context lines Other n s y e = absurd cc

meant_up : (sections : SectionBytes) (context : UnitContext) (lines : Bool) (meaning : Meaning) (n : ℕ) (s : Spot) (y : Value × Option Reference) → meant_at sections (by Input context) lines meaning n s ≡ Ok y → IsValueLed lines meaning y.0
    → meant_at sections (by Output context) lines meaning n s ≡ Ok y
unfolding meant_at
meant_up sections context lines InTheUnit n s y e led = e
meant_up sections context lines InObject n s y e led = e
meant_up sections context lines LineTable n s y e led = lines_up lines sections.line n s y e led
meant_up sections context lines RangeList n s y e led = e
meant_up sections context lines LocationList n s y e led = e
meant_up sections context lines TextIndex n s y e led = e
meant_up sections context lines AddressIndex n s y e led = e
meant_up sections context lines RangeListIndex n s y e led = e
meant_up sections context lines LocationListIndex n s y e led = e
meant_up sections context lines Other n s y e led = no_lines (subst (λ (p : Value × Option Reference). IsValueLed lines Other p.0) (sym (ok_is (values.Offset n, None) y e)) led)

value_down : (sections : SectionBytes) (context : UnitContext) (root : Bool) (field : Field) (before : List RawAttr) (value : Value) (s : Spot) (y : Value × Option Reference) → value_meant_at sections (by Output context) root field before value s ≡ Ok y
    → (value_meant_at sections (by Input context) root field before value s ≡ Ok y) × IsValueLed (names_lines root before) (meaning_of field.form field.name) y.0
unfolding value_meant_at
value_down sections context root field before (values.Offset n) s y e = meant_down sections context (names_lines root before) (meaning_of field.form field.name) n s y e
value_down sections context root field before value s y e = (e, subst (λ (p : Value × Option Reference). IsValueLed (names_lines root before) (meaning_of field.form field.name) p.0) (ok_is (value, None) y e) tt)

value_up : (sections : SectionBytes) (context : UnitContext) (root : Bool) (field : Field) (before : List RawAttr) (value : Value) (s : Spot) (y : Value × Option Reference) → value_meant_at sections (by Input context) root field before value s ≡ Ok y
    → IsValueLed (names_lines root before) (meaning_of field.form field.name) y.0 → value_meant_at sections (by Output context) root field before value s ≡ Ok y
unfolding value_meant_at
value_up sections context root field before (values.Offset n) s y e led = meant_up sections context (names_lines root before) (meaning_of field.form field.name) n s y e led
value_up sections context root field before value s y e led = e

-- ---- attributes

abbrev Attr : Type 0
Attr = (RawAttr × Option Reference) × Spot

abbrev attr_made : Field → Value × Spot → Value × Option Reference → Attr
attr_made field read meant = ((record { name = field.name; form = field.form; end = read.1.place; value = meant.0 }, meant.1), read.1)

attr_down : (sections : SectionBytes) (context : UnitContext) (root : Bool) (field : Field) (before : List RawAttr) (s : Spot) (y : Attr) → attr_at sections (by Output context) root field before s ≡ Ok y
    → (attr_at sections (by Input context) root field before s ≡ Ok y) × IsLed (names_lines root before) y.0.0
unfolding attr_at
attr_down sections context root field before s y e =
    let made : Value × Spot → Value × Option Reference → Result Attr Fault = λ read meant. Ok (attr_made field read meant) in
    let b = bind_ok (value_at field context.version sections s) (λ read. value_meant_at sections (by Output context) root field before read.0 s >>= made read) y e in
    let c = bind_ok (value_meant_at sections (by Output context) root field before b.0.0 s) (made b.0) y b.2 in
    let v = value_down sections context root field before b.0.0 s c.0 c.1 in
    (rw (b.1, v.0) c.2, subst (λ (p : Attr). IsLed (names_lines root before) p.0.0) (ok_is (attr_made field b.0 c.0) y c.2) v.1)

attr_up : (sections : SectionBytes) (context : UnitContext) (root : Bool) (field : Field) (before : List RawAttr) (s : Spot) (y : Attr) → attr_at sections (by Input context) root field before s ≡ Ok y
    → IsLed (names_lines root before) y.0.0 → attr_at sections (by Output context) root field before s ≡ Ok y
unfolding attr_at
attr_up sections context root field before s y e led =
    let made : Value × Spot → Value × Option Reference → Result Attr Fault = λ read meant. Ok (attr_made field read meant) in
    let b = bind_ok (value_at field context.version sections s) (λ read. value_meant_at sections (by Input context) root field before read.0 s >>= made read) y e in
    let c = bind_ok (value_meant_at sections (by Input context) root field before b.0.0 s) (made b.0) y b.2 in
    let v = value_up sections context root field before b.0.0 s c.0 c.1 (subst (λ (p : Attr). IsLed (names_lines root before) p.0.0) (sym (ok_is (attr_made field b.0 c.0) y c.2)) led) in
    rw (b.1, v) c.2

-- attributes behind those before
abbrev put : Described → Attr → Described
put before attr = (before.0 ++ attr.0.0 ∷ [], before.1 ++ option_to_list attr.0.1)

record AttrsDown (sections : SectionBytes) (context : UnitContext) (root : Bool) (fields : List Field) (before : Described) (s : Spot) (y : Described × Spot) : Type 0 where
  own : List RawAttr
  is : y.0.0 ≡ before.0 ++ own
  reads : attrs_at sections (by Input context) root fields before s ≡ Ok y
  led : AreLed root before.0 own

attrs_down : (sections : SectionBytes) (context : UnitContext) (root : Bool) (fields : List Field) (before : Described) (s : Spot) (y : Described × Spot) → attrs_at sections (by Output context) root fields before s ≡ Ok y
    → AttrsDown sections context root fields before s y
unfolding attrs_at
attrs_down sections context root [] before s y e = record { own = []; is = ap (λ (p : Described × Spot). p.0.0) (sym (ok_is (before, s) y e)) ∙ sym (append-nil before.0); reads = e; led = tt }
attrs_down sections context root (field ∷ fields) before s y e =
    let b = bind_ok (attr_at sections (by Output context) root field before.0 s) (λ attr. attrs_at sections (by Output context) root fields (put before attr) attr.1) y e in
    let a = attr_down sections context root field before.0 s b.0 b.1 in
    let t = attrs_down sections context root fields (put before b.0) b.0.1 y b.2 in
    record { own = b.0.0.0 ∷ t.own; is = t.is ∙ append_assoc before.0 (b.0.0.0 ∷ []) t.own; reads = rw a.0 t.reads; led = (a.1, t.led) }

-- those before stay in front
attrs_grow : (sections : SectionBytes) (context : UnitContext) (root : Bool) (fields : List Field) (before : Described) (s : Spot) (y : Described × Spot) → attrs_at sections context root fields before s ≡ Ok y
    → (own : List RawAttr) × (y.0.0 ≡ before.0 ++ own)
unfolding attrs_at
attrs_grow sections context root [] before s y e = ([], ap (λ (p : Described × Spot). p.0.0) (sym (ok_is (before, s) y e)) ∙ sym (append-nil before.0))
attrs_grow sections context root (field ∷ fields) before s y e =
    let b = bind_ok (attr_at sections context root field before.0 s) (λ attr. attrs_at sections context root fields (put before attr) attr.1) y e in
    let t = attrs_grow sections context root fields (put before b.0) b.0.1 y b.2 in
    (b.0.0.0 ∷ t.0, t.1 ∙ append_assoc before.0 (b.0.0.0 ∷ []) t.0)

same_tail : {X : Type 0} {x : X} {xs ys : List X} → x ∷ xs ≡ x ∷ ys → xs ≡ ys
same_tail e = cc

same_back : {X : Type 0} (front xs ys : List X) → front ++ xs ≡ front ++ ys → xs ≡ ys
same_back [] xs ys e = e
same_back (x ∷ front) xs ys e = same_back front xs ys (same_tail e)

attrs_up : (sections : SectionBytes) (context : UnitContext) (root : Bool) (fields : List Field) (before : Described) (s : Spot) (y : Described × Spot) (own : List RawAttr) → attrs_at sections (by Input context) root fields before s ≡ Ok y
    → y.0.0 ≡ before.0 ++ own → AreLed root before.0 own → attrs_at sections (by Output context) root fields before s ≡ Ok y
unfolding attrs_at
attrs_up sections context root [] before s y own e is led = e
attrs_up sections context root (field ∷ fields) before s y own e is led =
    let b = bind_ok (attr_at sections (by Input context) root field before.0 s) (λ attr. attrs_at sections (by Input context) root fields (put before attr) attr.1) y e in
    let g = attrs_grow sections (by Input context) root fields (put before b.0) b.0.1 y b.2 in
    let own_is : own ≡ b.0.0.0 ∷ g.0 = same_back before.0 own (b.0.0.0 ∷ g.0) (sym is ∙ g.1 ∙ append_assoc before.0 (b.0.0.0 ∷ []) g.0) in
    let both : AreLed root before.0 (b.0.0.0 ∷ g.0) = subst (AreLed root before.0) own_is led in
    let a = attr_up sections context root field before.0 s b.0 b.1 both.0 in
    rw a (attrs_up sections context root fields (put before b.0) b.0.1 y g.0 b.2 g.1 both.1)

-- ---- entries

-- entries behind others
abbrev pub Begins : List RawEntry → List RawEntry → Type 0
Begins before now = (more : List RawEntry) × (now ≡ before ++ more)

begins_itself : (entries : List RawEntry) → Begins entries entries
begins_itself entries = ([], sym (append-nil entries))

begins_on : (xs ys zs : List RawEntry) → Begins xs ys → Begins ys zs → Begins xs zs
begins_on xs ys zs a b = (a.0 ++ b.0, b.1 ∙ ap (λ (es : List RawEntry). es ++ b.0) a.1 ∙ append_assoc xs a.0 b.0)

led_both : (xs ys : List RawEntry) → AreEntriesLed xs → AreEntriesLed ys → AreEntriesLed (xs ++ ys)
led_both [] ys h k = k
led_both (x ∷ xs) ys h k = (h.0, led_both xs ys h.1 k)

led_front : (xs ys : List RawEntry) → AreEntriesLed (xs ++ ys) → AreEntriesLed xs
led_front [] ys h = tt
led_front (x ∷ xs) ys h = (h.0, led_front xs ys h.1)

led_back : (xs ys : List RawEntry) → AreEntriesLed (xs ++ ys) → AreEntriesLed ys
led_back [] ys h = h
led_back (x ∷ xs) ys h = led_back xs ys h.1

led_begins : (xs ys : List RawEntry) → Begins xs ys → AreEntriesLed ys → AreEntriesLed xs
led_begins xs ys b h = led_front xs b.0 (subst AreEntriesLed b.1 h)

pub entry_begins : (sections : SectionBytes) (context : UnitContext) (parent : Option ℕ) (place : ℕ) (declared : Abbrev) (before : Parsed) (s : Spot) (y : Parsed × Spot) → entry_at sections context parent place declared before s ≡ Ok y
    → Begins before.entries y.0.entries
entry_begins sections context parent place declared before s y e =
    let w = entry_steps sections context parent place declared before s y e in
    subst (λ (p : Parsed × Spot). Begins before.entries p.0.entries) w.is (record { parent = parent; unit = context.unit; place = place; tag = declared.tag; attrs = w.read.0.0 } ∷ [], refl)

pub child_begins : (sections : SectionBytes) (context : UnitContext) (table : List Abbrev) (walk : Walk) (s : Spot) (y : Walk × Spot) → child_at sections context table walk s ≡ Ok y → Begins walk.0.entries y.0.0.entries
child_begins sections context table walk s y e =
    elim (child_steps sections context table walk s y e) [
      | inl w ↦ subst (λ (p : Walk × Spot). Begins walk.0.entries p.0.0.entries) w.is (begins_itself walk.0.entries)
      | inr w ↦
          let l = listed_steps sections context w.declared walk s w.code.1 y w.listed in
          subst (λ (p : Walk × Spot). Begins walk.0.entries p.0.0.entries) l.is (entry_begins sections context (innermost walk.1) s.place w.declared walk.0 w.code.1 l.read l.entry)
    ]

pub children_begin : (sections : SectionBytes) (context : UnitContext) (table : List Abbrev) (left : ℕ) (walk : Walk) (s : Spot) (y : Parsed × Spot) → children_at sections context table left walk s ≡ Ok y → Begins walk.0.entries y.0.entries
children_begin sections context table zero walk s y e =
    let w = children_end sections context table walk s y e in
    subst (λ (p : Parsed × Spot). Begins walk.0.entries p.0.entries) w.1 (begins_itself walk.0.entries)
children_begin sections context table (suc left) walk s y e =
    elim (children_steps sections context table left walk s y e) [
      | inl w ↦ subst (λ (p : Parsed × Spot). Begins walk.0.entries p.0.entries) w.1 (begins_itself walk.0.entries)
      | inr w ↦ begins_on walk.0.entries w.read.0.0.entries y.0.entries (child_begins sections context table walk s w.read w.child) (children_begin sections context table left w.read.0 w.read.1 y w.others)
    ]

entry_down : (sections : SectionBytes) (context : UnitContext) (parent : Option ℕ) (place : ℕ) (declared : Abbrev) (before : Parsed) (s : Spot) (y : Parsed × Spot) → entry_at sections (by Output context) parent place declared before s ≡ Ok y
    → (entry_at sections (by Input context) parent place declared before s ≡ Ok y) × (AreEntriesLed before.entries → AreEntriesLed y.0.entries)
unfolding entry_at
entry_down sections context parent place declared before s y e =
    let last : Described × Spot → Result (Parsed × Spot) Fault = λ read. Ok (with_entry (by Output context) parent place declared before read.0, read.1) in
    let b = bind_ok (attrs_at sections (by Output context) (is_none parent) declared.fields ([], before.references) s) last y e in
    let a = attrs_down sections context (is_none parent) declared.fields ([], before.references) s b.0 b.1 in
    let led : AreLed (is_none parent) [] b.0.0.0 = subst (AreLed (is_none parent) []) (sym a.is) a.led in
    (rw a.reads b.2, λ h. subst (λ (p : Parsed × Spot). AreEntriesLed p.0.entries) (ok_is _ y b.2) (led_both before.entries _ h (led, tt)))

entry_up : (sections : SectionBytes) (context : UnitContext) (parent : Option ℕ) (place : ℕ) (declared : Abbrev) (before : Parsed) (s : Spot) (y : Parsed × Spot) → entry_at sections (by Input context) parent place declared before s ≡ Ok y
    → AreEntriesLed y.0.entries → entry_at sections (by Output context) parent place declared before s ≡ Ok y
unfolding entry_at
entry_up sections context parent place declared before s y e h =
    let last : Described × Spot → Result (Parsed × Spot) Fault = λ read. Ok (with_entry (by Input context) parent place declared before read.0, read.1) in
    let b = bind_ok (attrs_at sections (by Input context) (is_none parent) declared.fields ([], before.references) s) last y e in
    let all = subst (λ (p : Parsed × Spot). AreEntriesLed p.0.entries) (sym (ok_is (with_entry (by Input context) parent place declared before b.0.0, b.0.1) y b.2)) h in
    let own = led_back before.entries (record { parent = parent; unit = context.unit; place = place; tag = declared.tag; attrs = b.0.0.0 } ∷ []) all in
    rw (attrs_up sections context (is_none parent) declared.fields ([], before.references) s b.0 b.0.0.0 b.1 refl own.0) b.2

listed_down : (sections : SectionBytes) (context : UnitContext) (declared : Abbrev) (walk : Walk) (first s : Spot) (y : Walk × Spot) → listed_at sections (by Output context) declared walk first s ≡ Ok y
    → (listed_at sections (by Input context) declared walk first s ≡ Ok y) × (AreEntriesLed walk.0.entries → AreEntriesLed y.0.0.entries)
unfolding listed_at
listed_down sections context declared walk first s y e =
    let w = listed_steps sections (by Output context) declared walk first s y e in
    let d = entry_down sections context (innermost walk.1) first.place declared walk.0 s w.read w.entry in
    (rw (w.depth, w.room, d.0) (ap (λ (p : Walk × Spot). Ok p) w.is), λ h. subst (λ (p : Walk × Spot). AreEntriesLed p.0.0.entries) w.is (d.1 h))

listed_up : (sections : SectionBytes) (context : UnitContext) (declared : Abbrev) (walk : Walk) (first s : Spot) (y : Walk × Spot) → listed_at sections (by Input context) declared walk first s ≡ Ok y → AreEntriesLed y.0.0.entries
    → listed_at sections (by Output context) declared walk first s ≡ Ok y
unfolding listed_at
listed_up sections context declared walk first s y e h =
    let w = listed_steps sections (by Input context) declared walk first s y e in
    let u = entry_up sections context (innermost walk.1) first.place declared walk.0 s w.read w.entry (subst (λ (p : Walk × Spot). AreEntriesLed p.0.0.entries) (sym w.is) h) in
    rw (w.depth, w.room, u) (ap (λ (p : Walk × Spot). Ok p) w.is)

child_down : (sections : SectionBytes) (context : UnitContext) (table : List Abbrev) (walk : Walk) (s : Spot) (y : Walk × Spot) → child_at sections (by Output context) table walk s ≡ Ok y
    → (child_at sections (by Input context) table walk s ≡ Ok y) × (AreEntriesLed walk.0.entries → AreEntriesLed y.0.0.entries)
unfolding child_at
child_down sections context table walk s y e =
    elim (child_steps sections (by Output context) table walk s y e) [
      | inl w ↦ (rw (w.coded, w.zero_is) (ap (λ (p : Walk × Spot). Ok p) w.is), λ h. subst (λ (p : Walk × Spot). AreEntriesLed p.0.0.entries) w.is h)
      | inr w ↦
          let d = listed_down sections context w.declared walk s w.code.1 y w.listed in
          (rw (w.coded, w.some, w.found) d.0, d.1)
    ]

child_up : (sections : SectionBytes) (context : UnitContext) (table : List Abbrev) (walk : Walk) (s : Spot) (y : Walk × Spot) → child_at sections (by Input context) table walk s ≡ Ok y → AreEntriesLed y.0.0.entries
    → child_at sections (by Output context) table walk s ≡ Ok y
unfolding child_at
child_up sections context table walk s y e h =
    elim (child_steps sections (by Input context) table walk s y e) [
      | inl w ↦ rw (w.coded, w.zero_is) (ap (λ (p : Walk × Spot). Ok p) w.is)
      | inr w ↦ rw (w.coded, w.some, w.found) (listed_up sections context w.declared walk s w.code.1 y w.listed h)
    ]

-- no list is open, or no byte is left, or a turn goes on as another does
turn : {Q : Type 0} (b c : Bool) (x y : Parsed × Spot) (f : Fault) (next then_ : Result (Parsed × Spot) Fault) → (if b then Ok x else if c then Err f else next) ≡ Ok y → (x ≡ y → Q) → (next ≡ Ok y → (then_ ≡ Ok y) × Q)
    → ((if b then Ok x else if c then Err f else then_) ≡ Ok y) × Q
turn true c x y f next then_ e ended more = (e, ended (ok_is x y e))
turn false true x y f next then_ e ended more = absurd cc
turn false false x y f next then_ e ended more = more e

children_down : (sections : SectionBytes) (context : UnitContext) (table : List Abbrev) (left : ℕ) (walk : Walk) (s : Spot) (y : Parsed × Spot) → children_at sections (by Output context) table left walk s ≡ Ok y
    → (children_at sections (by Input context) table left walk s ≡ Ok y) × (AreEntriesLed walk.0.entries → AreEntriesLed y.0.entries)
unfolding children_at
children_down sections context table zero walk s y e =
    let w = children_end sections (by Output context) table walk s y e in
    (e, λ h. subst (λ (p : Parsed × Spot). AreEntriesLed p.0.entries) w.1 h)
children_down sections context table (suc left) walk s y e =
    let next : Profile → Result (Parsed × Spot) Fault = λ profile. child_at sections (by profile context) table walk s >>= λ read. children_at sections (by profile context) table left read.0 read.1 in
    turn (length walk.1 == 0) (s.end - s.place == 0) (walk.0, s) y (fault_at s UnclosedSiblings) (next Output) (next Input) e
    (λ is h. subst (λ (p : Parsed × Spot). AreEntriesLed p.0.entries) is h)
    (λ more.
    let b = bind_ok (child_at sections (by Output context) table walk s) (λ read. children_at sections (by Output context) table left read.0 read.1) y more in
    let d = child_down sections context table walk s b.0 b.1 in
    let t = children_down sections context table left b.0.0 b.0.1 y b.2 in
    (rw d.0 t.0, λ h. t.1 (d.1 h)))

children_up : (sections : SectionBytes) (context : UnitContext) (table : List Abbrev) (left : ℕ) (walk : Walk) (s : Spot) (y : Parsed × Spot) → children_at sections (by Input context) table left walk s ≡ Ok y → AreEntriesLed y.0.entries
    → children_at sections (by Output context) table left walk s ≡ Ok y
unfolding children_at
children_up sections context table zero walk s y e h = e
children_up sections context table (suc left) walk s y e h =
    let next : Profile → Result (Parsed × Spot) Fault = λ profile. child_at sections (by profile context) table walk s >>= λ read. children_at sections (by profile context) table left read.0 read.1 in
    (turn {Q = Unit {0}} (length walk.1 == 0) (s.end - s.place == 0) (walk.0, s) y (fault_at s UnclosedSiblings) (next Input) (next Output) e
    (λ is. tt)
    (λ more.
    let b = bind_ok (child_at sections (by Input context) table walk s) (λ read. children_at sections (by Input context) table left read.0 read.1) y more in
    let begins = children_begin sections (by Input context) table left b.0.0 b.0.1 y b.2 in
    let u = child_up sections context table walk s b.0 b.1 (led_begins b.0.0.0.entries y.0.entries begins h) in
    (rw u (children_up sections context table left b.0.0 b.0.1 y b.2 h), tt))).0

-- ---- roots

-- the bases that a root tells
record Told (start : Spot) (sections : SectionBytes) (context : UnitContext) (table : List Abbrev) (before : Parsed) (s : Spot) (attrs : List RawAttr) : Type 0 where
  bases : Bases
  told : bases_at start sections (unbased context) table before s ≡ Ok bases
  are : bases ≡ bases_in attrs

pub bases_read : (start : Spot) (sections : SectionBytes) (context : UnitContext) (table : List Abbrev) (before : Parsed) (s : Spot) (first : Abbrev × Spot) (read : Described × Spot) → first_at start table before s ≡ Ok first
    → attrs_at sections context true first.0.fields ([], []) first.1 ≡ Ok read → bases_at start sections context table before s ≡ Ok (bases_in read.0.0)
unfolding bases_at
bases_read start sections context table before s first read e f = rw (e, f) refl

root_told : (start : Spot) (sections : SectionBytes) (context : UnitContext) (table : List Abbrev) (before : Parsed) (s : Spot) (first : Abbrev × Spot) (read : Described × Spot) → first_at start table before s ≡ Ok first
    → attrs_at sections context true first.0.fields ([], before.references) first.1 ≡ Ok read → Told start sections context table before s read.0.0
root_told start sections context table before s first read e f =
    let a = attrs_alike sections context true first.0.fields ([], []) ([], before.references) first.1 read f tt in
    record { bases = bases_in a.read.0.0; told = bases_read start sections (unbased context) table before s first a.read e a.reads; are = alike_bases a.read.0.0 read.0.0 a.alike }

bases_down : (start : Spot) (sections : SectionBytes) (context : UnitContext) (table : List Abbrev) (before : Parsed) (s : Spot) (y : Bases) → bases_at start sections (by Output context) table before s ≡ Ok y → bases_at start sections (by Input context) table before s ≡ Ok y
bases_down start sections context table before s y e =
    let w = bases_steps start sections (by Output context) table before s y e in
    let a = attrs_down sections context true w.first.0.fields ([], []) w.first.1 w.read w.attrs in
    bases_read start sections (by Input context) table before s w.first w.read w.first_is a.reads ∙ ap (λ (b : Bases). Ok b) w.is

root_down : (start : Spot) (sections : SectionBytes) (context : UnitContext) (table : List Abbrev) (before : Parsed) (s : Spot) (y : (Bool × Parsed) × Spot) → root_at start sections (by Output context) table before s ≡ Ok y
    → (root_at start sections (by Input context) table before s ≡ Ok y) × (AreEntriesLed before.entries → AreEntriesLed y.0.1.entries)
unfolding root_at
root_down start sections context table before s y e =
    let w = root_steps start sections (by Output context) table before s y e in
    let d = entry_down sections context None s.place w.declared before w.code.1 w.read w.entry in
    (rw (w.first, d.0) (ap (λ (p : (Bool × Parsed) × Spot). Ok p) w.is), λ h. subst (λ (p : (Bool × Parsed) × Spot). AreEntriesLed p.0.1.entries) w.is (d.1 h))

record RootUp (start : Spot) (sections : SectionBytes) (context : UnitContext) (table : List Abbrev) (before : Parsed) (s : Spot) (y : (Bool × Parsed) × Spot) : Type 0 where
  reads : root_at start sections (by Output context) table before s ≡ Ok y
  attrs : List RawAttr
  was : Told start sections (by Input context) table before s attrs
  now : Told start sections (by Output context) table before s attrs

root_up : (start : Spot) (sections : SectionBytes) (context : UnitContext) (table : List Abbrev) (before : Parsed) (s : Spot) (y : (Bool × Parsed) × Spot) → root_at start sections (by Input context) table before s ≡ Ok y → AreEntriesLed y.0.1.entries
    → RootUp start sections context table before s y
unfolding root_at
root_up start sections context table before s y e h =
    let w = root_steps start sections (by Input context) table before s y e in
    let u = entry_up sections context None s.place w.declared before w.code.1 w.read w.entry (subst (λ (p : (Bool × Parsed) × Spot). AreEntriesLed p.0.1.entries) (sym w.is) h) in
    let i = entry_steps sections (by Input context) None s.place w.declared before w.code.1 w.read w.entry in
    let own : AreEntriesLed (before.entries ++ record { parent = None; unit = context.unit; place = s.place; tag = w.declared.tag; attrs = i.read.0.0 } ∷ []) =
    subst (λ (p : Parsed × Spot). AreEntriesLed p.0.entries) (sym i.is) (subst (λ (p : (Bool × Parsed) × Spot). AreEntriesLed p.0.1.entries) (sym w.is) h) in
    let led = led_back before.entries (record { parent = None; unit = context.unit; place = s.place; tag = w.declared.tag; attrs = i.read.0.0 } ∷ []) own in
    let again = attrs_up sections context true w.declared.fields ([], before.references) w.code.1 i.read i.read.0.0 i.attrs refl led.0 in
    record {
      reads = rw (w.first, u) (ap (λ (p : (Bool × Parsed) × Spot). Ok p) w.is);
      attrs = i.read.0.0;
      was = root_told start sections (by Input context) table before s (w.declared, w.code.1) i.read w.first i.attrs;
      now = root_told start sections (by Output context) table before s (w.declared, w.code.1) i.read w.first again;
    }

-- ---- trees

tree_down : (start : Spot) (sections : SectionBytes) (context : UnitContext) (table : List Abbrev) (before : Parsed) (s : Spot) (y : Parsed × Spot) → tree_at start sections (by Output context) table before s ≡ Ok y
    → (tree_at start sections (by Input context) table before s ≡ Ok y) × (AreEntriesLed before.entries → AreEntriesLed y.0.entries)
unfolding tree_at
tree_down start sections context table before s y e =
    let w = tree_steps start sections (by Output context) table before s y e in
    let r = root_down start sections context table before s w.root w.first in
    let c = children_down sections context table (w.root.1.end - w.root.1.place) (w.root.0.1, opened w.root.0.0 (length before.entries) []) w.root.1 y w.others in
    (rw r.0 c.0, λ h. c.1 (r.1 h))

record TreeUp (start : Spot) (sections : SectionBytes) (context : UnitContext) (table : List Abbrev) (before : Parsed) (s : Spot) (y : Parsed × Spot) : Type 0 where
  reads : tree_at start sections (by Output context) table before s ≡ Ok y
  attrs : List RawAttr
  was : Told start sections (by Input context) table before s attrs
  now : Told start sections (by Output context) table before s attrs

tree_up : (start : Spot) (sections : SectionBytes) (context : UnitContext) (table : List Abbrev) (before : Parsed) (s : Spot) (y : Parsed × Spot) → tree_at start sections (by Input context) table before s ≡ Ok y → AreEntriesLed y.0.entries
    → TreeUp start sections context table before s y
unfolding tree_at
tree_up start sections context table before s y e h =
    let w = tree_steps start sections (by Input context) table before s y e in
    let walk : Walk = (w.root.0.1, opened w.root.0.0 (length before.entries) []) in
    let left : ℕ = w.root.1.end - w.root.1.place in
    let begins = children_begin sections (by Input context) table left walk w.root.1 y w.others in
    let r = root_up start sections context table before s w.root w.first (led_begins w.root.0.1.entries y.0.entries begins h) in
    record { reads = rw r.reads (children_up sections context table left walk w.root.1 y w.others h); attrs = r.attrs; was = r.was; now = r.now }

-- ---- units

-- zeros up to the end
pub no_others : (start s : Spot) (others : List ℕ × Spot) → bytes_at (s.end - s.place) s ≡ Ok others → not (list_all is_zero others.0) ≡ false → zeros_at start s ≡ Ok tt
unfolding zeros_at
no_others start s others read zeros = rw (read, zeros) refl

unit_down : (sections : SectionBytes) (number : ℕ) (before : Parsed) (place : ℕ) (y : (InUnit × Parsed) × ℕ) → unit_at Output sections number before place ≡ Ok y
    → (unit_at Input sections number before place ≡ Ok y) × (AreEntriesLed before.entries → AreEntriesLed y.0.1.entries)
unfolding unit_at
unit_down sections number before place y e =
    let w = unit_steps Output sections number before place y e in
    let start : Spot = info_at sections place in
    let context : Option Bases → UnitContext = λ bases. context_in Output number place w.header.0.version bases in
    let b = bases_down start sections (context None) w.table before w.header.1 w.bases w.bases_are in
    let t = tree_down start sections (context (Some w.bases)) w.table before w.header.1 w.tree w.tree_is in
    (rw (w.header_is, w.table_is, b, t.0, no_others start w.tree.1 w.others w.others_is w.zeros) (ap (λ (p : (InUnit × Parsed) × ℕ). Ok p) w.is), λ h. subst (λ (p : (InUnit × Parsed) × ℕ). AreEntriesLed p.0.1.entries) w.is (t.1 h))

unit_up : (sections : SectionBytes) (number : ℕ) (before : Parsed) (place : ℕ) (y : (InUnit × Parsed) × ℕ) → unit_at Input sections number before place ≡ Ok y → AreEntriesLed y.0.1.entries → unit_at Output sections number before place ≡ Ok y
unfolding unit_at
unit_up sections number before place y e h =
    let w = unit_steps Input sections number before place y e in
    let start : Spot = info_at sections place in
    let context : Option Bases → UnitContext = λ bases. context_in Input number place w.header.0.version bases in
    let t = tree_up start sections (context (Some w.bases)) w.table before w.header.1 w.tree w.tree_is (subst (λ (p : (InUnit × Parsed) × ℕ). AreEntriesLed p.0.1.entries) (sym w.is) h) in
    let was = t.was in
    let now = t.now in
    let same : was.bases ≡ w.bases = ok_is was.bases w.bases (sym was.told ∙ w.bases_are) in
    let told : now.bases ≡ w.bases = now.are ∙ sym was.are ∙ same in
    let b : bases_at start sections (context_in Output number place w.header.0.version None) w.table before w.header.1 ≡ Ok w.bases = now.told ∙ ap (λ (bases : Bases). Ok bases) told in
    rw (w.header_is, w.table_is, b, t.reads, no_others start w.tree.1 w.others w.others_is w.zeros) (ap (λ (p : (InUnit × Parsed) × ℕ). Ok p) w.is)

unit_begins : (profile : Profile) (sections : SectionBytes) (number : ℕ) (before : Parsed) (place : ℕ) (y : (InUnit × Parsed) × ℕ) → unit_at profile sections number before place ≡ Ok y → Begins before.entries y.0.1.entries
unit_begins profile sections number before place y e =
    let w = unit_steps profile sections number before place y e in
    let t = tree_steps (info_at sections place) sections (context_in profile number place w.header.0.version (Some w.bases)) w.table before w.header.1 w.tree w.tree_is in
    let r = root_steps (info_at sections place) sections (context_in profile number place w.header.0.version (Some w.bases)) w.table before w.header.1 t.root t.first in
    let root = subst (λ (p : (Bool × Parsed) × Spot). Begins before.entries p.0.1.entries) r.is (entry_begins sections _ None w.header.1.place r.declared before r.code.1 r.read r.entry) in
    let others = children_begin sections _ w.table _ _ t.root.1 w.tree t.others in
    subst (λ (p : (InUnit × Parsed) × ℕ). Begins before.entries p.0.1.entries) w.is (begins_on before.entries t.root.0.1.entries w.tree.0.entries root others)

units_begin : (profile : Profile) (sections : SectionBytes) (left : ℕ) (units : List InUnit) (before : Parsed) (place : ℕ) (y : List InUnit × Parsed) → units_at profile sections left units before place ≡ Ok y → Begins before.entries y.1.entries
units_begin profile sections zero units before place y e = absurd (some_left profile sections units before place y e)
units_begin profile sections (suc left) units before place y e =
    elim (units_steps profile sections left units before place y e) [
      | inl w ↦ subst (λ (p : List InUnit × Parsed). Begins before.entries p.1.entries) w.1 (begins_itself before.entries)
      | inr w ↦ begins_on before.entries w.read.0.1.entries y.1.entries (unit_begins profile sections (length units) before place w.read w.unit) (units_begin profile sections left (units ++ w.read.0.0 ∷ []) w.read.0.1 w.read.1 y w.others)
    ]

last_unit : (sections : SectionBytes) (units : List InUnit) (before : Parsed) (place : ℕ) (left : ℕ) (profile : Profile) (y : List InUnit × Parsed) → (place == length sections.info) ≡ true → (units, before) ≡ y → units_at profile sections (suc left) units before place ≡ Ok y
unfolding units_at
last_unit sections units before place left profile y last is = rw last (ap (λ (p : List InUnit × Parsed). Ok p) is)

next_unit : (profile : Profile) (sections : SectionBytes) (left : ℕ) (units : List InUnit) (before : Parsed) (place : ℕ) (read : (InUnit × Parsed) × ℕ) (y : List InUnit × Parsed) → (place == length sections.info) ≡ false
    → unit_at profile sections (length units) before place ≡ Ok read → units_at profile sections left (units ++ read.0.0 ∷ []) read.0.1 read.1 ≡ Ok y → units_at profile sections (suc left) units before place ≡ Ok y
unfolding units_at
next_unit profile sections left units before place read y more e f = rw (more, e) f

units_down : (sections : SectionBytes) (left : ℕ) (units : List InUnit) (before : Parsed) (place : ℕ) (y : List InUnit × Parsed) → units_at Output sections left units before place ≡ Ok y
    → (units_at Input sections left units before place ≡ Ok y) × (AreEntriesLed before.entries → AreEntriesLed y.1.entries)
units_down sections zero units before place y e = absurd (some_left Output sections units before place y e)
units_down sections (suc left) units before place y e =
    elim (units_steps Output sections left units before place y e) [
      | inl w ↦ (last_unit sections units before place left Input y w.0 w.1, λ h. subst (λ (p : List InUnit × Parsed). AreEntriesLed p.1.entries) w.1 h)
      | inr w ↦
          let d = unit_down sections (length units) before place w.read w.unit in
          let t = units_down sections left (units ++ w.read.0.0 ∷ []) w.read.0.1 w.read.1 y w.others in
          (next_unit Input sections left units before place w.read y w.more d.0 t.0, λ h. t.1 (d.1 h))
    ]

units_up : (sections : SectionBytes) (left : ℕ) (units : List InUnit) (before : Parsed) (place : ℕ) (y : List InUnit × Parsed) → units_at Input sections left units before place ≡ Ok y → AreEntriesLed y.1.entries
    → units_at Output sections left units before place ≡ Ok y
units_up sections zero units before place y e h = absurd (some_left Input sections units before place y e)
units_up sections (suc left) units before place y e h =
    elim (units_steps Input sections left units before place y e) [
      | inl w ↦ last_unit sections units before place left Output y w.0 w.1
      | inr w ↦
          let begins = units_begin Input sections left (units ++ w.read.0.0 ∷ []) w.read.0.1 w.read.1 y w.others in
          let u = unit_up sections (length units) before place w.read w.unit (led_begins w.read.0.1.entries y.1.entries begins h) in
          next_unit Output sections left units before place w.read y w.more u (units_up sections left (units ++ w.read.0.0 ∷ []) w.read.0.1 w.read.1 y w.others h)
    ]

-- ---- all units

-- a reference that leads to no entry
abbrev refused : Reference → Result (List RawEntry) Fault
refused r = Err (record { kind = BadReference; section = Info; place = r.place })

found_none : (o : Option Reference) (entries y : List RawEntry) → option_map_or (λ r. refused r) o (Ok entries) ≡ Ok y → entries ≡ y
found_none None entries y e = ok_is entries y e
found_none (Some r) entries y e = absurd cc

resolved_entries : (entries : List RawEntry) (references : List Reference) (y : List RawEntry) → resolved entries references ≡ Ok y → entries ≡ y
unfolding resolved
resolved_entries entries references y e = found_none (find (λ r. not (leads entries r)) references) entries y e

abbrev raw : List InUnit → List RawEntry → RawUnits
raw units entries = record { units = units; entries = entries }

pub written_is : (sections : SectionBytes) (units : RawUnits) → written_units_of sections ≡ Ok units → (units_of sections ≡ Ok units) × AreEntriesLed units.entries
unfolding written_units_of units_of
written_is sections units e =
    let made : List InUnit × Parsed → List RawEntry → Result RawUnits Fault = λ read entries. Ok (raw read.0 entries) in
    let a = bind_ok (parsed_by Output sections) (λ read. resolved read.1.entries read.1.references >>= made read) units e in
    let b = bind_ok (resolved a.0.1.entries a.0.1.references) (made a.0) units a.2 in
    let d = units_down sections (suc (length sections.info)) [] nothing 0 a.0 a.1 in
    let led : AreEntriesLed b.0 = subst AreEntriesLed (resolved_entries a.0.1.entries a.0.1.references b.0 b.1) (d.1 tt) in
    (rw d.0 a.2, subst (λ (p : RawUnits). AreEntriesLed p.entries) (ok_is (raw a.0.0 b.0) units b.2) led)

pub is_written : (sections : SectionBytes) (units : RawUnits) → units_of sections ≡ Ok units → AreEntriesLed units.entries → written_units_of sections ≡ Ok units
unfolding written_units_of units_of
is_written sections units e h =
    let made : List InUnit × Parsed → List RawEntry → Result RawUnits Fault = λ read entries. Ok (raw read.0 entries) in
    let a = bind_ok (parsed_by Input sections) (λ read. resolved read.1.entries read.1.references >>= made read) units e in
    let b = bind_ok (resolved a.0.1.entries a.0.1.references) (made a.0) units a.2 in
    let all : AreEntriesLed b.0 = subst (λ (p : RawUnits). AreEntriesLed p.entries) (sym (ok_is (raw a.0.0 b.0) units b.2)) h in
    let led : AreEntriesLed a.0.1.entries = subst AreEntriesLed (sym (resolved_entries a.0.1.entries a.0.1.references b.0 b.1)) all in
    rw (units_up sections (suc (length sections.info)) [] nothing 0 a.0 a.1 led) a.2
