-- What is noted of references while entries are read: the places in the `Ref` values of these, in document order.
use Rattle.std.proofs.Common.{◌≡◌, ℕ, zero, suc, Bool, true, false, List, [], ◌∷◌, ◌++◌, length, map, Option, Some, None, Result, Ok, refl, sym, subst, ◌∙◌, inl, inr}
use Rattle.std.specs.Prelude.{is_none, nat_lt, not, if◌then◌else◌}
use Rattle.std.specs.Option.{option_map, option_map_or, option_to_list}
use Rattle.std.proofs.lemmas.List.{append-nil, flat_map_more, map-append}
use Rattle.ds_base.specs.declared.fault.Fault.{Fault}
use Rattle.ds_base.specs.declared.fault.Kind.TheVariants as kinds
use Rattle.ds_base.specs.Spot.{Spot, fault_at}
use Rattle.ds_base.specs.Reading.{◌>>=◌, refuse_if, or_fault, bytes_at, number_at, placed_text_at, text_at, sleb_at, text_of}
use Rattle.ds_base.proofs.Passing.{bind_ok, passed, ok_is}
use Rattle.dwarf_types.specs.declared.abbrev.Abbrev.{Abbrev}
use Rattle.dwarf_types.specs.declared.abbrev.Field.{Field}
use Rattle.dwarf_types.specs.declared.entry.InUnit.{InUnit as AUnit}
use Rattle.dwarf_types.specs.declared.entry.RawAttr.{RawAttr}
use Rattle.dwarf_types.specs.declared.entry.RawEntry.{RawEntry}
use Rattle.dwarf_types.specs.SectionBytes.{SectionBytes, location_bytes, range_bytes}
use Rattle.dwarf_types.specs.declared.value.Value.{Value}
use Rattle.dwarf_types.specs.declared.value.Value.TheVariants as values
use Rattle.form_value.specs.declared.form.FormClass.{FormClass}
use Rattle.form_value.specs.declared.form.FormClass.TheVariants.{Address, Text, StrText, LineStrText, Number, Signed, Present, Implicit, Wide, Block, Offset, Outside}
use Rattle.form_value.specs.Forms.{form_row}
use Rattle.form_value.specs.Reading.{block_at, class_at, coded_at, fixed_address, in_64_bits, made, value_at}
use Rattle.index_tables.specs.declared.bases.Bases.{Bases}
use Rattle.index_tables.specs.Tables.{text_place, address_place, list_place}
use Rattle.unit_tree.specs.declared.attribute.UnitContext.{UnitContext}
use Rattle.unit_tree.specs.declared.profile.Profile.{Profile}
use Rattle.unit_tree.specs.declared.profile.Profile.TheVariants.{Input}
use Rattle.unit_tree.specs.declared.meaning.Meaning.{Meaning}
use Rattle.unit_tree.specs.declared.meaning.Meaning.TheVariants.{InUnit, InObject, LineTable, RangeList, LocationList, TextIndex, AddressIndex, RangeListIndex, LocationListIndex, Other}
use Rattle.unit_tree.specs.declared.reference.Reference.{Reference}
use Rattle.unit_tree.specs.Attribute.{Described, address_named, attr_at, attrs_at, is_output, list_named, meant_at, names_lines, number_in, offset_in, offset_nowhere, text_named, value_meant_at}
use Rattle.unit_tree.specs.Entry.{Parsed, Walk, child_at, children_at, entry_at, innermost, root_at, tree_at}
use Rattle.unit_tree.specs.Meaning.{meaning_of}
use Rattle.unit_tree.specs.Targets.{target_in, targets_in, targets_of}
use Rattle.unit_tree.specs.Unit.{nothing, parsed_of, unit_at, units_at}
use Rattle.unit_tree.proofs.Steps.{children_end, children_steps, child_steps, entry_steps, listed_steps, root_steps, tree_steps, unit_steps, some_left, units_steps}

-- ---- values

-- a value that is no reference
abbrev IsPlain : Value → Type 0
IsPlain value = target_in value ≡ []

made_plain : {A : Type 0} (value : A → Value) (read : Result (A × Spot) Fault) (y : Value × Spot) → made value read ≡ Ok y → ((x : A) → IsPlain (value x)) → IsPlain y.0
made_plain value read y e plain =
    let b = bind_ok read (λ x. Ok (value x.0, x.1)) y e in
    subst (λ (p : Value × Spot). IsPlain p.0) (ok_is (value b.0.0, b.0.1) y b.2) (plain b.0.0)

class_plain : (class : FormClass) (field : Field) (sections : SectionBytes) (s : Spot) (y : Value × Spot) → class_at class field sections s ≡ Ok y → IsPlain y.0
unfolding class_at
class_plain Address field sections s y e = made_plain fixed_address (number_at 8 s) y e (λ x. refl)
class_plain Text field sections s y e = made_plain (λ text. values.Text text) (text_at s) y e (λ x. refl)
class_plain StrText field sections s y e = made_plain (λ text. values.Text text) (placed_text_at sections.strings s) y e (λ x. refl)
class_plain LineStrText field sections s y e = made_plain (λ text. values.Text text) (placed_text_at sections.line_str s) y e (λ x. refl)
class_plain (Number coding) field sections s y e = made_plain (λ n. values.Number field.form n) (coded_at coding s) y e (λ x. refl)
class_plain Signed field sections s y e = made_plain (λ n. values.Number field.form (in_64_bits n)) (sleb_at s) y e (λ x. refl)
class_plain Present field sections s y e = subst (λ (p : Value × Spot). IsPlain p.0) (ok_is _ y e) refl
class_plain Implicit field sections s y e = subst (λ (p : Value × Spot). IsPlain p.0) (ok_is _ y e) refl
class_plain Wide field sections s y e = made_plain (λ bytes. values.Wide bytes) (bytes_at 16 s) y e (λ x. refl)
class_plain (Block coding) field sections s y e = made_plain (λ bytes. values.Block field.form bytes) (block_at coding s) y e (λ x. refl)
class_plain (Offset coding) field sections s y e = made_plain (λ n. values.Offset n) (coded_at coding s) y e (λ x. refl)
class_plain Outside field sections s y e = absurd cc

-- the value of a form is no reference before its number is understood
value_plain : (field : Field) (version : ℕ) (sections : SectionBytes) (s : Spot) (y : Value × Spot) → value_at field version sections s ≡ Ok y → IsPlain y.0
unfolding value_at
value_plain field version sections s y e =
    let b = bind_ok (or_fault (form_row field.form) (fault_at s kinds.UnknownForm)) (λ row. refuse_if (nat_lt version row.since) (fault_at s kinds.FormOutsideProfile) >>= λ u. class_at row.class field sections s) y e in
    let p = passed (nat_lt version b.0.since) (fault_at s kinds.FormOutsideProfile) (class_at b.0.class field sections s) y b.2 in
    class_plain b.0.class field sections s y p.1

-- ---- what a value means

abbrev targets : List Reference → List ℕ
targets references = map (λ r. r.target) references

-- the reference of a value leads where the value does, and one that does not lead has none
abbrev IsNoted : Value × Option Reference → Type 0
IsNoted meant = targets (option_to_list meant.1) ≡ target_in meant.0

abbrev done : Value × Option Reference → Result (Value × Option Reference) Fault
done meant = Ok meant

is_noted : (x y : Value × Option Reference) → done x ≡ done y → IsNoted x → IsNoted y
is_noted x y e h = subst IsNoted (ok_is x y e) h

offset_noted : (section : List ℕ) (n : ℕ) (s : Spot) (y : Value × Option Reference) → offset_in section n s ≡ Ok y → IsNoted y
offset_noted section n s y e =
    let p = passed (not (nat_lt n (length section))) (fault_at s kinds.BadOffset) (Ok (values.Offset n, None)) y e in
    is_noted (values.Offset n, None) y p.1 refl

text_noted : (sections : SectionBytes) (bases : Option Bases) (n : ℕ) (s : Spot) (y : Value × Option Reference) → text_named sections bases n s ≡ Ok y → IsNoted y
unfolding text_named
text_noted sections None n s y e = is_noted (values.Offset n, None) y e refl
text_noted sections (Some bases) n s y e =
    let b = bind_ok (or_fault (text_place sections bases.texts n) (fault_at s kinds.BadIndex)) (λ place. or_fault (text_of sections.strings place) (fault_at s kinds.BadOffset) >>= λ text. Ok (values.Text text, None)) y e in
    let c = bind_ok (or_fault (text_of sections.strings b.0) (fault_at s kinds.BadOffset)) (λ text. Ok (values.Text text, None)) y b.2 in
    is_noted (values.Text c.0, None) y c.2 refl

address_noted : (sections : SectionBytes) (bases : Option Bases) (n : ℕ) (s : Spot) (y : Value × Option Reference) → address_named sections bases n s ≡ Ok y → IsNoted y
unfolding address_named
address_noted sections None n s y e = is_noted (values.Offset n, None) y e refl
address_noted sections (Some bases) n s y e =
    let b = bind_ok (or_fault (address_place sections bases.addresses n) (fault_at s kinds.BadIndex)) (λ place. Ok (values.Offset n, None)) y e in
    is_noted (values.Offset n, None) y b.2 refl

list_noted : (section : List ℕ) (base : Option ℕ) (n : ℕ) (s : Spot) (y : Value × Option Reference) → list_named section base n s ≡ Ok y → IsNoted y
unfolding list_named
list_noted section None n s y e = is_noted (values.Offset n, None) y e refl
list_noted section (Some base) n s y e =
    let b = bind_ok (or_fault (list_place section base n) (fault_at s kinds.BadIndex)) (λ place. offset_in section place s) y e in
    offset_noted section b.0 s y b.2

nowhere_noted : (profile : Profile) (n : ℕ) (s : Spot) (y : Value × Option Reference) → offset_nowhere profile n s ≡ Ok y → IsNoted y
nowhere_noted profile n s y e =
    let p = passed (is_output profile) (fault_at s kinds.BadOutput) (Ok (values.Offset n, None)) y e in
    is_noted (values.Offset n, None) y p.1 refl

line_noted : (profile : Profile) (b : Bool) (section : List ℕ) (n : ℕ) (s : Spot) (y : Value × Option Reference) → (if b then offset_in section n s else offset_nowhere profile n s) ≡ Ok y → IsNoted y
line_noted profile true section n s y e = offset_noted section n s y e
line_noted profile false section n s y e = nowhere_noted profile n s y e

meant_noted : (sections : SectionBytes) (context : UnitContext) (lines : Bool) (meaning : Meaning) (n : ℕ) (s : Spot) (y : Value × Option Reference) → meant_at sections context lines meaning n s ≡ Ok y → IsNoted y
unfolding meant_at
meant_noted sections context lines InUnit n s y e = is_noted _ y e refl
meant_noted sections context lines InObject n s y e = is_noted _ y e refl
meant_noted sections context lines LineTable n s y e = line_noted context.profile lines sections.line n s y e
meant_noted sections context lines RangeList n s y e = offset_noted (range_bytes sections context.version) n s y e
meant_noted sections context lines LocationList n s y e = offset_noted (location_bytes sections context.version) n s y e
meant_noted sections context lines TextIndex n s y e = text_noted sections context.bases n s y e
meant_noted sections context lines AddressIndex n s y e = address_noted sections context.bases n s y e
meant_noted sections context lines RangeListIndex n s y e = list_noted sections.rnglists (option_map (λ bases. bases.ranges) context.bases) n s y e
meant_noted sections context lines LocationListIndex n s y e = list_noted sections.loclists (option_map (λ bases. bases.locations) context.bases) n s y e
meant_noted sections context lines Other n s y e = nowhere_noted context.profile n s y e

-- a value with a number, or another, which is no reference
by_number : (f : ℕ → Result (Value × Option Reference) Fault) (o : Option ℕ) (value : Value) (y : Value × Option Reference) → option_map_or f o (Ok (value, None)) ≡ Ok y → ((n : ℕ) → f n ≡ Ok y → IsNoted y) → IsPlain value → IsNoted y
by_number f (Some n) value y e known plain = known n e
by_number f None value y e known plain = is_noted (value, None) y e (sym plain)

value_noted : (sections : SectionBytes) (context : UnitContext) (root : Bool) (field : Field) (before : List RawAttr) (value : Value) (s : Spot) (y : Value × Option Reference) → value_meant_at sections context root field before value s ≡ Ok y → IsPlain value → IsNoted y
unfolding value_meant_at
value_noted sections context root field before value s y e plain =
    by_number (λ n. meant_at sections context (names_lines root before) (meaning_of field.form field.name) n s) (number_in value) value y e
    (λ n is. meant_noted sections context (names_lines root before) (meaning_of field.form field.name) n s y is) plain

-- ---- attributes

attr_noted : (sections : SectionBytes) (context : UnitContext) (root : Bool) (field : Field) (before : List RawAttr) (s : Spot) (y : (RawAttr × Option Reference) × Spot) → attr_at sections context root field before s ≡ Ok y → IsNoted (y.0.0.value, y.0.1)
unfolding attr_at
attr_noted sections context root field before s y e =
    let b = bind_ok (value_at field context.version sections s) (λ read. value_meant_at sections context root field before read.0 s >>= λ meant. Ok ((record { name = field.name; form = field.form; end = read.1.place; value = meant.0 }, meant.1), read.1)) y e in
    let c = bind_ok (value_meant_at sections context root field before b.0.0 s) (λ meant. Ok ((record { name = field.name; form = field.form; end = b.0.1.place; value = meant.0 }, meant.1), b.0.1)) y b.2 in
    subst (λ (p : (RawAttr × Option Reference) × Spot). IsNoted (p.0.0.value, p.0.1)) (ok_is _ y c.2) (value_noted sections context root field before b.0.0 s c.0 c.1 (value_plain field context.version sections s b.0 b.1))

-- the references lead to some places, and then to those of the attributes
abbrev AreNoted : List ℕ → Described → Type 0
AreNoted others read = targets read.1 ≡ others ++ targets_in read.0

one_noted : (others : List ℕ) (before : Described) (attr : RawAttr) (reference : Option Reference) → IsNoted (attr.value, reference) → AreNoted others before → AreNoted others (before.0 ++ attr ∷ [], before.1 ++ option_to_list reference)
one_noted others before attr reference here so_far =
    map-append (λ (r : Reference). r.target) before.1 (option_to_list reference) ∙ rw (so_far, here) (flat_map_more (λ (a : RawAttr). target_in a.value) others before.0 attr)

attrs_noted : (sections : SectionBytes) (context : UnitContext) (root : Bool) (others : List ℕ) (fields : List Field) (before : Described) (s : Spot) (y : Described × Spot) → attrs_at sections context root fields before s ≡ Ok y → AreNoted others before → AreNoted others y.0
unfolding attrs_at
attrs_noted sections context root others [] before s y e so_far = subst (λ (p : Described × Spot). AreNoted others p.0) (ok_is (before, s) y e) so_far
attrs_noted sections context root others (field ∷ fields) before s y e so_far =
    let b = bind_ok (attr_at sections context root field before.0 s) (λ attr. attrs_at sections context root fields (before.0 ++ attr.0.0 ∷ [], before.1 ++ option_to_list attr.0.1) attr.1) y e in
    let here = attr_noted sections context root field before.0 s b.0 b.1 in
    attrs_noted sections context root others fields (before.0 ++ b.0.0.0 ∷ [], before.1 ++ option_to_list b.0.0.1) b.0.1 y b.2 (one_noted others before b.0.0.0 b.0.0.1 here so_far)

-- ---- entries

-- the references are those of the entries' values
abbrev pub AreTargets : Parsed → Type 0
AreTargets read = targets read.references ≡ targets_of read.entries

entry_noted : (sections : SectionBytes) (context : UnitContext) (parent : Option ℕ) (place : ℕ) (declared : Abbrev) (before : Parsed) (s : Spot) (y : Parsed × Spot) → entry_at sections context parent place declared before s ≡ Ok y → AreTargets before → AreTargets y.0
entry_noted sections context parent place declared before s y e so_far =
    let w = entry_steps sections context parent place declared before s y e in
    let none : AreNoted (targets_of before.entries) ([], before.references) = so_far ∙ sym (append-nil (targets_of before.entries)) in
    let read = attrs_noted sections context (is_none parent) (targets_of before.entries) declared.fields ([], before.references) s w.read w.attrs none in
    let entry : RawEntry = record { parent = parent; unit = context.unit; place = place; tag = declared.tag; attrs = w.read.0.0 } in
    subst (λ (p : Parsed × Spot). AreTargets p.0) w.is (read ∙ flat_map_more (λ (e : RawEntry). targets_in e.attrs) [] before.entries entry)

root_noted : (start : Spot) (sections : SectionBytes) (context : UnitContext) (table : List Abbrev) (before : Parsed) (s : Spot) (y : (Bool × Parsed) × Spot) → root_at start sections context table before s ≡ Ok y → AreTargets before → AreTargets y.0.1
root_noted start sections context table before s y e so_far =
    let w = root_steps start sections context table before s y e in
    subst (λ (p : (Bool × Parsed) × Spot). AreTargets p.0.1) w.is (entry_noted sections context None s.place w.declared before w.code.1 w.read w.entry so_far)

child_noted : (sections : SectionBytes) (context : UnitContext) (table : List Abbrev) (walk : Walk) (s : Spot) (y : Walk × Spot) → child_at sections context table walk s ≡ Ok y → AreTargets walk.0 → AreTargets y.0.0
child_noted sections context table walk s y e so_far =
    elim (child_steps sections context table walk s y e) [
      | inl w ↦ subst (λ (p : Walk × Spot). AreTargets p.0.0) w.is so_far
      | inr w ↦
          let l = listed_steps sections context w.declared walk s w.code.1 y w.listed in
          subst (λ (p : Walk × Spot). AreTargets p.0.0) l.is (entry_noted sections context (innermost walk.1) s.place w.declared walk.0 w.code.1 l.read l.entry so_far)
    ]

children_noted : (sections : SectionBytes) (context : UnitContext) (table : List Abbrev) (left : ℕ) (walk : Walk) (s : Spot) (y : Parsed × Spot) → children_at sections context table left walk s ≡ Ok y → AreTargets walk.0 → AreTargets y.0
children_noted sections context table zero walk s y e so_far =
    let w = children_end sections context table walk s y e in
    subst (λ (p : Parsed × Spot). AreTargets p.0) w.1 so_far
children_noted sections context table (suc left) walk s y e so_far =
    elim (children_steps sections context table left walk s y e) [
      | inl w ↦ subst (λ (p : Parsed × Spot). AreTargets p.0) w.1 so_far
      | inr w ↦ children_noted sections context table left w.read.0 w.read.1 y w.others (child_noted sections context table walk s w.read w.child so_far)
    ]

tree_noted : (start : Spot) (sections : SectionBytes) (context : UnitContext) (table : List Abbrev) (before : Parsed) (s : Spot) (y : Parsed × Spot) → tree_at start sections context table before s ≡ Ok y → AreTargets before → AreTargets y.0
tree_noted start sections context table before s y e so_far =
    let w = tree_steps start sections context table before s y e in
    children_noted sections context table _ _ w.root.1 y w.others (root_noted start sections context table before s w.root w.first so_far)

-- ---- units

unit_noted : (sections : SectionBytes) (number : ℕ) (before : Parsed) (place : ℕ) (y : (AUnit × Parsed) × ℕ) → unit_at Input sections number before place ≡ Ok y → AreTargets before → AreTargets y.0.1
unit_noted sections number before place y e so_far =
    let w = unit_steps Input sections number before place y e in
    subst (λ (p : (AUnit × Parsed) × ℕ). AreTargets p.0.1) w.is (tree_noted _ sections _ w.table before w.header.1 w.tree w.tree_is so_far)

units_noted_from : (sections : SectionBytes) (left : ℕ) (units : List AUnit) (before : Parsed) (place : ℕ) (y : List AUnit × Parsed) → units_at Input sections left units before place ≡ Ok y → AreTargets before → AreTargets y.1
units_noted_from sections zero units before place y e so_far = absurd (some_left Input sections units before place y e)
units_noted_from sections (suc left) units before place y e so_far =
    elim (units_steps Input sections left units before place y e) [
      | inl w ↦ subst (λ (p : List AUnit × Parsed). AreTargets p.1) w.1 so_far
      | inr w ↦ units_noted_from sections left _ w.read.0.1 w.read.1 y w.others (unit_noted sections (length units) before place w.read w.unit so_far)
    ]

pub units_noted : (sections : SectionBytes) (y : List AUnit × Parsed) → parsed_of sections ≡ Ok y → AreTargets y.1
units_noted sections y e = units_noted_from sections (suc (length sections.info)) [] nothing 0 y e refl
