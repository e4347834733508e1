-- Every fault of an object's units is of their reader's kinds.
use Rattle.std.proofs.Common.{◌≡◌, ℕ, zero, suc, ◌-◌, ◌==◌, ◌&&◌, Bool, true, not, List, [], ◌∷◌, ◌++◌, length, Option, None, Ok, Err, refl, sym, subst, arith, Some, Result}
use Rattle.std.specs.Prelude.{is_none, nat_lt, if◌then◌else◌}
use Rattle.std.specs.Option.{option_map, option_map_or}
use Rattle.std.specs.List.{Contains, find, list_all}
use Rattle.std.specs.Option.{option_to_list}
use Rattle.std.proofs.lemmas.List.Elements.{All-contains, All-from_recursion, Contains-append_left}
use Rattle.ds_base.specs.DwarfNumbers.{DW_TAG_compile_unit, DW_UT_compile}
use Rattle.ds_base.specs.declared.fault.Fault.{Fault}
use Rattle.ds_base.specs.declared.fault.Kind.{Kind}
use Rattle.ds_base.specs.declared.fault.Kind.TheVariants as kinds
use Rattle.ds_base.specs.declared.fault.Part.TheVariants as parts
use Rattle.ds_base.specs.Spot.{Spot, fault_at}
use Rattle.ds_base.specs.Reading.{◌>>=◌, or_fault, bytes_at, number_at, uleb_at, refuse_if, text_of}
use Rattle.dwarf_types.specs.declared.abbrev.Abbrev.{Abbrev}
use Rattle.dwarf_types.specs.declared.abbrev.Field.{Field}
use Rattle.dwarf_types.specs.declared.entry.RawAttr.{RawAttr}
use Rattle.dwarf_types.specs.declared.entry.RawEntry.{RawEntry}
use Rattle.dwarf_types.specs.declared.entry.InUnit.{InUnit as AUnit}
use Rattle.dwarf_types.specs.declared.value.Value.{Value}
use Rattle.dwarf_types.specs.SectionBytes.{SectionBytes, location_bytes, range_bytes}
use Rattle.abbrev_read.specs.Reading.{table_at}
use Rattle.ds_base.proofs.FaultKinds.{FaultsAre, ok_kinds, err_kinds, bind_kinds, refuse_kinds, either_kinds, found_kinds, bytes_kinds, number_kinds, uleb_kinds}
use Rattle.abbrev_read.proofs.Refused.{IsOne as IsTableKind, table_faults_kinds as table_faults}
use Rattle.form_value.specs.Reading.{value_at}
use Rattle.form_value.proofs.Refused.{IsOne as IsValueKind, value_faults}
use Rattle.index_tables.specs.declared.bases.Bases.{Bases}
use Rattle.index_tables.specs.Tables.{text_place, address_place, list_place}
use Rattle.unit_tree.specs.declared.attribute.UnitContext.{UnitContext}
use Rattle.unit_tree.specs.declared.profile.Profile.{Profile}
use Rattle.unit_tree.specs.declared.profile.Profile.TheVariants.{Input}
use Rattle.ds_base.specs.DwarfNumbers.{DWARF_4, DWARF_5, ADDRESS_SIZE}
use Rattle.unit_tree.specs.declared.meaning.Meaning.{Meaning}
use Rattle.unit_tree.specs.declared.meaning.Meaning.TheVariants.{InUnit, InObject, LineTable, RangeList, LocationList, TextIndex, AddressIndex, RangeListIndex, LocationListIndex, Other}
use Rattle.unit_tree.specs.declared.reference.Reference.{Reference}
use Rattle.unit_tree.specs.Attribute.{Described, address_named, attr_at, attrs_at, list_named, meant_at, names_lines, number_in, offset_in, offset_nowhere, text_named, value_meant_at}
use Rattle.unit_tree.specs.Entry.{Parsed, Walk, bases_at, child_at, children_at, closed, declared_as, entry_at, first_at, innermost, is_full, is_split, listed_at, opened, root_at, tree_at}
use Rattle.unit_tree.specs.Header.{behind_length, fields_4_at, fields_5_at, fields_at, header_at, info_at, is_bad_length}
use Rattle.unit_tree.specs.Meaning.{meaning_of}
use Rattle.unit_tree.specs.Reference.{leads, resolved}
use Rattle.unit_tree.specs.Unit.{context_in, is_zero, nothing, parsed_of, unit_at, units_at, units_of, zeros_at}

abbrev pub IsOne : Kind → Type 0
IsOne = Contains (
    kinds.Truncated ∷ kinds.LebTooWide ∷ kinds.UnknownForm ∷ kinds.FormOutsideProfile ∷ kinds.BadOffset ∷ kinds.BadAbbrev ∷ kinds.DuplicateCode ∷ kinds.LimitAttributes
    ∷ kinds.UnsupportedVersion ∷ kinds.BadUnit ∷ kinds.SplitUnit ∷ kinds.UnknownCode ∷ kinds.UnclosedSiblings ∷ kinds.LimitDepth ∷ kinds.LimitEntries ∷ kinds.BadReference ∷ kinds.BadIndex ∷ []
    )

-- a test before what follows
tried_kinds : {A : Type 0} (b : Bool) (f : Fault) (next : Result A Fault) → IsOne f.kind → FaultsAre IsOne next → FaultsAre IsOne (refuse_if b f >>= λ u. next)
tried_kinds b f next is later = bind_kinds IsOne (refuse_if b f) (λ u. next) (refuse_kinds IsOne b f is) (λ u. later)

option_kinds : {A B : Type 0} (f : A → Result B Fault) (o : Option A) (none : Result B Fault) → ((x : A) → FaultsAre IsOne (f x)) → FaultsAre IsOne none → FaultsAre IsOne (option_map_or f o none)
option_kinds f (Some x) none h k = h x
option_kinds f None none h k = k

cut : IsOne kinds.Truncated
cut = (0, omega arith, refl)

wide : IsOne kinds.LebTooWide
wide = (1, omega arith, refl)

offset_bad : IsOne kinds.BadOffset
offset_bad = (4, omega arith, refl)

version_bad : IsOne kinds.UnsupportedVersion
version_bad = (8, omega arith, refl)

unit_bad : IsOne kinds.BadUnit
unit_bad = (9, omega arith, refl)

split : IsOne kinds.SplitUnit
split = (10, omega arith, refl)

unknown : IsOne kinds.UnknownCode
unknown = (11, omega arith, refl)

unclosed : IsOne kinds.UnclosedSiblings
unclosed = (12, omega arith, refl)

deep : IsOne kinds.LimitDepth
deep = (13, omega arith, refl)

many : IsOne kinds.LimitEntries
many = (14, omega arith, refl)

dangling : IsOne kinds.BadReference
dangling = (15, omega arith, refl)

index_bad : IsOne kinds.BadIndex
index_bad = (16, omega arith, refl)

-- ---- those of values and of tables

of_value : (k : Kind) → IsValueKind k → IsOne k
of_value k h = Contains-append_left (kinds.Truncated ∷ kinds.LebTooWide ∷ kinds.UnknownForm ∷ kinds.FormOutsideProfile ∷ kinds.BadOffset ∷ []) (
    kinds.BadAbbrev ∷ kinds.DuplicateCode ∷ kinds.LimitAttributes ∷ kinds.UnsupportedVersion ∷ kinds.BadUnit ∷ kinds.SplitUnit ∷ kinds.UnknownCode ∷ kinds.UnclosedSiblings ∷ kinds.LimitDepth ∷ kinds.LimitEntries ∷ kinds.BadReference ∷ kinds.BadIndex ∷ []
    ) k h

of_table : (k : Kind) → IsTableKind k → IsOne k
of_table k h = All-contains IsOne (kinds.Truncated ∷ kinds.LebTooWide ∷ kinds.BadAbbrev ∷ kinds.DuplicateCode ∷ kinds.LimitAttributes ∷ []) k
    (All-from_recursion IsOne (kinds.Truncated ∷ kinds.LebTooWide ∷ kinds.BadAbbrev ∷ kinds.DuplicateCode ∷ kinds.LimitAttributes ∷ []) (cut, (wide, ((5, omega arith, refl), ((6, omega arith, refl), ((7, omega arith, refl), tt)))))) h

-- ---- attributes

offset_kinds : (section : List ℕ) (n : ℕ) (s : Spot) → FaultsAre IsOne (offset_in section n s)
offset_kinds section n s = tried_kinds (not (nat_lt n (length section))) (fault_at s kinds.BadOffset) (Ok _) offset_bad (ok_kinds IsOne _)

text_kinds : (sections : SectionBytes) (bases : Option Bases) (n : ℕ) (s : Spot) → FaultsAre IsOne (text_named sections bases n s)
unfolding text_named
text_kinds sections None n s = ok_kinds IsOne _
text_kinds sections (Some bases) n s =
    bind_kinds IsOne (or_fault (text_place sections bases.texts n) (fault_at s kinds.BadIndex)) _ (found_kinds IsOne (text_place sections bases.texts n) (fault_at s kinds.BadIndex) index_bad) (λ place.
    bind_kinds IsOne (or_fault (text_of sections.strings place) (fault_at s kinds.BadOffset)) _ (found_kinds IsOne (text_of sections.strings place) (fault_at s kinds.BadOffset) offset_bad) (λ text. ok_kinds IsOne _))

address_kinds : (sections : SectionBytes) (bases : Option Bases) (n : ℕ) (s : Spot) → FaultsAre IsOne (address_named sections bases n s)
unfolding address_named
address_kinds sections None n s = ok_kinds IsOne _
address_kinds sections (Some bases) n s =
    bind_kinds IsOne (or_fault (address_place sections bases.addresses n) (fault_at s kinds.BadIndex)) _ (found_kinds IsOne (address_place sections bases.addresses n) (fault_at s kinds.BadIndex) index_bad) (λ place. ok_kinds IsOne _)

list_kinds : (section : List ℕ) (base : Option ℕ) (n : ℕ) (s : Spot) → FaultsAre IsOne (list_named section base n s)
unfolding list_named
list_kinds section None n s = ok_kinds IsOne _
list_kinds section (Some base) n s =
    bind_kinds IsOne (or_fault (list_place section base n) (fault_at s kinds.BadIndex)) _ (found_kinds IsOne (list_place section base n) (fault_at s kinds.BadIndex) index_bad) (λ place. offset_kinds section place s)

-- in an object an offset that leads nowhere is no fault
nowhere_kinds : (profile : Profile) (n : ℕ) (s : Spot) → profile ≡ Input → FaultsAre IsOne (offset_nowhere profile n s)
nowhere_kinds profile n s like = subst (λ (p : Profile). FaultsAre IsOne (offset_nowhere p n s)) (sym like) (ok_kinds IsOne _)

meant_kinds : (sections : SectionBytes) (context : UnitContext) (like : context.profile ≡ Input) (lines : Bool) (meaning : Meaning) (n : ℕ) (s : Spot) → FaultsAre IsOne (meant_at sections context lines meaning n s)
unfolding meant_at
meant_kinds sections context like lines InUnit n s = ok_kinds IsOne _
meant_kinds sections context like lines InObject n s = ok_kinds IsOne _
meant_kinds sections context like lines LineTable n s = either_kinds IsOne lines (offset_in sections.line n s) (offset_nowhere context.profile n s) (offset_kinds sections.line n s) (nowhere_kinds context.profile n s like)
meant_kinds sections context like lines RangeList n s = offset_kinds (range_bytes sections context.version) n s
meant_kinds sections context like lines LocationList n s = offset_kinds (location_bytes sections context.version) n s
meant_kinds sections context like lines TextIndex n s = text_kinds sections context.bases n s
meant_kinds sections context like lines AddressIndex n s = address_kinds sections context.bases n s
meant_kinds sections context like lines RangeListIndex n s = list_kinds sections.rnglists (option_map (λ bases. bases.ranges) context.bases) n s
meant_kinds sections context like lines LocationListIndex n s = list_kinds sections.loclists (option_map (λ bases. bases.locations) context.bases) n s
meant_kinds sections context like lines Other n s = nowhere_kinds context.profile n s like

value_meant_kinds : (sections : SectionBytes) (context : UnitContext) (like : context.profile ≡ Input) (root : Bool) (field : Field) (before : List RawAttr) (value : Value) (s : Spot) → FaultsAre IsOne (value_meant_at sections context root field before value s)
unfolding value_meant_at
value_meant_kinds sections context like root field before value s =
    option_kinds (λ n. meant_at sections context (names_lines root before) (meaning_of field.form field.name) n s) (number_in value) (Ok (value, None))
    (λ n. meant_kinds sections context like (names_lines root before) (meaning_of field.form field.name) n s) (ok_kinds IsOne _)

attr_kinds : (sections : SectionBytes) (context : UnitContext) (like : context.profile ≡ Input) (root : Bool) (field : Field) (before : List RawAttr) (s : Spot) → FaultsAre IsOne (attr_at sections context root field before s)
unfolding attr_at
attr_kinds sections context like root field before s =
    bind_kinds IsOne (value_at field context.version sections s) _ (λ f e. of_value f.kind (value_faults field context.version sections s f e)) (λ read.
    bind_kinds IsOne (value_meant_at sections context root field before read.0 s) _ (value_meant_kinds sections context like root field before read.0 s) (λ meant. ok_kinds IsOne _))

attrs_kinds : (sections : SectionBytes) (context : UnitContext) (like : context.profile ≡ Input) (root : Bool) (fields : List Field) (before : Described) (s : Spot) → FaultsAre IsOne (attrs_at sections context root fields before s)
unfolding attrs_at
attrs_kinds sections context like root [] before s = ok_kinds IsOne _
attrs_kinds sections context like root (field ∷ fields) before s =
    bind_kinds IsOne (attr_at sections context root field before.0 s) _ (attr_kinds sections context like root field before.0 s) (λ attr.
    attrs_kinds sections context like root fields (before.0 ++ attr.0.0 ∷ [], before.1 ++ option_to_list attr.0.1) attr.1)

-- ---- entries

entry_kinds : (sections : SectionBytes) (context : UnitContext) (like : context.profile ≡ Input) (parent : Option ℕ) (place : ℕ) (declared : Abbrev) (before : Parsed) (s : Spot) → FaultsAre IsOne (entry_at sections context parent place declared before s)
unfolding entry_at
entry_kinds sections context like parent place declared before s =
    bind_kinds IsOne (attrs_at sections context (is_none parent) declared.fields ([], before.references) s) _ (attrs_kinds sections context like (is_none parent) declared.fields ([], before.references) s) (λ read. ok_kinds IsOne _)

first_kinds : (start : Spot) (table : List Abbrev) (before : Parsed) (s : Spot) → FaultsAre IsOne (first_at start table before s)
unfolding first_at
first_kinds start table before s =
    bind_kinds IsOne (uleb_at s) _ (uleb_kinds IsOne s cut wide) (λ code.
    tried_kinds (code.0 == 0) (fault_at start kinds.BadUnit) _ unit_bad
    (bind_kinds IsOne (or_fault (declared_as code.0 table) (fault_at s kinds.UnknownCode)) _ (found_kinds IsOne (declared_as code.0 table) (fault_at s kinds.UnknownCode) unknown) (λ declared.
    tried_kinds (not (declared.tag == DW_TAG_compile_unit)) (fault_at start kinds.BadUnit) _ unit_bad
    (tried_kinds (is_split declared) (fault_at s kinds.SplitUnit) _ split
    (tried_kinds (is_full before) (fault_at s kinds.LimitEntries) _ many (ok_kinds IsOne _))))))

bases_kinds : (start : Spot) (sections : SectionBytes) (context : UnitContext) (like : context.profile ≡ Input) (table : List Abbrev) (before : Parsed) (s : Spot) → FaultsAre IsOne (bases_at start sections context table before s)
unfolding bases_at
bases_kinds start sections context like table before s =
    bind_kinds IsOne (first_at start table before s) _ (first_kinds start table before s) (λ first.
    bind_kinds IsOne (attrs_at sections context true first.0.fields ([], []) first.1) _ (attrs_kinds sections context like true first.0.fields ([], []) first.1) (λ read. ok_kinds IsOne _))

root_kinds : (start : Spot) (sections : SectionBytes) (context : UnitContext) (like : context.profile ≡ Input) (table : List Abbrev) (before : Parsed) (s : Spot) → FaultsAre IsOne (root_at start sections context table before s)
unfolding root_at
root_kinds start sections context like table before s =
    bind_kinds IsOne (first_at start table before s) _ (first_kinds start table before s) (λ first.
    bind_kinds IsOne (entry_at sections context None s.place first.0 before first.1) _ (entry_kinds sections context like None s.place first.0 before first.1) (λ read. ok_kinds IsOne _))

listed_kinds : (sections : SectionBytes) (context : UnitContext) (like : context.profile ≡ Input) (declared : Abbrev) (walk : Walk) (first s : Spot) → FaultsAre IsOne (listed_at sections context declared walk first s)
unfolding listed_at
listed_kinds sections context like declared walk first s =
    tried_kinds (declared.children && not (nat_lt (length walk.1) 1000)) (fault_at first kinds.LimitDepth) _ deep
    (tried_kinds (is_full walk.0) (fault_at first kinds.LimitEntries) _ many
    (bind_kinds IsOne (entry_at sections context (innermost walk.1) first.place declared walk.0 s) _ (entry_kinds sections context like (innermost walk.1) first.place declared walk.0 s) (λ read. ok_kinds IsOne _)))

child_kinds : (sections : SectionBytes) (context : UnitContext) (like : context.profile ≡ Input) (table : List Abbrev) (walk : Walk) (s : Spot) → FaultsAre IsOne (child_at sections context table walk s)
unfolding child_at
child_kinds sections context like table walk s =
    bind_kinds IsOne (uleb_at s) _ (uleb_kinds IsOne s cut wide) (λ code.
    either_kinds IsOne (code.0 == 0) (Ok ((walk.0, closed walk.1), code.1)) _ (ok_kinds IsOne _)
    (bind_kinds IsOne (or_fault (declared_as code.0 table) (fault_at s kinds.UnknownCode)) _ (found_kinds IsOne (declared_as code.0 table) (fault_at s kinds.UnknownCode) unknown) (λ declared.
    listed_kinds sections context like declared walk s code.1)))

children_kinds : (sections : SectionBytes) (context : UnitContext) (like : context.profile ≡ Input) (table : List Abbrev) (left : ℕ) (walk : Walk) (s : Spot) → FaultsAre IsOne (children_at sections context table left walk s)
unfolding children_at
children_kinds sections context like table zero walk s = either_kinds IsOne (length walk.1 == 0) (Ok (walk.0, s)) (Err (fault_at s kinds.UnclosedSiblings)) (ok_kinds IsOne _) (err_kinds IsOne (fault_at s kinds.UnclosedSiblings) unclosed)
children_kinds sections context like table (suc left) walk s =
    either_kinds IsOne (length walk.1 == 0) (Ok (walk.0, s)) _ (ok_kinds IsOne _)
    (either_kinds IsOne (s.end - s.place == 0) (Err (fault_at s kinds.UnclosedSiblings)) _ (err_kinds IsOne (fault_at s kinds.UnclosedSiblings) unclosed)
    (bind_kinds IsOne (child_at sections context table walk s) _ (child_kinds sections context like table walk s) (λ read. children_kinds sections context like table left read.0 read.1)))

tree_kinds : (start : Spot) (sections : SectionBytes) (context : UnitContext) (like : context.profile ≡ Input) (table : List Abbrev) (before : Parsed) (s : Spot) → FaultsAre IsOne (tree_at start sections context table before s)
unfolding tree_at
tree_kinds start sections context like table before s =
    bind_kinds IsOne (root_at start sections context table before s) _ (root_kinds start sections context like table before s) (λ root.
    children_kinds sections context like table (root.1.end - root.1.place) (root.0.1, opened root.0.0 (length before.entries) []) root.1)

-- ---- units

fields_4_kinds : (sections : SectionBytes) (first s : Spot) → FaultsAre IsOne (fields_4_at sections first s)
unfolding fields_4_at
fields_4_kinds sections first s =
    bind_kinds IsOne (number_at 4 s) _ (number_kinds IsOne 4 s cut) (λ table.
    tried_kinds (not (nat_lt table.0 (length sections.abbrev_))) (fault_at s kinds.BadOffset) _ offset_bad
    (bind_kinds IsOne (number_at 1 table.1) _ (number_kinds IsOne 1 table.1 cut) (λ size.
    tried_kinds (not (size.0 == ADDRESS_SIZE)) (fault_at first kinds.BadUnit) (Ok _) unit_bad (ok_kinds IsOne _))))

fields_5_kinds : (sections : SectionBytes) (first s : Spot) → FaultsAre IsOne (fields_5_at sections first s)
unfolding fields_5_at
fields_5_kinds sections first s =
    bind_kinds IsOne (number_at 1 s) _ (number_kinds IsOne 1 s cut) (λ kind.
    tried_kinds (not (kind.0 == DW_UT_compile)) (fault_at first kinds.BadUnit) _ unit_bad
    (bind_kinds IsOne (number_at 1 kind.1) _ (number_kinds IsOne 1 kind.1 cut) (λ size.
    tried_kinds (not (size.0 == ADDRESS_SIZE)) (fault_at first kinds.BadUnit) _ unit_bad
    (bind_kinds IsOne (number_at 4 size.1) _ (number_kinds IsOne 4 size.1 cut) (λ table.
    tried_kinds (not (nat_lt table.0 (length sections.abbrev_))) (fault_at size.1 kinds.BadOffset) (Ok _) offset_bad (ok_kinds IsOne _))))))

fields_kinds : (sections : SectionBytes) (first s : Spot) → FaultsAre IsOne (fields_at sections first s)
unfolding fields_at
fields_kinds sections first s =
    bind_kinds IsOne (number_at 2 s) _ (number_kinds IsOne 2 s cut) (λ version.
    tried_kinds (not (version.0 == DWARF_4) && not (version.0 == DWARF_5)) (fault_at s kinds.UnsupportedVersion) _ version_bad
    (bind_kinds IsOne (if version.0 == DWARF_5 then fields_5_at sections first version.1 else fields_4_at sections first version.1) _
    (either_kinds IsOne (version.0 == DWARF_5) (fields_5_at sections first version.1) (fields_4_at sections first version.1) (fields_5_kinds sections first version.1) (fields_4_kinds sections first version.1)) (λ table. ok_kinds IsOne _)))

header_kinds : (sections : SectionBytes) (place : ℕ) → FaultsAre IsOne (header_at sections place)
unfolding header_at
header_kinds sections place =
    bind_kinds IsOne (number_at 4 (info_at sections place)) _ (number_kinds IsOne 4 (info_at sections place) cut) (λ len.
    tried_kinds (is_bad_length sections place len.0) (fault_at (info_at sections place) kinds.BadUnit) _ unit_bad (fields_kinds sections (info_at sections place) (behind_length sections place len.0)))

zeros_kinds : (start s : Spot) → FaultsAre IsOne (zeros_at start s)
unfolding zeros_at
zeros_kinds start s =
    bind_kinds IsOne (bytes_at (s.end - s.place) s) _ (bytes_kinds IsOne (s.end - s.place) s cut) (λ others.
    either_kinds IsOne (not (list_all is_zero others.0)) (Err (fault_at start kinds.BadUnit)) (Ok tt) (err_kinds IsOne (fault_at start kinds.BadUnit) unit_bad) (ok_kinds IsOne _))

unit_read_kinds : (sections : SectionBytes) (number : ℕ) (before : Parsed) (place : ℕ) → FaultsAre IsOne (unit_at Input sections number before place)
unfolding unit_at
unit_read_kinds sections number before place =
    bind_kinds IsOne (header_at sections place) _ (header_kinds sections place) (λ header.
    bind_kinds IsOne (table_at sections.abbrev_ header.0.table) _
    (λ f e. of_table f.kind (table_faults sections.abbrev_ header.0.table f e)) (λ table.
    bind_kinds IsOne (bases_at (info_at sections place) sections (context_in Input number place header.0.version None) table before header.1) _
    (bases_kinds (info_at sections place) sections (context_in Input number place header.0.version None) refl table before header.1) (λ bases.
    bind_kinds IsOne (tree_at (info_at sections place) sections (context_in Input number place header.0.version (Some bases)) table before header.1) _
    (tree_kinds (info_at sections place) sections (context_in Input number place header.0.version (Some bases)) refl table before header.1) (λ tree.
    bind_kinds IsOne (zeros_at (info_at sections place) tree.1) _ (zeros_kinds (info_at sections place) tree.1) (λ u. ok_kinds IsOne _)))))

units_read_kinds : (sections : SectionBytes) (left : ℕ) (units : List AUnit) (before : Parsed) (place : ℕ) → FaultsAre IsOne (units_at Input sections left units before place)
unfolding units_at
units_read_kinds sections zero units before place = err_kinds IsOne (fault_at (info_at sections place) kinds.Truncated) cut
units_read_kinds sections (suc left) units before place =
    either_kinds IsOne (place == length sections.info) (Ok (units, before)) _ (ok_kinds IsOne _)
    (bind_kinds IsOne (unit_at Input sections (length units) before place) _ (unit_read_kinds sections (length units) before place) (λ read. units_read_kinds sections left (units ++ read.0.0 ∷ []) read.0.1 read.1))

resolved_kinds : (entries : List RawEntry) (references : List Reference) → FaultsAre IsOne (resolved entries references)
unfolding resolved
resolved_kinds entries references =
    option_kinds (λ r. Err (record { kind = kinds.BadReference; section = parts.Info; place = r.place })) (find (λ r. not (leads entries r)) references) (Ok entries) (λ r. err_kinds IsOne (record { kind = kinds.BadReference; section = parts.Info; place = r.place }) dangling) (ok_kinds IsOne _)

pub unit_faults : (sections : SectionBytes) → FaultsAre IsOne (units_of sections)
unfolding units_of
unit_faults sections =
    bind_kinds IsOne (parsed_of sections) _ (units_read_kinds sections (suc (length sections.info)) [] nothing 0) (λ read.
    bind_kinds IsOne (resolved read.1.entries read.1.references) _ (resolved_kinds read.1.entries read.1.references) (λ entries. ok_kinds IsOne _))
