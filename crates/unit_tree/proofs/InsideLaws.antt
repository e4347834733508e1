-- What is read of an object's units keeps inside its sections.
use Rattle.std.proofs.Common.{◌≡◌, ℕ, suc, ◌+◌, ◌^◌, ◌<◌, ◌≤◌, ◌==◌, ◌&&◌, ◌||◌, ◌⊎◌, Bool, true, false, List, [], ◌∷◌, ◌++◌, length, Option, Some, None, Ok, refl, sym, ap, subst, cond, ◌∙◌, append_assoc, inl, inr, arith}
use Rattle.std.specs.Prelude.{IfSome, IsSome, slice_get, if◌then◌else◌}
use Rattle.std.specs.List.{All, find}
use Rattle.std.proofs.lemmas.Bool.{eqb-true}
use Rattle.std.proofs.lemmas.List.{length-append}
use Rattle.std.proofs.lemmas.List.Elements.{All-nil, All-cons, All-append}
use Rattle.ds_base.specs.DwarfNumbers.{DW_AT_stmt_list, DW_FORM_addr, DW_FORM_addrx, DW_FORM_addrx1, DW_FORM_addrx2, DW_FORM_addrx3, DW_FORM_addrx4, DW_FORM_block, DW_FORM_block1, DW_FORM_block2, DW_FORM_block4, DW_FORM_data1, DW_FORM_data2, DW_FORM_data4, DW_FORM_data8, DW_FORM_data16, DW_FORM_exprloc, DW_FORM_flag, DW_FORM_flag_present, DW_FORM_implicit_const, DW_FORM_indirect, DW_FORM_line_strp, DW_FORM_loclistx, DW_FORM_ref_addr, DW_FORM_ref_sig8, DW_FORM_ref_sup4, DW_FORM_ref_sup8, DW_FORM_ref_udata, DW_FORM_ref1, DW_FORM_ref2, DW_FORM_ref4, DW_FORM_ref8, DW_FORM_rnglistx, DW_FORM_sdata, DW_FORM_sec_offset, DW_FORM_string, DW_FORM_strp, DW_FORM_strp_sup, DW_FORM_strx, DW_FORM_strx1, DW_FORM_strx2, DW_FORM_strx3, DW_FORM_strx4, DW_FORM_udata}
use Rattle.dwarf_types.specs.declared.abbrev.Field.{Field}
use Rattle.dwarf_types.specs.declared.entry.RawAttr.{RawAttr}
use Rattle.dwarf_types.specs.declared.entry.RawEntry.{RawEntry}
use Rattle.dwarf_types.specs.declared.entry.InUnit.{InUnit as AUnit}
use Rattle.dwarf_types.specs.declared.entry.RawUnits.{RawUnits}
use Rattle.dwarf_types.specs.declared.value.Value.{Value}
use Rattle.dwarf_types.specs.declared.value.Value.TheVariants as values
use Rattle.dwarf_types.specs.SectionBytes.{SectionBytes, location_bytes, range_bytes}
use Rattle.dwarf_types.specs.Spelled.{AreBytes}
use Rattle.form_value.specs.declared.form.FormClass.{FormClass}
use Rattle.form_value.specs.declared.form.FormClass.TheVariants as classes
use Rattle.form_value.specs.declared.form.FormRow.{FormRow}
use Rattle.form_value.specs.Forms.{form_row}
use Rattle.form_value.specs.Reading.{fixed_address, in_64_bits}
use Rattle.form_value.specs.Spelling.{SpellsClass}
use Rattle.index_tables.specs.declared.bases.Bases.{Bases}
use Rattle.index_tables.specs.Bases.{bases_in}
use Rattle.index_tables.specs.Tables.{address_place}
use Rattle.unit_tree.specs.Entry.{Parsed}
use Rattle.ds_base.specs.DwarfNumbers.{DWARF_4, DWARF_5}
use Rattle.unit_tree.specs.declared.meaning.Meaning.{Meaning}
use Rattle.unit_tree.specs.declared.meaning.Meaning.TheVariants.{InUnit, InObject, LineTable, RangeList, LocationList, TextIndex, AddressIndex, RangeListIndex, LocationListIndex, Other}
use Rattle.unit_tree.specs.Attribute.{has_attr, names_lines}
use Rattle.unit_tree.specs.Inside.{AreInside, IsListInside, IsOffsetInside, IsRootInside, IsValueInside, LiesInside}
use Rattle.unit_tree.specs.Meaning.{index_of, is_address_index, meaning_of, table_of}
use Rattle.unit_tree.specs.Spelling.{AreSoundUnits, AttrsLead, Forest, IsMeant, Means, Names, NamesAddress, NamesList, NamesText, Node, NodeLeads, Origin, SpellsAttr, SpellsAttrs, SpellsBelow, SpellsFields, SpellsNode, SpellsTrees, SpellsUnit, SpellsUnits, TreesLead, UnitTree, ValueLeads, begins_at, entries_of, entry_of, in_unit, in_units, no_more, origin_in, preorder, raw_units, size, tree, unit_entries}
use Rattle.unit_tree.specs.Reference.{resolved}
use Rattle.unit_tree.specs.Unit.{parsed_of, units_of}
use Rattle.unit_tree.proofs.AttrLaws.{both_true}
use Rattle.unit_tree.proofs.Rising.{both_false}
use Rattle.unit_tree.proofs.RootBases.{is_index, offsets_plain}
use Rattle.unit_tree.proofs.TreeLaws.{length_preorder}
use Rattle.unit_tree.proofs.UnitLaws.{got_there, length_number, units_spelled}

-- ---- forms of numbers

-- no list is led to
abbrev IsListless : Meaning → Type 0
IsListless RangeList = ⊥
IsListless LocationList = ⊥
IsListless meaning = Unit {0}

-- what is known of a form and an attribute, the numbers of which mean that, and from which version on the form is there
abbrev IsKnownBy : ℕ → ℕ → ℕ → Meaning → Type 0
IsKnownBy form since name InUnit = Unit {0}
IsKnownBy form since name InObject = Unit {0}
IsKnownBy form since name TextIndex = Unit {0}
IsKnownBy form since name AddressIndex = is_address_index form ≡ true
IsKnownBy form since name RangeListIndex = (is_address_index form ≡ false) × (table_of name ≡ RangeList) × (5 ≤ since)
IsKnownBy form since name LocationListIndex = (is_address_index form ≡ false) × (table_of name ≡ LocationList) × (5 ≤ since)
IsKnownBy form since name Other = (is_address_index form ≡ false) × IsListless (table_of name)
IsKnownBy form since name LineTable = (is_address_index form ≡ false) × (table_of name ≡ LineTable)
IsKnownBy form since name RangeList = (is_address_index form ≡ false) × (table_of name ≡ RangeList)
IsKnownBy form since name LocationList = (is_address_index form ≡ false) × (table_of name ≡ LocationList)

abbrev IsTold : ℕ → ℕ → Type 0
IsTold form since = (name : ℕ) → IsKnownBy form since name (meaning_of form name)

abbrev Tells : ℕ → ℕ → FormClass → Type 0
Tells form since (classes.Offset coding) = IsTold form since
Tells form since class = Unit {0}

abbrev TellsIn : ℕ → Option FormRow → Type 0
TellsIn form row = IfSome row (λ row. Tells form row.since row.class)

by_test : (form : ℕ) (b : Bool) (x y : Option FormRow) → (b ≡ true → TellsIn form x) → TellsIn form y → TellsIn form (if b then x else y)
by_test form true x y f h = f refl
by_test form false x y f h = h

either : (b c : Bool) → (b || c) ≡ true → (b ≡ true) ⊎ (c ≡ true)
either true c e = inl refl
either false c e = inr e

-- a form is one whose numbers are told
told_as : (form c since : ℕ) → IsTold c since → (form == c) ≡ true → IsTold form since
told_as form c since told e = subst (λ (f : ℕ). IsTold f since) (sym (eqb-true form c e)) told

-- a section offset leads where its attribute says
offset_by : (form since name : ℕ) (m : Meaning) → is_address_index form ≡ false → table_of name ≡ m → is_index m ≡ false → IsKnownBy form since name m
offset_by form since name InUnit not_so is plain = tt
offset_by form since name InObject not_so is plain = tt
offset_by form since name LineTable not_so is plain = (not_so, is)
offset_by form since name RangeList not_so is plain = (not_so, is)
offset_by form since name LocationList not_so is plain = (not_so, is)
offset_by form since name TextIndex not_so is plain = tt
offset_by form since name AddressIndex not_so is plain = absurd cc
offset_by form since name RangeListIndex not_so is plain = absurd cc
offset_by form since name LocationListIndex not_so is plain = absurd cc
offset_by form since name Other not_so is plain = (not_so, subst IsListless (sym is) tt)

-- the index of a list too
index_by : (form since name : ℕ) (m : Meaning) → is_address_index form ≡ false → 5 ≤ since → table_of name ≡ m → IsKnownBy form since name (index_of m)
index_by form since name RangeList not_so five is = (not_so, is, five)
index_by form since name LocationList not_so five is = (not_so, is, five)
index_by form since name InUnit not_so five is = (not_so, subst IsListless (sym is) tt)
index_by form since name InObject not_so five is = (not_so, subst IsListless (sym is) tt)
index_by form since name LineTable not_so five is = (not_so, subst IsListless (sym is) tt)
index_by form since name TextIndex not_so five is = (not_so, subst IsListless (sym is) tt)
index_by form since name AddressIndex not_so five is = (not_so, subst IsListless (sym is) tt)
index_by form since name RangeListIndex not_so five is = (not_so, subst IsListless (sym is) tt)
index_by form since name LocationListIndex not_so five is = (not_so, subst IsListless (sym is) tt)
index_by form since name Other not_so five is = (not_so, subst IsListless (sym is) tt)

ref1_told : (since : ℕ) → IsTold DW_FORM_ref1 since
unfolding meaning_of
ref1_told since name = tt

ref2_told : (since : ℕ) → IsTold DW_FORM_ref2 since
unfolding meaning_of
ref2_told since name = tt

ref4_told : (since : ℕ) → IsTold DW_FORM_ref4 since
unfolding meaning_of
ref4_told since name = tt

ref8_told : (since : ℕ) → IsTold DW_FORM_ref8 since
unfolding meaning_of
ref8_told since name = tt

udata_told : (since : ℕ) → IsTold DW_FORM_ref_udata since
unfolding meaning_of
udata_told since name = tt

addr_told : (since : ℕ) → IsTold DW_FORM_ref_addr since
unfolding meaning_of
addr_told since name = tt

offset_told : (since : ℕ) → IsTold DW_FORM_sec_offset since
unfolding meaning_of
offset_told since name = offset_by DW_FORM_sec_offset since name (table_of name) refl refl (offsets_plain name)

rnglistx_told : IsTold DW_FORM_rnglistx 5
unfolding meaning_of
rnglistx_told name = index_by DW_FORM_rnglistx 5 name (table_of name) refl (omega arith) refl

loclistx_told : IsTold DW_FORM_loclistx 5
unfolding meaning_of
loclistx_told name = index_by DW_FORM_loclistx 5 name (table_of name) refl (omega arith) refl

strx_told : IsTold DW_FORM_strx 5
unfolding meaning_of
strx_told name = tt

strx1_told : IsTold DW_FORM_strx1 5
unfolding meaning_of
strx1_told name = tt

strx2_told : IsTold DW_FORM_strx2 5
unfolding meaning_of
strx2_told name = tt

strx3_told : IsTold DW_FORM_strx3 5
unfolding meaning_of
strx3_told name = tt

strx4_told : IsTold DW_FORM_strx4 5
unfolding meaning_of
strx4_told name = tt

addrx_told : IsTold DW_FORM_addrx 5
unfolding meaning_of
addrx_told name = refl

addrx1_told : IsTold DW_FORM_addrx1 5
unfolding meaning_of
addrx1_told name = refl

addrx2_told : IsTold DW_FORM_addrx2 5
unfolding meaning_of
addrx2_told name = refl

addrx3_told : IsTold DW_FORM_addrx3 5
unfolding meaning_of
addrx3_told name = refl

addrx4_told : IsTold DW_FORM_addrx4 5
unfolding meaning_of
addrx4_told name = refl

-- one of several forms
one_of : (form c since : ℕ) (b : Bool) → IsTold c since → (b ≡ true → IsTold form since) → (form == c || b) ≡ true → IsTold form since
one_of form c since b told others e = elim (either (form == c) b e) [
  | inl is ↦ told_as form c since told is
  | inr is ↦ others is
]

forms_tell : (form : ℕ) → TellsIn form (form_row form)
unfolding form_row
forms_tell form =
    by_test form (form == DW_FORM_addr) _ _ (λ e. tt)
    (by_test form (form == DW_FORM_string) _ _ (λ e. tt)
    (by_test form (form == DW_FORM_strp) _ _ (λ e. tt)
    (by_test form (form == DW_FORM_line_strp) _ _ (λ e. tt)
    (by_test form (form == DW_FORM_data1 || form == DW_FORM_flag) _ _ (λ e. tt)
    (by_test form (form == DW_FORM_data2) _ _ (λ e. tt)
    (by_test form (form == DW_FORM_data4) _ _ (λ e. tt)
    (by_test form (form == DW_FORM_data8) _ _ (λ e. tt)
    (by_test form (form == DW_FORM_udata) _ _ (λ e. tt)
    (by_test form (form == DW_FORM_sdata) _ _ (λ e. tt)
    (by_test form (form == DW_FORM_flag_present) _ _ (λ e. tt)
    (by_test form (form == DW_FORM_implicit_const) _ _ (λ e. tt)
    (by_test form (form == DW_FORM_data16) _ _ (λ e. tt)
    (by_test form (form == DW_FORM_block1) _ _ (λ e. tt)
    (by_test form (form == DW_FORM_block2) _ _ (λ e. tt)
    (by_test form (form == DW_FORM_block4) _ _ (λ e. tt)
    (by_test form (form == DW_FORM_block || form == DW_FORM_exprloc) _ _ (λ e. tt)
    (by_test form (form == DW_FORM_ref1) _ _ (λ e. told_as form DW_FORM_ref1 4 (ref1_told 4) e)
    (by_test form (form == DW_FORM_ref2) _ _ (λ e. told_as form DW_FORM_ref2 4 (ref2_told 4) e)
    (by_test form (form == DW_FORM_ref4 || (form == DW_FORM_ref_addr || form == DW_FORM_sec_offset)) _ _ (λ e. one_of form DW_FORM_ref4 4 _ (ref4_told 4) (one_of form DW_FORM_ref_addr 4 _ (addr_told 4) (told_as form DW_FORM_sec_offset 4 (offset_told 4))) e)
    (by_test form (form == DW_FORM_ref8) _ _ (λ e. told_as form DW_FORM_ref8 4 (ref8_told 4) e)
    (by_test form (form == DW_FORM_ref_udata) _ _ (λ e. told_as form DW_FORM_ref_udata 4 (udata_told 4) e)
    (by_test form (form == DW_FORM_addrx1 || form == DW_FORM_strx1) _ _ (λ e. one_of form DW_FORM_addrx1 5 _ addrx1_told (told_as form DW_FORM_strx1 5 strx1_told) e)
    (by_test form (form == DW_FORM_addrx2 || form == DW_FORM_strx2) _ _ (λ e. one_of form DW_FORM_addrx2 5 _ addrx2_told (told_as form DW_FORM_strx2 5 strx2_told) e)
    (by_test form (form == DW_FORM_addrx3 || form == DW_FORM_strx3) _ _ (λ e. one_of form DW_FORM_addrx3 5 _ addrx3_told (told_as form DW_FORM_strx3 5 strx3_told) e)
    (by_test form (form == DW_FORM_addrx4 || form == DW_FORM_strx4) _ _ (λ e. one_of form DW_FORM_addrx4 5 _ addrx4_told (told_as form DW_FORM_strx4 5 strx4_told) e)
    (by_test form (form == DW_FORM_addrx || (form == DW_FORM_strx || (form == DW_FORM_loclistx || form == DW_FORM_rnglistx))) _ _ (λ e. one_of form DW_FORM_addrx 5 _ addrx_told (one_of form DW_FORM_strx 5 _ strx_told (one_of form DW_FORM_loclistx 5 _ loclistx_told (told_as form DW_FORM_rnglistx 5 rnglistx_told))) e)
    (by_test form (form == DW_FORM_indirect || (form == DW_FORM_ref_sup4 || (form == DW_FORM_strp_sup || (form == DW_FORM_ref_sig8 || form == DW_FORM_ref_sup8)))) _ _ (λ e. tt) tt)))))))))))))))))))))))))))

told_by : (form : ℕ) (row : FormRow) → form_row form ≡ Some row → Tells form row.since row.class
told_by form row known = subst (TellsIn form) known (forms_tell form)

-- ---- values

or_true : (b c : Bool) → c ≡ true → (b || c) ≡ true
or_true true c e = refl
or_true false c e = e

or_first : (b c : Bool) → b ≡ true → (b || c) ≡ true
or_first true c e = refl
or_first false c e = absurd cc

begins_any : (entries : List RawEntry) (unit : Option ℕ) (place : ℕ) → begins_at entries unit place ≡ true → begins_at entries None place ≡ true
begins_any [] unit place e = absurd cc
begins_any (x ∷ xs) unit place e = elim (either (x.place == place && _) (begins_at xs unit place) e) [
  | inl here ↦ or_first (x.place == place && true) (begins_at xs None place) (rw ((both_true (x.place == place) _ here).0) refl)
  | inr later ↦ or_true (x.place == place && true) (begins_at xs None place) (begins_any xs unit place later)
]

-- the version of a unit is one of two
abbrev IsVersion : ℕ → Type 0
IsVersion version = (version ≡ DWARF_4) ⊎ (version ≡ DWARF_5)

five_is : (version since : ℕ) → IsVersion version → since ≤ version → 5 ≤ since → version ≡ DWARF_5
five_is version since known old five =
    elim known [
      | inl four ↦ absurd (omega (arith, four, old, five))
      | inr is ↦ is
    ]

line_meaning : (form name : ℕ) → form ≡ DW_FORM_sec_offset → name ≡ DW_AT_stmt_list → meaning_of form name ≡ LineTable
unfolding meaning_of table_of
line_meaning form name f n = rw (f, n) refl

module _ (sections : SectionBytes) (all : List RawEntry) (unit : ℕ) (o : Origin) (bases : Bases) (lines : Bool) where
  abbrev Inside : RawAttr → Value → Type 0
  Inside a value = IsValueInside sections o.version bases all a value

  -- an offset of an attribute that names no address
  offset_inside : (a : RawAttr) (n : ℕ) (value : Value) → value ≡ values.Offset n → is_address_index a.form ≡ false → IsListInside sections o.version (table_of a.name) n → Inside a value
  offset_inside a n value is not_so h = subst (Inside a) (sym is) (subst (λ (b : Bool). IsOffsetInside sections o.version bases b (table_of a.name) n) (sym not_so) h)

  listless : (m : Meaning) (n : ℕ) → IsListless m → IsListInside sections o.version m n
  listless RangeList n h = absurd h
  listless LocationList n h = absurd h
  listless m n h = tt

  some_there : (found : Option ℕ) (place : ℕ) → found ≡ Some place → IsSome found
  some_there (Some n) place e = refl
  some_there None place e = absurd cc

  meant_inside : (a : RawAttr) (since : ℕ) (meaning : Meaning) (n : ℕ) (value : Value) → o.bases ≡ Some bases → IsVersion o.version → since ≤ o.version → Means sections o lines meaning n value → ValueLeads all unit meaning value
      → IsKnownBy a.form since a.name meaning → Inside a value
  meant_inside a since InUnit n value has known old means leads told = subst (Inside a) (sym means) (begins_any all (Some unit) (o.place + n) (subst (ValueLeads all unit InUnit) means leads))
  meant_inside a since InObject n value has known old means leads told = subst (Inside a) (sym means) (subst (ValueLeads all unit InObject) means leads)
  meant_inside a since LineTable n value has known old means leads told = offset_inside a n value means.1 told.0 (subst (λ (m : Meaning). IsListInside sections o.version m n) (sym told.1) tt)
  meant_inside a since RangeList n value has known old means leads told = offset_inside a n value means.1 told.0 (subst (λ (m : Meaning). IsListInside sections o.version m n) (sym told.1) means.0)
  meant_inside a since LocationList n value has known old means leads told = offset_inside a n value means.1 told.0 (subst (λ (m : Meaning). IsListInside sections o.version m n) (sym told.1) means.0)
  meant_inside a since TextIndex n value has known old means leads told =
      let w = subst (λ (b : Option Bases). Names (λ bases v. NamesText sections bases n v) b n value) has means in
      subst (Inside a) (sym w.is) tt
  meant_inside a since AddressIndex n value has known old means leads told =
      let w = subst (λ (b : Option Bases). Names (λ bases v. NamesAddress sections bases n v) b n value) has means in
      subst (Inside a) (sym w.is) (subst (λ (b : Bool). IsOffsetInside sections o.version bases b (table_of a.name) n) (sym told) (some_there (address_place sections bases.addresses n) w.place w.placed))
  meant_inside a since RangeListIndex n value has known old means leads told =
      let w = subst (λ (b : Option Bases). Names (λ bases v. NamesList sections.rnglists bases.ranges n v) b n value) has means in
      let five = five_is o.version since known old told.2 in
      let there : w.place < length (range_bytes sections o.version) = subst (λ (v : ℕ). w.place < length (range_bytes sections v)) (sym five) w.inside in
      offset_inside a w.place value w.is told.0 (subst (λ (m : Meaning). IsListInside sections o.version m w.place) (sym told.1) there)
  meant_inside a since LocationListIndex n value has known old means leads told =
      let w = subst (λ (b : Option Bases). Names (λ bases v. NamesList sections.loclists bases.locations n v) b n value) has means in
      let five = five_is o.version since known old told.2 in
      let there : w.place < length (location_bytes sections o.version) = subst (λ (v : ℕ). w.place < length (location_bytes sections v)) (sym five) w.inside in
      offset_inside a w.place value w.is told.0 (subst (λ (m : Meaning). IsListInside sections o.version m w.place) (sym told.1) there)
  meant_inside a since Other n value has known old means leads told = offset_inside a n value means told.0 (listless (table_of a.name) n told.1)

  -- a value that is no number of a reference, an offset or an index stays what it is
  stays_inside : (field : Field) (a : RawAttr) (stored was value : Value) → (value ≡ was → Inside a value) → (IsMeant sections o lines field was value → value ≡ was) → stored ≡ was → IsMeant sections o lines field stored value → Inside a value
  stays_inside field a stored was value known same is means = known (same (subst (λ (v : Value). IsMeant sections o lines field v value) is means))

  stored_inside : (class : FormClass) (field : Field) (a : RawAttr) (bytes : List ℕ) (stored value : Value) (since : ℕ) → o.bases ≡ Some bases → IsVersion o.version → since ≤ o.version → a.form ≡ field.form → a.name ≡ field.name → length bytes ≤ a.end
      → SpellsClass class field sections bytes stored → Tells field.form since class → IsMeant sections o lines field stored value → ValueLeads all unit (meaning_of field.form field.name) value → Inside a value
  stored_inside classes.Address field a bytes stored value since has known old form name le h told means leads =
      stays_inside field a stored (fixed_address h.of) value (λ is. subst (Inside a) (sym is) (omega (arith, le, length_number 8 h.of bytes h.spells))) (λ is. is) h.is means
  stored_inside classes.Text field a bytes stored value since has known old form name le h told means leads = stays_inside field a stored (values.Text h.of) value (λ is. subst (Inside a) (sym is) tt) (λ is. is) h.is means
  stored_inside classes.StrText field a bytes stored value since has known old form name le h told means leads = stays_inside field a stored (values.Text h.of) value (λ is. subst (Inside a) (sym is) tt) (λ is. is) h.is means
  stored_inside classes.LineStrText field a bytes stored value since has known old form name le h told means leads = stays_inside field a stored (values.Text h.of) value (λ is. subst (Inside a) (sym is) tt) (λ is. is) h.is means
  stored_inside (classes.Number coding) field a bytes stored value since has known old form name le h told means leads =
      stays_inside field a stored (values.Number field.form h.of) value (λ is. subst (Inside a) (sym is) tt) (λ is. is) h.is means
  stored_inside classes.Signed field a bytes stored value since has known old form name le h told means leads =
      stays_inside field a stored (values.Number field.form (in_64_bits h.of)) value (λ is. subst (Inside a) (sym is) tt) (λ is. is) h.is means
  stored_inside classes.Present field a bytes stored value since has known old form name le h told means leads =
      stays_inside field a stored (values.Number field.form 1) value (λ is. subst (Inside a) (sym is) tt) (λ is. is) h.1 means
  stored_inside classes.Implicit field a bytes stored value since has known old form name le h told means leads =
      stays_inside field a stored (values.Number DW_FORM_sdata (in_64_bits field.fixed)) value (λ is. subst (Inside a) (sym is) tt) (λ is. is) h.1 means
  stored_inside classes.Wide field a bytes stored value since has known old form name le h told means leads = stays_inside field a stored (values.Wide h.of) value (λ is. subst (Inside a) (sym is) tt) (λ is. is) h.is means
  stored_inside (classes.Block coding) field a bytes stored value since has known old form name le h told means leads =
      let s = h.spells in
      let long : length bytes ≡ length s.front + length s.back = ap (λ (b : List ℕ). length b) s.is ∙ length-append s.front s.back in
      let copy : length s.back ≡ length h.of = ap (λ (b : List ℕ). length b) s.second.is in
      stays_inside field a stored (values.Block field.form h.of) value (λ is. subst (Inside a) (sym is) (omega (arith, le, long, copy))) (λ is. is) h.is means
  stored_inside (classes.Offset coding) field a bytes stored value since has known old form name le h told means leads =
      let meaning = meaning_of field.form field.name in
      let is : Means sections o lines meaning h.of value = subst (λ (v : Value). IsMeant sections o lines field v value) h.is means in
      let by_field : IsKnownBy a.form since a.name meaning = subst (λ (f : ℕ). IsKnownBy f since a.name meaning) (sym form) (subst (λ (n : ℕ). IsKnownBy field.form since n meaning) (sym name) (told field.name)) in
      meant_inside a since meaning h.of value has known old is leads by_field
  stored_inside classes.Outside field a bytes stored value since has known old form name le h told means leads = absurd h

  attr_inside : (field : Field) (attr : RawAttr) (place : ℕ) (bytes : List ℕ) → o.bases ≡ Some bases → IsVersion o.version → SpellsAttr sections o lines field attr place bytes → ValueLeads all unit (meaning_of field.form field.name) attr.value → Inside attr attr.value
  attr_inside field attr place bytes has known h leads =
      let row = h.spells.row in
      let value : attr.value ≡ h.value = ap (λ (a : RawAttr). a.value) h.is in
      let end : attr.end ≡ place + length bytes = ap (λ (a : RawAttr). a.end) h.is in
      let inside = stored_inside row.class field attr bytes h.stored h.value row.since has known h.spells.old (ap (λ (a : RawAttr). a.form) h.is) (ap (λ (a : RawAttr). a.name) h.is) (omega (arith, end)) h.spells.spells (told_by field.form row h.spells.known) h.means
      (subst (ValueLeads all unit (meaning_of field.form field.name)) value leads) in
      subst (Inside attr) (sym value) inside

-- the line table that a section offset names
offset_same : (m n : ℕ) (value : Value) → value ≡ values.Offset m → value ≡ values.Offset n → m ≡ n
offset_same m n value e f = cc

lines_meant : (sections : SectionBytes) (o : Origin) (field : Field) (stored value : Value) (n : ℕ) → IsMeant sections o true field stored value → meaning_of field.form field.name ≡ LineTable → value ≡ values.Offset n → n < length sections.line
lines_meant sections o field (values.Offset m) value n means is e =
    let t : (true ≡ true → m < length sections.line) × (value ≡ values.Offset m) = subst (λ (k : Meaning). Means sections o true k m value) is means in
    subst (λ (k : ℕ). k < length sections.line) (offset_same m n value t.1 e) (t.0 refl)
lines_meant sections o field stored value n means is e = absurd cc

attr_lines : (sections : SectionBytes) (o : Origin) (lines : Bool) (field : Field) (attr : RawAttr) (place : ℕ) (bytes : List ℕ) → SpellsAttr sections o lines field attr place bytes → lines ≡ true → attr.name ≡ DW_AT_stmt_list → attr.form ≡ DW_FORM_sec_offset
    → (n : ℕ) → attr.value ≡ values.Offset n → n < length sections.line
attr_lines sections o lines field attr place bytes h named name form n value =
    let means : IsMeant sections o true field h.stored h.value = subst (λ (b : Bool). IsMeant sections o b field h.stored h.value) named h.means in
    let is = line_meaning field.form field.name (sym (ap (λ (a : RawAttr). a.form) h.is) ∙ form) (sym (ap (λ (a : RawAttr). a.name) h.is) ∙ name) in
    lines_meant sections o field h.stored h.value n means is (sym (ap (λ (a : RawAttr). a.value) h.is) ∙ value)

-- ---- attributes of an entry

attrs_inside : (sections : SectionBytes) (all : List RawEntry) (unit : ℕ) (o : Origin) (bases : Bases) (root : Bool) (fields : List Field) (before attrs : List RawAttr) (place : ℕ) (bytes : List ℕ) → o.bases ≡ Some bases → IsVersion o.version
    → SpellsAttrs sections o root fields before attrs place bytes → AttrsLead all unit fields attrs → All (λ (a : RawAttr). IsValueInside sections o.version bases all a a.value) attrs
attrs_inside sections all unit o bases root [] before [] place bytes has known h leads = All-nil _
attrs_inside sections all unit o bases root [] before (attr ∷ attrs) place bytes has known h leads = absurd h
attrs_inside sections all unit o bases root (field ∷ fields) before [] place bytes has known h leads = absurd h
attrs_inside sections all unit o bases root (field ∷ fields) before (attr ∷ attrs) place bytes has known h leads =
    All-cons (λ (a : RawAttr). IsValueInside sections o.version bases all a a.value) attr attrs (attr_inside sections all unit o bases (names_lines root before) field attr place h.front has known h.first leads.0)
    (attrs_inside sections all unit o bases root fields (before ++ attr ∷ []) attrs (place + length h.front) h.back has known h.second leads.1)

-- ---- the line table of a root

none_before : (before : List RawAttr) (x : RawAttr) → has_attr DW_AT_stmt_list before ≡ false → (x.name == DW_AT_stmt_list) ≡ false → has_attr DW_AT_stmt_list (before ++ x ∷ []) ≡ false
none_before [] x none e = rw e refl
none_before (y ∷ before) x none e =
    let p = both_false (y.name == DW_AT_stmt_list) (has_attr DW_AT_stmt_list before) none in
    rw (p.0, none_before before x p.1 e) refl

abbrev first_lines : List RawAttr → Option RawAttr
first_lines attrs = find (λ a. a.name == DW_AT_stmt_list) attrs

some_same : {X : Type 0} {x y : X} → Some x ≡ Some y → x ≡ y
some_same e = cc

module _ (sections : SectionBytes) (o : Origin) where
  lines_first : (attr a : RawAttr) (attrs : List RawAttr) (b : Bool) (P : RawAttr → Type 0) → (attr.name == DW_AT_stmt_list) ≡ b → (b ≡ true → P attr) → (b ≡ false → first_lines attrs ≡ Some a → P a)
      → cond b (Some attr) (first_lines attrs) ≡ Some a → P a
  lines_first attr a attrs true P is here behind e = subst P (some_same e) (here refl)
  lines_first attr a attrs false P is here behind e = behind refl e

  root_lines : (fields : List Field) (before attrs : List RawAttr) (place : ℕ) (bytes : List ℕ) → SpellsAttrs sections o true fields before attrs place bytes → has_attr DW_AT_stmt_list before ≡ false
      → (a : RawAttr) (n : ℕ) → first_lines attrs ≡ Some a → a.form ≡ DW_FORM_sec_offset → a.value ≡ values.Offset n → n < length sections.line
  root_lines [] before [] place bytes h none a n e = absurd cc
  root_lines [] before (attr ∷ attrs) place bytes h none a n e = absurd h
  root_lines (field ∷ fields) before [] place bytes h none a n e = absurd h
  root_lines (field ∷ fields) before (attr ∷ attrs) place bytes h none a n e =
      lines_first attr a attrs (attr.name == DW_AT_stmt_list) (λ x. x.form ≡ DW_FORM_sec_offset → x.value ≡ values.Offset n → n < length sections.line) refl
      (λ is form value. attr_lines sections o (names_lines true before) field attr place h.front h.first (rw none refl) (eqb-true attr.name DW_AT_stmt_list is) form n value)
      (λ is later. root_lines fields (before ++ attr ∷ []) attrs (place + length h.front) h.back h.second (none_before before attr none is) a n later) e

-- ---- trees

abbrev IsFine : SectionBytes → RawUnits → RawEntry → Type 0
IsFine sections raw e = LiesInside sections raw e × IsRootInside sections e

-- a unit of an object, of a number and with its first entry of another
record IsThere (raw : RawUnits) (unit number : ℕ) (t : UnitTree) : Type 0 where
  its_unit : slice_get raw.units unit ≡ Some (in_unit number t)
  its_root : slice_get raw.entries number ≡ Some (entry_of unit None t.root)
  known : IsVersion t.version

module _ (sections : SectionBytes) (raw : RawUnits) (unit number at : ℕ) (t : UnitTree) (there : IsThere raw unit number t) where
  node_inside : (root : Bool) (parent : Option ℕ) (node : Node) (place : ℕ) (bytes : List ℕ) → SpellsNode sections (origin_in at t) t.table root node place bytes → NodeLeads raw.entries unit node → LiesInside sections raw (entry_of unit parent node)
  node_inside root parent node place bytes h leads =
      record {
        unit = in_unit number t;
        its_unit = there.its_unit;
        root = entry_of unit None t.root;
        its_root = there.its_root;
        values = attrs_inside sections raw.entries unit (origin_in at t) (bases_in t.root.attrs) root node.declared.fields [] node.attrs (place + length h.spells.front) h.spells.back refl there.known h.spells.second leads;
      }

  node_fine : (node : Node) (place : ℕ) (bytes : List ℕ) → SpellsNode sections (origin_in at t) t.table false node place bytes → (parent : ℕ) → NodeLeads raw.entries unit node → IsFine sections raw (entry_of unit (Some parent) node)
  node_fine node place bytes h parent leads = (node_inside false (Some parent) node place bytes h leads, λ a n root e form value. absurd cc)

  root_fine : (place : ℕ) (bytes : List ℕ) → SpellsNode sections (origin_in at t) t.table true t.root place bytes → NodeLeads raw.entries unit t.root → IsFine sections raw (entry_of unit None t.root)
  root_fine place bytes h leads = (
    node_inside true None t.root place bytes h leads,
    λ a n root e form value. root_lines sections (origin_in at t) t.root.declared.fields [] t.root.attrs (place + length h.spells.front) h.spells.back h.spells.second refl a n e form value,
  )

  below_fine : (children : Bool) (Kids : ℕ → List ℕ → Type 0) (kids : Forest) (place : ℕ) (bytes : List ℕ) → SpellsBelow children Kids kids place bytes → (entries : List RawEntry) → (kids ≡ no_more → entries ≡ [])
      → ((p : ℕ) (b : List ℕ) → Kids p b → All (IsFine sections raw) entries) → All (IsFine sections raw) entries
  below_fine true Kids kids place bytes h entries none fine = fine place bytes h
  below_fine false Kids no_more place bytes h entries none fine = subst (All (IsFine sections raw)) (sym (none refl)) (All-nil (IsFine sections raw))
  below_fine false Kids (tree node more others) place bytes h entries none fine = absurd h

  trees_fine : (forest : Forest) (place : ℕ) (bytes : List ℕ) → SpellsTrees sections (origin_in at t) t.table forest place bytes → (parent k : ℕ) → TreesLead raw.entries unit forest → All (IsFine sections raw) (preorder unit (Some parent) k forest)
  trees_fine no_more place bytes h parent k leads = All-nil (IsFine sections raw)
  trees_fine (tree node kids others) place bytes h parent k leads =
      let here = node_fine node place h.first.front h.first.first parent leads.0.0 in
      let below = below_fine node.declared.children (λ p b. SpellsTrees sections (origin_in at t) t.table kids p b) kids (place + length h.first.front) h.first.back h.first.second (preorder unit (Some k) (k + 1) kids)
      (λ e. ap (λ (f : Forest). preorder unit (Some k) (k + 1) f) e) (λ p b l. trees_fine kids p b l k (k + 1) leads.0.1) in
      let behind = trees_fine others (place + length h.front) h.back h.second parent (k + 1 + size kids) leads.1 in
      All-cons (IsFine sections raw) (entry_of unit (Some parent) node) (preorder unit (Some k) (k + 1) kids ++ preorder unit (Some parent) (k + 1 + size kids) others) here
      (All-append (IsFine sections raw) (preorder unit (Some k) (k + 1) kids) (preorder unit (Some parent) (k + 1 + size kids) others) below behind)

  unit_fine : (bytes : List ℕ) → SpellsUnit sections t at bytes → NodeLeads raw.entries unit t.root → TreesLead raw.entries unit t.kids → All (IsFine sections raw) (unit_entries unit number t)
  unit_fine bytes h root_leads kids_lead =
      let body = h.spells.second.first in
      let root = root_fine _ body.front body.first root_leads in
      let below = below_fine t.root.declared.children (λ p b. SpellsTrees sections (origin_in at t) t.table t.kids p b) t.kids _ body.back body.second (preorder unit (Some number) (number + 1) t.kids)
      (λ e. ap (λ (f : Forest). preorder unit (Some number) (number + 1) f) e) (λ p b l. trees_fine t.kids p b l number (number + 1) kids_lead) in
      All-cons (IsFine sections raw) (entry_of unit None t.root) (preorder unit (Some number) (number + 1) t.kids) root below

-- ---- units

version_known : (version offset : ℕ) (bytes : List ℕ) → SpellsFields version offset bytes → IsVersion version
version_known version offset bytes f =
    elim f [
      | inl four ↦ inl four.0
      | inr five ↦ inr five.0
    ]

units_fine : (sections : SectionBytes) (raw : RawUnits) (ts : List UnitTree) (us : List AUnit) (es : List RawEntry) (place : ℕ) (bytes : List ℕ) → SpellsUnits sections ts place bytes → AreSoundUnits raw.entries (length us) ts
    → raw.units ≡ us ++ in_units (length es) ts → raw.entries ≡ es ++ entries_of (length us) (length es) ts → All (IsFine sections raw) (entries_of (length us) (length es) ts)
units_fine sections raw [] us es place bytes h sound units entries = All-nil (IsFine sections raw)
units_fine sections raw (t ∷ ts) us es place bytes h sound units entries =
    let unit : ℕ = length us in
    let number : ℕ = length es in
    let own : List RawEntry = unit_entries unit number t in
    let next : ℕ = number + 1 + size t.kids in
    let header = h.first.spells.first in
    let there : IsThere raw unit number t = record {
      its_unit = ap (λ (xs : List AUnit). slice_get xs unit) units ∙ got_there us (in_unit number t) (in_units next ts);
      its_root = ap (λ (xs : List RawEntry). slice_get xs number) entries ∙ got_there es (entry_of unit None t.root) (preorder unit (Some number) (number + 1) t.kids ++ entries_of (suc unit) next ts);
      known = version_known t.version t.offset header.back header.second;
    } in
    let one : length (us ++ in_unit number t ∷ []) ≡ suc unit = omega (arith, length-append us (in_unit number t ∷ [])) in
    let more : length (es ++ own) ≡ next = omega (arith, length-append es own, length_preorder unit (Some number) (number + 1) t.kids) in
    let units_are : raw.units ≡ (us ++ in_unit number t ∷ []) ++ in_units (length (es ++ own)) ts = units ∙ sym (append_assoc us (in_unit number t ∷ []) (in_units next ts)) ∙ ap (λ (n : ℕ). (us ++ in_unit number t ∷ []) ++ in_units n ts) (sym more) in
    let both : entries_of (length (us ++ in_unit number t ∷ [])) (length (es ++ own)) ts ≡ entries_of (suc unit) next ts = rw (one, more) refl in
    let entries_are : raw.entries ≡ (es ++ own) ++ entries_of (length (us ++ in_unit number t ∷ [])) (length (es ++ own)) ts = entries ∙ sym (append_assoc es own (entries_of (suc unit) next ts)) ∙ ap (λ (xs : List RawEntry). (es ++ own) ++ xs) (sym both) in
    let others = units_fine sections raw ts (us ++ in_unit number t ∷ []) (es ++ own) (place + length h.front) h.back h.second (subst (λ (n : ℕ). AreSoundUnits raw.entries n ts) (sym one) sound.1) units_are entries_are in
    All-append (IsFine sections raw) own (entries_of (suc unit) next ts) (unit_fine sections raw unit number place t there h.front h.first sound.0.root_leads sound.0.kids_lead) (subst (All (IsFine sections raw)) both others)

-- the entries of an object
entries_inside : (sections : SectionBytes) (raw : RawUnits) → length sections.info < 2 ^ 32 → AreBytes sections.info → AreBytes sections.abbrev_ → units_of sections ≡ Ok raw → AreInside sections raw
entries_inside sections raw small info abbrevs e =
    let s = units_spelled sections raw small info abbrevs e in
    let fine = units_fine sections (raw_units s.trees) s.trees [] [] 0 sections.info s.spells.spells s.spells.sound refl refl in
    subst (AreInside sections) (sym s.is) (record { values = λ k d lt. (fine k d lt).0; lines = λ k d lt. (fine k d lt).1 })

-- units whose references were tried
pub read_inside : (sections : SectionBytes) (units : List AUnit) (parsed : Parsed) → length sections.info < 2 ^ 32 → AreBytes sections.info → AreBytes sections.abbrev_ → parsed_of sections ≡ Ok (units, parsed)
    → resolved parsed.entries parsed.references ≡ Ok parsed.entries → AreInside sections (record { units = units; entries = parsed.entries })
unfolding units_of
read_inside sections units parsed small info abbrevs read lead = entries_inside sections (record { units = units; entries = parsed.entries }) small info abbrevs (rw (read, lead) refl)
