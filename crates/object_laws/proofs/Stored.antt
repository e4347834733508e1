-- The values of attributes, as units are read: each is what its form can hold.
use Rattle.std.proofs.Common.{◌≡◌, ◌<◌, ◌≤◌, ◌^◌, ℕ, Bool, List, length, take, drop, Option, Some, None, ◌⊎◌, refl, sym, subst, arith, ℤ, pos, negsuc}
use Rattle.std.specs.Prelude.{IsTrue}
use Rattle.std.proofs.lemmas.Bool.{ltb-true}
use Rattle.ds_base.specs.Leb.{fits_i64}
use Rattle.std.specs.Int.{w64, cast_unsigned}
use Rattle.std.specs.Option.{option_map}
use Rattle.ds_base.specs.DwarfNumbers.{DW_FORM_exprloc}
use Rattle.ds_base.specs.Reading.{index_below, text_of}
use Rattle.dwarf_types.specs.declared.abbrev.Field.{Field}
use Rattle.dwarf_types.specs.declared.value.Value.{Value}
use Rattle.dwarf_types.specs.declared.value.Value.TheVariants as values
use Rattle.dwarf_types.specs.SectionBytes.{SectionBytes}
use Rattle.dwarf_types.specs.Spelled.{AreBytes, AreTextBytes}
use Rattle.dwarf_types.specs.WellValues.{FitsBlock, FitsForm}
use Rattle.dwarf_types.proofs.Readers.{IsBytes-drop, IsBytes-from, zero_at}
use Rattle.form_value.specs.declared.form.Coding.{Coding}
use Rattle.form_value.specs.declared.form.Coding.TheVariants.{One, Two, Three, Four, Eight, Leb}
use Rattle.form_value.specs.declared.form.FormClass.{FormClass}
use Rattle.form_value.specs.declared.form.FormClass.TheVariants.{Address, Text, StrText, LineStrText, Number, Signed, Present, Implicit, Wide, Block, Offset, Outside}
use Rattle.form_value.specs.declared.form.FormRow.{FormRow}
use Rattle.form_value.specs.Forms.{form_row}
use Rattle.form_value.specs.Reading.{in_64_bits}
use Rattle.form_value.specs.Spelling.{SpellsClass, SpellsNumber, SpellsValue}
use Rattle.index_tables.specs.declared.bases.Bases.{Bases}
use Rattle.line_read.proofs.EntryTables.{AreTexts}
use Rattle.linked_laws.specs.Spellable.{IsSpellablePlace}
use Rattle.unit_tree.specs.declared.meaning.Meaning.{Meaning}
use Rattle.unit_tree.specs.declared.meaning.Meaning.TheVariants.{InUnit, InObject, LineTable, RangeList, LocationList, TextIndex, AddressIndex, RangeListIndex, LocationListIndex, Other}
use Rattle.unit_tree.specs.Meaning.{meaning_of}
use Rattle.unit_tree.specs.Spelling.{IsMeant, Means, Names, NamesAddress, NamesList, NamesText, Origin}
use Rattle.object_laws.proofs.Forms.{Holds, HoldsIn, IsVersion, bound, forms_hold}

-- a value as it is read in a unit of a version; expressions and lists are made of blocks and offsets later
abbrev pub IsStored : ℕ → Value → Type 0
IsStored version (values.Address place) = IsSpellablePlace place
IsStored version (values.Text text) = AreTextBytes text
IsStored version (values.Number form bits) = FitsForm form bits
IsStored version (values.Wide bytes) = (version ≡ 5) × (length bytes ≡ 16) × AreBytes bytes
IsStored version (values.Block form bytes) = ((form ≡ DW_FORM_exprloc) ⊎ FitsBlock form (length bytes)) × AreBytes bytes
IsStored version (values.Expr ops) = ⊥
IsStored version (values.Ref k) = Unit {0}
IsStored version (values.Ranges spans) = ⊥
IsStored version (values.Locations items) = ⊥
IsStored version values.Lines = ⊥
IsStored version (values.Offset n) = Unit {0}

below_bound : (coding : Coding) (bytes : List ℕ) (n : ℕ) → SpellsNumber coding bytes n → n < bound coding
below_bound One bytes n h = let f = h.fits in omega (arith, f)
below_bound Two bytes n h = let f = h.fits in omega (arith, f)
below_bound Three bytes n h = let f = h.fits in omega (arith, f)
below_bound Four bytes n h = let f = h.fits in omega (arith, f)
below_bound Eight bytes n h = let f = h.fits in omega (arith, f)
below_bound Leb bytes n h = h.fits

signed_small : (z : ℤ) → IsTrue (fits_i64 z) → cast_unsigned w64 z < 2 ^ 64
signed_small (pos n) h = let lt = ltb-true n (2 ^ 63) h in omega (arith, lt)
signed_small (negsuc n) h = let lt = ltb-true n (2 ^ 63) h in omega (arith, lt)

mapped : (o : Option ℕ) (tail text : List ℕ) → option_map (λ n. take n tail) o ≡ Some text → (n : ℕ) × (o ≡ Some n) × (take n tail ≡ text)
mapped None tail text e = absurd cc
mapped (Some n) tail text e = (n, refl, cc)

text_sound : (section : List ℕ) (place : ℕ) (text : List ℕ) → AreBytes section → text_of section place ≡ Some text → AreTextBytes text
unfolding text_of
text_sound section place text h e =
    let m = mapped (index_below 1 (drop place section)) (drop place section) text e in
    subst AreTextBytes m.2 ((zero_at (drop place section) m.0 m.1).text (IsBytes-drop place section (IsBytes-from section h)))

module _ (version : ℕ) (sections : SectionBytes) (texts : AreTexts sections) where
  class_stored : (class : FormClass) (field : Field) (bytes : List ℕ) (value : Value) → IsTrue (fits_i64 field.fixed) → Holds version field.form class → SpellsClass class field sections bytes value → IsStored version value
  class_stored Address field bytes value fixed holds h = subst (IsStored version) (sym h.is) (record { linked = tt; linked_end = tt })
  class_stored Text field bytes value fixed holds h = subst (IsStored version) (sym h.is) h.spells.sound
  class_stored StrText field bytes value fixed holds h = subst (IsStored version) (sym h.is) (text_sound sections.strings h.spells.place h.of texts.strings h.spells.stands)
  class_stored LineStrText field bytes value fixed holds h = subst (IsStored version) (sym h.is) (text_sound sections.line_str h.spells.place h.of texts.line_str h.spells.stands)
  class_stored (Number coding) field bytes value fixed holds h = subst (IsStored version) (sym h.is) (holds h.of (below_bound coding bytes h.of h.spells))
  class_stored Signed field bytes value fixed holds h = subst (IsStored version) (sym h.is) (holds (in_64_bits h.of) (signed_small h.of h.spells.fits))
  class_stored Present field bytes value fixed holds h = subst (IsStored version) (sym h.1) holds
  class_stored Implicit field bytes value fixed holds h = subst (IsStored version) (sym h.1) (FitsForm.in_sdata refl (signed_small field.fixed fixed))
  class_stored Wide field bytes value fixed holds h = subst (IsStored version) (sym h.is) (holds, h.spells.len, h.spells.sound)
  class_stored (Block coding) field bytes value fixed holds h =
      subst (IsStored version) (sym h.is) (holds (length h.of) (below_bound coding h.spells.front (length h.of) h.spells.first), h.spells.second.sound)
  class_stored (Offset coding) field bytes value fixed holds h = subst (IsStored version) (sym h.is) tt
  class_stored Outside field bytes value fixed holds h = absurd h

  row_holds : (form : ℕ) (o : Option FormRow) (row : FormRow) → o ≡ Some row → HoldsIn version form o → row.since ≤ version → Holds version form row.class
  row_holds form None row e h old = absurd cc
  row_holds form (Some own) row e h old = let same : own ≡ row = cc in subst (λ (r : FormRow). r.since ≤ version → Holds version form r.class) same h old

  pub value_stored : IsVersion version → (field : Field) (bytes : List ℕ) (value : Value) → IsTrue (fits_i64 field.fixed) → SpellsValue field version sections bytes value → IsStored version value
  value_stored known field bytes value fixed h =
      class_stored h.row.class field bytes value fixed (row_holds field.form (form_row field.form) h.row h.known (forms_hold version known field.form) h.old) h.spells

  -- ---- numbers that lead somewhere

  names_stored : (There : Bases → Value → Type 0) → ((bases : Bases) (value : Value) → There bases value → IsStored version value) → (bases : Option Bases) (n : ℕ) (value : Value) → Names There bases n value → IsStored version value
  names_stored There there (Some bases) n value h = there bases value h
  names_stored There there None n value h = subst (IsStored version) (sym h) tt

  means_stored : (o : Origin) (lines : Bool) (meaning : Meaning) (n : ℕ) (value : Value) → Means sections o lines meaning n value → IsStored version value
  means_stored o lines InUnit n value h = subst (IsStored version) (sym h) tt
  means_stored o lines InObject n value h = subst (IsStored version) (sym h) tt
  means_stored o lines LineTable n value h = subst (IsStored version) (sym h.1) tt
  means_stored o lines RangeList n value h = subst (IsStored version) (sym h.1) tt
  means_stored o lines LocationList n value h = subst (IsStored version) (sym h.1) tt
  means_stored o lines TextIndex n value h =
      names_stored (λ bases v. NamesText sections bases n v) (λ bases v k. subst (IsStored version) (sym k.is) (text_sound sections.strings k.place k.text texts.strings k.stands)) o.bases n value h
  means_stored o lines AddressIndex n value h = names_stored (λ bases v. NamesAddress sections bases n v) (λ bases v k. subst (IsStored version) (sym k.is) tt) o.bases n value h
  means_stored o lines RangeListIndex n value h = names_stored (λ bases v. NamesList sections.rnglists bases.ranges n v) (λ bases v k. subst (IsStored version) (sym k.is) tt) o.bases n value h
  means_stored o lines LocationListIndex n value h = names_stored (λ bases v. NamesList sections.loclists bases.locations n v) (λ bases v k. subst (IsStored version) (sym k.is) tt) o.bases n value h
  means_stored o lines Other n value h = subst (IsStored version) (sym h) tt

  pub attr_stored : (o : Origin) (lines : Bool) (field : Field) (stored value : Value) → IsStored version stored → IsMeant sections o lines field stored value → IsStored version value
  attr_stored o lines field (values.Offset n) value h means = means_stored o lines (meaning_of field.form field.name) n value means
  attr_stored o lines field stored value h means = subst (IsStored version) (sym means) h
