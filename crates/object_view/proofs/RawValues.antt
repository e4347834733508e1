-- No value of an attribute has operations, as units are read.
use Rattle.std.proofs.Common.{◌≡◌, ℕ, suc, ◌+◌, ◌<◌, ◌^◌, Bool, true, false, List, [], ◌∷◌, ◌++◌, length, Option, Some, None, Ok, refl, sym, subst}
use Rattle.std.specs.List.{All}
use Rattle.std.proofs.lemmas.List.Elements.{All-nil, All-cons, All-append}
use Rattle.dwarf_types.specs.declared.abbrev.Abbrev.{Abbrev}
use Rattle.dwarf_types.specs.declared.abbrev.Field.{Field}
use Rattle.dwarf_types.specs.declared.entry.RawAttr.{RawAttr}
use Rattle.dwarf_types.specs.declared.entry.RawEntry.{RawEntry}
use Rattle.dwarf_types.specs.declared.entry.RawUnits.{RawUnits}
use Rattle.dwarf_types.specs.declared.value.Value.{Value}
use Rattle.dwarf_types.specs.declared.value.Value.TheVariants as values
use Rattle.dwarf_types.specs.Live.{operations_of}
use Rattle.dwarf_types.specs.SectionBytes.{SectionBytes}
use Rattle.dwarf_types.specs.Spelled.{AreBytes}
use Rattle.index_tables.specs.declared.bases.Bases.{Bases}
use Rattle.form_value.specs.declared.form.FormClass.{FormClass}
use Rattle.form_value.specs.declared.form.FormClass.TheVariants.{Address, Text, StrText, LineStrText, Number, Signed, Present, Implicit, Wide, Block, Offset, Outside}
use Rattle.form_value.specs.Spelling.{SpellsClass}
use Rattle.unit_tree.specs.declared.meaning.Meaning.{Meaning}
use Rattle.unit_tree.specs.declared.meaning.Meaning.TheVariants.{InUnit, InObject, LineTable, RangeList, LocationList, TextIndex, AddressIndex, RangeListIndex, LocationListIndex, Other}
use Rattle.unit_tree.specs.Meaning.{meaning_of}
use Rattle.unit_tree.specs.Spelling.{Forest, IsMeant, IsSpelled, Means, Names, NamesAddress, NamesList, NamesText, Node, Origin, SpellsAttr, SpellsAttrs, SpellsBelow, SpellsNode, SpellsTrees, SpellsUnit, SpellsUnits, UnitTree, entries_of, entry_of, no_more, origin_in, preorder, size, tree, unit_entries}
use Rattle.unit_tree.specs.Unit.{units_of}
use Rattle.unit_tree.proofs.UnitLaws.{units_spelled}

-- it has no operations
abbrev pub IsPlain : Value → Type 0
IsPlain value = operations_of value ≡ []

abbrev pub IsPlainAttr : RawAttr → Type 0
IsPlainAttr a = IsPlain a.value

abbrev pub IsPlainEntry : RawEntry → Type 0
IsPlainEntry e = All IsPlainAttr e.attrs

-- ---- attributes

stored_plain : (class : FormClass) (field : Field) (sections : SectionBytes) (bytes : List ℕ) (value : Value) → SpellsClass class field sections bytes value → IsPlain value
stored_plain Address field sections bytes value h = subst IsPlain (sym h.is) refl
stored_plain Text field sections bytes value h = subst IsPlain (sym h.is) refl
stored_plain StrText field sections bytes value h = subst IsPlain (sym h.is) refl
stored_plain LineStrText field sections bytes value h = subst IsPlain (sym h.is) refl
stored_plain (Number coding) field sections bytes value h = subst IsPlain (sym h.is) refl
stored_plain Signed field sections bytes value h = subst IsPlain (sym h.is) refl
stored_plain Present field sections bytes value h = subst IsPlain (sym h.1) refl
stored_plain Implicit field sections bytes value h = subst IsPlain (sym h.1) refl
stored_plain Wide field sections bytes value h = subst IsPlain (sym h.is) refl
stored_plain (Block coding) field sections bytes value h = subst IsPlain (sym h.is) refl
stored_plain (Offset coding) field sections bytes value h = subst IsPlain (sym h.is) refl
stored_plain Outside field sections bytes value h = absurd h

-- what an index leads to
names_plain : (There : Bases → Value → Type 0) → ((bases : Bases) (value : Value) → There bases value → IsPlain value) → (bases : Option Bases) (n : ℕ) (value : Value) → Names There bases n value → IsPlain value
names_plain There there (Some bases) n value h = there bases value h
names_plain There there None n value h = subst IsPlain (sym h) refl

means_plain : (sections : SectionBytes) (o : Origin) (lines : Bool) (meaning : Meaning) (n : ℕ) (value : Value) → Means sections o lines meaning n value → IsPlain value
means_plain sections o lines InUnit n value h = subst IsPlain (sym h) refl
means_plain sections o lines InObject n value h = subst IsPlain (sym h) refl
means_plain sections o lines LineTable n value h = subst IsPlain (sym h.1) refl
means_plain sections o lines RangeList n value h = subst IsPlain (sym h.1) refl
means_plain sections o lines LocationList n value h = subst IsPlain (sym h.1) refl
means_plain sections o lines TextIndex n value h = names_plain (λ bases v. NamesText sections bases n v) (λ bases v k. subst IsPlain (sym k.is) refl) o.bases n value h
means_plain sections o lines AddressIndex n value h = names_plain (λ bases v. NamesAddress sections bases n v) (λ bases v k. subst IsPlain (sym k.is) refl) o.bases n value h
means_plain sections o lines RangeListIndex n value h = names_plain (λ bases v. NamesList sections.rnglists bases.ranges n v) (λ bases v k. subst IsPlain (sym k.is) refl) o.bases n value h
means_plain sections o lines LocationListIndex n value h = names_plain (λ bases v. NamesList sections.loclists bases.locations n v) (λ bases v k. subst IsPlain (sym k.is) refl) o.bases n value h
means_plain sections o lines Other n value h = subst IsPlain (sym h) refl

value_plain : (sections : SectionBytes) (o : Origin) (lines : Bool) (field : Field) (stored value : Value) → IsPlain stored → IsMeant sections o lines field stored value → IsPlain value
value_plain sections o lines field (values.Offset n) value plain h = means_plain sections o lines (meaning_of field.form field.name) n value h
value_plain sections o lines field stored value plain h = subst IsPlain (sym h) plain

attr_plain : (sections : SectionBytes) (o : Origin) (lines : Bool) (field : Field) (attr : RawAttr) (place : ℕ) (bytes : List ℕ) → SpellsAttr sections o lines field attr place bytes → IsPlainAttr attr
attr_plain sections o lines field attr place bytes h =
    subst IsPlainAttr (sym h.is) (value_plain sections o lines field h.stored h.value (stored_plain h.spells.row.class field sections bytes h.stored h.spells.spells) h.means)

attrs_plain : (sections : SectionBytes) (o : Origin) (root : Bool) (fields : List Field) (before attrs : List RawAttr) (place : ℕ) (bytes : List ℕ) → SpellsAttrs sections o root fields before attrs place bytes → All IsPlainAttr attrs
attrs_plain sections o root [] before [] place bytes h = All-nil IsPlainAttr
attrs_plain sections o root [] before (attr ∷ attrs) place bytes h = absurd h
attrs_plain sections o root (field ∷ fields) before [] place bytes h = absurd h
attrs_plain sections o root (field ∷ fields) before (attr ∷ attrs) place bytes h =
    All-cons IsPlainAttr attr attrs (attr_plain sections o _ field attr place h.front h.first)
    (attrs_plain sections o root fields (before ++ attr ∷ []) attrs (place + length h.front) h.back h.second)

-- ---- trees

node_plain : (sections : SectionBytes) (o : Origin) (table : List Abbrev) (root : Bool) (node : Node) (place : ℕ) (bytes : List ℕ) → SpellsNode sections o table root node place bytes → (unit : ℕ) (parent : Option ℕ) → IsPlainEntry (entry_of unit parent node)
node_plain sections o table root node place bytes h unit parent =
    attrs_plain sections o root node.declared.fields [] node.attrs (place + length h.spells.front) h.spells.back h.spells.second

below_plain : (children : Bool) (Kids : ℕ → List ℕ → Type 0) (kids : Forest) (place : ℕ) (bytes : List ℕ) → SpellsBelow children Kids kids place bytes → (unit : ℕ) (parent : Option ℕ) (number : ℕ)
    → ((p : ℕ) (b : List ℕ) → Kids p b → All IsPlainEntry (preorder unit parent number kids)) → All IsPlainEntry (preorder unit parent number kids)
below_plain true Kids kids place bytes h unit parent number plain = plain place bytes h
below_plain false Kids no_more place bytes h unit parent number plain = All-nil IsPlainEntry
below_plain false Kids (tree node more others) place bytes h unit parent number plain = absurd h

trees_plain : (sections : SectionBytes) (o : Origin) (table : List Abbrev) (forest : Forest) (place : ℕ) (bytes : List ℕ) → SpellsTrees sections o table forest place bytes → (unit : ℕ) (parent : Option ℕ) (number : ℕ)
    → All IsPlainEntry (preorder unit parent number forest)
trees_plain sections o table no_more place bytes h unit parent number = All-nil IsPlainEntry
trees_plain sections o table (tree node kids others) place bytes h unit parent number =
    let here = node_plain sections o table false node place h.first.front h.first.first unit parent in
    let below = below_plain node.declared.children (λ p b. SpellsTrees sections o table kids p b) kids (place + length h.first.front) h.first.back h.first.second unit (Some number) (number + 1)
    (λ p b k. trees_plain sections o table kids p b k unit (Some number) (number + 1)) in
    let behind = trees_plain sections o table others (place + length h.front) h.back h.second unit parent (number + 1 + size kids) in
    All-cons IsPlainEntry (entry_of unit parent node) (preorder unit (Some number) (number + 1) kids ++ preorder unit parent (number + 1 + size kids) others) here
    (All-append IsPlainEntry (preorder unit (Some number) (number + 1) kids) (preorder unit parent (number + 1 + size kids) others) below behind)

-- ---- units

unit_plain : (sections : SectionBytes) (t : UnitTree) (place : ℕ) (bytes : List ℕ) → SpellsUnit sections t place bytes → (unit number : ℕ) → All IsPlainEntry (unit_entries unit number t)
unit_plain sections t place bytes h unit number =
    let o : Origin = origin_in place t in
    let body = h.spells.second.first in
    let root = node_plain sections o t.table true t.root _ body.front body.first unit None in
    let below = below_plain t.root.declared.children (λ p b. SpellsTrees sections o t.table t.kids p b) t.kids _ body.back body.second unit (Some number) (number + 1)
    (λ p b k. trees_plain sections o t.table t.kids p b k unit (Some number) (number + 1)) in
    All-cons IsPlainEntry (entry_of unit None t.root) (preorder unit (Some number) (number + 1) t.kids) root below

units_plain : (sections : SectionBytes) (ts : List UnitTree) (place : ℕ) (bytes : List ℕ) → SpellsUnits sections ts place bytes → (unit number : ℕ) → All IsPlainEntry (entries_of unit number ts)
units_plain sections [] place bytes h unit number = All-nil IsPlainEntry
units_plain sections (t ∷ ts) place bytes h unit number =
    All-append IsPlainEntry (unit_entries unit number t) (entries_of (suc unit) (number + 1 + size t.kids) ts) (unit_plain sections t place h.front h.first unit number)
    (units_plain sections ts (place + length h.front) h.back h.second (suc unit) (number + 1 + size t.kids))

-- no value of the units of an object has operations
pub spelled_plain : (sections : SectionBytes) (raw : RawUnits) → IsSpelled sections raw → All IsPlainEntry raw.entries
spelled_plain sections raw s = subst (λ (r : RawUnits). All IsPlainEntry r.entries) (sym s.is) (units_plain sections s.trees 0 sections.info s.spells.spells 0 0)

pub raw_plain : (sections : SectionBytes) (raw : RawUnits) → length sections.info < 2 ^ 32 → AreBytes sections.info → AreBytes sections.abbrev_ → units_of sections ≡ Ok raw → All IsPlainEntry raw.entries
raw_plain sections raw small info abbrevs e = spelled_plain sections raw (units_spelled sections raw small info abbrevs e)
