-- How the units of an object are spelled (DWARF 4, section 7.5; DWARF 5, section 7.5), whoever reads them: a unit is a header, a tree and zero bytes, a tree is
-- an entry's code and values and, where its declaration has children, the trees of its children and the code 0.
use Rattle.std.specs.Prelude.{◌≡◌, ◌<◌, ◌≤◌, ◌⊎◌, ◌+◌, ◌++◌, ◌==◌, ◌&&◌, ◌^◌, ℕ, suc, Bool, true, false, List, [], ◌∷◌, length, Option, None, Some}
use Rattle.std.specs.List.{list_all, list_any}
use Rattle.ds_base.specs.DwarfNumbers.{DW_TAG_compile_unit, DW_UT_compile}
use Rattle.dwarf_types.specs.declared.abbrev.Abbrev.{Abbrev}
use Rattle.dwarf_types.specs.declared.abbrev.Field.{Field}
use Rattle.dwarf_types.specs.declared.entry.RawAttr.{RawAttr}
use Rattle.dwarf_types.specs.declared.entry.RawEntry.{RawEntry}
use Rattle.dwarf_types.specs.declared.entry.InUnit.{InUnit}
use Rattle.dwarf_types.specs.declared.entry.RawUnits.{RawUnits}
use Rattle.dwarf_types.specs.SectionBytes.{SectionBytes, location_bytes, range_bytes}
use Rattle.dwarf_types.specs.declared.value.Value.{Value}
use Rattle.dwarf_types.specs.declared.value.Value.TheVariants as values
use Rattle.dwarf_types.specs.Spelled.{InTurn, IsUleb, IsNumber}
use Rattle.abbrev_read.specs.Spelling.{StandsAt}
use Rattle.form_value.specs.Spelling.{SpellsValue}
use Rattle.index_tables.specs.declared.bases.Bases.{Bases}
use Rattle.index_tables.specs.Bases.{bases_in}
use Rattle.index_tables.specs.Tables.{text_place, address_place, list_place}
use Rattle.ds_base.specs.DwarfNumbers.{LENGTH_RESERVED}
use Rattle.ds_base.specs.DwarfNumbers.{DWARF_4, DWARF_5, ADDRESS_SIZE}
use Rattle.ds_base.specs.Reading.{text_of}
use Rattle.unit_tree.specs.declared.meaning.Meaning.{Meaning}
use Rattle.unit_tree.specs.declared.meaning.Meaning.TheVariants.{InUnit as InTheUnit, InObject, LineTable, RangeList, LocationList, TextIndex, AddressIndex, RangeListIndex, LocationListIndex, Other}
use Rattle.unit_tree.specs.Attribute.{names_lines}
use Rattle.unit_tree.specs.Entry.{is_split}
use Rattle.unit_tree.specs.Entry.{declared_as}
use Rattle.unit_tree.specs.Meaning.{meaning_of}
use Rattle.unit_tree.specs.Reference.{reaches}
use Rattle.unit_tree.specs.Unit.{language_of, is_zero}

-- ---- trees

-- an entry: its declaration, the place of its first byte, and its attributes
pub record Node : Type 0 where
  pub declared : Abbrev
  pub place : ℕ
  pub attrs : List RawAttr

-- trees one after the other: the first one's entry, the trees below it, and those behind it
pub data Forest : Type 0 where
  no_more : Forest
  tree : Node → Forest → Forest → Forest

-- how many entries there are
abbrev pub size : Forest → ℕ
size no_more = 0
size (tree node kids others) = suc (size kids + size others)

-- a unit: its version, the place of its abbreviation table, that table, its root, and the trees below that
pub record UnitTree : Type 0 where
  pub version : ℕ
  pub offset : ℕ
  pub table : List Abbrev
  pub root : Node
  pub kids : Forest

-- ---- what trees are as entries

abbrev pub entry_of : ℕ → Option ℕ → Node → RawEntry
entry_of unit parent node = record { parent = parent; unit = unit; place = node.place; tag = node.declared.tag; attrs = node.attrs }

-- the entries of trees of a unit, each before those below it, the first of which has a number
abbrev pub preorder : ℕ → Option ℕ → ℕ → Forest → List RawEntry
preorder unit parent number no_more = []
preorder unit parent number (tree node kids others) =
    entry_of unit parent node ∷ (preorder unit (Some number) (number + 1) kids ++ preorder unit parent (number + 1 + size kids) others)

abbrev pub unit_entries : ℕ → ℕ → UnitTree → List RawEntry
unit_entries unit number t = entry_of unit None t.root ∷ preorder unit (Some number) (number + 1) t.kids

-- the entries of units from a number on, the first of which has a number too
abbrev pub entries_of : ℕ → ℕ → List UnitTree → List RawEntry
entries_of unit number [] = []
entries_of unit number (t ∷ ts) = unit_entries unit number t ++ entries_of (suc unit) (number + 1 + size t.kids) ts

abbrev pub in_unit : ℕ → UnitTree → InUnit
in_unit number t = record { first = number; count = 1 + size t.kids; version = t.version; language = language_of t.root.attrs; lines = None }

abbrev pub in_units : ℕ → List UnitTree → List InUnit
in_units number [] = []
in_units number (t ∷ ts) = in_unit number t ∷ in_units (number + 1 + size t.kids) ts

-- units and entries, numbered from 0
abbrev pub raw_units : List UnitTree → RawUnits
raw_units trees = record { units = in_units 0 trees; entries = entries_of 0 0 trees }

-- ---- how trees are spelled

-- first the one, and then the other from where that ends
pub record InTurnFrom (First Then : ℕ → List ℕ → Type 0) (place : ℕ) (bytes : List ℕ) : Type 0 where
  pub front : List ℕ
  pub back : List ℕ
  pub is : bytes ≡ front ++ back
  pub first : First place front
  pub second : Then (place + length front) back

-- From where the numbers of a unit's values count: its first place, its version, and the bases of its tables. Where the bases are not known, no index leads anywhere.
pub record Origin : Type 0 where
  pub place : ℕ
  pub version : ℕ
  pub bases : Option Bases

-- an index leads to a text, which is the value
pub record NamesText (sections : SectionBytes) (bases : Bases) (n : ℕ) (value : Value) : Type 0 where
  pub place : ℕ
  pub placed : text_place sections bases.texts n ≡ Some place
  pub text : List ℕ
  pub stands : text_of sections.strings place ≡ Some text
  pub is : value ≡ values.Text text

-- to an address, which stays the index
pub record NamesAddress (sections : SectionBytes) (bases : Bases) (n : ℕ) (value : Value) : Type 0 where
  pub place : ℕ
  pub placed : address_place sections bases.addresses n ≡ Some place
  pub is : value ≡ values.Offset n

-- to a list, whose place is the value
pub record NamesList (section : List ℕ) (base n : ℕ) (value : Value) : Type 0 where
  pub place : ℕ
  pub placed : list_place section base n ≡ Some place
  pub inside : place < length section
  pub is : value ≡ values.Offset place

abbrev pub Names : (Bases → Value → Type 0) → Option Bases → ℕ → Value → Type 0
Names There (Some bases) n value = There bases value
Names There None n value = value ≡ values.Offset n

-- An offset to a table or list is below the size of its section.
abbrev pub IsBelow : List ℕ → ℕ → Value → Type 0
IsBelow section n value = (n < length section) × (value ≡ values.Offset n)

-- what a stored number is as a value of a unit
abbrev pub Means : SectionBytes → Origin → Bool → Meaning → ℕ → Value → Type 0
Means sections o lines InTheUnit n value = value ≡ values.Ref (o.place + n)
Means sections o lines InObject n value = value ≡ values.Ref n
Means sections o lines LineTable n value = (lines ≡ true → n < length sections.line) × (value ≡ values.Offset n)
Means sections o lines RangeList n value = IsBelow (range_bytes sections o.version) n value
Means sections o lines LocationList n value = IsBelow (location_bytes sections o.version) n value
Means sections o lines TextIndex n value = Names (λ bases v. NamesText sections bases n v) o.bases n value
Means sections o lines AddressIndex n value = Names (λ bases v. NamesAddress sections bases n v) o.bases n value
Means sections o lines RangeListIndex n value = Names (λ bases v. NamesList sections.rnglists bases.ranges n v) o.bases n value
Means sections o lines LocationListIndex n value = Names (λ bases v. NamesList sections.loclists bases.locations n v) o.bases n value
Means sections o lines Other n value = value ≡ values.Offset n

-- what a stored value is as the value of an attribute of a unit
abbrev pub IsMeant : SectionBytes → Origin → Bool → Field → Value → Value → Type 0
IsMeant sections o lines field (values.Offset n) value = Means sections o lines (meaning_of field.form field.name) n value
IsMeant sections o lines field stored value = value ≡ stored

-- bytes from a place spell the attribute of a field, of a unit of an origin
pub record SpellsAttr (sections : SectionBytes) (o : Origin) (lines : Bool) (field : Field) (attr : RawAttr) (place : ℕ) (bytes : List ℕ) : Type 0 where
  pub stored : Value
  pub spells : SpellsValue field o.version sections bytes stored
  pub value : Value
  pub means : IsMeant sections o lines field stored value
  pub is : attr ≡ record { name = field.name; form = field.form; end = place + length bytes; value = value }

-- the attributes of fields, behind others of a root or another entry
abbrev pub SpellsAttrs : SectionBytes → Origin → Bool → List Field → List RawAttr → List RawAttr → ℕ → List ℕ → Type 0
SpellsAttrs sections o root [] before [] place bytes = bytes ≡ []
SpellsAttrs sections o root [] before (attr ∷ attrs) place bytes = ⊥
SpellsAttrs sections o root (field ∷ fields) before [] place bytes = ⊥
SpellsAttrs sections o root (field ∷ fields) before (attr ∷ attrs) place bytes =
    InTurnFrom (SpellsAttr sections o (names_lines root before) field attr) (λ p b. SpellsAttrs sections o root fields (before ++ attr ∷ []) attrs p b) place bytes

-- a code that is not 0, and a declaration that has it
pub record SpellsCode (table : List Abbrev) (declared : Abbrev) (bytes : List ℕ) : Type 0 where
  pub code : ℕ
  pub some : 0 < code
  pub spells : IsUleb bytes code
  pub found : declared_as code table ≡ Some declared

-- an entry that begins at a place: its code and its attributes
pub record SpellsNode (sections : SectionBytes) (o : Origin) (table : List Abbrev) (root : Bool) (node : Node) (place : ℕ) (bytes : List ℕ) : Type 0 where
  pub there : node.place ≡ place
  pub spells : InTurnFrom (λ p b. SpellsCode table node.declared b) (SpellsAttrs sections o root node.declared.fields [] node.attrs) place bytes

-- the trees below an entry: a list of them, or nothing
abbrev pub SpellsBelow : Bool → (ℕ → List ℕ → Type 0) → Forest → ℕ → List ℕ → Type 0
SpellsBelow true Kids kids place bytes = Kids place bytes
SpellsBelow false Kids no_more place bytes = bytes ≡ []
SpellsBelow false Kids (tree node more others) place bytes = ⊥

-- trees one after the other from a place, and the code 0
abbrev pub SpellsTrees : SectionBytes → Origin → List Abbrev → Forest → ℕ → List ℕ → Type 0
SpellsTrees sections o table no_more place bytes = IsUleb bytes 0
SpellsTrees sections o table (tree node kids others) place bytes =
    InTurnFrom (InTurnFrom (SpellsNode sections o table false node) (SpellsBelow node.declared.children (λ p b. SpellsTrees sections o table kids p b) kids)) (λ p b. SpellsTrees sections o table others p b) place bytes

-- the tree of a unit
abbrev pub SpellsTree : SectionBytes → Origin → UnitTree → ℕ → List ℕ → Type 0
SpellsTree sections o t = InTurnFrom (SpellsNode sections o t.table true t.root) (SpellsBelow t.root.declared.children (λ p b. SpellsTrees sections o t.table t.kids p b) t.kids)

-- ---- units

-- zero bytes
abbrev pub AreZeros : List ℕ → Type 0
AreZeros bytes = list_all is_zero bytes ≡ true

-- What follows the version in a header: in version 4 the place of the abbreviation table and the size of an address,
abbrev pub SpellsFields4 : ℕ → List ℕ → Type 0
SpellsFields4 offset bytes = InTurn (λ b. IsNumber 4 b offset) (λ b. IsNumber 1 b ADDRESS_SIZE) bytes

-- in version 5 the unit's type, that size and that place.
abbrev pub SpellsFields5 : ℕ → List ℕ → Type 0
SpellsFields5 offset bytes = InTurn (λ b. IsNumber 1 b DW_UT_compile) (λ b. InTurn (λ c. IsNumber 1 c ADDRESS_SIZE) (λ c. IsNumber 4 c offset) b) bytes

abbrev pub SpellsFields : ℕ → ℕ → List ℕ → Type 0
SpellsFields version offset bytes = ((version ≡ DWARF_4) × SpellsFields4 offset bytes) ⊎ ((version ≡ DWARF_5) × SpellsFields5 offset bytes)

-- a header without its length
abbrev pub SpellsHeader : ℕ → ℕ → List ℕ → Type 0
SpellsHeader version offset bytes = InTurn (λ b. IsNumber 2 b version) (λ b. SpellsFields version offset b) bytes

-- what follows a unit's length: the rest of its header, its tree from a place on, and zeros
abbrev pub SpellsBody : SectionBytes → Origin → UnitTree → ℕ → List ℕ → Type 0
SpellsBody sections o t = InTurnFrom (λ p b. SpellsHeader t.version t.offset b) (InTurnFrom (SpellsTree sections o t) (λ p b. AreZeros b))

-- the values of a unit that begins at a place count from there, and the bases of its tables stand in its root
abbrev pub origin_in : ℕ → UnitTree → Origin
origin_in place t = record { place = place; version = t.version; bases = Some (bases_in t.root.attrs) }

-- the unit that begins at a place
pub record SpellsUnit (sections : SectionBytes) (t : UnitTree) (place : ℕ) (bytes : List ℕ) : Type 0 where
  pub count : List ℕ
  pub body : List ℕ
  pub is : bytes ≡ count ++ body
  pub counts : IsNumber 4 count (length body)
  pub short : length body < LENGTH_RESERVED
  pub spells : SpellsBody sections (origin_in place t) t (place + 4) body
  pub inside : t.offset < length sections.abbrev_
  pub table : StandsAt sections.abbrev_ t.offset t.table
  pub is_unit : t.root.declared.tag ≡ DW_TAG_compile_unit
  pub whole : is_split t.root.declared ≡ false

-- units one after the other from a place
abbrev pub SpellsUnits : SectionBytes → List UnitTree → ℕ → List ℕ → Type 0
SpellsUnits sections [] place bytes = bytes ≡ []
SpellsUnits sections (t ∷ ts) place bytes = InTurnFrom (SpellsUnit sections t) (λ p b. SpellsUnits sections ts p b) place bytes

-- ---- limits and references

-- inside of so many open lists no more are open at once than may be
abbrev pub IsShallow : ℕ → Forest → Type 0
IsShallow lists no_more = Unit {0}
IsShallow lists (tree node kids others) = ((node.declared.children ≡ true → lists < 1000) × IsShallow (suc lists) kids) × IsShallow lists others

-- one of the entries begins at a place, and is of a unit where that is said
abbrev pub begins_at : List RawEntry → Option ℕ → ℕ → Bool
begins_at entries unit place = list_any (λ e. e.place == place && reaches unit e.unit) entries

-- a reference of a unit leads to one of the entries
abbrev pub ValueLeads : List RawEntry → ℕ → Meaning → Value → Type 0
ValueLeads entries unit InTheUnit (values.Ref place) = begins_at entries (Some unit) place ≡ true
ValueLeads entries unit InObject (values.Ref place) = begins_at entries None place ≡ true
ValueLeads entries unit _ _ = Unit {0}

abbrev pub AttrsLead : List RawEntry → ℕ → List Field → List RawAttr → Type 0
AttrsLead entries unit [] attrs = Unit {0}
AttrsLead entries unit (field ∷ fields) [] = Unit {0}
AttrsLead entries unit (field ∷ fields) (attr ∷ attrs) = ValueLeads entries unit (meaning_of field.form field.name) attr.value × AttrsLead entries unit fields attrs

abbrev pub NodeLeads : List RawEntry → ℕ → Node → Type 0
NodeLeads entries unit node = AttrsLead entries unit node.declared.fields node.attrs

abbrev pub TreesLead : List RawEntry → ℕ → Forest → Type 0
TreesLead entries unit no_more = Unit {0}
TreesLead entries unit (tree node kids others) = (NodeLeads entries unit node × TreesLead entries unit kids) × TreesLead entries unit others

-- what holds of a unit of a number besides its spelling
pub record IsSoundUnit (entries : List RawEntry) (unit : ℕ) (t : UnitTree) : Type 0 where
  pub shallow : IsShallow 1 t.kids
  pub root_leads : NodeLeads entries unit t.root
  pub kids_lead : TreesLead entries unit t.kids

abbrev pub AreSoundUnits : List RawEntry → ℕ → List UnitTree → Type 0
AreSoundUnits entries unit [] = Unit {0}
AreSoundUnits entries unit (t ∷ ts) = IsSoundUnit entries unit t × AreSoundUnits entries (suc unit) ts

-- the sections spell the trees: units fill the section, there are not too many entries, and each reference leads to one of them
pub record SpellsObject (sections : SectionBytes) (trees : List UnitTree) : Type 0 where
  pub spells : SpellsUnits sections trees 0 sections.info
  pub few : length (entries_of 0 0 trees) ≤ 2 ^ 24
  pub sound : AreSoundUnits (entries_of 0 0 trees) 0 trees

-- what was read is what the sections spell
pub record IsSpelled (sections : SectionBytes) (units : RawUnits) : Type 0 where
  pub trees : List UnitTree
  pub spells : SpellsObject sections trees
  pub is : units ≡ raw_units trees
