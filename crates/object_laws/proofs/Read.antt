-- The entries of an object's units, as they are read: tags and names have 16 bits, values are what their forms can hold, and roots are compile units.
use Rattle.std.proofs.Common.{◌≡◌, ◌<◌, ◌≤◌, ◌^◌, ◌+◌, ◌==◌, ℕ, suc, ℤ, Bool, true, false, List, [], ◌∷◌, ◌++◌, length, Option, Some, None, Ok, inl, inr, ◌⊎◌, refl, sym, ap, subst, ◌∙◌, arith}
use Rattle.std.specs.Prelude.{is_none, IsTrue, if◌then◌else◌}
use Rattle.std.specs.List.{All, find, list_any}
use Rattle.std.specs.Option.{option_map_or}
use Rattle.std.proofs.lemmas.Bool.{lt-ltb}
use Rattle.std.proofs.lemmas.List.Elements.{All-nil, All-cons, All-append}
use Rattle.ds_base.specs.DwarfNumbers.{DW_FORM_implicit_const, DW_TAG_compile_unit}
use Rattle.ds_base.specs.Leb.{fits_i64}
use Rattle.dwarf_types.specs.declared.abbrev.Abbrev.{Abbrev}
use Rattle.dwarf_types.specs.declared.abbrev.Field.{Field}
use Rattle.dwarf_types.specs.declared.entry.InUnit.{InUnit as AUnit}
use Rattle.dwarf_types.specs.declared.entry.RawAttr.{RawAttr}
use Rattle.dwarf_types.specs.declared.entry.RawEntry.{RawEntry}
use Rattle.dwarf_types.specs.declared.entry.RawUnits.{RawUnits}
use Rattle.dwarf_types.specs.SectionBytes.{SectionBytes}
use Rattle.dwarf_types.specs.Spelled.{AreBytes}
use Rattle.dwarf_types.specs.WellRoots.{is_split}
use Rattle.abbrev_read.specs.Spelling.{AreDeclarations, AreFields, IsDeclaration, SpellsFields, SpellsTable, constant_in}
use Rattle.unit_tree.specs.Entry.{declared_as}
use Rattle.unit_tree.specs.Entry as tree_of
use Rattle.unit_tree.specs.Spelling.{Forest, Node, Origin, SpellsAttr, SpellsAttrs, SpellsBelow, SpellsFields as SpellsHeaderFields, SpellsHeader, SpellsNode, SpellsTrees, SpellsUnit, SpellsUnits, UnitTree, entries_of, entry_of, in_unit, in_units, no_more, origin_in, preorder, size, tree, unit_entries}
use Rattle.unit_tree.specs.Unit.{units_of}
use Rattle.unit_tree.proofs.UnitLaws.{units_spelled}
use Rattle.line_read.proofs.EntryTables.{AreTexts}
use Rattle.linked_laws.specs.Spellable.{version_of}
use Rattle.object_view.proofs.Trees.{StandFrom, all_stand, behind_stand, first_stands}
use Rattle.object_laws.proofs.Forms.{IsVersion}
use Rattle.object_laws.proofs.Stored.{IsStored, attr_stored, value_stored}

pub record IsReadAttr (version : ℕ) (a : RawAttr) : Type 0 where
  pub some : 0 < a.name
  pub fits : a.name < 2 ^ 16
  pub value : IsStored version a.value

pub record IsRawRoot (e : RawEntry) : Type 0 where
  pub tag : e.tag ≡ DW_TAG_compile_unit
  pub whole : list_any (λ a. is_split a.name) e.attrs ≡ false

-- an entry of a unit of a version
pub record IsReadEntry (version : ℕ) (e : RawEntry) : Type 0 where
  pub some : 0 < e.tag
  pub fits : e.tag < 2 ^ 16
  pub attrs : All (IsReadAttr version) e.attrs
  pub root : is_none e.parent ≡ true → IsRawRoot e

-- an entry of one of the units
abbrev pub IsReadIn : List AUnit → RawEntry → Type 0
IsReadIn units e = IsReadEntry (version_of units e.unit) e

-- ---- declarations

pick : (b : Bool) (x d : Abbrev) (o : Option Abbrev) → (if b then Some x else o) ≡ Some d → (x ≡ d) ⊎ (o ≡ Some d)
pick true x d o e = inl cc
pick false x d o e = inr e

-- the values of implicit constants have 64 bits
abbrev AreConstants : List Field → Type 0
AreConstants [] = Unit {0}
AreConstants (field ∷ fields) = IsTrue (fits_i64 field.fixed) × AreConstants fields

constant_fits : (b : Bool) (field : Field) (bytes : List ℕ) → constant_in b field bytes → IsTrue (fits_i64 field.fixed)
constant_fits true field bytes h = h.fits
constant_fits false field bytes h = subst (λ (z : ℤ). IsTrue (fits_i64 z)) (sym h.1) (lt-ltb 0 (2 ^ 63) (omega arith))

fields_fit : (fields : List Field) (bytes : List ℕ) → SpellsFields fields bytes → AreConstants fields
fields_fit [] bytes h = tt
fields_fit (field ∷ fields) bytes h = (constant_fits (field.form == DW_FORM_implicit_const) field _ h.first.second.second, fields_fit fields h.back h.second)

abbrev IsDeclared : Abbrev → Type 0
IsDeclared d = IsDeclaration d × AreConstants d.fields

declared_sound : (code : ℕ) (before table : List Abbrev) (bytes : List ℕ) (d : Abbrev) → AreDeclarations before table → SpellsTable table bytes → declared_as code table ≡ Some d → IsDeclared d
declared_sound code before [] bytes d h spells e = absurd cc
declared_sound code before (x ∷ table) bytes d h spells e = elim (pick (x.code == code) x d (find (λ a. a.code == code) table) e) [
  | inl is ↦ subst IsDeclared is (h.0.1, fields_fit x.fields _ spells.first.second.second.second)
  | inr later ↦ declared_sound code (before ++ x ∷ []) table spells.back d h.1 spells.second later
]

-- ---- units

version_known : (version offset : ℕ) (bytes : List ℕ) → SpellsHeader version offset bytes → IsVersion version
version_known version offset bytes h = of_fields h.second
  where
    of_fields : {b : List ℕ} → SpellsHeaderFields version offset b → IsVersion version
    of_fields (inl four) = inl four.0
    of_fields (inr five) = inr five.0

pub unit_version : (sections : SectionBytes) (t : UnitTree) (place : ℕ) (bytes : List ℕ) → SpellsUnit sections t place bytes → IsVersion t.version
unit_version sections t place bytes h = version_known t.version t.offset _ h.spells.first

-- ---- attributes

module _ (sections : SectionBytes) (texts : AreTexts sections) (units : List AUnit) where
  module _ (o : Origin) (known : IsVersion o.version) where
    attr_read : (lines : Bool) (field : Field) (attr : RawAttr) (place : ℕ) (bytes : List ℕ) → (0 < field.name) × (field.name ≤ 65535) → IsTrue (fits_i64 field.fixed) → SpellsAttr sections o lines field attr place bytes
        → IsReadAttr o.version attr
    attr_read lines field attr place bytes short fixed h =
        subst (IsReadAttr o.version) (sym h.is) (record {
          some = short.0;
          fits = omega (arith, short.1);
          value = attr_stored o.version sections texts o lines field h.stored h.value (value_stored o.version sections texts known field bytes h.stored fixed h.spells) h.means;
        })

    attrs_read : (root : Bool) (fields : List Field) (before attrs : List RawAttr) (place : ℕ) (bytes : List ℕ) → AreFields fields → AreConstants fields → SpellsAttrs sections o root fields before attrs place bytes
        → All (IsReadAttr o.version) attrs
    attrs_read root [] before [] place bytes fit fixed h = All-nil (IsReadAttr o.version)
    attrs_read root [] before (attr ∷ attrs) place bytes fit fixed h = absurd h
    attrs_read root (field ∷ fields) before [] place bytes fit fixed h = absurd h
    attrs_read root (field ∷ fields) before (attr ∷ attrs) place bytes fit fixed h =
        All-cons (IsReadAttr o.version) attr attrs (attr_read _ field attr place h.front fit.0.0 fixed.0 h.first)
        (attrs_read root fields (before ++ attr ∷ []) attrs (place + length h.front) h.back fit.1 fixed.1 h.second)

    -- attributes have the names of their fields
    names_read : (root : Bool) (fields : List Field) (before attrs : List RawAttr) (place : ℕ) (bytes : List ℕ) → SpellsAttrs sections o root fields before attrs place bytes
        → list_any (λ a. is_split a.name) attrs ≡ list_any tree_of.is_dwo_name fields
    names_read root [] before [] place bytes h = refl
    names_read root [] before (attr ∷ attrs) place bytes h = absurd h
    names_read root (field ∷ fields) before [] place bytes h = absurd h
    names_read root (field ∷ fields) before (attr ∷ attrs) place bytes h =
        let name : attr.name ≡ field.name = ap (λ (a : RawAttr). a.name) h.first.is in
        rw (name, names_read root fields (before ++ attr ∷ []) attrs (place + length h.front) h.back h.second) refl

    -- ---- trees

    module _ (unit : ℕ) (is : version_of units unit ≡ o.version) (table : List Abbrev) (spelling : List ℕ) (sound : AreDeclarations [] table) (spelled : SpellsTable table spelling) where
      node_read : (root : Bool) (node : Node) (place : ℕ) (bytes : List ℕ) → SpellsNode sections o table root node place bytes → (parent : Option ℕ)
          → (is_none parent ≡ true → (node.declared.tag ≡ DW_TAG_compile_unit) × (tree_of.is_split node.declared ≡ false)) → IsReadIn units (entry_of unit parent node)
      node_read root node place bytes h parent of_root =
          let d = declared_sound h.spells.first.code [] table spelling node.declared sound spelled h.spells.first.found in
          let tag = d.0.tag in
          subst (λ (v : ℕ). IsReadEntry v (entry_of unit parent node)) (sym is) (record {
            some = tag.0;
            fits = omega (arith, tag.1);
            attrs = attrs_read root node.declared.fields [] node.attrs (place + length h.spells.front) h.spells.back d.0.fields d.1 h.spells.second;
            root = λ none. record {
              tag = (of_root none).0;
              whole = names_read root node.declared.fields [] node.attrs (place + length h.spells.front) h.spells.back h.spells.second ∙ (of_root none).1;
            };
          })

      below_read : (children : Bool) (Kids : ℕ → List ℕ → Type 0) (kids : Forest) (place : ℕ) (bytes : List ℕ) → SpellsBelow children Kids kids place bytes → (number : ℕ)
          → ((p : ℕ) (b : List ℕ) → Kids p b → All (IsReadIn units) (preorder unit (Some number) (number + 1) kids)) → All (IsReadIn units) (preorder unit (Some number) (number + 1) kids)
      below_read true Kids kids place bytes h number read = read place bytes h
      below_read false Kids no_more place bytes h number read = All-nil (IsReadIn units)
      below_read false Kids (tree node more others) place bytes h number read = absurd h

      trees_read : (forest : Forest) (place : ℕ) (bytes : List ℕ) → SpellsTrees sections o table forest place bytes → (parent number : ℕ) → All (IsReadIn units) (preorder unit (Some parent) number forest)
      trees_read no_more place bytes h parent number = All-nil (IsReadIn units)
      trees_read (tree node kids others) place bytes h parent number =
          let here = node_read false node place h.first.front h.first.first (Some parent) (λ none. absurd cc) in
          let below = below_read node.declared.children (λ p b. SpellsTrees sections o table kids p b) kids (place + length h.first.front) h.first.back h.first.second number
          (λ p b k. trees_read kids p b k number (number + 1)) in
          let behind = trees_read others (place + length h.front) h.back h.second parent (number + 1 + size kids) in
          All-cons (IsReadIn units) (entry_of unit (Some parent) node) (preorder unit (Some number) (number + 1) kids ++ preorder unit (Some parent) (number + 1 + size kids) others) here
          (All-append (IsReadIn units) (preorder unit (Some number) (number + 1) kids) (preorder unit (Some parent) (number + 1 + size kids) others) below behind)

  -- ---- the units of trees

  unit_read : (t : UnitTree) (place : ℕ) (bytes : List ℕ) → SpellsUnit sections t place bytes → (unit number : ℕ) → version_of units unit ≡ t.version → All (IsReadIn units) (unit_entries unit number t)
  unit_read t place bytes h unit number is =
      let o : Origin = origin_in place t in
      let known = unit_version sections t place bytes h in
      let table = h.table in
      let body = h.spells.second.first in
      let root = node_read o known unit is t.table table.spelling table.sound table.spells true t.root _ body.front body.first None (λ none. (h.is_unit, h.whole)) in
      let below = below_read o known unit is t.table table.spelling table.sound table.spells t.root.declared.children (λ p b. SpellsTrees sections o t.table t.kids p b) t.kids _ body.back body.second number
      (λ p b k. trees_read o known unit is t.table table.spelling table.sound table.spells t.kids p b k number (number + 1)) in
      All-cons (IsReadIn units) (entry_of unit None t.root) (preorder unit (Some number) (number + 1) t.kids) root below

  units_read : (ts : List UnitTree) (place : ℕ) (bytes : List ℕ) → SpellsUnits sections ts place bytes → (unit number : ℕ) → StandFrom unit (in_units number ts) units → All (IsReadIn units) (entries_of unit number ts)
  units_read [] place bytes h unit number stand = All-nil (IsReadIn units)
  units_read (t ∷ ts) place bytes h unit number stand =
      let others = in_units (number + 1 + size t.kids) ts in
      let is : version_of units unit ≡ t.version = ap (λ (u : Option AUnit). option_map_or (λ (u : AUnit). u.version) u 0) (first_stands unit (in_unit number t) others units stand) in
      let behind : StandFrom (suc unit) others units = subst (λ (n : ℕ). StandFrom n others units) (omega arith) (behind_stand unit (in_unit number t) others units stand) in
      All-append (IsReadIn units) (unit_entries unit number t) (entries_of (suc unit) (number + 1 + size t.kids) ts) (unit_read t place h.front h.first unit number is)
      (units_read ts (place + length h.front) h.back h.second (suc unit) (number + 1 + size t.kids) behind)

-- the entries of an object's units
pub entries_read : (sections : SectionBytes) (raw : RawUnits) → length sections.info < 2 ^ 32 → AreBytes sections.info → AreBytes sections.abbrev_ → AreTexts sections → units_of sections ≡ Ok raw → All (IsReadIn raw.units) raw.entries
entries_read sections raw small info abbrevs texts e =
    let s = units_spelled sections raw small info abbrevs e in
    let units = in_units 0 s.trees in
    subst (λ (r : RawUnits). All (IsReadIn r.units) r.entries) (sym s.is) (units_read sections texts units s.trees 0 sections.info s.spells.spells 0 0 (all_stand units))
