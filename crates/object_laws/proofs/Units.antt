-- The units of an object, as they are read and with their line tables.
use Rattle.std.proofs.Common.{◌≡◌, ◌+◌, ℕ, zero, suc, List, [], ◌∷◌, map, length, Option, Some, None, slice_get, Ok, refl, sym, ap, subst, ◌∙◌}
use Rattle.std.specs.Prelude.{IfSome, is_some}
use Rattle.std.specs.List.{All}
use Rattle.std.specs.Option.{option_and_then, option_map_or, unwrap_or}
use Rattle.std.proofs.lemmas.List.Elements.{All-nil, All-cons}
use Rattle.ds_base.proofs.Passing.{bind_ok, ok_is}
use Rattle.dwarf_types.specs.declared.entry.Entry.{Entry}
use Rattle.dwarf_types.specs.declared.entry.InUnit.{InUnit}
use Rattle.dwarf_types.specs.declared.entry.RawEntry.{RawEntry}
use Rattle.dwarf_types.specs.declared.lines.OutLines.{OutLines}
use Rattle.dwarf_types.specs.SectionBytes.{SectionBytes}
use Rattle.dwarf_types.specs.Spelled.{AreTextBytes}
use Rattle.dwarf_types.specs.WellLines.{IsLineTable}
use Rattle.addr_map.specs.declared.map.AddrMap.{AddrMap}
use Rattle.unit_tree.specs.Spelling.{SpellsUnits, UnitTree, in_unit, in_units, size}
use Rattle.linked_laws.specs.Spellable.{ArePreorder, IsUp, version_of}
use Rattle.object_view.specs.Attributes.{comp_dir, line_place, lines_meant, unit_with_lines, unit_with_table, units_meant}
use Rattle.object_read.specs.Opened.{Opened}
use Rattle.object_view.specs.Units.{context_of, no_unit, unit_context}
use Rattle.object_view.proofs.Kept.{Kept, bare, each_seen, stood}
use Rattle.object_view.proofs.Names.{each_all}
use Rattle.object_laws.proofs.Forms.{IsVersion}
use Rattle.object_laws.proofs.Preorder.{HasRoot}
use Rattle.object_laws.proofs.Read.{unit_version}

-- ---- as they are read

pub record IsReadUnit (u : InUnit) : Type 0 where
  pub version : IsVersion u.version
  pub lines : u.lines ≡ None

pub units_read : (sections : SectionBytes) (ts : List UnitTree) (number place : ℕ) (bytes : List ℕ) → SpellsUnits sections ts place bytes → All IsReadUnit (in_units number ts)
units_read sections [] number place bytes h = All-nil IsReadUnit
units_read sections (t ∷ ts) number place bytes h =
    All-cons IsReadUnit (in_unit number t) (in_units (number + 1 + size t.kids) ts) (record { version = unit_version sections t place h.front h.first; lines = refl })
    (units_read sections ts (number + 1 + size t.kids) (place + length h.front) h.back h.second)

-- ---- with line tables

-- the table is there exactly where the root names one, and it is a line table
pub record HasLines (entries : List Entry) (u : InUnit) : Type 0 where
  pub version : IsVersion u.version
  pub named : is_some u.lines ≡ is_some (option_and_then line_place (slice_get entries u.first))
  pub lines : IfSome u.lines (IsLineTable u.version)

-- the directory of a unit, by its root
abbrev pub dir_of : List Entry → InUnit → List ℕ
dir_of entries u = option_map_or comp_dir (slice_get entries u.first) []

-- what a line table of a unit is
abbrev pub AreTables : Opened → AddrMap → Type 0
AreTables o m = (version : ℕ) (dir : List ℕ) (place : ℕ) (lines : OutLines) → IsVersion version → AreTextBytes dir → lines_meant o m version dir place ≡ Ok lines → IsLineTable version lines

module _ (o : Opened) (m : AddrMap) (tables : AreTables o m) (entries : List Entry) (dirs : (u : InUnit) → AreTextBytes (dir_of entries u)) where
  unit_has : (u now : InUnit) (place : Option ℕ) → option_and_then line_place (slice_get entries u.first) ≡ place → IsReadUnit u → unit_with_table o m u (dir_of entries u) place ≡ Ok now → HasLines entries now
  unit_has u now None is h e =
      let no_lines = h.lines in
      subst (HasLines entries) (ok_is u now e) (record { version = h.version; named = ap is_some no_lines ∙ ap is_some (sym is); lines = subst (λ (x : Option OutLines). IfSome x (IsLineTable u.version)) (sym no_lines) tt })
  unit_has u now (Some place) is h e =
      let lines = bind_ok (lines_meant o m u.version (dir_of entries u) place) (λ (lines : OutLines). Ok (record u { lines = Some lines })) now e in
      subst (HasLines entries) (ok_is (record u { lines = Some lines.0 }) now lines.2)
      (record { version = h.version; named = ap is_some (sym is); lines = tables u.version (dir_of entries u) place lines.0 h.version (dirs u) lines.1 })

  root_stays : (u now : InUnit) (dir : List ℕ) (place : Option ℕ) (raw : List Entry) → HasRoot raw u → unit_with_table o m u dir place ≡ Ok now → HasRoot raw now
  root_stays u now dir None raw h e = subst (HasRoot raw) (ok_is u now e) h
  root_stays u now dir (Some place) raw h e =
      let lines = bind_ok (lines_meant o m u.version dir place) (λ (lines : OutLines). Ok (record u { lines = Some lines })) now e in
      subst (HasRoot raw) (ok_is (record u { lines = Some lines.0 }) now lines.2) h

  pub units_have : (raw : List Entry) (units now : List InUnit) → All IsReadUnit units → All (HasRoot raw) units → units_meant o m entries units ≡ Ok now → All (λ u. HasLines entries u × HasRoot raw u) now
  units_have raw units now h roots e =
      each_all (unit_with_lines o m entries) (λ u. IsReadUnit u × HasRoot raw u) (λ u. HasLines entries u × HasRoot raw u)
      (λ x y p is.
      let place = option_and_then line_place (slice_get entries x.first) in
      (unit_has x y place refl p.0 is, root_stays x y (dir_of entries x) place raw p.1 is)) units now e (λ k d lt. (h k d lt, roots k d lt))

-- ---- versions

version_stays : (o : Opened) (m : AddrMap) (u now : InUnit) (dir : List ℕ) (place : Option ℕ) → unit_with_table o m u dir place ≡ Ok now → now.version ≡ u.version
version_stays o m u now dir None e = ap (λ (x : InUnit). x.version) (sym (ok_is u now e))
version_stays o m u now dir (Some place) e =
    let lines = bind_ok (lines_meant o m u.version dir place) (λ (lines : OutLines). Ok (record u { lines = Some lines })) now e in
    ap (λ (x : InUnit). x.version) (sym (ok_is (record u { lines = Some lines.0 }) now lines.2))

by_view : (us : List InUnit) (k : ℕ) → version_of us k ≡ unwrap_or (slice_get (map (λ u. u.version) us) k) 0
by_view [] k = refl
by_view (u ∷ us) zero = refl
by_view (u ∷ us) (suc k) = by_view us k

-- units have the versions that they were read with
pub versions_kept : (o : Opened) (m : AddrMap) (entries : List Entry) (units now : List InUnit) → units_meant o m entries units ≡ Ok now → (k : ℕ) → version_of now k ≡ version_of units k
versions_kept o m entries units now e k =
    let same : map (λ u. u.version) now ≡ map (λ u. u.version) units =
    each_seen (λ (u : InUnit). u.version) (λ (u : InUnit). u.version) (unit_with_lines o m entries) (λ x y is. version_stays o m x y _ _ is) units now e in
    by_view now k ∙ ap (λ (vs : List ℕ). unwrap_or (slice_get vs k) 0) same ∙ sym (by_view units k)

known_version : (entries : List RawEntry) (o : Option InUnit) → (option_map_or (context_of entries) o no_unit).version ≡ option_map_or (λ (u : InUnit). u.version) o 0
known_version entries None = refl
known_version entries (Some u) = refl

-- what is known of a unit has its version
pub context_version : (units : List InUnit) (entries : List RawEntry) (unit : ℕ) → (unit_context units entries unit).version ≡ version_of units unit
context_version units entries unit = known_version entries (slice_get units unit)

-- ---- preorder goes by parents alone

module _ (now old : List Entry) (kept : Kept now old) where
  up_kept : (n k a : ℕ) → IsUp old n k a → IsUp now n k a
  up_kept zero k a h = h
  up_kept (suc n) k a h =
      let there = stood bare bare old now (sym kept) k h.0 h.2 in
      (there.0, h.1, there.1, ap (λ (e : Entry). e.parent) (sym there.2) ∙ h.3, up_kept n h.1 a h.4)

  pub preorder_kept : ArePreorder old → ArePreorder now
  preorder_kept h k p e stands parent =
      let was = stood bare bare now old kept (k + 1) e stands in
      let up = h k p was.0 was.1 (ap (λ (x : Entry). x.parent) (sym was.2) ∙ parent) in
      (up.0, up_kept up.0 k p up.1)
