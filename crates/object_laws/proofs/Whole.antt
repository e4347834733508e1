-- An analysis of an object is given.
use Rattle.std.proofs.Common.{◌≡◌, ◌<◌, ◌≤◌, ◌^◌, ℕ, Bool, true, false, List, [], map, length, drop, get_or, Option, Some, None, slice_get, Result, Ok, refl, sym, ap, subst, ◌∙◌, arith}
use Rattle.std.specs.Prelude.{◌==◌, is_none, is_some, if◌then◌else◌}
use Rattle.std.specs.List.{All}
use Rattle.std.specs.Option.{option_and_then, option_map, option_map_or}
use Rattle.std.proofs.lemmas.List.{length-drop, length-take}
use Rattle.std.proofs.lemmas.Option.{get_or_from_slice_get, slice_get-map, slice_get_within}
use Rattle.ds_base.specs.declared.fault.Part.TheVariants as parts
use Rattle.ds_base.specs.declared.fault.Fault.{Fault}
use Rattle.ds_base.specs.Reading.{◌>>=◌}
use Rattle.ds_base.proofs.Passing.{bind_ok, ok_is}
use Rattle.dwarf_types.specs.declared.analysis.Analysis.{Analysis}
use Rattle.dwarf_types.specs.declared.entry.Attr.{Attr}
use Rattle.dwarf_types.specs.declared.entry.Entry.{Entry}
use Rattle.dwarf_types.specs.declared.entry.InUnit.{InUnit}
use Rattle.dwarf_types.specs.declared.entry.RawAttr.{RawAttr}
use Rattle.dwarf_types.specs.declared.entry.RawUnits.{RawUnits}
use Rattle.dwarf_types.specs.declared.value.Value.{Value}
use Rattle.dwarf_types.specs.Raw.{entry_of, places_of}
use Rattle.dwarf_types.specs.SectionBytes.{SectionBytes, location_bytes}
use Rattle.dwarf_types.specs.Spelled.{AreBytes, AreTextBytes}
use Rattle.dwarf_types.proofs.Readers.{AreBytes-from, IsBytes-drop, IsBytes-from, IsBytes-take}
use Rattle.macho_read.specs.declared.image.Section.{Section}
use Rattle.stab_map.specs.declared.object.MapObject.{MapObject}
use Rattle.addr_map.specs.declared.map.AddrMap.{AddrMap}
use Rattle.addr_map.specs.Ranges.{map_of}
use Rattle.addr_map.specs.Sound.{IsSound as IsSoundMap}
use Rattle.frame_table.specs.Frames.{frames_of}
use Rattle.moved_parts.specs.Frames.{frames_moved}
use Rattle.unit_tree.specs.Unit.{units_of}
use Rattle.unit_tree.proofs.UnitLaws.{units_spelled}
use Rattle.line_read.proofs.EntryTables.{AreTexts}
use Rattle.linked_laws.specs.Spellable.{ArePreorder, IsSpellable, IsSpellableEntry, IsSpellableUnit, IsSpellableValue, has_lines, version_of}
use Rattle.object_view.specs.Analysis.{analysis_of, units_analysed}
use Rattle.object_view.specs.Attributes.{all_marked, entries_by, entries_meant, entry_marked, info_context, info_step, line_place, lines_marked, locations_context, locations_step, ranges_step, unit_base, units_meant}
use Rattle.object_view.specs.Code.{code_of}
use Rattle.object_read.specs.Opened.{Opened, opened_of}
use Rattle.reloc_table.specs.Parts.{content_of, section_of}
use Rattle.object_view.specs.Units.{base_types, unit_context}
use Rattle.object_read.proofs.FileBytes.{sections_are}
use Rattle.object_view.proofs.Kept.{Kept, all_kept, bare, entries_kept, given_kept, stood}
use Rattle.object_view.proofs.AfterReading.{in_steps}
use Rattle.object_view.proofs.Understood.{entries_given, given_is}
use Rattle.object_laws.proofs.Dirs.{dir_given, unit_dir}
use Rattle.object_laws.proofs.Frames.{frames_are}
use Rattle.object_laws.proofs.Lines.{tables_are}
use Rattle.object_laws.proofs.Marked.{has_kept, marked_has}
use Rattle.object_laws.proofs.Preorder.{HasRoot, trees_preorder, trees_rooted}
use Rattle.object_laws.proofs.Raw.{kept_entries}
use Rattle.object_laws.proofs.Read.{IsReadIn, entries_read}
use Rattle.object_laws.proofs.SpansCode.{IsSpellableIn, code_given}
use Rattle.object_laws.proofs.SpansMap.{map_is_sound}
use Rattle.object_laws.proofs.Steps.{IsMarkedEntry, IsPlainEntry, entries_listed, entries_marked, entries_plain, entry_seen, listed_seen, plain_given, unmarked}
use Rattle.object_laws.proofs.Stored.{IsStored}
use Rattle.object_laws.proofs.Units.{HasLines, IsReadUnit, context_version, dir_of, preorder_kept, units_have, units_read, versions_kept}
use Rattle.object_laws.proofs.Values.{IsSpellableAs, IsPlainly, locations_given, ranges_given, value_given}

-- ---- the root of a unit

-- its line table is named where the unit has one
root_has : (e : Entry) → is_none e.parent ≡ true → has_lines e.attrs ≡ false → has_lines (entry_marked e).attrs ≡ is_some (line_place e)
root_has e none plain = by_case (is_none e.parent) none
  where
    by_case : (b : Bool) → b ≡ true → has_lines (if b then record e { attrs = lines_marked e.attrs } else e).attrs ≡ is_some (line_place e)
    by_case true is = marked_has e.attrs plain
    by_case false is = absurd cc

some_view : {X V : Type 0} (view : X → V) (o : Option X) (x : X) → o ≡ Some x → option_map view o ≡ Some (view x)
some_view view o x e = ap (option_map view) e

none_is : (o : Option ℕ) → o ≡ None → is_none o ≡ true
none_is o e = ap is_none e

found_in : {X Y : Type 0} (f : X → Y) (o : Option X) (y : Y) → option_map f o ≡ Some y → (x : X) × (o ≡ Some x) × (y ≡ f x)
found_in f None y e = absurd cc
found_in f (Some x) y e = (x, refl, cc)

all_at : {X : Type 0} (P : X → Type 0) (xs : List X) (k : ℕ) (x : X) → All P xs → slice_get xs k ≡ Some x → P x
all_at P xs k x h is = subst P (get_or_from_slice_get xs k x x is) (h k x (slice_get_within xs k x is))

marked_parent : (e : Entry) → (entry_marked e).parent ≡ e.parent
marked_parent e = by_case (is_none e.parent)
  where
    by_case : (b : Bool) → (if b then record e { attrs = lines_marked e.attrs } else e).parent ≡ e.parent
    by_case true = refl
    by_case false = refl

-- entries of units that have versions
abbrev IsPlainIn : (ℕ → ℕ) → Entry → Type 0
IsPlainIn v e = IsPlainEntry (v e.unit) e

abbrev IsMarkedIn : (ℕ → ℕ) → Entry → Type 0
IsMarkedIn v e = IsMarkedEntry (v e.unit) e

-- a unit with its table, and its root as it was understood and as it is
unit_given : (v : ℕ → ℕ) (meant now : List Entry) (u : InUnit) → All (IsPlainIn v) meant → All (IsMarkedIn v) now → map entry_seen now ≡ map entry_seen (all_marked meant) → HasRoot now u → HasLines meant u → IsSpellableUnit now u
unit_given v meant now u plain marked same rooted has =
    record {
      version = has.version;
      root = λ e stands.
          let none : is_none e.parent ≡ true = none_is e.parent (rooted e stands) in
          let entry = all_at (IsMarkedIn v) now u.first e marked stands in
          let read = entry.root none in
          let was = stood entry_seen entry_seen now (all_marked meant) same u.first e stands in
          let understood = found_in entry_marked (slice_get meant u.first) was.0 (sym (slice_get-map entry_marked meant u.first) ∙ was.1) in
          let old : Entry = understood.0 in
          let views : entry_seen e ≡ entry_seen (entry_marked old) = was.2 ∙ ap entry_seen understood.2 in
          let parent : (entry_marked old).parent ≡ e.parent = ap (λ (v : Option ℕ × List (ℕ × Bool)). v.0) (sym views) in
          let old_none : is_none old.parent ≡ true = ap is_none (sym (marked_parent old) ∙ parent ∙ rooted e stands) in
          let lines : has_lines e.attrs ≡ is_some (line_place old) = has_kept e.attrs (entry_marked old).attrs (ap (λ (v : Option ℕ × List (ℕ × Bool)). v.1) views)
          ∙ root_has old old_none (unmarked (v old.unit) old.attrs (all_at (IsPlainIn v) meant u.first old plain understood.1).attrs) in
          let named : is_some u.lines ≡ is_some (line_place old) = has.named ∙ ap (λ (o : Option Entry). is_some (option_and_then line_place o)) understood.1 in
          record { tag = read.tag; whole = read.whole; stmt_list = entry.first none; lines = named ∙ sym lines };
      lines = has.lines;
    }

root_kept : (now raw : List Entry) (u : InUnit) → Kept now raw → HasRoot raw u → HasRoot now u
root_kept now raw u kept h e stands =
    let was = stood bare bare now raw kept u.first e stands in
    ap (λ (x : Entry). x.parent) was.2 ∙ h was.0 was.1

units_given : (v : ℕ → ℕ) (raw meant now : List Entry) (units : List InUnit) → All (IsPlainIn v) meant → All (IsMarkedIn v) now → map entry_seen now ≡ map entry_seen (all_marked meant) → Kept now raw → All (λ u. HasLines meant u × HasRoot raw u) units
    → All (IsSpellableUnit now) units
units_given v raw meant now units plain marked same kept have k d lt =
    let h = have k d lt in
    unit_given v meant now (get_or units k d) plain marked same (root_kept now raw (get_or units k d) kept h.1) h.0

-- ---- the sections of an object

-- a section of so many bytes at most
pub record IsPart (most : ℕ) (bytes : List ℕ) : Type 0 where
  pub are : AreBytes bytes
  pub few : length bytes ≤ most

content_is : (bytes : List ℕ) (section : Option Section) → AreBytes bytes → IsPart (length bytes) (option_map_or (content_of bytes) section [])
content_is bytes None h = record { are = tt; few = omega arith }
content_is bytes (Some section) h = record {
  are = AreBytes-from (content_of bytes section) (IsBytes-take section.size (drop section.offset bytes) (IsBytes-drop section.offset bytes (IsBytes-from bytes h)));
  few = omega (arith, length-take section.size (drop section.offset bytes), length-drop section.offset bytes);
}

pub record ArePartsOf (bytes : List ℕ) (sections : SectionBytes) : Type 0 where
  pub info : IsPart (length bytes) sections.info
  pub abbrevs : IsPart (length bytes) sections.abbrev_
  pub strings : IsPart (length bytes) sections.strings
  pub addr : IsPart (length bytes) sections.addr
  pub line : IsPart (length bytes) sections.line
  pub line_str : IsPart (length bytes) sections.line_str
  pub loc : IsPart (length bytes) sections.loc
  pub loclists : IsPart (length bytes) sections.loclists
  pub frame : IsPart (length bytes) sections.frame

pub parts_are : (bytes : List ℕ) (cpu : ℕ) (o : Opened) → AreBytes bytes → opened_of bytes cpu ≡ Ok o → ArePartsOf bytes o.sections
parts_are bytes cpu o h e =
    let of = sections_are bytes cpu o e in
    subst (ArePartsOf bytes) (sym of.are) (record {
      info = content_is bytes (section_of of.image.sections parts.Info) h;
      abbrevs = content_is bytes (section_of of.image.sections parts.Abbrev) h;
      strings = content_is bytes (section_of of.image.sections parts.Str) h;
      addr = content_is bytes (section_of of.image.sections parts.Addr) h;
      line = content_is bytes (section_of of.image.sections parts.Line) h;
      line_str = content_is bytes (section_of of.image.sections parts.LineStr) h;
      loc = content_is bytes (section_of of.image.sections parts.Loc) h;
      loclists = content_is bytes (section_of of.image.sections parts.Loclists) h;
      frame = content_is bytes (section_of of.image.sections parts.Frame) h;
    })

texts_are : (bytes : List ℕ) (sections : SectionBytes) → ArePartsOf bytes sections → AreTexts sections
texts_are bytes sections are = record { strings = are.strings.are; line_str = are.line_str.are }

locations_bytes : (bytes : List ℕ) (sections : SectionBytes) (version : ℕ) → ArePartsOf bytes sections → AreBytes (location_bytes sections version)
locations_bytes bytes sections version are = by_version (version == 5)
  where
    by_version : (b : Bool) → AreBytes (if b then sections.loclists else sections.loc)
    by_version true = are.loclists.are
    by_version false = are.loc.are

-- ---- the analysis

entry_given : (version : ℕ) (e : Entry) → IsMarkedEntry version e → IsSpellableEntry version e
entry_given version e h = record { some = h.some; fits = h.fits; attrs = h.attrs }

others_given : (v : ℕ → ℕ) (entries : List Entry) → All (IsMarkedIn v) entries → All (λ e. is_none e.parent ≡ false → has_lines e.attrs ≡ false) entries
others_given v entries h k d lt = (h k d lt).others

-- units and entries as they are read
record AreRead (raw : RawUnits) : Type 0 where
  pub entries : All (IsReadIn raw.units) raw.entries
  pub units : All IsReadUnit raw.units
  pub roots : All (HasRoot (map entry_of raw.entries)) raw.units
  pub preorder : ArePreorder (map entry_of raw.entries)

raw_read : (bytes : List ℕ) (o : Opened) (raw : RawUnits) → length bytes < 2 ^ 32 → ArePartsOf bytes o.sections → units_of o.sections ≡ Ok raw → AreRead raw
raw_read bytes o raw small are e =
    let info = are.info in
    let few = info.few in
    let s = units_spelled o.sections raw (omega (arith, few, small)) info.are are.abbrevs.are e in
    record {
      entries = entries_read o.sections raw (omega (arith, few, small)) info.are are.abbrevs.are (texts_are bytes o.sections are) e;
      units = subst (λ (r : RawUnits). All IsReadUnit r.units) (sym s.is) (units_read o.sections s.trees 0 0 o.sections.info s.spells.spells);
      roots = subst (λ (r : RawUnits). All (HasRoot (map entry_of r.entries)) r.units) (sym s.is) (trees_rooted s.trees);
      preorder = subst (λ (r : RawUnits). ArePreorder (map entry_of r.entries)) (sym s.is) (trees_preorder s.trees);
    }

-- the directories of units, by entries that are understood
dirs_given : (v : ℕ → ℕ) (meant : List Entry) → All (IsPlainIn v) meant → (u : InUnit) → AreTextBytes (dir_of meant u)
dirs_given v meant plain u =
    unit_dir meant u (λ e stands.
    let entry = all_at (IsPlainIn v) meant u.first e plain stands in
    dir_given (v e.unit) e (plain_given (v e.unit) e.attrs entry.attrs))

module _ (bytes : List ℕ) (o : Opened) (m : AddrMap) (sound : IsSoundMap m) (are : ArePartsOf bytes o.sections) (raw : RawUnits) (read : AreRead raw) where
  -- the version of the unit of a number
  abbrev v : ℕ → ℕ
  v unit = version_of raw.units unit

  info_given : (unit : ℕ) (a : RawAttr) (now : Value) → IsStored (v unit) a.value → info_step o m raw unit a ≡ Ok now → IsPlainly (v unit) a.name now
  info_given unit a now h e =
      value_given (info_context o m (base_types raw.entries) unit (unit_context raw.units raw.entries unit)) (places_of raw.entries) sound (v unit) are.addr.are a a.value now h e

  ranged_given : (meant : List Entry) (unit : ℕ) (a : Attr) (now : Value) → IsSpellableValue (v unit) a.name a.value → ranges_step o m raw meant unit a ≡ Ok now → IsSpellableAs (v unit) a.name a.value now
  ranged_given meant unit a now h e = ranges_given o m sound (unit_context raw.units raw.entries unit) (unit_base raw.units meant unit) (v unit) a a.value now h e

  located_given : (meant : List Entry) (unit : ℕ) (a : Attr) (now : Value) → IsSpellableValue (v unit) a.name a.value → locations_step o m raw meant unit a ≡ Ok now → IsSpellableAs (v unit) a.name a.value now
  located_given meant unit a now h e =
      let same : (unit_context raw.units raw.entries unit).version ≡ v unit = context_version raw.units raw.entries unit in
      subst (λ (n : ℕ). IsSpellableAs n a.name a.value now) same
      (locations_given (locations_context o m (base_types raw.entries) unit (unit_context raw.units raw.entries unit)) sound (locations_bytes bytes o.sections (unit_context raw.units raw.entries unit).version are) are.addr.are
      (unit_base raw.units meant unit) a a.value now (subst (λ (n : ℕ). IsSpellableValue n a.name a.value) (sym same) h) e)

  units_analysed_given : (a : Analysis) → units_analysed o m raw ≡ Ok a → IsSpellable a
  unfolding units_analysed
  units_analysed_given a e =
      let last : List InUnit → List Entry → Result Analysis Fault = λ units entries. (frames_of o.image o.relocs.frame o.sections.frame >>= λ frames. Ok (record { units = units; entries = entries; code = code_of m entries; frames = frames_moved m frames })) in
      let meant = bind_ok (entries_meant o m raw)
      (λ meant. units_meant o m meant raw.units >>= λ units. entries_by (ranges_step o m raw meant) (all_marked meant) >>= λ ranged. entries_by (locations_step o m raw meant) ranged >>= λ entries. last units entries) a e in
      let units = bind_ok (units_meant o m meant.0 raw.units)
      (λ units. entries_by (ranges_step o m raw meant.0) (all_marked meant.0) >>= λ ranged. entries_by (locations_step o m raw meant.0) ranged >>= λ entries. last units entries) a meant.2 in
      let ranged = bind_ok (entries_by (ranges_step o m raw meant.0) (all_marked meant.0)) (λ ranged. entries_by (locations_step o m raw meant.0) ranged >>= λ entries. last units.0 entries) a units.2 in
      let entries = bind_ok (entries_by (locations_step o m raw meant.0) ranged.0) (λ entries. last units.0 entries) a ranged.2 in
      let frames = bind_ok (frames_of o.image o.relocs.frame o.sections.frame) (λ frames. Ok (record { units = units.0; entries = entries.0; code = code_of m entries.0; frames = frames_moved m frames })) a entries.2 in
      let done : Analysis = record { units = units.0; entries = entries.0; code = code_of m entries.0; frames = frames_moved m frames.0 } in
      let old : List Entry = map entry_of raw.entries in
      let understood : entries_given (info_step o m raw) raw.entries ≡ Ok meant.0 = given_is (info_step o m raw) raw.entries meant.0 meant.1 in
      let kept : Kept entries.0 old =
      entries_kept (locations_step o m raw meant.0) ranged.0 entries.0 entries.1 ∙ entries_kept (ranges_step o m raw meant.0) (all_marked meant.0) ranged.0 ranged.1 ∙ all_kept meant.0
      ∙ kept_entries meant.0 raw.entries (given_kept (info_step o m raw) raw.entries meant.0 understood) in
      let plain : All (IsPlainIn v) meant.0 = entries_plain v (info_step o m raw) info_given raw.entries meant.0 read.entries understood in
      let marked : All (IsMarkedIn v) (all_marked meant.0) = entries_marked v meant.0 plain in
      let with_ranges : All (IsMarkedIn v) ranged.0 = entries_listed v (ranges_step o m raw meant.0) (ranged_given meant.0) (all_marked meant.0) ranged.0 marked ranged.1 in
      let located : All (IsMarkedIn v) entries.0 = entries_listed v (locations_step o m raw meant.0) (located_given meant.0) ranged.0 entries.0 with_ranges entries.1 in
      let seen_ranged = listed_seen v (ranges_step o m raw meant.0) (ranged_given meant.0) (all_marked meant.0) ranged.0 marked ranged.1 in
      let seen_located = listed_seen v (locations_step o m raw meant.0) (located_given meant.0) ranged.0 entries.0 with_ranges entries.1 in
      let tables = tables_are o m sound (texts_are bytes o.sections are) are.line.are in
      let have = units_have o m tables meant.0 (dirs_given v meant.0 plain) old raw.units units.0 read.units read.roots units.1 in
      let given : All (IsSpellableIn v) entries.0 = λ k d lt. entry_given (v (get_or entries.0 k d).unit) (get_or entries.0 k d) (located k d lt) in
      subst IsSpellable (ok_is done a frames.2) (record {
        units = units_given v old meant.0 entries.0 units.0 plain located (seen_located ∙ seen_ranged) kept have;
        entries = λ k d lt. subst (λ (version : ℕ). IsSpellableEntry version (get_or entries.0 k d)) (sym (versions_kept o m meant.0 raw.units units.0 units.1 (get_or entries.0 k d).unit)) (given k d lt);
        no_lines = others_given v entries.0 located;
        preorder = preorder_kept entries.0 old kept read.preorder;
        code = code_given v m entries.0 sound given;
        frames = frames_are o.image o.relocs.frame o.sections.frame frames.0 m frames.1 are.frame.are sound;
      })

pub analysis_given : (bytes : List ℕ) (object : MapObject) (cpu : ℕ) (a : Analysis) → length bytes < 2 ^ 32 → AreBytes bytes → analysis_of bytes object cpu ≡ Ok a → IsSpellable a
analysis_given bytes object cpu a small are e =
    let o = bind_ok (opened_of bytes cpu) (λ o. units_of o.sections >>= λ raw. units_analysed o (map_of object o.image) raw) a (sym (in_steps bytes object cpu) ∙ e) in
    let raw = bind_ok (units_of o.0.sections) (λ raw. units_analysed o.0 (map_of object o.0.image) raw) a o.2 in
    let sections = parts_are bytes cpu o.0 are o.1 in
    units_analysed_given bytes o.0 (map_of object o.0.image) (map_is_sound object o.0.image) sections raw.0 (raw_read bytes o.0 raw.0 small sections raw.1) a raw.2
