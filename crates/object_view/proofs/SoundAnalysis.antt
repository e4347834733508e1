-- Every analysis is sound, where the units that it was made of are.
use Rattle.std.proofs.Common.{◌≡◌, ℕ, ◌+◌, ◌≤◌, ◌==◌, Bool, true, false, List, [], ◌∷◌, ◌++◌, map, Option, Some, None, length, get_or, slice_get, Result, Ok, Err, refl, sym, ap, subst, ◌∙◌, arith}
use Rattle.std.specs.Prelude.{if◌then◌else◌, IfOk}
use Rattle.std.specs.List.{All, enumerate_from, flat_map}
use Rattle.std.proofs.lemmas.Bool.{eqb-true}
use Rattle.std.proofs.lemmas.List.{length-map}
use Rattle.std.proofs.lemmas.List.Concat.{flat_map-cons}
use Rattle.std.proofs.lemmas.List.Elements.{All-nil, All-cons, All-contains}
use Rattle.std.proofs.lemmas.Option.{get_or_from_slice_get, slice_get_within}
use Rattle.ds_base.specs.DwarfNumbers.{DW_TAG_base_type, DW_TAG_subprogram}
use Rattle.ds_base.specs.declared.fault.Fault.{Fault}
use Rattle.ds_base.specs.declared.fault.ReadError.{ReadError}
use Rattle.ds_base.specs.Reading.{◌>>=◌, Gives}
use Rattle.dwarf_types.specs.declared.address.Addr.{Addr}
use Rattle.dwarf_types.specs.declared.address.Span.{Span}
use Rattle.dwarf_types.specs.declared.analysis.Analysis.{Analysis}
use Rattle.dwarf_types.specs.declared.analysis.CodeRange.{CodeRange}
use Rattle.dwarf_types.specs.declared.entry.Attr.{Attr}
use Rattle.dwarf_types.specs.declared.entry.Entry.{Entry}
use Rattle.dwarf_types.specs.declared.entry.InUnit.{InUnit}
use Rattle.dwarf_types.specs.declared.entry.RawEntry.{RawEntry}
use Rattle.dwarf_types.specs.declared.entry.RawUnits.{RawUnits}
use Rattle.dwarf_types.specs.declared.lines.OutLines.{OutLines}
use Rattle.dwarf_types.specs.Live.{Stands, bases_of, op_bases, operations_of}
use Rattle.dwarf_types.specs.Raw.{places_of}
use Rattle.dwarf_types.specs.Sound.{AreCodeRanges, AreUnits, IsBaseType, IsParent, IsSound, IsSoundEntry}
use Rattle.ds_base.proofs.Passing.{bind_ok, ok_is}
use Rattle.addr_map.specs.declared.map.AddrMap.{AddrMap}
use Rattle.frame_table.specs.Frames.{frames_of}
use Rattle.moved_parts.specs.Frames.{frames_moved}
use Rattle.expr_resolve.specs.declared.context.BaseType.{BaseType}
use Rattle.unit_tree.specs.Sound.{AreSound}
use Rattle.object_view.specs.Analysis.{units_analysed}
use Rattle.object_view.specs.declared.units.UnitContext.{UnitContext}
use Rattle.object_view.specs.Attributes.{all_marked, entries_by, entries_meant, info_context, info_step, lines_meant, locations_context, locations_step, ranges_step, unit_base, unit_with_lines, unit_with_table, units_meant}
use Rattle.object_view.specs.Code.{code_of, code_ranges, low_high_pieces, ranges_pieces}
use Rattle.object_read.specs.Opened.{Opened}
use Rattle.object_view.specs.Stages.{analysed}
use Rattle.object_view.specs.Units.{base_types, unit_context}
use Rattle.object_view.proofs.Definitions.{analysed_same}
use Rattle.object_view.proofs.Kept.{Kept, KeptRaw, all_kept, bare, each_seen, entries_kept, given_kept, kept_length, raw_bare, stood}
use Rattle.object_view.proofs.KnownTypes.{IsTypeOf}
use Rattle.object_view.proofs.Names.{all_flat}
use Rattle.object_view.proofs.Ordered.{as_type, types_from, types_step, with_type}
use Rattle.object_view.proofs.RawValues.{IsPlain, IsPlainEntry}
use Rattle.object_view.proofs.Soundness.{AreGood, IsGood, all_marked_good, locations_good, ranges_good, step_all, value_good}
use Rattle.object_view.proofs.Trees.{StandFrom, all_stand, behind_stand, first_stands}
use Rattle.object_view.proofs.Understood.{entries_given, given_all, given_is}

-- ---- units

abbrev span_of : InUnit → ℕ × ℕ
span_of u = (u.first, u.count)

lines_kept : (o : Opened) (m : AddrMap) (u now : InUnit) (dir : List ℕ) (place : Option ℕ) → unit_with_table o m u dir place ≡ Ok now → span_of now ≡ span_of u
lines_kept o m u now dir None e = ap span_of (sym (ok_is u now e))
lines_kept o m u now dir (Some place) e =
    let lines = bind_ok (lines_meant o m u.version dir place) (λ (lines : OutLines). Ok (record u { lines = Some lines })) now e in
    ap span_of (sym (ok_is (record u { lines = Some lines.0 }) now lines.2))

units_kept : (o : Opened) (m : AddrMap) (entries : List Entry) (units now : List InUnit) → units_meant o m entries units ≡ Ok now → map span_of now ≡ map span_of units
units_kept o m entries units now e = each_seen span_of span_of (unit_with_lines o m entries) (λ x y is. lines_kept o m x y _ _ is) units now e

are_units : (at : ℕ) (now old : List InUnit) (end : ℕ) → map span_of now ≡ map span_of old → AreUnits at old end → AreUnits at now end
are_units at [] [] end e h = h
are_units at [] (u ∷ old) end e h = absurd cc
are_units at (v ∷ now) [] end e h = absurd cc
are_units at (v ∷ now) (u ∷ old) end e h =
    let heads : span_of v ≡ span_of u = cc in
    let tails : map span_of now ≡ map span_of old = cc in
    let first : v.first ≡ u.first = ap (λ (p : ℕ × ℕ). p.0) heads in
    let count : v.count ≡ u.count = ap (λ (p : ℕ × ℕ). p.1) heads in
    (first ∙ h.0, omega (arith, count, h.1), subst (λ (n : ℕ). AreUnits (at + n) now end) (sym count) (are_units (at + u.count) now old end tails h.2))

parent_kept : (u v : InUnit) (k : ℕ) (p : Option ℕ) → v.first ≡ u.first → IsParent u k p → IsParent v k p
parent_kept u v k None e h = h ∙ sym e
parent_kept u v k (Some p) e h = (omega (arith, e, h.0), h.1)

-- ---- base types

-- a base type is one of the entries that were read
record IsTypeIn (raw : List RawEntry) (b : BaseType) : Type 0 where
  entry : RawEntry
  stands : slice_get raw b.entry ≡ Some entry
  tag : entry.tag ≡ DW_TAG_base_type
  unit : entry.unit ≡ b.unit

with_type_in : (raw : List RawEntry) (k : ℕ) (e : RawEntry) (b : Bool) (others : List BaseType) → (e.tag == DW_TAG_base_type) ≡ b → slice_get raw k ≡ Some e → All (IsTypeIn raw) others → All (IsTypeIn raw) (with_type b (as_type k e) others)
with_type_in raw k e true others is stands h = All-cons (IsTypeIn raw) (as_type k e) others (record { entry = e; stands = stands; tag = eqb-true e.tag DW_TAG_base_type is; unit = refl }) h
with_type_in raw k e false others is stands h = h

types_in : (raw : List RawEntry) (k : ℕ) (entries : List RawEntry) → StandFrom k entries raw → All (IsTypeIn raw) (types_from k entries)
types_in raw k [] h = All-nil (IsTypeIn raw)
types_in raw k (e ∷ entries) h =
    subst (All (IsTypeIn raw)) (sym (types_step k e entries (e.tag == DW_TAG_base_type) refl))
    (with_type_in raw k e (e.tag == DW_TAG_base_type) (types_from (k + 1) entries) refl (first_stands k e entries raw h) (types_in raw (k + 1) entries (behind_stand k e entries raw h)))

named_in : (all : List Entry) (raw : List RawEntry) → KeptRaw all raw → (unit j : ℕ) → IsTypeOf (base_types raw) unit j → IsBaseType all unit j
named_in all raw kept unit j h =
    let there : IsTypeIn raw h.base = All-contains (IsTypeIn raw) (base_types raw) h.base (types_in raw 0 raw (all_stand raw)) h.known in
    let now = stood raw_bare bare raw all (sym kept) h.base.entry there.entry there.stands in
    let here : IsBaseType all h.base.unit h.base.entry = record {
      entry = now.0;
      stands = now.1;
      tag = ap (λ (x : Entry). x.tag) (sym now.2) ∙ there.tag;
      unit = ap (λ (x : Entry). x.unit) (sym now.2) ∙ there.unit;
    } in
    subst (λ (u : ℕ). IsBaseType all u j) h.its_unit (subst (λ (n : ℕ). IsBaseType all h.base.unit n) h.its_entry here)

-- ---- code

rise_from : (all : List Entry) (from to : ℕ) (code : List CodeRange) → from ≤ to → AreCodeRanges all to code → AreCodeRanges all from code
rise_from all from to [] le h = tt
rise_from all from to (r ∷ rs) le h = (omega (arith, le, h.0), h.1, h.2)

abbrev as_code : ℕ → Span → CodeRange
as_code k span = record { entry = k; span = span }

spans_before : (all : List Entry) (from k : ℕ) (e : Entry) (spans : List Span) (others : List CodeRange) → from ≤ k → Stands all k e → e.tag ≡ DW_TAG_subprogram → AreCodeRanges all k others → AreCodeRanges all from (map (as_code k) spans ++ others)
spans_before all from k e [] others le stands tag h = rise_from all from k others le h
spans_before all from k e (span ∷ spans) others le stands tag h = (le, (e, stands, tag), spans_before all k k e spans others (omega arith) stands tag h)

entry_before : (all : List Entry) (from k : ℕ) (e : Entry) (b : Bool) (spans : List Span) (others : List CodeRange) → from ≤ k → (e.tag == DW_TAG_subprogram) ≡ b → Stands all k e → AreCodeRanges all k others
    → AreCodeRanges all from ((if b then map (as_code k) spans else []) ++ others)
entry_before all from k e true spans others le is stands h = spans_before all from k e spans others le stands (eqb-true e.tag DW_TAG_subprogram is) h
entry_before all from k e false spans others le is stands h = rise_from all from k others le h

code_in : (m : AddrMap) (all : List Entry) (k : ℕ) (entries : List Entry) → StandFrom k entries all → AreCodeRanges all k (flat_map (code_ranges m) (enumerate_from k entries))
code_in m all k [] h = tt
code_in m all k (e ∷ entries) h =
    let others = rise_from all k (k + 1) (flat_map (code_ranges m) (enumerate_from (k + 1) entries)) (omega arith) (code_in m all (k + 1) entries (behind_stand k e entries all h)) in
    subst (AreCodeRanges all k) (sym (flat_map-cons (code_ranges m) (k, e) (enumerate_from (k + 1) entries)))
    (entry_before all k k e (e.tag == DW_TAG_subprogram) (ranges_pieces e ++ low_high_pieces m e) (flat_map (code_ranges m) (enumerate_from (k + 1) entries)) (omega arith) refl (first_stands k e entries all h) others)

-- ---- entries

bases_known : (types : List BaseType) (count : ℕ) (e : Entry) → All (λ (a : Attr). IsGood types count e.unit a.value) e.attrs → All (IsTypeOf types e.unit) (bases_of e)
bases_known types count e h =
    all_flat (IsTypeOf types e.unit) (λ (a : Attr). flat_map op_bases (operations_of a.value)) e.attrs (λ k d lt.
    all_flat (IsTypeOf types e.unit) op_bases (operations_of (get_or e.attrs k d).value) (IsGood.known (h k d lt)))

entry_sound : (raw : RawUnits) (a : Analysis) → AreSound raw → KeptRaw a.entries raw.entries → map span_of a.units ≡ map span_of raw.units → AreGood (base_types raw.entries) (length a.entries) a.entries → (k : ℕ) (e : Entry) → Stands a.entries k e → IsSoundEntry a k e
entry_sound raw a sound kept units good k e stands =
    let was = stood bare raw_bare a.entries raw.entries kept k e stands in
    let unit_is : e.unit ≡ was.0.unit = ap (λ (x : Entry). x.unit) was.2 in
    let parent_is : e.parent ≡ was.0.parent = ap (λ (x : Entry). x.parent) was.2 in
    let lies = sound.entries k was.0 was.1 in
    let now = stood span_of span_of raw.units a.units (sym units) was.0.unit lies.unit lies.its_unit in
    let first : now.0.first ≡ lies.unit.first = ap (λ (p : ℕ × ℕ). p.0) (sym now.2) in
    let count : now.0.count ≡ lies.unit.count = ap (λ (p : ℕ × ℕ). p.1) (sym now.2) in
    let from_first = lies.lies.from_first in
    let before_end = lies.lies.before_end in
    let here : All (λ (x : Attr). IsGood (base_types raw.entries) (length a.entries) e.unit x.value) e.attrs =
    subst (λ (x : Entry). All (λ (b : Attr). IsGood (base_types raw.entries) (length a.entries) x.unit b.value) x.attrs) (get_or_from_slice_get a.entries k e e stands) (good k e (slice_get_within a.entries k e stands)) in
    record {
      unit = now.0;
      its_unit = subst (λ (n : ℕ). slice_get a.units n ≡ Some now.0) (sym unit_is) now.1;
      lies = record { from_first = omega (arith, first, from_first); before_end = omega (arith, first, count, before_end) };
      parent = parent_kept lies.unit now.0 k e.parent first (subst (IsParent lies.unit k) (sym parent_is) lies.parent);
      targets = λ attr j contains is. IsGood.target (All-contains (λ (x : Attr). IsGood (base_types raw.entries) (length a.entries) e.unit x.value) e.attrs attr here contains) j is;
      bases = λ j contains. named_in a.entries raw.entries kept e.unit j (All-contains (IsTypeOf (base_types raw.entries) e.unit) (bases_of e) j (bases_known (base_types raw.entries) (length a.entries) e here) contains);
    }

-- ---- the analysis

pub analysis_sound : (o : Opened) (m : AddrMap) (raw : RawUnits) (a : Analysis) → AreSound raw → All IsPlainEntry raw.entries → units_analysed o m raw ≡ Ok a → IsSound a
unfolding units_analysed
analysis_sound o m raw a sound plain e =
    let types : List BaseType = base_types raw.entries in
    let count : ℕ = length raw.entries in
    let last : List InUnit → List Entry → Result Analysis Fault = λ units entries. (frames_of o.image o.relocs.frame o.sections.frame >>= λ frames. Ok (record { units = units; entries = entries; code = code_of m entries; frames = frames_moved m frames })) in
    let locate : List Entry → List Entry → Result (List Entry) Fault = λ meant ranged. entries_by (locations_step o m raw meant) ranged in
    let range : List Entry → Result (List Entry) Fault = λ meant. entries_by (ranges_step o m raw meant) (all_marked meant) in
    let meant = bind_ok (entries_meant o m raw) (λ meant. units_meant o m meant raw.units >>= λ units. range meant >>= λ ranged. locate meant ranged >>= λ entries. last units entries) a e in
    let units = bind_ok (units_meant o m meant.0 raw.units) (λ units. range meant.0 >>= λ ranged. locate meant.0 ranged >>= λ entries. last units entries) a meant.2 in
    let ranged = bind_ok (range meant.0) (λ ranged. locate meant.0 ranged >>= λ entries. last units.0 entries) a units.2 in
    let entries = bind_ok (locate meant.0 ranged.0) (λ entries. last units.0 entries) a ranged.2 in
    let frames = bind_ok (frames_of o.image o.relocs.frame o.sections.frame) (λ frames. Ok (record { units = units.0; entries = entries.0; code = code_of m entries.0; frames = frames_moved m frames })) a entries.2 in
    let done : Analysis = record { units = units.0; entries = entries.0; code = code_of m entries.0; frames = frames_moved m frames.0 } in
    let known : ℕ → UnitContext = λ unit. unit_context raw.units raw.entries unit in
    let base : ℕ → Addr = λ unit. unit_base raw.units meant.0 unit in
    let given : entries_given (info_step o m raw) raw.entries ≡ Ok meant.0 = given_is (info_step o m raw) raw.entries meant.0 meant.1 in
    let kept_ranged : Kept ranged.0 meant.0 = entries_kept (ranges_step o m raw meant.0) (all_marked meant.0) ranged.0 ranged.1 ∙ all_kept meant.0 in
    let kept : KeptRaw entries.0 raw.entries = entries_kept (locations_step o m raw meant.0) ranged.0 entries.0 entries.1 ∙ kept_ranged ∙ given_kept (info_step o m raw) raw.entries meant.0 given in
    let same_count : length entries.0 ≡ count = kept_length entries.0 raw.entries kept in
    let long : length (places_of raw.entries) ≡ count = length-map raw.entries (λ (x : RawEntry). x.place) in
    let understood : AreGood types count meant.0 = given_all (info_step o m raw) (λ unit x. IsPlain x.value) (λ unit x. IsGood types count unit x.value)
    (λ unit x now r is. value_good (info_context o m types unit (known unit)) (places_of raw.entries) count long x x.value now r is) raw.entries meant.0 given plain in
    let with_ranges : AreGood types count ranged.0 = step_all (ranges_step o m raw meant.0) (IsGood types count) (IsGood types count)
    (λ unit x now r is. ranges_good o m types count unit (known unit) (base unit) x x.value now r is) (all_marked meant.0) ranged.0 ranged.1 (all_marked_good types count meant.0 understood) in
    let located : AreGood types count entries.0 = step_all (locations_step o m raw meant.0) (IsGood types count) (IsGood types count)
    (λ unit x now r is. locations_good (locations_context o m types unit (known unit)) count (base unit) x x.value now r is) ranged.0 entries.0 entries.1 with_ranges in
    let good : AreGood types (length entries.0) entries.0 = subst (λ (n : ℕ). AreGood types n entries.0) (sym same_count) located in
    let same_units = units_kept o m meant.0 raw.units units.0 units.1 in
    let few = sound.few in
    subst IsSound (ok_is done a frames.2) (record {
      few = omega (arith, few, same_count);
      units = subst (AreUnits 0 units.0) (sym same_count) (are_units 0 units.0 raw.units count same_units sound.units);
      entries = λ k x stands. entry_sound raw done sound kept same_units good k x stands;
      code = code_in m entries.0 0 entries.0 (all_stand entries.0);
    })

-- what the stations make
pub gives_sound : (o : Opened) (m : AddrMap) (raw : RawUnits) (r : Result Analysis ReadError) → AreSound raw → All IsPlainEntry raw.entries → Gives (λ (a : Analysis). a) r (analysed o m raw) → IfOk r IsSound
gives_sound o m raw (Ok a) sound plain gives = analysis_sound o m raw a sound plain (sym (analysed_same o m raw) ∙ gives)
gives_sound o m raw (Err e) sound plain gives = tt
