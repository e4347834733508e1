-- An analysis of an object is sound, and what is linked of analysed objects is well.
use Rattle.std.proofs.Common.{◌≡◌, ◌<◌, ◌^◌, ℕ, List, length, Option, Some, None, Ok, Err, subst, sym, ◌∙◌, arith}
use Rattle.std.specs.List.{All}
use Rattle.std.specs.Option.{option_map_or}
use Rattle.std.proofs.lemmas.Option.{get_or_from_slice_get, slice_get_within}
use Rattle.ds_base.proofs.Passing.{bind_ok, ok_is}
use Rattle.ds_base.specs.declared.fault.Fault.{Fault}
use Rattle.ds_base.specs.declared.fault.Kind.TheVariants as kinds
use Rattle.ds_base.specs.declared.fault.Part.TheVariants as parts
use Rattle.ds_base.specs.Reading.{◌>>=◌}
use Rattle.dwarf_types.specs.declared.analysis.Analysis.{Analysis}
use Rattle.dwarf_types.specs.declared.entry.RawEntry.{RawEntry}
use Rattle.dwarf_types.specs.declared.entry.RawUnits.{RawUnits}
use Rattle.dwarf_types.specs.LinkedGraph.{linked}
use Rattle.dwarf_types.specs.LinkedUnits.{Object}
use Rattle.dwarf_types.specs.SectionBytes.{SectionBytes}
use Rattle.dwarf_types.specs.Sound.{IsSound}
use Rattle.dwarf_types.specs.Spelled.{AreBytes}
use Rattle.dwarf_types.specs.Well.{IsWell}
use Rattle.stab_map.specs.declared.object.MapObject.{MapObject}
use Rattle.addr_map.specs.Ranges.{map_of}
use Rattle.unit_tree.specs.Reference.{resolved}
use Rattle.unit_tree.specs.Sound.{AreSound}
use Rattle.unit_tree.specs.Unit.{parsed_of, units_of}
use Rattle.unit_tree.proofs.Soundness.{units_sound}
use Rattle.linked_laws.specs.Kept.{IsWhole}
use Rattle.linked_laws.proofs.Live.{live_whole}
use Rattle.linked_laws.proofs.Whole.{graph_well}
use Rattle.object_view.specs.Analysis.{analysis_of, units_analysed}
use Rattle.object_read.specs.Opened.{opened_of}
use Rattle.object_view.proofs.RawValues.{raw_plain}
use Rattle.object_view.proofs.AfterReading.{in_steps}
use Rattle.object_view.proofs.SoundAnalysis.{analysis_sound}
use Rattle.object_laws.specs.Analysed.{IsAnalysed}
use Rattle.object_laws.proofs.Whole.{analysis_given, parts_are}

-- ---- units

kept_or_fault : {R : Type 0} (entries now : List RawEntry) (f : R → Fault) (o : Option R) → option_map_or (λ r. Err (f r)) o (Ok entries) ≡ Ok now → entries ≡ now
kept_or_fault entries now f None e = ok_is entries now e
kept_or_fault entries now f (Some r) e = absurd cc

resolved_is : (entries now : List RawEntry) (references : List _) → resolved entries references ≡ Ok now → entries ≡ now
unfolding resolved
resolved_is entries now references e = kept_or_fault entries now (λ r. record { kind = kinds.BadReference; section = parts.Info; place = r.place }) _ e

raw_sound : (sections : SectionBytes) (raw : RawUnits) → units_of sections ≡ Ok raw → AreSound raw
unfolding units_of
raw_sound sections raw e =
    let read = bind_ok (parsed_of sections) (λ read. resolved read.1.entries read.1.references >>= λ entries. Ok (record { units = read.0; entries = entries })) raw e in
    let entries = bind_ok (resolved read.0.1.entries read.0.1.references) (λ entries. Ok (record { units = read.0.0; entries = entries })) raw read.2 in
    let sound = units_sound sections read.0.0 read.0.1 read.1 in
    subst AreSound (ok_is (record { units = read.0.0; entries = entries.0 }) raw entries.2)
    (subst (λ (es : List RawEntry). AreSound (record { units = read.0.0; entries = es })) (resolved_is read.0.1.entries entries.0 read.0.1.references entries.1) sound)

-- ---- analyses

sound_analysis : (bytes : List ℕ) (object : MapObject) (cpu : ℕ) (a : Analysis) → length bytes < 2 ^ 32 → AreBytes bytes → analysis_of bytes object cpu ≡ Ok a → IsSound a
sound_analysis bytes object cpu a small are e =
    let o = bind_ok (opened_of bytes cpu) (λ o. units_of o.sections >>= λ raw. units_analysed o (map_of object o.image) raw) a (sym (in_steps bytes object cpu) ∙ e) in
    let raw = bind_ok (units_of o.0.sections) (λ raw. units_analysed o.0 (map_of object o.0.image) raw) a o.2 in
    let sections = parts_are bytes cpu o.0 are o.1 in
    let info = sections.info in
    let few = info.few in
    analysis_sound o.0 (map_of object o.0.image) raw.0 a (raw_sound o.0.sections raw.0 raw.1) (raw_plain o.0.sections raw.0 (omega (arith, few, small)) info.are sections.abbrevs.are raw.1) raw.2

whole : (o : Object) → IsAnalysed o → IsWhole o
whole o h =
    live_whole o (sound_analysis h.bytes h.part h.cpu o.seen h.few h.are h.seen) (analysis_given h.bytes h.part h.cpu o.seen h.few h.are h.seen) h.live

pub linked_well : (objects : List Object) → All IsAnalysed objects → IsWell (linked objects)
linked_well objects all = graph_well objects (λ i o at. whole o (subst IsAnalysed (get_or_from_slice_get objects i o o at) (all i o (slice_get_within objects i o at))))
