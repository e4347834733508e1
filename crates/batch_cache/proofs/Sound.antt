-- An analysis of a file's bytes is sound.
use Rattle.std.proofs.Common.{◌≡◌, ◌<◌, ◌≤◌, ◌^◌, ◌∙◌, ℕ, List, [], drop, length, take, Option, Some, None, Ok, Err, subst, sym, arith}
use Rattle.std.specs.Option.{option_map_or}
use Rattle.std.proofs.lemmas.List.{length-drop, length-take}
use Rattle.ds_base.proofs.Passing.{bind_ok, ok_is}
use Rattle.ds_base.specs.declared.fault.Fault.{Fault}
use Rattle.ds_base.specs.declared.fault.Kind.TheVariants as kinds
use Rattle.ds_base.specs.declared.fault.Part.TheVariants as parts
use Rattle.ds_base.specs.Reading.{◌>>=◌}
use Rattle.dwarf_types.specs.declared.analysis.Analysis.{Analysis}
use Rattle.dwarf_types.specs.declared.entry.RawEntry.{RawEntry}
use Rattle.dwarf_types.specs.declared.entry.RawUnits.{RawUnits}
use Rattle.dwarf_types.specs.SectionBytes.{SectionBytes}
use Rattle.dwarf_types.specs.Sound.{IsSound}
use Rattle.macho_read.specs.declared.image.Section.{Section}
use Rattle.stab_map.specs.declared.object.MapObject.{MapObject}
use Rattle.addr_map.specs.Ranges.{map_of}
use Rattle.unit_tree.specs.Reference.{resolved}
use Rattle.unit_tree.specs.Sound.{AreSound}
use Rattle.unit_tree.specs.Unit.{parsed_of, units_of}
use Rattle.unit_tree.proofs.Soundness.{units_sound}
use Rattle.reloc_table.specs.Parts.{content_of, section_of}
use Rattle.object_read.specs.Opened.{Opened, opened_of}
use Rattle.object_read.proofs.FileBytes.{AreFileBytes, abbrev_bytes, info_bytes, sections_are}
use Rattle.object_view.specs.Analysis.{analysis_of, units_analysed}
use Rattle.object_view.proofs.AfterReading.{in_steps}
use Rattle.object_view.proofs.RawValues.{raw_plain}
use Rattle.object_view.proofs.SoundAnalysis.{analysis_sound}

-- ---- units

kept_or_fault : {R : Type 0} (entries now : List RawEntry) (f : R → Fault) (o : Option R) → option_map_or (λ r. Err (f r)) o (Ok entries) ≡ Ok now → entries ≡ now
kept_or_fault entries now f None e = ok_is entries now e
kept_or_fault entries now f (Some r) e = absurd cc

resolved_is : (entries now : List RawEntry) (references : List _) → resolved entries references ≡ Ok now → entries ≡ now
unfolding resolved
resolved_is entries now references e = kept_or_fault entries now (λ r. record { kind = kinds.BadReference; section = parts.Info; place = r.place }) _ e

raw_sound : (sections : SectionBytes) (raw : RawUnits) → units_of sections ≡ Ok raw → AreSound raw
unfolding units_of
raw_sound sections raw e =
    let read = bind_ok (parsed_of sections) (λ read. resolved read.1.entries read.1.references >>= λ entries. Ok (record { units = read.0; entries = entries })) raw e in
    let entries = bind_ok (resolved read.0.1.entries read.0.1.references) (λ entries. Ok (record { units = read.0.0; entries = entries })) raw read.2 in
    let sound = units_sound sections read.0.0 read.0.1 read.1 in
    subst AreSound (ok_is (record { units = read.0.0; entries = entries.0 }) raw entries.2)
    (subst (λ (es : List RawEntry). AreSound (record { units = read.0.0; entries = es })) (resolved_is read.0.1.entries entries.0 read.0.1.references entries.1) sound)

-- ---- analyses

-- a section's content is not longer than its file
content_few : (bytes : List ℕ) (o : Option Section) → length (option_map_or (content_of bytes) o []) ≤ length bytes
content_few bytes None = omega arith
content_few bytes (Some section) =
    let le : length (take section.size (drop section.offset bytes)) ≤ length bytes = omega (arith, length-drop section.offset bytes, length-take section.size (drop section.offset bytes)) in
    le

info_few : (bytes : List ℕ) (cpu : ℕ) (o : Opened) → opened_of bytes cpu ≡ Ok o → length o.sections.info ≤ length bytes
info_few bytes cpu o e =
    let of = sections_are bytes cpu o e in
    subst (λ (s : SectionBytes). length s.info ≤ length bytes) (sym of.are) (content_few bytes (section_of of.image.sections parts.Info))

pub sound_analysis : (bytes : List ℕ) (object : MapObject) (cpu : ℕ) (a : Analysis) → length bytes < 2 ^ 32 → AreFileBytes bytes → analysis_of bytes object cpu ≡ Ok a → IsSound a
sound_analysis bytes object cpu a small are e =
    let o = bind_ok (opened_of bytes cpu) (λ o. units_of o.sections >>= λ raw. units_analysed o (map_of object o.image) raw) a (sym (in_steps bytes object cpu) ∙ e) in
    let raw = bind_ok (units_of o.0.sections) (λ raw. units_analysed o.0 (map_of object o.0.image) raw) a o.2 in
    let few = info_few bytes cpu o.0 o.1 in
    analysis_sound o.0 (map_of object o.0.image) raw.0 a (raw_sound o.0.sections raw.0 raw.1)
    (raw_plain o.0.sections raw.0 (omega (arith, few, small)) (info_bytes bytes cpu o.0 are o.1) (abbrev_bytes bytes cpu o.0 are o.1) raw.1) raw.2
