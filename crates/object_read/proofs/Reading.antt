-- What is read of a file's bytes, and what it keeps to.
use Rattle.std.proofs.Common.{◌≡◌, ℕ, List, map, Some, Ok, ap, subst}
use Rattle.ds_base.specs.Reading.{◌>>=◌}
use Rattle.ds_base.proofs.Passing.{bind_ok, ok_is}
use Rattle.dwarf_types.specs.declared.entry.RawUnits.{RawUnits}
use Rattle.dwarf_types.specs.Raw.{places_of}
use Rattle.dwarf_types.specs.SectionBytes.{SectionBytes}
use Rattle.dwarf_types.specs.Spelled.{AreBytes}
use Rattle.macho_read.specs.Sound.{IsSound as IsSoundImage}
use Rattle.unit_tree.specs.Inside.{AreInside}
use Rattle.unit_tree.specs.Sound.{AreSound as AreSoundUnits}
use Rattle.unit_tree.specs.Targets.{number_at, targets_of}
use Rattle.unit_tree.specs.Unit.{units_of}
use Rattle.unit_tree.proofs.UnitLaws.{units_spelled}
use Rattle.object_read.specs.Opened.{Opened, opened_of}
use Rattle.reloc_table.specs.declared.sections.Compressed.TheVariants as compressed
use Rattle.reloc_table.specs.Parts.{sections_in}
use Rattle.object_read.specs.Read.{Read, read_of}
use Rattle.reloc_table.specs.Tried.{AreSmall}
use Rattle.object_read.specs.Sound.{AreSound, IsRead, IsReadOf}
use Rattle.object_read.proofs.FileBytes.{AreFileBytes, abbrev_bytes, info_bytes}
use Rattle.reloc_table.proofs.Inside.{lie_inside}
use Rattle.object_read.proofs.Opening.{opened_is}

-- units as they are read keep to all of it
units_are : (bytes : List ℕ) (cpu : ℕ) (o : Opened) (raw : RawUnits) (numbers : List ℕ) → AreFileBytes bytes → opened_of bytes cpu ≡ Ok o → IsSoundImage o.image → AreSound o.image o.relocs → AreSmall o.sections
    → units_of o.sections ≡ Ok raw → AreSoundUnits raw → (AreBytes o.sections.info → AreBytes o.sections.abbrev_ → AreInside o.sections raw)
    → map Some numbers ≡ map (number_at (places_of raw.entries)) (targets_of raw.entries) → IsRead o raw numbers
units_are bytes cpu o raw numbers file opened image relocs small read sound inside lead =
    let info = info_bytes bytes cpu o file opened in
    let abbrevs = abbrev_bytes bytes cpu o file opened in
    record {
      image = image;
      relocs = relocs;
      small = small;
      units = sound;
      inside = inside info abbrevs;
      spelled = units_spelled o.sections raw small.info info abbrevs read;
      lead = lead;
    }

pub read_so : (bytes : List ℕ) (cpu : ℕ) (o : Opened) (raw : RawUnits) (numbers : List ℕ) → AreFileBytes bytes → opened_of bytes cpu ≡ Ok o → IsSoundImage o.image → AreSound o.image o.relocs → AreSmall o.sections
    → units_of o.sections ≡ Ok raw → AreSoundUnits raw → (AreBytes o.sections.info → AreBytes o.sections.abbrev_ → AreInside o.sections raw)
    → map Some numbers ≡ map (number_at (places_of raw.entries)) (targets_of raw.entries) → IsReadOf bytes (record { image = o.image; relocs = o.relocs; units = raw; numbers = numbers })
read_so bytes cpu o raw numbers file opened image relocs small read sound inside lead =
    let is = opened_is bytes cpu o opened in
    record {
      lie = lie_inside compressed.Tried bytes o.image.sections is.tried;
      sound = subst (λ (s : SectionBytes). IsRead (record { image = o.image; sections = s; relocs = o.relocs }) raw numbers) is.are
          (units_are bytes cpu o raw numbers file opened image relocs small read sound inside lead);
    }

-- an object that was opened, with its units, is what was read
pub read_as : (bytes : List ℕ) (cpu : ℕ) (o : Opened) (raw : RawUnits) → opened_of bytes cpu ≡ Ok o → units_of o.sections ≡ Ok raw
    → read_of bytes cpu ≡ Ok (record { opened = record { image = o.image; sections = sections_in bytes o.image.sections; relocs = o.relocs }; units = raw })
unfolding read_of
read_as bytes cpu o raw opened read =
    rw (opened, read) (ap (λ (s : SectionBytes). Ok (record { opened = record { image = o.image; sections = s; relocs = o.relocs }; units = raw })) (opened_is bytes cpu o opened).are)

-- what was read was opened, and its units are its sections'
pub read_steps : (bytes : List ℕ) (cpu : ℕ) (read : Read) → read_of bytes cpu ≡ Ok read → (opened_of bytes cpu ≡ Ok read.opened) × (units_of read.opened.sections ≡ Ok read.units)
unfolding read_of
read_steps bytes cpu read e =
    let o = bind_ok (opened_of bytes cpu) (λ o. units_of o.sections >>= λ units. Ok (record { opened = o; units = units })) read e in
    let units = bind_ok (units_of o.0.sections) (λ units. Ok (record { opened = o.0; units = units })) read o.2 in
    let made : Read = record { opened = o.0; units = units.0 } in
    subst (λ (r : Read). (opened_of bytes cpu ≡ Ok r.opened) × (units_of r.opened.sections ≡ Ok r.units)) (ok_is made read units.2) (o.1, units.1)
