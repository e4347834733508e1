-- The analysis of an object that was read.
use Rattle.std.proofs.Common.{◌≡◌, ℕ, List, Result, Ok, sym, subst}
use Rattle.std.specs.Prelude.{IfOk}
use Rattle.ds_base.specs.declared.fault.ReadError.{ReadError}
use Rattle.ds_base.specs.Reading.{Gives, ◌>>=◌}
use Rattle.dwarf_types.specs.declared.analysis.Analysis.{Analysis}
use Rattle.dwarf_types.specs.SectionBytes.{SectionBytes}
use Rattle.dwarf_types.specs.Sound.{IsSound}
use Rattle.stab_map.specs.declared.object.MapObject.{MapObject}
use Rattle.addr_map.specs.Ranges.{map_of}
use Rattle.unit_tree.specs.Unit.{units_of}
use Rattle.object_read.specs.declared.read.ReadObject.{ReadObject}
use Rattle.object_read.specs.Opened.{opened_of}
use Rattle.reloc_table.specs.Parts.{sections_in}
use Rattle.object_read.specs.Read.{Read, read_of}
use Rattle.object_read.specs.Seen.{opened_in, read_in}
use Rattle.object_read.specs.Sound.{IsRead, IsReadOf}
use Rattle.object_read.proofs.Reading.{read_steps}
use Rattle.object_view.specs.Analysis.{analysis_of, read_analysed, units_analysed}
use Rattle.object_view.specs.Spelled.{IsOfObject}
use Rattle.object_view.specs.Stages.{analysed}
use Rattle.object_view.proofs.Definitions.{analysed_same, from_both}
use Rattle.object_view.proofs.RawValues.{spelled_plain}
use Rattle.object_view.proofs.SoundAnalysis.{gives_sound}
use Rattle.object_view.proofs.SpelledAnalysis.{gives_spelled}

-- ---- the steps of an analysis, one after the other

-- opened, its units read, and then what these mean
pub in_steps : (bytes : List ℕ) (object : MapObject) (cpu : ℕ)
    → analysis_of bytes object cpu ≡ (opened_of bytes cpu >>= λ o. units_of o.sections >>= λ raw. units_analysed o (map_of object o.image) raw)
unfolding analysis_of read_of
in_steps bytes object cpu = from_both (opened_of bytes cpu) (λ o. units_of o.sections) (λ o raw. record { opened = o; units = raw }) (λ read. read_analysed read object)

-- ---- an object that was read, with the bytes of its sections

-- what a call answers of it
abbrev pub GivesOf : MapObject → ReadObject → SectionBytes → Result Analysis ReadError → Type 0
GivesOf object read sections r = Gives (λ (a : Analysis). a) r (analysed (record { image = read.image; sections = sections; relocs = read.relocs }) (map_of object read.image) read.units)

abbrev pub IsReadWith : ReadObject → SectionBytes → Type 0
IsReadWith read sections = IsRead (record { image = read.image; sections = sections; relocs = read.relocs }) read.units read.numbers

module _ (bytes : List ℕ) (read : ReadObject) (sections : SectionBytes) (are : sections ≡ sections_in bytes read.image.sections) (h : IsReadOf bytes read) where
  pub read_with : IsReadWith read sections
  read_with = subst (IsReadWith read) (sym are) h.sound

  module _ (object : MapObject) (r : Result Analysis ReadError) (gives : GivesOf object read sections r) where
    given : GivesOf object read (sections_in bytes read.image.sections) r
    given = subst (λ (s : SectionBytes). GivesOf object read s r) are gives

    pub read_gives : Gives (λ (a : Analysis). a) r (read_analysed (read_in bytes read) object)
    read_gives = rw (← analysed_same (opened_in bytes read) (map_of object read.image) read.units) given

    pub read_sound : IfOk r IsSound
    read_sound = gives_sound (opened_in bytes read) (map_of object read.image) read.units r h.sound.units (spelled_plain (sections_in bytes read.image.sections) read.units h.sound.spelled) given

    pub read_spelled : (cpu : ℕ) → read_of bytes cpu ≡ Ok (read_in bytes read) → IfOk r (IsOfObject bytes cpu)
    read_spelled cpu e =
        let steps = read_steps bytes cpu (read_in bytes read) e in
        gives_spelled bytes cpu (opened_in bytes read) (map_of object read.image) read.units r steps.0 h.sound.spelled h.sound.inside given

pub analysis_gives : (bytes : List ℕ) (object : MapObject) (cpu : ℕ) (read : Read) (r : Result Analysis ReadError) → read_of bytes cpu ≡ Ok read → Gives (λ (a : Analysis). a) r (read_analysed read object)
    → Gives (λ (a : Analysis). a) r (analysis_of bytes object cpu)
unfolding analysis_of
analysis_gives bytes object cpu read r e gives = rw e gives
