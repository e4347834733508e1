-- The sections of an object that was opened are bytes, as its file is.
use Rattle.std.proofs.Common.{◌≡◌, ℕ, ◌<◌, List, [], Option, Some, None, drop, get_or, Ok, sym, subst}
use Rattle.std.specs.Option.{option_map_or}
use Rattle.ds_base.specs.declared.fault.Part.TheVariants as parts
use Rattle.dwarf_types.specs.SectionBytes.{SectionBytes}
use Rattle.dwarf_types.specs.Spelled.{AreBytes}
use Rattle.dwarf_types.proofs.Readers.{AreBytes-from, IsBytes-drop, IsBytes-take}
use Rattle.macho_read.specs.declared.image.Image.{Image}
use Rattle.macho_read.specs.declared.image.Section.{Section}
use Rattle.object_read.specs.Opened.{Opened, opened_of}
use Rattle.reloc_table.specs.Parts.{sections_in}
use Rattle.reloc_table.specs.Parts.{content_of, section_of}
use Rattle.object_read.proofs.Opening.{opened_is}

abbrev pub AreFileBytes : List ℕ → Type 0
AreFileBytes bytes = (i : ℕ) → get_or bytes i 0 < 256

content_bytes : (bytes : List ℕ) (o : Option Section) → AreFileBytes bytes → AreBytes (option_map_or (content_of bytes) o [])
content_bytes bytes None h = tt
content_bytes bytes (Some section) h = AreBytes-from (content_of bytes section) (IsBytes-take section.size (drop section.offset bytes) (IsBytes-drop section.offset bytes h))

-- an object's sections are those of an image
pub record AreOf (bytes : List ℕ) (sections : SectionBytes) : Type 0 where
  pub image : Image
  pub are : sections ≡ sections_in bytes image.sections

pub sections_are : (bytes : List ℕ) (cpu : ℕ) (o : Opened) → opened_of bytes cpu ≡ Ok o → AreOf bytes o.sections
sections_are bytes cpu o e = record { image = o.image; are = (opened_is bytes cpu o e).are }

pub info_bytes : (bytes : List ℕ) (cpu : ℕ) (o : Opened) → AreFileBytes bytes → opened_of bytes cpu ≡ Ok o → AreBytes o.sections.info
info_bytes bytes cpu o h e =
    let of = sections_are bytes cpu o e in
    subst (λ (s : SectionBytes). AreBytes s.info) (sym of.are) (content_bytes bytes (section_of of.image.sections parts.Info) h)

pub abbrev_bytes : (bytes : List ℕ) (cpu : ℕ) (o : Opened) → AreFileBytes bytes → opened_of bytes cpu ≡ Ok o → AreBytes o.sections.abbrev_
abbrev_bytes bytes cpu o h e =
    let of = sections_are bytes cpu o e in
    subst (λ (s : SectionBytes). AreBytes s.abbrev_) (sym of.are) (content_bytes bytes (section_of of.image.sections parts.Abbrev) h)
