-- Stations between the code and the definitions: the object on which readers stand.
use Rattle.dwarf_types.specs.declared.sections.Sections.{Sections}
use Rattle.dwarf_types.specs.SectionBytes.{bytes_in}
use Rattle.object_read.specs.declared.read.ReadObject.{ReadObject}
use Rattle.object_read.specs.Opened.{Opened}
use Rattle.object_view.specs.declared.view.ObjectView.{ObjectView}

abbrev pub opened_seen : ObjectView → Opened
opened_seen o = record { image = o.image.now; sections = bytes_in o.sections; relocs = o.relocs.now }

-- an object that was read, with the bytes of its sections
abbrev pub opened_with : Sections → ReadObject → Opened
opened_with sections read = record { image = read.image; sections = bytes_in sections; relocs = read.relocs }
