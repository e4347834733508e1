-- Stations between the code and the definitions: an object that was read.
use Rattle.std.specs.Prelude.{ℕ, List}
use Rattle.reloc_table.specs.Parts.{sections_in}
use Rattle.object_read.specs.declared.read.ReadObject.{ReadObject}
use Rattle.object_read.specs.Opened.{Opened}
use Rattle.object_read.specs.Read.{Read}

-- an object that was read of a file's bytes, with the sections in these
abbrev pub opened_in : List ℕ → ReadObject → Opened
opened_in bytes read = record { image = read.image; sections = sections_in bytes read.image.sections; relocs = read.relocs }

abbrev pub read_in : List ℕ → ReadObject → Read
read_in bytes read = record { opened = opened_in bytes read; units = read.units }
