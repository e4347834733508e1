-- An object as every reader of its debug sections finds it, or its first fault up to its relocations.
use Rattle.std.specs.Prelude.{ℕ, List, [], Option, Some, None, Result, Ok}
use Rattle.ds_base.specs.declared.fault.Fault.{Fault}
use Rattle.ds_base.specs.declared.fault.Part.{Part}
use Rattle.ds_base.specs.declared.fault.Part.TheVariants as parts
use Rattle.ds_base.specs.Reading.{◌>>=◌}
use Rattle.dwarf_types.specs.SectionBytes.{SectionBytes, bytes_in}
use Rattle.macho_read.specs.declared.image.Image.{Image}
use Rattle.macho_read.specs.declared.image.Section.{Section}
use Rattle.macho_read.specs.declared.kind.Role.TheVariants as roles
use Rattle.macho_read.specs.Image.{image_of}
use Rattle.macho_read.specs.Kind.{kind_of}
use Rattle.reloc_table.specs.declared.relocation.Relocs.{Relocs}
use Rattle.reloc_table.specs.Table.{relocs_of}
use Rattle.object_read.specs.declared.open.DebugRelocs.{DebugRelocs}
use Rattle.object_read.specs.declared.open.OpenObject.{OpenObject}
use Rattle.reloc_table.specs.declared.sections.Compressed.TheVariants as compressed
use Rattle.reloc_table.specs.Parts.{section_of, all_tried, sections_in}

pub record Opened : Type 0 where
  pub image : Image
  pub sections : SectionBytes
  pub relocs : DebugRelocs

abbrev pub opened_seen : OpenObject → Opened
opened_seen o = record { image = o.image; sections = bytes_in o.sections; relocs = o.relocs }

-- ---- relocations

abbrev pub relocs_among : List ℕ → Image → Option Section → Result Relocs Fault
relocs_among bytes image (Some section) = relocs_of bytes image section
relocs_among bytes image None = Ok (record { list = [] })

-- the relocations of a part of the file; a section that is not there has none
abbrev pub part_relocs : List ℕ → Image → Part → Result Relocs Fault
part_relocs bytes image part = relocs_among bytes image (section_of image.sections part)

-- those of all parts in their order; those of a part without addresses are only tried
unfoldable pub relocs_in : List ℕ → Image → Result DebugRelocs Fault
relocs_in bytes image = do
  info ← part_relocs bytes image parts.Info
  _ ← part_relocs bytes image parts.Abbrev
  _ ← part_relocs bytes image parts.Str
  _ ← part_relocs bytes image parts.StrOffs
  addr ← part_relocs bytes image parts.Addr
  line ← part_relocs bytes image parts.Line
  _ ← part_relocs bytes image parts.LineStr
  ranges ← part_relocs bytes image parts.Ranges
  rnglists ← part_relocs bytes image parts.Rnglists
  loc ← part_relocs bytes image parts.Loc
  loclists ← part_relocs bytes image parts.Loclists
  _ ← part_relocs bytes image parts.Aranges
  frame ← part_relocs bytes image parts.Frame
  Ok (record { info = info; addr = addr; line = line; ranges = ranges; rnglists = rnglists; loc = loc; loclists = loclists; frame = frame })

-- ---- the object

-- the object in a file's bytes for a program of a CPU type: its image, its kind, its debug sections in the image's order, their relocations
unfoldable pub opened_of : List ℕ → ℕ → Result Opened Fault
opened_of bytes cpu = do
  image ← image_of bytes
  _ ← kind_of image (roles.Object cpu)
  _ ← all_tried compressed.Tried bytes [] image.sections
  relocs ← relocs_in bytes image
  Ok (record { image = image; sections = sections_in bytes image.sections; relocs = relocs })
