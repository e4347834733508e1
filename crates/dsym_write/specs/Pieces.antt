-- Stations between the code and the definitions: the parts of an image file, as they are written.
use Rattle.std.specs.Prelude.{◌≡◌, ℕ, ◌+◌, ◌*◌, ◌<◌, ◌≤◌, ◌^◌, ◌==◌, false, List, [], ◌∷◌, ◌++◌, length, map, if◌then◌else◌}
use Rattle.std.specs.Option.{option_map_or}
use Rattle.ds_base.specs.declared.fault.Part.{Part}
use Rattle.ds_base.specs.MachONumbers.{LC_SEGMENT_64, MACH_HEADER_64_SIZE, MH_DSYM, NLIST_64_SIZE, SECTION_64_SIZE, SEGMENT_COMMAND_64_SIZE, SEG_DWARF, SYMTAB_COMMAND_SIZE, UUID_COMMAND_SIZE, VM_PROT_ALL, VM_PROT_DEFAULT}
use Rattle.layout.specs.Laid.{Laid, sizes_in}
use Rattle.layout.specs.declared.table.Section.{Section}
use Rattle.layout.specs.declared.table.TheConstants.{SECTIONS}
use Rattle.layout.specs.Lengths.{size_in}
use Rattle.macho_read.specs.declared.image.Image.{Image}
use Rattle.macho_read.specs.declared.image.Segment.{Segment}
use Rattle.macho_read.specs.Commands.{last_end}
use Rattle.macho_read.specs.ImageSpelling.{command_of}
use Rattle.macho_read.specs.Spelling.{command_bytes, padded, section_bytes, segment_fields, spelled}
use Rattle.macho_write.specs.declared.records.SegmentNumbers.{SegmentNumbers}
use Rattle.macho_write.specs.Records.{IsUuidLen, commands_text, header_bytes, segment_commands, segment_with, symbol_table, uuid_command}
use Rattle.macho_write.specs.SymbolTable.{strings_bytes}
use Rattle.dsym_write.specs.declared.error.WriteError.{WriteError}
use Rattle.dsym_write.specs.declared.error.WriteError.TheVariants as errors
use Rattle.dsym_write.specs.declared.places.Places.{Places}
use Rattle.dsym_write.specs.Bundle.{dwarf_section, end_of, kept_symbols, page_end}

-- ---- segment `__DWARF`

-- of a part without bytes nothing is written
abbrev pub sized_bytes : ℕ → ℕ → Part → ℕ → List ℕ
sized_bytes addr offset part size = if size == 0 then [] else section_bytes (dwarf_section addr offset part size)

-- parts that follow one another, each with its size
abbrev pub records_from : ℕ → ℕ → List (Part × ℕ) → List ℕ
records_from addr offset [] = []
records_from addr offset (p ∷ parts) = sized_bytes addr offset p.0 p.1 ++ records_from (addr + p.1) (offset + p.1) parts

abbrev pub with_size : Laid → Section → Part × ℕ
with_size sizes section = (section.part, size_in (sizes_in sizes) section.content)

-- the size of all
abbrev pub total : List (Part × ℕ) → ℕ
total [] = 0
total (p ∷ parts) = p.1 + total parts

-- and how many have bytes
abbrev pub count_of : List (Part × ℕ) → ℕ
count_of [] = 0
count_of (p ∷ parts) = if p.1 == 0 then count_of parts else 1 + count_of parts

abbrev pub sized : Laid → List (Part × ℕ)
sized sizes = map (with_size sizes) SECTIONS

-- ---- places

-- the size of the commands, where `__DWARF` has so many sections
abbrev pub commands_size : Image → ℕ → ℕ
commands_size program sections =
    option_map_or (λ uuid. UUID_COMMAND_SIZE) program.uuid 0 + SYMTAB_COMMAND_SIZE + SEGMENT_COMMAND_64_SIZE * (length program.segments + 1) + SECTION_64_SIZE * (length program.sections + sections)

-- a segment has room above it
abbrev pub HasRoomAbove : Segment → Type 0
HasRoomAbove s = s.vmaddr + s.vmsize ≤ last_end

pub record ArePlaces (program : Image) (sizes : Laid) (p : Places) : Type 0 where
  pub sections : p.sections ≡ count_of (sized sizes)
  pub contents : p.contents ≡ total (sized sizes)
  pub commands : p.commands ≡ commands_size program p.sections
  pub uuid : IsUuidLen program.uuid
  pub symoff : p.symoff ≡ MACH_HEADER_64_SIZE + p.commands
  pub nsyms : p.nsyms ≡ length (kept_symbols program)
  pub stroff : p.stroff ≡ p.symoff + NLIST_64_SIZE * p.nsyms
  pub strsize : p.strsize ≡ length (strings_bytes (kept_symbols program))
  pub offset : p.offset ≡ page_end (p.stroff + p.strsize)
  pub size : p.size ≡ p.offset + p.contents
  pub vmaddr : p.vmaddr ≡ page_end (end_of program.segments)
  -- the sections of a file of less than 2^32 bytes have addresses
  pub above : p.vmaddr ≤ last_end

-- why there is no room for a file of a size: it is 2^32 bytes or more; memory is wanted for a smaller one alone
abbrev pub HasNoRoom : ℕ → WriteError → Type 0
HasNoRoom size (errors.File n) = (n ≡ size) × (2 ^ 32 ≤ size)
HasNoRoom size errors.NoMemory = size < 2 ^ 32

-- ---- parts of the file

-- how many commands there are
abbrev pub commands_count : Image → ℕ
commands_count program = length (uuid_command program.uuid) + 2 + length program.segments

abbrev pub dwarf_numbers : Places → SegmentNumbers
dwarf_numbers p =
    record {
      vmaddr = p.vmaddr;
      vmsize = page_end p.contents;
      fileoff = p.offset;
      filesize = p.contents;
      maxprot = VM_PROT_ALL;
      initprot = VM_PROT_DEFAULT;
      sections = p.sections;
      flags = 0;
    }

-- segment `__DWARF` with the records of its sections
abbrev pub dwarf_with : SegmentNumbers → List ℕ → List ℕ
dwarf_with n records = command_bytes (record { cmd = LC_SEGMENT_64; body = (padded SEG_DWARF ++ spelled (segment_fields n.fileoff n.filesize (segment_with SEG_DWARF n))) ++ records })

abbrev pub dwarf_text : Places → Laid → List ℕ
dwarf_text p sizes = dwarf_with (dwarf_numbers p) (records_from p.vmaddr p.offset (sized sizes))

-- the header and the commands
abbrev pub commands_front : Image → Places → Laid → List ℕ
commands_front program p sizes =
    header_bytes program.cpu program.sub MH_DSYM (commands_count program) p.commands
    ++ (commands_text (uuid_command program.uuid)
    ++ (command_bytes (command_of (symbol_table p.symoff p.nsyms p.strsize))
    ++ (commands_text (segment_commands false program.segments program.sections)
    ++ dwarf_text p sizes)))
