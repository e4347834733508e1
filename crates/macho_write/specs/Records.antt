-- The records of Mach-O files by their numbers, as they are written (mach-o/loader.h).
use Rattle.std.specs.Prelude.{◌≡◌, ℕ, ◌+◌, ◌*◌, Bool, true, false, List, [], ◌∷◌, length, map, Option, if◌then◌else◌}
use Rattle.std.specs.List.{flat_map}
use Rattle.std.specs.Option.{option_map, option_map_or, option_to_list}
use Rattle.byteorder.specs.Endian.{little_bytes}
use Rattle.ds_base.specs.MachONumbers.{MH_MAGIC_64, NLIST_64_SIZE}
use Rattle.macho_read.specs.declared.image.Section.{Section}
use Rattle.macho_read.specs.declared.image.Segment.{Segment}
use Rattle.macho_read.specs.ImageSpelling.{LoadCommand, SegmentCommand, SymtabCommand, UuidCommand, command_of}
use Rattle.macho_read.specs.Kind.{with_sections}
use Rattle.macho_read.specs.Spelling.{command_bytes}
use Rattle.macho_write.specs.declared.records.SectionNumbers.{SectionNumbers}
use Rattle.macho_write.specs.declared.records.SegmentNumbers.{SegmentNumbers}

-- the header of a file with so many commands of a size in all
abbrev pub header_bytes : ℕ → ℕ → ℕ → ℕ → ℕ → List ℕ
header_bytes cpu sub filetype count size = flat_map (little_bytes 4) (MH_MAGIC_64 ∷ cpu ∷ sub ∷ filetype ∷ count ∷ size ∷ 0 ∷ 0 ∷ [])

-- ---- load commands

-- commands one behind the other
abbrev pub commands_text : List LoadCommand → List ℕ
commands_text commands = flat_map command_bytes (map command_of commands)

-- a UUID's, if there is one
abbrev pub uuid_command : Option (List ℕ) → List LoadCommand
uuid_command uuid = option_to_list (option_map (λ bytes. UuidCommand bytes []) uuid)

-- a UUID has 16 bytes
abbrev pub IsUuidLen : Option (List ℕ) → Type 0
IsUuidLen uuid = option_map_or (λ bytes. length bytes) uuid 16 ≡ 16

-- so many symbols at a place of the file, and their strings of a size behind them
abbrev pub symbol_table : ℕ → ℕ → ℕ → LoadCommand
symbol_table place count size = SymtabCommand (record { symoff = place; nsyms = count; stroff = place + NLIST_64_SIZE * count; strsize = size }) []

-- ---- segments and sections by their numbers

-- a segment of a name and these numbers
abbrev pub segment_with : List ℕ → SegmentNumbers → Segment
segment_with name n = record { name = name; vmaddr = n.vmaddr; vmsize = n.vmsize; maxprot = n.maxprot; initprot = n.initprot; flags = n.flags; sections = n.sections }

-- a section of two names and these numbers
abbrev pub section_with : List ℕ → List ℕ → SectionNumbers → Section
section_with name segment n =
    record {
      name = name;
      segment = segment;
      addr = n.addr;
      size = n.size;
      offset = n.offset;
      align = n.align;
      reloff = n.reloff;
      nreloc = n.nreloc;
      flags = n.flags;
      reserved1 = n.reserved1;
      reserved2 = n.reserved2;
      reserved3 = n.reserved3;
    }

-- ---- the segments of an image

-- a section with its places in the file that it was read from, or without them
abbrev pub placed_section : Bool → Section → Section
placed_section placed s = record s { offset = if placed then s.offset else 0; reloff = if placed then s.reloff else 0; nreloc = if placed then s.nreloc else 0 }

abbrev pub placed_sections : Bool → List Section → List Section
placed_sections true sections = sections
placed_sections false sections = map (placed_section false) sections

-- a segment with its own sections, loaded from nothing in the file
abbrev pub segment_command : Bool → Segment × List Section → LoadCommand
segment_command placed s = SegmentCommand s.0 0 0 (placed_sections placed s.1) []

-- each with its own of the sections, which follow one another
abbrev pub segment_commands : Bool → List Segment → List Section → List LoadCommand
segment_commands placed segments sections = map (segment_command placed) (with_sections segments sections)
