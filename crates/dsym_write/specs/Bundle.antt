-- The image file of a bundle: a Mach-O file of debugging information alone (mach-o/loader.h), with the commands and the symbols of the program for which it stands.
use Rattle.std.specs.Prelude.{◌≡◌, ℕ, ◌+◌, ◌-◌, ◌*◌, ◌/◌, ◌<◌, ◌≤◌, ◌^◌, max, false, List, [], ◌∷◌, ◌++◌, length, replicate, Result, Ok, Err}
use Rattle.std.specs.List.{flat_map}
use Rattle.std.specs.Option.{option_map_or}
use Rattle.ds_base.specs.declared.fault.Part.{Part}
use Rattle.ds_base.specs.declared.fault.Part.TheVariants as parts
use Rattle.ds_base.specs.MachONumbers.{MACH_HEADER_64_SIZE, MH_DSYM, NLIST_64_SIZE, SECT_DEBUG_ABBREV, SECT_DEBUG_ARANGES, SECT_DEBUG_FRAME, SECT_DEBUG_INFO, SECT_DEBUG_LINE, SECT_DEBUG_LINE_STR, SECT_DEBUG_LOC, SECT_DEBUG_LOCLISTS, SECT_DEBUG_RANGES, SECT_DEBUG_RNGLISTS, SECT_DEBUG_STR, SECTION_64_SIZE, SEGMENT_COMMAND_64_SIZE, SEG_DWARF, SYMTAB_COMMAND_SIZE, S_ATTR_DEBUG, UUID_COMMAND_SIZE, VM_PROT_EXECUTE, VM_PROT_READ, VM_PROT_WRITE}
use Rattle.dwarf_types.specs.declared.graph.Graph.{Graph}
use Rattle.dwarf_types.specs.declared.graph.Written.{Written}
use Rattle.dwarf_types.specs.Encode.{encode}
use Rattle.macho_read.specs.declared.image.Image.{Image}
use Rattle.macho_read.specs.declared.image.Section.{Section}
use Rattle.macho_read.specs.declared.image.Segment.{Segment}
use Rattle.macho_read.specs.declared.image.Symbol.{Symbol}
use Rattle.macho_read.specs.Fields.{before_zero}
use Rattle.macho_read.specs.ImageSpelling.{File, LoadCommand, SegmentCommand, commands_bytes, header_fields}
use Rattle.macho_read.specs.Spelling.{spelled}
use Rattle.macho_write.specs.Records.{segment_commands, symbol_table, uuid_command}
use Rattle.macho_write.specs.SymbolTable.{chosen, strings_bytes, symbols_bytes, with_places}
use Rattle.dsym_write.specs.declared.error.WriteError.{WriteError}
use Rattle.dsym_write.specs.declared.error.WriteError.TheVariants as errors

-- ---- symbols

-- those of the program that are not stabs
abbrev pub kept_symbols : Image → List Symbol
kept_symbols program = chosen false program.symbols

-- ---- segment `__DWARF`

-- the next multiple of the size of a page
abbrev pub page_end : ℕ → ℕ
page_end n = (n + 0xfff) / 0x1000 * 0x1000

-- the place behind the last address of the segments
abbrev pub end_of : List Segment → ℕ
end_of [] = 0
end_of (s ∷ segments) = max (s.vmaddr + s.vmsize) (end_of segments)

-- the name of a section that is written
abbrev pub name_of_part : Part → List ℕ
name_of_part parts.Abbrev = before_zero SECT_DEBUG_ABBREV
name_of_part parts.Info = before_zero SECT_DEBUG_INFO
name_of_part parts.Str = before_zero SECT_DEBUG_STR
name_of_part parts.Line = before_zero SECT_DEBUG_LINE
name_of_part parts.LineStr = before_zero SECT_DEBUG_LINE_STR
name_of_part parts.Ranges = before_zero SECT_DEBUG_RANGES
name_of_part parts.Rnglists = before_zero SECT_DEBUG_RNGLISTS
name_of_part parts.Loc = before_zero SECT_DEBUG_LOC
name_of_part parts.Loclists = before_zero SECT_DEBUG_LOCLISTS
name_of_part parts.Aranges = before_zero SECT_DEBUG_ARANGES
name_of_part parts.Frame = before_zero SECT_DEBUG_FRAME
name_of_part _ = []

abbrev pub contents : List Written → List ℕ
contents sections = flat_map (λ s. s.bytes) sections

-- the record of a part of a size, at an address and an offset of the file
abbrev pub dwarf_section : ℕ → ℕ → Part → ℕ → Section
dwarf_section addr offset part size =
    record {
      name = name_of_part part;
      segment = before_zero SEG_DWARF;
      addr = addr;
      size = size;
      offset = offset;
      align = 0;
      reloff = 0;
      nreloc = 0;
      flags = S_ATTR_DEBUG;
      reserved1 = 0;
      reserved2 = 0;
      reserved3 = 0;
    }

-- sections that follow one another, the first at an address and at an offset of the file
abbrev pub dwarf_sections : ℕ → ℕ → List Written → List Section
dwarf_sections addr offset [] = []
dwarf_sections addr offset (s ∷ sections) = dwarf_section addr offset s.part (length s.bytes) ∷ dwarf_sections (addr + length s.bytes) (offset + length s.bytes) sections

-- the segment stands behind those of the program, and its bytes at an offset of the file; it may be read, written and run at most, and is read and written
abbrev pub dwarf_command : Image → ℕ → List Written → LoadCommand
dwarf_command program offset sections =
    SegmentCommand
    (record {
      name = before_zero SEG_DWARF;
      vmaddr = page_end (end_of program.segments);
      vmsize = page_end (length (contents sections));
      maxprot = VM_PROT_READ + VM_PROT_WRITE + VM_PROT_EXECUTE;
      initprot = VM_PROT_READ + VM_PROT_WRITE;
      flags = 0;
      sections = length sections;
    })
    offset (length (contents sections)) (dwarf_sections (page_end (end_of program.segments)) offset sections) []

-- ---- where the parts of the file stand

-- the commands: a UUID if the program has one, the symbol table, the program's segments and `__DWARF`, each segment with its sections
abbrev pub commands_len : Image → List Written → ℕ
commands_len program sections =
    option_map_or (λ uuid. UUID_COMMAND_SIZE) program.uuid 0 + SYMTAB_COMMAND_SIZE
    + SEGMENT_COMMAND_64_SIZE * (length program.segments + 1) + SECTION_64_SIZE * (length program.sections + length sections)

abbrev pub symbols_place : Image → List Written → ℕ
symbols_place program sections = MACH_HEADER_64_SIZE + commands_len program sections

abbrev pub strings_place : Image → List Written → ℕ
strings_place program sections = symbols_place program sections + NLIST_64_SIZE * length (kept_symbols program)

abbrev pub strings_end : Image → List Written → ℕ
strings_end program sections = strings_place program sections + length (strings_bytes (kept_symbols program))

-- the sections begin a page
abbrev pub sections_place : Image → List Written → ℕ
sections_place program sections = page_end (strings_end program sections)

-- ---- the file

abbrev pub symtab_command : Image → List Written → LoadCommand
symtab_command program sections = symbol_table (symbols_place program sections) (length (kept_symbols program)) (length (strings_bytes (kept_symbols program)))

abbrev pub commands_of : Image → List Written → List LoadCommand
commands_of program sections =
    uuid_command program.uuid ++ (symtab_command program sections
    ∷ (segment_commands false program.segments program.sections ++ (dwarf_command program (sections_place program sections) sections ∷ [])))

abbrev pub file_of : Image → List Written → File
file_of program sections =
    record {
      cpu = program.cpu;
      sub = program.sub;
      filetype = MH_DSYM;
      flags = 0;
      reserved = 0;
      commands = commands_of program sections;
      symbols = with_places 1 (kept_symbols program);
    }

-- header, commands, symbols, strings, zeros up to a page, sections
abbrev pub file_bytes : Image → List Written → List ℕ
file_bytes program sections =
    spelled (header_fields (file_of program sections))
    ++ (commands_bytes (file_of program sections)
    ++ (symbols_bytes (kept_symbols program)
    ++ (strings_bytes (kept_symbols program)
    ++ (replicate (sections_place program sections - strings_end program sections) 0
    ++ contents sections))))

-- the image of a program's graph
abbrev pub image_file : Image → Graph → List ℕ
image_file program graph = file_bytes program (encode graph)

-- What writing it behind some bytes answers: these and its own, or its size, where that is 2^32 bytes or more. Memory may be wanted for a smaller one alone.
abbrev pub Writes : List ℕ → Image → Graph → Result (List ℕ) WriteError → Type 0
Writes front program graph (Ok bytes) = (bytes ≡ front ++ image_file program graph) × (length (image_file program graph) < 2 ^ 32)
Writes front program graph (Err (errors.File size)) = (size ≡ length (image_file program graph)) × (2 ^ 32 ≤ size)
Writes front program graph (Err errors.NoMemory) = length (image_file program graph) < 2 ^ 32
