-- The file of an object with one unit (mach-o/loader.h, mach-o/reloc.h, mach-o/nlist.h): a header, one segment with its sections, a symbol table, the bytes of the debug sections, the relocations, the symbols, and their strings.
use Rattle.std.specs.Prelude.{ℕ, ◌+◌, ◌*◌, ◌^◌, ◌==◌, false, List, [], ◌∷◌, ◌++◌, length, map, if◌then◌else◌}
use Rattle.std.specs.List.{flat_map}
use Rattle.std.specs.Option.{option_map_or}
use Rattle.ds_base.specs.declared.fault.Part.{Part}
use Rattle.ds_base.specs.declared.fault.Part.TheVariants as parts
use Rattle.ds_base.specs.MachONumbers.{MACH_HEADER_64_SIZE, MH_OBJECT, RELOCATION_INFO_SIZE, RELOC_LENGTH_8, SECTION_64_SIZE, SECT_TEXT, SEGMENT_COMMAND_64_SIZE, SEG_TEXT, SYMTAB_COMMAND_SIZE, VM_PROT_EXECUTE, VM_PROT_READ, VM_PROT_WRITE}
use Rattle.dsym_write.specs.Bundle.{contents, dwarf_section}
use Rattle.dwarf_types.specs.declared.graph.Graph.{Graph}
use Rattle.dwarf_types.specs.declared.graph.OutUnit.{OutUnit}
use Rattle.dwarf_types.specs.declared.graph.Written.{Written}
use Rattle.dwarf_types.specs.declared.lines.OutLines.{OutLines}
use Rattle.dwarf_types.specs.declared.lines.Sequence.{Sequence}
use Rattle.dwarf_types.specs.Encode.{encode}
use Rattle.dwarf_types.specs.LineProgram.{sequence_bytes}
use Rattle.dwarf_types.specs.LineTable.{fields_bytes, version_bytes}
use Rattle.macho_read.specs.declared.image.Section.{Section}
use Rattle.macho_read.specs.declared.image.Segment.{Segment}
use Rattle.macho_read.specs.Fields.{before_zero}
use Rattle.macho_read.specs.ImageSpelling.{File, LoadCommand, SegmentCommand, commands_bytes, header_fields}
use Rattle.macho_read.specs.Spelling.{spelled}
use Rattle.macho_write.specs.Records.{symbol_table}
use Rattle.macho_write.specs.SymbolTable.{strings_bytes, symbols_bytes, with_places}
use Rattle.reloc_table.specs.declared.relocation.Reloc.{Reloc}
use Rattle.sample_objects.specs.declared.places.Places.{Places}
use Rattle.sample_objects.specs.declared.spec.ObjectSpec.{ObjectSpec}

-- ---- the debug sections

-- the graph of one unit
abbrev pub graph_of : OutUnit → Graph
graph_of unit = record { units = unit ∷ []; frames = [] }

-- its sections
unfoldable pub sections_in : Graph → List Written
sections_in graph = encode graph

abbrev pub sections_of : ObjectSpec → List Written
sections_of spec = sections_in (graph_of spec.unit)

-- the parts of sections, each with its size in bytes
abbrev pub sized_of : List Written → List (Part × ℕ)
sized_of sections = map (λ s. (s.part, length s.bytes)) sections

-- ---- relocations

-- the bit of r_extern
abbrev pub extern_bit : Reloc → ℕ
extern_bit r = if r.outer then 2 ^ 27 else 0

-- r_address, and r_symbolnum in 24 bits, r_pcrel, which is 0, r_length in two bits, r_extern and r_type, which is 0
abbrev pub reloc_fields : Reloc → List (ℕ × ℕ)
reloc_fields r = (4, r.place) ∷ (4, r.symbol + RELOC_LENGTH_8 * 2 ^ 25 + extern_bit r) ∷ []

abbrev pub relocs_bytes : List Reloc → List ℕ
relocs_bytes relocs = flat_map (λ r. spelled (reloc_fields r)) relocs

-- where the operand of each set_address of a line table stands, if the first sequence stands at a place: behind the code of an extended operation, its length, and its own code, each in a byte
abbrev pub operand_places : ℕ → List Sequence → List ℕ
operand_places at [] = []
operand_places at (s ∷ sequences) = (at + 3) ∷ operand_places (at + length (sequence_bytes s)) sequences

-- the sequences stand behind unit_length, the version, header_length, and the fields that it counts, whose length depends on no place of a text
abbrev pub operands_of : ℕ → OutLines → List ℕ
operands_of version lines = operand_places (8 + length (version_bytes version) + length (fields_bytes version (λ text. 0) lines)) lines.sequences

-- an address of the section of the code, which is section 1
abbrev pub counts_from_text : ℕ → Reloc
counts_from_text place = record { place = place; symbol = 1; outer = false }

-- the relocations of the line table of a unit, if it has one
abbrev pub line_relocs : OutUnit → List Reloc
line_relocs unit = map counts_from_text (option_map_or (operands_of unit.version) unit.lines [])

-- ---- where the parts stand

-- the segment with its sections, `__text` among them, and the symbol table
abbrev pub commands_len : ℕ → ℕ
commands_len sections = SEGMENT_COMMAND_64_SIZE + SECTION_64_SIZE * (1 + sections) + SYMTAB_COMMAND_SIZE

-- each part behind the one before it
abbrev pub contents_place : ObjectSpec → ℕ
contents_place spec = MACH_HEADER_64_SIZE + commands_len (length (sections_of spec))

abbrev pub relocs_place : ObjectSpec → ℕ
relocs_place spec = contents_place spec + length (contents (sections_of spec))

abbrev pub line_relocs_place : ObjectSpec → ℕ
line_relocs_place spec = relocs_place spec + RELOCATION_INFO_SIZE * length spec.relocs

abbrev pub symbols_place : ObjectSpec → ℕ
symbols_place spec = line_relocs_place spec + RELOCATION_INFO_SIZE * length (line_relocs spec.unit)

-- a place of relocations, or 0 where there is none
abbrev pub place_of_some : ℕ → ℕ → ℕ
place_of_some place count = if count == 0 then 0 else place

abbrev pub places_of : ObjectSpec → Places
places_of spec =
    record {
      commands = commands_len (length (sections_of spec));
      sections = length (sections_of spec);
      offset = contents_place spec;
      contents = length (contents (sections_of spec));
      reloff = place_of_some (relocs_place spec) (length spec.relocs);
      nreloc = length spec.relocs;
      line_reloff = place_of_some (line_relocs_place spec) (length (line_relocs spec.unit));
      line_nreloc = length (line_relocs spec.unit);
      symoff = symbols_place spec;
      nsyms = length spec.symbols;
      strsize = length (strings_bytes spec.symbols);
    }

-- ---- sections

-- the section of the code, none of which is in the file
abbrev pub text_section : Section
text_section =
    record {
      name = before_zero SECT_TEXT;
      segment = before_zero SEG_TEXT;
      addr = 0;
      size = 0x10000;
      offset = 0;
      align = 0;
      reloff = 0;
      nreloc = 0;
      flags = 0;
      reserved1 = 0;
      reserved2 = 0;
      reserved3 = 0;
    }

-- where the relocations of a part stand, and how many there are: `__debug_info` and `__debug_line` alone have some
abbrev pub reloff_in : Places → Part → ℕ
reloff_in places parts.Info = places.reloff
reloff_in places parts.Line = places.line_reloff
reloff_in places _ = 0

abbrev pub nreloc_in : Places → Part → ℕ
nreloc_in places parts.Info = places.nreloc
nreloc_in places parts.Line = places.line_nreloc
nreloc_in places _ = 0

-- the section of a part of a size, whose bytes stand at an offset of the file
abbrev pub debug_section : Places → ℕ → Part → ℕ → Section
debug_section places offset part size = record (dwarf_section 0 offset part size) { reloff = reloff_in places part; nreloc = nreloc_in places part }

-- parts that follow one another, each with its size, the first at an offset of the file
abbrev pub debug_sections : Places → ℕ → List (Part × ℕ) → List Section
debug_sections places offset [] = []
debug_sections places offset (s ∷ sized) = debug_section places offset s.0 s.1 ∷ debug_sections places (offset + s.1) sized

-- ---- the file

-- reading, writing and running
abbrev pub all_protections : ℕ
all_protections = VM_PROT_READ + VM_PROT_WRITE + VM_PROT_EXECUTE

-- one segment without a name
abbrev pub segment_of : Places → Segment
segment_of places = record { name = []; vmaddr = 0; vmsize = places.contents; maxprot = all_protections; initprot = all_protections; flags = 0; sections = 1 + places.sections }

-- which has all sections
abbrev pub segment_command : Places → List (Part × ℕ) → LoadCommand
segment_command places sized = SegmentCommand (segment_of places) places.offset places.contents (text_section ∷ debug_sections places places.offset sized) []

abbrev pub symtab_command : Places → LoadCommand
symtab_command places = symbol_table places.symoff places.nsyms places.strsize

abbrev pub file_of : ObjectSpec → File
file_of spec =
    record {
      cpu = spec.cpu;
      sub = 0;
      filetype = MH_OBJECT;
      flags = 0;
      reserved = 0;
      commands = segment_command (places_of spec) (sized_of (sections_of spec)) ∷ symtab_command (places_of spec) ∷ [];
      symbols = with_places 1 spec.symbols;
    }

-- header, commands, debug sections, relocations of the entries and of the line table, symbols, strings
unfoldable pub object_bytes : ObjectSpec → List ℕ
object_bytes spec =
    spelled (header_fields (file_of spec))
    ++ (commands_bytes (file_of spec)
    ++ (contents (sections_of spec)
    ++ (relocs_bytes spec.relocs
    ++ (relocs_bytes (line_relocs spec.unit)
    ++ (symbols_bytes spec.symbols ++ strings_bytes spec.symbols)))))
