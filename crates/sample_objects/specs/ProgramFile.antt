-- The file of a linked program (mach-o/loader.h, mach-o/nlist.h), as an image says it: a header, a UUID if the image has one, the segments with the records of their sections, a symbol table, the symbols, and their strings. What the segments are loaded from is not in the file.
use Rattle.std.specs.Prelude.{◌≡◌, ◌⊎◌, ℕ, ◌+◌, ◌<◌, ◌^◌, true, List, [], ◌∷◌, ◌++◌, length, Ok}
use Rattle.std.specs.List.{AllByRecursion, sum_by}
use Rattle.ds_base.specs.MachONumbers.{CPU_TYPE_ARM64, CPU_TYPE_X86_64, MACH_HEADER_64_SIZE, SYMTAB_COMMAND_SIZE}
use Rattle.macho_read.specs.declared.image.Image.{Image}
use Rattle.macho_read.specs.declared.image.Symbol.{Symbol}
use Rattle.macho_read.specs.Image.{image_of}
use Rattle.macho_read.specs.ImageSpelling.{File, IsSegment, LoadCommand, commands_bytes, header_fields, nlist_fields}
use Rattle.macho_read.specs.Kind.{with_sections}
use Rattle.macho_read.specs.Sound.{IsSoundSymbol}
use Rattle.macho_read.specs.Spelling.{AllFit, spelled}
use Rattle.macho_write.specs.Records.{IsUuidLen, commands_text, segment_commands, symbol_table, uuid_command}
use Rattle.macho_write.specs.SymbolTable.{strings_bytes, symbols_bytes, with_places}

-- ---- load commands

-- all but the symbol table's
abbrev pub first_commands : Image → List LoadCommand
first_commands image = uuid_command image.uuid ++ segment_commands true image.segments image.sections

abbrev pub commands_len : Image → ℕ
commands_len image = length (commands_text (first_commands image)) + SYMTAB_COMMAND_SIZE

-- the symbols stand behind the commands
abbrev pub symbols_place : Image → ℕ
symbols_place image = MACH_HEADER_64_SIZE + commands_len image

abbrev pub symtab_command : Image → LoadCommand
symtab_command image = symbol_table (symbols_place image) (length image.symbols) (length (strings_bytes image.symbols))

abbrev pub commands_of : Image → List LoadCommand
commands_of image = first_commands image ++ symtab_command image ∷ []

-- ---- the file

abbrev pub file_of : Image → File
file_of image =
    record {
      cpu = image.cpu;
      sub = image.sub;
      filetype = image.filetype;
      flags = 0;
      reserved = 0;
      commands = commands_of image;
      symbols = with_places 1 image.symbols;
    }

-- header, commands, symbols, strings
unfoldable pub program_bytes : Image → List ℕ
program_bytes image = spelled (header_fields (file_of image)) ++ (commands_bytes (file_of image) ++ (symbols_bytes image.symbols ++ strings_bytes image.symbols))

-- ---- what is read of the file

-- the numbers of a symbol fit their fields, and its name has no zero byte
pub record SymbolFits (s : Symbol) : Type 0 where
  pub numbers : AllFit (nlist_fields (0, s))
  pub name : IsSoundSymbol s

-- what an image says fits its fields, and offsets in its file have 32 bits
pub record FitsFile (image : Image) : Type 0 where
  pub cpu : (image.cpu ≡ CPU_TYPE_X86_64) ⊎ (image.cpu ≡ CPU_TYPE_ARM64)
  pub header : AllFit ((4, image.sub) ∷ (4, image.filetype) ∷ [])
  pub uuid : IsUuidLen image.uuid
  -- the sections are those of the segments, one segment after the other
  pub counts : sum_by (λ s. s.sections) image.segments ≡ length image.sections
  pub segments : AllByRecursion (λ s. IsSegment s.0 0 0 s.1) (with_sections image.segments image.sections)
  pub symbols : AllByRecursion SymbolFits image.symbols
  pub small : length (program_bytes image) < 2 ^ 32

-- the file of an image is read as that image
abbrev pub ProgramsReadBack : Type 0
ProgramsReadBack = (image : Image) → FitsFile image → image_of (program_bytes image) ≡ Ok image
