-- A file as its records spell it (mach-o/loader.h, mach-o/nlist.h): a header, load commands, and symbols with their names.
use Rattle.std.specs.Prelude.{◌≡◌, ◌⊎◌, ℕ, ◌+◌, ◌*◌, ◌<◌, ◌≤◌, ◌==◌, false, List, [], ◌∷◌, ◌++◌, length, map, take, drop, Option, Some, None, Ok}
use Rattle.std.specs.List.{flat_map, list_any, AllByRecursion}
use Rattle.ds_base.specs.MachONumbers.{MH_MAGIC_64, CPU_TYPE_X86_64, CPU_TYPE_ARM64, LC_SEGMENT_64, LC_SYMTAB, LC_UUID, NLIST_64_SIZE, SEG_DWARF}
use Rattle.macho_read.specs.declared.commands.Commands.{Commands}
use Rattle.macho_read.specs.declared.image.Image.{Image}
use Rattle.macho_read.specs.declared.image.Segment.{Segment}
use Rattle.macho_read.specs.declared.image.Section.{Section}
use Rattle.macho_read.specs.declared.image.Symbol.{Symbol}
use Rattle.macho_read.specs.declared.records.Symtab.{Symtab}
use Rattle.macho_read.specs.Fields.{is_named}
use Rattle.macho_read.specs.Commands.{joined, last_end, nothing}
use Rattle.macho_read.specs.Image.{image_of}
use Rattle.macho_read.specs.Spelling.{AllFit, Command, IsName, command_bytes, command_fields, padded, section_bytes, section_fields, segment_fields, spelled}

-- ---- load commands

-- a segment with its place and size in the file and its sections, a symbol table's place, a UUID, each with the bytes that follow it in the command; or another command
pub data LoadCommand : Type 0 where
  SegmentCommand : Segment → ℕ → ℕ → List Section → List ℕ → LoadCommand
  SymtabCommand : Symtab → List ℕ → LoadCommand
  UuidCommand : List ℕ → List ℕ → LoadCommand
  OtherCommand : Command → LoadCommand

-- the numbers that say where a symbol table and its strings are
abbrev pub symtab_place : Symtab → List (ℕ × ℕ)
symtab_place t = (4, t.symoff) ∷ (4, t.nsyms) ∷ (4, t.stroff) ∷ (4, t.strsize) ∷ []

-- the command's number and its bytes behind the size
abbrev pub command_of : LoadCommand → Command
command_of (SegmentCommand s fileoff filesize sections more) = record { cmd = LC_SEGMENT_64; body = (padded s.name ++ spelled (segment_fields fileoff filesize s)) ++ (flat_map section_bytes sections ++ more) }
command_of (SymtabCommand t more) = record { cmd = LC_SYMTAB; body = spelled (symtab_place t) ++ more }
command_of (UuidCommand uuid more) = record { cmd = LC_UUID; body = uuid ++ more }
command_of (OtherCommand c) = c

pub record IsSection (s : Section) : Type 0 where
  pub name : IsName s.name
  pub segment : IsName s.segment
  pub fit : AllFit (section_fields s)

pub record IsSegment (s : Segment) (fileoff filesize : ℕ) (sections : List Section) : Type 0 where
  pub name : IsName s.name
  pub fit : AllFit (segment_fields fileoff filesize s)
  pub count : s.sections ≡ length sections
  pub all : AllByRecursion IsSection sections
  -- only `__DWARF` may end higher
  pub end : is_named SEG_DWARF s.name ≡ false → s.vmaddr + s.vmsize ≤ last_end

pub record IsOther (c : Command) : Type 0 where
  pub no_segment : (c.cmd == LC_SEGMENT_64) ≡ false
  pub no_symtab : (c.cmd == LC_SYMTAB) ≡ false
  pub no_uuid : (c.cmd == LC_UUID) ≡ false

abbrev pub Holds : LoadCommand → Type 0
Holds (SegmentCommand s fileoff filesize sections more) = IsSegment s fileoff filesize sections
Holds (SymtabCommand t more) = AllFit (symtab_place t)
Holds (UuidCommand uuid more) = length uuid ≡ 16
Holds (OtherCommand c) = IsOther c

-- its number and size fit their fields, and so does what it holds
pub record IsLoadCommand (c : LoadCommand) : Type 0 where
  pub fits : AllFit (command_fields (command_of c))
  pub holds : Holds c

-- what an image keeps of a command
abbrev pub kept_of : LoadCommand → Commands
kept_of (SegmentCommand s fileoff filesize sections more) = record nothing { segments = s ∷ []; sections = sections }
kept_of (SymtabCommand t more) = record nothing { symtab = Some t }
kept_of (UuidCommand uuid more) = record nothing { uuid = Some uuid }
kept_of (OtherCommand c) = nothing

-- of all commands: the first UUID and the first symbol table, and all segments and sections
abbrev pub kept : List LoadCommand → Commands
kept [] = nothing
kept (c ∷ cs) = joined (kept_of c) (kept cs)

-- ---- symbols

-- a symbol with the place of its name in the strings
abbrev pub nlist_fields : ℕ × Symbol → List (ℕ × ℕ)
nlist_fields s = (4, s.0) ∷ (1, s.1.kind) ∷ (1, s.1.sect) ∷ (2, s.1.desc) ∷ (8, s.1.value) ∷ []

abbrev pub nlist_bytes : ℕ × Symbol → List ℕ
nlist_bytes s = spelled (nlist_fields s)

-- a name stands at a place of the strings, ended by a zero byte
pub record Stands (strings : List ℕ) (place : ℕ) (name : List ℕ) : Type 0 where
  pub more : List ℕ
  pub behind_0 : 0 < place
  pub no_zero : list_any (λ b. b == 0) name ≡ false
  pub is : drop place strings ≡ name ++ 0 ∷ more

-- an empty name may have the place 0
abbrev pub IsNameAt : List ℕ → ℕ → List ℕ → Type 0
IsNameAt strings place name = ((place ≡ 0) × (name ≡ [])) ⊎ Stands strings place name

pub record IsSymbol (strings : List ℕ) (s : ℕ × Symbol) : Type 0 where
  pub fit : AllFit (nlist_fields s)
  pub name : IsNameAt strings s.0 s.1.name

-- the symbols stand one after the other at their place in the file, and their names in the strings
pub record StandsIn (bytes : List ℕ) (t : Symtab) (symbols : List (ℕ × Symbol)) : Type 0 where
  pub more : List ℕ
  pub count : t.nsyms ≡ length symbols
  pub table : t.symoff + NLIST_64_SIZE * t.nsyms ≤ length bytes
  pub strings : t.stroff + t.strsize ≤ length bytes
  pub is : drop t.symoff bytes ≡ flat_map nlist_bytes symbols ++ more
  pub all : AllByRecursion (IsSymbol (take t.strsize (drop t.stroff bytes))) symbols

-- a file without a symbol table has no symbols
abbrev pub AreSymbols : List ℕ → Option Symtab → List (ℕ × Symbol) → Type 0
AreSymbols bytes None symbols = symbols ≡ []
AreSymbols bytes (Some t) symbols = StandsIn bytes t symbols

-- ---- files

pub record File : Type 0 where
  pub cpu : ℕ
  pub sub : ℕ
  pub filetype : ℕ
  pub flags : ℕ
  pub reserved : ℕ
  pub commands : List LoadCommand
  -- each with the place of its name
  pub symbols : List (ℕ × Symbol)

abbrev pub commands_bytes : File → List ℕ
commands_bytes file = flat_map command_bytes (map command_of file.commands)

abbrev pub header_fields : File → List (ℕ × ℕ)
header_fields file =
    (4, MH_MAGIC_64) ∷ (4, file.cpu) ∷ (4, file.sub) ∷ (4, file.filetype) ∷ (4, length file.commands) ∷ (4, length (commands_bytes file)) ∷ (4, file.flags) ∷ (4, file.reserved) ∷ []

-- bytes spell a file: its header, its commands, and its symbols at the place that the first symbol table command tells
pub record SpellsFile (bytes : List ℕ) (file : File) : Type 0 where
  pub more : List ℕ
  pub is : bytes ≡ spelled (header_fields file) ++ (commands_bytes file ++ more)
  pub fit : AllFit (header_fields file)
  pub cpu : (file.cpu ≡ CPU_TYPE_X86_64) ⊎ (file.cpu ≡ CPU_TYPE_ARM64)
  pub commands : AllByRecursion IsLoadCommand file.commands
  pub symbols : AreSymbols bytes (kept file.commands).symtab file.symbols

-- what an image keeps of a file
abbrev pub image_kept : File → Image
image_kept file =
    record {
      cpu = file.cpu;
      sub = file.sub;
      filetype = file.filetype;
      uuid = (kept file.commands).uuid;
      segments = (kept file.commands).segments;
      sections = (kept file.commands).sections;
      symbols = map (λ s. s.1) file.symbols;
    }

-- a file that is spelled by its records is read back
abbrev pub ImagesReadBack : Type 0
ImagesReadBack = (bytes : List ℕ) (file : File) → SpellsFile bytes file → image_of bytes ≡ Ok (image_kept file)
