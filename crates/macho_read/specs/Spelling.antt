-- The records as they are spelled (mach-o/loader.h, mach-o/nlist.h).
use Rattle.std.specs.Prelude.{◌≡◌, ℕ, ◌+◌, ◌-◌, ◌^◌, ◌<◌, ◌≤◌, ◌==◌, false, List, [], ◌∷◌, ◌++◌, length, replicate, Ok, map}
use Rattle.std.specs.List.{flat_map, list_any, AllByRecursion}
use Rattle.byteorder.specs.Endian.{little_bytes}
use Rattle.ds_base.specs.MachONumbers.{LC_SEGMENT_64, LC_SYMTAB, SYMTAB_COMMAND_SIZE}
use Rattle.macho_read.specs.declared.image.Segment.{Segment}
use Rattle.macho_read.specs.declared.image.Section.{Section}
use Rattle.macho_read.specs.declared.records.Symtab.{Symtab}
use Rattle.macho_read.specs.Records.{segment_of, section_of, symtab_of}
use Rattle.macho_read.specs.Commands.{commands_of, is_bad}

-- numbers, each with how many bytes it has, one after the other, each with its lowest byte first
abbrev pub spelled : List (ℕ × ℕ) → List ℕ
spelled [] = []
spelled (field ∷ fields) = little_bytes field.0 field.1 ++ spelled fields

-- each fits its bytes
abbrev pub AllFit : List (ℕ × ℕ) → Type 0
AllFit fields = AllByRecursion (λ field. field.1 < 256 ^ field.0) fields

-- a name in 16 bytes, padded with zeros
abbrev pub padded : List ℕ → List ℕ
padded name = name ++ replicate (16 - length name) 0

pub record IsName (name : List ℕ) : Type 0 where
  pub len : length name ≤ 16
  pub no_zero : list_any (λ b. b == 0) name ≡ false

-- the numbers of a segment command behind its name
abbrev pub segment_fields : ℕ → ℕ → Segment → List (ℕ × ℕ)
segment_fields fileoff filesize s = (8, s.vmaddr) ∷ (8, s.vmsize) ∷ (8, fileoff) ∷ (8, filesize) ∷ (4, s.maxprot) ∷ (4, s.initprot) ∷ (4, s.sections) ∷ (4, s.flags) ∷ []

abbrev pub segment_bytes : ℕ → ℕ → ℕ → Segment → List ℕ
segment_bytes cmdsize fileoff filesize s = (spelled ((4, LC_SEGMENT_64) ∷ (4, cmdsize) ∷ []) ++ padded s.name) ++ spelled (segment_fields fileoff filesize s)

-- the numbers of a section record behind its names
abbrev pub section_fields : Section → List (ℕ × ℕ)
section_fields s =
    (8, s.addr) ∷ (8, s.size) ∷ (4, s.offset) ∷ (4, s.align) ∷ (4, s.reloff) ∷ (4, s.nreloc) ∷ (4, s.flags) ∷ (4, s.reserved1) ∷ (4, s.reserved2) ∷ (4, s.reserved3) ∷ []

abbrev pub section_bytes : Section → List ℕ
section_bytes s = (padded s.name ++ padded s.segment) ++ spelled (section_fields s)

abbrev pub symtab_fields : Symtab → List (ℕ × ℕ)
symtab_fields t = (4, LC_SYMTAB) ∷ (4, SYMTAB_COMMAND_SIZE) ∷ (4, t.symoff) ∷ (4, t.nsyms) ∷ (4, t.stroff) ∷ (4, t.strsize) ∷ []

-- a segment command, a section record and a symbol table command are read back, whatever follows them
pub record RecordsReadBack : Type 0 where
  pub segment : (s : Segment) (cmdsize fileoff filesize : ℕ) (more : List ℕ) → IsName s.name → AllFit (segment_fields fileoff filesize s)
      → segment_of (segment_bytes cmdsize fileoff filesize s ++ more) ≡ s
  pub section : (s : Section) (more : List ℕ) → IsName s.name → IsName s.segment → AllFit (section_fields s) → section_of (section_bytes s ++ more) ≡ s
  pub symtab : (t : Symtab) (more : List ℕ) → AllFit (symtab_fields t) → symtab_of (spelled (symtab_fields t) ++ more) ≡ t

-- a load command: its number, and its bytes behind the size
pub record Command : Type 0 where
  pub cmd : ℕ
  pub body : List ℕ

abbrev pub command_fields : Command → List (ℕ × ℕ)
command_fields c = (4, c.cmd) ∷ (4, 8 + length c.body) ∷ []

abbrev pub command_bytes : Command → List ℕ
command_bytes c = spelled (command_fields c) ++ c.body

pub record IsCommand (c : Command) : Type 0 where
  pub fits : AllFit (command_fields c)
  pub whole : is_bad (command_bytes c) ≡ false

-- commands that follow one another are read back
abbrev pub CommandsReadBack : Type 0
CommandsReadBack = (cs : List Command) (place : ℕ) → AllByRecursion IsCommand cs → commands_of (length cs) place (flat_map command_bytes cs) ≡ Ok (map command_bytes cs)
