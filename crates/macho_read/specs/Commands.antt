-- The load commands of a file (mach-o/loader.h): each with its bytes, in order, and what is kept of them.
use Rattle.std.specs.Prelude.{◌≡◌, ℕ, zero, suc, ◌+◌, ◌*◌, ◌≤◌, ◌==◌, ◌||◌, ◌&&◌, not, Bool, false, List, [], ◌∷◌, ◌++◌, length, map, take, drop, Some, None, Result, Ok, nat_lt, if◌then◌else◌}
use Rattle.std.specs.List.{range_with_len}
use Rattle.std.specs.Option.{option_or}
use Rattle.ds_base.specs.declared.fault.Fault.{Fault}
use Rattle.ds_base.specs.declared.fault.Kind.TheVariants as kinds
use Rattle.ds_base.specs.declared.fault.Part.TheVariants as parts
use Rattle.ds_base.specs.MachONumbers.{LC_SEGMENT_64, LC_SYMTAB, LC_UUID, MACH_HEADER_64_SIZE, SEGMENT_COMMAND_64_SIZE, SECTION_64_SIZE, SYMTAB_COMMAND_SIZE, UUID_COMMAND_SIZE, SEG_DWARF}
use Rattle.ds_base.specs.Reading.{◌>>=◌, refuse_if}
use Rattle.macho_read.specs.declared.header.Header.{Header}
use Rattle.macho_read.specs.declared.image.Section.{Section}
use Rattle.macho_read.specs.declared.commands.Commands.{Commands}
use Rattle.macho_read.specs.Fields.{number_of, name_of, is_named}
use Rattle.macho_read.specs.Records.{segment_of, section_of, symtab_of, uuid_of}

-- the greatest place behind the last address of a segment
abbrev pub last_end : ℕ
last_end = 0xfffffffe00000000

-- the command at a place of the file
abbrev pub bad_command : ℕ → Fault
bad_command place = record { kind = kinds.BadCommand; section = parts.Commands; place = place }

abbrev pub nsects_of : List ℕ → ℕ
nsects_of command = number_of 4 64 command

-- a segment command is too small for its sections, or its addresses are too great
unfoldable pub is_bad_segment : List ℕ → Bool
is_bad_segment command =
    nat_lt (length command) SEGMENT_COMMAND_64_SIZE
    || (nat_lt (length command) (SEGMENT_COMMAND_64_SIZE + SECTION_64_SIZE * nsects_of command)
    || (not (is_named SEG_DWARF (name_of 8 command)) && nat_lt last_end (number_of 8 24 command + number_of 8 32 command)))

-- a command is too small for what it holds, or is such a segment
unfoldable pub is_bad : List ℕ → Bool
is_bad command =
    if number_of 4 0 command == LC_SEGMENT_64 then is_bad_segment command
    else if number_of 4 0 command == LC_SYMTAB then nat_lt (length command) SYMTAB_COMMAND_SIZE
    else if number_of 4 0 command == LC_UUID then nat_lt (length command) UUID_COMMAND_SIZE
    else false

-- a command with all that it holds
abbrev pub IsWhole : List ℕ → Type 0
IsWhole command = (8 ≤ length command) × (is_bad command ≡ false)

-- the command that an area begins with; the area begins at a place of the file
unfoldable pub command_at : ℕ → List ℕ → Result (List ℕ) Fault
command_at place area = do
  _ ← refuse_if (nat_lt (length area) 8) (bad_command place)
  _ ← refuse_if (nat_lt (number_of 4 4 area) 8 || nat_lt (length area) (number_of 4 4 area)) (bad_command place)
  _ ← refuse_if (is_bad (take (number_of 4 4 area) area)) (bad_command place)
  Ok (take (number_of 4 4 area) area)

-- so many commands, one after the other
unfoldable pub commands_of : ℕ → ℕ → List ℕ → Result (List (List ℕ)) Fault
commands_of zero place area = Ok []
commands_of (suc count) place area = do
  command ← command_at place area
  others ← commands_of count (place + length command) (drop (length command) area)
  Ok (command ∷ others)

-- the bytes of all commands
abbrev pub area_of : Header → List ℕ → List ℕ
area_of header bytes = take header.sizeofcmds (drop MACH_HEADER_64_SIZE bytes)

-- the section records behind a segment command's fixed fields
abbrev pub sections_of : List ℕ → List Section
sections_of command = map (λ i. section_of (drop (SEGMENT_COMMAND_64_SIZE + SECTION_64_SIZE * i) command)) (range_with_len 0 (nsects_of command))

abbrev pub nothing : Commands
nothing = record { uuid = None; symtab = None; segments = []; sections = [] }

-- what is kept of one command
unfoldable pub what_is_in : List ℕ → Commands
what_is_in command =
    if number_of 4 0 command == LC_SEGMENT_64 then record nothing { segments = segment_of command ∷ []; sections = sections_of command }
    else if number_of 4 0 command == LC_SYMTAB then record nothing { symtab = Some (symtab_of command) }
    else if number_of 4 0 command == LC_UUID then record nothing { uuid = Some (uuid_of command) }
    else nothing

-- of two, the first UUID and the first symbol table, and all segments and sections
abbrev pub joined : Commands → Commands → Commands
joined a b =
    record {
      uuid = option_or a.uuid b.uuid;
      symtab = option_or a.symtab b.symtab;
      segments = a.segments ++ b.segments;
      sections = a.sections ++ b.sections;
    }

-- what is kept of all
abbrev pub gathered : List (List ℕ) → Commands
gathered [] = nothing
gathered (command ∷ others) = joined (what_is_in command) (gathered others)

abbrev pub gathered_of : Result (List (List ℕ)) Fault → Result Commands Fault
gathered_of commands = commands >>= λ cs. Ok (gathered cs)
