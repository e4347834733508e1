-- The header of a line table (DWARF 4 and DWARF 5, section 6.2.4), from the table's first byte.
use Rattle.std.specs.Prelude.{ℕ, ◌+◌, ◌-◌, ◌==◌, ◌||◌, not, [], List, length, nat_lt, nat_le, Result, Ok, if◌then◌else◌}
use Rattle.std.specs.Int.{cast_signed, w8}
use Rattle.ds_base.specs.declared.fault.Fault.{Fault}
use Rattle.ds_base.specs.declared.fault.Kind.TheVariants as kinds
use Rattle.ds_base.specs.declared.fault.Part.TheVariants as parts
use Rattle.ds_base.specs.Spot.{Spot, after, fault_at}
use Rattle.ds_base.specs.Reading.{◌>>=◌, refuse_if, number_at, items_at}
use Rattle.dwarf_types.specs.SectionBytes.{SectionBytes}
use Rattle.line_read.specs.declared.header.LineHeader.{LineHeader}
use Rattle.ds_base.specs.DwarfNumbers.{ADDRESS_SIZE, LENGTH_RESERVED}

-- a place of the section
abbrev pub line_at : List ℕ → ℕ → Spot
line_at bytes place = record { bytes = bytes; part = parts.Line; place = place; end = length bytes }

-- the header of the table that begins at first is wrong
abbrev pub bad : Spot → Fault
bad first = fault_at first kinds.BadLineHeader

-- behind unit_length, from where so many bytes are the table's
unfoldable pub table_at : Spot → Result Spot Fault
table_at first = do
  len ← number_at 4 first
  _ ← refuse_if (nat_le LENGTH_RESERVED len.0 || nat_lt (len.1.end - len.1.place) len.0) (bad first)
  Ok (record len.1 { end = len.1.place + len.0 })

-- the last version of tables that units of a version have: 5 in units of version 5, and 4 in those before
abbrev pub last_version : ℕ → ℕ
last_version unit = if nat_lt unit 5 then 4 else 5

-- the table's own version, where it stands in a unit of a version: 2, that of DWARF 2, is the first
unfoldable pub version_at : ℕ → Spot → Result (ℕ × Spot) Fault
version_at unit s = do
  version ← number_at 2 s
  _ ← refuse_if (nat_lt version.0 2 || nat_lt (last_version unit) version.0) (fault_at s kinds.LineVersion)
  Ok version

-- address_size and segment_selector_size, which version 5 is the first to have
unfoldable pub sizes_at : Spot → ℕ → Spot → Result (Unit {0} × Spot) Fault
sizes_at first version s =
    if nat_le 5 version then
    (number_at 1 s >>= λ address_size. refuse_if (not (address_size.0 == ADDRESS_SIZE)) (bad first) >>= λ _.
    number_at 1 address_size.1 >>= λ selector_size. refuse_if (not (selector_size.0 == 0)) (bad first) >>= λ _. Ok (tt, selector_size.1))
    else Ok (tt, s)

-- where the program begins, which header_length tells from behind itself
unfoldable pub program_at : Spot → Spot → Result (Spot × Spot) Fault
program_at first s = do
  len ← number_at 4 s
  _ ← refuse_if (nat_lt (len.1.end - len.1.place) len.0) (bad first)
  Ok (after len.1 len.0, len.1)

-- maximum_operations_per_instruction, which version 4 is the first to have; more than one, as machines with long instruction words have it, is not read
unfoldable pub operations_at : Spot → ℕ → Spot → Result (Unit {0} × Spot) Fault
operations_at first version s =
    if nat_le 4 version then
    (number_at 1 s >>= λ most. refuse_if (nat_lt 1 most.0) (fault_at first kinds.VliwLine) >>= λ _. Ok (tt, most.1))
    else Ok (tt, s)

-- the fields from minimum_instruction_length to standard_opcode_lengths
unfoldable pub fields_at : Spot → ℕ → Spot → Result (LineHeader × Spot) Fault
fields_at first version s = do
  shortest ← number_at 1 s
  behind ← operations_at first version shortest.1
  is_stmt ← number_at 1 behind.1
  line_base ← number_at 1 is_stmt.1
  line_range ← number_at 1 line_base.1
  _ ← refuse_if (line_range.0 == 0) (bad first)
  opcode_base ← number_at 1 line_range.1
  _ ← refuse_if (opcode_base.0 == 0) (bad first)
  lengths ← items_at (number_at 1) (opcode_base.0 - 1) [] opcode_base.1
  Ok (
    record {
      version = version;
      minimum_instruction_length = shortest.0;
      default_is_stmt = not (is_stmt.0 == 0);
      line_base = cast_signed w8 line_base.0;
      line_range = line_range.0;
      opcode_base = opcode_base.0;
      standard_opcode_lengths = lengths.0;
    },
    lengths.1,
  )

-- the version of the table at a place of the section, of a unit of a version
abbrev pub version_of : SectionBytes → ℕ → ℕ → Result ℕ Fault
version_of sections unit offset = do
  s ← table_at (line_at sections.line offset)
  version ← version_at unit s
  Ok version.0
