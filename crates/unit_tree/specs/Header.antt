-- A unit's header (DWARF 4, section 7.5.1.1; DWARF 5, section 7.5.1), from the place where the unit begins.
use Rattle.std.specs.Prelude.{ℕ, ◌+◌, ◌-◌, ◌==◌, Bool, not, ◌||◌, ◌&&◌, length, nat_lt, Result, Ok, if◌then◌else◌}
use Rattle.ds_base.specs.DwarfNumbers.{DW_UT_compile, LENGTH_RESERVED, UNIT_HEADER_SIZE, UNIT_5_HEADER_SIZE}
use Rattle.ds_base.specs.declared.fault.Fault.{Fault}
use Rattle.ds_base.specs.declared.fault.Kind.TheVariants as kinds
use Rattle.ds_base.specs.declared.fault.Part.TheVariants as parts
use Rattle.ds_base.specs.Spot.{Spot, fault_at}
use Rattle.ds_base.specs.Reading.{◌>>=◌, refuse_if, number_at}
use Rattle.dwarf_types.specs.SectionBytes.{SectionBytes}
use Rattle.unit_tree.specs.declared.header.Header.{Header}
use Rattle.ds_base.specs.DwarfNumbers.{DWARF_4, DWARF_5, ADDRESS_SIZE}

-- so many bytes stand before the first entry of a unit of a version
abbrev pub header_size : ℕ → ℕ
header_size version = if version == DWARF_5 then UNIT_5_HEADER_SIZE else UNIT_HEADER_SIZE

-- a place of the section
abbrev pub info_at : SectionBytes → ℕ → Spot
info_at sections place = record { bytes = sections.info; part = parts.Info; place = place; end = length sections.info }

-- behind the length of the unit that begins at a place, from where so many bytes are the unit's
abbrev pub behind_length : SectionBytes → ℕ → ℕ → Spot
behind_length sections place len = record { bytes = sections.info; part = parts.Info; place = place + 4; end = place + 4 + len }

-- the length is reserved for other formats, or the unit passes the section
abbrev pub is_bad_length : SectionBytes → ℕ → ℕ → Bool
is_bad_length sections place len = not (nat_lt len LENGTH_RESERVED) || nat_lt (length sections.info - (place + 4)) len

-- What follows the version, of a unit that begins at first: in version 4 the place of the abbreviation table and the size of an address.
unfoldable pub fields_4_at : SectionBytes → Spot → Spot → Result (ℕ × Spot) Fault
fields_4_at sections first s = do
  table ← number_at 4 s
  _ ← refuse_if (not (nat_lt table.0 (length sections.abbrev_))) (fault_at s kinds.BadOffset)
  size ← number_at 1 table.1
  _ ← refuse_if (not (size.0 == ADDRESS_SIZE)) (fault_at first kinds.BadUnit)
  Ok (table.0, size.1)

-- in version 5 the unit's type, the size of an address, and the place of the abbreviation table
unfoldable pub fields_5_at : SectionBytes → Spot → Spot → Result (ℕ × Spot) Fault
fields_5_at sections first s = do
  kind ← number_at 1 s
  _ ← refuse_if (not (kind.0 == DW_UT_compile)) (fault_at first kinds.BadUnit)
  size ← number_at 1 kind.1
  _ ← refuse_if (not (size.0 == ADDRESS_SIZE)) (fault_at first kinds.BadUnit)
  table ← number_at 4 size.1
  _ ← refuse_if (not (nat_lt table.0 (length sections.abbrev_))) (fault_at size.1 kinds.BadOffset)
  Ok table

-- what follows the length: the version, and the fields that it has
unfoldable pub fields_at : SectionBytes → Spot → Spot → Result (Header × Spot) Fault
fields_at sections first s = do
  version ← number_at 2 s
  _ ← refuse_if (not (version.0 == DWARF_4) && not (version.0 == DWARF_5)) (fault_at s kinds.UnsupportedVersion)
  table ← if version.0 == DWARF_5 then fields_5_at sections first version.1 else fields_4_at sections first version.1
  Ok (record { version = version.0; table = table.0; end = s.end }, table.1)

-- what the header says, and the spot behind it
unfoldable pub header_at : SectionBytes → ℕ → Result (Header × Spot) Fault
header_at sections place = do
  len ← number_at 4 (info_at sections place)
  _ ← refuse_if (is_bad_length sections place len.0) (fault_at (info_at sections place) kinds.BadUnit)
  fields_at sections (info_at sections place) (behind_length sections place len.0)
