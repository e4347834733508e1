-- The units of an object (DWARF 4, section 7.5.1; DWARF 5, section 7.5.1), one after the other, and then the references between their entries.
use Rattle.std.specs.Prelude.{ℕ, zero, suc, ◌-◌, ◌^◌, ◌==◌, Bool, not, List, [], ◌∷◌, ◌++◌, length, slice_get, Option, Some, None, Result, Ok, Err, nat_lt, if◌then◌else◌}
use Rattle.std.specs.List.{find, list_all}
use Rattle.std.specs.Option.{option_map_or}
use Rattle.ds_base.specs.DwarfNumbers.{DW_AT_language}
use Rattle.ds_base.specs.declared.fault.Fault.{Fault}
use Rattle.ds_base.specs.declared.fault.Kind.TheVariants as kinds
use Rattle.ds_base.specs.Spot.{Spot, fault_at}
use Rattle.ds_base.specs.Reading.{◌>>=◌, refuse_if, bytes_at}
use Rattle.dwarf_types.specs.declared.abbrev.Abbrev.{Abbrev}
use Rattle.dwarf_types.specs.declared.entry.RawAttr.{RawAttr}
use Rattle.dwarf_types.specs.declared.entry.RawEntry.{RawEntry}
use Rattle.dwarf_types.specs.declared.entry.InUnit.{InUnit}
use Rattle.dwarf_types.specs.declared.entry.RawUnits.{RawUnits}
use Rattle.dwarf_types.specs.SectionBytes.{SectionBytes}
use Rattle.dwarf_types.specs.declared.value.Value.{Value}
use Rattle.dwarf_types.specs.declared.value.Value.TheVariants as values
use Rattle.abbrev_read.specs.Reading.{table_at}
use Rattle.dwarf_types.specs.Forms.{is_flag}
use Rattle.index_tables.specs.declared.bases.Bases.{Bases}
use Rattle.unit_tree.specs.declared.attribute.UnitContext.{UnitContext}
use Rattle.unit_tree.specs.declared.header.Header.{Header}
use Rattle.unit_tree.specs.declared.profile.Profile.{Profile}
use Rattle.unit_tree.specs.declared.profile.Profile.TheVariants.{Input, Output}
use Rattle.unit_tree.specs.Header.{info_at, header_at}
use Rattle.unit_tree.specs.Entry.{Parsed, bases_at, tree_at}
use Rattle.unit_tree.specs.Reference.{resolved}

-- a constant of 16 bits, or 0; a flag is no constant
abbrev pub short_in : Value → ℕ
short_in (values.Number form bits) = if is_flag form then 0 else if nat_lt bits (2 ^ 16) then bits else 0
short_in _ = 0

-- the language of a unit whose root has the attributes
abbrev pub language_of : List RawAttr → ℕ
language_of attrs = option_map_or (λ a. short_in a.value) (find (λ a. a.name == DW_AT_language) attrs) 0

-- the unit of a version whose entries are those from a number on; its root is the first of them, which is there (`tree_at` reads one at least)
abbrev pub unit_from : ℕ → ℕ → List RawEntry → InUnit
unit_from version first entries =
    record { first = first; count = length entries - first; version = version; language = option_map_or (λ e. language_of e.attrs) (slice_get entries first) 0; lines = None }

abbrev pub is_zero : ℕ → Bool
is_zero b = b == 0

-- zero bytes up to the end of the unit that begins at start
unfoldable pub zeros_at : Spot → Spot → Result (Unit {0}) Fault
zeros_at start s = do
  others ← bytes_at (s.end - s.place) s
  refuse_if (not (list_all is_zero others.0)) (fault_at start kinds.BadUnit)

-- a unit of a number that begins at a place, of a version, and the bases of its tables where these are known
abbrev pub context_in : Profile → ℕ → ℕ → ℕ → Option Bases → UnitContext
context_in profile number place version bases = record { profile = profile; unit = number; place = place; version = version; bases = bases }

abbrev pub based : Bases → UnitContext → UnitContext
based bases context = record context { bases = Some bases }

-- What is behind the header of a unit of a context without bases: its tree, and zeros. Its root tells the bases of its tables, and is then read with them.
abbrev pub unit_behind : SectionBytes → UnitContext → Header × Spot → List Abbrev → Parsed → Result ((InUnit × Parsed) × ℕ) Fault
unit_behind sections context header table before = do
  bases ← bases_at (info_at sections context.place) sections context table before header.1
  tree ← tree_at (info_at sections context.place) sections (based bases context) table before header.1
  _ ← zeros_at (info_at sections context.place) tree.1
  Ok ((unit_from context.version (length before.entries) tree.0.entries, tree.0), header.0.end)

-- the unit of a number that begins at a place, with its entries behind those before, and the place behind it
unfoldable pub unit_at : Profile → SectionBytes → ℕ → Parsed → ℕ → Result ((InUnit × Parsed) × ℕ) Fault
unit_at profile sections number before place = do
  header ← header_at sections place
  table ← table_at sections.abbrev_ header.0.table
  unit_behind sections (context_in profile number place header.0.version None) header table before

-- Units up to the section's end. Each takes a byte at least, so a count of more than the bytes that are left never runs out; it would be a fault.
unfoldable pub units_at : Profile → SectionBytes → ℕ → List InUnit → Parsed → ℕ → Result (List InUnit × Parsed) Fault
units_at profile sections zero units before place = Err (fault_at (info_at sections place) kinds.Truncated)
units_at profile sections (suc left) units before place =
    if place == length sections.info then Ok (units, before)
    else (unit_at profile sections (length units) before place >>= λ read. units_at profile sections left (units ++ read.0.0 ∷ []) read.0.1 read.1)

abbrev pub nothing : Parsed
nothing = record { entries = []; references = [] }

-- all units, before it is tried where their references lead
abbrev pub parsed_by : Profile → SectionBytes → Result (List InUnit × Parsed) Fault
parsed_by profile sections = units_at profile sections (suc (length sections.info)) [] nothing 0

-- all units
abbrev pub units_by : Profile → SectionBytes → Result RawUnits Fault
units_by profile sections = do
  read ← parsed_by profile sections
  entries ← resolved read.1.entries read.1.references
  Ok (record { units = read.0; entries = entries })

-- those of an object
abbrev pub parsed_of : SectionBytes → Result (List InUnit × Parsed) Fault
parsed_of = parsed_by Input

unfoldable pub units_of : SectionBytes → Result RawUnits Fault
units_of sections = units_by Input sections

-- those of an image that was written
unfoldable pub written_units_of : SectionBytes → Result RawUnits Fault
written_units_of sections = units_by Output sections
