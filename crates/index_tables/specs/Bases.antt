-- The bases of a unit (DWARF 5, section 3.1.1): where the tables begin to which the indices of its values lead.
use Rattle.std.specs.Prelude.{ℕ, ◌==◌, List, if◌then◌else◌}
use Rattle.std.specs.List.{find}
use Rattle.std.specs.Option.{option_map_or}
use Rattle.ds_base.specs.DwarfNumbers.{DW_AT_str_offsets_base, DW_AT_addr_base, DW_AT_rnglists_base, DW_AT_loclists_base, DW_FORM_sec_offset}
use Rattle.dwarf_types.specs.declared.entry.RawAttr.{RawAttr}
use Rattle.dwarf_types.specs.declared.value.Value.{Value}
use Rattle.dwarf_types.specs.declared.value.Value.TheVariants as values
use Rattle.dwarf_types.specs.Forms.{is_flag}
use Rattle.index_tables.specs.declared.bases.Bases.{Bases}

-- A base is a section offset, or a constant of at most 64 bits; a flag is no constant. Any other value of a form names none.
abbrev pub base_in : ℕ → ℕ → Value → ℕ
base_in none form (values.Offset n) = if form == DW_FORM_sec_offset then n else none
base_in none form (values.Number kind bits) = if is_flag kind then none else bits
base_in none form _ = none

-- the base that the first attribute of a name says, or the one where none is said
abbrev pub base_said : ℕ → ℕ → List RawAttr → ℕ
base_said name none attrs = option_map_or (λ a. base_in none a.form a.value) (find (λ a. a.name == name) attrs) none

-- The bases of a unit whose root has the attributes. One that isn't said is behind the first header of its section, which in the 32-bit format takes 8 bytes, and 12 before lists (DWARF 5, sections 7.26 to 7.29).
abbrev pub bases_in : List RawAttr → Bases
bases_in attrs = record {
  texts = base_said DW_AT_str_offsets_base 8 attrs;
  addresses = base_said DW_AT_addr_base 8 attrs;
  ranges = base_said DW_AT_rnglists_base 12 attrs;
  locations = base_said DW_AT_loclists_base 12 attrs;
}
