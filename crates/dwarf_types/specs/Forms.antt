-- Forms: those of flags, and the form in which the value of an output attribute is written (DWARF 4, section 7.5.4; DWARF 5, section 7.5.6, for a constant of 16 bytes).
use Rattle.std.specs.Prelude.{ℕ, ◌==◌, ◌||◌, Bool, if◌then◌else◌}
use Rattle.ds_base.specs.DwarfNumbers.{DW_FORM_addr, DW_FORM_data16, DW_FORM_exprloc, DW_FORM_flag, DW_FORM_flag_present, DW_FORM_ref4, DW_FORM_ref_addr, DW_FORM_sec_offset, DW_FORM_strp}
use Rattle.dwarf_types.specs.declared.graph.OutValue.{OutValue}
use Rattle.dwarf_types.specs.declared.graph.OutValue.TheVariants as values
use Rattle.dwarf_types.specs.declared.graph.Target.{Target}

-- a flag is no constant
abbrev pub is_flag : ℕ → Bool
is_flag form = form == DW_FORM_flag || form == DW_FORM_flag_present

-- a reference to an entry of its own unit, or of any unit
abbrev pub ref_form : ℕ → Target → ℕ
ref_form u target = if target.unit == u then DW_FORM_ref4 else DW_FORM_ref_addr

-- the form of a value that stands in the unit of a number
abbrev pub form_of : ℕ → OutValue → ℕ
form_of u (values.Address address) = DW_FORM_addr
form_of u (values.Text text) = DW_FORM_strp
form_of u (values.Number form bits) = form
form_of u (values.Wide bytes) = DW_FORM_data16
form_of u (values.Block form bytes) = form
form_of u (values.Expr parts) = DW_FORM_exprloc
form_of u (values.Ref target) = ref_form u target
form_of u (values.Ranges spans) = DW_FORM_sec_offset
form_of u (values.Locations items) = DW_FORM_sec_offset
form_of u values.Lines = DW_FORM_sec_offset
