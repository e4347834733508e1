-- Whether an entry is a root, told by the entry itself and by whether a subprogram stands above it.
use Rattle.std.specs.Prelude.{◌≡◌, ℕ, ◌<◌, ◌==◌, ◌||◌, ◌&&◌, not, Bool, false, true, List, length, slice_get, slice_index_or, Option, Some, None, is_some, ◌↔◌}
use Rattle.std.specs.Option.{option_map_or}
use Rattle.ds_base.specs.DwarfNumbers.{DW_AT_const_value, DW_TAG_label, DW_TAG_subprogram, DW_TAG_variable}
use Rattle.dwarf_types.specs.declared.entry.Entry.{Entry}
use Rattle.dwarf_types.specs.Live.{IsInSubprogram, low_pc_moves}
use Rattle.dwarf_types.specs.Moves.{location_moves, value_of}

abbrev pub is_subprogram : Entry → Bool
is_subprogram e = e.tag == DW_TAG_subprogram

-- a subprogram is the parent, or stands above it, as the row of the entries before tells
abbrev pub is_below_subprogram : List Entry → List Bool → Option ℕ → Bool
is_below_subprogram entries row None = false
is_below_subprogram entries row (Some p) = option_map_or is_subprogram (slice_get entries p) false || slice_index_or row p false

-- the row marks those of the first i entries above which a subprogram stands, and no others
pub record TellsInside (entries : List Entry) (row : List Bool) (i : ℕ) : Type 0 where
  pub len : length row ≡ length entries
  pub marks : (k : ℕ) → (slice_index_or row k false ≡ true) ↔ ((k < i) × IsInSubprogram entries k)

-- linked code, or linked data
abbrev pub is_linked : Entry → Bool
is_linked e = ((is_subprogram e || e.tag == DW_TAG_label) && low_pc_moves e) || (e.tag == DW_TAG_variable && location_moves e)

abbrev pub is_constant : Entry → Bool
is_constant e = e.tag == DW_TAG_variable && is_some (value_of DW_AT_const_value e)

-- the entry is a root, where a subprogram stands above it or not
abbrev pub is_root : Entry → Bool → Bool
is_root e inside = is_linked e || (is_constant e && not inside)
