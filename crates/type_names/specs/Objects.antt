-- An object as the calls are handed it.
use Rattle.std.specs.Prelude.{◌≡◌, ℕ, ◌<◌, Bool, List, length, slice_get, Option, Some}
use Rattle.dwarf_types.specs.declared.analysis.Analysis.{Analysis}
use Rattle.dwarf_types.specs.declared.entry.Entry.{Entry}
use Rattle.dwarf_types.specs.declared.value.Value.{Value}
use Rattle.dwarf_types.specs.declared.value.Value.TheVariants as values
use Rattle.dwarf_types.specs.Moves.{value_of}
use Rattle.type_names.specs.Heads.{Object}

abbrev pub object_of : Analysis → List Bool → Object
object_of seen live = record { seen = seen; live = live }

-- each entry is of one of the units
abbrev pub AreInUnits : Analysis → Type 0
AreInUnits seen = (k : ℕ) (e : Entry) → slice_get seen.entries k ≡ Some e → e.unit < length seen.units

-- a value that is a reference leads to one of so many entries
abbrev pub LeadsAmong : ℕ → Option Value → Type 0
LeadsAmong count (Some (values.Ref k)) = k < count
LeadsAmong count value = Unit {0}

-- the first attribute of each name does, where it is a reference
abbrev pub RefersAmong : ℕ → Entry → Type 0
RefersAmong count e = (name : ℕ) → LeadsAmong count (value_of name e)

-- each entry refers to entries alone
abbrev pub ReferToEntries : List Entry → Type 0
ReferToEntries entries = (k : ℕ) (e : Entry) → slice_get entries k ≡ Some e → RefersAmong (length entries) e
