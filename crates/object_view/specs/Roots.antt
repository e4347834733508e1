-- A station between the code and the definitions: where the roots of units stand.
use Rattle.std.specs.Prelude.{◌≤◌, List, slice_get, IfSome}
use Rattle.dwarf_types.specs.declared.entry.InUnit.{InUnit}
use Rattle.dwarf_types.specs.declared.entry.RawEntry.{RawEntry}
use Rattle.unit_tree.specs.Header.{header_size}

-- the first entry of a unit stands behind its header
abbrev pub IsBehindHeader : List RawEntry → InUnit → Type 0
IsBehindHeader entries unit = IfSome (slice_get entries unit.first) (λ e. header_size unit.version ≤ e.place)
