-- A unit as it is read alone, and as it is read behind others: the numbers of its entries rise by the count of those before.
use Rattle.std.specs.Prelude.{ℕ, ◌+◌, ◌++◌, List, length, map}
use Rattle.std.specs.Option.{option_map}
use Rattle.dwarf_types.specs.declared.entry.InUnit.{InUnit}
use Rattle.dwarf_types.specs.declared.entry.RawEntry.{RawEntry}
use Rattle.unit_tree.specs.Entry.{Parsed}

-- an entry behind so many others
abbrev pub raised : ℕ → RawEntry → RawEntry
raised n e = record e { parent = option_map (λ p. n + p) e.parent }

-- what was read alone, behind what was read before
abbrev pub behind : Parsed → Parsed → Parsed
behind before own = record { entries = before.entries ++ map (raised (length before.entries)) own.entries; references = before.references ++ own.references }

abbrev pub unit_behind_others : Parsed → (InUnit × Parsed) × ℕ → (InUnit × Parsed) × ℕ
unit_behind_others before y = ((record y.0.0 { first = length before.entries + y.0.0.first }, behind before y.0.1), y.1)
