-- References between entries (DWARF 4, section 7.5.4, class reference): each leads to the first byte of an entry.
use Rattle.std.specs.Prelude.{◌<◌, ◌==◌, ◌&&◌, ℕ, Bool, true, not, List, Option, Some, None, Result, Ok, Err}
use Rattle.std.specs.List.{AllPairs, find, list_any}
use Rattle.std.specs.Option.{option_map_or}
use Rattle.ds_base.specs.declared.fault.Fault.{Fault}
use Rattle.ds_base.specs.declared.fault.Kind.TheVariants.{BadReference}
use Rattle.ds_base.specs.declared.fault.Part.TheVariants.{Info}
use Rattle.dwarf_types.specs.declared.entry.RawEntry.{RawEntry}
use Rattle.unit_tree.specs.declared.reference.Reference.{Reference}

-- a reference may lead into the unit
abbrev pub reaches : Option ℕ → ℕ → Bool
reaches None unit = true
reaches (Some own) unit = own == unit

abbrev pub leads_to : Reference → RawEntry → Bool
leads_to r e = e.place == r.target && reaches r.unit e.unit

abbrev pub leads : List RawEntry → Reference → Bool
leads entries r = list_any (leads_to r) entries

-- the entries, where each reference leads to one of them; else the first that doesn't is the fault
unfoldable pub resolved : List RawEntry → List Reference → Result (List RawEntry) Fault
resolved entries references = option_map_or (λ r. Err (record { kind = BadReference; section = Info; place = r.place })) (find (λ r. not (leads entries r)) references) (Ok entries)

-- each entry begins behind those before it
abbrev pub IsRising : List RawEntry → Type 0
IsRising entries = AllPairs (λ e f. e.place < f.place) entries
