-- What the code keeps while it reads, so that numbers fit 32 bits. No meaning is said here.
use Rattle.std.specs.Prelude.{◌≡◌, ◌<◌, ◌≤◌, ℕ, true, List, [], length, Option, IfSome, Result, Ok, Err}
use Rattle.std.specs.List.{All}
use Rattle.ds_base.specs.declared.fault.Fault.{Fault}
use Rattle.ds_base.specs.declared.fault.Kind.TheVariants.{LimitEntries}
use Rattle.ds_base.specs.Spot.{Spot, fault_at}
use Rattle.unit_tree.specs.declared.parsed.Parsed.{Parsed as Kept}
use Rattle.dwarf_types.specs.declared.entry.TheConstants.{MOST_ENTRIES}
use Rattle.unit_tree.specs.declared.reference.Reference.{Reference}
use Rattle.unit_tree.specs.Entry.{Parsed, is_full}

-- what is kept, as what was read
abbrev pub parsed_seen : Kept → Parsed
parsed_seen kept = record { entries = kept.built.entries; references = kept.references }

-- no attribute waits for its entry, and there are no more entries than an object may have
abbrev pub IsReady : Kept → Type 0
IsReady kept = (kept.built.attrs ≡ []) × (length kept.built.entries ≤ MOST_ENTRIES)

-- the entries whose lists are open have numbers that an object may have
abbrev pub AreNumbers : List ℕ → Type 0
AreNumbers lists = All (λ number. number < MOST_ENTRIES) lists

-- what can lead into one unit alone leads into this one
abbrev pub IsOf : ℕ → Option Reference → Type 0
IsOf unit reference = IfSome reference (λ r. IfSome r.unit (λ own. own ≡ unit))

-- the number of the next entry, which begins at first, or that no more may follow
abbrev pub NumbersNext : Result ℕ Fault → Parsed → Spot → Type 0
NumbersNext (Ok number) parsed first = (number ≡ length parsed.entries) × (number < MOST_ENTRIES)
NumbersNext (Err fault) parsed first = (fault ≡ fault_at first LimitEntries) × (is_full parsed ≡ true)
